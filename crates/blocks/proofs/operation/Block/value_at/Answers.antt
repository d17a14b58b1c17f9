use Rattle.std.proofs.Common.{replicate, sym, subst}
use Rattle.blocks.specs.Blocks.{Lawful}
use Rattle.blocks.proofs.Forcing.{fill_lawful}
use Rattle.blocks.proofs.operation.Block.value_at.Goals as goal

pub invariant_of-value-clause-lawful : goal.invariant_of-value-clause-lawful
invariant_of-value-clause-lawful g c =
    let block = c.args.self.now in
    let few = g.met.O.Operation.few block.operation block.count block.taken in
    subst (Lawful (replicate block.count g.O.Operation.PIN)) (sym c.fill.ensures) (fill_lawful g.O.Operation.PIN block.count block.row c.args.pins few block.lawful c.args.ends c.requires)
