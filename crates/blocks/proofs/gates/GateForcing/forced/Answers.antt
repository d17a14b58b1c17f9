use Rattle.std.proofs.Common.{replicate, Decides, sym, subst, arith}
use Rattle.blocks.specs.declared.types.ValueType.TheVariants.{Truth}
use Rattle.blocks.specs.Blocks.{Forces}
use Rattle.blocks.specs.Gates.{gate_result}
use Rattle.blocks.specs.Gated.{takes_few}
use Rattle.blocks.proofs.Forcing.{full_forces, needs_all}
use Rattle.blocks.proofs.GatesForced.{takes_some, ends_force, xor_free}
use Rattle.blocks.proofs.gates.GateForcing.forced.Goals as goal

pub returns-in-Xor : goal.returns-in-Xor
returns-in-Xor c =
    let block = c.args.block.now in
    let few = takes_few _ _ block.taken in
    subst (λ g. Decides c.has_all.result (Forces (replicate block.count Truth) (gate_result g block.count) block.row c.args.pins)) (sym c.in-Xor.is)
    (needs_all block.count c.args.pins c.has_all.result _ c.has_all.ensures
    (λ all. full_forces Truth block.count block.row c.args.pins few block.lawful all _)
    (xor_free block.count block.row c.args.pins few (takes_some _ _ block.taken) block.lawful))

pub returns-in-And : goal.returns-in-And
returns-in-And c =
    let block = c.args.block.now in
    ends_force block.count block.row c.args.pins (takes_few _ _ block.taken) (takes_some _ _ block.taken) block.lawful block.operation (λ e. let is = c.in-And.is in grind (arith, is, e)) c.same_at.result c.same_at.ensures
