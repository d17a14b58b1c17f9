use Rattle.std.proofs.Common.{pos, ◌+ℤ◌, sym, ap, ◌∙◌, subst, w32, SFits, rules}
use Rattle.std.specs.List.{fold}
use Rattle.std.proofs.lemmas.Int.{to_z-of_z}
use Rattle.numbers.specs.Numbers.{Spread}
use Rattle.numbers.specs.Outputs.{spread}
use Rattle.numbers.proofs.operation.OperationOperation.value.Goals as goal

pub mean_of-requires : goal.mean_of-requires
mean_of-requires c =
    let block = c.args.block.now in
    let f : SFits w32 c.sum_of-in-Mean.result = search rules in
    let e = c.sum_of-in-Mean.ensures ∙ ap (fold ◌+ℤ◌ (pos 0)) c.pins_of-pins.ensures in
    simp to_z-of_z (subst (λ z. Spread z block.count) (sym e) (spread block.operation block.count block.row block.taken block.lawful))
