use Rattle.std.proofs.Common.{rules, tests}
use Rattle.std.proofs.lemmas.Iterator.{first_from_Range}
use Rattle.blocks.specs.Blocks.{Has}
use Rattle.blocks.proofs.values.free_pin.Goals as goal

pub returns : goal.returns
returns c =
    let f = first_from_Range _ _ _ c.find.result (λ k. Has c.args.pins k → ⊥) (λ k. Has c.args.pins k) c.find.ensures.ran (λ x q k. search (rules, tests)) (λ x q k. search (rules, tests)) in
    search rules
