use Rattle.std.proofs.Common.{◌≡◌, ◌∷◌, replicate, pos, negsuc, Decides, sym, ap, ◌∙◌, subst}
use Rattle.std.proofs.lemmas.Bool.{eqb-true}
use Rattle.blocks.specs.declared.types.ValueType.TheVariants.{Num}
use Rattle.blocks.specs.Blocks.{Forces}
use Rattle.blocks.specs.Filled.{filled}
use Rattle.blocks.proofs.Forcing.{full_forces, needs_all}
use Rattle.numbers.specs.Numbers.{takes, number_result}
use Rattle.numbers.specs.Outputs.{takes_few, takes_two}
use Rattle.numbers.proofs.Ends.{rising_force, rising_is, ge_force, eq_free}
use Rattle.numbers.proofs.operation.OperationForcing.forced.Goals as goal

pub returns-in-Sum : goal.returns-in-Sum
returns-in-Sum c =
    let block = c.args.block.now in
    rising_force block.count block.row c.args.pins (takes_few _ _ block.taken) (takes_two _ _ block.taken) block.lawful block.operation (rising_is _ c.in-Sum.is) c.same_at.result c.same_at.ensures

pub returns-in-Ge : goal.returns-in-Ge
returns-in-Ge c =
    let block = c.args.block.now in
    let n = block.count in
    let row = block.row in
    let pins = c.args.pins in
    let r = c.same_at-in-Ge.result in
    subst (λ o. Decides r (Forces (replicate n Num) (number_result o n) row pins)) (sym c.in-Ge.is)
    (ge_force n row pins (takes_few _ _ block.taken) (takes_two _ _ block.taken) block.lawful r
    (subst (λ o. Decides r (number_result o n (filled n pins row (negsuc 29999 ∷ replicate 7 (pos 30000))) ≡ number_result o n (filled n pins row (pos 30000 ∷ replicate 7 (negsuc 29999))))) c.in-Ge.is c.same_at-in-Ge.ensures))

pub returns-in-Eq : goal.returns-in-Eq
returns-in-Eq c =
    let block = c.args.block.now in
    let few = takes_few _ _ block.taken in
    subst (λ o. Decides c.has_all.result (Forces (replicate block.count Num) (number_result o block.count) block.row c.args.pins)) (sym c.in-Eq.is)
    (needs_all block.count c.args.pins c.has_all.result _ c.has_all.ensures
    (λ all. full_forces Num block.count block.row c.args.pins few block.lawful all _)
    (eq_free block.count block.row c.args.pins few (takes_two _ _ block.taken) block.lawful (eqb-true _ 2 (ap (λ o. takes o block.count) (sym c.in-Eq.is) ∙ block.taken))))
