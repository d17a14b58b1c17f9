use Rattle.std.proofs.Common.{rules, tests, ◌≡◌, ℕ, false, get_or, sym, ap, ◌∙◌, subst, arith}
use Rattle.std.proofs.lemmas.Bool.Decides.{Decides-like}
use Rattle.std.proofs.lemmas.Iterator.{cases_from_all, YieldsList-from_range}
use Rattle.tables.specs.FewPins.{pinned_few}
use Rattle.tables.specs.Tables.{Alike}
use Rattle.tables.proofs.Numbered.{same_forces, forces_same}
use Rattle.tables.proofs.Ranges.{below_decides}
use Rattle.tables.proofs.operation.PinnedTableForcing.forced.Goals as goal

pub returns : goal.returns
returns c =
    let block = c.args.block.now in
    let n = block.count in
    let table = block.operation.table in
    let outputs = table.outputs in
    let few = pinned_few table block.operation.pinned n block.taken in
    let number = c.row_number-number.result in
    let is = c.row_number-number.ensures.0 in
    let rows = c.rows.result in
    let Same : ℕ → Type 0 = λ j. Alike n c.args.pins number j → get_or outputs j false ≡ get_or outputs number false in
    Decides-like c.all.result
    (λ all. same_forces table n block.row c.args.pins few block.lawful
    (λ j h like. all j (omega (arith, c.rows.ensures)) (subst (λ m. Alike n c.args.pins m j) (sym is) like) ∙ ap (λ m. get_or outputs m false) is))
    (λ forces j h like. forces_same table n block.row c.args.pins few block.lawful forces j (omega (arith, c.rows.ensures)) (subst (λ m. Alike n c.args.pins m j) is like) ∙ ap (λ m. get_or outputs m false) (sym is))
    (below_decides Same rows c.all.result
    (cases_from_all _ _ _ Same (λ j. Same j → ⊥) c.all.ensures.ran (YieldsList-from_range 0 rows rows (search rules) (omega arith)) (λ x q k. search (rules, tests)) (λ x q k. search (rules, tests))))
