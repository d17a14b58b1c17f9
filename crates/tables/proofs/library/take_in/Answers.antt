use Rattle.std.proofs.Common.{◌-◌, ◌++◌, length, drop, replicate, refl, ap, ◌∙◌, arith}
use Rattle.std.proofs.lemmas.List.{drop-replicate}
use Rattle.tables.proofs.library.take_in.Goals as goal

pub returns : goal.returns
returns c =
    let tables = c.args.tables.now in
    let n = length tables in
    let table = c.default-items.result in
    let items =
    ap (λ xs. xs ++ drop n (replicate 16 table)) c.copy_from_slice.ensures.after ∙ ap (λ rest. tables ++ rest) (drop-replicate n 16 table)
    ∙ ap (λ t. tables ++ replicate (16 - n) t) c.default-items.ensures in
    (omega arith, c.in_default.ensures, c.in_default-first_unplain.ensures, refl, items)
