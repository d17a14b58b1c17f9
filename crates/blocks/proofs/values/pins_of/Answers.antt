use Rattle.std.proofs.Common.{◌≡◌, length, take, ap, ◌∙◌, rules, arith}
use Rattle.blocks.proofs.Rows.{taken_places}
use Rattle.blocks.proofs.values.pins_of.Goals as goal

pub returns : goal.returns
returns c =
    let e : length c.args.row.now ≡ 8 = search rules in
    ap (λ n. take n c.args.row.now) c.from.ensures ∙ taken_places c.args.count c.args.row.now (omega arith)
