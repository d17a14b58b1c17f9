use Rattle.std.proofs.Common.{rules, ◌≡◌, length}
use Rattle.blocks.proofs.Rows.{parts_decide}
use Rattle.blocks.proofs.values.is_lawful.Goals as goal

pub returns-then-all_typed : goal.returns-then-all_typed
returns-then-all_typed c =
    let p : length c.args.shape.pins ≡ 8 = search rules in
    let q : length c.args.row ≡ 8 = search rules in
    parts_decide c.args.shape.pins c.args.shape.count c.args.row p q c.min-count.result (search rules) _ _ c.split_at.ensures.front c.split_at.ensures.back (c.all_typed.ensures.0 c.if-all_typed.true) _ c.all_zero.ensures
