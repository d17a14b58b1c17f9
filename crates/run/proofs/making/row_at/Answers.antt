use Rattle.std.proofs.Common.{rules}
use Rattle.run.proofs.Rows.{padded_none, padded_more}
use Rattle.run.specs.Making.{pin_shows}
use Rattle.run.proofs.making.row_at.Goals as goal

pub loop-k-init : goal.loop-k-init
loop-k-init c = λ b. padded_none (pin_shows c.args.pins.now 0 c.args.table.now c.args.start)

pub loop-k-preserved : goal.loop-k-preserved
loop-k-preserved c = λ b.
    let m = padded_more c.loop-k.k (pin_shows c.args.pins.now 0 c.args.table.now c.args.start) in
    let r = c.loop-k.invariant b in
    search (rules, m, r, c.turned.ensures)
