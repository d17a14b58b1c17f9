use Rattle.std.proofs.Common.{arith, rules}
use Rattle.casefile.proofs.Rows.{behind_row}
use Rattle.casefile.proofs.read.read_rows.Goals as goal

pub loop-j-preserved : goal.loop-j-preserved
loop-j-preserved c = (behind_row c.loop-j.j c.args.n _ c.args.table.now c.loop-j.table c.read_row.new.row (search rules) (search rules) (omega arith) c.loop-j.invariant.0, search rules)
