use Rattle.std.proofs.Common.{◌≡◌, ◌*◌, drop}
use Rattle.casefile.proofs.read.read_rows.Given as goal

abbrev pub invariant-loop-j : goal.invariant-loop-j
invariant-loop-j l = (drop (l.j * l.n) l.table ≡ drop (l.j * l.n) l.fn.table) × (l.lines.rest.bytes.now ≡ l.fn.lines.rest.bytes.now)
