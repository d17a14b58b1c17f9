use Rattle.std.proofs.Common.{◌≡◌}
use Rattle.arrayvec.specs.ArrayVec.{array_vec_len}
use Rattle.casefile.proofs.read.read_signals.Given as goal

abbrev pub invariant-loop : goal.invariant-loop
invariant-loop l = (array_vec_len l.drafts ≡ l.counter) × (l.lines.rest.bytes.now ≡ l.fn.lines.rest.bytes.now)
