use Rattle.std.proofs.Common.{ℕ, ◌*◌, ◌<◌, length}
use Rattle.run.specs.Values.{InItsType}
use Rattle.run.proofs.values.outside_type.Given as goal

abbrev pub invariant-loop-j : goal.invariant-loop-j
invariant-loop-j l = (k : ℕ) → k < l.j * length l.types → k < length l.table → InItsType l.types (length l.types) l.table k
