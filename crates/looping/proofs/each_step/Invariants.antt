use Rattle.std.proofs.Common.{ℕ, ◌<◌, false, slice_index_or}
use Rattle.looping.proofs.each_step.Given as goal

abbrev pub invariant-loop-i : goal.invariant-loop-i
invariant-loop-i g l = (j : ℕ) → j < l.i → goal.F-post g l.truth j (slice_index_or l.truths j false)
