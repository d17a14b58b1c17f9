use Rattle.std.proofs.Common.{◌≡◌, ℕ, ◌+◌, ◌<◌, ◌≤◌, length, slice_index_or}
use Rattle.looping.proofs.pass.Given as goal

abbrev pub invariant-loop-i : goal.invariant-loop-i
invariant-loop-i g l =
    (l.carried ≡ slice_index_or l.truths l.i l.last)
    × ((j : ℕ) → l.i ≤ j → j < length l.truths → goal.F-post g l.turn j (slice_index_or l.truths (j + 1) l.last) (slice_index_or l.truths j l.last))
