use Rattle.std.proofs.Common.{◌≡◌, ◌*◌, ◌≤◌, length, take, pos, ◌+ℤ◌, neg_ℤ, ◌≤ℤ◌}
use Rattle.std.specs.List.{fold}
use Rattle.numbers.proofs.sums.sum_of.Given as goal

abbrev pub invariant-loop-v : goal.invariant-loop-v
invariant-loop-v l = (l.v-index ≤ length l.pins) × (l.sum ≡ fold ◌+ℤ◌ (pos 0) (take l.v-index l.pins)) × (neg_ℤ (pos (32768 * l.v-index)) ≤ℤ l.sum) × (l.sum ≤ℤ pos (32768 * l.v-index))
