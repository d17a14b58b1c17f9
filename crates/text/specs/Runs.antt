-- Runs of bytes that pass a test.
use Rattle.std.specs.Prelude.{ℕ, ◌<◌, ◌≤◌, Bool, true, false, List, length, slice_index}

-- the longest run from `from` of bytes that pass goes up to `to`; `says b v` is that the test of b gives v
pub record Passed (says : ℕ → Bool → Type 0) (bs : List ℕ) (from to : ℕ) : Type 0 where
  pub low : from ≤ to
  pub high : to ≤ length bs
  pub each : (k : ℕ) → from ≤ k → k < to → says (slice_index bs k) true
  pub stops : to < length bs → says (slice_index bs to) false
