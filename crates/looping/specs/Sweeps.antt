-- Passes over a run, from its last step down to its first.
use Rattle.std.specs.Prelude.{◌≡◌, ℕ, zero, suc, ◌+◌, ◌-◌, ◌<◌, Bool, List, length, slice_index_or}
use Rattle.looping.specs.Columns.{at}

-- what is carried once the last d of l steps are passed, where `turn` says what step i makes of what is carried to it
abbrev pub down : (ℕ → Bool → Bool) → Bool → ℕ → ℕ → Bool
down turn last l zero = last
down turn last l (suc d) = turn (l - d) (down turn last l d)

-- what a second pass has at step i, where the first began with `first` and the second begins with what the first has at step c
abbrev pub swept : (ℕ → Bool → Bool) → Bool → ℕ → ℕ → ℕ → Bool
swept turn first l c i = down turn (down turn first l (suc l - c)) l (suc l - i)

-- one pass: each truth is what `turn` makes at its place of the truth after it, and the last is what it makes of `last`
pub record Passed (turn : ℕ → Bool → Bool → Type 0) (last : Bool) (truths : List Bool) : Type 0 where
  pub each : (i : ℕ) → i < length truths → turn i (slice_index_or truths (i + 1) last) (slice_index_or truths i last)

-- two passes: the first begins with `begin`, and the second with what the first has at step c
pub record PassedTwice (turn : ℕ → Bool → Bool → Type 0) (begin : Bool) (c : ℕ) (truths : List Bool) : Type 0 where
  pub once : List Bool
  pub long : length once ≡ length truths
  pub first : Passed turn begin once
  pub second : Passed turn (at once c) truths
