-- Lines with their keys.
use Rattle.std.specs.Prelude.{◌≡◌, ℕ, ◌+◌, ◌≤◌, List, length, take, drop}
use Rattle.text.specs.Lines.{FirstFrom}

-- the key stands at `at`
abbrev pub KeyAt : List ℕ → ℕ → List ℕ → Type 0
KeyAt bs at key = take (length key) (drop at bs) ≡ key

-- the line that begins at `at` is ended, has the key, and its value goes from `start` up to `end`
pub record Keyed (bs : List ℕ) (at : ℕ) (key : List ℕ) (start end : ℕ) : Type 0 where
  pub ended : FirstFrom bs at end
  pub begins : KeyAt bs at key
  pub after : start ≡ at + length key
  pub within : start ≤ end

-- no such line begins at `at`
abbrev pub Unkeyed : List ℕ → ℕ → List ℕ → Type 0
Unkeyed bs at key = (start end : ℕ) → Keyed bs at key start end → ⊥
