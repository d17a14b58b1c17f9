-- Columns: one truth a step, step i at place i - 1.
use Rattle.std.specs.Prelude.{◌≡◌, ℕ, ◌-◌, ◌≤◌, Bool, true, false, List, slice_index_or}

-- the truth that the column has at step i
abbrev pub at : List Bool → ℕ → Bool
at xs i = slice_index_or xs (i - 1) false

-- the truths as facts
abbrev pub On : (ℕ → Bool) → ℕ → Type 0
On p i = p i ≡ true

-- the places past the first l are as they were
abbrev pub Kept : ℕ → List Bool → List Bool → Type 0
Kept l old new = (p : ℕ) → l ≤ p → slice_index_or new p false ≡ slice_index_or old p false
