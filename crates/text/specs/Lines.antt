-- Where a byte stands first, and where a line ends.
use Rattle.std.specs.Prelude.{◌≡◌, ℕ, ◌<◌, ◌≤◌, List, length, ◌≢◌, slice_index, slice_index_or}

-- the byte b stands nowhere at `from` or after it
abbrev pub NoneOf : ℕ → List ℕ → ℕ → Type 0
NoneOf b bs from = (k : ℕ) → from ≤ k → k < length bs → slice_index bs k ≢ b

-- the first byte b at `from` or after it stands at `at`
pub record FirstOf (b : ℕ) (bs : List ℕ) (from at : ℕ) : Type 0 where
  pub low : from ≤ at
  pub high : at < length bs
  pub here : slice_index_or bs at 0 ≡ b
  pub none_before : (k : ℕ) → from ≤ k → k < at → slice_index bs k ≢ b

-- no byte 10 stands at `from` or after it
abbrev pub NoneFrom : List ℕ → ℕ → Type 0
NoneFrom = NoneOf 10

-- the first byte 10 at `from` or after it stands at `at`
abbrev pub FirstFrom : List ℕ → ℕ → ℕ → Type 0
FirstFrom = FirstOf 10
