-- Rows that agree on a set of pins and have given values elsewhere.
use Rattle.std.specs.Prelude.{ℕ, ◌<◌, cond, List, map, ℤ, pos, nat_lt, slice_index_or}
use Rattle.std.specs.List.{range_with_len}
use Rattle.blocks.specs.Blocks.{Has, in_set}

-- what the pin at place k shows: its own value if it is in the set, else the other
abbrev pub shown_at : ℕ → ℕ → ℤ → ℤ → ℤ
shown_at set k own other = cond (in_set set k) own other

-- the row with each pin below the count that is not in the set at its value in `ends`
unfoldable pub filled : ℕ → ℕ → List ℤ → List ℤ → List ℤ
filled count set row ends = map (λ k. cond (nat_lt k count) (shown_at set k (slice_index_or row k (pos 0)) (slice_index_or ends k (pos 0))) (slice_index_or row k (pos 0))) (range_with_len 0 8)

-- the pin at place j is below the count, not in the set, and the first such
pub record FirstFree (count set j : ℕ) : Type 0 where
  pub below : j < count
  pub free : Has set j → ⊥
  pub first : (k : ℕ) → k < j → Has set k
