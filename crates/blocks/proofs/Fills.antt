-- Filled rows, place by place.
use Rattle.std.specs.Prelude.{◌≡◌, ℕ, ◌/◌, ◌%◌, ◌^◌, ◌<◌, ◌≤◌, cond, ◌⊎◌, List, length, ℤ, pos, nat_lt, slice_index_or}
use Rattle.std.proofs.Common.{◌∙◌, arith}
use Rattle.std.proofs.lemmas.List.FromFn.{length-map-range_with_len, get_or-map-range_with_len}
use Rattle.std.proofs.lemmas.Bool.{cases_eq, lt-ltb, le-ltb, eq-eqb, ne_eqb}
use Rattle.blocks.specs.Blocks.{Has}
use Rattle.blocks.specs.Filled.{shown_at, filled}

-- a pin is in the set or not
pub cases_has : (set k : ℕ) → Has set k ⊎ (Has set k → ⊥)
cases_has set k = cases_eq ((set / 2 ^ k) % 2) 1

module _ (set : ℕ) (row ends : List ℤ) where
  at_place : ℕ → ℕ → ℤ
  at_place count k = cond (nat_lt k count) (shown_at set k (slice_index_or row k (pos 0)) (slice_index_or ends k (pos 0))) (slice_index_or row k (pos 0))

  pub filled_eight : (count : ℕ) → length (filled count set row ends) ≡ 8
  unfolding filled at_place
  filled_eight count = length-map-range_with_len (at_place count) 0 8

  at : (count k : ℕ) → k < 8 → slice_index_or (filled count set row ends) k (pos 0) ≡ cond (nat_lt k count) (shown_at set k (slice_index_or row k (pos 0)) (slice_index_or ends k (pos 0))) (slice_index_or row k (pos 0))
  unfolding filled at_place
  at count k h = get_or-map-range_with_len (at_place count) 0 8 k k (pos 0) h (omega arith)

  -- a free pin has its value in `ends`
  pub filled_free : (count k : ℕ) → k < 8 → k < count → (Has set k → ⊥) → slice_index_or (filled count set row ends) k (pos 0) ≡ slice_index_or ends k (pos 0)
  filled_free count k h b free =
      let x = lt-ltb k count b in
      let y = ne_eqb ((set / 2 ^ k) % 2) 1 free in
      at count k h ∙ rw (x, y)

  -- a pin of the set is as in the row
  pub filled_kept : (count k : ℕ) → k < 8 → Has set k → slice_index_or (filled count set row ends) k (pos 0) ≡ slice_index_or row k (pos 0)
  filled_kept count k h has =
      let y = eq-eqb ((set / 2 ^ k) % 2) 1 has in
      at count k h ∙ grind (arith, y)

  -- so is a place beyond the count
  pub filled_past : (count k : ℕ) → k < 8 → count ≤ k → slice_index_or (filled count set row ends) k (pos 0) ≡ slice_index_or row k (pos 0)
  filled_past count k h b =
      let x = le-ltb k count b in
      at count k h ∙ rw x
