-- Rows of eight places, filled from the first on.
use Rattle.std.proofs.Common.{◌≡◌, ℕ, ◌+◌, ◌<◌, ◌≤◌, ◌≢◌, ◌⊎◌, length, get_or, set, replicate, ℤ, pos, refl, ◌∙◌, inl, inr, arith, length-set, get_or-set_other, get_or-set_same}
use Rattle.std.proofs.lemmas.List.FromFn.{length-map-range_with_len, get_or-map-range_with_len, fill_by_all}
use Rattle.std.proofs.lemmas.List.{get_or_past}
use Rattle.std.proofs.lemmas.Bool.{cases_lt, cases_order, lt-ltb, le-ltb}
use Rattle.run.specs.Making.{within, padded}

pub padded_length : (c : ℕ) (r : ℕ → ℤ) → length (padded c r) ≡ 8
unfolding padded
padded_length c r = length-map-range_with_len (within c r) 0 8

pub padded_at : (c : ℕ) (r : ℕ → ℤ) (k : ℕ) → c ≤ 8 → k < c → get_or (padded c r) k (pos 0) ≡ r k
unfolding padded
padded_at c r k few h = get_or-map-range_with_len (within c r) 0 8 k k (pos 0) (omega arith) (omega arith) ∙ rw (lt-ltb k c h)

pub padded_past : (c : ℕ) (r : ℕ → ℤ) (k : ℕ) → c ≤ k → get_or (padded c r) k (pos 0) ≡ pos 0
unfolding padded
padded_past c r k h =
    elim (cases_lt k 8) [
      | inl b ↦ get_or-map-range_with_len (within c r) 0 8 k k (pos 0) b (omega arith) ∙ rw (le-ltb k c h)
      | inr b ↦ get_or_past (padded c r) k (pos 0) (omega (arith, length-map-range_with_len (within c r) 0 8))
    ]

pub padded_none : (r : ℕ → ℤ) → replicate 8 (pos 0) ≡ padded 0 r
unfolding padded
padded_none r = refl

-- one more place of the row
pub padded_more : (c : ℕ) (r : ℕ → ℤ) → c < 8 → set (padded c r) c (r c) ≡ padded (c + 1) r
unfolding padded
padded_more c r b =
    fill_by_all (within (c + 1) r) (set (padded c r) c (r c)) 8 (pos 0) (length-set (padded c r) c (r c) ∙ length-map-range_with_len (within c r) 0 8)
    (λ k h. at k h (cases_order k c))
  where
    at : (k : ℕ) → k < 8 → (k ≡ c) ⊎ ((k < c) ⊎ (c < k)) → get_or (set (padded c r) c (r c)) k (pos 0) ≡ within (c + 1) r k
    at k h (inl z) =
        let l : c < length (padded c r) = omega (arith, length-map-range_with_len (within c r) 0 8) in
        rw (z, get_or-set_same (padded c r) c (r c) (pos 0) l, lt-ltb c (c + 1) (omega arith))
    at k h (inr (inl o)) =
        let ne : k ≢ c = omega arith in
        get_or-set_other (padded c r) c k (r c) (pos 0) ne ∙ padded_at c r k (omega arith) o ∙ rw (lt-ltb k (c + 1) (omega arith))
    at k h (inr (inr o)) =
        let ne : k ≢ c = omega arith in
        get_or-set_other (padded c r) c k (r c) (pos 0) ne ∙ padded_past c r k (omega arith) ∙ rw (le-ltb k (c + 1) (omega arith))

-- a row is settled by the places below its count
pub padded_same : (c : ℕ) (r q : ℕ → ℤ) → ((p : ℕ) → p < c → r p ≡ q p) → padded c r ≡ padded c q
unfolding padded
padded_same c r q h =
    fill_by_all (within c q) (padded c r) 8 (pos 0) (length-map-range_with_len (within c r) 0 8)
    (λ k b. get_or-map-range_with_len (within c r) 0 8 k k (pos 0) b (omega arith) ∙ same k (cases_lt k c))
  where
    same : (k : ℕ) → (k < c) ⊎ (c ≤ k) → within c r k ≡ within c q k
    same k (inl b) = rw (lt-ltb k c b, h k b)
    same k (inr b) = rw (le-ltb k c b)
