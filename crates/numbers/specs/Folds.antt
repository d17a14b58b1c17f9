-- The places of two rows, joined one after the other.
use Rattle.std.specs.Prelude.{◌≡◌, ℕ, zero, suc, ◌+◌, ◌<◌, List, map, ℤ, pos, fold, slice_index_or}
use Rattle.std.specs.List.{range_with_len}
use Rattle.std.proofs.Common.{subst, arith}
use Rattle.blocks.specs.Blocks.{places}

module _ (join : ℤ → ℤ → ℤ) (P : ℕ → ℤ → ℤ → Type 0) (x y : ℕ → ℤ) where
  joined : (a n m : ℕ) → a + n ≡ m → (s t : ℤ) → ((k : ℕ) (u v : ℤ) → k < m → P k u v → P (k + 1) (join u (x k)) (join v (y k))) → P a s t
      → P m (fold join s (map x (range_with_len a n))) (fold join t (map y (range_with_len a n)))
  joined a zero m e s t step p = let h : a ≡ m = omega arith in subst (λ k. P k s t) h p
  joined a (suc n) m e s t step p = joined (a + 1) n m (omega arith) (join s (x a)) (join t (y a)) step (step a s t (omega arith) p)

-- what each place keeps of the two results so far, all places keep
pub folds_keep : (join : ℤ → ℤ → ℤ) (P : ℕ → ℤ → ℤ → Type 0) (x y : List ℤ) (n : ℕ) (s t : ℤ)
    → ((k : ℕ) (u v : ℤ) → k < n → P k u v → P (k + 1) (join u (slice_index_or x k (pos 0))) (join v (slice_index_or y k (pos 0)))) → P 0 s t
    → P n (fold join s (places n x)) (fold join t (places n y))
folds_keep join P x y n s t step p = joined join P (λ k. slice_index_or x k (pos 0)) (λ k. slice_index_or y k (pos 0)) 0 n n (omega arith) s t step p
