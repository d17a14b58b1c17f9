-- The laws of a pair, from those of its two libraries.
use Rattle.std.specs.Prelude.{◌≡◌, ℕ, ◌-◌, ◌<◌, ◌≤◌, Bool, false, cond, List, length, ℤ, Some, None, Option, nat_lt, refl}
use Rattle.std.proofs.Common.{sym, subst, ⊎_elim, arith}
use Rattle.std.proofs.lemmas.Bool.{cases_lt, lt-ltb, le-ltb}
use Rattle.std.proofs.lemmas.Bool.Decides.{nat_tests}
use Rattle.blocks.specs.declared.types.ValueType.{ValueType}
use Rattle.blocks.specs.Blocks.{ShapeOf, unknown_kind, shaped, InType, KindCount}
use Rattle.blocks.specs.Pair.{pair_size, pair_shape, pair_function, pair_named}

module _ (m : ℕ) (first second : ℕ → ℕ → ShapeOf) (f g : ℕ → ℕ → List ℤ → ℤ) where
  -- what holds of a pair's block holds of a block of the first, of one of the second, or of none
  pub by_part : (P : ShapeOf → (List ℤ → ℤ) → Type 0) (k c : ℕ)
      → (k < m → P (first k c) (f k c))
      → (m ≤ k → k < 65536 → P (second (k - m) c) (g (k - m) c))
      → (m ≤ k → 65536 ≤ k → P unknown_kind (g (k - m) c))
      → P (pair_shape m first second k c) (pair_function m f g k c)
  by_part P k c in-first in-second in-none =
      let Q : Bool → Bool → Type 0 = λ a b. P (cond a (first k c) (cond b (second (k - m) c) unknown_kind)) (λ row. cond a (f k c row) (g (k - m) c row)) in
      ⊎_elim
      (λ h. subst (λ a. Q a (nat_lt k 65536)) (sym (lt-ltb k m h)) (in-first h))
      (λ h. subst (λ a. Q a (nat_lt k 65536)) (sym (le-ltb k m h)) (⊎_elim
      (λ l. subst (Q false) (sym (lt-ltb k 65536 l)) (in-second h l))
      (λ l. subst (Q false) (sym (le-ltb k 65536 l)) (in-none h l))
      (cases_lt k 65536)))
      (cases_lt k m)

  pub paired_size : (n : ℕ) → KindCount first m → KindCount second n → KindCount (pair_shape m first second) (pair_size m n)
  paired_size n a b = record {
    most = omega arith;
    past = λ k c h. by_part (λ s _. s ≡ unknown_kind) k c (λ l. absurd (omega (arith, a.most))) (λ l u. b.past (k - m) c (omega arith)) (λ l u. refl);
    within = λ k c. by_part (λ s _. s ≡ unknown_kind → pair_size m n ≤ k) k c
        (λ l e. absurd (omega (arith, a.within k c e)))
        (λ l u e. omega (arith, b.within (k - m) c e))
        (λ l u e. omega arith);
  }

  pub paired_counted : (k c : ℕ) (pins : List ValueType) (out : ValueType)
      → (first k c ≡ shaped pins out → (length pins ≡ c) × (c ≤ 8))
      → (second (k - m) c ≡ shaped pins out → (length pins ≡ c) × (c ≤ 8))
      → pair_shape m first second k c ≡ shaped pins out → (length pins ≡ c) × (c ≤ 8)
  paired_counted k c pins out a b =
      by_part (λ s _. s ≡ shaped pins out → (length pins ≡ c) × (c ≤ 8)) k c (λ _. a) (λ _ _. b) (λ _ _ e. let z : ◌≡◌ {A = ℕ} 0 1 = cc in absurd (omega arith))

  pub paired_lawful : (k c : ℕ) (pins : List ValueType) (out : ValueType) (row : List ℤ)
      → (first k c ≡ shaped pins out → InType out (f k c row))
      → (second (k - m) c ≡ shaped pins out → InType out (g (k - m) c row))
      → pair_shape m first second k c ≡ shaped pins out → InType out (pair_function m f g k c row)
  paired_lawful k c pins out row a b =
      by_part (λ s h. s ≡ shaped pins out → InType out (h row)) k c (λ _. a) (λ _ _. b) (λ _ _ e. let z : ◌≡◌ {A = ℕ} 0 1 = cc in absurd (omega arith))

pub paired_known : (m n : ℕ) (a b : Option ℕ) (k : ℕ) → m ≤ 65536
    → ((k : ℕ) → a ≡ Some k → k < m) → ((k : ℕ) → b ≡ Some k → k < n)
    → pair_named m a b ≡ Some k → k < pair_size m n
paired_known m n (Some j) b k few p q e = let l = p j refl in let s : j ≡ k = cc in omega arith
paired_known m n None (Some j) k few p q e = let l = q j refl in grind (arith, nat_tests)
paired_known m n None None k few p q e = let z : ◌≡◌ {A = ℕ} 0 1 = cc in absurd (omega arith)
