-- Which sets of pins force an operation.
use Rattle.std.proofs.Common.{◌≡◌, ℕ, zero, suc, ◌<◌, ◌≤◌, Bool, cond, not, ◌⊎◌, List, ◌∷◌, length, get_or, replicate, ℤ, pos, negsuc, ◌+ℤ◌, ◌≤ℤ◌, Decides, sym, refl, ap, ◌∙◌, subst, inl, inr, ⊎_elim, arith, get_or-set_other, get_or-set_same}
use lib.ListN as ln
use lib.Signed.{le_z, ≤ℤ_refl}
use Rattle.std.proofs.lemmas.List.{get_or-replicate}
use Rattle.std.specs.List.{fold}
use Rattle.std.specs.Int.{int_max, int_min}
use Rattle.std.proofs.lemmas.Int.{ints}
use Rattle.std.proofs.lemmas.Bool.{cases_Bool, cases_eq}
use Rattle.blocks.specs.declared.types.ValueType.TheVariants.{Num}
use Rattle.blocks.specs.Blocks.{InType, Lawful, Has, Agree, Forces, of_bool, places}
use Rattle.blocks.specs.Filled.{filled, FirstFree}
use Rattle.blocks.proofs.Forcing.{value_at_pin, changed, squeezed, fill_stands}
use Rattle.numbers.specs.declared.operation.Operation.{Operation}
use Rattle.numbers.specs.declared.operation.Operation.TheVariants.{Sum, Max, Min, Mean, Ge, Eq}
use Rattle.numbers.specs.Numbers.{total, stopped, Rising, same_z, number_result}
use Rattle.numbers.specs.Folds.{folds_keep}
use Rattle.numbers.specs.Means.{mean_rises}

stopped_rises : (y z : ℤ) → y ≤ℤ z → stopped y ≤ℤ stopped z
stopped_rises y z h = grind (arith, ints)

-- which operations rise
pub rising_is : (o : Operation) → (o ≡ Sum) ⊎ ((o ≡ Max) ⊎ ((o ≡ Min) ⊎ (o ≡ Mean))) → Rising o
rising_is Sum e = tt
rising_is Max e = tt
rising_is Min e = tt
rising_is Mean e = tt
rising_is Ge e = grind arith
rising_is Eq e = grind arith

-- greater numbers give a greater result
folds_rise : (join : ℤ → ℤ → ℤ) → ((a b x y : ℤ) → a ≤ℤ b → x ≤ℤ y → join a x ≤ℤ join b y) → (c : ℕ) (x y : List ℤ) (s t : ℤ) → s ≤ℤ t
    → ((k : ℕ) → k < c → get_or x k (pos 0) ≤ℤ get_or y k (pos 0)) → fold join s (places c x) ≤ℤ fold join t (places c y)
folds_rise join rises c x y s t start each = folds_keep join (λ _ u v. u ≤ℤ v) x y c s t (λ k u v h p. rises u v _ _ p (each k h)) start

totals_rise : (c : ℕ) (x y : List ℤ) → ((k : ℕ) → k < c → get_or x k (pos 0) ≤ℤ get_or y k (pos 0)) → total c x ≤ℤ total c y
totals_rise c x y h = folds_rise ◌+ℤ◌ (λ a b x y p q. omega (arith, ints)) c x y (pos 0) (pos 0) (≤ℤ_refl (pos 0)) h

-- greater pins give no lesser output
rises : (o : Operation) → Rising o → (c : ℕ) → 0 < c → (x y : List ℤ) → ((k : ℕ) → k < c → get_or x k (pos 0) ≤ℤ get_or y k (pos 0)) → number_result o c x ≤ℤ number_result o c y
rises Sum _ c some x y h = stopped_rises _ _ (totals_rise c x y h)
rises Max _ c some x y h = folds_rise int_max (λ a b x y p q. grind (arith, ints)) c x y _ _ (h 0 some) h
rises Min _ c some x y h = folds_rise int_min (λ a b x y p q. grind (arith, ints)) c x y _ _ (h 0 some) h
rises Mean _ c some x y h = mean_rises _ _ c some (totals_rise c x y h)
rises Ge n c some x y h = absurd n
rises Eq n c some x y h = absurd n

meets : (a b c : ℤ) → a ≤ℤ b → b ≤ℤ c → a ≡ c → b ≡ a
meets a b c p q e = omega (arith, ints)

ge_meets : (a0 a1 b0 b1 c0 c1 : ℤ) → a0 ≤ℤ b0 → b0 ≤ℤ c0 → b1 ≤ℤ a1 → c1 ≤ℤ b1 → of_bool (le_z a1 a0) ≡ of_bool (le_z c1 c0) → of_bool (le_z b1 b0) ≡ of_bool (le_z a1 a0)
ge_meets a0 a1 b0 b1 c0 c1 p q r s e = grind (arith, ints)

-- a num that makes two numbers equal, or unequal, where they are not
flipped : (a w : ℤ) → InType Num w → (v : ℤ) × InType Num v × (same_z v w ≡ not (same_z a w)) × (same_z w v ≡ not (same_z w a))
flipped a w t = ⊎_elim
    (λ e. (w, t, grind (arith, ints), grind (arith, ints)))
    (λ e. (cond (le_z w (pos 0)) (pos 1) (pos 0), (grind (arith, ints), grind (arith, ints)), grind (arith, ints), grind (arith, ints)))
    (cases_Bool (not (same_z a w)))

of_bool_flips : (a b : Bool) → a ≡ not b → of_bool a ≡ of_bool b → ⊥
of_bool_flips a b e f = grind arith

low_num : InType Num (negsuc 29999)
low_num = (omega (arith, ints), omega (arith, ints))

high_num : InType Num (pos 30000)
high_num = (omega (arith, ints), omega (arith, ints))

ends_nums : {a b : ℤ} → InType Num a → InType Num b → (k : ℕ) → k < 8 → InType Num (get_or (a ∷ replicate 7 b) k (pos 0))
ends_nums {a} {b} p q zero h = p
ends_nums {a} {b} p q (suc k) h = subst (InType Num) (sym (get_or-replicate 7 k b (pos 0) (omega arith))) q

module _ (c : ℕ) (row : List ℤ) (set : ℕ) (few : c ≤ 8) (two : 2 ≤ c) (good : Lawful (replicate c Num) row) where
  module _ (ends : List ℤ) (other : List ℤ) (g : Lawful (replicate c Num) other) (agree : Agree set row other) (k : ℕ) (h : k < c) where
    low_stands : get_or ends k (pos 0) ≡ negsuc 29999 → get_or (filled c set row ends) k (pos 0) ≤ℤ get_or other k (pos 0)
    low_stands e = fill_stands Num c row set few good ends ◌≤ℤ◌ ≤ℤ_refl other g agree k h (λ v t. subst (λ z. z ≤ℤ v) (sym e) t.0)

    high_stands : get_or ends k (pos 0) ≡ pos 30000 → get_or other k (pos 0) ≤ℤ get_or (filled c set row ends) k (pos 0)
    high_stands e = fill_stands Num c row set few good ends (λ a b. b ≤ℤ a) ≤ℤ_refl other g agree k h (λ v t. subst (λ z. v ≤ℤ z) (sym e) t.1)

  -- an operation that rises with its pins: by its outputs at the two ends
  pub rising_force : (o : Operation) → Rising o
      → (r : Bool) → Decides r (number_result o c (filled c set row (replicate 8 (negsuc 29999))) ≡ number_result o c (filled c set row (replicate 8 (pos 30000)))) → Decides r (Forces (replicate c Num) (number_result o c) row set)
  rising_force o n =
      squeezed Num c row set few good (number_result o c) (replicate 8 (negsuc 29999)) (replicate 8 (pos 30000))
      (λ k h. ends_nums low_num low_num k (omega arith)) (λ k h. ends_nums high_num high_num k (omega arith))
      (λ other g agree e. meets _ _ _
      (rises o n c (omega arith) _ _ (λ k h. low_stands (replicate 8 (negsuc 29999)) other g agree k h (get_or-replicate 8 k (negsuc 29999) (pos 0) (omega arith))))
      (rises o n c (omega arith) _ _ (λ k h. high_stands (replicate 8 (pos 30000)) other g agree k h (get_or-replicate 8 k (pos 30000) (pos 0) (omega arith))))
      e)

  -- `ge` rises with its first pin and falls with its second
  pub ge_force : (r : Bool)
      → Decides r (number_result Ge c (filled c set row (negsuc 29999 ∷ replicate 7 (pos 30000))) ≡ number_result Ge c (filled c set row (pos 30000 ∷ replicate 7 (negsuc 29999))))
      → Decides r (Forces (replicate c Num) (number_result Ge c) row set)
  ge_force =
      let low : List ℤ = negsuc 29999 ∷ replicate 7 (pos 30000) in
      let high : List ℤ = pos 30000 ∷ replicate 7 (negsuc 29999) in
      squeezed Num c row set few good (number_result Ge c) low high
      (λ k h. ends_nums low_num high_num k (omega arith)) (λ k h. ends_nums high_num low_num k (omega arith))
      (λ other g agree e. ge_meets _ _ _ _ _ _
      (low_stands low other g agree 0 (omega arith) refl) (high_stands high other g agree 0 (omega arith) refl)
      (high_stands low other g agree 1 (omega arith) refl) (low_stands high other g agree 1 (omega arith) refl) e)

  -- `eq` needs both its pins
  pub eq_free : c ≡ 2 → (j : ℕ) → FirstFree c set j → Forces (replicate c Num) (number_result Eq c) row set → ⊥
  eq_free is j f = ⊎_elim
      (λ z. let v = flipped (get_or row 0 (pos 0)) (get_or row 1 (pos 0)) (value_at_pin Num c row good 1 (omega arith)) in
      changed Num c row set few good 0 (omega arith) (subst (λ n. Has set n → ⊥) z f.free) v.0 v.1 (number_result Eq c)
      (λ e. of_bool_flips _ _ v.2 (sym (ap of_bool (first v.0)) ∙ e)))
      (λ z. let v = flipped (get_or row 1 (pos 0)) (get_or row 0 (pos 0)) (value_at_pin Num c row good 0 (omega arith)) in
      changed Num c row set few good 1 (omega arith) (subst (λ n. Has set n → ⊥) z f.free) v.0 v.1 (number_result Eq c)
      (λ e. of_bool_flips _ _ v.3 (sym (ap of_bool (second v.0)) ∙ e)))
      either
    where
      either : (j ≡ 0) ⊎ (j ≡ 1)
      either = ⊎_elim inl (λ n. inr (omega (arith, f.below))) (cases_eq j 0)

      first : (v : ℤ) → same_z (get_or (ln.set row 0 v) 0 (pos 0)) (get_or (ln.set row 0 v) 1 (pos 0)) ≡ same_z v (get_or row 1 (pos 0))
      first v =
          let l : 0 < length row = omega (arith, good.eight) in
          let p = get_or-set_same row 0 v (pos 0) l in
          let q = get_or-set_other row 0 1 v (pos 0) (omega arith) in
          rw (p, q)

      second : (v : ℤ) → same_z (get_or (ln.set row 1 v) 0 (pos 0)) (get_or (ln.set row 1 v) 1 (pos 0)) ≡ same_z (get_or row 0 (pos 0)) v
      second v =
          let l : 1 < length row = omega (arith, good.eight) in
          let p = get_or-set_same row 1 v (pos 0) l in
          let q = get_or-set_other row 1 0 v (pos 0) (omega arith) in
          rw (p, q)
