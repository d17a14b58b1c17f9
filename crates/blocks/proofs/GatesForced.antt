-- Which sets of pins force a gate.
use Rattle.std.specs.Prelude.{◌≡◌, ℕ, zero, suc, ◌+◌, ◌%◌, ◌<◌, ◌≤◌, Bool, true, false, cond, not, ◌≢◌, List, map, length, get_or, replicate, ℤ, pos, count_by, Decides, ◌==◌, slice_index_or, refl}
use Rattle.std.proofs.Common.{sym, ap, subst, inl, inr, ⊎_elim, arith}
use Rattle.std.specs.List.{list_all, list_any, range_with_len}
use Rattle.std.proofs.Math.ListN as ln
use Rattle.std.proofs.lemmas.List.{get_or_past, get_or-replicate}
use Rattle.std.proofs.lemmas.List.Sums.{sum_by-set}
use Rattle.std.proofs.lemmas.Bool.{cases_lt, false≢true}
use Rattle.std.proofs.lemmas.Bool.Decides.{nat_tests}
use Rattle.blocks.specs.declared.types.ValueType.TheVariants.{Truth}
use Rattle.blocks.specs.declared.gates.Gate.{Gate}
use Rattle.blocks.specs.declared.gates.Gate.TheVariants.{And, Or, Xor, Not, Pass}
use Rattle.blocks.specs.Blocks.{InType, Lawful, Agree, Forces, of_bool, places}
use Rattle.blocks.specs.Filled.{filled, FirstFree}
use Rattle.blocks.specs.Gates.{is_one, takes, odd_ones, holds, gate_result}
use Rattle.blocks.proofs.Forcing.{changed, squeezed, fill_stands}
use Rattle.blocks.proofs.Rows.{length-places, get_or-places, places-set}
use Rattle.blocks.proofs.Ones.{of_bool_same, truth_value}

-- a gate takes a pin
pub takes_some : (g : Gate) (c : ℕ) → takes g c ≡ true → 0 < c
takes_some g c e = grind (arith, nat_tests)

-- ---- more ones

-- where the one is true, so is the other
abbrev Then : Bool → Bool → Type 0
Then a b = a ≡ true → b ≡ true

module _ (x y : List ℤ) where
  all_grows : (a n : ℕ) → ((k : ℕ) → k < a + n → Then (is_one (slice_index_or x k (pos 0))) (is_one (slice_index_or y k (pos 0))))
      → Then (list_all is_one (map (λ k. slice_index_or x k (pos 0)) (range_with_len a n))) (list_all is_one (map (λ k. slice_index_or y k (pos 0)) (range_with_len a n)))
  all_grows a zero h e = refl
  all_grows a (suc n) h e = let r = all_grows (a + 1) n (λ k l. h k (omega arith)) in let s = h a (omega arith) in grind arith

  any_grows : (a n : ℕ) → ((k : ℕ) → k < a + n → Then (is_one (slice_index_or x k (pos 0))) (is_one (slice_index_or y k (pos 0))))
      → Then (list_any is_one (map (λ k. slice_index_or x k (pos 0)) (range_with_len a n))) (list_any is_one (map (λ k. slice_index_or y k (pos 0)) (range_with_len a n)))
  any_grows a zero h e = e
  any_grows a (suc n) h e = let r = any_grows (a + 1) n (λ k l. h k (omega arith)) in let s = h a (omega arith) in grind arith

-- ---- one place changed

-- the other truth at one place makes the number of ones odd where it was even, and even where it was odd
odd_flips : (n j : ℕ) (row : List ℤ) (v : ℤ) → j < length row → is_one v ≡ not (is_one (slice_index_or row j (pos 0))) → j < n → odd_ones n (ln.set row j v) ≡ not (odd_ones n row)
odd_flips n j row v l f h =
    let was = sum_by-set (λ z. cond (is_one z) 1 0) (places n row) j v (pos 0) (omega (arith, length-places n row)) in
    let old : is_one (get_or (places n row) j (pos 0)) ≡ is_one (slice_index_or row j (pos 0)) = ap is_one (get_or-places n row j h) in
    rw (places-set n j row v l) (parity (count_by is_one (places n row)) (count_by is_one (ln.set (places n row) j v)) (is_one (slice_index_or row j (pos 0)))
    (rw (f, old) at was))
  where
    parity : (m n : ℕ) (b : Bool) → n + cond b 1 0 ≡ m + cond (not b) 1 0 → (n % 2 == 1) ≡ not (m % 2 == 1)
    parity m n true e = grind (arith, nat_tests)
    parity m n false e = grind (arith, nat_tests)

-- ---- forcing

is_one-of_bool : (b : Bool) → is_one (of_bool b) ≡ b
is_one-of_bool true = refl
is_one-of_bool false = refl

-- more ones at the pins
abbrev Above : ℕ → List ℤ → List ℤ → Type 0
Above n x y = (k : ℕ) → k < n → Then (is_one (slice_index_or x k (pos 0))) (is_one (slice_index_or y k (pos 0)))

-- a gate that only gains by more ones, or only loses
data Way (g : Gate) : Type 0 where
  gains : ((n : ℕ) (x y : List ℤ) → 0 < n → Above n x y → Then (holds g n x) (holds g n y)) → Way g
  loses : ((n : ℕ) (x y : List ℤ) → 0 < n → Above n x y → Then (holds g n y) (holds g n x)) → Way g

-- every gate but `xor`
way : (g : Gate) → (g ≢ Xor) → Way g
way And _ = gains (λ n x y _ h. all_grows x y 0 n (λ k l. h k (omega arith)))
way Or _ = gains (λ n x y _ h. any_grows x y 0 n (λ k l. h k (omega arith)))
way Xor ne = absurd (ne refl)
way Not _ = loses (λ n x y l h e. let r = h 0 l in grind arith)
way Pass _ = gains (λ n x y l h. h 0 l)

between : (a b c : Bool) → Then a b → Then b c → a ≡ c → b ≡ a
between a b c p q e = grind arith

between_down : (a b c : Bool) → Then b a → Then c b → a ≡ c → b ≡ a
between_down a b c p q e = grind arith

-- the ends are truths
zero_typed : (k : ℕ) → InType Truth (slice_index_or (replicate 8 (pos 0)) k (pos 0))
zero_typed k = ⊎_elim
    (λ h. subst (InType Truth) (sym (get_or-replicate 8 k (pos 0) (pos 0) h)) (inl refl))
    (λ h. inl (get_or_past (replicate 8 (pos 0)) k (pos 0) h))
    (cases_lt k 8)

one_typed : (k : ℕ) → k < 8 → InType Truth (slice_index_or (replicate 8 (pos 1)) k (pos 0))
one_typed k h = subst (InType Truth) (sym (get_or-replicate 8 k (pos 1) (pos 0) h)) (inr refl)

module _ (count : ℕ) (row : List ℤ) (set : ℕ) (few : count ≤ 8) (some : 0 < count) (good : Lawful (replicate count Truth) row) where
  module _ (other : List ℤ) (g : Lawful (replicate count Truth) other) (agree : Agree set row other) where
    from_zeros : Above count (filled count set row (replicate 8 (pos 0))) other
    from_zeros k h =
        fill_stands Truth count row set few good (replicate 8 (pos 0)) (λ a b. Then (is_one a) (is_one b)) (λ z e. e) other g agree k h
        (λ v t e. let z = get_or-replicate 8 k (pos 0) (pos 0) (omega arith) in let q : is_one (pos 0) ≡ true = subst (λ z. is_one z ≡ true) z e in absurd (false≢true q))

    to_ones : Above count other (filled count set row (replicate 8 (pos 1)))
    to_ones k h =
        fill_stands Truth count row set few good (replicate 8 (pos 1)) (λ a b. Then (is_one b) (is_one a)) (λ z e. e) other g agree k h
        (λ v t e. ap is_one (get_or-replicate 8 k (pos 1) (pos 0) (omega arith)))

  lies : (w : Gate) → Way w → (other : List ℤ) → Lawful (replicate count Truth) other → Agree set row other
      → gate_result w count (filled count set row (replicate 8 (pos 0))) ≡ gate_result w count (filled count set row (replicate 8 (pos 1)))
      → gate_result w count other ≡ gate_result w count (filled count set row (replicate 8 (pos 0)))
  lies w (gains p) other g agree e = ap of_bool (between _ _ _ (p count _ _ some (from_zeros other g agree)) (p count _ _ some (to_ones other g agree)) (of_bool_same _ _ e))
  lies w (loses p) other g agree e = ap of_bool (between_down _ _ _ (p count _ _ some (from_zeros other g agree)) (p count _ _ some (to_ones other g agree)) (of_bool_same _ _ e))

  -- every gate but `xor`: by its outputs with all free pins at zero and at one
  pub ends_force : (w : Gate) → (w ≢ Xor) → (r : Bool)
      → Decides r (gate_result w count (filled count set row (replicate 8 (pos 0))) ≡ gate_result w count (filled count set row (replicate 8 (pos 1))))
      → Decides r (Forces (replicate count Truth) (gate_result w count) row set)
  ends_force w ne =
      squeezed Truth count row set few good (gate_result w count) (replicate 8 (pos 0)) (replicate 8 (pos 1)) (λ k h. zero_typed k) (λ k h. one_typed k (omega arith)) (lies w (way w ne))

  -- `xor` needs all its pins
  pub xor_free : (j : ℕ) → FirstFree count set j → Forces (replicate count Truth) (gate_result Xor count) row set → ⊥
  xor_free j f =
      changed Truth count row set few good j f.below f.free (of_bool (not (is_one (slice_index_or row j (pos 0))))) (truth_value _) (gate_result Xor count)
      (λ e. let s = of_bool_same _ _ e in
      let r = odd_flips count j row (of_bool (not (is_one (slice_index_or row j (pos 0))))) (omega (arith, good.eight, f.below)) (is_one-of_bool _) f.below in
      grind (arith, s, r))
