-- Rows and their numbers.
use Rattle.std.proofs.Common.{◌≡◌, ℕ, zero, suc, ◌+◌, ◌-◌, ◌*◌, ◌/◌, ◌%◌, ◌^◌, ◌<◌, ◌≤◌, Bool, true, false, cond, ltb, List, map, length, get_or, replicate, ℤ, pos, sym, ap, ◌∙◌, subst, inl, inr, ⊎_elim, mod-eq_of_lt, arith}
use native.Mathlib.Nat.{add-mul-div_left, two-pow-succ}
use Rattle.std.specs.List.{range_with_len}
use Rattle.std.proofs.lemmas.Nat.{pow_pos, pow-add, shr_high, mod-pow-add}
use Rattle.std.proofs.lemmas.List.FromFn.{length-map-range_with_len, get_or-map-range_with_len}
use Rattle.std.proofs.lemmas.List.{get_or_past}
use Rattle.std.proofs.lemmas.Bool.{cases_lt, cases_eq, lt-ltb, le-ltb}
use Rattle.blocks.specs.declared.types.ValueType.TheVariants.{Truth}
use Rattle.blocks.specs.Blocks.{InType, Lawful, Forces, of_bool}
use Rattle.blocks.specs.Gates.{is_one}
use Rattle.blocks.proofs.Forcing.{value_at_pin, zero_past_pins, row_from}
use Rattle.blocks.proofs.Ones.{of_bool_same}
use Rattle.tables.specs.declared.table.Table.{Table}
use Rattle.tables.specs.Tables.{number_of_row, table_result, Alike}

-- ---- the bits of a number

step_below : (b : Bool) (m p : ℕ) → m < p → m + cond b p 0 < p + p
step_below true m p h = omega arith
step_below false m p h = omega arith

number_below : (n : ℕ) (row : List ℤ) → number_of_row n row < 2 ^ n
number_below zero row = omega arith
number_below (suc n) row =
    subst (λ p. number_of_row (suc n) row < p) (sym (two-pow-succ n)) (step_below (is_one (get_or row n (pos 0))) (number_of_row n row) (2 ^ n) (number_below n row))

-- a higher place changes no bit below it
bit_kept : (b : Bool) (m n k : ℕ) → k < n → (m + cond b (2 ^ n) 0) / 2 ^ k % 2 ≡ m / 2 ^ k % 2
bit_kept false m n k h = let z : m + 0 ≡ m = omega arith in ap (λ x. x / 2 ^ k % 2) z
bit_kept true m n k h =
    let d : ℕ = n - (k + 1) in
    let e : n ≡ k + suc d = omega arith in
    let p : 2 ^ n ≡ 2 ^ k * (2 ^ d + 2 ^ d) = ap (λ x. 2 ^ x) e ∙ pow-add 2 k (suc d) ∙ ap (λ x. 2 ^ k * x) (two-pow-succ d) in
    let q : (m + 2 ^ k * (2 ^ d + 2 ^ d)) / 2 ^ k ≡ m / 2 ^ k + (2 ^ d + 2 ^ d) = add-mul-div_left m (2 ^ d + 2 ^ d) (pow_pos k) in
    ap (λ x. (m + x) / 2 ^ k % 2) p ∙ ap (λ x. x % 2) q ∙ omega arith

-- and is the next bit itself
bit_new : (b : Bool) (m n : ℕ) → m < 2 ^ n → (m + cond b (2 ^ n) 0) / 2 ^ n % 2 ≡ cond b 1 0
bit_new true m n h = let e : m + 2 ^ n ≡ 1 * 2 ^ n + m = omega arith in ap (λ x. x / 2 ^ n % 2) e ∙ ap (λ x. x % 2) (shr_high 1 n m h)
bit_new false m n h = let e : m + 0 ≡ 0 * 2 ^ n + m = omega arith in ap (λ x. x / 2 ^ n % 2) e ∙ ap (λ x. x % 2) (shr_high 0 n m h)

-- the bit at a place says whether it is one
bit_of : (n : ℕ) (row : List ℤ) (k : ℕ) → k < n → number_of_row n row / 2 ^ k % 2 ≡ cond (is_one (get_or row k (pos 0))) 1 0
bit_of zero row k h = absurd (omega arith)
bit_of (suc n) row k h = ⊎_elim
    (λ e. subst (λ k. number_of_row (suc n) row / 2 ^ k % 2 ≡ cond (is_one (get_or row k (pos 0))) 1 0) (sym e) (bit_new (is_one (get_or row n (pos 0))) (number_of_row n row) n (number_below n row)))
    (λ ne. let l : k < n = omega arith in bit_kept (is_one (get_or row n (pos 0))) (number_of_row n row) n k l ∙ bit_of n row k l)
    (cases_eq k n)

-- a number is that of the row of its bits
weight : (b : Bool) (m : ℕ) → cond b m 0 ≡ cond b 1 0 * m
weight true m = omega arith
weight false m = omega arith

number_of : (n : ℕ) (row : List ℤ) (i : ℕ) → ((k : ℕ) → k < n → cond (is_one (get_or row k (pos 0))) 1 0 ≡ i / 2 ^ k % 2) → number_of_row n row ≡ i % 2 ^ n
number_of zero row i bits = omega arith
number_of (suc n) row i bits =
    let r = number_of n row i (λ k h. bits k (omega arith)) in
    let w = weight (is_one (get_or row n (pos 0))) (2 ^ n) ∙ ap (λ x. x * 2 ^ n) (bits n (omega arith)) in
    let e : suc n ≡ 1 + n = omega arith in
    let m = ap (λ x. i % 2 ^ x) e ∙ mod-pow-add i 1 n in
    omega (arith, r, w, m)

-- ---- the row of a number

truth_at : (c i k : ℕ) → ℤ
truth_at c i k = cond (ltb k c) (pos (i / 2 ^ k % 2)) (pos 0)

row_of_bits : ℕ → ℕ → List ℤ
row_of_bits c i = map (truth_at c i) (range_with_len 0 8)

module _ (c i : ℕ) (few : c ≤ 8) where
  bit_at : (k : ℕ) → k < c → get_or (row_of_bits c i) k (pos 0) ≡ pos (i / 2 ^ k % 2)
  unfolding row_of_bits truth_at
  bit_at k h = let l = lt-ltb k c h in get_or-map-range_with_len (truth_at c i) 0 8 k k (pos 0) (omega arith) (omega arith) ∙ rw l

  past_at : (k : ℕ) → c ≤ k → get_or (row_of_bits c i) k (pos 0) ≡ pos 0
  unfolding row_of_bits truth_at
  past_at k h = ⊎_elim
      (λ b. let l = le-ltb k c h in get_or-map-range_with_len (truth_at c i) 0 8 k k (pos 0) b (omega arith) ∙ rw l)
      (λ b. get_or_past (row_of_bits c i) k (pos 0) (omega (arith, length-map-range_with_len (truth_at c i) 0 8)))
      (cases_lt k 8)

  eight_of : length (row_of_bits c i) ≡ 8
  unfolding row_of_bits
  eight_of = length-map-range_with_len (truth_at c i) 0 8

  truth_of : (b : ℕ) → InType Truth (pos (b % 2))
  truth_of b = ⊎_elim (λ e. inl (ap pos e)) (λ ne. let o : b % 2 ≡ 1 = omega arith in inr (ap pos o)) (cases_eq (b % 2) 0)

  one_of : (b : ℕ) → cond (is_one (pos (b % 2))) 1 0 ≡ b % 2
  one_of b = ⊎_elim
      (λ e. ap (λ x. cond (is_one (pos x)) 1 0) e ∙ sym e)
      (λ ne. let o : b % 2 ≡ 1 = omega arith in ap (λ x. cond (is_one (pos x)) 1 0) o ∙ sym o)
      (cases_eq (b % 2) 0)

  row_lawful : Lawful (replicate c Truth) (row_of_bits c i)
  row_lawful = row_from Truth c (row_of_bits c i) eight_of (λ k h. subst (InType Truth) (sym (bit_at k h)) (truth_of (i / 2 ^ k))) past_at

  row_number : i < 2 ^ c → number_of_row c (row_of_bits c i) ≡ i
  row_number h = number_of c (row_of_bits c i) i (λ k l. ap (λ z. cond (is_one z) 1 0) (bit_at k l) ∙ one_of (i / 2 ^ k)) ∙ mod-eq_of_lt h

-- ---- forcing

value_of : (z : ℤ) → InType Truth z → z ≡ pos (cond (is_one z) 1 0)
value_of z t = ⊎_elim (λ e. e ∙ sym (ap (λ z. pos (cond (is_one z) 1 0)) e)) (λ e. e ∙ sym (ap (λ z. pos (cond (is_one z) 1 0)) e)) t

module _ (t : Table) (c : ℕ) (row : List ℤ) (set : ℕ) (few : c ≤ 8) (good : Lawful (replicate c Truth) row) where
  -- rows with one output: the set forces
  pub same_forces : ((j : ℕ) → j < 2 ^ c → Alike c set (number_of_row c row) j → get_or t.outputs j false ≡ get_or t.outputs (number_of_row c row) false)
      → Forces (replicate c Truth) (table_result t c) row set
  same_forces same other g agree =
      ap of_bool (same (number_of_row c other) (number_below c other) (λ k h has.
      bit_of c row k h ∙ ap (λ z. cond (is_one z) 1 0) (sym (agree k (omega arith) has)) ∙ sym (bit_of c other k h)))

  -- the set forces: rows with one output
  pub forces_same : Forces (replicate c Truth) (table_result t c) row set → (j : ℕ) → j < 2 ^ c → Alike c set (number_of_row c row) j
      → get_or t.outputs j false ≡ get_or t.outputs (number_of_row c row) false
  forces_same forces j h like =
      let e = of_bool_same _ _ (forces (row_of_bits c j) (row_lawful c j few) (λ k l has. ⊎_elim
      (λ b. bit_at c j few k b ∙ ap pos (sym (like k b has) ∙ bit_of c row k b) ∙ sym (value_of (get_or row k (pos 0)) (value_at_pin Truth c row good k b)))
      (λ b. past_at c j few k b ∙ sym (zero_past_pins Truth c row good k b))
      (cases_lt k c))) in
      subst (λ n. get_or t.outputs n false ≡ get_or t.outputs (number_of_row c row) false) (row_number c j few h) e
