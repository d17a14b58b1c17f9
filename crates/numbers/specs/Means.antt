-- The mean: all that depends on how it is rounded.
use Rattle.std.specs.Prelude.{◌≡◌, ℕ, suc, ◌+◌, ◌*◌, ◌/◌, ◌<◌, ◌≤◌, ℤ, pos, negsuc, ◌+ℤ◌, ◌≤ℤ◌, FitsSigned, ◌≢◌, int_div}
use Rattle.std.proofs.Common.{sym, ap, subst, ◌∙◌, arith, to_z, of_z}
use Rattle.std.proofs.Math.Nat.{div-le_of_le-mul}
use Rattle.std.specs.Int.{w16, w32}
use Rattle.std.proofs.lemmas.Nat.{le-div, div-add-mod', mod_below}
use Rattle.std.proofs.lemmas.Int.{ints, to_z-of_z}
use Rattle.blocks.specs.declared.types.ValueType.TheVariants.{Num}
use Rattle.blocks.specs.Blocks.{InType}
use Rattle.numbers.specs.Numbers.{mean_of, Spread}

quotient_num : (z : ℤ) (c : ℕ) → Spread z c → InType Num (int_div z (pos c))
quotient_num (pos n) c s =
    let h : n ≤ c * 30000 = omega (arith, ints, s.high) in
    let d : n / c ≤ 30000 = div-le_of_le-mul c h in
    (omega (arith, ints), omega (arith, ints))
quotient_num (negsuc n) c s =
    let h : suc n ≤ c * 30000 = omega (arith, ints, s.low) in
    let d : suc n / c ≤ 30000 = div-le_of_le-mul c h in
    (omega (arith, ints), omega (arith, ints))

-- the mean of nums is a num
pub mean_num : (z : ℤ) (c : ℕ) → Spread z c → InType Num (mean_of z c)
unfolding mean_of
mean_num z c s = quotient_num z c s

-- the mean as the machine makes it: it fits, and is the mean
module _ (z d : ℤ) (c : ℕ) (s : Spread z c) (f : FitsSigned w32 z) (e : d ≡ pos c) where
  made : to_z w32 (of_z w32 (int_div (to_z w32 (of_z w32 z)) (to_z w32 (of_z w32 d)))) ≡ int_div z (pos c)
  made =
      let n = quotient_num z c s in
      let g : FitsSigned w32 (int_div z (pos c)) = omega (arith, ints) in
      let h : FitsSigned w32 (pos c) = omega (arith, ints, s.few) in
      ap (λ x. to_z w32 (of_z w32 (int_div x (to_z w32 (of_z w32 d))))) (to_z-of_z w32 z f)
      ∙ ap (λ x. to_z w32 (of_z w32 (int_div z x))) (ap (λ d. to_z w32 (of_z w32 d)) e ∙ to_z-of_z w32 (pos c) h)
      ∙ to_z-of_z w32 (int_div z (pos c)) g

  fits : FitsSigned w16 (int_div z (pos c))
  fits = let n = quotient_num z c s in omega (arith, ints)

  pub mean_fits : FitsSigned w16 (to_z w32 (of_z w32 (int_div (to_z w32 (of_z w32 z)) (to_z w32 (of_z w32 d)))))
  mean_fits = subst (FitsSigned w16) (sym made) fits

  pub mean_made : to_z w16 (of_z w16 (to_z w32 (of_z w32 (int_div (to_z w32 (of_z w32 z)) (to_z w32 (of_z w32 d)))))) ≡ mean_of z c
  unfolding mean_of
  mean_made = ap (λ z. to_z w16 (of_z w16 z)) made ∙ to_z-of_z w16 (int_div z (pos c)) fits

quotient_rises : (a b c : ℕ) → 0 < c → a ≤ b → a / c ≤ b / c
quotient_rises a b c s h = le-div (a / c) b c s (omega (arith, div-add-mod' a c))

quotients_rise : (y z : ℤ) (c : ℕ) → 0 < c → y ≤ℤ z → int_div y (pos c) ≤ℤ int_div z (pos c)
quotients_rise (pos a) (pos b) c s h = let q = quotient_rises a b c s (omega (arith, ints)) in omega (arith, ints)
quotients_rise (pos a) (negsuc b) c s h = absurd (omega (arith, ints))
quotients_rise (negsuc a) (pos b) c s h = omega (arith, ints)
quotients_rise (negsuc a) (negsuc b) c s h = let q = quotient_rises (suc b) (suc a) c s (omega (arith, ints)) in omega (arith, ints)

-- a greater sum has no lesser mean
pub mean_rises : (y z : ℤ) (c : ℕ) → 0 < c → y ≤ℤ z → mean_of y c ≤ℤ mean_of z c
unfolding mean_of
mean_rises y z c s h = quotients_rise y z c s h

near : (a b c : ℕ) → 0 < c → c ≤ 8 → a / c ≡ b / c → b < a + 8
near a b c s few e =
    let p = div-add-mod' a c in
    let q = div-add-mod' b c in
    let r = mod_below b c s in
    let m = ap (λ x. x * c) e in
    omega (arith, p, q, r, m)

small : (a c : ℕ) → 0 < c → c ≤ 8 → a / c ≡ 0 → a < 8
small a c s few e =
    let p = div-add-mod' a c in
    let r = mod_below a c s in
    let m = ap (λ x. x * c) e in
    omega (arith, p, r, m)

quotients_apart : (y z : ℤ) (c : ℕ) → 0 < c → c ≤ 8 → (y +ℤ pos 30000) ≤ℤ z → int_div y (pos c) ≢ int_div z (pos c)
quotients_apart (pos a) (pos b) c s few h e = let n = near a b c s few (omega (arith, ints)) in omega (arith, ints)
quotients_apart (pos a) (negsuc b) c s few h e = omega (arith, ints)
quotients_apart (negsuc a) (pos b) c s few h e =
    let n : suc a / c ≡ 0 = omega (arith, ints) in
    let m : b / c ≡ 0 = omega (arith, ints) in
    omega (arith, ints, small (suc a) c s few n, small b c s few m)
quotients_apart (negsuc a) (negsuc b) c s few h e = let n = near (suc b) (suc a) c s few (omega (arith, ints)) in omega (arith, ints)

-- sums far apart have different means
pub means_apart : (y z : ℤ) (c : ℕ) → 0 < c → c ≤ 8 → (y +ℤ pos 30000) ≤ℤ z → mean_of y c ≢ mean_of z c
unfolding mean_of
means_apart y z c s few h e = quotients_apart y z c s few h e
