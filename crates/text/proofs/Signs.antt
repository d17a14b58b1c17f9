-- The number of a text that begins with a minus is the negative of a magnitude that is not zero.
use Rattle.std.proofs.Common.{◌≡◌, ℕ, zero, suc, true, List, ◌∷◌, drop, Option, ℤ, pos, negsuc, ◌-ℤ◌, refl, ap, MatchOption, arith, w16, to_z, of_z}
use Rattle.std.specs.Bool.{then_some}
use Rattle.std.specs.Int.Signed.{lt_z}
use Rattle.std.proofs.lemmas.Bool.{le-leb}
use Rattle.std.proofs.lemmas.Int.{ints}
use Rattle.text.specs.Words.{digit}
use Rattle.text.specs.Decimal.{Magnitude, Number}
use Rattle.text.proofs.Magnitudes.{some, all_digits, same_magnitude}

negative : (m : List ℕ) (n : ℕ) → Magnitude m (suc n) → Number (45 ∷ m) (negsuc n)
negative m n h = record {
  low = let w = h.high in grind (arith, ints);
  high = grind (arith, ints);
  digits = ap (λ (x : List ℕ). 45 ∷ x) h.digits;
}

pub is_negative : (m : List ℕ) (z : ℤ) → Number (45 ∷ m) z → (n : ℕ) × (z ≡ negsuc n) × Magnitude m (suc n)
is_negative m (pos n) w =
    let h : Magnitude (45 ∷ m) n = record { high = let u = w.high in grind (arith, ints); digits = w.digits } in
    let d : digit 45 ≡ true = all_digits (45 ∷ m) n h 0 (some (45 ∷ m) n h) in
    absurd (let z : ◌≡◌ {A = ℕ} 0 1 = cc in omega arith)
is_negative m (negsuc n) w = (n, refl, record { high = let u = w.low in grind (arith, ints); digits = ap (λ (x : List ℕ). drop 1 x) w.digits })

-- a magnitude below a minus, as the code computes it
pub below_minus : (m : List ℕ) (n : ℕ) → Magnitude m n → (o : Option ℤ) → o ≡ then_some (lt_z (pos 0) (to_z w16 (of_z w16 (pos n)))) (to_z w16 (of_z w16 (pos 0 -ℤ to_z w16 (of_z w16 (pos n))))) → MatchOption o ((z : ℤ) → Number (45 ∷ m) z → ⊥) (λ z. Number (45 ∷ m) z)
below_minus m zero h o e = rw e (λ z w. let k = is_negative m z w in omega (arith, same_magnitude m 0 (suc k.0) h k.2))
below_minus m (suc n) h o e =
    let u = h.high in
    let s : to_z w16 (of_z w16 (pos (suc n))) ≡ pos (suc n) = omega (arith, ints) in
    let t : to_z w16 (of_z w16 (pos 0 -ℤ pos (suc n))) ≡ negsuc n = omega (arith, ints) in
    let l : lt_z (pos 0) (pos (suc n)) ≡ true = le-leb 1 (suc n) (omega arith) in
    rw (e, s, t, l) (negative m n h)
