-- What the digits of a number are, and which number digits write.
use Rattle.std.proofs.Common.{◌≡◌, ℕ, ◌+◌, ◌-◌, ◌^◌, ◌<◌, ◌≤◌, true, List, [], ◌∷◌, length, get_or, decimal, sym, ap, ◌∙◌, ⊎_elim, arith}
use Rattle.std.specs.Str.Parse.{AllDigits, digits_value}
use Rattle.std.specs.Int.{IsInRange}
use Rattle.std.specs.Char.{digit_value as digitValue}
use Rattle.std.proofs.lemmas.Str.Parse.{IsNumeralModel, numerals_by_value, tells_digits, digit_at}
use Rattle.std.proofs.lemmas.Fmt.{decimal_digit, decimal_nonempty, length-decimal-le, first_decimal, digits_decimal, digits_value-decimal, decimal-digits_value}
use Rattle.std.proofs.lemmas.Bool.{cases_lt}
use Rattle.std.proofs.lemmas.Bool.Decides.{nat_tests}
use Rattle.text.specs.Words.{digit}
use Rattle.text.specs.Decimal.{Magnitude}

own : IsNumeralModel (AllDigits 10) (digits_value 10)
own = numerals_by_value (AllDigits 10) tells_digits

pub digit_value : (b : ℕ) → digit b ≡ true → (digitValue b ≡ b - 48) × (digitValue b < 10)
digit_value b h = grind (arith, nat_tests)

pub digit_in : (b : ℕ) → IsInRange 48 57 b → digit b ≡ true
digit_in b h = grind (arith, nat_tests)

module _ (bs : List ℕ) (n : ℕ) (m : Magnitude bs n) where
  fits : n < 2 ^ 64
  fits = omega (arith, m.high)

  pub some : 0 < length bs
  some = rw m.digits (decimal_nonempty n fits)

  pub five : length bs ≤ 5
  five = rw m.digits (length-decimal-le 5 n (omega arith) (omega (arith, m.high)) fits)

  pub no_zero_first : get_or bs 0 0 ≡ 48 → length bs ≡ 1
  no_zero_first e =
      ⊎_elim (λ (z : n < 1). let d : decimal n ≡ (48 + n) ∷ [] = decimal_digit n (omega arith) in ap length (m.digits ∙ d))
      (λ p. let f : 48 < get_or bs 0 0 = rw m.digits (first_decimal n p fits) in absurd (omega (arith, e)))
      (cases_lt n 1)

  pub all_digits : (k : ℕ) → k < length bs → digit (get_or bs k 0) ≡ true
  all_digits k h =
      let d : AllDigits 10 bs = rw m.digits (digits_decimal own n fits) in
      digit_in (get_or bs k 0) (digit_at bs k d h)

  pub value_is : digits_value 10 bs ≡ n
  value_is = rw m.digits (digits_value-decimal own n fits)

pub magnitude_from : (bs : List ℕ) → AllDigits 10 bs → 0 < length bs → (get_or bs 0 0 ≡ 48 → length bs ≡ 1) → digits_value 10 bs ≤ 30000 → Magnitude bs (digits_value 10 bs)
magnitude_from bs d some first high = record {
  high = high;
  digits = sym (decimal-digits_value own bs d some first (omega arith));
}

pub same_magnitude : (bs : List ℕ) (m n : ℕ) → Magnitude bs m → Magnitude bs n → m ≡ n
same_magnitude bs m n a b = sym (value_is bs m a) ∙ value_is bs n b
