-- The numbers of a case file: decimal, with a minus where they are negative, and within the nums.
use Rattle.std.specs.Prelude.{◌≡◌, ℕ, ◌≤◌, List, ℤ, pos, negsuc, ◌≤ℤ◌, decimal}
use Rattle.std.specs.Fmt.{signed_decimal}

-- the bytes are the decimal digits of n, with no zero in front, and n is at most 30,000
pub record Magnitude (bs : List ℕ) (n : ℕ) : Type 0 where
  pub high : n ≤ 30000
  pub digits : bs ≡ decimal n

-- the bytes are z as it is written in decimal, and z is a num
pub record Number (bs : List ℕ) (z : ℤ) : Type 0 where
  pub low : negsuc 29999 ≤ℤ z
  pub high : z ≤ℤ pos 30000
  pub digits : bs ≡ signed_decimal z
