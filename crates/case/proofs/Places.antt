-- Where the root's entry stands.
use Rattle.std.proofs.Common.{◌≡◌, ℕ, ◌+◌, ◌-◌, ◌*◌, ◌<◌, ◌≤◌, add-mul, mul-le-mul_left, arith}

-- the root's entry at the first step is one of the table's
pub root_within : (n m l : ℕ) → 1 ≤ m → 1 ≤ l → n * l + (m - 1) < (n + m) * l
root_within n m l some low =
    let e : (n + m) * l ≡ n * l + m * l = add-mul n m l in
    let f : m * 1 ≤ m * l = mul-le-mul_left m low in
    omega arith
