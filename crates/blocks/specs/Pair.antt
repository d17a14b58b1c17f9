-- Two libraries as one: the first's kinds, then the second's, as far as the numbers reach.
use Rattle.std.specs.Prelude.{ℕ, ◌+◌, ◌-◌, min, cond, List, ℤ, Some, None, Option, nat_lt}
use Rattle.blocks.specs.Blocks.{ShapeOf, unknown_kind}

-- the number of kinds: the sum, stopped at 65,536
abbrev pub pair_size : ℕ → ℕ → ℕ
pair_size m n = min (m + n) 65536

-- kind k is the first's kind k while there is one, and then the second's kind k - m, where m is the first's number of kinds
abbrev pub pair_shape : ℕ → (ℕ → ℕ → ShapeOf) → (ℕ → ℕ → ShapeOf) → ℕ → ℕ → ShapeOf
pair_shape m first second k c = cond (nat_lt k m) (first k c) (cond (nat_lt k 65536) (second (k - m) c) unknown_kind)

-- the function of that kind
abbrev pub pair_function : ℕ → (ℕ → ℕ → List ℤ → ℤ) → (ℕ → ℕ → List ℤ → ℤ) → ℕ → ℕ → List ℤ → ℤ
pair_function m first second k c row = cond (nat_lt k m) (first k c row) (second (k - m) c row)

-- the kind that the first finds, else the one that the second finds, in its new number, where that is below 65,536
abbrev pub pair_named : ℕ → Option ℕ → Option ℕ → Option ℕ
pair_named m (Some k) second = Some k
pair_named m None (Some k) = cond (nat_lt (m + k) 65536) (Some (m + k)) None
pair_named m None None = None
