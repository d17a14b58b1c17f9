-- What holds of the operations on numbers.
use Rattle.std.specs.Prelude.{◌≡◌, ℕ, ◌<◌, ◌≤◌, List, replicate, ℤ, pos, ◌≤ℤ◌, slice_index_or}
use Rattle.blocks.specs.declared.types.ValueType.TheVariants.{Num}
use Rattle.blocks.specs.Blocks.{Lawful, Has, Forces}
use Rattle.numbers.specs.declared.operation.Operation.TheVariants.{Max, Min, Mean}
use Rattle.numbers.specs.Numbers.{number_result}

-- a value of one of the first c places, to which each of them stands so
pub record Extreme (Stands : ℤ → ℤ → Type 0) (c : ℕ) (row : List ℤ) (v : ℤ) : Type 0 where
  pub bounds : (k : ℕ) → k < c → Stands (slice_index_or row k (pos 0)) v
  pub reached : (k : ℕ) × (k < c) × (v ≡ slice_index_or row k (pos 0))

-- `max` is a pin's value, and no pin has a greater one
abbrev pub MaxIsGreatest : Type 0
MaxIsGreatest = (c : ℕ) (row : List ℤ) → 0 < c → Extreme (λ x v. x ≤ℤ v) c row (number_result Max c row)

-- `min` is a pin's value, and no pin has a lesser one
abbrev pub MinIsLeast : Type 0
MinIsLeast = (c : ℕ) (row : List ℤ) → 0 < c → Extreme (λ x v. v ≤ℤ x) c row (number_result Min c row)

-- a set of pins that forces `mean` has every pin
abbrev pub MeanNeedsAll : Type 0
MeanNeedsAll = (c : ℕ) (row : List ℤ) (set : ℕ) → 2 ≤ c → c ≤ 8 → Lawful (replicate c Num) row → Forces (replicate c Num) (number_result Mean c) row set → (k : ℕ) → k < c → Has set k
