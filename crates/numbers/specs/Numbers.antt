-- The operations on numbers: their names, the pin counts that each takes, and their outputs.
use Rattle.std.specs.Prelude.{ℕ, ◌*◌, ◌<◌, Bool, ◌&&◌, List, [], ◌∷◌, ℤ, pos, negsuc, ◌+ℤ◌, neg_ℤ, ◌≤ℤ◌, codes, Option, ◌==◌, int_div, int_le, nat_le, fold, position, slice_get, slice_index_or}
use Rattle.std.specs.Str.{bytes_eq}
use Rattle.std.specs.Int.{int_max, int_min}
use Rattle.blocks.specs.declared.types.ValueType.{ValueType}
use Rattle.blocks.specs.declared.types.ValueType.TheVariants.{Truth, Num}
use Rattle.blocks.specs.Blocks.{ShapeOf, of_bool, places}
use Rattle.blocks.specs.Uniform.{shape_at, function_at}
use Rattle.numbers.specs.declared.operation.Operation.{Operation}
use Rattle.numbers.specs.declared.operation.Operation.TheVariants.{Sum, Max, Min, Mean, Ge, Eq}

-- the operations, in the order of their kind numbers
abbrev pub operations : List Operation
operations = Sum ∷ Max ∷ Min ∷ Mean ∷ Ge ∷ Eq ∷ []

-- the kinds, by number
abbrev pub operation_of : ℕ → Option Operation
operation_of k = slice_get operations k

-- their names, in the order of their numbers
abbrev pub number_names : List (List ℕ)
number_names = codes "sum" ∷ codes "max" ∷ codes "min" ∷ codes "mean" ∷ codes "ge" ∷ codes "eq" ∷ []

-- the kind of a name
abbrev pub number_named : List ℕ → Option ℕ
number_named name = position (bytes_eq name) number_names

-- the pin counts of an operation
abbrev pub takes : Operation → ℕ → Bool
takes Sum c = nat_le 2 c && nat_le c 8
takes Max c = nat_le 2 c && nat_le c 8
takes Min c = nat_le 2 c && nat_le c 8
takes Mean c = nat_le 2 c && nat_le c 8
takes Ge c = c == 2
takes Eq c = c == 2

-- the output type of an operation
abbrev pub output_type : Operation → ValueType
output_type Sum = Num
output_type Max = Num
output_type Min = Num
output_type Mean = Num
output_type Ge = Truth
output_type Eq = Truth

-- the operations that rise with each pin
abbrev pub Rising : Operation → Type 0
Rising Sum = Unit {0}
Rising Max = Unit {0}
Rising Min = Unit {0}
Rising Mean = Unit {0}
Rising Ge = ⊥
Rising Eq = ⊥

-- the sum of the first n places
abbrev pub total : ℕ → List ℤ → ℤ
total n row = fold ◌+ℤ◌ (pos 0) (places n row)

-- a sum, stopped at the ends of num
abbrev pub stopped : ℤ → ℤ
stopped z = int_max (negsuc 29999) (int_min z (pos 30000))

-- the greatest of the first place and the first n places
abbrev pub greatest : ℕ → List ℤ → ℤ
greatest n row = fold int_max (slice_index_or row 0 (pos 0)) (places n row)

-- the least of the first place and the first n places
abbrev pub least : ℕ → List ℤ → ℤ
least n row = fold int_min (slice_index_or row 0 (pos 0)) (places n row)

-- the mean of c numbers with this sum, rounded toward zero
unfoldable pub mean_of : ℤ → ℕ → ℤ
mean_of z c = int_div z (pos c)

-- a sum that c nums can have, of at least one and at most eight
pub record Spread (z : ℤ) (c : ℕ) : Type 0 where
  pub some : 0 < c
  pub few : c < 9
  pub low : neg_ℤ (pos (30000 * c)) ≤ℤ z
  pub high : z ≤ℤ pos (30000 * c)

-- two numbers are one
abbrev pub same_z : ℤ → ℤ → Bool
same_z a b = int_le a b && int_le b a

-- the output of an operation
abbrev pub number_result : Operation → ℕ → List ℤ → ℤ
number_result Sum c row = stopped (total c row)
number_result Max c row = greatest c row
number_result Min c row = least c row
number_result Mean c row = mean_of (total c row) c
number_result Ge c row = of_bool (int_le (slice_index_or row 1 (pos 0)) (slice_index_or row 0 (pos 0)))
number_result Eq c row = of_bool (same_z (slice_index_or row 0 (pos 0)) (slice_index_or row 1 (pos 0)))

-- the shape of each kind: num pins
abbrev pub number_shape : ℕ → ℕ → ShapeOf
number_shape k c = shape_at takes Num output_type (operation_of k) c

-- the function of each kind
abbrev pub number_function : ℕ → ℕ → List ℤ → ℤ
number_function k c row = function_at number_result (operation_of k) c row
