-- The gates: their names, the pin counts that each takes, and when its output is one.
use Rattle.std.specs.Prelude.{ℕ, ◌%◌, Bool, false, not, ◌&&◌, List, [], ◌∷◌, ℤ, pos, negsuc, codes, Option, ◌==◌, nat_le, count_by, position, slice_get, slice_index_or}
use Rattle.std.specs.List.{list_all, list_any}
use Rattle.std.specs.Str.{bytes_eq}
use Rattle.blocks.specs.declared.types.ValueType.TheVariants.{Truth}
use Rattle.blocks.specs.declared.gates.Gate.{Gate}
use Rattle.blocks.specs.declared.gates.Gate.TheVariants.{And, Or, Xor, Not, Pass}
use Rattle.blocks.specs.Blocks.{ShapeOf, of_bool, places}
use Rattle.blocks.specs.Uniform.{shape_at, function_at}

-- the gates, in the order of their kind numbers
abbrev pub gates : List Gate
gates = And ∷ Or ∷ Xor ∷ Not ∷ Pass ∷ []

-- the kinds, by number
abbrev pub gate_of : ℕ → Option Gate
gate_of k = slice_get gates k

-- their names, in the order of their numbers
abbrev pub gate_names : List (List ℕ)
gate_names = codes "and" ∷ codes "or" ∷ codes "xor" ∷ codes "not" ∷ codes "pass" ∷ []

-- the kind of a name
abbrev pub gate_named : List ℕ → Option ℕ
gate_named name = position (bytes_eq name) gate_names

-- the pin counts of a gate
abbrev pub takes : Gate → ℕ → Bool
takes And c = nat_le 2 c && nat_le c 8
takes Or c = nat_le 2 c && nat_le c 8
takes Xor c = nat_le 2 c && nat_le c 8
takes Not c = c == 1
takes Pass c = c == 1

-- a value is one
abbrev pub is_one : ℤ → Bool
is_one (pos n) = n == 1
is_one (negsuc n) = false

-- all of the first n places are one
abbrev pub all_one : ℕ → List ℤ → Bool
all_one n row = list_all is_one (places n row)

-- some of the first n places is one
abbrev pub any_one : ℕ → List ℤ → Bool
any_one n row = list_any is_one (places n row)

-- an odd number of the first n places is one
abbrev pub odd_ones : ℕ → List ℤ → Bool
odd_ones n row = count_by is_one (places n row) % 2 == 1

-- the output of a gate is one
abbrev pub holds : Gate → ℕ → List ℤ → Bool
holds And c row = all_one c row
holds Or c row = any_one c row
holds Xor c row = odd_ones c row
holds Not c row = not (is_one (slice_index_or row 0 (pos 0)))
holds Pass c row = is_one (slice_index_or row 0 (pos 0))

-- the output of a gate
abbrev pub gate_result : Gate → ℕ → List ℤ → ℤ
gate_result g c row = of_bool (holds g c row)

-- the shape of each kind: bool pins and a bool output
abbrev pub gate_shape : ℕ → ℕ → ShapeOf
gate_shape k c = shape_at takes Truth (λ _. Truth) (gate_of k) c

-- the function of each kind
abbrev pub gate_function : ℕ → ℕ → List ℤ → ℤ
gate_function k c row = function_at gate_result (gate_of k) c row
