-- What a block is: its pins, the rows it takes, and what a library answers.
use Rattle.std.specs.Prelude.{◌≡◌, ℕ, ◌/◌, ◌%◌, ◌^◌, ◌<◌, ◌≤◌, Bool, true, false, ◌⊎◌, List, map, length, take, ℤ, pos, negsuc, ◌≤ℤ◌, Ok, Err, Decides, Result, ◌==◌, slice_index_or}
use Rattle.std.specs.List.{range_with_len}
use Rattle.blocks.specs.declared.types.ValueType.{ValueType}
use Rattle.blocks.specs.declared.types.ValueType.TheVariants.{Truth, Num}
use Rattle.blocks.specs.declared.types.LibraryFault.{LibraryFault}
use Rattle.blocks.specs.declared.types.LibraryFault.TheVariants.{UnknownKind, NoSuchCount, Unlawful}
use Rattle.blocks.specs.declared.types.Shape.{Shape}

-- what a library says of a kind at a pin count: unknown, without such a count, or with its pin types and its output type
pub data ShapeOf : Type 0 where
  unknown_kind : ShapeOf
  no_such_count : ShapeOf
  shaped : List ValueType → ValueType → ShapeOf

-- the values of a type
abbrev pub InType : ValueType → ℤ → Type 0
InType Truth z = (z ≡ pos 0) ⊎ (z ≡ pos 1)
InType Num z = (negsuc 29999 ≤ℤ z) × (z ≤ℤ pos 30000)

-- a truth as a value
abbrev pub of_bool : Bool → ℤ
of_bool true = pos 1
of_bool false = pos 0

-- a row has eight places: a value of its type at each pin, and zero beyond the pins
pub record Lawful (pins : List ValueType) (row : List ℤ) : Type 0 where
  pub eight : length row ≡ 8
  pub typed : (k : ℕ) → k < length pins → InType (slice_index_or pins k Truth) (slice_index_or row k (pos 0))
  pub padded : (k : ℕ) → length pins ≤ k → slice_index_or row k (pos 0) ≡ pos 0

-- the values at the first n places of a row
abbrev pub places : ℕ → List ℤ → List ℤ
places n row = map (λ k. slice_index_or row k (pos 0)) (range_with_len 0 n)

-- the pin at place k is in the set; a set of pins is its pin sum, where the pin at place k counts 2 ^ k
abbrev pub Has : ℕ → ℕ → Type 0
Has set k = (set / 2 ^ k) % 2 ≡ 1

-- the same as a test
abbrev pub in_set : ℕ → ℕ → Bool
in_set set k = (set / 2 ^ k) % 2 == 1

-- the other row agrees with this one on the set
abbrev pub Agree : ℕ → List ℤ → List ℤ → Type 0
Agree set row other = (k : ℕ) → k < 8 → Has set k → slice_index_or other k (pos 0) ≡ slice_index_or row k (pos 0)

-- every lawful row that agrees with this one on the set has its output
abbrev pub Forces : List ValueType → (List ℤ → ℤ) → List ℤ → ℕ → Type 0
Forces pins f row set = (other : List ℤ) → Lawful pins other → Agree set row other → f other ≡ f row

-- a question about forcing that is not declined: the row is lawful and no pin of the set is beyond the count
abbrev pub Asked : List ValueType → List ℤ → ℕ → Type 0
Asked pins row set = Lawful pins row × (set < 2 ^ length pins)

-- the known kinds are exactly the numbers below n, at whatever pin count, and n is at most 65,536
pub record KindCount (shape : ℕ → ℕ → ShapeOf) (n : ℕ) : Type 0 where
  pub most : n ≤ 65536
  pub past : (k c : ℕ) → n ≤ k → shape k c ≡ unknown_kind
  pub within : (k c : ℕ) → shape k c ≡ unknown_kind → n ≤ k

-- the answer to the question for a shape; the places beyond the pins are bool
abbrev pub ShapeAnswer : ShapeOf → Result Shape LibraryFault → Type 0
ShapeAnswer unknown_kind r = r ≡ Err UnknownKind
ShapeAnswer no_such_count r = r ≡ Err NoSuchCount
ShapeAnswer (shaped pins out) r = elim r [
  | Ok s ↦ (take s.count s.pins ≡ pins) × (s.count ≡ length pins) × (s.output ≡ out) × ((k : ℕ) → length pins ≤ k → slice_index_or s.pins k Truth ≡ Truth)
  | Err e ↦ ⊥
]

-- the answer to the question for the value of a row
abbrev pub ValueAnswer : ShapeOf → (List ℤ → ℤ) → List ℤ → Result ℤ LibraryFault → Type 0
ValueAnswer unknown_kind f row r = r ≡ Err UnknownKind
ValueAnswer no_such_count f row r = r ≡ Err NoSuchCount
ValueAnswer (shaped pins out) f row r = elim r [ Ok v ↦ Lawful pins row × (v ≡ f row) | Err e ↦ (e ≡ Unlawful) × (Lawful pins row → ⊥) ]

-- the answer to the question whether a set of pins forces the output
abbrev pub ForcesAnswer : ShapeOf → (List ℤ → ℤ) → List ℤ → ℕ → Result Bool LibraryFault → Type 0
ForcesAnswer unknown_kind f row set r = r ≡ Err UnknownKind
ForcesAnswer no_such_count f row set r = r ≡ Err NoSuchCount
ForcesAnswer (shaped pins out) f row set r = elim r [
  | Ok b ↦ Asked pins row set × Decides b (Forces pins f row set)
  | Err e ↦ (e ≡ Unlawful) × (Asked pins row set → ⊥)
]
