-- Tables as a library.
use Rattle.std.specs.Prelude.{◌≡◌, ℕ, zero, suc, ◌+◌, ◌-◌, ◌/◌, ◌%◌, ◌^◌, ◌<◌, ◌≤◌, Bool, false, cond, List, ◌++◌, length, replicate, ℤ, pos, Some, None, Ok, Err, Option, Result, ◌==◌, nat_lt, slice_index_or}
use Rattle.blocks.specs.declared.types.ValueType.TheVariants.{Truth}
use Rattle.blocks.specs.Blocks.{ShapeOf, Has, of_bool}
use Rattle.blocks.specs.Gates.{is_one}
use Rattle.blocks.specs.Uniform.{shape_at, function_at}
use Rattle.tables.specs.declared.table.Table.{Table}
use Rattle.tables.specs.declared.table.TablesFault.{TablesFault}
use Rattle.tables.specs.declared.table.TablesFault.TheVariants.{TooMany, PinCount, ExtraOutput}
use Rattle.tables.specs.declared.held.Tables.{Tables}
use Rattle.tables.specs.Rules.{absent, blank, Pinned, Plain, Every, FirstWith}

-- which rule is broken, at the first table that breaks it: the number of tables first, then the pin counts, then the outputs
abbrev pub Refused : List Table → TablesFault → Type 0
Refused tables TooMany = 16 < length tables
Refused tables (PinCount k) = (length tables ≤ 16) × FirstWith tables Pinned k
Refused tables (ExtraOutput k) = (length tables ≤ 16) × Every tables Pinned × FirstWith tables Plain k

-- tables that keep all rules are taken in as they stand
abbrev pub NewAnswer : List Table → Result Tables TablesFault → Type 0
NewAnswer tables r = elim r [
  | Ok t ↦ (length tables ≤ 16) × Every tables Pinned × Every tables Plain × (t.count ≡ length tables) × (t.items ≡ tables ++ replicate (16 - length tables) blank)
  | Err e ↦ Refused tables e
]

-- the kinds, by number: kind k is table k
abbrev pub table_of : Tables → ℕ → Option Table
table_of t k = cond (nat_lt k t.count) (Some (slice_index_or t.items k absent)) None

-- a table takes its own number of pins
abbrev pub takes : Table → ℕ → Bool
takes t c = c == t.pins

-- the number of a row: its pin sum, to which each of the first n places that is one adds 2 ^ k
abbrev pub number_of_row : ℕ → List ℤ → ℕ
number_of_row zero row = 0
number_of_row (suc n) row = number_of_row n row + cond (is_one (slice_index_or row n (pos 0))) (2 ^ n) 0

-- the output of a table
abbrev pub table_result : Table → ℕ → List ℤ → ℤ
table_result t c row = of_bool (slice_index_or t.outputs (number_of_row c row) false)

-- two rows, by their numbers, agree on the set
abbrev pub Alike : ℕ → ℕ → ℕ → ℕ → Type 0
Alike count set number other = (k : ℕ) → k < count → Has set k → (number / 2 ^ k) % 2 ≡ (other / 2 ^ k) % 2

-- the shape of each kind: bool pins and a bool output
abbrev pub table_shape : Tables → ℕ → ℕ → ShapeOf
table_shape t k c = shape_at takes Truth (λ _. Truth) (table_of t k) c

-- the function of each kind
abbrev pub table_function : Tables → ℕ → ℕ → List ℤ → ℤ
table_function t k c row = function_at table_result (table_of t k) c row
