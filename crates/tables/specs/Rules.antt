-- The rules of a truth table.
use Rattle.std.specs.Prelude.{◌≡◌, ℕ, ◌^◌, ◌<◌, ◌≤◌, Bool, true, false, ◌&&◌, List, [], length, replicate, nat_le, slice_index_or}
use Rattle.tables.specs.declared.table.Table.{Table}

-- what is read where there is no table
abbrev pub absent : Table
absent = record { pins = 0; outputs = [] }

-- a table without pins and ones: what stands beyond the tables of a library
abbrev pub blank : Table
blank = record { pins = 0; outputs = replicate 256 false }

-- one to eight pins
abbrev pub good_pins : Table → Bool
good_pins t = nat_le 1 t.pins && nat_le t.pins 8

-- the rule of pins
abbrev pub Pinned : Table → Type 0
Pinned t = good_pins t ≡ true

-- no output beyond the rows
abbrev pub Plain : Table → Type 0
Plain t = (i : ℕ) → 2 ^ t.pins ≤ i → i < 256 → slice_index_or t.outputs i false ≡ false

-- every table keeps the rule
abbrev pub Every : List Table → (Table → Type 0) → Type 0
Every tables Rule = (k : ℕ) → k < length tables → Rule (slice_index_or tables k absent)

-- table k breaks the rule, and no table before it does
pub record FirstWith (tables : List Table) (Rule : Table → Type 0) (k : ℕ) : Type 0 where
  pub within : k < length tables
  pub broken : Rule (slice_index_or tables k absent) → ⊥
  pub before : (j : ℕ) → j < k → Rule (slice_index_or tables j absent)
