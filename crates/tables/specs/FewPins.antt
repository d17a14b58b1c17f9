-- The tables of a library have few pins.
use Rattle.std.specs.Prelude.{◌≡◌, ℕ, ◌≤◌, true, Some, List, length, nat_lt, slice_index_or}
use Rattle.std.proofs.Common.{subst, arith}
use Rattle.std.proofs.lemmas.Option.{cond_some}
use Rattle.std.proofs.lemmas.Bool.{ltb-true}
use Rattle.std.proofs.lemmas.Bool.Decides.{nat_tests}
use Rattle.blocks.specs.declared.types.ValueType.{ValueType}
use Rattle.blocks.specs.declared.types.ValueType.TheVariants.{Truth}
use Rattle.blocks.specs.Blocks.{shaped}
use Rattle.blocks.specs.Uniformly.{counted_where}
use Rattle.tables.specs.declared.table.Table.{Table}
use Rattle.tables.specs.declared.held.Tables.{Tables}
use Rattle.tables.specs.Rules.{absent, Pinned}
use Rattle.tables.specs.Tables.{table_of, takes, table_result, table_shape}

-- a table with one to eight pins takes at most eight
pub pinned_few : (t : Table) → Pinned t → (c : ℕ) → takes t c ≡ true → c ≤ 8
pinned_few t pinned c e = grind (arith, nat_tests)

-- and so do the tables of a library
pub few_pins : (s : Tables) (k c : ℕ) (t : Table) → table_of s k ≡ Some t → takes t c ≡ true → c ≤ 8
few_pins s k c t e h =
    let found = cond_some (nat_lt k s.count) (slice_index_or s.items k absent) t e in
    pinned_few t (subst Pinned found.1 (s.pinned k (ltb-true k s.count found.0))) c h

-- a block has as many pins as its count says, at most eight
pub tables_counted : (s : Tables) (k c : ℕ) (pins : List ValueType) (out : ValueType) → table_shape s k c ≡ shaped pins out → (length pins ≡ c) × (c ≤ 8)
tables_counted s k c pins out e = counted_where takes Truth (λ _. Truth) table_result (table_of s k) c (λ t found takes. few_pins s k c t found takes) pins out e
