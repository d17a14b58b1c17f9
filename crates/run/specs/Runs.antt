-- Runs of a diagram, and filling one from its sources.
use Rattle.std.specs.Prelude.{◌≡◌, ℕ, ◌-◌, ◌*◌, ◌<◌, ◌≤◌, List, length, ℤ}
use Rattle.looping.specs.Limits.{step_limit}
use Rattle.blocks.specs.Blocks.{InType, Lawful, shaped}
use Rattle.blocks.specs.declared.types.ValueType.{ValueType}
use Rattle.diagram.specs.declared.signals.Signal.{Signal}
use Rattle.diagram.specs.declared.signals.Pin.{Pin}
use Rattle.diagram.specs.Rules.{Rules}
use Rattle.diagram.specs.Typing.{Shapes}
use Rattle.run.specs.Values.{value_at, AllInType, SourceEntry, WellTyped, SourcesInType}
use Rattle.run.specs.Making.{Functions, AllMade, AllClose}

-- l steps, at most 64, that go on at step c
pub record StepsFit (l c : ℕ) : Type 0 where
  pub some : 1 ≤ c
  pub within : c ≤ l
  pub few : l ≤ step_limit

-- the table is a run of the diagram with l steps and loop step c: values of their types, which the diagram makes, and a loop that closes
pub record Run (f : Functions) (signals : List Signal) (pins : List Pin) (types : List ValueType) (l c : ℕ) (table : List ℤ) : Type 0 where
  pub typed : AllInType types (length signals) table (length signals * l)
  pub made : AllMade f signals pins table (length signals * l)
  pub closes : AllClose signals table (length signals * (c - 1)) (length signals * (l - 1))

-- `after` has the sources of `before`, at the other of the first `count` entries what the diagram makes, and beyond them what `before` has
pub record FilledFrom (f : Functions) (signals : List Signal) (pins : List Pin) (count : ℕ) (before after : List ℤ) : Type 0 where
  pub size : length after ≡ length before
  pub sources : (e : ℕ) → SourceEntry signals e → value_at after e ≡ value_at before e
  pub made : AllMade f signals pins after count
  pub beyond : (e : ℕ) → count ≤ e → value_at after e ≡ value_at before e

-- two tables have the same values at the sources among the first `count` entries
abbrev pub SameSources : List Signal → ℕ → List ℤ → List ℤ → Type 0
SameSources signals count table other = (e : ℕ) → e < count → SourceEntry signals e → value_at other e ≡ value_at table e

-- what a library's function makes of a lawful row lies in the output type
abbrev pub Outputs : Shapes → Functions → Type 0
Outputs shapes f = (k c : ℕ) (pins : List ValueType) (out : ValueType) (row : List ℤ) → shapes k c ≡ shaped pins out → Lawful pins row → InType out (f k c row)

-- a block has as many pins as its count says, at most eight
abbrev pub Counted : Shapes → Type 0
Counted shapes = (k c : ℕ) (pins : List ValueType) (out : ValueType) → shapes k c ≡ shaped pins out → (length pins ≡ c) × (c ≤ 8)

-- what is known of a diagram that keeps the rules, over a library whose outputs are lawful, where the signals fit their types
pub record Known (shapes : Shapes) (f : Functions) (signals : List Signal) (pins : List Pin) (types : List ValueType) : Type 0 where
  pub rules : Rules signals pins
  pub counted : Counted shapes
  pub outputs : Outputs shapes f
  pub well : WellTyped shapes signals pins types

-- a filled table whose loop closes is a run
abbrev pub FilledIsRun : Type 0
FilledIsRun =
    (shapes : Shapes) (f : Functions) (signals : List Signal) (pins : List Pin) (types : List ValueType) → Known shapes f signals pins types
    → (l c : ℕ) (before after : List ℤ) → SourcesInType types signals before (length signals * l) → FilledFrom f signals pins (length signals * l) before after
    → AllClose signals after (length signals * (c - 1)) (length signals * (l - 1)) → Run f signals pins types l c after

-- tables that the diagram makes have equal values where their sources have
abbrev pub SourcesDetermine : Type 0
SourcesDetermine =
    (f : Functions) (signals : List Signal) (pins : List Pin) → Rules signals pins → (count : ℕ) (table other : List ℤ)
    → AllMade f signals pins table count → AllMade f signals pins other count → SameSources signals count table other
    → (e : ℕ) → e < count → value_at other e ≡ value_at table e
