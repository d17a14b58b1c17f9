-- The values of a table, and their types. With n signals, signal s at step j, counted from 0, is entry j * n + s.
use Rattle.std.specs.Prelude.{◌≡◌, ℕ, ◌%◌, ◌<◌, Bool, true, false, List, length, ℤ, pos, slice_index_or}
use Rattle.blocks.specs.Blocks.{InType}
use Rattle.blocks.specs.declared.types.ValueType.{ValueType}
use Rattle.diagram.specs.declared.signals.Signal.{Signal}
use Rattle.diagram.specs.declared.signals.Signal.TheVariants.{Source, Constant, Delay, Block}
use Rattle.diagram.specs.declared.signals.Pin.{Pin}
use Rattle.diagram.specs.Rules.{signal_at}
use Rattle.diagram.specs.Typing.{Shapes, type_at, Typed, AllFit}

-- the value of an entry
abbrev pub value_at : List ℤ → ℕ → ℤ
value_at table e = slice_index_or table e (pos 0)

-- the value of an entry lies in the type of its signal
abbrev pub InItsType : List ValueType → ℕ → List ℤ → ℕ → Type 0
InItsType types n table e = InType (type_at types (e % n)) (value_at table e)

-- the values of the first `count` entries lie in their types
abbrev pub AllInType : List ValueType → ℕ → List ℤ → ℕ → Type 0
AllInType types n table count = (e : ℕ) → e < count → InItsType types n table e

-- entry e is the lowest of `count` whose value lies outside its type
pub record FirstOutside (types : List ValueType) (n : ℕ) (table : List ℤ) (count e : ℕ) : Type 0 where
  pub below : e < count
  pub here : InItsType types n table e → ⊥
  pub before : (k : ℕ) → k < e → InItsType types n table k

-- signal s is the lowest whose value at one step lies outside its type
pub record FirstOutsideAt (types : List ValueType) (step : List ℤ) (s : ℕ) : Type 0 where
  pub below : s < length step
  pub here : InType (type_at types s) (value_at step s) → ⊥
  pub before : (k : ℕ) → k < s → InType (type_at types k) (value_at step k)

-- a signal is a source
abbrev pub is_source : Signal → Bool
is_source (Source t) = true
is_source (Constant t v) = false
is_source (Delay d i) = false
is_source (Block k f c) = false

-- an entry is that of a source
abbrev pub SourceEntry : List Signal → ℕ → Type 0
SourceEntry signals e = is_source (signal_at signals (e % length signals)) ≡ true

-- `types` are the types of the signals, and the signals fit them
pub record WellTyped (shapes : Shapes) (signals : List Signal) (pins : List Pin) (types : List ValueType) : Type 0 where
  pub typed : Typed shapes signals types (length signals)
  pub fits : AllFit shapes types signals pins

-- the signals are well typed, and the values of the first `count` entries lie in their types
pub record TypedBelow (shapes : Shapes) (signals : List Signal) (pins : List Pin) (table : List ℤ) (count : ℕ) : Type 0 where
  pub types : List ValueType
  pub well : WellTyped shapes signals pins types
  pub values : AllInType types (length signals) table count

-- the sources' values among the first `count` entries lie in their types
abbrev pub SourcesInType : List ValueType → List Signal → List ℤ → ℕ → Type 0
SourcesInType types signals table count = (e : ℕ) → e < count → SourceEntry signals e → InItsType types (length signals) table e

-- the signals are well typed, and the sources' values among the first `count` entries lie in their types
pub record SourcesTyped (shapes : Shapes) (signals : List Signal) (pins : List Pin) (table : List ℤ) (count : ℕ) : Type 0 where
  pub types : List ValueType
  pub well : WellTyped shapes signals pins types
  pub sources : SourcesInType types signals table count
