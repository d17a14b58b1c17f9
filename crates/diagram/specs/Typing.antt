-- The types of signals, and which signals fit them.
use Rattle.std.specs.Prelude.{◌≡◌, ℕ, ◌+◌, ◌<◌, true, List, length, Some, None, Option, slice_index_or}
use Rattle.blocks.specs.Blocks.{ShapeOf, unknown_kind, no_such_count, shaped, InType}
use Rattle.blocks.specs.declared.types.ValueType.{ValueType}
use Rattle.blocks.specs.declared.types.ValueType.TheVariants.{Truth}
use Rattle.blocks.specs.declared.types.LibraryFault.{LibraryFault}
use Rattle.blocks.specs.declared.types.LibraryFault.TheVariants.{UnknownKind, NoSuchCount, Unlawful}
use Rattle.diagram.specs.declared.signals.Signal.{Signal}
use Rattle.diagram.specs.declared.signals.Signal.TheVariants.{Source, Constant, Delay, Block}
use Rattle.diagram.specs.declared.signals.Pin.{Pin}
use Rattle.diagram.specs.declared.fault.BlockFault.{BlockFault}
use Rattle.diagram.specs.Rules.{signal_at, pin_at}

-- what a library says of each kind at each pin count
abbrev pub Shapes : Type 0
Shapes = ℕ → ℕ → ShapeOf

-- the type of signal s, where `types` has those of all signals
abbrev pub type_at : List ValueType → ℕ → ValueType
type_at types s = slice_index_or types s Truth

-- the output type of a shape is t
abbrev pub Gives : ShapeOf → ValueType → Type 0
Gives unknown_kind t = ⊥
Gives no_such_count t = ⊥
Gives (shaped pins out) t = t ≡ out

-- a signal's type: its own, that of its default, or the output type of its block
abbrev pub HasType : Shapes → List ValueType → Signal → ValueType → Type 0
HasType shapes types (Source t) u = u ≡ t
HasType shapes types (Constant t v) u = u ≡ t
HasType shapes types (Delay d i) u = u ≡ type_at types d
HasType shapes types (Block k f c) u = Gives (shapes k c) u

-- `types` has the types of the first n signals
abbrev pub Typed : Shapes → List Signal → List ValueType → ℕ → Type 0
Typed shapes signals types n = (s : ℕ) → s < n → HasType shapes types (signal_at signals s) (type_at types s)

-- why a library declines a shape, if it does
abbrev pub fault_of : ShapeOf → Option LibraryFault
fault_of unknown_kind = Some UnknownKind
fault_of no_such_count = Some NoSuchCount
fault_of (shaped pins out) = None

-- why the library declines a signal's block, if it does
abbrev pub missing : Shapes → Signal → Option LibraryFault
missing shapes (Source t) = None
missing shapes (Constant t v) = None
missing shapes (Delay d i) = None
missing shapes (Block k f c) = fault_of (shapes k c)

-- the lowest signal whose block the library declines, with its fault
pub record FirstMissing (shapes : Shapes) (signals : List Signal) (e : BlockFault) : Type 0 where
  pub below : e.signal < length signals
  pub here : missing shapes (signal_at signals e.signal) ≡ Some e.fault
  pub before : (k : ℕ) → k < e.signal → missing shapes (signal_at signals k) ≡ None

-- a pin reads a signal of the wanted type, and is inverted only where that is a bool
pub record PinFits (types : List ValueType) (pin : Pin) (wanted : ValueType) : Type 0 where
  pub same : type_at types pin.signal ≡ wanted
  pub bool : pin.inverted ≡ true → wanted ≡ Truth

-- the pins of a block from `first` on fit its shape
abbrev pub PinsFit : ShapeOf → List ValueType → List Pin → ℕ → Type 0
PinsFit unknown_kind types pins first = ⊥
PinsFit no_such_count types pins first = ⊥
PinsFit (shaped wanted out) types pins first = (p : ℕ) → p < length wanted → PinFits types (pin_at pins (first + p)) (slice_index_or wanted p Truth)

-- a constant lies in its type, a delay's input has the type of its default, and a block's pins fit
abbrev pub Fits : Shapes → List ValueType → List Pin → Signal → Type 0
Fits shapes types pins (Source t) = Unit {0}
Fits shapes types pins (Constant t v) = InType t v
Fits shapes types pins (Delay d i) = type_at types i ≡ type_at types d
Fits shapes types pins (Block k f c) = PinsFit (shapes k c) types pins f

-- every signal fits the types
abbrev pub AllFit : Shapes → List ValueType → List Signal → List Pin → Type 0
AllFit shapes types signals pins = (s : ℕ) → s < length signals → Fits shapes types pins (signal_at signals s)

-- the lowest signal that does not fit the types
pub record FirstMisfit (shapes : Shapes) (types : List ValueType) (signals : List Signal) (pins : List Pin) (e : BlockFault) : Type 0 where
  pub below : e.signal < length signals
  pub letter : e.fault ≡ Unlawful
  pub here : Fits shapes types pins (signal_at signals e.signal) → ⊥
  pub before : (k : ℕ) → k < e.signal → Fits shapes types pins (signal_at signals k)
