-- The rules of a diagram.
use Rattle.looping.specs.Limits.{signal_limit}
use Rattle.std.specs.Prelude.{◌≡◌, ℕ, ◌+◌, ◌<◌, ◌≤◌, Bool, true, false, ◌&&◌, List, length, nat_le, nat_lt, slice_index_or}
use Rattle.blocks.specs.declared.types.ValueType.TheVariants.{Truth}
use Rattle.diagram.specs.declared.signals.Signal.{Signal}
use Rattle.diagram.specs.declared.signals.Signal.TheVariants.{Source, Constant, Delay, Block}
use Rattle.diagram.specs.declared.signals.Pin.{Pin}
use Rattle.diagram.specs.declared.fault.CaseFault.{CaseFault}
use Rattle.diagram.specs.declared.fault.CaseFault.TheVariants.{Size, Rule}

-- signal s of a list, and pin k
abbrev pub signal_at : List Signal → ℕ → Signal
signal_at signals s = slice_index_or signals s (Source Truth)

abbrev pub pin_at : List Pin → ℕ → Pin
pin_at pins k = slice_index_or pins k (record { signal = 0; inverted = false })

-- how many pins a signal has
abbrev pub count_of : Signal → ℕ
count_of (Source t) = 0
count_of (Constant t v) = 0
count_of (Delay d i) = 0
count_of (Block k f c) = c

-- where its stretch of the pin list begins
abbrev pub first_of : Signal → ℕ
first_of (Source t) = 0
first_of (Constant t v) = 0
first_of (Delay d i) = 0
first_of (Block k f c) = f

-- a block has 1 to 8 pins
abbrev pub sized : Signal → Bool
sized (Source t) = true
sized (Constant t v) = true
sized (Delay d i) = true
sized (Block k f c) = nat_le 1 c && nat_le c 8

-- the default of a delay at s, one of n signals, is lower, and its input is a signal
abbrev pub named : ℕ → ℕ → Signal → Bool
named n s (Source t) = true
named n s (Constant t v) = true
named n s (Delay d i) = nat_lt d s && nat_lt i n
named n s (Block k f c) = true

-- what the rules ask of signal s, one of n
pub record SignalRules (n : ℕ) (pins : List Pin) (s : ℕ) (x : Signal) : Type 0 where
  pub sized : sized x ≡ true
  pub named : named n s x ≡ true
  pub stretch : first_of x + count_of x ≤ length pins
  pub lower : (k : ℕ) → k < count_of x → (pin_at pins (first_of x + k)).signal < s

-- there are 1 to 1,024 signals, and at most 4,096 pins
pub record InRange (signals : List Signal) (pins : List Pin) : Type 0 where
  pub some : 1 ≤ length signals
  pub few : length signals ≤ signal_limit
  pub brief : length pins ≤ 4096

-- signal s keeps the rules
abbrev pub Keeps : List Signal → List Pin → ℕ → Type 0
Keeps signals pins s = SignalRules (length signals) pins s (signal_at signals s)

-- the rules of a diagram
pub record Rules (signals : List Signal) (pins : List Pin) : Type 0 where
  pub range : InRange signals pins
  pub each : (s : ℕ) → s < length signals → Keeps signals pins s

-- signal s is the lowest that breaks a rule
pub record FirstBroken (signals : List Signal) (pins : List Pin) (s : ℕ) : Type 0 where
  pub below : s < length signals
  pub broken : Keeps signals pins s → ⊥
  pub kept : (k : ℕ) → k < s → Keeps signals pins k

-- the fault of signals and pins that break the rules
abbrev pub RulesFault : List Signal → List Pin → CaseFault → Type 0
RulesFault signals pins Size = InRange signals pins → ⊥
RulesFault signals pins (Rule s) = InRange signals pins × FirstBroken signals pins s
RulesFault signals pins _ = ⊥
