-- What a diagram makes of the values of a table, and where its loop closes.
use Rattle.std.specs.Prelude.{◌≡◌, ℕ, zero, suc, ◌+◌, ◌*◌, ◌/◌, ◌%◌, ◌<◌, Bool, true, false, cond, List, map, length, ℤ, pos, ◌-ℤ◌, Some, None, Option, nat_lt}
use Rattle.std.specs.List.{range_with_len}
use Rattle.blocks.specs.Blocks.{ShapeOf, unknown_kind, no_such_count, shaped, Lawful}
use Rattle.diagram.specs.declared.signals.Signal.{Signal}
use Rattle.diagram.specs.declared.signals.Signal.TheVariants.{Source, Constant, Delay, Block}
use Rattle.diagram.specs.declared.signals.Pin.{Pin}
use Rattle.diagram.specs.Rules.{signal_at, pin_at}
use Rattle.run.specs.Values.{value_at}

-- what a library makes of a row, for each kind at each pin count
abbrev pub Functions : Type 0
Functions = ℕ → ℕ → List ℤ → ℤ

-- what a pin shows of a value: an inverted one shows 1 minus it
abbrev pub shown : Bool → ℤ → ℤ
shown true v = pos 1 -ℤ v
shown false v = v

-- what the pin at place p of a stretch shows, at the step whose entries begin at `start`
abbrev pub pin_shows : List Pin → ℕ → List ℤ → ℕ → ℕ → ℤ
pin_shows pins first table start p = shown (pin_at pins (first + p)).inverted (value_at table (start + (pin_at pins (first + p)).signal))

-- a place of a row: what the pins show below the count, and zero beyond
abbrev pub within : ℕ → (ℕ → ℤ) → ℕ → ℤ
within count shows p = cond (nat_lt p count) (shows p) (pos 0)

-- the row of eight places
unfoldable pub padded : ℕ → (ℕ → ℤ) → List ℤ
padded count shows = map (within count shows) (range_with_len 0 8)

-- the row is lawful for a block of this shape
abbrev pub LawfulFor : ShapeOf → List ℤ → Type 0
LawfulFor unknown_kind row = ⊥
LawfulFor no_such_count row = ⊥
LawfulFor (shaped pins out) row = Lawful pins row

-- the entry that a delay reads at step j, counted from 0: its default's at the first, else its input's one step earlier
abbrev pub delay_reads : ℕ → ℕ → ℕ → ℕ → ℕ
delay_reads n zero d i = d
delay_reads n (suc j) d i = j * n + i

-- what a diagram of n signals makes of a signal at step j, counted from 0; nothing of a source
abbrev pub makes : Functions → ℕ → List Pin → List ℤ → ℕ → Signal → Option ℤ
makes f n pins table j (Source t) = None
makes f n pins table j (Constant t v) = Some v
makes f n pins table j (Delay d i) = Some (value_at table (delay_reads n j d i))
makes f n pins table j (Block k first c) = Some (f k c (padded c (pin_shows pins first table (j * n))))

-- what the diagram makes of an entry
abbrev pub made_at : Functions → List Signal → List Pin → List ℤ → ℕ → Option ℤ
made_at f signals pins table e = makes f (length signals) pins table (e / length signals) (signal_at signals (e % length signals))

-- a value is the one that is made, if one is
abbrev pub Is : Option ℤ → ℤ → Type 0
Is None v = Unit {0}
Is (Some w) v = v ≡ w

-- the value of an entry is the one that the diagram makes
abbrev pub Made : Functions → List Signal → List Pin → List ℤ → ℕ → Type 0
Made f signals pins table e = Is (made_at f signals pins table e) (value_at table e)

-- the values of the first `count` entries are those that the diagram makes
abbrev pub AllMade : Functions → List Signal → List Pin → List ℤ → ℕ → Type 0
AllMade f signals pins table count = (e : ℕ) → e < count → Made f signals pins table e

-- entry e is the lowest of `count` whose value is not the one that the diagram makes
pub record FirstUnmade (f : Functions) (signals : List Signal) (pins : List Pin) (table : List ℤ) (count e : ℕ) : Type 0 where
  pub below : e < count
  pub here : Made f signals pins table e → ⊥
  pub before : (k : ℕ) → k < e → Made f signals pins table k

-- a delay at the loop step, whose entries begin at `back`, equals its input at the last step, whose entries begin at `last`
abbrev pub Closes : List ℤ → ℕ → ℕ → ℕ → Signal → Type 0
Closes table back last s (Source t) = Unit {0}
Closes table back last s (Constant t v) = Unit {0}
Closes table back last s (Delay d i) = value_at table (back + s) ≡ value_at table (last + i)
Closes table back last s (Block k f c) = Unit {0}

-- the loop closes at every signal
abbrev pub AllClose : List Signal → List ℤ → ℕ → ℕ → Type 0
AllClose signals table back last = (s : ℕ) → s < length signals → Closes table back last s (signal_at signals s)

-- signal s is the lowest at which the loop does not close
pub record FirstOpen (signals : List Signal) (table : List ℤ) (back last s : ℕ) : Type 0 where
  pub below : s < length signals
  pub here : Closes table back last s (signal_at signals s) → ⊥
  pub before : (k : ℕ) → k < s → Closes table back last k (signal_at signals k)
