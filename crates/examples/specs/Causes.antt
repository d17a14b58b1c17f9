-- The causes of a block's output.
use Rattle.std.specs.Prelude.{ℕ, ◌^◌, ◌<◌, Bool, List, length, ℤ, Decides, ◌==◌}
use Rattle.std.specs.List.{list_any}
use Rattle.blocks.specs.declared.types.ValueType.{ValueType}
use Rattle.blocks.specs.Blocks.{ShapeOf, unknown_kind, no_such_count, shaped, Lawful, Forces}
use Rattle.blocks.specs.Laws.{Within}

-- a cause is an inclusion-minimal set of pins that forces the output
pub record Cause (pins : List ValueType) (f : List ℤ → ℤ) (row : List ℤ) (set : ℕ) : Type 0 where
  pub of_pins : set < 2 ^ length pins
  pub forces : Forces pins f row set
  pub minimal : (sub : ℕ) → sub < 2 ^ length pins → Within sub set → Forces pins f row sub → Within set sub

-- a number stands in a list
abbrev pub member : ℕ → List ℕ → Bool
member n numbers = list_any (λ m. n == m) numbers

-- the causes of a lawful row are exactly these sets, each by its pin sum
abbrev pub CausesAre : ShapeOf → (List ℤ → ℤ) → List ℤ → List ℕ → Type 0
CausesAre unknown_kind f row sets = ⊥
CausesAre no_such_count f row sets = ⊥
CausesAre (shaped pins out) f row sets = Lawful pins row × ((set : ℕ) → Decides (member set sets) (Cause pins f row set))
