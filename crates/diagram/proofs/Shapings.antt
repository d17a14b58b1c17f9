-- The pins of a stretch.
use Rattle.std.proofs.Common.{◌≡◌, ℕ, ◌+◌, ◌<◌, ◌≤◌, List, length, get_or, slice_range, arith, get_or-take, get_or-drop, length-take, length-drop}
use Rattle.diagram.specs.declared.signals.Pin.{Pin}

-- a pin of a stretch
pub stretch_at : (pins : List Pin) (first c p : ℕ) (x : Pin) → p < c → get_or (slice_range pins first (first + c)) p x ≡ get_or pins (first + p) x
stretch_at pins first c p x l = grind (arith, get_or-take, get_or-drop)

pub stretch_length : (pins : List Pin) (first c : ℕ) → first + c ≤ length pins → length (slice_range pins first (first + c)) ≡ c
stretch_length pins first c h = grind (arith, length-take, length-drop)
