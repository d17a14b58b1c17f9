use Rattle.std.proofs.Common.{◌≡◌, ℕ, ◌+◌, ◌*◌, ◌<◌, false, slice_index_or}
use Rattle.property.specs.Meaning.{value, signal_of, holds_at}
use Rattle.property.proofs.truth.Layout.read_atom.Given as goal

abbrev pub invariant-loop-i : goal.invariant-loop-i
invariant-loop-i l = (k : ℕ) → k < l.i → slice_index_or l.it-items k false ≡ holds_at l.atom (value l.table (k * l.self.signals + signal_of l.atom))
