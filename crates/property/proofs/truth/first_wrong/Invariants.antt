use Rattle.std.proofs.Common.{ℕ, ◌*◌, ◌<◌, length}
use Rattle.property.specs.Meaning.{value}
use Rattle.property.specs.ByNode.{Shows}
use Rattle.property.proofs.truth.first_wrong.Given as goal

abbrev pub invariant-loop-j : goal.invariant-loop-j
invariant-loop-j l = (q : ℕ) → q < l.j * length l.columns → Shows l.columns q (value l.places q)
