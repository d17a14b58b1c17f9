use Rattle.std.proofs.Common.{ℕ, ◌<◌}
use Rattle.property.specs.Meaning.{value}
use Rattle.property.specs.ByNode.{ShowsAt}
use Rattle.property.proofs.truth.write_step.Given as goal

abbrev pub invariant-loop-f : goal.invariant-loop-f
invariant-loop-f l = (g : ℕ) → g < l.f → ShowsAt l.columns g l.j (value l.step g)
