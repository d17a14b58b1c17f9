use Rattle.std.proofs.Common.{◌≡◌, ℕ, ◌<◌, None}
use Rattle.diagram.specs.Rules.{signal_at}
use Rattle.diagram.specs.Typing.{Typed, missing}
use Rattle.diagram.proofs.types.types_of.Given as goal

abbrev pub invariant-loop-s : goal.invariant-loop-s
invariant-loop-s g l =
    Typed (g.L.BlockLibrary.shape l.lib) l.d.signals.now l.types l.s-counter
    × ((k : ℕ) → k < l.s-counter → missing (g.L.BlockLibrary.shape l.lib) (signal_at l.d.signals.now k) ≡ None)
