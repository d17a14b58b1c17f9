use Rattle.std.proofs.Common.{◌≡◌, ℕ, ◌%◌, ◌<◌, length}
use Rattle.run.specs.Values.{TypedBelow}
use Rattle.run.specs.Making.{Made}
use Rattle.run.proofs.making.not_made.Given as goal

abbrev pub invariant-loop-e : goal.invariant-loop-e
invariant-loop-e g l =
    (l.s ≡ l.e % length l.d.signals.now)
    × (TypedBelow (g.L.BlockLibrary.shape l.lib) l.d.signals.now l.d.pins.now l.table (length l.table) → (k : ℕ) → k < l.e → Made (g.L.BlockLibrary.function l.lib) l.d.signals.now l.d.pins.now l.table k)
