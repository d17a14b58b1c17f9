use Rattle.std.proofs.Common.{◌+◌, ◌*◌, length}
use Rattle.run.specs.Runs.{FilledFrom}
use Rattle.run.proofs.filling.fill_run.Given as goal

abbrev pub invariant-loop-j : goal.invariant-loop-j
invariant-loop-j g l = FilledFrom (g.L.BlockLibrary.function l.lib) l.d.signals.now l.d.pins.now (l.j * length l.d.signals.now) l.fn.table l.table

abbrev pub invariant-loop-s : goal.invariant-loop-s
invariant-loop-s g l = FilledFrom (g.L.BlockLibrary.function l.lib) l.d.signals.now l.d.pins.now (l.j * length l.d.signals.now + l.s) l.fn.table l.table
