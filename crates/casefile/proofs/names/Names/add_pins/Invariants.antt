use Rattle.std.proofs.Common.{◌≤◌}
use Rattle.casefile.proofs.names.Names.add_pins.Given as goal

abbrev pub invariant-loop-field : goal.invariant-loop-field
invariant-loop-field l = l.fn.list.met ≤ l.list.met
