-- The limits of a run's table.
use Rattle.std.specs.Prelude.{ℕ}

-- the most steps that a run has
abbrev pub step_limit : ℕ
step_limit = 64

-- the most signals that a diagram has
abbrev pub signal_limit : ℕ
signal_limit = 1024
