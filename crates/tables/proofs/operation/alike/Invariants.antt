use Rattle.std.proofs.Common.{◌≡◌, ℕ, ◌/◌, ◌%◌, ◌^◌, ◌<◌}
use Rattle.blocks.specs.Blocks.{Has}
use Rattle.tables.proofs.operation.alike.Given as goal

abbrev pub invariant-loop-k : goal.invariant-loop-k
invariant-loop-k l = (j : ℕ) → j < l.k → Has l.pins j → (l.number / 2 ^ j) % 2 ≡ (l.other / 2 ^ j) % 2
