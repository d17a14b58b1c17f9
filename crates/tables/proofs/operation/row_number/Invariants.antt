use Rattle.std.proofs.Common.{◌≡◌, ◌^◌, ◌<◌}
use Rattle.tables.specs.Tables.{number_of_row}
use Rattle.tables.proofs.operation.row_number.Given as goal

abbrev pub invariant-loop-k : goal.invariant-loop-k
invariant-loop-k l = (l.number ≡ number_of_row l.k l.row) × (l.number < 2 ^ l.k)
