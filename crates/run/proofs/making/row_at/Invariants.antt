use Rattle.std.proofs.Common.{◌≡◌, ◌+◌, true, All}
use Rattle.blocks.specs.Blocks.{InType}
use Rattle.blocks.specs.declared.types.ValueType.TheVariants.{Truth}
use Rattle.run.specs.Values.{value_at}
use Rattle.run.specs.Making.{padded, pin_shows}
use Rattle.run.proofs.making.row_at.Given as goal

abbrev pub invariant-loop-k : goal.invariant-loop-k
invariant-loop-k l = All (λ pin. pin.inverted ≡ true → InType Truth (value_at l.table (l.start + pin.signal))) l.pins → l.row ≡ padded l.k (pin_shows l.pins 0 l.table l.start)
