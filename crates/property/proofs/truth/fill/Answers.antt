use Rattle.std.proofs.Common.{rules}
use Rattle.property.proofs.Saying.{filled_written}
use Rattle.property.proofs.truth.fill.Goals as goal

pub returns-clause-filled : goal.returns-clause-filled
returns-clause-filled c =
    filled_written c.requires c.as_slice.result.now (rw c.as_slice.ensures.value c.columns-columns.ensures.long) (rw c.as_slice.ensures.value c.columns-columns.ensures.known) c.write_truths.new.places _ (search rules) c.write_truths.ensures
