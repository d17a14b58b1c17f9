use Rattle.property.proofs.Saying.{filled_read, lowest_read}
use Rattle.property.proofs.truth.check_truths.Goals as goal

pub returns-in_err-p : goal.returns-in_err-p
returns-in_err-p c =
    rw c.from_residual.ensures (filled_read c.requires c.as_slice.result.now (rw c.as_slice.ensures.value c.columns-columns.ensures.long) (rw c.as_slice.ensures.value c.columns-columns.ensures.known) c.in_err-p.ensures)

pub returns : goal.returns
returns c =
    lowest_read c.requires c.as_slice.result.now (rw c.as_slice.ensures.value c.columns-columns.ensures.long) (rw c.as_slice.ensures.value c.columns-columns.ensures.known) c.in_ok-p.p c.in_ok-p.ensures
