use Rattle.std.proofs.Common.{sym}
use Rattle.text.proofs.First.{first_behind, none_behind}
use Rattle.text.proofs.cursor.Cursor.find.Goals as goal

pub returns-in_err-behind : goal.returns-in_err-behind
returns-in_err-behind c = rw c.from_residual.ensures (none_behind _ _ _ (let e = c.in_err-behind.ensures in sym (rw c.rest.ensures at e)))

pub returns : goal.returns
returns c = first_behind _ _ _ _ (let e = c.in_ok-behind.ensures in sym (rw c.rest.ensures at e))
