use Rattle.text.proofs.First.{passed_behind}
use Rattle.text.proofs.cursor.Cursor.skip_while.Goals as goal

pub returns-clause-run : goal.returns-clause-run
returns-clause-run g c = passed_behind _ _ _ _ c.args.self.now.inside (rw c.rest.ensures at c.run_length.ensures)
