use Rattle.case.proofs.Prefixes.{made_run, unmade_run}
use Rattle.case.proofs.Case.check_run.Goals as goal

pub returns-in-Some-not_made : goal.returns-in-Some-not_made
returns-in-Some-not_made g c =
    let s = c.args.self.now in
    let typing = c.requires.typed.typing in
    unmade_run c.args.table.now _ c.requires.table s.diagram.now c.args.types.now typing.size c.in_default.ensures
    (g.L.BlockLibrary.shape s.library.now) typing.well (g.L.BlockLibrary.function s.library.now) c.in-Some-not_made.entry c.in-Some-not_made.ensures.exact

pub returns-in-Some-open_at : goal.returns-in-Some-open_at
returns-in-Some-open_at g c =
    let s = c.args.self.now in
    let typing = c.requires.typed.typing in
    let run =
    made_run c.args.table.now _ c.requires.table s.diagram.now c.args.types.now typing.size c.in_default.ensures
    (g.L.BlockLibrary.shape s.library.now) typing.well (g.L.BlockLibrary.function s.library.now) c.in_default-not_made.ensures.exact in
    (run.0, run.1, c.in-Some-open_at.ensures)

pub returns : goal.returns
returns g c =
    let s = c.args.self.now in
    let typing = c.requires.typed.typing in
    let run =
    made_run c.args.table.now _ c.requires.table s.diagram.now c.args.types.now typing.size c.in_default.ensures
    (g.L.BlockLibrary.shape s.library.now) typing.well (g.L.BlockLibrary.function s.library.now) c.in_default-not_made.ensures.exact in
    record { typed = run.0; made = run.1; closes = c.in_default-open_at.ensures }
