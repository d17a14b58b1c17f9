use Rattle.std.proofs.Common.{◌≤◌, length, arith}
use Rattle.property.proofs.Whole.{some_node}
use Rattle.case.proofs.Places.{root_within}
use Rattle.case.proofs.Case.root_truth.Goals as goal

pub overflow_sub-root : goal.overflow_sub-root
overflow_sub-root g c = some_node c.args.self.now.nodes.now c.requires.tree

pub bounds-table-root : goal.bounds-table-root
bounds-table-root g c =
    let s = c.args.self.now in
    let low : 1 ≤ s.steps = omega (arith, c.requires.loops.low, c.requires.loops.high) in
    omega (arith, root_within (length s.diagram.now.signals.now) (length s.nodes.now) s.steps (some_node s.nodes.now c.requires.tree) low, c.requires.long)
