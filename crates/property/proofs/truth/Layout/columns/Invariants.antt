use Rattle.std.proofs.Common.{◌≡◌, length}
use Rattle.property.specs.ByNode.{Known}
use Rattle.property.proofs.truth.Layout.columns.Given as goal

abbrev pub invariant-loop-node : goal.invariant-loop-node
invariant-loop-node l =
    (length l.columns.items ≡ l.node-index) × Known l.nodes l.self.signals l.self.lasso.steps l.self.lasso.back l.table l.columns.items
