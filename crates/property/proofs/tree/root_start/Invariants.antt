use Rattle.std.proofs.Common.{◌≡◌, length}
use Rattle.property.specs.Numbering.{Started}
use Rattle.property.proofs.tree.root_start.Given as goal

abbrev pub invariant-loop-node : goal.invariant-loop-node
invariant-loop-node l = (length l.starts.items ≡ l.node-index) × Started l.nodes l.starts.items l.node-index
