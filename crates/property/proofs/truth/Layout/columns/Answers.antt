use Rattle.std.proofs.Common.{rules}
use Rattle.property.specs.Meaning.{holds}
use Rattle.property.proofs.Settling.{each_inside, right_more}
use Rattle.property.proofs.Saying.{rooms}
use Rattle.property.proofs.truth.Layout.columns.Goals as goal

pub node_column-column-requires : goal.node_column-column-requires
node_column-column-requires c =
    let ns = c.args.nodes.now in
    let n = c.args.self.signals in (
      rw (c.as_slice.ensures.value, c.loop-node.invariant.0) (each_inside ns n c.loop-node.node-index c.requires.tree c.requires.atoms c.loop-node-test.true),
      (rooms ns n c.args.self.lasso.steps c.args.self.lasso.back c.args.table.now c.requires).signals,
    )

pub loop-node-preserved : goal.loop-node-preserved
loop-node-preserved c = (
  search rules,
  rw c.push.ensures.items (right_more c.args.nodes.now (holds c.args.self.signals c.args.table.now) c.args.self.lasso.steps c.args.self.lasso.back c.args.self.lasso.loops
      c.loop-node.columns.items c.loop-node.node-index c.node_column-column.result c.loop-node.invariant.0 (rw c.as_slice.ensures.value at c.node_column-column.ensures) c.loop-node.invariant.1),
)
