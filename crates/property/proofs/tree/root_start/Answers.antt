use Rattle.std.proofs.Common.{◌≡◌, ◌≤◌, ◌∷◌, [], ◌++◌, length, refl, ◌∙◌, arith, subst, rules}
use Rattle.property.specs.Numbering.{Started}
use Rattle.property.proofs.Whole.{each_before, started_more, begins_rooted, rooted_begins, each_rooted, last_start}
use Rattle.property.proofs.tree.root_start.Goals as goal

pub start_of-requires : goal.start_of-requires
start_of-requires c = rw c.as_slice.ensures.value (each_before c.args.nodes.now c.loop-node.starts.items c.loop-node.node-index c.loop-node.invariant.0 c.loop-node.invariant.1)

pub returns-in_err-start : goal.returns-in_err-start
returns-in_err-start c =
    let ns = c.args.nodes.now in
    let f = c.loop-node.node-index in
    rw c.from_residual.ensures (λ o.
    let r = each_rooted ns o f c.loop-node-test.true in
    c.in_err-start.ensures r.0 (rw c.as_slice.ensures.value (rooted_begins ns c.loop-node.starts.items f c.loop-node.invariant.0 c.loop-node.invariant.1 _ r.0 refl r.1)))

pub loop-node-preserved : goal.loop-node-preserved
loop-node-preserved c =
    let ns = c.args.nodes.now in
    let f = c.loop-node.node-index in
    let starts = c.loop-node.starts.items in
    let known = c.loop-node.invariant.1 in
    let grown : c.try_push.new.self.items ≡ starts ++ (c.in_ok-start.start ∷ []) = search rules in (
      search rules,
      rw grown (started_more ns starts f c.in_ok-start.start c.loop-node.invariant.0 known (begins_rooted ns starts f c.loop-node.invariant.0 known _ c.in_ok-start.start refl (rw c.as_slice.ensures.value at c.in_ok-start.ensures))),
    )

pub returns : goal.returns
returns c =
    let ns = c.args.nodes.now in
    let starts = c.loop-node.starts.items in
    let all : c.loop-node.node-index ≡ length ns = omega arith in
    let few : length starts ≤ 64 = rw c.deref.ensures.0 at c.deref.ensures.1 in
    rw (c.copied.ensures ∙ c.last.ensures.value, c.deref.ensures.0) (last_start ns starts (c.loop-node.invariant.0 ∙ all) (omega arith) (subst (Started ns starts) all c.loop-node.invariant.1))
