use Rattle.std.proofs.Common.{get_or, pos, ◌+ℤ◌, arith, w16, SFits, rules}
use Rattle.std.proofs.lemmas.Int.{ints}
use Rattle.std.proofs.lemmas.List.Sums.{fold_more}
use Rattle.numbers.proofs.sums.sum_of.Goals as goal

pub loop-v-preserved : goal.loop-v-preserved
loop-v-preserved c =
    let f : SFits w16 (get_or c.args.pins.now c.loop-v.v-index (pos 0)) = search rules in
    let e = fold_more ◌+ℤ◌ (pos 0) c.args.pins.now c.loop-v.v-index (pos 0) c.loop-v-test.true in
    (omega arith, omega (arith, ints, c.loop-v.invariant.1, c.from-sum.ensures), omega (arith, ints, c.loop-v.invariant.2, c.from-sum.ensures), omega (arith, ints, c.loop-v.invariant.3, c.from-sum.ensures))
