use Rattle.std.proofs.Common.{length, refl, arith, rules}
use Rattle.property.proofs.Columns.{step_ends, step_written}
use Rattle.property.proofs.truth.write_truths.Goals as goal

pub loop-j-preserved : goal.loop-j-preserved
loop-j-preserved c =
    let m = length c.args.columns.now in
    let ends = step_ends m c.loop-j.j c.args.steps c.loop-j-test.true in
    step_written c.args.columns.now m c.loop-j.j c.loop-j.places c.write_step.new.step _ refl (search rules) (omega (arith, ends, c.requires.1)) c.loop-j.invariant c.write_step.ensures
