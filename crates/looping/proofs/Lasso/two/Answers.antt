use Rattle.std.proofs.Common.{◌≡◌, ◌-◌, length, rules}
use Rattle.looping.specs.declared.Binary.TheVariants.{And, Or, Implies, Until}
use Rattle.looping.specs.Columns.{at}
use Rattle.looping.proofs.Passes.{until_turn}
use Rattle.looping.proofs.Filling.{says2, swept_at}
use Rattle.looping.proofs.Lasso.two.Goals as goal

pub returns-in-And-clause-means : goal.returns-in-And-clause-means
returns-in-And-clause-means c =
    rw c.in-And.is (says2 c.args.self.loops c.each_step.new.truths _ (search rules) And (at c.args.left.now) (at c.args.right.now) (λ i w. let h = c.each_step.ensures (i - 1) (search rules) in search rules))

pub returns-in-Or-clause-means : goal.returns-in-Or-clause-means
returns-in-Or-clause-means c =
    rw c.in-Or.is (says2 c.args.self.loops c.each_step-in-Or.new.truths _ (search rules) Or (at c.args.left.now) (at c.args.right.now) (λ i w. let h = c.each_step-in-Or.ensures (i - 1) (search rules) in search rules))

pub returns-in-Implies-clause-means : goal.returns-in-Implies-clause-means
returns-in-Implies-clause-means c =
    rw c.in-Implies.is (says2 c.args.self.loops c.each_step-in-Implies.new.truths _ (search rules) Implies (at c.args.left.now) (at c.args.right.now) (λ i w. let h = c.each_step-in-Implies.ensures (i - 1) (search rules) in search rules))

pub returns-in-Until-clause-means : goal.returns-in-Until-clause-means
returns-in-Until-clause-means c =
    let long : length c.pass_twice.new.truths ≡ c.args.self.steps = search rules in
    rw c.in-Until.is (says2 c.args.self.loops c.pass_twice.new.truths _ long Until (at c.args.left.now) (at c.args.right.now)
    (swept_at (until_turn (at c.args.left.now) (at c.args.right.now)) c.pass_twice.ensures c.args.self.loops long (λ i x y w h. search rules)))
