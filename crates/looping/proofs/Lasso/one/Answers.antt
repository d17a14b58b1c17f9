use Rattle.std.proofs.Common.{◌≡◌, ◌-◌, length, rules}
use Rattle.looping.specs.declared.Unary.TheVariants.{Not, Next, Finally, Globally}
use Rattle.looping.specs.Columns.{at}
use Rattle.looping.proofs.Passes.{some_turn, all_turn}
use Rattle.looping.proofs.Filling.{says1, swept_at}
use Rattle.looping.proofs.Lasso.one.Goals as goal

pub returns-in-Not-clause-means : goal.returns-in-Not-clause-means
returns-in-Not-clause-means c =
    rw c.in-Not.is (says1 c.args.self.loops c.each_step.new.truths _ (search rules) Not (at c.args.child.now) (λ i w. let h = c.each_step.ensures (i - 1) (search rules) in search rules))

pub returns-in-Next-clause-means : goal.returns-in-Next-clause-means
returns-in-Next-clause-means c =
    rw c.in-Next.is (says1 c.args.self.loops c.each_step-in-Next.new.truths _ (search rules) Next (at c.args.child.now) (λ i w. let h = c.each_step-in-Next.ensures (i - 1) (search rules) in search rules))

pub returns-in-Finally-clause-means : goal.returns-in-Finally-clause-means
returns-in-Finally-clause-means c =
    let long : length c.pass_twice.new.truths ≡ c.args.self.steps = search rules in
    rw c.in-Finally.is (says1 c.args.self.loops c.pass_twice.new.truths _ long Finally (at c.args.child.now)
    (swept_at (some_turn (at c.args.child.now)) c.pass_twice.ensures c.args.self.loops long (λ i x y w h. search rules)))

pub returns-in-Globally-clause-means : goal.returns-in-Globally-clause-means
returns-in-Globally-clause-means c =
    let long : length c.pass_twice-in-Globally.new.truths ≡ c.args.self.steps = search rules in
    rw c.in-Globally.is (says1 c.args.self.loops c.pass_twice-in-Globally.new.truths _ long Globally (at c.args.child.now)
    (swept_at (all_turn (at c.args.child.now)) c.pass_twice-in-Globally.ensures c.args.self.loops long (λ i x y w h. search rules)))
