use Rattle.std.proofs.Common.{◌≡◌, ◌<◌, subst, ⊎_elim, arith, rules}
use Rattle.std.proofs.lemmas.Bool.{cases_lt}
use Rattle.run.specs.Making.{Made}
use Rattle.run.proofs.making.not_made.Goals as goal

pub loop-e-preserved : goal.loop-e-preserved
loop-e-preserved g c = (
  c.signal_after-s.ensures c.loop-e.e c.loop-e.invariant.0,
  λ t k h. ⊎_elim (λ (b : k < c.loop-e.e). c.loop-e.invariant.1 t k b)
      (λ b.
      let e : c.loop-e.e ≡ k = omega arith in
      let made : Made (g.L.BlockLibrary.function c.args.lib.now) c.args.d.now.signals.now c.args.d.now.pins.now c.args.table.now c.loop-e.e = (c.keeps_made.ensures t).0 (search rules) in
      subst (Made (g.L.BlockLibrary.function c.args.lib.now) c.args.d.now.signals.now c.args.d.now.pins.now c.args.table.now) e made)
      (cases_lt k c.loop-e.e),
)
