use Rattle.std.proofs.Common.{w16, SFits, ap, ◌≡◌, ◌+◌, ◌*◌, length, sym, ◌∙◌, subst, mul_comm, arith, rules}
use Rattle.std.proofs.lemmas.Int.{to_z-of_z}
use Rattle.std.proofs.lemmas.Nat.{mul-add-lt}
use Rattle.std.proofs.Math.ListN.{set}
use Rattle.run.specs.Making.{made_at}
use Rattle.run.specs.Runs.{FilledFrom}
use Rattle.run.proofs.Entries.{rules_of}
use Rattle.run.proofs.Fills.{filled_below, filled_source, filled_put}
use Rattle.run.proofs.filling.fill_run.Goals as goal
use Rattle.run.proofs.filling.fill_run.Goals.{in-Some, in_default}

pub loop-s-preserved : goal.loop-s-preserved
loop-s-preserved g c =
    let d = c.args.d.now in
    let lib = c.args.lib.now in
    let f = g.L.BlockLibrary.function lib in
    let before = c.args.table.now in
    let now = c.loop-s.table in
    let e = c.loop-j.j * length d.signals.now + c.loop-s.s in
    let low = mul-add-lt c.loop-j.j (length d.signals.now) c.loop-s.s c.args.steps c.loop-j-test.true c.loop-s-test.true in
    let same = mul_comm c.args.steps (length d.signals.now) in
    let typed = filled_below (g.L.BlockLibrary.shape lib) f d.signals.now d.pins.now (rules_of d) (g.met.L.BlockLibrary.counted lib) (g.met.L.BlockLibrary.lawful lib)
    before now (length d.signals.now * c.args.steps) e (omega (arith, low, same)) c.requires.typed c.loop-s.invariant in
    let is : c.made.result ≡ made_at f d.signals.now d.pins.now now e = c.made.ensures typed in
    let more : e + 1 ≡ c.loop-j.j * length d.signals.now + (c.loop-s.s + 1) = omega arith in
    subst (λ k. FilledFrom f d.signals.now d.pins.now k before c.match-made.table) more (
    elim c.match-made.branch [
      | in-Some w ↦
          let fits : SFits w16 w.in-Some.v = search rules in
          let t : c.match-made.table ≡ set now e w.in-Some.v = w.table-is ∙ ap (set now e) (to_z-of_z w16 w.in-Some.v fits) in
          subst (λ T. FilledFrom f d.signals.now d.pins.now (e + 1) before T) (sym t)
          (filled_put f d.signals.now d.pins.now (rules_of d) before now e w.in-Some.v c.loop-s.invariant (sym w.in-Some.is ∙ is) (omega (arith, low, same, c.loop-s.invariant.size, c.requires.table)))
      | in_default w ↦
          subst (λ T. FilledFrom f d.signals.now d.pins.now (e + 1) before T) (sym w.table-is)
          (filled_source f d.signals.now d.pins.now (rules_of d) before now e c.loop-s.invariant (sym w.in_default.is ∙ is))
    ])
