use Rattle.std.proofs.Common.{◌+◌, ◌-◌, ◌*◌, length, take, drop, refl, sym, subst, arith, rules}
use Rattle.std.proofs.lemmas.List.{length-take, length-drop}
use Rattle.property.specs.Meaning.{value}
use Rattle.property.specs.ByNode.{Shows, ShowsAt}
use Rattle.property.proofs.Columns.{step_ends, stand_read, first_place, next_step, shows_place}
use Rattle.property.proofs.truth.first_wrong.Goals as goal

pub returns-in-Some : goal.returns-in-Some
returns-in-Some c =
    let m = length c.args.columns.now in
    let a = c.loop-j.j * m in
    let places = c.args.places.now in
    let ends = step_ends m c.loop-j.j c.args.steps c.loop-j-test.true in
    let long = length-take (a + m - a) (drop a places) in
    let behind = length-drop a places in
    first_place c.args.columns.now m c.loop-j.j places (take (a + m - a) (drop a places)) c.in-Some.f refl (omega (arith, ends, c.requires.1))
    (λ g h. stand_read a (a + m - a) places g (omega (arith, long, behind, ends, c.requires.1))) c.loop-j.invariant (search rules)

pub loop-j-preserved : goal.loop-j-preserved
loop-j-preserved c =
    let m = length c.args.columns.now in
    let a = c.loop-j.j * m in
    let places = c.args.places.now in
    let ends = step_ends m c.loop-j.j c.args.steps c.loop-j-test.true in
    let long = length-take (a + m - a) (drop a places) in
    let behind = length-drop a places in
    next_step (λ q. Shows c.args.columns.now q (value places q)) m c.loop-j.j c.loop-j.invariant
    (λ f h. shows_place c.args.columns.now m f c.loop-j.j refl h (value places (a + f))
    (subst (ShowsAt c.args.columns.now f c.loop-j.j) (sym (stand_read a (a + m - a) places f (omega (arith, long, behind, ends, c.requires.1)))) (search rules)))
