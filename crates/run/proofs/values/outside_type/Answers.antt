use Rattle.std.proofs.Common.{◌-◌, ◌*◌, length, drop, arith, rules}
use Rattle.std.proofs.lemmas.List.{length-take, length-drop}
use Rattle.run.proofs.Steps.{first_outside, next_inside}
use Rattle.run.proofs.values.outside_type.Goals as goal

pub returns-in-Some : goal.returns-in-Some
returns-in-Some c =
    let start = c.loop-j.j * length c.args.types.now in
    let end = c.min-end.result in
    let long = length-take (end - start) (drop start c.args.table.now) in
    let behind = length-drop start c.args.table.now in
    first_outside c.args.types.now c.args.table.now c.loop-j.j (end - start) (omega (arith, long, behind, c.min-end.ensures)) c.loop-j.invariant (λ some. omega (arith, long, behind, c.min-end.ensures)) c.in-Some.s (search rules)

pub loop-j-preserved : goal.loop-j-preserved
loop-j-preserved c =
    let start = c.loop-j.j * length c.args.types.now in
    let end = c.min-end.result in
    let long = length-take (end - start) (drop start c.args.table.now) in
    let behind = length-drop start c.args.table.now in
    next_inside c.args.types.now c.args.table.now c.loop-j.j (end - start) (omega (arith, long, behind, c.min-end.ensures)) c.loop-j.invariant
    (λ e h l. omega (arith, long, behind, c.min-end.ensures)) (search rules)
