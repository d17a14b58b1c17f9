use Rattle.std.proofs.Common.{◌≡◌, ◌+◌, ◌-◌, ◌<◌, ◌≤◌, length, take, drop, sym, ◌∙◌, subst, arith}
use Rattle.std.proofs.lemmas.List.{length-take, length-take-le}
use Rattle.casefile.specs.Lines.{Keyed}
use Rattle.casefile.proofs.Keys.{keyed_line, unkeyed_line}
use Rattle.casefile.proofs.line.Lines.keyed.Goals as goal

pub returns-then-not-starts_with-clause-found : goal.returns-then-not-starts_with-clause-found
returns-then-not-starts_with-clause-found c =
    unkeyed_line c.args.self.now.rest.bytes.now c.args.key.now c.args.self.now.rest.at c.in_ok-end.end c.in_ok-end.ensures (sym c.if-not-starts_with.true ∙ c.starts_with.ensures.value)

pub returns-clause-found : goal.returns-clause-found
returns-clause-found c =
    let bs = c.args.self.now.rest.bytes.now in
    let at = c.args.self.now.rest.at in
    let end = c.in_ok-end.end in
    let stops : end < length bs = c.in_ok-end.ensures.high in
    let here : length (take end bs) ≡ end = length-take-le end bs (omega arith) in
    let size : length (take (end - at) (drop at bs)) ≤ end - at = simp length-take (omega arith) in
    let fits : length c.args.key.now ≤ length (take (end - at) (drop at bs)) = c.starts_with.ensures.bound c.if-not-starts_with.false in
    subst (λ e. Keyed bs at c.args.key.now (at + length c.args.key.now) e) (sym here)
    (keyed_line bs c.args.key.now at end c.in_ok-end.ensures (omega arith) (sym c.if-not-starts_with.false ∙ c.starts_with.ensures.value))
