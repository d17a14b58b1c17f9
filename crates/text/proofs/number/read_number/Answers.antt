use Rattle.std.proofs.Common.{◌≡◌, ◌∷◌}
use Rattle.text.proofs.Signs.{is_negative, below_minus}
use Rattle.text.proofs.number.read_number.Goals as goal

pub returns-in_err-z : goal.returns-in_err-z
returns-in_err-z c =
    let e : c.args.bytes.now ≡ 45 ∷ c.in-Some-eq45-default.behind.now = rw c.in-Some-eq45-default.field-0-0-test at c.in-Some-eq45-default.ensures.cases.0 in
    rw (c.from_residual.ensures, e) (λ z w. let k = is_negative _ z w in c.in_err-z.ensures _ k.2)

pub returns : goal.returns
returns c =
    let e : c.args.bytes.now ≡ 45 ∷ c.in-Some-eq45-default.behind.now = rw c.in-Some-eq45-default.field-0-0-test at c.in-Some-eq45-default.ensures.cases.0 in
    let h = c.in_ok-z.ensures in
    rw e (below_minus _ h.0 h.2 _ (rw h.1 at c.then_some.ensures))
