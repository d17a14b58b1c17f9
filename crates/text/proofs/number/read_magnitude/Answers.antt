use Rattle.std.proofs.Common.{◌≡◌, ℕ, ◌+◌, ◌*◌, ◌^◌, ◌<◌, ◌≤◌, List, length, get_or, take, sym, ◌∙◌, subst, inl, inr, arith, length-take}
use Rattle.std.specs.Str.Parse.{AllDigits, digits_value}
use Rattle.std.proofs.lemmas.Bool.{false≢true}
use Rattle.std.proofs.lemmas.List.{take_all}
use Rattle.std.proofs.lemmas.Int.Digits.{digits_more, digits_value_more, digits_value-lt}
use Rattle.text.proofs.Magnitudes.{some, five, no_zero_first, all_digits, value_is, magnitude_from, digit_value}
use Rattle.text.proofs.number.read_magnitude.Goals as goal

bounded : (bs : List ℕ) (i : ℕ) → i ≤ length bs → AllDigits 10 (take i bs) → digits_value 10 (take i bs) < 10 ^ i
bounded bs i h d =
    let e : length (take i bs) ≡ i = simp length-take (omega arith) in
    subst (λ (n : ℕ). digits_value 10 (take i bs) < 10 ^ n) e (digits_value-lt 10 (take i bs) d)

pub returns-then-length-eq0 : goal.returns-then-length-eq0
returns-then-length-eq0 c n m =
    let s = some c.args.bytes.now n m in
    let f = five c.args.bytes.now n m in
    elim c.then-length-eq0.either [ inl e ↦ omega arith | inr e ↦ omega arith ]

pub returns-then-length-gt1 : goal.returns-then-length-gt1
returns-then-length-gt1 c n m =
    let e = no_zero_first c.args.bytes.now n m c.if-bytes-eq48.true in omega arith

pub returns-then-not-is_digit : goal.returns-then-not-is_digit
returns-then-not-is_digit c n m =
    false≢true (c.if-not-is_digit.ensures ∙ all_digits c.args.bytes.now n m c.loop-b.b-index c.loop-b-test.true)

pub loop-b-preserved : goal.loop-b-preserved
loop-b-preserved c =
    let bs = c.args.bytes.now in
    let i = c.loop-b.b-index in
    let dv = digit_value (get_or bs i 0) (sym c.if-not-is_digit.ensures) in
    let ds = digits_more 10 bs i c.loop-b-test.true c.loop-b.invariant.0 dv.1 in
    let v = digits_value_more 10 bs i c.loop-b-test.true in
    let e : c.loop-b.n * 10 + c.from.result ≡ digits_value 10 (take (i + 1) bs) = omega (arith, c.loop-b.invariant.1, v, dv.0, c.from.ensures) in
    (ds, e, rw e (bounded bs (i + 1) (omega (arith, c.loop-b-test.true)) ds))

pub returns-then-n-gt-LARGEST : goal.returns-then-n-gt-LARGEST
returns-then-n-gt-LARGEST c n m =
    let bs = c.args.bytes.now in
    let h : length bs ≤ c.loop-b.b-index = omega arith in
    let e : take c.loop-b.b-index bs ≡ bs = take_all c.loop-b.b-index bs h in
    let v : c.loop-b.n ≡ digits_value 10 bs = rw e at c.loop-b.invariant.1 in
    omega (arith, v, value_is bs n m, m.high, c.if-n-gt-LARGEST.true)

pub returns : goal.returns
returns c =
    let bs = c.args.bytes.now in
    let h : length bs ≤ c.loop-b.b-index = omega arith in
    let e : take c.loop-b.b-index bs ≡ bs = take_all c.loop-b.b-index bs h in
    let v : c.loop-b.n ≡ digits_value 10 bs = rw e at c.loop-b.invariant.1 in
    let d : AllDigits 10 bs = rw e at c.loop-b.invariant.0 in
    let first : get_or bs 0 0 ≡ 48 → length bs ≡ 1 = λ z. elim c.else-bytes-eq48.either [ inl w ↦ omega (arith, w.1) | inr w ↦ absurd (w z) ] in
    rw v (magnitude_from bs d (omega arith) first (omega arith))
