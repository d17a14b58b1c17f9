-- What `all` over the numbers below a bound answers.
use Rattle.std.proofs.Common.{ℕ, ◌<◌, Bool, true, false, length, Decides, MatchBool, sym, refl, subst, ◌∙◌, zero-add, arith}
use Rattle.std.specs.List.{AllWithin, HoldsAt, range_with_len}
use Rattle.std.proofs.lemmas.Bool.{false≢true}
use Rattle.std.proofs.lemmas.List.FromFn.{length-range_with_len, get_or-range_with_len}

pub below_decides : (Yes : ℕ → Type 0) (n : ℕ) (r : Bool)
    → MatchBool r (AllWithin Yes (range_with_len 0 n) 0 (length (range_with_len 0 n))) ((k : ℕ) × (k < length (range_with_len 0 n)) × HoldsAt (λ k. Yes k → ⊥) (range_with_len 0 n) k)
    → Decides r ((k : ℕ) → k < n → Yes k)
below_decides Yes n true all =
    let long = length-range_with_len 0 n in
    (λ _ k h. subst Yes (get_or-range_with_len 0 n k 0 h ∙ zero-add k) (all k 0 (omega arith) (omega (arith, long))), λ _. refl)
below_decides Yes n false one =
    let low : one.0 < n = omega (arith, one.1, length-range_with_len 0 n) in
    (λ e. absurd (false≢true e), λ all. absurd (one.2 0 (subst Yes (sym (get_or-range_with_len 0 n one.0 0 low ∙ zero-add one.0)) (all one.0 low))))
