-- What holds of the rest of a list, said of the list: the first place of a byte, and a run of bytes that pass.
use Rattle.std.proofs.Common.{◌≡◌, ℕ, ◌+◌, ◌-◌, ◌<◌, ◌≤◌, Bool, true, false, List, length, get_or, drop, Some, None, ⊎_elim, arith, subst, ap, ◌∙◌, length-drop}
use Rattle.std.specs.Prelude.{◌==◌, position}
use Rattle.std.specs.List.{position_or_len}
use Rattle.std.proofs.lemmas.Bool.{cases_lt}
use Rattle.std.proofs.lemmas.List.{get_or-drop}
use Rattle.std.proofs.lemmas.List.Quantifiers.{position-Some}
use Rattle.std.proofs.lemmas.List.Sums.{fails_before_first}
use Rattle.std.proofs.lemmas.Bool.Decides.{nat_tests}
use Rattle.text.specs.Lines.{NoneOf, FirstOf}
use Rattle.text.specs.Runs.{Passed}

module _ (b : ℕ) (bs : List ℕ) (from : ℕ) where
  at_behind : (k : ℕ) → from ≤ k → get_or (drop from bs) (k - from) 0 ≡ get_or bs k 0
  at_behind k h = get_or-drop from bs (k - from) 0 ∙ ap (λ n. get_or bs n 0) (omega arith)

  pub first_behind : (i : ℕ) → position (λ x. x == b) (drop from bs) ≡ Some i → FirstOf b bs from (from + i)
  first_behind i e =
      let p = position-Some (λ x. x == b) (drop from bs) i 0 e in
      let l = length-drop from bs in
      record {
        low = omega arith;
        high = omega (arith, p.0, l);
        here = let q = p.1 in let r = get_or-drop from bs i 0 in grind (arith, nat_tests);
        none_before = λ k lo hi z. let q = p.2 (k - from) (omega arith) in let r = at_behind k lo in grind (arith, nat_tests);
      }

  pub none_behind : position (λ x. x == b) (drop from bs) ≡ None → NoneOf b bs from
  none_behind e k lo hi z =
      let l = length-drop from bs in
      let r = at_behind k lo in
      let f = fails_before_first (λ x. x == b) (drop from bs) (k - from) 0 in
      ⊎_elim
      (λ (s : position_or_len (λ x. x == b) (drop from bs) < length (drop from bs)). grind (arith, nat_tests))
      (λ (s : length (drop from bs) ≤ position_or_len (λ x. x == b) (drop from bs)). let q = f (omega (arith, l)) in grind (arith, nat_tests))
      (cases_lt (position_or_len (λ x. x == b) (drop from bs)) (length (drop from bs)))

pub passed_behind : (says : ℕ → Bool → Type 0) (bs : List ℕ) (from n : ℕ) → from ≤ length bs → Passed says (drop from bs) 0 n → Passed says bs from (from + n)
passed_behind says bs from n h p =
    let l = length-drop from bs in
    record {
      low = omega arith;
      high = omega (arith, l, p.high);
      each = λ k lo hi. subst (λ b. says b true) (at_behind 0 bs from k lo) (p.each (k - from) (omega arith) (omega arith));
      stops = λ lt. subst (λ b. says b false) (get_or-drop from bs n 0) (p.stops (omega (arith, l)));
    }
