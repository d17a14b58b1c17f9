-- Lines and their keys.
use Rattle.std.proofs.Common.{◌≡◌, ℕ, ◌+◌, ◌-◌, ◌<◌, ◌≤◌, List, length, take, drop, true, false, sym, ◌∙◌, ⊎_elim, refl, arith}
use Rattle.std.specs.Prelude.{nat_eq}
use Rattle.std.specs.List.{starts_with}
use Rattle.std.specs.Cmp.Lexicographic.{same_text, other_text}
use Rattle.std.proofs.lemmas.Bool.{cases_order}
use Rattle.std.proofs.lemmas.List.{take-take}
use Rattle.text.specs.Lines.{FirstOf}
use Rattle.casefile.specs.Lines.{Keyed, Unkeyed}

-- a byte stands first at one place
first_once : (b : ℕ) (bs : List ℕ) (from d e : ℕ) → FirstOf b bs from d → FirstOf b bs from e → d ≡ e
first_once b bs from d e p q =
    ⊎_elim
    (λ (s : d ≡ e). s)
    (λ s. ⊎_elim (λ (t : d < e). absurd (q.none_before d p.low t p.here)) (λ (t : e < d). absurd (p.none_before e q.low t q.here)) s)
    (cases_order d e)

-- the line that begins at `at` and ends at `end` begins with the key
pub keyed_line : (bs key : List ℕ) (at end : ℕ) → FirstOf 10 bs at end → length key ≤ end - at → true ≡ starts_with nat_eq (take (end - at) (drop at bs)) key → Keyed bs at key (at + length key) end
keyed_line bs key at end first fits test =
    let low : at ≤ end = first.low in
    record {
      ended = first;
      begins = sym (take-take (length key) (end - at) (drop at bs) fits) ∙ sym (same_text key (take (length key) (take (end - at) (drop at bs))) test);
      after = refl;
      within = omega arith;
    }

-- it does not
pub unkeyed_line : (bs key : List ℕ) (at end : ℕ) → FirstOf 10 bs at end → false ≡ starts_with nat_eq (take (end - at) (drop at bs)) key → Unkeyed bs at key
unkeyed_line bs key at end first test start stop line =
    let same : stop ≡ end = first_once 10 bs at stop end line.ended first in
    let after : start ≡ at + length key = line.after in
    let within : start ≤ stop = line.within in
    let fits : length key ≤ end - at = omega arith in
    other_text key (take (length key) (take (end - at) (drop at bs))) test (sym line.begins ∙ sym (take-take (length key) (end - at) (drop at bs) fits))
