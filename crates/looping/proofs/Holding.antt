-- The laws of visits hold.
use Rattle.std.proofs.Common.{◌≡◌, ℕ, zero, suc, ◌+◌, ◌-◌, ◌%◌, ◌<◌, Bool, ◌↔◌, sym, ap, ◌∙◌, inl, inr, add-zero, add-suc, mod-lt, mod-eq_of_lt, arith}
use Rattle.std.proofs.Math.Nat.{zero-mod, suc-mod, mod_self}
use Rattle.std.proofs.lemmas.Bool.{cases_lt}
use Rattle.looping.specs.Words.{after, word, Loops}
use Rattle.looping.specs.Logic.{Tree, Sat}
use Rattle.looping.specs.Laws.{SatStep, VisitLaws, Visits}
use Rattle.looping.proofs.Paths.{after_below, after_last, word_first, word_within, word_step}
use Rattle.looping.proofs.Sats.{decided, shown, means1, means2}

module _ (l c : ℕ) (good : Loops l c) where
  again : (j : ℕ) → word l c (l + j) ≡ c + j % (suc l - c)
  again zero =
      let s : l + 0 ≡ suc (l - 1) = omega (arith, good.low, good.high) in
      let e : word l c (l - 1) ≡ suc (l - 1) = word_first l c good (l - 1) (omega (arith, good.low, good.high)) in
      ap (word l c) s ∙ ap (after l c) e ∙ after_last l c (suc (l - 1)) (omega arith) ∙ (rw zero-mod (sym (add-zero c)))
  again (suc j) =
      let n = suc l - c in
      let small : j % (suc l - c) < suc l - c = mod-lt j (omega (arith, good.high)) in
      let e : word l c (l + suc j) ≡ after l c (c + j % (suc l - c)) = ap (word l c) (add-suc l j) ∙ ap (after l c) (again j) in
      elim (cases_lt (suc (j % (suc l - c))) (suc l - c)) [
        | inl h ↦
            let m : suc j % (suc l - c) ≡ suc (j % (suc l - c)) = suc-mod j (suc l - c) ∙ mod-eq_of_lt h in
            e ∙ after_below l c (c + j % (suc l - c)) (omega arith) ∙ sym (add-suc c (j % (suc l - c))) ∙ ap (λ (x : ℕ). c + x) (sym m)
        | inr h ↦
            let s : suc (j % (suc l - c)) ≡ suc l - c = omega arith in
            let m : suc j % (suc l - c) ≡ 0 = suc-mod j (suc l - c) ∙ ap (λ (x : ℕ). x % (suc l - c)) s ∙ mod_self (suc l - c) in
            e ∙ after_last l c (c + j % (suc l - c)) (omega (arith, good.high)) ∙ sym (add-zero c) ∙ ap (λ (x : ℕ). c + x) (sym m)
      ]

  module _ (holds : ℕ → ℕ → Bool) where
    at_step : (p : Tree ℕ) (j : ℕ) → Sat holds (word l c) p j ↔ SatStep holds l c p (word l c j)
    at_step p j =
        let e : word l c (word l c j - 1) ≡ word l c j = word_step l c good (word l c j) (word_within l c good j) in
        (shown l c good holds p j (word l c j - 1) (sym e), shown l c good holds p (word l c j - 1) j e)

    laws : VisitLaws l c holds
    laws =
        record {
          first = λ k h. word_first l c good k h ∙ (let s : suc k ≡ k + 1 = omega arith in s);
          again = again;
          within = word_within l c good;
          shown = shown l c good holds;
          means1 = λ o p k. means1 l c good holds p (SatStep holds l c p) (at_step p) o k;
          means2 = λ o p q k. means2 l c good holds p (SatStep holds l c p) (at_step p) q (SatStep holds l c q) (at_step q) o k;
          decided = decided l c good holds;
        }

pub visits_suffice : Visits
visits_suffice l c good holds = laws l c good holds
