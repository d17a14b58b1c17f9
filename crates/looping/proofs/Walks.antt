-- What holds along a walk is seen at the visits.
use Rattle.std.proofs.Common.{◌≡◌, ℕ, ◌+◌, ◌-◌, ◌<◌, ◌≤◌, ◌↔◌, sym, ap, ◌∙◌, subst, arith}
use Rattle.looping.specs.Words.{onward, word, Loops, Within}
use Rattle.looping.specs.Laws.{SomeVisit, AllVisits, UntilVisit}
use Rattle.looping.proofs.Paths.{onward-onward, visits_onward, folds, word_within}

-- some step of the walk from i has Q, and all before it have P
abbrev pub Reach : ℕ → ℕ → (ℕ → Type 0) → (ℕ → Type 0) → ℕ → Type 0
Reach l c P Q i = (n : ℕ) × Q (onward l c i n) × ((m : ℕ) → m < n → P (onward l c i m))

module _ (l c : ℕ) (good : Loops l c) where
  module _ (P Q : ℕ → Type 0) (i : ℕ) (w : Within l i) where
    pub visit_reach : UntilVisit l c P Q i → Reach l c P Q i
    visit_reach u = (
      u.0,
      subst Q (visits_onward l c good i u.0 w u.1) u.2,
      λ m h. subst P (visits_onward l c good i m w (omega (arith, u.1))) (u.3 m h),
    )

    pub reach_visit : Reach l c P Q i → UntilVisit l c P Q i
    reach_visit r =
        let f = folds l c good i r.0 w in (
          f.0,
          f.1,
          subst Q (sym (visits_onward l c good i f.0 w f.1 ∙ f.3)) r.1,
          λ m h. subst P (sym (visits_onward l c good i m w (omega (arith, f.1)))) (r.2 m (omega (arith, f.2))),
        )

  pub word_on : (k j : ℕ) → k ≤ j → word l c j ≡ onward l c (word l c k) (j - k)
  word_on k j h = let e : j ≡ k + (j - k) = omega arith in ap (word l c) e ∙ onward-onward l c 1 k (j - k)

  -- P says of positions what S says of the steps that they show
  module _ (P S : ℕ → Type 0) (same : (j : ℕ) → P j ↔ S (word l c j)) where
    pub some_visits : (k : ℕ) → ((j : ℕ) × (k ≤ j) × P j) ↔ SomeVisit l c S (word l c k)
    some_visits k = (into, out)
      where
        into : ((j : ℕ) × (k ≤ j) × P j) → SomeVisit l c S (word l c k)
        into x =
            let w = word_within l c good k in
            let f = folds l c good (word l c k) (x.0 - k) w in
            (f.0, f.1, subst S (word_on k x.0 x.1 ∙ sym (visits_onward l c good (word l c k) f.0 w f.1 ∙ f.3)) ((same x.0).0 x.2))

        out : SomeVisit l c S (word l c k) → ((j : ℕ) × (k ≤ j) × P j)
        out x =
            let w = word_within l c good k in
            (k + x.0, omega arith, (same (k + x.0)).1 (subst S (visits_onward l c good (word l c k) x.0 w x.1 ∙ sym (onward-onward l c 1 k x.0)) x.2))

    pub all_visits : (k : ℕ) → ((j : ℕ) → k ≤ j → P j) ↔ AllVisits l c S (word l c k)
    all_visits k = (into, out)
      where
        into : ((j : ℕ) → k ≤ j → P j) → AllVisits l c S (word l c k)
        into x n h =
            subst S (onward-onward l c 1 k n ∙ sym (visits_onward l c good (word l c k) n (word_within l c good k) h)) ((same (k + n)).0 (x (k + n) (omega arith)))

        out : AllVisits l c S (word l c k) → ((j : ℕ) → k ≤ j → P j)
        out x j h =
            let w = word_within l c good k in
            let f = folds l c good (word l c k) (j - k) w in
            (same j).1 (subst S (visits_onward l c good (word l c k) f.0 w f.1 ∙ f.3 ∙ sym (word_on k j h)) (x f.0 f.1))

    module _ (Q R : ℕ → Type 0) (alike : (j : ℕ) → Q j ↔ R (word l c j)) where
      pub until_reach : (k : ℕ) → ((j : ℕ) × (k ≤ j) × Q j × ((i : ℕ) → k ≤ i → i < j → P i)) ↔ Reach l c S R (word l c k)
      until_reach k = (into, out)
        where
          into : ((j : ℕ) × (k ≤ j) × Q j × ((i : ℕ) → k ≤ i → i < j → P i)) → Reach l c S R (word l c k)
          into x = (
            x.0 - k,
            subst R (word_on k x.0 x.1) ((alike x.0).0 x.2),
            λ m h. subst S (onward-onward l c 1 k m) ((same (k + m)).0 (x.3 (k + m) (omega arith) (omega arith))),
          )

          out : Reach l c S R (word l c k) → ((j : ℕ) × (k ≤ j) × Q j × ((i : ℕ) → k ≤ i → i < j → P i))
          out r = (
            k + r.0,
            omega arith,
            (alike (k + r.0)).1 (subst R (sym (onward-onward l c 1 k r.0)) r.1),
            λ i h b. (same i).1 (subst S (sym (word_on k i h)) (r.2 (i - k) (omega arith))),
          )

      pub until_visits : (k : ℕ) → ((j : ℕ) × (k ≤ j) × Q j × ((i : ℕ) → k ≤ i → i < j → P i)) ↔ UntilVisit l c S R (word l c k)
      until_visits k =
          let w = word_within l c good k in
          (λ x. reach_visit S R (word l c k) w ((until_reach k).0 x), λ u. (until_reach k).1 (visit_reach S R (word l c k) w u))
