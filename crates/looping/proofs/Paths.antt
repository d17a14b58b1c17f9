-- Walks along a looping run: each step that is reached is reached within the visits.
use Rattle.std.proofs.Common.{◌≡◌, ℕ, zero, suc, ◌+◌, ◌-◌, ◌<◌, ◌≤◌, ltb, leb, sym, refl, ap, ◌∙◌, inl, inr, add-zero, add-suc, arith}
use Rattle.std.proofs.lemmas.Bool.{cases_lt, cond-true, cond-false, lt-ltb, le-ltb, le-leb, lt-leb}
use Rattle.looping.specs.Words.{after, onward, word, visits, visit, Loops, Within}

module _ (l c : ℕ) where
  pub after_below : (i : ℕ) → i < l → after l c i ≡ suc i
  after_below i h = cond-true (ltb i l) (suc i) c (lt-ltb i l h)

  pub after_last : (i : ℕ) → l ≤ i → after l c i ≡ c
  after_last i h = cond-false (ltb i l) (suc i) c (le-ltb i l h)

  pub visit_low : (i n : ℕ) → i + n ≤ l → visit l c i n ≡ i + n
  visit_low i n h = cond-true (leb (i + n) l) (i + n) (c + (i + n - suc l)) (le-leb (i + n) l h)

  pub visit_high : (i n : ℕ) → l < i + n → visit l c i n ≡ c + (i + n - suc l)
  visit_high i n h = cond-false (leb (i + n) l) (i + n) (c + (i + n - suc l)) (lt-leb (i + n) l h)

  -- a walk in two parts
  pub onward-onward : (i m n : ℕ) → onward l c i (m + n) ≡ onward l c (onward l c i m) n
  onward-onward i m zero = rw add-zero refl
  onward-onward i m (suc n) = rw add-suc (ap (after l c) (onward-onward i m n))

  pub onward-suc : (i n : ℕ) → onward l c i (suc n) ≡ onward l c (after l c i) n
  onward-suc i zero = refl
  onward-suc i (suc n) = ap (after l c) (onward-suc i n)

  module _ (good : Loops l c) where
    pub after_within : (i : ℕ) → Within l i → Within l (after l c i)
    after_within i w =
        elim (cases_lt i l) [
          | inl h ↦ rw (after_below i h) (record { low = omega arith; high = omega arith })
          | inr h ↦ rw (after_last i h) (record { low = good.low; high = good.high })
        ]

    pub onward_within : (i n : ℕ) → Within l i → Within l (onward l c i n)
    onward_within i zero w = w
    onward_within i (suc n) w = after_within (onward l c i n) (onward_within i n w)

    pub word_within : (k : ℕ) → Within l (word l c k)
    word_within k = onward_within 1 k (record { low = omega arith; high = omega (arith, good.low, good.high) })

    -- the walk of the visits
    pub visits_onward : (i n : ℕ) → Within l i → n < visits l c i → visit l c i n ≡ onward l c i n
    visits_onward i zero w h = visit_low i 0 (omega (arith, w.high)) ∙ add-zero i
    visits_onward i (suc n) w h =
        let before : visit l c i n ≡ onward l c i n = visits_onward i n w (omega arith) in
        elim (cases_lt (i + n) l) [
          | inl b ↦
              let e : visit l c i n ≡ i + n = visit_low i n (omega arith) in
              visit_low i (suc n) (omega arith) ∙ add-suc i n ∙ sym (after_below (i + n) b) ∙ ap (after l c) (sym e ∙ before)
          | inr b ↦ elim (cases_lt l (i + n)) [
            | inl d ↦
                let e : visit l c i n ≡ c + (i + n - suc l) = visit_high i n d in
                let s : c + (i + suc n - suc l) ≡ suc (c + (i + n - suc l)) = omega arith in
                visit_high i (suc n) (omega arith) ∙ s ∙ sym (after_below (c + (i + n - suc l)) (omega arith)) ∙ ap (after l c) (sym e ∙ before)
            | inr d ↦
                let e : visit l c i n ≡ i + n = visit_low i n d in
                let s : c + (i + suc n - suc l) ≡ c = omega arith in
                visit_high i (suc n) (omega arith) ∙ s ∙ sym (after_last (i + n) b) ∙ ap (after l c) (sym e ∙ before)
          ]
        ]

    -- after the last visit the walk is back at a visit
    back : (i n : ℕ) → Within l i → suc n ≡ visits l c i → onward l c i (suc n) ≡ onward l c i (c - i)
    back i n w h =
        let here : visit l c i n ≡ onward l c i n = visits_onward i n w (omega arith) in
        let there : visit l c i (c - i) ≡ onward l c i (c - i) = visits_onward i (c - i) w (omega (arith, w.high, good.high)) in
        elim (cases_lt c i) [
          | inl b ↦
              let e : visit l c i n ≡ c + (i + n - suc l) = visit_high i n (omega arith) in
              let f : visit l c i (c - i) ≡ i + (c - i) = visit_low i (c - i) (omega (arith, w.high)) in
              let s : suc (c + (i + n - suc l)) ≡ i + (c - i) = omega (arith, w.high) in
              ap (after l c) (sym here ∙ e) ∙ after_below (c + (i + n - suc l)) (omega (arith, w.high)) ∙ s ∙ sym f ∙ there
          | inr b ↦
              let e : visit l c i n ≡ i + n = visit_low i n (omega (arith, w.high)) in
              let f : visit l c i (c - i) ≡ i + (c - i) = visit_low i (c - i) (omega (arith, good.high)) in
              let s : c ≡ i + (c - i) = omega arith in
              ap (after l c) (sym here ∙ e) ∙ after_last (i + n) (omega arith) ∙ s ∙ sym f ∙ there
        ]

    -- each step on the walk is a visit, and not a later one
    pub folds : (i n : ℕ) → Within l i → (m : ℕ) × (m < visits l c i) × (m ≤ n) × (onward l c i m ≡ onward l c i n)
    folds i zero w = (0, omega (arith, w.high), omega arith, refl)
    folds i (suc n) w =
        let f = folds i n w in
        elim (cases_lt (suc f.0) (visits l c i)) [
          | inl h ↦ (suc f.0, h, omega (arith, f.2), ap (after l c) f.3)
          | inr h ↦ (c - i, omega (arith, w.high, good.high), omega (arith, f.1, f.2, w.high, good.high), sym (back i f.0 w (omega (arith, f.1))) ∙ ap (after l c) f.3)
        ]

    pub word_first : (k : ℕ) → k < l → word l c k ≡ suc k
    word_first zero h = refl
    word_first (suc k) h = let e : word l c k ≡ suc k = word_first k (omega arith) in ap (after l c) e ∙ after_below (suc k) h

    -- each step is shown
    pub word_step : (i : ℕ) → Within l i → word l c (i - 1) ≡ i
    word_step i w = let s : suc (i - 1) ≡ i = omega (arith, w.low) in word_first (i - 1) (omega (arith, w.low, w.high)) ∙ s
