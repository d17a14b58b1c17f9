-- Two passes find the truth at every step.
use Rattle.std.proofs.Common.{◌≡◌, ℕ, zero, suc, ◌+◌, ◌-◌, ◌<◌, ◌≤◌, Bool, true, false, not, ◌&&◌, ◌||◌, ◌⊎◌, Decides, sym, refl, ap, ◌∙◌, subst, inl, inr, arith}
use Rattle.std.proofs.Math.Bool.{not-not}
use Rattle.std.proofs.lemmas.Bool.{or_cases, or_left, or_right, and_parts, and_from, both_ways, cases_Bool, not-true, not_from_false}
use Rattle.looping.specs.Words.{after, onward, visit, Loops, Within}
use Rattle.looping.specs.Laws.{SomeVisit, AllVisits, UntilVisit}
use Rattle.looping.specs.Columns.{On}
use Rattle.looping.specs.Sweeps.{down, swept}
use Rattle.looping.proofs.Paths.{after_below, after_last, onward-suc, visit_low}
use Rattle.looping.proofs.Walks.{Reach, visit_reach, reach_visit}

abbrev pub until_turn : (ℕ → Bool) → (ℕ → Bool) → ℕ → Bool → Bool
until_turn p q i x = q i || (p i && x)

abbrev pub some_turn : (ℕ → Bool) → ℕ → Bool → Bool
some_turn q i x = q i || x

abbrev pub all_turn : (ℕ → Bool) → ℕ → Bool → Bool
all_turn q i x = q i && x

module _ (l c : ℕ) (good : Loops l c) (p q : ℕ → Bool) where
  abbrev Reached : ℕ → Type 0
  Reached i = Reach l c (On p) (On q) i

  here : (i : ℕ) → q i ≡ true → Reached i
  here i h = (0, h, λ m b. absurd (omega arith))

  more : (i : ℕ) → p i ≡ true → Reached (after l c i) → Reached i
  more i h r = (suc r.0, subst (On q) (sym (onward-suc l c i r.0)) r.1, each)
    where
      each : (m : ℕ) → m < suc r.0 → p (onward l c i m) ≡ true
      each zero b = h
      each (suc m) b = subst (On p) (sym (onward-suc l c i m)) (r.2 m (omega arith))

  less : (i : ℕ) → Reached i → (q i ≡ true) ⊎ ((p i ≡ true) × Reached (after l c i))
  less i (zero, h, each) = inl h
  less i (suc n, h, each) =
      inr (each 0 (omega arith), (n, subst (On q) (onward-suc l c i n) h, λ m b. subst (On p) (onward-suc l c i m) (each (suc m) (omega arith))))

  sound_turn : (i : ℕ) (x : Bool) → (x ≡ true → Reached (after l c i)) → until_turn p q i x ≡ true → Reached i
  sound_turn i x f h =
      elim (or_cases (q i) (p i && x) h) [
        | inl a ↦ here i a
        | inr b ↦ let s = and_parts (p i) x b in more i s.0 (f s.1)
      ]

  full_turn : (i : ℕ) (x : Bool) → (Reached (after l c i) → x ≡ true) → Reached i → until_turn p q i x ≡ true
  full_turn i x f r =
      elim (less i r) [
        | inl a ↦ or_left (q i) (p i && x) a
        | inr b ↦ or_right (q i) (p i && x) (and_from (p i) x b.0 (f b.1))
      ]

  step_back : (d : ℕ) → suc d ≤ l → after l c (l - suc d) ≡ l - d
  step_back d h = let s : suc (l - suc d) ≡ l - d = omega arith in after_below l c (l - suc d) (omega arith) ∙ s

  pass_sound : (last : Bool) → (last ≡ true → Reached c) → (d : ℕ) → d ≤ l → down (until_turn p q) last l d ≡ true → Reached (after l c (l - d))
  pass_sound last f zero h e = subst Reached (sym (after_last l c (l - 0) (omega arith))) (f e)
  pass_sound last f (suc d) h e =
      subst Reached (sym (step_back d h)) (sound_turn (l - d) (down (until_turn p q) last l d) (pass_sound last f d (omega arith)) e)

  pass_full : (last : Bool) → (Reached c → last ≡ true) → (d : ℕ) → d ≤ l → Reached (after l c (l - d)) → down (until_turn p q) last l d ≡ true
  pass_full last f zero h r = f (subst Reached (after_last l c (l - 0) (omega arith)) r)
  pass_full last f (suc d) h r =
      full_turn (l - d) (down (until_turn p q) last l d) (pass_full last f d (omega arith)) (subst Reached (step_back d h) r)

  -- what is reached before the last step is found by a pass that starts from anything
  found : (last : Bool) (n i d : ℕ) → i + n ≤ l → d + i ≡ l → q (i + n) ≡ true → ((m : ℕ) → m < n → p (i + m) ≡ true) → down (until_turn p q) last l (suc d) ≡ true
  found last zero i d h e a b =
      let s : i + 0 ≡ l - d = omega arith in
      or_left (q (l - d)) (p (l - d) && down (until_turn p q) last l d) (subst (On q) s a)
  found last (suc n) i zero h e a b = absurd (omega arith)
  found last (suc n) i (suc d) h e a b =
      let s : i + 0 ≡ l - suc d = omega arith in
      let t : i + suc n ≡ suc i + n = omega arith in
      or_right (q (l - suc d)) (p (l - suc d) && down (until_turn p q) last l (suc d))
      (and_from (p (l - suc d)) (down (until_turn p q) last l (suc d)) (subst (On p) s (b 0 (omega arith)))
      (found last n (suc i) d (omega arith) (omega arith) (subst (On q) t a)
      (λ m k. let u : i + suc m ≡ suc i + m = omega arith in subst (On p) u (b (suc m) (omega arith)))))

  loop_within : Within l c
  loop_within = record { low = good.low; high = good.high }

  at_step : (i : ℕ) → Within l i → after l c (l - (suc l - i)) ≡ i
  at_step i w = let s : suc (l - (suc l - i)) ≡ i = omega (arith, w.low, w.high) in after_below l c (l - (suc l - i)) (omega (arith, w.low, w.high)) ∙ s

  first_pass : Decides (down (until_turn p q) false l (suc l - c)) (Reached c)
  first_pass =
      (λ e. subst Reached (at_step c loop_within) (pass_sound false (λ z. absurd (both_ways false refl z)) (suc l - c) (omega (arith, good.low)) e), full)
    where
      full : Reached c → down (until_turn p q) false l (suc l - c) ≡ true
      full r =
          let u = reach_visit l c good (On p) (On q) c loop_within r in
          let s : suc (l - c) ≡ suc l - c = omega (arith, good.high) in
          let low : (m : ℕ) → m ≤ u.0 → visit l c c m ≡ c + m = λ m h. visit_low l c c m (omega (arith, u.1, good.high)) in
          subst (λ (d : ℕ). down (until_turn p q) false l d ≡ true) s
          (found false u.0 c (l - c) (omega (arith, u.1, good.high)) (omega (arith, good.high)) (subst (On q) (low u.0 (omega arith)) u.2)
          (λ m h. subst (On p) (low m (omega arith)) (u.3 m h)))

  pub until_swept : (i : ℕ) → Within l i → Decides (swept (until_turn p q) false l c i) (UntilVisit l c (On p) (On q) i)
  until_swept i w =
      let last = down (until_turn p q) false l (suc l - c) in (
        λ e. reach_visit l c good (On p) (On q) i w (subst Reached (at_step i w) (pass_sound last first_pass.0 (suc l - i) (omega (arith, w.low)) e)),
        λ u. pass_full last first_pass.1 (suc l - i) (omega (arith, w.low)) (subst Reached (sym (at_step i w)) (visit_reach l c good (On p) (On q) i w u)),
      )

module _ (l c : ℕ) (good : Loops l c) (q : ℕ → Bool) where
  pub some_swept : (i : ℕ) → Within l i → Decides (swept (some_turn q) false l c i) (SomeVisit l c (On q) i)
  some_swept i w =
      let u = until_swept l c good (λ _. true) q i w in
      (λ e. let v = u.0 e in (v.0, v.1, v.2), λ v. u.1 (v.0, v.1, v.2, λ m h. refl))

  -- the passes for "all" mirror those for "some"
  mirror : (last : Bool) (d : ℕ) → down (all_turn q) last l d ≡ not (down (some_turn (λ i. not (q i))) (not last) l d)
  mirror true zero = refl
  mirror false zero = refl
  mirror last (suc d) = turn (q (l - d)) (down (all_turn q) last l d) (down (some_turn (λ i. not (q i))) (not last) l d) (mirror last d)
    where
      turn : (a x y : Bool) → x ≡ not y → (a && x) ≡ not (not a || y)
      turn true x y e = e
      turn false x y e = refl

  swept_mirror : (i : ℕ) → swept (all_turn q) true l c i ≡ not (swept (some_turn (λ i. not (q i))) false l c i)
  swept_mirror i =
      let e : not (down (all_turn q) true l (suc l - c)) ≡ down (some_turn (λ i. not (q i))) false l (suc l - c) = ap not (mirror true (suc l - c)) ∙ not-not (down (some_turn (λ i. not (q i))) false l (suc l - c)) in
      mirror (down (all_turn q) true l (suc l - c)) (suc l - i) ∙ ap (λ (x : Bool). not (down (some_turn (λ i. not (q i))) x l (suc l - i))) e

module _ (l c : ℕ) (good : Loops l c) (q : ℕ → Bool) where
  pub all_swept : (i : ℕ) → Within l i → Decides (swept (all_turn q) true l c i) (AllVisits l c (On q) i)
  all_swept i w = (sound, full)
    where
      u : Decides (swept (some_turn (λ i. not (q i))) false l c i) (SomeVisit l c (On (λ i. not (q i))) i)
      u = some_swept l c good (λ i. not (q i)) i w

      sound : swept (all_turn q) true l c i ≡ true → AllVisits l c (On q) i
      sound e n h =
          elim (cases_Bool (q (visit l c i n))) [
            | inl a ↦ a
            | inr b ↦ absurd (both_ways (swept (some_turn (λ i. not (q i))) false l c i) (not-true (swept (some_turn (λ i. not (q i))) false l c i) (sym (swept_mirror l c good q i) ∙ e)) (u.1 (n, h, not_from_false (q (visit l c i n)) b)))
          ]

      full : AllVisits l c (On q) i → swept (all_turn q) true l c i ≡ true
      full f =
          swept_mirror l c good q i ∙ elim (cases_Bool (swept (some_turn (λ i. not (q i))) false l c i)) [
            | inl a ↦ let v = u.0 a in absurd (both_ways (q (visit l c i v.0)) (not-true (q (visit l c i v.0)) v.2) (f v.0 v.1))
            | inr b ↦ not_from_false (swept (some_turn (λ i. not (q i))) false l c i) b
          ]
