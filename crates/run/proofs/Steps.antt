-- The values of one step of a table, and of all.
use Rattle.std.proofs.Common.{◌≡◌, ℕ, ◌+◌, ◌-◌, ◌*◌, ◌<◌, ◌≤◌, List, length, take, drop, ℤ, pos, sym, ◌∙◌, subst, ⊎_elim, add-mul, arith}
use Rattle.std.proofs.lemmas.Bool.{cases_lt}
use Rattle.std.proofs.lemmas.List.{length-take, get_or-take, get_or-drop}
use Rattle.std.proofs.lemmas.Nat.{mod-mul-add}
use Rattle.blocks.specs.Blocks.{InType}
use Rattle.blocks.specs.declared.types.ValueType.{ValueType}
use Rattle.diagram.specs.Typing.{type_at}
use Rattle.run.specs.Values.{value_at, InItsType, FirstOutside, FirstOutsideAt}

module _ (types : List ValueType) (table : List ℤ) (j k : ℕ) where
  -- k entries from the first of step j on
  abbrev pub step_of : List ℤ
  step_of = take k (drop (j * length types) table)

  same_value : (s : ℕ) → s < length step_of → value_at step_of s ≡ value_at table (j * length types + s)
  same_value s h =
      get_or-take k (drop (j * length types) table) s (pos 0) (omega (arith, length-take k (drop (j * length types) table))) ∙ get_or-drop (j * length types) table s (pos 0)

  inside : (s : ℕ) → s < length types → s < length step_of → InType (type_at types s) (value_at step_of s) → InItsType types (length types) table (j * length types + s)
  inside s low h t =
      subst (λ e. InType (type_at types e) (value_at table (j * length types + s))) (sym (mod-mul-add j (length types) s low)) (subst (InType (type_at types s)) (same_value s h) t)

  outside : (s : ℕ) → s < length types → s < length step_of → InItsType types (length types) table (j * length types + s) → InType (type_at types s) (value_at step_of s)
  outside s low h t =
      subst (InType (type_at types s)) (sym (same_value s h)) (subst (λ e. InType (type_at types e) (value_at table (j * length types + s))) (mod-mul-add j (length types) s low) t)

  module _ (few : length step_of ≤ length types) (before : (e : ℕ) → e < j * length types → e < length table → InItsType types (length types) table e) where
    -- the first wrong value of a step is the first of the table
    pub first_outside : (0 < length step_of → j * length types + length step_of ≤ length table) → (s : ℕ) → FirstOutsideAt types step_of s → FirstOutside types (length types) table (length table) (j * length types + s)
    first_outside fits s x =
        let here = x.below in
        let room = fits (omega (arith, here)) in
        record {
          below = omega (arith, here, room);
          here = λ t. x.here (outside s (omega (arith, here)) here t);
          before = λ e h. ⊎_elim (λ (b : e < j * length types). before e b (omega (arith, here, room)))
              (λ (b : j * length types ≤ e).
              let q : ℕ = e - j * length types in
              let same : j * length types + q ≡ e = omega arith in
              subst (InItsType types (length types) table) same (inside q (omega (arith, here)) (omega (arith, here)) (x.before q (omega arith))))
              (cases_lt e (j * length types));
        }

    -- one step more lies in its types
    pub next_inside : ((e : ℕ) → e < j * length types + length types → e < length table → e < j * length types + length step_of)
        → ((s : ℕ) → s < length step_of → InType (type_at types s) (value_at step_of s))
        → (e : ℕ) → e < (j + 1) * length types → e < length table → InItsType types (length types) table e
    next_inside reaches here e h low =
        ⊎_elim (λ (b : e < j * length types). before e b low)
        (λ (b : j * length types ≤ e).
        let q : ℕ = e - j * length types in
        let same : j * length types + q ≡ e = omega arith in
        let r = reaches e (omega (arith, add-mul j 1 (length types))) low in
        subst (InItsType types (length types) table) same (inside q (omega (arith, r)) (omega (arith, r)) (here q (omega (arith, r)))))
        (cases_lt e (j * length types))
