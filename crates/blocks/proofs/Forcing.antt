-- Which sets of pins force a function of rows.
use Rattle.std.specs.Prelude.{◌≡◌, ℕ, ◌<◌, ◌≤◌, Bool, true, false, ◌≢◌, List, length, replicate, ℤ, pos, Decides, MatchBool, slice_index_or, refl}
use Rattle.std.proofs.Common.{sym, ap, subst, ◌∙◌, ⊎_elim, arith, length-set, get_or-set_same, get_or-set_other}
use Rattle.std.proofs.Math.ListN as ln
use Rattle.std.proofs.lemmas.List.{ext_get_or, get_or_past, get_or-replicate, length-replicate}
use Rattle.std.proofs.lemmas.Bool.{cases_lt, cases_eq, false≢true}
use Rattle.blocks.specs.declared.types.ValueType.{ValueType}
use Rattle.blocks.specs.declared.types.ValueType.TheVariants.{Truth}
use Rattle.blocks.specs.Blocks.{InType, Lawful, Has, Agree, Forces}
use Rattle.blocks.specs.Filled.{filled, FirstFree}
use Rattle.blocks.specs.Laws.{FullForces}
use Rattle.blocks.proofs.Fills.{cases_has, filled_eight, filled_free, filled_kept, filled_past}

-- ---- any pin types

pub full_set_forces : (pins : List ValueType) (f : List ℤ → ℤ) → FullForces pins f
full_set_forces pins f row set good all other g agree =
    ap f (ext_get_or (pos 0) other row (g.eight ∙ sym good.eight) (λ k h. ⊎_elim
    (λ b. agree k (omega (arith, g.eight)) (all k b))
    (λ b. g.padded k b ∙ sym (good.padded k b))
    (cases_lt k (length pins))))

-- ---- all pins of one type

module _ (t : ValueType) (count : ℕ) where
  counted : length (replicate count t) ≡ count
  counted = length-replicate count t

  -- a lawful row, place by place
  pub value_at_pin : (row : List ℤ) → Lawful (replicate count t) row → (k : ℕ) → k < count → InType t (slice_index_or row k (pos 0))
  value_at_pin row good k h = subst (λ p. InType p (slice_index_or row k (pos 0))) (get_or-replicate count k t Truth h) (good.typed k (omega (arith, counted)))

  pub zero_past_pins : (row : List ℤ) → Lawful (replicate count t) row → (k : ℕ) → count ≤ k → slice_index_or row k (pos 0) ≡ pos 0
  zero_past_pins row good k h = good.padded k (omega (arith, counted))

  pub row_from : (row : List ℤ) → length row ≡ 8 → ((k : ℕ) → k < count → InType t (slice_index_or row k (pos 0))) → ((k : ℕ) → count ≤ k → slice_index_or row k (pos 0) ≡ pos 0) → Lawful (replicate count t) row
  row_from row l typed padded = record {
    eight = l;
    typed = λ k h. let b : k < count = omega (arith, counted) in subst (λ p. InType p (slice_index_or row k (pos 0))) (sym (get_or-replicate count k t Truth b)) (typed k b);
    padded = λ k h. padded k (omega (arith, counted));
  }

  module _ (row : List ℤ) (set : ℕ) (few : count ≤ 8) (good : Lawful (replicate count t) row) where
    -- all pins force
    pub full_forces : ((k : ℕ) → k < count → Has set k) → (f : List ℤ → ℤ) → Forces (replicate count t) f row set
    full_forces all f = full_set_forces (replicate count t) f row set good (λ k h. all k (omega (arith, counted)))

    -- one pin outside the set changed
    module _ (j : ℕ) (below : j < count) (free : Has set j → ⊥) (v : ℤ) (typed : InType t v) where
      put_lawful : Lawful (replicate count t) (ln.set row j v)
      put_lawful = row_from (ln.set row j v) (length-set row j v ∙ good.eight)
          (λ k h. ⊎_elim
          (λ e. subst (λ n. InType t (slice_index_or (ln.set row j v) n (pos 0))) (sym e) (subst (InType t) (sym (get_or-set_same row j v (pos 0) (omega (arith, good.eight)))) typed))
          (λ ne. subst (InType t) (sym (get_or-set_other row j k v (pos 0) ne)) (value_at_pin row good k h))
          (cases_eq k j))
          (λ k h. let ne : k ≢ j = omega arith in get_or-set_other row j k v (pos 0) ne ∙ zero_past_pins row good k h)

      put_agrees : Agree set row (ln.set row j v)
      put_agrees k h has = ⊎_elim (λ e. absurd (free (subst (Has set) e has))) (get_or-set_other row j k v (pos 0)) (cases_eq k j)

      -- where that changes the output, the set does not force
      pub changed : (f : List ℤ → ℤ) → (f (ln.set row j v) ≢ f row) → Forces (replicate count t) f row set → ⊥
      changed f ne forces = ne (forces (ln.set row j v) put_lawful put_agrees)

    -- all pins outside the set changed
    module _ (ends : List ℤ) where
      pub fill_lawful : ((k : ℕ) → k < count → InType t (slice_index_or ends k (pos 0))) → Lawful (replicate count t) (filled count set row ends)
      fill_lawful typed = row_from (filled count set row ends) (filled_eight set row ends count)
          (λ k h. let b : k < 8 = omega arith in ⊎_elim
          (λ has. subst (InType t) (sym (filled_kept set row ends count k b has)) (value_at_pin row good k h))
          (λ out. subst (InType t) (sym (filled_free set row ends count k b h out)) (typed k h))
          (cases_has set k))
          (λ k h. ⊎_elim
          (λ b. filled_past set row ends count k b h ∙ zero_past_pins row good k h)
          (λ b. get_or_past (filled count set row ends) k (pos 0) (omega (arith, filled_eight set row ends count)))
          (cases_lt k 8))

      -- at each pin the filled row stands to a row that agrees as its end stands to every value
      pub fill_stands : (R : ℤ → ℤ → Type 0) → ((z : ℤ) → R z z) → (other : List ℤ) → Lawful (replicate count t) other → Agree set row other
          → (k : ℕ) → k < count → ((v : ℤ) → InType t v → R (slice_index_or ends k (pos 0)) v)
          → R (slice_index_or (filled count set row ends) k (pos 0)) (slice_index_or other k (pos 0))
      fill_stands R same other g agree k h stands =
          let b : k < 8 = omega arith in ⊎_elim
          (λ has. subst (λ z. R z (slice_index_or other k (pos 0))) (agree k b has ∙ sym (filled_kept set row ends count k b has)) (same (slice_index_or other k (pos 0))))
          (λ out. subst (λ z. R z (slice_index_or other k (pos 0))) (sym (filled_free set row ends count k b h out)) (stands (slice_index_or other k (pos 0)) (value_at_pin other g k h)))
          (cases_has set k)

    -- where the outputs at rows that agree lie between those at two filled rows, the set forces exactly when these two are equal
    pub squeezed : (f : List ℤ → ℤ) (low high : List ℤ)
        → ((k : ℕ) → k < count → InType t (slice_index_or low k (pos 0))) → ((k : ℕ) → k < count → InType t (slice_index_or high k (pos 0)))
        → ((other : List ℤ) → Lawful (replicate count t) other → Agree set row other → f (filled count set row low) ≡ f (filled count set row high) → f other ≡ f (filled count set row low))
        → (r : Bool) → Decides r (f (filled count set row low) ≡ f (filled count set row high)) → Decides r (Forces (replicate count t) f row set)
    squeezed f low high tl th between r d = (
      λ e other g agree. between other g agree (d.0 e) ∙ sym (between row good (λ k h has. refl) (d.0 e)),
      λ forces. d.1 (forces _ (fill_lawful low tl) (λ k h has. filled_kept set row low count k h has) ∙ sym (forces _ (fill_lawful high th) (λ k h has. filled_kept set row high count k h has))),
    )

-- a block that needs all its pins: whether every pin is in the set
pub needs_all : (count set : ℕ) (r : Bool) (P : Type 0) → MatchBool r ((k : ℕ) → k < count → Has set k) ((j : ℕ) × FirstFree count set j)
    → (((k : ℕ) → k < count → Has set k) → P) → ((j : ℕ) → FirstFree count set j → P → ⊥) → Decides r P
needs_all count set true P all full free = (λ _. full all, λ _. refl)
needs_all count set false P one full free = (λ e. absurd (false≢true e), λ p. absurd (free one.0 one.1 p))
