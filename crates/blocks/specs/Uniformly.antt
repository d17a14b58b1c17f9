-- What holds of an operation that was found holds of the library at its kind and count.
use Rattle.std.specs.Prelude.{◌≡◌, ℕ, ◌-◌, ◌≤◌, Bool, true, cond, List, length, take, replicate, ℤ, Some, None, Ok, Decides, Option, slice_get, refl}
use Rattle.std.proofs.Common.{sym, ap, subst, ◌∙◌, ⊎_elim, arith}
use Rattle.std.proofs.lemmas.List.{take_at, length-replicate}
use Rattle.std.proofs.lemmas.Option.{slice_get_past, slice_get_cases}
use Rattle.blocks.specs.declared.types.Shape.{Shape}
use Rattle.blocks.specs.declared.types.ValueType.{ValueType}
use Rattle.blocks.specs.declared.types.ValueType.TheVariants.{Truth}
use Rattle.blocks.specs.Blocks.{InType, Lawful, Asked, Forces, ShapeOf, unknown_kind, no_such_count, shaped, KindCount, ForcesAnswer}
use Rattle.blocks.specs.Uniform.{operation_at, shape_at, function_at, uniform_shape}

-- the first pins of a uniform shape
pub front : (pin : ValueType) (c : ℕ) (out : ValueType) → take c (uniform_shape pin c out).pins ≡ replicate c pin
front pin c out = take_at (replicate c pin) (replicate (8 - c) Truth) c (length-replicate c pin)

-- what holds of the pins of a uniform shape
pub pins_at : (P : List ValueType → Type 0) (pin : ValueType) (c : ℕ) (out : ValueType) (s : Shape) → s ≡ uniform_shape pin c out
    → P (take s.count s.pins) → P (replicate c pin)
pins_at P pin c out s e p =
    let q : P (take c (uniform_shape pin c out).pins) = subst (λ s. P (take s.count s.pins)) e p in
    subst P (front pin c out) q

module _ {O : Type 0} (takes : O → ℕ → Bool) (pin : ValueType) (output : O → ValueType) (result : O → ℕ → List ℤ → ℤ) where
  pub found_is : (k : Option O) (c : ℕ) (o : O) → operation_at takes k c ≡ Ok o → (k ≡ Some o) × (takes o c ≡ true)
  found_is k c o e = grind arith

  -- what holds of the operation's own shape and function
  pub at_found : (P : ShapeOf → (List ℤ → ℤ) → Type 0) (k : Option O) (c : ℕ) (o : O) → operation_at takes k c ≡ Ok o
      → P (shaped (replicate c pin) (output o)) (result o c) → P (shape_at takes pin output k c) (function_at result k c)
  at_found P k c o e p =
      let f = found_is k c o e in
      let q : P (cond (takes o c) (shaped (replicate c pin) (output o)) no_such_count) (result o c) = rw f.1 p in
      rw f.0 q

  -- a shaped block is an operation that takes the count
  pub shaped_is : (k : Option O) (c : ℕ) (pins : List ValueType) (out : ValueType) → shape_at takes pin output k c ≡ shaped pins out
      → (o : O) × (k ≡ Some o) × (takes o c ≡ true) × (pins ≡ replicate c pin) × (out ≡ output o)
  shaped_is None c pins out e = let z : ◌≡◌ {A = ℕ} 0 1 = cc in absurd (omega arith)
  shaped_is (Some o) c pins out e = (
    o,
    refl,
    grind arith,
    grind arith,
    grind arith,
  )

  -- a block has as many pins as its count says, if its operation takes at most eight
  pub counted_where : (k : Option O) (c : ℕ) → ((o : O) → k ≡ Some o → takes o c ≡ true → c ≤ 8) → (pins : List ValueType) (out : ValueType)
      → shape_at takes pin output k c ≡ shaped pins out → (length pins ≡ c) × (c ≤ 8)
  counted_where k c few pins out e =
      let s = shaped_is k c pins out e in
      (ap length s.3 ∙ length-replicate c pin, few s.0 s.1 s.2)

  -- so it has if no operation takes more than eight
  pub counted_by : ((o : O) (c : ℕ) → takes o c ≡ true → c ≤ 8) → (k : Option O) (c : ℕ) (pins : List ValueType) (out : ValueType)
      → shape_at takes pin output k c ≡ shaped pins out → (length pins ≡ c) × (c ≤ 8)
  counted_by few k c pins out e = counted_where k c (λ o _ t. few o c t) pins out e

  -- the output of a lawful row is lawful, if each operation's is
  pub lawful_by : ((o : O) (c : ℕ) (row : List ℤ) → takes o c ≡ true → Lawful (replicate c pin) row → InType (output o) (result o c row))
      → (k : Option O) (c : ℕ) (pins : List ValueType) (out : ValueType) (row : List ℤ)
      → shape_at takes pin output k c ≡ shaped pins out → Lawful pins row → InType out (function_at result k c row)
  lawful_by each k c pins out row e good =
      let s = shaped_is k c pins out e in
      let l = each s.0 c row s.2 (subst (λ p. Lawful p row) s.3 good) in
      let m : InType (output s.0) (function_at result k c row) = subst (λ k. InType (output s.0) (function_at result k c row)) (sym s.1) l in
      subst (λ t. InType t (function_at result k c row)) (sym s.4) m

  -- a question about forcing that is answered
  pub forces_answer : (k : Option O) (c : ℕ) (o : O) (s : Shape) (row : List ℤ) (set : ℕ) (r b : Bool) → operation_at takes k c ≡ Ok o → s ≡ uniform_shape pin c (output o)
      → Decides r (Asked (take s.count s.pins) row set) → r ≡ true → Decides b (Forces (replicate c pin) (result o c) row set)
      → ForcesAnswer (shape_at takes pin output k c) (function_at result k c) row set (Ok b)
  forces_answer k c o s row set r b e f d y is =
      let l = pins_at (λ p. Decides r (Asked p row set)) pin c (output o) s f d in
      at_found (λ h f. ForcesAnswer h f row set (Ok b)) k c o e (l.0 y, is)

  known : (o : O) (c : ℕ) → shape_at takes pin output (Some o) c ≡ unknown_kind → ⊥
  known o c e = grind arith

  -- the known kinds are the places of a list of operations
  pub sized_by : (os : List O) → length os ≤ 65536 → KindCount (λ k c. shape_at takes pin output (slice_get os k) c) (length os)
  sized_by os few = record {
    most = few;
    past = λ k c h. ap (λ o. shape_at takes pin output o c) (slice_get_past os k h);
    within = λ k c e. ⊎_elim (λ p. absurd (known p.0 c (sym (ap (λ o. shape_at takes pin output o c) p.2) ∙ e))) (λ p. p.0) (slice_get_cases os k).1;
  }
