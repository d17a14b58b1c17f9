-- What a diagram makes of an entry looks only at lower entries, and lies in its type.
use Rattle.std.proofs.Common.{◌≡◌, ℕ, zero, suc, ◌+◌, ◌*◌, ◌<◌, ◌≤◌, Bool, true, false, ltb, List, length, get_or, ℤ, pos, ◌-ℤ◌, Some, sym, refl, ap, ◌∙◌, subst, inl, inr, suc-mul, arith}
use Rattle.std.proofs.lemmas.Nat.{mod-mul-add}
use Rattle.std.proofs.lemmas.Bool.{and_parts, ltb-true, true≢false}
use Rattle.blocks.specs.Blocks.{ShapeOf, unknown_kind, no_such_count, shaped, InType}
use Rattle.blocks.specs.declared.types.ValueType.{ValueType}
use Rattle.blocks.specs.declared.types.ValueType.TheVariants.{Truth}
use Rattle.diagram.specs.declared.signals.Signal.{Signal}
use Rattle.diagram.specs.declared.signals.Signal.TheVariants.{Source, Constant, Delay, Block}
use Rattle.diagram.specs.declared.signals.Pin.{Pin}
use Rattle.diagram.specs.Rules.{pin_at, SignalRules}
use Rattle.diagram.specs.Typing.{Shapes, type_at, Gives, HasType, PinFits, PinsFit, Fits}
use Rattle.run.specs.Values.{value_at, AllInType, is_source}
use Rattle.run.specs.Making.{Functions, shown, pin_shows, padded, LawfulFor, delay_reads, makes, Is}
use Rattle.run.specs.Runs.{Outputs, Counted}
use Rattle.run.proofs.Rows.{padded_length, padded_at, padded_past, padded_same}

-- a delay reads below its own place
pub delay_below : (n j s d i : ℕ) → d < s → i < n → delay_reads n j d i < j * n + s
delay_below n zero s d i a b = omega arith
delay_below n (suc j) s d i a b = omega (arith, suc-mul j n)

-- what is made of signal s at step j looks only at the entries below its own
pub makes_same : (f : Functions) (n : ℕ) (pins : List Pin) (T U : List ℤ) (j s : ℕ) (x : Signal) → SignalRules n pins s x
    → ((k : ℕ) → k < j * n + s → value_at T k ≡ value_at U k) → makes f n pins T j x ≡ makes f n pins U j x
makes_same f n pins T U j s (Source t) r h = refl
makes_same f n pins T U j s (Constant t v) r h = refl
makes_same f n pins T U j s (Delay d i) r h =
    let w = and_parts (ltb d s) (ltb i n) r.named in
    ap Some (h (delay_reads n j d i) (delay_below n j s d i (ltb-true d s w.0) (ltb-true i n w.1)))
makes_same f n pins T U j s (Block k first c) r h =
    ap (λ row. Some (f k c row))
    (padded_same c (pin_shows pins first T (j * n)) (pin_shows pins first U (j * n))
    (λ p b. ap (shown (pin_at pins (first + p)).inverted) (h (j * n + (pin_at pins (first + p)).signal) (omega (arith, r.lower p b)))))

-- an inverted bool is a bool
turned_bool : (v : ℤ) → InType Truth v → InType Truth (pos 1 -ℤ v)
turned_bool v (inl e) = inr (rw e)
turned_bool v (inr e) = inl (rw e)

shown_typed : (b : Bool) (t : ValueType) (v : ℤ) → (b ≡ true → t ≡ Truth) → InType t v → InType t (shown b v)
shown_typed true t v bool h = rw (bool refl) (turned_bool v (subst (λ u. InType u v) (bool refl) h))
shown_typed false t v bool h = h

-- the value of a lower signal at the same step lies in its type
pub lower_typed : (types : List ValueType) (n : ℕ) (table : List ℤ) (j s : ℕ) → s < n → AllInType types n table (j * n + s)
    → (q : ℕ) → q < s → InType (type_at types q) (value_at table (j * n + q))
lower_typed types n table j s s<n below q h =
    subst (λ k. InType (type_at types k) (value_at table (j * n + q))) (mod-mul-add j n q (omega arith)) (below (j * n + q) (omega arith))

module _ (types : List ValueType) (table : List ℤ) (start s : ℕ) (lower : (q : ℕ) → q < s → InType (type_at types q) (value_at table (start + q))) where
  -- what a fitting pin shows lies in the type that its block wants
  pin_typed : (pins : List Pin) (first p : ℕ) (wanted : ValueType) → (pin_at pins (first + p)).signal < s → PinFits types (pin_at pins (first + p)) wanted
      → InType wanted (pin_shows pins first table start p)
  pin_typed pins first p wanted low fits =
      shown_typed (pin_at pins (first + p)).inverted wanted (value_at table (start + (pin_at pins (first + p)).signal)) fits.bool
      (subst (λ t. InType t (value_at table (start + (pin_at pins (first + p)).signal))) fits.same (lower (pin_at pins (first + p)).signal low))

  -- the row that fitting pins show is lawful
  pub row_lawful : (shape : ShapeOf) (c : ℕ) → ((wanted : List ValueType) (out : ValueType) → shape ≡ shaped wanted out → (length wanted ≡ c) × (c ≤ 8))
      → (pins : List Pin) (first : ℕ) → ((p : ℕ) → p < c → (pin_at pins (first + p)).signal < s)
      → PinsFit shape types pins first → LawfulFor shape (padded c (pin_shows pins first table start))
  row_lawful unknown_kind c counted pins first low fits = fits
  row_lawful no_such_count c counted pins first low fits = fits
  row_lawful (shaped wanted out) c counted pins first low fits =
      let w = counted wanted out refl in
      let shows = pin_shows pins first table start in
      record {
        eight = padded_length c shows;
        typed = λ k b.
            let b' : k < c = omega (arith, w.0) in
            subst (λ z. InType (get_or wanted k Truth) z) (sym (padded_at c shows k w.1 b')) (pin_typed pins first k (get_or wanted k Truth) (low k b') (fits k b));
        padded = λ k b. padded_past c shows k (omega (arith, w.0));
      }

  -- an inverted pin reads a bool
  pub inverted_bool : (shape : ShapeOf) (c : ℕ) → ((wanted : List ValueType) (out : ValueType) → shape ≡ shaped wanted out → (length wanted ≡ c) × (c ≤ 8))
      → (pins : List Pin) (first : ℕ) → ((p : ℕ) → p < c → (pin_at pins (first + p)).signal < s) → PinsFit shape types pins first
      → (p : ℕ) → p < c → (pin_at pins (first + p)).inverted ≡ true → InType Truth (value_at table (start + (pin_at pins (first + p)).signal))
  inverted_bool unknown_kind c counted pins first low fits p h inv = absurd fits
  inverted_bool no_such_count c counted pins first low fits p h inv = absurd fits
  inverted_bool (shaped wanted out) c counted pins first low fits p h inv =
      let w = counted wanted out refl in
      let g = fits p (omega (arith, w.0)) in
      subst (λ t. InType t (value_at table (start + (pin_at pins (first + p)).signal))) (g.same ∙ g.bool inv) (lower (pin_at pins (first + p)).signal (low p h))

-- what the library makes of a lawful row lies in the type that its shape gives
gives : (shapes : Shapes) (f : Functions) (k c : ℕ) (shape : ShapeOf) → shapes k c ≡ shape → Outputs shapes f
    → (row : List ℤ) → LawfulFor shape row → (t : ValueType) → Gives shape t → InType t (f k c row)
gives shapes f k c unknown_kind e outputs row l t g = absurd l
gives shapes f k c no_such_count e outputs row l t g = absurd l
gives shapes f k c (shaped wanted out) e outputs row l t g = subst (λ u. InType u (f k c row)) (sym g) (outputs k c wanted out row e l)

module _ (types : List ValueType) (n : ℕ) (table : List ℤ) (j s : ℕ) (s<n : s < n) (below : AllInType types n table (j * n + s)) where
  lower : (q : ℕ) → q < s → InType (type_at types q) (value_at table (j * n + q))
  lower = lower_typed types n table j s s<n below

  -- what a delay reads lies in its type
  delay_typed : (d i : ℕ) → d < s → i < n → type_at types i ≡ type_at types d → (k : ℕ) → k ≡ j → InType (type_at types d) (value_at table (delay_reads n k d i))
  delay_typed d i low inside same zero e =
      subst (λ k. InType (type_at types d) (value_at table k)) (subst (λ q. q * n + d ≡ d) e (omega arith)) (lower d low)
  delay_typed d i low inside same (suc k) e =
      let z : suc k * n ≡ k * n + n = suc-mul k n in
      let b : k * n + i < j * n + s = subst (λ q. k * n + i < q * n + s) e (omega arith) in
      subst (λ t. InType t (value_at table (k * n + i))) same (subst (λ q. InType (type_at types q) (value_at table (k * n + i))) (mod-mul-add k n i inside) (below (k * n + i) b))

  -- what is made lies in the type of its signal
  pub makes_typed : (shapes : Shapes) (f : Functions) (pins : List Pin) (x : Signal) → SignalRules n pins s x → Counted shapes → Outputs shapes f
      → HasType shapes types x (type_at types s) → Fits shapes types pins x → is_source x ≡ false → (v : ℤ) → Is (makes f n pins table j x) v → InType (type_at types s) v
  makes_typed shapes f pins (Source t) r counted outputs has fits cell v e = absurd (true≢false cell)
  makes_typed shapes f pins (Constant t w) r counted outputs has fits cell v e = rw (has, e) fits
  makes_typed shapes f pins (Delay d i) r counted outputs has fits cell v e =
      let w = and_parts (ltb d s) (ltb i n) r.named in
      let g = delay_typed d i (ltb-true d s w.0) (ltb-true i n w.1) fits j refl in
      rw (has, e) g
  makes_typed shapes f pins (Block k first c) r counted outputs has fits cell v e =
      let g = gives shapes f k c (shapes k c) refl outputs (padded c (pin_shows pins first table (j * n))) (row_lawful types table (j * n) s lower (shapes k c) c (counted k c) pins first r.lower fits) (type_at types s) has in
      rw e g
