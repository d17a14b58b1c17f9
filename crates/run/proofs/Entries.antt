-- What a diagram makes of an entry, over a library.
use Rattle.std.proofs.Common.{◌≡◌, ℕ, ◌+◌, ◌*◌, ◌/◌, ◌%◌, ◌<◌, ◌≤◌, true, ltb, List, length, get_or, All, slice_range, ℤ, Some, Ok, Err, Result, sym, ap, ◌∙◌, subst, mod-lt, zero-add, arith}
use Rattle.std.specs.Result.{result_ok}
use Rattle.std.proofs.lemmas.Bool.{and_parts, ltb-true}
use Rattle.std.proofs.lemmas.List.{get_or_default}
use Rattle.blocks.specs.Blocks.{ShapeOf, unknown_kind, no_such_count, shaped, InType, ValueAnswer}
use Rattle.blocks.specs.declared.types.LibraryFault.{LibraryFault}
use Rattle.blocks.specs.declared.types.ValueType.TheVariants.{Truth}
use Rattle.diagram.specs.declared.signals.Signal.{Signal}
use Rattle.diagram.specs.declared.signals.Signal.TheVariants.{Delay, Block}
use Rattle.diagram.specs.declared.signals.Pin.{Pin}
use Rattle.diagram.specs.declared.rules.Diagram.{Diagram}
use Rattle.diagram.specs.Rules.{signal_at, pin_at, SignalRules, Rules}
use Rattle.diagram.specs.Typing.{Shapes, Fits}
use Rattle.diagram.proofs.Shapings.{stretch_at, stretch_length}
use Rattle.run.specs.Values.{value_at, TypedBelow}
use Rattle.run.specs.Making.{Functions, shown, pin_shows, padded, LawfulFor, delay_reads, makes, made_at}
use Rattle.run.specs.Runs.{Counted}
use Rattle.std.proofs.lemmas.Nat.{div-add-mod', div-mul-add}
use Rattle.run.proofs.Rows.{padded_same}
use Rattle.run.proofs.Makes.{delay_below, lower_typed, row_lawful, inverted_bool}

-- a diagram keeps the rules
pub rules_of : (d : Diagram) → Rules d.signals.now d.pins.now
rules_of d =
    record {
      range = record { some = d.some; few = d.few; brief = d.brief };
      each = λ s h. record { sized = d.sized s h; named = d.named s h; stretch = d.stretch s h; lower = λ k. d.lower s k h };
    }

-- the library answers the value of a lawful row
value_ok : (o : ShapeOf) (g : List ℤ → ℤ) (row : List ℤ) (r : Result ℤ LibraryFault) → ValueAnswer o g row r → LawfulFor o row → result_ok r ≡ Some (g row)
value_ok unknown_kind g row r a l = absurd l
value_ok no_such_count g row r a l = absurd l
value_ok (shaped pins out) g row (Ok v) a l = ap Some a.1
value_ok (shaped pins out) g row (Err e) a l = absurd (a.1 l)

-- a row looks only at the stretch of its block
row_same : (pins : List Pin) (first c : ℕ) (table : List ℤ) (start : ℕ) → first + c ≤ length pins
    → padded (length (slice_range pins first (first + c))) (pin_shows (slice_range pins first (first + c)) 0 table start) ≡ padded c (pin_shows pins first table start)
row_same pins first c table start h = rw (stretch_length pins first c h) (padded_same c _ _ (λ p b. same p b))
  where
    same : (p : ℕ) → p < c → pin_shows (slice_range pins first (first + c)) 0 table start p ≡ pin_shows pins first table start p
    same p b =
        let at : pin_at (slice_range pins first (first + c)) (0 + p) ≡ pin_at pins (first + p) = rw zero-add (stretch_at pins first c p _ b) in
        ap (λ (q : Pin). shown q.inverted (value_at table (start + q.signal))) at

module _ (d : Diagram) (e : ℕ) where
  rules_at : SignalRules (length d.signals.now) d.pins.now (e % length d.signals.now) (signal_at d.signals.now (e % length d.signals.now))
  rules_at = (rules_of d).each (e % length d.signals.now) (mod-lt e d.some)

  -- a delay reads a lower entry
  pub delay_lower : (l i : ℕ) → signal_at d.signals.now (e % length d.signals.now) ≡ Delay l i → delay_reads (length d.signals.now) (e / length d.signals.now) l i < e
  delay_lower l i q =
      let n = length d.signals.now in
      let r = subst (λ x. SignalRules n d.pins.now (e % n) x) q rules_at in
      let w = and_parts (ltb l (e % n)) (ltb i n) r.named in
      omega (arith, div-add-mod' e n, delay_below n (e / n) (e % n) l i (ltb-true l (e % n) w.0) (ltb-true i n w.1))

  module _ (k first c : ℕ) (block : signal_at d.signals.now (e % length d.signals.now) ≡ Block k first c) where
    block_rules : SignalRules (length d.signals.now) d.pins.now (e % length d.signals.now) (Block k first c)
    block_rules = subst (λ x. SignalRules (length d.signals.now) d.pins.now (e % length d.signals.now) x) block rules_at

    pin_same : (p : ℕ) (x : Pin) → p < length (slice_range d.pins.now first (first + c)) → (p < c) × (get_or (slice_range d.pins.now first (first + c)) p x ≡ pin_at d.pins.now (first + p))
    pin_same p x b =
        let low : p < c = omega (arith, stretch_length d.pins.now first c block_rules.stretch) in
        let inside : first + p < length d.pins.now = omega (arith, block_rules.stretch) in
        (low, stretch_at d.pins.now first c p x low ∙ get_or_default d.pins.now (first + p) x _ inside)

    -- the pins of a block read lower entries
    pub pins_lower : All (λ (pin : Pin). e / length d.signals.now * length d.signals.now + pin.signal < e) (slice_range d.pins.now first (first + c))
    pins_lower p x b =
        let q = pin_same p x b in
        rw q.1 (omega (arith, block_rules.lower p q.0, div-add-mod' e (length d.signals.now)))

    -- what the library answers for a block is what the diagram makes
    pub block_made : (shapes : Shapes) (f : Functions) → Counted shapes → (table : List ℤ) → TypedBelow shapes d.signals.now d.pins.now table e
        → (row : List ℤ)
        → (All (λ (pin : Pin). pin.inverted ≡ true → InType Truth (value_at table (e / length d.signals.now * length d.signals.now + pin.signal))) (slice_range d.pins.now first (first + c))
        → row ≡ padded (length (slice_range d.pins.now first (first + c))) (pin_shows (slice_range d.pins.now first (first + c)) 0 table (e / length d.signals.now * length d.signals.now)))
        → (r : Result ℤ LibraryFault) → ValueAnswer (shapes k c) (f k c) row r → result_ok r ≡ made_at f d.signals.now d.pins.now table e
    block_made shapes f counted table t row makes_row r a =
        let n = length d.signals.now in
        let s = e % n in
        let start = e / n * n in
        let s_below : s < n = mod-lt e d.some in
        let lower = lower_typed t.types n table (e / n) s s_below (λ k l. t.values k (omega (arith, l, div-add-mod' e n))) in
        let fits : Fits shapes t.types d.pins.now (Block k first c) = subst (λ x. Fits shapes t.types d.pins.now x) block (t.well.fits s s_below) in
        let bools = inverted_bool t.types table start s lower (shapes k c) c (counted k c) d.pins.now first block_rules.lower fits in
        let lawful = row_lawful t.types table start s lower (shapes k c) c (counted k c) d.pins.now first block_rules.lower fits in
        let all : All (λ (pin : Pin). pin.inverted ≡ true → InType Truth (value_at table (start + pin.signal))) (slice_range d.pins.now first (first + c))
        = λ p x b. let q = pin_same p x b in rw q.1 (bools p q.0) in
        let row_is : row ≡ padded c (pin_shows d.pins.now first table start) = makes_row all ∙ row_same d.pins.now first c table start block_rules.stretch in
        let ok : result_ok r ≡ Some (f k c row) = value_ok (shapes k c) (f k c) row r a (subst (λ z. LawfulFor (shapes k c) z) (sym row_is) lawful) in
        let made : made_at f d.signals.now d.pins.now table e ≡ Some (f k c (padded c (pin_shows d.pins.now first table start))) = ap (λ x. makes f n d.pins.now table (e / n) x) block in
        ok ∙ ap (λ z. Some (f k c z)) row_is ∙ sym made

-- the same, where the entries of the step begin at `start`
pub block_made_from : (d : Diagram) (e k first c : ℕ) → signal_at d.signals.now (e % length d.signals.now) ≡ Block k first c → (start : ℕ) → start ≡ e / length d.signals.now * length d.signals.now
    → (shapes : Shapes) (f : Functions) → Counted shapes → (table : List ℤ) → TypedBelow shapes d.signals.now d.pins.now table e → (row : List ℤ)
    → (All (λ (pin : Pin). pin.inverted ≡ true → InType Truth (value_at table (start + pin.signal))) (slice_range d.pins.now first (first + c))
    → row ≡ padded (length (slice_range d.pins.now first (first + c))) (pin_shows (slice_range d.pins.now first (first + c)) 0 table start))
    → (r : Result ℤ LibraryFault) → ValueAnswer (shapes k c) (f k c) row r → result_ok r ≡ made_at f d.signals.now d.pins.now table e
block_made_from d e k first c block start at shapes f counted table t row makes_row r a =
    block_made d e k first c block shapes f counted table t row
    (subst
    (λ x. All (λ (pin : Pin). pin.inverted ≡ true → InType Truth (value_at table (x + pin.signal))) (slice_range d.pins.now first (first + c))
    → row ≡ padded (length (slice_range d.pins.now first (first + c))) (pin_shows (slice_range d.pins.now first (first + c)) 0 table x))
    at makes_row)
    r a

-- signal s at the step whose entries begin at `start`
module _ (d : Diagram) (start s : ℕ) (step : start ≡ (start + s) / length d.signals.now * length d.signals.now) where
  same_signal : s ≡ (start + s) % length d.signals.now
  same_signal = omega (arith, step, div-add-mod' (start + s) (length d.signals.now))

  pub known : s < length d.signals.now
  known = omega (arith, same_signal, mod-lt (start + s) d.some)

  pub signal_here : (x : Signal) → signal_at d.signals.now s ≡ x → signal_at d.signals.now ((start + s) % length d.signals.now) ≡ x
  signal_here x q = subst (λ k. signal_at d.signals.now k ≡ x) same_signal q

  pub same_step : (start + s) / length d.signals.now ≡ start / length d.signals.now
  same_step =
      let n = length d.signals.now in
      let q = (start + s) / n in
      let none : start ≡ q * n + 0 = omega (arith, step) in
      sym (ap (λ (k : ℕ). k / n) none ∙ div-mul-add q n 0 d.some)

  pub whole : start / length d.signals.now * length d.signals.now ≡ start
  whole = sym (step ∙ ap (λ (k : ℕ). k * length d.signals.now) same_step)

  pub made_here : (f : Functions) (table : List ℤ) (x : Signal) → signal_at d.signals.now s ≡ x
      → made_at f d.signals.now d.pins.now table (start + s) ≡ makes f (length d.signals.now) d.pins.now table (start / length d.signals.now) x
  made_here f table x q =
      ap (λ y. makes f (length d.signals.now) d.pins.now table ((start + s) / length d.signals.now) y) (signal_here x q)
      ∙ ap (λ j. makes f (length d.signals.now) d.pins.now table j x) same_step
