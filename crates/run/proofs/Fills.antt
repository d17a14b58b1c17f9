-- Filling a table, entry by entry.
use Rattle.std.proofs.Common.{◌≡◌, ℕ, zero, suc, ◌+◌, ◌*◌, ◌/◌, ◌%◌, ◌<◌, ◌≤◌, true, false, ◌≢◌, ◌⊎◌, List, length, set, ℤ, pos, Some, None, Option, sym, ◌∙◌, subst, inl, inr, mod-lt, arith, length-set, get_or-set_other, get_or-set_same}
use Rattle.std.proofs.lemmas.Bool.{cases_lt, cases_Bool, false≢true, true≢false}
use Rattle.blocks.specs.Blocks.{InType}
use Rattle.blocks.specs.declared.types.ValueType.{ValueType}
use Rattle.diagram.specs.declared.signals.Signal.{Signal}
use Rattle.diagram.specs.declared.signals.Signal.TheVariants.{Source, Constant, Delay, Block}
use Rattle.diagram.specs.declared.signals.Pin.{Pin}
use Rattle.diagram.specs.Rules.{signal_at, Rules}
use Rattle.diagram.specs.Typing.{Shapes, type_at}
use Rattle.run.specs.Values.{value_at, InItsType, AllInType, is_source, SourceEntry, SourcesInType, TypedBelow, SourcesTyped}
use Rattle.run.specs.Making.{Functions, makes, made_at, Is, Made, AllMade}
use Rattle.run.specs.Runs.{FilledFrom, SameSources, Known, FilledIsRun, SourcesDetermine, Outputs, Counted}
use Rattle.std.proofs.lemmas.Nat.{div-add-mod'}
use Rattle.run.proofs.Makes.{makes_same, makes_typed}

-- one value is made of a signal that is no source
one_made : (f : Functions) (n : ℕ) (pins : List Pin) (T : List ℤ) (j : ℕ) (x : Signal) (a b : ℤ) → is_source x ≡ false → Is (makes f n pins T j x) a → Is (makes f n pins T j x) b → b ≡ a
one_made f n pins T j (Source t) a b cell g h = absurd (true≢false cell)
one_made f n pins T j (Constant t v) a b cell g h = h ∙ sym g
one_made f n pins T j (Delay d i) a b cell g h = h ∙ sym g
one_made f n pins T j (Block k first c) a b cell g h = h ∙ sym g

abbrev Full : Option ℤ → Type 0
Full None = ⊥
Full (Some v) = Unit {0}

-- a value is made of a signal exactly where it is no source
some_made : (f : Functions) (n : ℕ) (pins : List Pin) (T : List ℤ) (j : ℕ) (x : Signal) (a : ℤ) → Some a ≡ makes f n pins T j x → is_source x ≡ true → ⊥
some_made f n pins T j (Source t) a e source = subst Full e tt
some_made f n pins T j (Constant t v) a e source = false≢true source
some_made f n pins T j (Delay d i) a e source = false≢true source
some_made f n pins T j (Block k first c) a e source = false≢true source

module _ (f : Functions) (signals : List Signal) (pins : List Pin) (rules : Rules signals pins) where
  in_range : (e : ℕ) → e % length signals < length signals
  in_range e = mod-lt e rules.range.some

  -- what is made of an entry looks only at lower entries
  made_at_same : (T U : List ℤ) (e : ℕ) → ((k : ℕ) → k < e → value_at T k ≡ value_at U k) → made_at f signals pins T e ≡ made_at f signals pins U e
  made_at_same T U e h =
      makes_same f (length signals) pins T U (e / length signals) (e % length signals) (signal_at signals (e % length signals)) (rules.each (e % length signals) (in_range e))
      (λ k b. h k (omega (arith, b, div-add-mod' e (length signals))))

  pub made_same : (T U : List ℤ) (e : ℕ) → ((k : ℕ) → k < e + 1 → value_at T k ≡ value_at U k) → Made f signals pins T e → Made f signals pins U e
  made_same T U e h m =
      subst (λ o. Is o (value_at U e)) (made_at_same T U e (λ k b. h k (omega arith))) (subst (λ v. Is (made_at f signals pins T e) v) (h e (omega arith)) m)

  determine : (count : ℕ) (T U : List ℤ) → AllMade f signals pins T count → AllMade f signals pins U count → SameSources signals count T U
      → (m e : ℕ) → e < m → e < count → value_at U e ≡ value_at T e
  determine count T U mt mu same zero e b c = absurd (omega arith)
  determine count T U mt mu same (suc m) e b c =
      go (λ k l. determine count T U mt mu same m k (omega arith) (omega arith)) (cases_Bool (is_source (signal_at signals (e % length signals))))
    where
      go : ((k : ℕ) → k < e → value_at U k ≡ value_at T k)
          → (is_source (signal_at signals (e % length signals)) ≡ true) ⊎ (is_source (signal_at signals (e % length signals)) ≡ false) → value_at U e ≡ value_at T e
      go lower (inl source) = same e c source
      go lower (inr cell) =
          one_made f (length signals) pins T (e / length signals) (signal_at signals (e % length signals)) (value_at T e) (value_at U e) cell (mt e c)
          (subst (λ o. Is o (value_at U e)) (made_at_same U T e lower) (mu e c))

  -- one more entry: a source, which stays
  pub filled_source : (before T : List ℤ) (e : ℕ) → FilledFrom f signals pins e before T → None ≡ made_at f signals pins T e → FilledFrom f signals pins (e + 1) before T
  filled_source before T e g n =
      record {
        size = g.size;
        sources = g.sources;
        made = λ k b. elim (cases_lt k e) [ inl l ↦ g.made k l | inr l ↦ here k (omega arith) ];
        beyond = λ k b. g.beyond k (omega arith);
      }
    where
      here : (k : ℕ) → k ≡ e → Made f signals pins T k
      here k z = subst (λ i. Made f signals pins T i) (sym z) (subst (λ o. Is o (value_at T e)) n tt)

  -- one more entry, whose value is made
  pub filled_put : (before T : List ℤ) (e : ℕ) (v : ℤ) → FilledFrom f signals pins e before T → Some v ≡ made_at f signals pins T e → e < length T
      → FilledFrom f signals pins (e + 1) before (set T e v)
  filled_put before T e v g m inside =
      record {
        size = length-set T e v ∙ g.size;
        sources = λ k s. let ne : k ≢ e = λ z. some_made f (length signals) pins T (e / length signals) (signal_at signals (e % length signals)) v m (subst (λ i. SourceEntry signals i) z s) in
            get_or-set_other T e k v (pos 0) ne ∙ g.sources k s;
        made = λ k b. elim (cases_lt k e) [
          | inl l ↦ made_same T (set T e v) k (λ i c. let ne : i ≢ e = omega arith in sym (get_or-set_other T e i v (pos 0) ne)) (g.made k l)
          | inr l ↦ here k (omega arith)
        ];
        beyond = λ k b. let ne : k ≢ e = omega arith in get_or-set_other T e k v (pos 0) ne ∙ g.beyond k (omega arith);
      }
    where
      same : made_at f signals pins T e ≡ made_at f signals pins (set T e v) e
      same = made_at_same T (set T e v) e (λ i c. let ne : i ≢ e = omega arith in sym (get_or-set_other T e i v (pos 0) ne))

      here : (k : ℕ) → k ≡ e → Made f signals pins (set T e v) k
      here k z = subst (λ i. Made f signals pins (set T e v) i) (sym z) (subst (λ o. Is o (value_at (set T e v) e)) (m ∙ same) (get_or-set_same T e v (pos 0) inside))

module _ (shapes : Shapes) (f : Functions) (signals : List Signal) (pins : List Pin) (types : List ValueType) (known : Known shapes f signals pins types) where
  -- what is made from sources of their types lies in its types
  typed_go : (T : List ℤ) (count : ℕ) → AllMade f signals pins T count → SourcesInType types signals T count → (m e : ℕ) → e < m → e < count → InItsType types (length signals) T e
  typed_go T count made sources zero e b c = absurd (omega arith)
  typed_go T count made sources (suc m) e b c =
      go (λ k l. typed_go T count made sources m k (omega arith) (omega arith)) (cases_Bool (is_source (signal_at signals (e % length signals))))
    where
      s_below : e % length signals < length signals
      s_below = mod-lt e known.rules.range.some

      go : AllInType types (length signals) T e
          → (is_source (signal_at signals (e % length signals)) ≡ true) ⊎ (is_source (signal_at signals (e % length signals)) ≡ false) → InItsType types (length signals) T e
      go lower (inl source) = sources e c source
      go lower (inr cell) =
          makes_typed types (length signals) T (e / length signals) (e % length signals) s_below
          (λ k l. lower k (omega (arith, l, div-add-mod' e (length signals))))
          shapes f pins (signal_at signals (e % length signals)) (known.rules.each (e % length signals) s_below) known.counted known.outputs
          (known.well.typed (e % length signals) s_below) (known.well.fits (e % length signals) s_below) cell (value_at T e) (made e c)

  pub made_typed : (T : List ℤ) (count : ℕ) → AllMade f signals pins T count → SourcesInType types signals T count → AllInType types (length signals) T count
  made_typed T count made sources e b = typed_go T count made sources (suc e) e (omega arith) b

  -- the entries filled so far lie in their types
  filled_typed : (before T : List ℤ) (count e : ℕ) → e ≤ count → SourcesInType types signals before count → FilledFrom f signals pins e before T → AllInType types (length signals) T e
  filled_typed before T count e h sources g =
      made_typed T e g.made (λ k b s. subst (λ v. InType (type_at types (k % length signals)) v) (sym (g.sources k s)) (sources k (omega arith) s))

pub filled_below : (shapes : Shapes) (f : Functions) (signals : List Signal) (pins : List Pin) → Rules signals pins → Counted shapes → Outputs shapes f
    → (before T : List ℤ) (count e : ℕ) → e ≤ count → SourcesTyped shapes signals pins before count → FilledFrom f signals pins e before T → TypedBelow shapes signals pins T e
filled_below shapes f signals pins rules counted outputs before T count e h given g =
    record {
      types = given.types;
      well = given.well;
      values = filled_typed shapes f signals pins given.types (record { rules = rules; counted = counted; outputs = outputs; well = given.well }) before T count e h given.sources g;
    }

pub sources_determine : SourcesDetermine
sources_determine f signals pins rules count T U mt mu same e b = determine f signals pins rules count T U mt mu same (suc e) e (omega arith) b

pub filled_is_run : FilledIsRun
filled_is_run shapes f signals pins types known l c before after sources g closes =
    record { typed = filled_typed shapes f signals pins types known before after (length signals * l) (length signals * l) (omega arith) sources g; made = g.made; closes = closes }
