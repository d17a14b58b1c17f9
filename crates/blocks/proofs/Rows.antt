-- Lawful rows, place by place.
use Rattle.std.proofs.Common.{◌≡◌, ℕ, zero, suc, ◌+◌, ◌-◌, ◌<◌, ◌≤◌, min, Bool, List, length, get_or, take, drop, set, ℤ, pos, Decides, sym, ap, ◌∙◌, subst, ⊎_elim, arith, length-take, get_or-take, length-set, get_or-set_same, get_or-set_other}
use denote.Param.Members.{Mut}
use Rattle.std.specs.Fn.{Called}
use Rattle.std.specs.Array.{IsFromFnResultFrom}
use Rattle.std.proofs.lemmas.Bool.{cases_lt, cases_eq}
use Rattle.std.proofs.lemmas.List.{ext_get_or, get_or_past, get_or-drop, length-drop, length-take-le}
use Rattle.std.proofs.lemmas.Bool.Decides.{Decides-like}
use Rattle.std.proofs.lemmas.List.FromFn.{fill_by_all, length-map-range_with_len, get_or-map-range_with_len}
use Rattle.blocks.specs.declared.types.ValueType.{ValueType}
use Rattle.blocks.specs.declared.types.ValueType.TheVariants.{Truth}
use Rattle.blocks.specs.Blocks.{InType, Lawful, places}

-- the first places of a row
pub taken_places : (n : ℕ) (row : List ℤ) → n ≤ length row → take n row ≡ places n row
taken_places n row h = fill_by_all (λ k. get_or row k (pos 0)) (take n row) n (pos 0) (length-take-le n row h) (λ k l. get_or-take n row k (pos 0) l)

pub length-places : (n : ℕ) (row : List ℤ) → length (places n row) ≡ n
length-places n row = length-map-range_with_len (λ k. get_or row k (pos 0)) 0 n

pub get_or-places : (n : ℕ) (row : List ℤ) (k : ℕ) → k < n → get_or (places n row) k (pos 0) ≡ get_or row k (pos 0)
get_or-places n row k h = get_or-map-range_with_len (λ k. get_or row k (pos 0)) 0 n k k (pos 0) h (omega arith)

-- one place changed
pub places-set : (n j : ℕ) (row : List ℤ) (v : ℤ) → j < length row → places n (set row j v) ≡ set (places n row) j v
places-set n j row v l = ext_get_or (pos 0) _ _ (length-places n (set row j v) ∙ sym (length-set (places n row) j v ∙ length-places n row)) (λ k h.
    let b : k < n = omega (arith, length-places n (set row j v)) in
    get_or-places n (set row j v) k b ∙ ⊎_elim
    (λ e. subst (λ k. get_or (set row j v) k (pos 0) ≡ get_or (set (places n row) j v) k (pos 0)) (sym e) (get_or-set_same row j v (pos 0) l ∙ sym (get_or-set_same (places n row) j v (pos 0) (omega (arith, length-places n row)))))
    (λ ne. get_or-set_other row j k v (pos 0) ne ∙ sym (get_or-places n row k b) ∙ sym (get_or-set_other (places n row) j k v (pos 0) ne))
    (cases_eq k j))

-- what a closure that computes v and changes nothing makes, place by place
pub made_at : {F B : Type 0} (g : Mut F (ℕ × Unit {0}) B) (v : ℕ → B) (f : F) (ys : List B) → ((k : ℕ) (y : B) (q : F) → Called g f (k, tt) y q → (q ≡ f) × (y ≡ v k))
    → (i n : ℕ) → IsFromFnResultFrom g f ys i n → (d : B) (k : ℕ) → i ≤ k → k < i + n → get_or ys k d ≡ v k
made_at g v f ys pure i zero made d k h l = absurd (omega arith)
made_at g v f ys pure i (suc n) made d k h l =
    let call = pure i made.1 made.0 made.3 in
    ⊎_elim
    (λ e. subst (λ k. get_or ys k d ≡ v k) (sym e) (made.2.1 d ∙ call.1))
    (λ ne. made_at g v f ys pure (i + 1) n (subst (λ q. IsFromFnResultFrom g q ys (i + 1) n) call.0 made.4) d k (omega arith) (omega arith))
    (cases_eq k i)

module _ (pins : List ValueType) (count : ℕ) (row : List ℤ) (eight : length pins ≡ 8) where
  taken : length (take count pins) ≡ min count 8
  taken = simp length-take (omega arith)

  lawful_from : length row ≡ 8
      → ((k : ℕ) → k < 8 → k < count → InType (get_or pins k Truth) (get_or row k (pos 0)))
      → ((k : ℕ) → k < 8 → count ≤ k → get_or row k (pos 0) ≡ pos 0)
      → Lawful (take count pins) row
  lawful_from l typed padded = record {
    eight = l;
    typed = λ k h. let h' : k < count = omega (arith, taken) in let h'' : k < 8 = omega (arith, taken) in rw get_or-take (typed k h'' h');
    padded = λ k h. ⊎_elim (λ b. padded k b (omega (arith, taken))) (λ b. get_or_past row k (pos 0) (omega arith)) (cases_lt k 8);
  }

  padded_at : Lawful (take count pins) row → (k : ℕ) → count ≤ k → get_or row k (pos 0) ≡ pos 0
  padded_at good k h = good.padded k (omega (arith, taken))

  -- a row in two parts, of which the first is lawful
  pub parts_decide : length row ≡ 8 → (n : ℕ) → n ≡ min count 8 → (values padding : List ℤ) → values ≡ take n row → padding ≡ drop n row
      → ((k : ℕ) → k < length (take n pins) → InType (get_or (take n pins) k Truth) (get_or values k (pos 0)))
      → (b : Bool) → Decides b ((k : ℕ) → k < length padding → get_or padding k (pos 0) ≡ pos 0)
      → Decides b (Lawful (take count pins) row)
  parts_decide long n is values padding front back typed b d =
      let few : n ≤ 8 = omega arith in
      let of_pins = length-take-le n pins (omega arith) in
      let of_padding : length padding ≡ 8 - n = ap length back ∙ length-drop n row ∙ ap (λ m. m - n) long in
      let at_pin : (k : ℕ) → k < n → get_or values k (pos 0) ≡ get_or row k (pos 0) = λ k h. ap (λ xs. get_or xs k (pos 0)) front ∙ get_or-take n row k (pos 0) h in
      let beyond : (k : ℕ) → get_or padding k (pos 0) ≡ get_or row (n + k) (pos 0) = λ k. ap (λ xs. get_or xs k (pos 0)) back ∙ get_or-drop n row k (pos 0) in
      Decides-like b
      (λ zero. lawful_from long
      (λ k l h. let m : k < n = omega arith in subst (λ t. InType t (get_or row k (pos 0))) (get_or-take n pins k Truth m) (subst (InType (get_or (take n pins) k Truth)) (at_pin k m) (typed k (omega arith))))
      (λ k l h. let e : n + (k - n) ≡ k = omega arith in ap (λ j. get_or row j (pos 0)) (sym e) ∙ sym (beyond (k - n)) ∙ zero (k - n) (omega arith)))
      (λ good k h. beyond k ∙ padded_at good (n + k) (omega arith))
      d
