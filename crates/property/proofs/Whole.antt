-- Whole lists of nodes.
use Rattle.std.proofs.Common.{◌≡◌, ℕ, suc, ◌+◌, ◌-◌, ◌<◌, ◌≤◌, true, eqb, List, [], ◌∷◌, ◌++◌, length, get_or, Decides, sym, refl, ap, ◌∙◌, subst, inl, inr, arith, MatchOption, slice_get}
use Rattle.std.proofs.lemmas.Option.{slice_get-get_or}
use Rattle.std.proofs.lemmas.List.{get_or_append_left, get_or-append_right}
use Rattle.std.proofs.lemmas.Bool.{cases_lt, eqb-true, eq-eqb}
use Rattle.property.specs.declared.nodes.Node.{Node}
use Rattle.property.specs.declared.nodes.Node.TheVariants.{Atom as Leaf, One, Two}
use Rattle.property.specs.Numbering.{node, OneTree, Spans, Rooted, Started, Begins, EachBefore}
use Rattle.property.proofs.Trees.{grows, rooted_same, inside, make_atom, make_one, make_two, split_one, split_two}
use Rattle.property.proofs.Numbers.{numbered_spans, spans_numbered}

module _ (ns : List (Node ℕ)) where
  -- a known start lies before the node
  below : (starts : List ℕ) (f right : ℕ) → Started ns starts f → suc right ≡ f → get_or starts right 0 < f
  below starts f right known e =
      let r = known right (omega arith) in
      subst (λ (b : ℕ). get_or starts right 0 < b) e (grows ns r.0 (get_or starts right 0) (suc right) r.1)

  pub each_before : (starts : List ℕ) (f : ℕ) → length starts ≡ f → Started ns starts f → EachBefore starts
  each_before starts f e known g h =
      let r = known g (omega arith) in
      let k : get_or starts g 0 < suc g = grows ns r.0 (get_or starts g 0) (suc g) r.1 in
      omega arith

  pub started_more : (starts : List ℕ) (f s : ℕ) → length starts ≡ f → Started ns starts f → Rooted ns f s → Started ns (starts ++ (s ∷ [])) (f + 1)
  started_more starts f s e known r g b =
      elim (cases_lt g f) [
        | inl h ↦ let q : get_or (starts ++ (s ∷ [])) g 0 ≡ get_or starts g 0 = get_or_append_left starts (s ∷ []) 0 g (omega arith) in rw q (known g h)
        | inr h ↦
            let k : g ≡ f = omega arith in
            let z : g - f ≡ 0 = omega arith in
            let q : get_or (starts ++ (s ∷ [])) g 0 ≡ s = get_or-append_right starts (s ∷ []) f g 0 e h ∙ ap (λ (i : ℕ). get_or (s ∷ []) i 0) z in
            rw q (subst (λ (i : ℕ). Rooted ns i s) (sym k) r)
      ]

  module _ (starts : List ℕ) (f : ℕ) (e : length starts ≡ f) (known : Started ns starts f) where
    -- a tree begins where its node says
    pub begins_rooted : (x : Node ℕ) (s : ℕ) → node ns f ≡ x → Begins starts x s → Rooted ns f s
    begins_rooted (Leaf a) s is b = rw (b ∙ e) (make_atom ns f a is)
    begins_rooted (One o x) s is (h, b) = make_one ns f o x s is (h ∙ e) (subst (Rooted ns x) (sym b) (known x (omega arith)))
    begins_rooted (Two o x y) s is ((h, k), b) =
        let d = below starts f y known (h ∙ e) in
        make_two ns f o x y s (get_or starts y 0) is (h ∙ e) k (known y (omega arith)) (subst (Rooted ns x) (sym b) (known x (omega arith)))

    -- and nowhere else
    pub rooted_begins : (x : Node ℕ) (s : ℕ) → node ns f ≡ x → Rooted ns f s → Begins starts x s
    rooted_begins (Leaf a) s is r = rooted_same ns f s f r (make_atom ns f a is) ∙ sym e
    rooted_begins (One o x) s is r =
        let h = split_one ns f o x s is r in
        (h ∙ sym e, rooted_same ns f s (get_or starts x 0) r (begins_rooted (One o x) (get_or starts x 0) is (h ∙ sym e, refl)))
    rooted_begins (Two o x y) s is r =
        let w = split_two ns f o x y s is r in
        let k = rooted_same ns y (suc x) (get_or starts y 0) w.1 (known y (omega (arith, w.0))) in
        ((w.0 ∙ sym e, k), rooted_same ns f s (get_or starts x 0) r (begins_rooted (Two o x y) (get_or starts x 0) is ((w.0 ∙ sym e, k), refl)))

  pub some_node : OneTree ns → 0 < length ns
  some_node (h, (t, e)) = grows ns t 0 (length ns) (numbered_spans ns t e)

  pub each_rooted : OneTree ns → (f : ℕ) → f < length ns → (s : ℕ) × Rooted ns f s
  each_rooted (h, (t, e)) f b = inside ns t 0 (length ns) f (numbered_spans ns t e) (omega arith) b

  whole : (s : ℕ) → 0 < length ns → length ns ≤ 64 → Rooted ns (length ns - 1) s → Decides (eqb s 0) (OneTree ns)
  whole s h b (t, r) = (sound, full)
    where
      m : suc (length ns - 1) ≡ length ns
      m = omega arith

      sound : eqb s 0 ≡ true → OneTree ns
      sound e = (b, (t, spans_numbered ns t (subst (λ (k : ℕ). Spans ns k (length ns) t) (eqb-true s 0 e) (subst (λ (k : ℕ). Spans ns s k t) m r))))

      full : OneTree ns → eqb s 0 ≡ true
      full (c, (u, e)) =
          eq-eqb s 0 (rooted_same ns (length ns - 1) s 0 (t, r) (u, subst (λ (k : ℕ). Spans ns 0 k u) (sym m) (numbered_spans ns u e)))

  -- the last start of all says whether the nodes are one tree
  pub last_start : (starts : List ℕ) → length starts ≡ length ns → length ns ≤ 64 → Started ns starts (length ns)
      → MatchOption (slice_get starts (length starts - 1)) (OneTree ns → ⊥) (λ s. Decides (eqb s 0) (OneTree ns))
  last_start [] e h known = λ o. omega (arith, some_node o)
  last_start (x ∷ xs) e h known =
      let i : length (x ∷ xs) - 1 ≡ length ns - 1 = omega arith in
      let known_last = subst (λ (k : ℕ). Rooted ns (length ns - 1) (get_or (x ∷ xs) k 0)) (sym i) (known (length ns - 1) (omega arith)) in
      rw (slice_get-get_or (x ∷ xs) (length (x ∷ xs) - 1) 0 (omega arith)) (whole (get_or (x ∷ xs) (length (x ∷ xs) - 1) 0) (omega arith) h known_last)
