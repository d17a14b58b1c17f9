-- The truths of all nodes, worked out node by node.
use Rattle.std.proofs.Common.{◌≡◌, ℕ, suc, ◌+◌, ◌-◌, ◌<◌, ◌≤◌, Bool, ◌↔◌, List, [], ◌∷◌, ◌++◌, length, get_or, Decides, sym, ap, ◌∙◌, subst, inl, inr, arith}
use Rattle.std.proofs.lemmas.Bool.{cases_lt}
use Rattle.std.proofs.lemmas.List.{length-append, get_or_append_left, get_or-append_right}
use Rattle.std.proofs.lemmas.Bool.Decides.{Decides-at, Decides-like}
use Rattle.looping.specs.Words.{word, Loops, Within}
use Rattle.looping.specs.Logic.{Tree, Sat, atom, one, two}
use Rattle.looping.specs.Laws.{Truths}
use Rattle.looping.specs.Columns.{at, On}
use Rattle.looping.proofs.Paths.{word_within}
use Rattle.looping.proofs.Sats.{means1, means2}
use Rattle.property.specs.declared.nodes.Atom.{Atom}
use Rattle.property.specs.declared.nodes.Node.{Node}
use Rattle.property.specs.declared.nodes.Node.TheVariants.{Atom as Leaf, One, Two}
use Rattle.property.specs.Numbering.{node, OneTree, Spans}
use Rattle.property.specs.Meaning.{Atoms}
use Rattle.property.specs.ByNode.{spot, Means, Inside}
use Rattle.property.proofs.Trees.{grows}
use Rattle.property.proofs.Whole.{each_rooted}

module _ (ns : List (Node ℕ)) where
  -- what stands at the last node of a tree
  pub at_top : (f top : ℕ) (x : Node ℕ) → suc f ≡ suc top → node ns top ≡ x → node ns f ≡ x
  at_top f top x e q = let s : f ≡ top = omega arith in ap (node ns) s ∙ q

  module _ (n : ℕ) where
    inside_tree : (f s : ℕ) (t : Tree (Atom ℕ)) → f < length ns → Atoms n ns → Spans ns s (suc f) t → Inside n f (node ns f)
    inside_tree f s (atom a) h given (e, q) =
        let r : node ns f ≡ Leaf a = at_top f s (Leaf a) e q in
        subst (Inside n f) (sym r) (given f a h r)
    inside_tree f s (one o p) h given (top, e, q, u) =
        let g : s < top = grows ns p s top u in
        subst (Inside n f) (sym (at_top f top (One o (top - 1)) e q)) (let k : top - 1 < f = omega arith in k)
    inside_tree f s (two o p q) h given (top, mid, e, r, u, v) =
        let d : s < mid = grows ns p s mid u in
        let g : mid < top = grows ns q mid top v in
        subst (Inside n f) (sym (at_top f top (Two o (mid - 1) (top - 1)) e r)) (let k : (mid - 1 < f) × (top - 1 < f) = (omega arith, omega arith) in k)

    -- the sides of a node of one tree come before it
    pub each_inside : (f : ℕ) → OneTree ns → Atoms n ns → f < length ns → Inside n f (node ns f)
    each_inside f tree given h =
        let r = each_rooted ns tree f h in
        inside_tree f r.0 r.1.0 h given r.1.1

  -- truths of trees, where `column` has those of each node
  module _ (holds : Atom ℕ → ℕ → Bool) (l c : ℕ) (good : Loops l c) where
    -- the columns of the trees that end at the first `count` nodes are their truths
    abbrev pub Right : (ℕ → ℕ → Bool) → ℕ → Type 0
    Right column count = (f : ℕ) → f < count → (s : ℕ) (t : Tree (Atom ℕ)) → Spans ns s (suc f) t → Truths holds l c t (column f)

    -- a column that is the same at each step has the same truths
    same_truths : (t : Tree (Atom ℕ)) (x y : ℕ → Bool) → ((j : ℕ) → Within l j → y j ≡ x j) → Truths holds l c t x → Truths holds l c t y
    same_truths t x y e h k = Decides-at (y (word l c k)) (x (word l c k)) (e (word l c k) (word_within l c good k)) (h k)

    module _ (column : ℕ → ℕ → Bool) (f : ℕ) (right : Right column f) where
      -- the column of a side, whose number is lower, says where the side holds
      side : (s top : ℕ) (p : Tree (Atom ℕ)) → 0 < top → top ≤ f → Spans ns s top p → (k : ℕ) → Sat holds (word l c) p k ↔ On (column (top - 1)) (word l c k)
      side s top p h b u k =
          let e : top ≡ suc (top - 1) = omega arith in
          let d = right (top - 1) (omega arith) s p (subst (λ (m : ℕ). Spans ns s m p) e u) k in
          (d.1, d.0)

      -- the tree that ends at node f holds where the node says so of its sides
      pub sat_means : (s : ℕ) (t : Tree (Atom ℕ)) → Spans ns s (suc f) t → (k : ℕ) → Sat holds (word l c) t k ↔ Means holds l c (node ns f) column (word l c k)
      sat_means s (atom a) (e, q) k =
          subst (λ (x : Node ℕ). Sat holds (word l c) (atom a) k ↔ Means holds l c x column (word l c k)) (sym (at_top f s (Leaf a) e q)) (λ h. h, λ h. h)
      sat_means s (one o p) (top, e, q, u) k =
          let g : s < top = grows ns p s top u in
          subst (λ (x : Node ℕ). Sat holds (word l c) (one o p) k ↔ Means holds l c x column (word l c k)) (sym (at_top f top (One o (top - 1)) e q))
          (means1 l c good holds p (On (column (top - 1))) (side s top p (omega arith) (omega arith) u) o k)
      sat_means s (two o p q) (top, mid, e, r, u, v) k =
          let g : s < mid = grows ns p s mid u in
          let h : mid < top = grows ns q mid top v in
          subst (λ (x : Node ℕ). Sat holds (word l c) (two o p q) k ↔ Means holds l c x column (word l c k)) (sym (at_top f top (Two o (mid - 1) (top - 1)) e r))
          (means2 l c good holds p (On (column (mid - 1))) (side s mid p (omega arith) (omega arith) u) q (On (column (top - 1))) (side mid top q (omega arith) (omega arith) v) o k)

      -- a column that says so is the node's
      pub here : (new : ℕ → Bool) → ((j : ℕ) → Within l j → Decides (new j) (Means holds l c (node ns f) column j)) → (s : ℕ) (t : Tree (Atom ℕ)) → Spans ns s (suc f) t → Truths holds l c t new
      here new made s t u k =
          let i = sat_means s t u k in
          Decides-like (new (word l c k)) i.1 i.0 (made (word l c k) (word_within l c good k))

    -- one column more
    pub right_more : (columns : List (List Bool)) (f : ℕ) (new : List Bool)
        → length columns ≡ f
        → ((j : ℕ) → Within l j → Decides (at new j) (Means holds l c (node ns f) (spot columns) j))
        → Right (spot columns) (length columns) → Right (spot (columns ++ (new ∷ []))) (length (columns ++ (new ∷ [])))
    right_more columns f new long made right g h s t u =
        let grown : length (columns ++ (new ∷ [])) ≡ length columns + 1 = length-append columns (new ∷ []) in
        elim (cases_lt g f) [
          | inl b ↦ same_truths t (spot columns g) (spot (columns ++ (new ∷ [])) g) (λ j w. ap (λ (x : List Bool). at x j) (get_or_append_left columns (new ∷ []) [] g (omega arith))) (right g (omega arith) s t u)
          | inr b ↦
              let e : g ≡ f = omega arith in
              let z : g - f ≡ 0 = omega arith in
              let last : get_or (columns ++ (new ∷ [])) g [] ≡ new = get_or-append_right columns (new ∷ []) f g [] long b ∙ ap (λ (i : ℕ). get_or (new ∷ []) i []) z in
              same_truths t (at new) (spot (columns ++ (new ∷ [])) g) (λ j w. ap (λ (x : List Bool). at x j) last)
              (here (spot columns) f (λ i k. right i (omega arith)) (at new) made s t (subst (λ (m : ℕ). Spans ns s (suc m) t) e u))
        ]
