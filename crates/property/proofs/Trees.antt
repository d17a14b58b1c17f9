-- Trees in lists of nodes.
use Rattle.std.proofs.Common.{◌≡◌, ℕ, suc, ◌-◌, ◌<◌, ◌≤◌, List, sym, refl, ap, ◌∙◌, subst, inl, inr, arith}
use Rattle.std.proofs.lemmas.Bool.{cases_lt}
use Rattle.looping.specs.declared.Unary.{Unary}
use Rattle.looping.specs.declared.Binary.{Binary}
use Rattle.looping.specs.Logic.{Tree, atom, one, two}
use Rattle.property.specs.declared.nodes.Atom.{Atom}
use Rattle.property.specs.declared.nodes.Node.{Node}
use Rattle.property.specs.declared.nodes.Node.TheVariants.{Atom as Leaf, One, Two}
use Rattle.property.specs.Numbering.{node, Spans, Rooted}

module _ (ns : List (Node ℕ)) where
  pub grows : (t : Tree (Atom ℕ)) (a b : ℕ) → Spans ns a b t → a < b
  grows (atom x) a b s = omega arith
  grows (one o p) a b (top, e, n, s) = let h : a < top = grows p a top s in omega arith
  grows (two o p q) a b (top, mid, e, n, s, r) =
      let h : a < mid = grows p a mid s in
      let k : mid < top = grows q mid top r in
      omega arith

  -- a tree's last node says where it starts, and which tree it is
  pub same_tree : (t u : Tree (Atom ℕ)) (a b c d : ℕ) → b ≡ d → Spans ns a b t → Spans ns c d u → (a ≡ c) × (t ≡ u)
  same_tree (atom x) (atom y) a b c d e (f, n) (g, m) =
      let h : a ≡ c = omega arith in
      let k : x ≡ y = cc in
      (h, ap atom k)
  same_tree (atom x) (one o p) a b c d e (f, n) (top, g, m, r) =
      let h : a ≡ top = omega arith in
      let z : ◌≡◌ {A = ℕ} 0 1 = cc in
      absurd (omega arith)
  same_tree (atom x) (two o p q) a b c d e (f, n) (top, mid, g, m, r, s) =
      let h : a ≡ top = omega arith in
      let z : ◌≡◌ {A = ℕ} 0 1 = cc in
      absurd (omega arith)
  same_tree (one o p) (atom y) a b c d e (top, g, m, r) (f, n) =
      let h : c ≡ top = omega arith in
      let z : ◌≡◌ {A = ℕ} 0 1 = cc in
      absurd (omega arith)
  same_tree (one o p) (one o' q) a b c d e (top, g, m, r) (top', g', m', r') =
      let h : top ≡ top' = omega arith in
      let k : o ≡ o' = cc in
      let i = same_tree p q a top c top' h r r' in
      (i.0, ap (λ (v : Unary). one v p) k ∙ ap (one o') i.1)
  same_tree (one o p) (two o' q u) a b c d e (top, g, m, r) (top', mid, g', m', r', s) =
      let h : top ≡ top' = omega arith in
      let z : ◌≡◌ {A = ℕ} 0 1 = cc in
      absurd (omega arith)
  same_tree (two o p q) (atom y) a b c d e (top, mid, g, m, r, s) (f, n) =
      let h : c ≡ top = omega arith in
      let z : ◌≡◌ {A = ℕ} 0 1 = cc in
      absurd (omega arith)
  same_tree (two o p q) (one o' u) a b c d e (top, mid, g, m, r, s) (top', g', m', r') =
      let h : top ≡ top' = omega arith in
      let z : ◌≡◌ {A = ℕ} 0 1 = cc in
      absurd (omega arith)
  same_tree (two o p q) (two o' u v) a b c d e (top, mid, g, m, r, s) (top', mid', g', m', r', s') =
      let h : top ≡ top' = omega arith in
      let k : o ≡ o' = cc in
      let i = same_tree q v mid top mid' top' h s s' in
      let j = same_tree p u a mid c mid' i.0 r r' in
      (j.0, ap (λ (w : Binary). two w p q) k ∙ ap (λ (w : Tree (Atom ℕ)). two o' w q) j.1 ∙ ap (two o' u) i.1)

  pub rooted_same : (f s t : ℕ) → Rooted ns f s → Rooted ns f t → s ≡ t
  rooted_same f s t r q = (same_tree r.0 q.0 s (suc f) t (suc f) refl r.1 q.1).0

  -- each node of a tree is the last of a tree
  pub inside : (t : Tree (Atom ℕ)) (a b f : ℕ) → Spans ns a b t → a ≤ f → f < b → (s : ℕ) × Rooted ns f s
  inside (atom x) a b f (e, n) h k = let q : b ≡ suc f = omega arith in (a, (atom x, (sym q ∙ e, n)))
  inside (one o p) a b f (top, e, n, s) h k =
      elim (cases_lt f top) [
        | inl d ↦ inside p a top f s h d
        | inr d ↦ let q : suc f ≡ suc top = omega arith in (a, (one o p, (top, q, n, s)))
      ]
  inside (two o p q) a b f (top, mid, e, n, s, r) h k =
      elim (cases_lt f top) [
        | inl d ↦ elim (cases_lt f mid) [ inl u ↦ inside p a mid f s h u | inr u ↦ inside q mid top f r u d ]
        | inr d ↦ let x : suc f ≡ suc top = omega arith in (a, (two o p q, (top, mid, x, n, s, r)))
      ]

  module _ (f : ℕ) where
    pub make_atom : (x : Atom ℕ) → node ns f ≡ Leaf x → Rooted ns f f
    make_atom x n = (atom x, (refl, n))

    pub make_one : (o : Unary) (x s : ℕ) → node ns f ≡ One o x → suc x ≡ f → Rooted ns x s → Rooted ns f s
    make_one o x s n e r =
        let k : x ≡ f - 1 = omega arith in
        (one o r.0, (f, refl, rw (← k) n, subst (λ (b : ℕ). Spans ns s b r.0) e r.1))

    pub make_two : (o : Binary) (x y s mid : ℕ) → node ns f ≡ Two o x y → suc y ≡ f → suc x ≡ mid → Rooted ns y mid → Rooted ns x s → Rooted ns f s
    make_two o x y s mid n e d r q =
        let k : y ≡ f - 1 = omega arith in
        let i : x ≡ mid - 1 = omega arith in
        (two o q.0 r.0, (f, mid, refl, rw (← i, ← k) n, subst (λ (b : ℕ). Spans ns s b q.0) d q.1, subst (λ (b : ℕ). Spans ns mid b r.0) e r.1))

    -- what a tree whose last node has one side, or two, is made of
    pub split_one : (o : Unary) (x s : ℕ) → node ns f ≡ One o x → Rooted ns f s → suc x ≡ f
    split_one o x s n (atom a, (e, m)) =
        let h : s ≡ f = omega arith in
        let z : ◌≡◌ {A = ℕ} 0 1 = cc in
        absurd (omega arith)
    split_one o x s n (one o' p, (top, e, m, r)) =
        let h : top ≡ f = omega arith in
        let k : s < top = grows p s top r in
        let j : x ≡ top - 1 = cc in
        omega arith
    split_one o x s n (two o' p q, (top, mid, e, m, r, u)) =
        let h : top ≡ f = omega arith in
        let z : ◌≡◌ {A = ℕ} 0 1 = cc in
        absurd (omega arith)

    pub split_two : (o : Binary) (x y s : ℕ) → node ns f ≡ Two o x y → Rooted ns f s → (suc y ≡ f) × Rooted ns y (suc x)
    split_two o x y s n (atom a, (e, m)) =
        let h : s ≡ f = omega arith in
        let z : ◌≡◌ {A = ℕ} 0 1 = cc in
        absurd (omega arith)
    split_two o x y s n (one o' p, (top, e, m, r)) =
        let h : top ≡ f = omega arith in
        let z : ◌≡◌ {A = ℕ} 0 1 = cc in
        absurd (omega arith)
    split_two o x y s n (two o' p q, (top, mid, e, m, r, u)) =
        let h : top ≡ f = omega arith in
        let k : s < mid = grows p s mid r in
        let l : mid < top = grows q mid top u in
        let i : x ≡ mid - 1 = cc in
        let j : y ≡ top - 1 = cc in
        let t : top ≡ suc y = omega arith in
        let d : mid ≡ suc x = omega arith in
        (omega arith, (q, subst (λ (a : ℕ). Spans ns a (suc y) q) d (subst (λ (b : ℕ). Spans ns mid b q) t u)))
