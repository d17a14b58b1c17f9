-- A list that numbers a tree, read node by node.
use Rattle.std.proofs.Common.{◌≡◌, ℕ, zero, suc, ◌+◌, ◌-◌, ◌<◌, List, [], ◌∷◌, ◌++◌, length, sym, refl, ap, ◌∙◌, subst, inl, inr, add-zero, zero-add, arith}
use Rattle.std.proofs.lemmas.List.{length-append, get_or_append_left, get_or-append-add, get_or-append_right, ext_get_or}
use Rattle.std.proofs.lemmas.Bool.{cases_lt}
use Rattle.looping.specs.Logic.{Tree, atom, one, two}
use Rattle.property.specs.declared.nodes.Atom.{Atom}
use Rattle.property.specs.declared.nodes.Atom.TheVariants.{Truth}
use Rattle.property.specs.declared.nodes.Node.{Node}
use Rattle.property.specs.declared.nodes.Node.TheVariants.{Atom as Leaf, One, Two}
use Rattle.property.specs.Numbering.{size, numbered, node, Spans}

pub length-numbered : (n : ℕ) (t : Tree (Atom ℕ)) → length (numbered n t) ≡ size t
length-numbered n (atom a) = refl
length-numbered n (one o p) = length-append (numbered n p) (One o (n + size p - 1) ∷ []) ∙ ap (λ (k : ℕ). k + 1) (length-numbered n p)
length-numbered n (two o p q) =
    let a : length (numbered n p) ≡ size p = length-numbered n p in
    let b : length (numbered (n + size p) q) ≡ size q = length-numbered (n + size p) q in
    let last = Two o (n + size p - 1) (n + size p + size q - 1) ∷ [] in
    let e = length-append (numbered n p) (numbered (n + size p) q ++ last) in
    let d = length-append (numbered (n + size p) q) last in
    omega (arith, e, d)

module _ (ns : List (Node ℕ)) where
  -- the nodes from n on begin with xs
  abbrev Stands : ℕ → List (Node ℕ) → Type 0
  Stands n xs = (k : ℕ) → k < length xs → node ns (n + k) ≡ node xs k

  left : (n : ℕ) (xs ys : List (Node ℕ)) → Stands n (xs ++ ys) → Stands n xs
  left n xs ys s k h = s k (omega (arith, length-append xs ys)) ∙ get_or_append_left xs ys (Leaf (Truth 0)) k h

  right : (n m : ℕ) (xs ys : List (Node ℕ)) → n + length xs ≡ m → Stands n (xs ++ ys) → Stands m ys
  right n m xs ys e s k h =
      let at : m + k ≡ n + (length xs + k) = omega arith in
      ap (node ns) at ∙ s (length xs + k) (omega (arith, length-append xs ys)) ∙ get_or-append-add xs ys k (Leaf (Truth 0))

  join : (n m : ℕ) (xs ys : List (Node ℕ)) → n + length xs ≡ m → Stands n xs → Stands m ys → Stands n (xs ++ ys)
  join n m xs ys e s r k h =
      elim (cases_lt k (length xs)) [
        | inl b ↦ s k b ∙ sym (get_or_append_left xs ys (Leaf (Truth 0)) k b)
        | inr b ↦
            let at : n + k ≡ m + (k - length xs) = omega arith in
            ap (node ns) at ∙ r (k - length xs) (omega (arith, length-append xs ys)) ∙ sym (get_or-append_right xs ys (length xs) k (Leaf (Truth 0)) refl b)
      ]

  single : (n : ℕ) (x : Node ℕ) → node ns n ≡ x → Stands n (x ∷ [])
  single n x e zero h = ap (node ns) (add-zero n) ∙ e
  single n x e (suc k) h = absurd (omega arith)

  only : (n : ℕ) (x : Node ℕ) → Stands n (x ∷ []) → node ns n ≡ x
  only n x s = ap (node ns) (sym (add-zero n)) ∙ s 0 (omega arith)

  stands_spans : (t : Tree (Atom ℕ)) (n m : ℕ) → n + size t ≡ m → Stands n (numbered n t) → Spans ns n m t
  stands_spans (atom a) n m e s = let k : m ≡ suc n = omega arith in (k, only n (Leaf a) s)
  stands_spans (one o p) n m e s =
      let top : n + length (numbered n p) ≡ n + size p = ap (λ (k : ℕ). n + k) (length-numbered n p) in
      let last = One o (n + size p - 1) ∷ [] in (
        n + size p,
        omega arith,
        only (n + size p) (One o (n + size p - 1)) (right n (n + size p) (numbered n p) last top s),
        stands_spans p n (n + size p) refl (left n (numbered n p) last s),
      )
  stands_spans (two o p q) n m e s =
      let mid = n + size p in
      let top = n + size p + size q in
      let last = Two o (mid - 1) (top - 1) ∷ [] in
      let first : n + length (numbered n p) ≡ n + size p = ap (λ (k : ℕ). n + k) (length-numbered n p) in
      let then : n + size p + length (numbered (n + size p) q) ≡ n + size p + size q = ap (λ (k : ℕ). n + size p + k) (length-numbered (n + size p) q) in
      let rest = right n (n + size p) (numbered n p) (numbered (n + size p) q ++ last) first s in (
        top,
        mid,
        omega arith,
        only top (Two o (mid - 1) (top - 1)) (right (n + size p) (n + size p + size q) (numbered (n + size p) q) last then rest),
        stands_spans p n (n + size p) refl (left n (numbered n p) (numbered (n + size p) q ++ last) s),
        stands_spans q (n + size p) (n + size p + size q) refl (left (n + size p) (numbered (n + size p) q) last rest),
      )

  spans_stands : (t : Tree (Atom ℕ)) (n m : ℕ) → Spans ns n m t → (m ≡ n + size t) × Stands n (numbered n t)
  spans_stands (atom a) n m (e, x) = (omega arith, single n (Leaf a) x)
  spans_stands (one o p) n m (top, e, x, s) =
      let r = spans_stands p n top s in
      let y : node ns (n + size p) ≡ One o (n + size p - 1) = subst (λ (k : ℕ). node ns k ≡ One o (k - 1)) r.0 x in
      (omega (arith, r.0), join n (n + size p) (numbered n p) (One o (n + size p - 1) ∷ []) (ap (λ (k : ℕ). n + k) (length-numbered n p)) r.1 (single (n + size p) (One o (n + size p - 1)) y))
  spans_stands (two o p q) n m (top, mid, e, x, s, u) =
      let r = spans_stands p n mid s in
      let f : mid ≡ n + size p = r.0 in
      let v = spans_stands q (n + size p) top (subst (λ (k : ℕ). Spans ns k top q) f u) in
      let g : top ≡ n + size p + size q = v.0 in
      let last = Two o (n + size p - 1) (n + size p + size q - 1) in
      let y : node ns (n + size p + size q) ≡ last = subst (λ (k : ℕ). node ns k ≡ Two o (n + size p - 1) (k - 1)) g (subst (λ (k : ℕ). node ns top ≡ Two o (k - 1) (top - 1)) f x) in (
        omega arith,
        join n (n + size p) (numbered n p) (numbered (n + size p) q ++ (last ∷ [])) (ap (λ (k : ℕ). n + k) (length-numbered n p)) r.1
            (join (n + size p) (n + size p + size q) (numbered (n + size p) q) (last ∷ []) (ap (λ (k : ℕ). n + size p + k) (length-numbered (n + size p) q)) v.1
            (single (n + size p + size q) last y)),
      )

  pub numbered_spans : (t : Tree (Atom ℕ)) → ns ≡ numbered 0 t → Spans ns 0 (length ns) t
  numbered_spans t e =
      let long : 0 + size t ≡ length ns = zero-add (size t) ∙ sym (ap length e ∙ length-numbered 0 t) in
      stands_spans t 0 (length ns) long (λ k h. ap (node ns) (zero-add k) ∙ ap (λ (xs : List (Node ℕ)). node xs k) e)

  pub spans_numbered : (t : Tree (Atom ℕ)) → Spans ns 0 (length ns) t → ns ≡ numbered 0 t
  spans_numbered t s =
      let r = spans_stands t 0 (length ns) s in
      let long : length ns ≡ length (numbered 0 t) = r.0 ∙ zero-add (size t) ∙ sym (length-numbered 0 t) in
      ext_get_or (Leaf (Truth 0)) ns (numbered 0 t) long (λ k h. ap (node ns) (sym (zero-add k)) ∙ r.1 k (omega arith))
