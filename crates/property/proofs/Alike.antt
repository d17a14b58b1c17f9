-- A tree looks only at its atoms.
use Rattle.std.proofs.Common.{◌≡◌, ℕ, suc, ◌<◌, ◌≤◌, Bool, ◌↔◌, List, length, sym, ◌∙◌, inl, inr, arith}
use Rattle.looping.specs.declared.Unary.TheVariants.{Not, Next, Finally, Globally}
use Rattle.looping.specs.declared.Binary.TheVariants.{And, Or, Implies, Until}
use Rattle.looping.specs.Logic.{Tree, Sat, atom, one, two}
use Rattle.property.specs.declared.nodes.Atom.{Atom}
use Rattle.property.specs.declared.nodes.Node.{Node}
use Rattle.property.specs.Numbering.{Spans}
use Rattle.property.specs.Meaning.{Atoms, signal_of}
use Rattle.property.proofs.Trees.{grows}

-- each atom of the tree has P
abbrev pub Each : (Atom ℕ → Type 0) → Tree (Atom ℕ) → Type 0
Each P (atom a) = P a
Each P (one o p) = Each P p
Each P (two o p q) = Each P p × Each P q

-- the atoms of a tree in the list look at one of n signals
pub each_atom : (ns : List (Node ℕ)) (n : ℕ) → Atoms n ns → (t : Tree (Atom ℕ)) (a b : ℕ) → b ≤ length ns → Spans ns a b t → Each (λ x. signal_of x < n) t
each_atom ns n given (atom x) a b h (e, q) = given a x (omega arith) q
each_atom ns n given (one o p) a b h (top, e, q, u) = each_atom ns n given p a top (omega arith) u
each_atom ns n given (two o p q) a b h (top, mid, e, r, u, v) =
    let g : mid < top = grows ns q mid top v in
    (each_atom ns n given p a mid (omega arith) u, each_atom ns n given q mid top (omega arith) v)

module _ (P : Atom ℕ → Type 0) (g h : Atom ℕ → ℕ → Bool) (w : ℕ → ℕ) (same : (a : Atom ℕ) → P a → (k : ℕ) → g a (w k) ≡ h a (w k)) where
  pub sat_alike : (t : Tree (Atom ℕ)) → Each P t → (k : ℕ) → Sat g w t k ↔ Sat h w t k
  sat_alike (atom a) e k = (λ s. sym (same a e k) ∙ s, λ s. same a e k ∙ s)
  sat_alike (one Not p) e k = (λ f s. f ((sat_alike p e k).1 s), λ f s. f ((sat_alike p e k).0 s))
  sat_alike (one Next p) e k = sat_alike p e (suc k)
  sat_alike (one Finally p) e k = (λ s. (s.0, s.1, (sat_alike p e s.0).0 s.2), λ s. (s.0, s.1, (sat_alike p e s.0).1 s.2))
  sat_alike (one Globally p) e k = (λ s j b. (sat_alike p e j).0 (s j b), λ s j b. (sat_alike p e j).1 (s j b))
  sat_alike (two And p q) e k =
      (λ s. ((sat_alike p e.0 k).0 s.0, (sat_alike q e.1 k).0 s.1), λ s. ((sat_alike p e.0 k).1 s.0, (sat_alike q e.1 k).1 s.1))
  sat_alike (two Or p q) e k = (
    λ s. elim s [ inl a ↦ inl ((sat_alike p e.0 k).0 a) | inr b ↦ inr ((sat_alike q e.1 k).0 b) ],
    λ s. elim s [ inl a ↦ inl ((sat_alike p e.0 k).1 a) | inr b ↦ inr ((sat_alike q e.1 k).1 b) ],
  )
  sat_alike (two Implies p q) e k =
      (λ f s. (sat_alike q e.1 k).0 (f ((sat_alike p e.0 k).1 s)), λ f s. (sat_alike q e.1 k).1 (f ((sat_alike p e.0 k).0 s)))
  sat_alike (two Until p q) e k = (
    λ s. (s.0, s.1, (sat_alike q e.1 s.0).0 s.2, λ i a b. (sat_alike p e.0 i).0 (s.3 i a b)),
    λ s. (s.0, s.1, (sat_alike q e.1 s.0).1 s.2, λ i a b. (sat_alike p e.0 i).1 (s.3 i a b)),
  )
