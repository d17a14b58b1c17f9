-- The laws of the truths of a property.
use Rattle.std.proofs.Common.{◌≡◌, ℕ, zero, suc, ◌+◌, ◌-◌, ◌*◌, ◌<◌, ◌≤◌, ◌↔◌, List, length, ℤ, pos, Decides, sym, refl, ap, ◌∙◌, subst, inl, inr, add-mul, arith}
use Rattle.std.proofs.lemmas.List.{ext_get_or}
use Rattle.std.proofs.lemmas.Bool.{cases_lt, both_ways}
use Rattle.looping.specs.Words.{word, Loops, Within}
use Rattle.looping.proofs.Paths.{word_within, word_step}
use Rattle.property.specs.declared.nodes.Node.{Node}
use Rattle.property.specs.Numbering.{OneTree, Spans, node}
use Rattle.property.specs.Meaning.{value, node_entry, signal_of, eq_z, holds, Says, Filled}
use Rattle.property.specs.ByNode.{Means, node_at, BySides}
use Rattle.property.specs.Laws.{EachEndsOneTree, TruthBySides, SignalsDecide}
use Rattle.property.proofs.Trees.{same_tree}
use Rattle.property.proofs.Whole.{each_rooted, some_node}
use Rattle.property.proofs.Columns.{decode}
use Rattle.property.proofs.Settling.{Right, sat_means, here}
use Rattle.property.proofs.Alike.{each_atom, sat_alike}
use Rattle.property.proofs.Saying.{same_holds}

pub each_ends_one_tree : EachEndsOneTree
each_ends_one_tree ns tree f h =
    let r = each_rooted ns tree f h in
    (r.0, r.1.0, r.1.1, λ s u x. same_tree ns u r.1.0 s (suc f) r.0 (suc f) refl x r.1.1)

-- a value that says a fact is 1 exactly where the fact holds
says_decides : {P : Type 0} (v : ℤ) → Says v P → Decides (eq_z v (pos 1)) P
says_decides v (inl x) = (λ e. x.1, λ p. ap (λ (w : ℤ). eq_z w (pos 1)) x.0)
says_decides v (inr x) = (λ e. absurd (both_ways (eq_z v (pos 1)) (ap (λ (w : ℤ). eq_z w (pos 1)) x.0) e), λ p. absurd (x.1 p))

says_like : {P Q : Type 0} (v : ℤ) → P ↔ Q → Says v P → Says v Q
says_like v e (inl x) = inl (x.0, e.0 x.1)
says_like v e (inr x) = inr (x.0, λ q. x.1 (e.1 q))

-- values that say the same are the same
says_same : {P Q : Type 0} (v w : ℤ) → P ↔ Q → Says v P → Says w Q → v ≡ w
says_same v w e (inl x) (inl y) = x.0 ∙ sym y.0
says_same v w e (inl x) (inr y) = absurd (y.1 (e.0 x.1))
says_same v w e (inr x) (inl y) = absurd (x.1 (e.1 y.1))
says_same v w e (inr x) (inr y) = x.0 ∙ sym y.0

module _ (ns : List (Node ℕ)) (n l c : ℕ) (table : List ℤ) (tree : OneTree ns) (good : Loops l c) where
  abbrev Columns : ℕ → Type 0
  Columns count = Right ns (holds n table) l c good (node_at n (length ns) l table) count

  filled_right : Filled ns n l c table → (count : ℕ) → count ≤ length ns → Columns count
  filled_right filled count b f h s t u k = says_decides (value table (node_entry n (length ns) l f (word l c k))) (filled f (word l c k) (omega arith) s t u k refl)

  sides_right : BySides ns n l c table → (count : ℕ) → count ≤ length ns → Columns count
  sides_right sides zero b f h s t u = absurd (omega arith)
  sides_right sides (suc g) b f h s t u =
      let below : Columns g = sides_right sides g (omega arith) in
      elim (cases_lt f g) [
        | inl d ↦ below f d s t u
        | inr d ↦
            let e : f ≡ g = omega arith in
            rw e (here ns (holds n table) l c good (node_at n (length ns) l table) g below (node_at n (length ns) l table g)
            (λ j w. says_decides (value table (node_entry n (length ns) l g j)) (sides g j (omega arith) w)) s t (subst (λ (m : ℕ). Spans ns s (suc m) t) e u))
      ]

  into : Filled ns n l c table → BySides ns n l c table
  into filled f j h w =
      let r = each_rooted ns tree f h in
      let e = word_step l c good j w in
      let i = sat_means ns (holds n table) l c good (node_at n (length ns) l table) f (filled_right filled f (omega arith)) r.0 r.1.0 r.1.1 (j - 1) in
      subst (λ (m : ℕ). Says (value table (node_entry n (length ns) l f j)) (Means (holds n table) l c (node ns f) (node_at n (length ns) l table) m)) e
      (says_like (value table (node_entry n (length ns) l f j)) i (filled f j h r.0 r.1.0 r.1.1 (j - 1) e))

  out : BySides ns n l c table → Filled ns n l c table
  out sides f j h s t u k e =
      let i = sat_means ns (holds n table) l c good (node_at n (length ns) l table) f (sides_right sides f (omega arith)) s t u k in
      says_like (value table (node_entry n (length ns) l f j)) (i.1, i.0)
      (subst (λ (m : ℕ). Says (value table (node_entry n (length ns) l f j)) (Means (holds n table) l c (node ns f) (node_at n (length ns) l table) m)) (sym e)
      (sides f j h (subst (Within l) e (word_within l c good k))))

pub truth_by_sides : TruthBySides
truth_by_sides ns n l c table tree good = (into ns n l c table tree good, out ns n l c table tree good)

pub signals_decide : SignalsDecide
signals_decide ns n l c table other fit fits same left right = ext_get_or (pos 0) table other (fit.long ∙ sym fits.long) each
  where
    good : Loops l c
    good = fit.loops

    node_same : (f j : ℕ) → f < length ns → Within l j → value table (node_entry n (length ns) l f j) ≡ value other (node_entry n (length ns) l f j)
    node_same f j h w =
        let r = each_rooted ns fit.tree f h in
        let e = word_step l c good j w in
        let alike = sat_alike (λ a. signal_of a < n) (holds n table) (holds n other) (word l c) (same_holds n l c good table other (λ x b. sym (same x b))) r.1.0 (each_atom ns n fit.atoms r.1.0 r.0 (suc f) (omega arith) r.1.1) (j - 1) in
        says_same (value table (node_entry n (length ns) l f j)) (value other (node_entry n (length ns) l f j)) alike (left f j h r.0 r.1.0 r.1.1 (j - 1) e) (right f j h r.0 r.1.0 r.1.1 (j - 1) e)

    each : (e : ℕ) → e < length table → value table e ≡ value other e
    each e b =
        elim (cases_lt e (n * l)) [
          | inl h ↦ same e h
          | inr h ↦
              let parts : (n + length ns) * l ≡ n * l + length ns * l = add-mul n (length ns) l in
              let d = decode (length ns) l (e - n * l) (some_node ns fit.tree) (omega (arith, fit.long)) in
              let entry : node_entry n (length ns) l d.f d.j ≡ e = omega (arith, d.place) in
              subst (λ (x : ℕ). value table x ≡ value other x) entry (node_same d.f d.j d.column d.step)
        ]
