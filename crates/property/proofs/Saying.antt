-- Values that say whether a fact holds, and the truths that a table has.
use Rattle.std.proofs.Common.{◌≡◌, ℕ, suc, ◌+◌, ◌-◌, ◌*◌, ◌<◌, ◌≤◌, Bool, true, false, cond, List, ◌++◌, length, take, drop, ℤ, pos, ◌↔◌, Decides, sym, refl, ap, ◌∙◌, subst, inl, inr, mul_comm, add-mul, mul-le-mul, le_refl, arith}
use Rattle.std.proofs.lemmas.List.{length-take, length-drop}
use Rattle.std.proofs.lemmas.Bool.Decides.{not_from_Decides, Decides-like}
use Rattle.looping.specs.Limits.{step_limit}
use Rattle.looping.specs.Words.{word, Loops, Within}
use Rattle.looping.specs.Logic.{Tree, Sat}
use Rattle.looping.proofs.Paths.{word_within, word_step}
use Rattle.property.specs.declared.nodes.Atom.{Atom}
use Rattle.property.specs.declared.nodes.Node.{Node}
use Rattle.property.specs.Numbering.{OneTree, Spans}
use Rattle.property.specs.Meaning.{value, signal_entry, node_entry, signal_of, holds_at, holds, Atoms, Fitting, Says, TruthAt, Filled, LowestWrong}
use Rattle.property.specs.ByNode.{spot, Known, Shows, FirstWrong}
use Rattle.property.proofs.Whole.{each_rooted, some_node}
use Rattle.property.proofs.Columns.{place_below, decode, spot_at, stand_read, stand_written, signals_kept}
use Rattle.property.proofs.Alike.{each_atom, sat_alike}

-- a truth that decides a fact, as a number
pub says_from : {P : Type 0} (v : ℤ) (b : Bool) → v ≡ cond b (pos 1) (pos 0) → Decides b P → Says v P
says_from v true e d = inl (e, d.0 refl)
says_from v false e d = inr (e, not_from_Decides false d refl)

-- and the number is no other
pub says_only : {P : Type 0} (v : ℤ) (b : Bool) → Says v P → Decides b P → v ≡ cond b (pos 1) (pos 0)
says_only v true (inl x) d = x.0
says_only v true (inr x) d = absurd (x.1 (d.0 refl))
says_only v false (inl x) d = absurd (not_from_Decides false d refl x.1)
says_only v false (inr x) d = x.0

-- what fits has a value for each signal at each step, and then one for each node
pub record Rooms (n m l long : ℕ) : Type 0 where
  pub signals : l * n ≤ long
  pub nodes : long ≡ n * l + m * l
  pub few : m * l ≤ m * step_limit

pub rooms : (ns : List (Node ℕ)) (n l c : ℕ) (table : List ℤ) → Fitting ns n l c table → Rooms n (length ns) l (length table)
rooms ns n l c table fit =
    let parts : (n + length ns) * l ≡ n * l + length ns * l = add-mul n (length ns) l in
    let turned : l * n ≡ n * l = mul_comm l n in
    record { signals = omega (arith, fit.long); nodes = fit.long ∙ parts; few = mul-le-mul (le_refl (length ns)) fit.steps }

-- tables with the same values of the signals have the same atoms
pub same_holds : (n l c : ℕ) → Loops l c → (old new : List ℤ) → ((e : ℕ) → e < n * l → value new e ≡ value old e)
    → (a : Atom ℕ) → signal_of a < n → (k : ℕ) → holds n old a (word l c k) ≡ holds n new a (word l c k)
same_holds n l c good old new kept a h k =
    let w = word_within l c good k in
    let j = word l c k in
    let b : signal_entry n (signal_of a) j < l * n = place_below n (signal_of a) (j - 1) l (l * n) h (omega (arith, w.low, w.high)) (omega arith) in
    ap (holds_at a) (sym (kept (signal_entry n (signal_of a) j) (subst (λ (x : ℕ). signal_entry n (signal_of a) j < x) (mul_comm l n) b)))

module _ (ns : List (Node ℕ)) (n l c : ℕ) (good : Loops l c) (given : Atoms n ns) (old new places : List ℤ) (kept : (e : ℕ) → e < n * l → value new e ≡ value old e)
    (long : length places ≡ length ns * l) (stand : (p : ℕ) → p < length places → value new (n * l + p) ≡ value places p)
    (columns : List (List Bool)) (wide : length columns ≡ length ns) (known : Known ns n l c old columns) where
  -- the truths that are known of the old table are those of the new one
  decided : (f j : ℕ) → f < length ns → (s : ℕ) (t : Tree (Atom ℕ)) → Spans ns s (suc f) t → (k : ℕ) → word l c k ≡ j → Decides (spot columns f j) (Sat (holds n new) (word l c) t k)
  decided f j h s t u k e =
      let alike = sat_alike (λ a. signal_of a < n) (holds n old) (holds n new) (word l c) (same_holds n l c good old new kept) t (each_atom ns n given t s (suc f) (omega arith) u) k in
      Decides-like (spot columns f j) alike.0 alike.1
      (subst (λ (i : ℕ). Decides (spot columns f i) (Sat (holds n old) (word l c) t k)) e (known f (omega arith) s t u k))

  -- the place of a node at a step shows its truth
  shows_at : (f j : ℕ) → f < length ns → 1 ≤ j → (v : ℤ) → Shows columns ((j - 1) * length ns + f) v ↔ (v ≡ cond (spot columns f j) (pos 1) (pos 0))
  shows_at f j h low v =
      let e = ap (λ (b : Bool). cond b (pos 1) (pos 0)) (spot_at columns (length ns) f j wide h low) in
      (λ s. s ∙ e, λ s. s ∙ sym e)

  below : (f j : ℕ) → f < length ns → Within l j → (j - 1) * length ns + f < length places
  below f j h w =
      let turned : l * length ns ≡ length places = mul_comm l (length ns) ∙ sym long in
      place_below (length ns) f (j - 1) l (length places) h (omega (arith, w.low, w.high)) (omega arith)

  -- an entry that shows the truth is right
  right_entry : (f j : ℕ) → f < length ns → Within l j → Shows columns ((j - 1) * length ns + f) (value places ((j - 1) * length ns + f)) → TruthAt ns n l c new f j
  right_entry f j h w shows s t u k e =
      let p = (j - 1) * length ns + f in
      says_from (value new (node_entry n (length ns) l f j)) (spot columns f j) (stand p (below f j h w) ∙ (shows_at f j h w.low (value places p)).0 shows) (decided f j h s t u k e)

  -- and no other is
  shown_entry : OneTree ns → (f j : ℕ) → f < length ns → Within l j → TruthAt ns n l c new f j → Shows columns ((j - 1) * length ns + f) (value places ((j - 1) * length ns + f))
  shown_entry tree f j h w right =
      let p = (j - 1) * length ns + f in
      let r = each_rooted ns tree f h in
      let e = word_step l c good j w in
      (shows_at f j h w.low (value places p)).1
      (sym (stand p (below f j h w)) ∙ says_only (value new (node_entry n (length ns) l f j)) (spot columns f j) (right r.0 r.1.0 r.1.1 (j - 1) e) (decided f j h r.0 r.1.0 r.1.1 (j - 1) e))

  -- a table whose entries all show their truths is filled
  filled : ((p : ℕ) → p < length places → Shows columns p (value places p)) → Filled ns n l c new
  filled written f j h s t u k e =
      let w = subst (Within l) e (word_within l c good k) in
      right_entry f j h w (written ((j - 1) * length ns + f) (below f j h w)) s t u k e

  -- the first entry that has not its truth is the lowest wrong one
  lowest : OneTree ns → (p : ℕ) → FirstWrong columns places p → LowestWrong ns n l c new (n * l + p)
  lowest tree p x =
      let d = decode (length ns) l p (some_node ns tree) (omega (arith, long, x.few)) in
      record {
        f = d.f;
        j = d.j;
        known = d.column;
        step = d.step;
        entry = ap (λ (p : ℕ). n * l + p) (sym d.place);
        wrong = λ right. x.wrong (subst (λ (q : ℕ). Shows columns q (value places q)) d.place (shown_entry tree d.f d.j d.column d.step right));
        lower = λ g i b w before. right_entry g i b w (x.lower ((i - 1) * length ns + g) (omega (arith, before)));
      }

module _ {ns : List (Node ℕ)} {n l c : ℕ} {table : List ℤ} (fit : Fitting ns n l c table) (columns : List (List Bool)) (wide : length columns ≡ length ns)
    (known : Known ns n l c table columns) where
  -- what stands behind the signals
  abbrev pub behind : List ℤ
  behind = take (length table - n * l) (drop (n * l) table)

  room : Rooms n (length ns) l (length table)
  room = rooms ns n l c table fit

  starts : n * l ≤ length table
  starts = omega (arith, room.nodes)

  long : length behind ≡ length ns * l
  long = omega (arith, room.nodes, length-take (length table - n * l) (drop (n * l) table), length-drop (n * l) table)

  stands : (p : ℕ) → p < length behind → value table (n * l + p) ≡ value behind p
  stands = stand_read (n * l) (length table - n * l) table

  pub filled_read : ((p : ℕ) → p < length behind → Shows columns p (value behind p)) → Filled ns n l c table
  filled_read = filled ns n l c fit.loops fit.atoms table table behind (λ e h. refl) long stands columns wide known

  pub lowest_read : (p : ℕ) → FirstWrong columns behind p → LowestWrong ns n l c table (n * l + p)
  lowest_read = lowest ns n l c fit.loops fit.atoms table table behind (λ e h. refl) long stands columns wide known fit.tree

  -- a table is filled once its truths are written there
  pub filled_written : (places rest : List ℤ) → length places ≡ length behind → ((p : ℕ) → p < length behind → Shows columns p (value places p))
      → Filled ns n l c (take (n * l) table ++ (places ++ rest))
  filled_written places rest same written =
      filled ns n l c fit.loops fit.atoms table (take (n * l) table ++ (places ++ rest)) places (signals_kept (n * l) table places rest starts) (same ∙ long)
      (stand_written (n * l) table places rest starts) columns wide known (λ p h. written p (omega arith))
