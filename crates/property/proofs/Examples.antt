-- Worked examples, which pin the definitions: the property `READ -> F (TEMP < 5)` over two steps, where the run goes on at step 2.
use Rattle.std.proofs.Common.{◌≡◌, ℕ, zero, suc, ◌<◌, ◌==◌, cond, Bool, true, false, List, [], ◌∷◌, replicate, Option, Some, None, ℤ, pos, negsuc, Decides, sym, refl, subst, inl, inr, arith}
use Rattle.std.proofs.lemmas.Bool.{false≢true}
use Rattle.looping.specs.declared.Unary.TheVariants.{Not, Finally}
use Rattle.looping.specs.declared.Binary.TheVariants.{Implies}
use Rattle.looping.specs.Words.{word, Loops}
use Rattle.looping.specs.Logic.{Tree, Sat, atom, one, two}
use Rattle.property.specs.declared.nodes.Atom.{Atom}
use Rattle.property.specs.declared.nodes.Atom.TheVariants.{Truth, Compare}
use Rattle.property.specs.declared.nodes.Comparison.TheVariants.{Equal, Less, Greater}
use Rattle.property.specs.declared.nodes.Node.{Node}
use Rattle.property.specs.declared.nodes.Node.TheVariants.{Atom as Leaf, One, Two}
use Rattle.property.specs.Naming.{Renamed}
use Rattle.property.specs.Numbering.{size, numbered, OneTree, node, Spans, Rooted, SidesBefore, Started, Begins, EachBefore}
use Rattle.property.specs.Meaning.{value, signal_entry, node_entry, eq_z, compares, signal_of, holds_at, holds, Atoms, Fitting, Says, TruthAt, Filled, LowestWrong}
use Rattle.property.specs.ByNode.{spot, Means, Shows, ShowsAt, FirstWrong, FirstWrongAt, Inside, Known, node_at, BySides}
use Rattle.looping.proofs.Paths.{word_within}
use Rattle.property.proofs.Trees.{same_tree}
use Rattle.property.proofs.Numbers.{numbered_spans}
use Rattle.property.proofs.Sides.{truth_by_sides}

abbrev read : Atom ℕ
read = Truth 0

abbrev cool : Atom ℕ
cool = Compare 1 Less (pos 5)

abbrev tree : Tree (Atom ℕ)
tree = two Implies (atom read) (one Finally (atom cool))

abbrev nodes : List (Node ℕ)
nodes = Leaf read ∷ Leaf cool ∷ One Finally 1 ∷ Two Implies 0 2 ∷ []

four_nodes : size tree ≡ 4
four_nodes = refl

in_order : numbered 0 tree ≡ nodes
in_order = refl

-- the numbers go on from the first
from_ten : numbered 10 (one Not (atom read)) ≡ Leaf read ∷ One Not 10 ∷ []
from_ten = refl

is_tree : OneTree nodes
is_tree = (omega arith, (tree, refl))

-- two trees side by side are not one
not_two : OneTree (Leaf read ∷ Leaf read ∷ []) → ⊥
not_two (h, (t, e)) = ends t (numbered_spans (Leaf read ∷ Leaf read ∷ []) t e)
  where
    ends : (t : Tree (Atom ℕ)) → Spans (Leaf read ∷ Leaf read ∷ []) 0 2 t → ⊥
    ends (atom a) (e, q) = omega arith
    ends (one o p) (zero, e, q, u) = omega arith
    ends (one o p) (suc zero, e, q, u) = let z : ◌≡◌ {A = ℕ} 0 1 = cc in omega arith
    ends (one o p) (suc (suc top), e, q, u) = omega arith
    ends (two o p r) (zero, mid, e, q, u, v) = omega arith
    ends (two o p r) (suc zero, mid, e, q, u, v) = let z : ◌≡◌ {A = ℕ} 0 1 = cc in omega arith
    ends (two o p r) (suc (suc top), mid, e, q, u, v) = omega arith

third : node nodes 2 ≡ One Finally 1
third = refl

-- the right side stands at the nodes 1 and 2
right_side : Spans nodes 1 3 (one Finally (atom cool))
right_side = (2, refl, refl, (refl, refl))

root : Rooted nodes 3 0
root = (tree, (3, 1, refl, refl, (refl, refl), right_side))

started : Started nodes (0 ∷ 1 ∷ []) 2
started zero h = (atom read, (refl, refl))
started (suc zero) h = (atom cool, (refl, refl))
started (suc (suc g)) h = absurd (omega arith)

-- the left side of node 3 ends at 0, just before the right one, which starts at 1 and ends at 2
sides : SidesBefore (0 ∷ 1 ∷ 1 ∷ []) 3 0 2
sides = (refl, refl)

-- so the tree that ends at node 3 begins where its left side does
begins : Begins (0 ∷ 1 ∷ 1 ∷ []) (Two Implies 0 2) 0
begins = (sides, refl)

leaf_begins : Begins (0 ∷ []) (Leaf cool) 1
leaf_begins = refl

-- and no tree ends at a node whose side is not just before it
no_begin : Begins (0 ∷ 1 ∷ []) (One Finally 0) 0 → ⊥
no_begin (h, e) = omega arith

each_before : EachBefore (0 ∷ 1 ∷ 1 ∷ [])
each_before zero h = omega arith
each_before (suc zero) h = omega arith
each_before (suc (suc zero)) h = omega arith
each_before (suc (suc (suc g))) h = absurd (omega arith)

-- READ is 1 and then 0, TEMP 7 and then 3; then the truths of the four nodes at step 1, and at step 2
abbrev table : List ℤ
table = pos 1 ∷ pos 7 ∷ pos 0 ∷ pos 3 ∷ pos 1 ∷ pos 0 ∷ pos 1 ∷ pos 1 ∷ pos 0 ∷ pos 1 ∷ pos 1 ∷ pos 1 ∷ []

temp_at_2 : value table (signal_entry 2 1 2) ≡ pos 3
temp_at_2 = refl

root_at_1 : node_entry 2 4 2 3 1 ≡ 7
root_at_1 = refl

first_at_2 : node_entry 2 4 2 0 2 ≡ 8
first_at_2 = refl

equal : eq_z (negsuc 4) (negsuc 4) ≡ true
equal = refl

unequal : eq_z (negsuc 0) (pos 1) ≡ false
unequal = refl

not_less : compares Less (pos 5) (pos 5) ≡ false
not_less = refl

less : compares Less (negsuc 0) (pos 0) ≡ true
less = refl

greater : compares Greater (pos 6) (pos 5) ≡ true
greater = refl

same : compares Equal (pos 5) (pos 5) ≡ true
same = refl

looks_at : signal_of cool ≡ 1
looks_at = refl

at_one : holds_at read (pos 1) ≡ true
at_one = refl

-- a bool atom holds at 1 alone
at_two : holds_at read (pos 2) ≡ false
at_two = refl

cool_at_2 : holds 2 table cool 2 ≡ true
cool_at_2 = refl

two_signals : Atoms 2 nodes
two_signals zero a h e = let k : a ≡ read = cc in subst (λ (x : Atom ℕ). signal_of x < 2) (sym k) (omega arith)
two_signals (suc zero) a h e = let k : a ≡ cool = cc in subst (λ (x : Atom ℕ). signal_of x < 2) (sym k) (omega arith)
two_signals (suc (suc zero)) a h e = let z : ◌≡◌ {A = ℕ} 0 1 = cc in absurd (omega arith)
two_signals (suc (suc (suc zero))) a h e = let z : ◌≡◌ {A = ℕ} 0 1 = cc in absurd (omega arith)
two_signals (suc (suc (suc (suc f)))) a h e = absurd (omega arith)

loops : Loops 2 2
loops = record { low = omega arith; high = omega arith }

fitting : Fitting nodes 2 2 2 table
fitting = record { tree = is_tree; atoms = two_signals; signals = omega arith; loops = loops; steps = omega arith; long = refl }

no_65_steps : Fitting nodes 2 65 2 table → ⊥
no_65_steps fit = omega (arith, fit.steps)

no_1025_signals : Fitting nodes 1025 2 2 table → ⊥
no_1025_signals fit = omega (arith, fit.signals)

no_65_nodes : OneTree (replicate 65 (Leaf read)) → ⊥
no_65_nodes (h, t) = omega arith

says_no : Says (pos 0) ⊥
says_no = inr (refl, λ e. e)

says_only_bits : Says (pos 2) (Says (pos 0) ⊥) → ⊥
says_only_bits (inl x) = let z : ◌≡◌ {A = ℕ} 0 1 = cc x.0 in omega arith
says_only_bits (inr x) = let z : ◌≡◌ {A = ℕ} 0 1 = cc x.0 in omega arith

-- at step 1, `F (TEMP < 5)` holds by the second visit
by_visit : Means (holds 2 table) 2 2 (One Finally 1) (node_at 2 4 2 table) 1
by_visit = (1, omega arith, refl)

true_at_2 : node_at 2 4 2 table 1 2 ≡ true
true_at_2 = refl

by_sides : BySides nodes 2 2 2 table
by_sides f zero h w = absurd (omega (arith, w.low))
by_sides f (suc (suc (suc j))) h w = absurd (omega (arith, w.high))
by_sides zero (suc zero) h w = inl (refl, refl)
by_sides zero (suc (suc zero)) h w = inr (refl, λ e. false≢true e)
by_sides (suc zero) (suc zero) h w = inr (refl, λ e. false≢true e)
by_sides (suc zero) (suc (suc zero)) h w = inl (refl, refl)
by_sides (suc (suc zero)) (suc zero) h w = inl (refl, by_visit)
by_sides (suc (suc zero)) (suc (suc zero)) h w = inl (refl, (0, omega arith, refl))
by_sides (suc (suc (suc zero))) (suc zero) h w = inl (refl, λ e. refl)
by_sides (suc (suc (suc zero))) (suc (suc zero)) h w = inl (refl, λ e. refl)
by_sides (suc (suc (suc (suc f)))) (suc zero) h w = absurd (omega arith)
by_sides (suc (suc (suc (suc f)))) (suc (suc zero)) h w = absurd (omega arith)

-- so the table has its truths
filled : Filled nodes 2 2 2 table
filled = (truth_by_sides nodes 2 2 2 table is_tree loops).1 by_sides

-- of the property `READ` over one step, the truth 0 is wrong where READ is 1
wrong : TruthAt (Leaf read ∷ []) 1 1 1 (pos 1 ∷ pos 0 ∷ []) 0 1 → ⊥
wrong right =
    elim (right 0 (atom read) (refl, refl) 0 refl) [
      | inl x ↦ let z : ◌≡◌ {A = ℕ} 0 1 = cc x.0 in omega arith
      | inr x ↦ x.1 refl
    ]

lowest : LowestWrong (Leaf read ∷ []) 1 1 1 (pos 1 ∷ pos 0 ∷ []) 1
lowest =
    record {
      f = 0;
      j = 1;
      known = omega arith;
      step = record { low = omega arith; high = omega arith };
      entry = refl;
      wrong = wrong;
      lower = λ g i h w b. absurd (omega arith);
    }

-- truths of two nodes at two steps
abbrev columns : List (List Bool)
columns = (true ∷ false ∷ []) ∷ (false ∷ true ∷ []) ∷ []

second_at_2 : spot columns 1 2 ≡ true
second_at_2 = refl

-- behind the signals they stand step by step
third_place : Shows columns 2 (pos 0)
third_place = refl

last_place : Shows columns 3 (pos 1)
last_place = refl

-- node 1 at the second step
second_step : ShowsAt columns 1 1 (pos 1)
second_step = refl

-- the first of two nodes has not its truth at the second step
wrong_at_step : FirstWrongAt columns 1 (pos 1 ∷ pos 1 ∷ []) 0
wrong_at_step =
    record {
      few = omega arith;
      wrong = λ e. let z : ◌≡◌ {A = ℕ} 0 1 = cc e in omega arith;
      lower = λ g h. absurd (omega arith);
    }

first_wrong : FirstWrong columns (pos 1 ∷ pos 1 ∷ pos 0 ∷ pos 1 ∷ []) 1
first_wrong =
    record {
      few = omega arith;
      wrong = λ e. let z : ◌≡◌ {A = ℕ} 0 1 = cc e in omega arith;
      lower = λ q h. let k : q ≡ 0 = omega arith in subst (λ (p : ℕ). Shows columns p (value (pos 1 ∷ pos 1 ∷ pos 0 ∷ pos 1 ∷ []) p)) (sym k) refl;
    }

inside : Inside 2 4 (Two Implies 0 2)
inside = (omega arith, omega arith)

outside : Inside 1 4 (Leaf cool) → ⊥
outside h = omega arith

-- the truths of `READ` over one step
known : Known (Leaf read ∷ []) 1 1 1 (pos 1 ∷ []) ((true ∷ []) ∷ [])
known zero h s t u k =
    let only = same_tree (Leaf read ∷ []) t (atom read) s 1 0 1 refl u (refl, refl) in
    let w = word_within 1 1 (record { low = omega arith; high = omega arith }) k in
    let first : 1 ≡ word 1 1 k = omega (arith, w.low, w.high) in
    subst (λ (v : Tree (Atom ℕ)). Decides (spot ((true ∷ []) ∷ []) 0 (word 1 1 k)) (Sat (holds 1 (pos 1 ∷ [])) (word 1 1) v k)) (sym only.1)
    (subst (λ (j : ℕ). Decides (spot ((true ∷ []) ∷ []) 0 j) (holds 1 (pos 1 ∷ []) read j ≡ true)) first (λ e. refl, λ e. refl))
known (suc f) h s t u k = absurd (omega arith)

-- each name is the number one above it, and 9 is no name
abbrev above : ℕ → Option ℕ → Type 0
above s o = o ≡ cond (s == 9) None (Some (suc s))

named : Renamed above (Leaf (Compare 1 Less (pos 5))) (Some (Leaf (Compare 2 Less (pos 5))))
named = (Compare 2 Less (pos 5), (2, refl, refl), refl)

no_name : Renamed above (Leaf (Truth 9)) None
no_name = refl

wrong_name : Renamed above (Leaf (Truth 1)) (Some (Leaf (Truth 1))) → ⊥
wrong_name (a, (r, e, f), g) = let z : ◌≡◌ {A = ℕ} 1 2 = cc in omega arith

no_signal : Renamed above (One Finally 1) (Some (One Finally 1))
no_signal = refl
