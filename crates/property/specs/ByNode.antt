-- The truths of a node from those of its sides, where each node has a column.
use Rattle.std.specs.Prelude.{◌≡◌, ℕ, suc, ◌/◌, ◌%◌, ◌<◌, Bool, true, cond, List, [], length, ℤ, pos, slice_index_or}
use Rattle.looping.specs.Words.{Within}
use Rattle.looping.specs.Columns.{at, On}
use Rattle.looping.specs.Logic.{Tree}
use Rattle.looping.specs.Laws.{Means1, Means2, Truths}
use Rattle.property.specs.declared.nodes.Atom.{Atom}
use Rattle.property.specs.declared.nodes.Node.{Node}
use Rattle.property.specs.declared.nodes.Node.TheVariants.{Atom as Leaf, One, Two}
use Rattle.property.specs.Numbering.{node, Spans}
use Rattle.property.specs.Meaning.{value, node_entry, signal_of, eq_z, holds, Says}

-- the truth of node f at step j, where each node has a column
abbrev pub spot : List (List Bool) → ℕ → ℕ → Bool
spot columns f j = at (slice_index_or columns f []) j

-- what a node says at step j, where `column` has the truths of each node at each step
abbrev pub Means : (Atom ℕ → ℕ → Bool) → ℕ → ℕ → Node ℕ → (ℕ → ℕ → Bool) → ℕ → Type 0
Means holds l c (Leaf a) column j = holds a j ≡ true
Means holds l c (One o x) column j = Means1 o l c (On (column x)) j
Means holds l c (Two o x y) column j = Means2 o l c (On (column x)) (On (column y)) j

-- the value is the truth, as a number, at place p of m columns: that of column p % m at step p / m + 1
abbrev pub Shows : List (List Bool) → ℕ → ℤ → Type 0
Shows columns p v = v ≡ cond (spot columns (p % length columns) (suc (p / length columns))) (pos 1) (pos 0)

-- the value is the truth, as a number, of node f at step j, counted from 0
abbrev pub ShowsAt : List (List Bool) → ℕ → ℕ → ℤ → Type 0
ShowsAt columns f j v = v ≡ cond (spot columns f (suc j)) (pos 1) (pos 0)

-- f is the lowest node that has not its truth at step j, counted from 0
pub record FirstWrongAt (columns : List (List Bool)) (j : ℕ) (step : List ℤ) (f : ℕ) : Type 0 where
  pub few : f < length columns
  pub wrong : ShowsAt columns f j (value step f) → ⊥
  pub lower : (g : ℕ) → g < f → ShowsAt columns g j (value step g)

-- p is the lowest place that has not its truth
pub record FirstWrong (columns : List (List Bool)) (places : List ℤ) (p : ℕ) : Type 0 where
  pub few : p < length places
  pub wrong : Shows columns p (value places p) → ⊥
  pub lower : (q : ℕ) → q < p → Shows columns q (value places q)

-- the node's atom looks at one of n signals, and its sides are numbered below m
abbrev pub Inside : ℕ → ℕ → Node ℕ → Type 0
Inside n m (Leaf a) = signal_of a < n
Inside n m (One o x) = x < m
Inside n m (Two o x y) = (x < m) × (y < m)

-- each column has the truths of the trees that end at its node
abbrev pub Known : List (Node ℕ) → ℕ → ℕ → ℕ → List ℤ → List (List Bool) → Type 0
Known ns n l c table columns = (f : ℕ) → f < length columns → (s : ℕ) (t : Tree (Atom ℕ)) → Spans ns s (suc f) t → Truths (holds n table) l c t (spot columns f)

-- whether the table has node f, of m nodes, true at step j
abbrev pub node_at : ℕ → ℕ → ℕ → List ℤ → ℕ → ℕ → Bool
node_at n m l table f j = eq_z (value table (node_entry n m l f j)) (pos 1)

-- each node's entry at each step says what the node makes of the entries of its sides
abbrev pub BySides : List (Node ℕ) → ℕ → ℕ → ℕ → List ℤ → Type 0
BySides ns n l c table =
    (f j : ℕ) → f < length ns → Within l j
    → Says (value table (node_entry n (length ns) l f j)) (Means (holds n table) l c (node ns f) (node_at n (length ns) l table) j)
