-- The truths of a property's nodes over a looping run, in one table of values.
-- Of n signals and m nodes over l steps, signal s at step j is entry (j - 1) * n + s, and node f at step j is entry n * l + (j - 1) * m + f.
use Rattle.std.specs.Prelude.{◌≡◌, ℕ, suc, ◌+◌, ◌-◌, ◌*◌, ◌<◌, ◌≤◌, Bool, false, ◌⊎◌, List, length, ℤ, pos, negsuc, ◌==◌, int_lt, slice_index_or}
use Rattle.looping.specs.Limits.{step_limit, signal_limit}
use Rattle.looping.specs.Words.{word, Loops, Within}
use Rattle.looping.specs.Logic.{Tree, Sat}
use Rattle.property.specs.declared.nodes.Atom.{Atom}
use Rattle.property.specs.declared.nodes.Atom.TheVariants.{Truth, Compare}
use Rattle.property.specs.declared.nodes.Comparison.{Comparison}
use Rattle.property.specs.declared.nodes.Comparison.TheVariants.{Equal, Less, Greater}
use Rattle.property.specs.declared.nodes.Node.{Node}
use Rattle.property.specs.declared.nodes.Node.TheVariants.{Atom as Leaf}
use Rattle.property.specs.Numbering.{OneTree, Spans, node}

-- the value of an entry
abbrev pub value : List ℤ → ℕ → ℤ
value table e = slice_index_or table e (pos 0)

-- the entry of signal s at step j
abbrev pub signal_entry : ℕ → ℕ → ℕ → ℕ
signal_entry n s j = (j - 1) * n + s

-- the entry of node f at step j
abbrev pub node_entry : ℕ → ℕ → ℕ → ℕ → ℕ → ℕ
node_entry n m l f j = n * l + ((j - 1) * m + f)

-- whether two numbers are equal
abbrev pub eq_z : ℤ → ℤ → Bool
eq_z (pos a) (pos b) = a == b
eq_z (pos a) (negsuc b) = false
eq_z (negsuc a) (pos b) = false
eq_z (negsuc a) (negsuc b) = a == b

-- whether the value stands so to the number
abbrev pub compares : Comparison → ℤ → ℤ → Bool
compares Equal v k = eq_z v k
compares Less v k = int_lt v k
compares Greater v k = int_lt k v

-- the signal that an atom looks at
abbrev pub signal_of : Atom ℕ → ℕ
signal_of (Truth s) = s
signal_of (Compare s o k) = s

-- whether the atom holds where its signal has the value
abbrev pub holds_at : Atom ℕ → ℤ → Bool
holds_at (Truth s) v = eq_z v (pos 1)
holds_at (Compare s o k) v = compares o v k

-- whether the atom holds at step j of the table, with n signals
abbrev pub holds : ℕ → List ℤ → Atom ℕ → ℕ → Bool
holds n table a j = holds_at a (value table (signal_entry n (signal_of a) j))

-- each atom looks at one of n signals
abbrev pub Atoms : ℕ → List (Node ℕ) → Type 0
Atoms n ns = (f : ℕ) (a : Atom ℕ) → f < length ns → node ns f ≡ Leaf a → signal_of a < n

-- a property and a table of n signals fit a run of l steps that goes on at step c
pub record Fitting (ns : List (Node ℕ)) (n l c : ℕ) (table : List ℤ) : Type 0 where
  pub tree : OneTree ns
  pub atoms : Atoms n ns
  pub signals : n ≤ signal_limit
  pub loops : Loops l c
  pub steps : l ≤ step_limit
  pub long : length table ≡ (n + length ns) * l

-- the value is 1 where the fact holds, and 0 where it does not
abbrev pub Says : ℤ → Type 0 → Type 0
Says v P = ((v ≡ pos 1) × P) ⊎ ((v ≡ pos 0) × (P → ⊥))

-- node f has its truth at step j: at every position that shows the step, the entry says whether the node's tree holds there
abbrev pub TruthAt : List (Node ℕ) → ℕ → ℕ → ℕ → List ℤ → ℕ → ℕ → Type 0
TruthAt ns n l c table f j =
    (s : ℕ) (t : Tree (Atom ℕ)) → Spans ns s (suc f) t → (k : ℕ) → word l c k ≡ j
    → Says (value table (node_entry n (length ns) l f j)) (Sat (holds n table) (word l c) t k)

-- each node has its truth at each step
abbrev pub Filled : List (Node ℕ) → ℕ → ℕ → ℕ → List ℤ → Type 0
Filled ns n l c table = (f j : ℕ) → f < length ns → TruthAt ns n l c table f j

-- of the nodes' entries, e is the lowest whose value is not the truth of its node at its step: node f at step j
pub record LowestWrong (ns : List (Node ℕ)) (n l c : ℕ) (table : List ℤ) (e : ℕ) : Type 0 where
  pub f : ℕ
  pub j : ℕ
  pub known : f < length ns
  pub step : Within l j
  pub entry : e ≡ node_entry n (length ns) l f j
  pub wrong : TruthAt ns n l c table f j → ⊥
  pub lower : (g i : ℕ) → g < length ns → Within l i → node_entry n (length ns) l g i < e → TruthAt ns n l c table g i
