-- Trees numbered in a list of nodes: left side first, then the right side, then the node, at every node.
-- `Leaf` is a node that is an atom.
use Rattle.std.specs.Prelude.{◌≡◌, ℕ, suc, ◌+◌, ◌-◌, ◌<◌, ◌≤◌, List, [], ◌∷◌, ◌++◌, length, slice_index, slice_index_or}
use Rattle.looping.specs.Logic.{Tree, atom, one, two}
use Rattle.property.specs.declared.nodes.Atom.{Atom}
use Rattle.property.specs.declared.nodes.Atom.TheVariants.{Truth}
use Rattle.property.specs.declared.nodes.Node.{Node}
use Rattle.property.specs.declared.nodes.Node.TheVariants.{Atom as Leaf, One, Two}

-- the most nodes that a property has
abbrev pub node_limit : ℕ
node_limit = 64

-- how many nodes a tree has
abbrev pub size : Tree (Atom ℕ) → ℕ
size (atom a) = 1
size (one o p) = size p + 1
size (two o p q) = size p + size q + 1

-- the nodes of the tree, where its first has the number n
abbrev pub numbered : ℕ → Tree (Atom ℕ) → List (Node ℕ)
numbered n (atom a) = Leaf a ∷ []
numbered n (one o p) = numbered n p ++ (One o (n + size p - 1) ∷ [])
numbered n (two o p q) = numbered n p ++ (numbered (n + size p) q ++ (Two o (n + size p - 1) (n + size p + size q - 1) ∷ []))

-- the nodes are 1 to 64, and are one tree in order
abbrev pub OneTree : List (Node ℕ) → Type 0
OneTree ns = (length ns ≤ node_limit) × ((t : Tree (Atom ℕ)) × (ns ≡ numbered 0 t))

-- the node of number f
abbrev pub node : List (Node ℕ) → ℕ → Node ℕ
node ns f = slice_index_or ns f (Leaf (Truth 0))

-- the nodes `from` to below `to` are the tree
abbrev pub Spans : List (Node ℕ) → ℕ → ℕ → Tree (Atom ℕ) → Type 0
Spans ns from to (atom a) = (to ≡ suc from) × (node ns from ≡ Leaf a)
Spans ns from to (one o p) = (top : ℕ) × (to ≡ suc top) × (node ns top ≡ One o (top - 1)) × Spans ns from top p
Spans ns from to (two o p q) =
    (top : ℕ) × (mid : ℕ) × (to ≡ suc top) × (node ns top ≡ Two o (mid - 1) (top - 1)) × Spans ns from mid p × Spans ns mid top q

-- the nodes from s to f are one tree
abbrev pub Rooted : List (Node ℕ) → ℕ → ℕ → Type 0
Rooted ns f s = (t : Tree (Atom ℕ)) × Spans ns s (suc f) t

-- the starts of the trees that end at the first `count` nodes are known
abbrev pub Started : List (Node ℕ) → List ℕ → ℕ → Type 0
Started ns starts count = (g : ℕ) → g < count → Rooted ns g (slice_index starts g)

-- the right side ends just before node f, and the left side just before the start of the right one
abbrev pub SidesBefore : List ℕ → ℕ → ℕ → ℕ → Type 0
SidesBefore starts f left right = (suc right ≡ f) × (suc left ≡ slice_index starts right)

-- the tree of the node that comes after those with these starts begins at s: an atom's at itself, and another's where its first side's does
abbrev pub Begins : List ℕ → Node ℕ → ℕ → Type 0
Begins starts (Leaf a) s = s ≡ length starts
Begins starts (One o x) s = (suc x ≡ length starts) × (s ≡ slice_index starts x)
Begins starts (Two o x y) s = SidesBefore starts (length starts) x y × (s ≡ slice_index starts x)

-- no start lies past its node
abbrev pub EachBefore : List ℕ → Type 0
EachBefore starts = (g : ℕ) → g < length starts → slice_index starts g ≤ g
