-- Laws of the truths of a property.
use Rattle.std.specs.Prelude.{◌≡◌, ℕ, suc, ◌*◌, ◌<◌, ◌↔◌, List, length, ℤ}
use Rattle.looping.specs.Words.{Loops}
use Rattle.looping.specs.Logic.{Tree}
use Rattle.property.specs.declared.nodes.Atom.{Atom}
use Rattle.property.specs.declared.nodes.Node.{Node}
use Rattle.property.specs.Numbering.{OneTree, Spans}
use Rattle.property.specs.Meaning.{value, Fitting, Filled}
use Rattle.property.specs.ByNode.{BySides}

-- each node of one tree is the last of exactly one tree
abbrev pub EachEndsOneTree : Type 0
EachEndsOneTree =
    (ns : List (Node ℕ)) → OneTree ns → (f : ℕ) → f < length ns
    → (s : ℕ) × (t : Tree (Atom ℕ)) × Spans ns s (suc f) t × ((r : ℕ) (u : Tree (Atom ℕ)) → Spans ns r (suc f) u → (r ≡ s) × (u ≡ t))

-- a table has its truths exactly if each node's entry says what the node makes of the entries of its sides, at the visits
abbrev pub TruthBySides : Type 0
TruthBySides = (ns : List (Node ℕ)) (n l c : ℕ) (table : List ℤ) → OneTree ns → Loops l c → Filled ns n l c table ↔ BySides ns n l c table

-- the values of the signals decide a table that has its truths
abbrev pub SignalsDecide : Type 0
SignalsDecide =
    (ns : List (Node ℕ)) (n l c : ℕ) (table other : List ℤ) → Fitting ns n l c table → Fitting ns n l c other → ((e : ℕ) → e < n * l → value table e ≡ value other e)
    → Filled ns n l c table → Filled ns n l c other → table ≡ other
