-- Nodes whose signals are named anew.
use Rattle.std.specs.Prelude.{◌≡◌, Option, Some, None}
use Rattle.property.specs.declared.nodes.Atom.{Atom}
use Rattle.property.specs.declared.nodes.Atom.TheVariants.{Truth, Compare}
use Rattle.property.specs.declared.nodes.Node.{Node}
use Rattle.property.specs.declared.nodes.Node.TheVariants.{Atom as Leaf, One, Two}

-- `made` is the option that `name` may give, with what `of` makes of what is there
abbrev pub Made : {R B : Type 0} → (Option R → Type 0) → (R → B) → Option B → Type 0
Made name of None = name None
Made {R = R} name of (Some b) = (r : R) × name (Some r) × (b ≡ of r)

-- `made` is the atom with its signal named by what `name` may give of it, or none where that gives none
abbrev pub RenamedAtom : {S R : Type 0} → (S → Option R → Type 0) → Atom S → Option (Atom R) → Type 0
RenamedAtom name (Truth s) made = Made (name s) (λ r. Truth r) made
RenamedAtom name (Compare s c k) made = Made (name s) (λ r. Compare r c k) made

-- the same of a node; a node that is no atom names no signal
abbrev pub Renamed : {S R : Type 0} → (S → Option R → Type 0) → Node S → Option (Node R) → Type 0
Renamed name (Leaf a) made = Made (RenamedAtom name a) (λ b. Leaf b) made
Renamed name (One o x) made = made ≡ Some (One o x)
Renamed name (Two o x y) made = made ≡ Some (Two o x y)
