-- Which atoms fit the signals that they look at.
use Rattle.std.specs.Prelude.{◌≡◌, ℕ, ◌<◌, List, length}
use Rattle.blocks.specs.Blocks.{InType}
use Rattle.blocks.specs.declared.types.ValueType.{ValueType}
use Rattle.blocks.specs.declared.types.ValueType.TheVariants.{Truth, Num}
use Rattle.diagram.specs.Typing.{type_at}
use Rattle.diagram.specs.declared.fault.CaseFault.{CaseFault}
use Rattle.diagram.specs.declared.fault.CaseFault.TheVariants.{Tree, Atom as WrongAtom}
use Rattle.property.specs.declared.nodes.Atom.{Atom}
use Rattle.property.specs.declared.nodes.Atom.TheVariants.{Truth as Holds, Compare}
use Rattle.property.specs.declared.nodes.Node.{Node}
use Rattle.property.specs.declared.nodes.Node.TheVariants.{Atom as Leaf, One, Two}
use Rattle.property.specs.Numbering.{OneTree, node}

-- a bool atom looks at a bool signal, and a comparison at a num signal and a num
abbrev pub AtomFits : List ValueType → Atom ℕ → Type 0
AtomFits types (Holds s) = (s < length types) × (type_at types s ≡ Truth)
AtomFits types (Compare s o k) = (s < length types) × (type_at types s ≡ Num) × InType Num k

-- a node is an operator, or an atom that fits
abbrev pub NodeFits : List ValueType → Node ℕ → Type 0
NodeFits types (Leaf a) = AtomFits types a
NodeFits types (One o x) = Unit {0}
NodeFits types (Two o x y) = Unit {0}

-- every node fits
abbrev pub AllNodesFit : List ValueType → List (Node ℕ) → Type 0
AllNodesFit types ns = (f : ℕ) → f < length ns → NodeFits types (node ns f)

-- node f is the lowest atom that does not fit
pub record FirstWrong (types : List ValueType) (ns : List (Node ℕ)) (f : ℕ) : Type 0 where
  pub below : f < length ns
  pub here : NodeFits types (node ns f) → ⊥
  pub before : (k : ℕ) → k < f → NodeFits types (node ns k)

-- the fault of a property: not one tree, else its lowest wrong atom
abbrev pub PropertyFault : List ValueType → List (Node ℕ) → CaseFault → Type 0
PropertyFault types ns Tree = OneTree ns → ⊥
PropertyFault types ns (WrongAtom f) = OneTree ns × FirstWrong types ns f
PropertyFault types ns _ = ⊥
