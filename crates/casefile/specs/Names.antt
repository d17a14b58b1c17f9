-- The names of a file's signals.
use Rattle.std.specs.Prelude.{ℕ, ◌<◌, List, IsSomeAnd, take, drop, Option, Some, option_map, position}
use Rattle.std.specs.Str.{bytes_eq}
use Rattle.property.specs.declared.nodes.Atom.{Atom}
use Rattle.property.specs.declared.nodes.Atom.TheVariants.{Truth, Compare}
use Rattle.property.specs.declared.nodes.Node.{Node}
use Rattle.property.specs.declared.nodes.Node.TheVariants.{Atom as Leaf, One, Two}
use Rattle.sentence.specs.declared.terms.Span.{Span}
use Rattle.casefile.specs.declared.form.Draft.{Draft}

-- the bytes of a stretch, as far as the file goes
abbrev pub part : List ℕ → Span → List ℕ
part bs span = take span.length (drop span.start bs)

-- the first signal of that name
abbrev pub first_named : List ℕ → List Draft → List ℕ → Option ℕ
first_named bs drafts name = position (λ d. bytes_eq (part bs d.name) name) drafts

-- the name that signal s has by its draft is that of an earlier one
abbrev pub Repeats : List ℕ → List Draft → ℕ → Draft → Type 0
Repeats bs drafts s draft = IsSomeAnd (first_named bs drafts (part bs draft.name)) (λ k. k < s)

-- the atom, where its name is known
abbrev pub atom_of : List ℕ → List Draft → Atom Span → Option (Atom ℕ)
atom_of bs drafts (Truth name) = option_map (λ s. Truth s) (first_named bs drafts (part bs name))
atom_of bs drafts (Compare name comparison number) = option_map (λ s. Compare s comparison number) (first_named bs drafts (part bs name))

-- the node, where the name of an atom is known
abbrev pub node_of : List ℕ → List Draft → Node Span → Option (Node ℕ)
node_of bs drafts (Leaf a) = option_map (λ b. Leaf b) (atom_of bs drafts a)
node_of bs drafts (One operator side) = Some (One operator side)
node_of bs drafts (Two operator left right) = Some (Two operator left right)
