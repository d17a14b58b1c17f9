-- How far a reader comes.
use Rattle.std.specs.Prelude.{◌≡◌, ℕ, ◌+◌, ◌<◌, ◌≤◌}
use Rattle.sentence.specs.declared.grammar.Parser.{Parser}

-- the reading stays in the text, does not go back, and keeps the terms
pub record Onward (old new : Parser) : Type 0 where
  pub text : new.cursor.bytes ≡ old.cursor.bytes
  pub on : old.cursor.at ≤ new.cursor.at
  pub kept : old.terms.count ≤ new.terms.count

-- the reading goes on, and its node is the last term
pub record Step (old new : Parser) (node : ℕ) : Type 0 where
  pub on : old.cursor.at < new.cursor.at
  pub last : node + 1 ≡ new.terms.count
