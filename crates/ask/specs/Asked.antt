-- What is answered to a question.
use Rattle.std.specs.Prelude.{ℕ, List, ℤ}
use Rattle.blocks.specs.Blocks.{ShapeOf, ShapeAnswer, ValueAnswer, ForcesAnswer}
use Rattle.blocks.specs.Gates.{gate_shape, gate_function}
use Rattle.blocks.specs.Pair.{pair_shape, pair_function}
use Rattle.numbers.specs.Numbers.{number_shape, number_function}
use Rattle.tables.specs.Tables.{table_shape, table_function}
use Rattle.tables.specs.declared.held.Tables.{Tables}
use Rattle.ask.specs.declared.answer.Answer.{Answer}
use Rattle.ask.specs.declared.question.Question.{Question}
use Rattle.ask.specs.declared.question.Source.{Source}
use Rattle.ask.specs.declared.question.Source.TheVariants.{Gates, Numbers, Pair, Tables as Sample}

-- the three answers of a library with these shapes and functions
pub record Answers (shapes : ℕ → ℕ → ShapeOf) (functions : ℕ → ℕ → List ℤ → ℤ) (q : Question) (a : Answer) : Type 0 where
  pub shape : ShapeAnswer (shapes q.kind q.count) a.shape
  pub value : ValueAnswer (shapes q.kind q.count) (functions q.kind q.count) q.row a.value
  pub forces : ForcesAnswer (shapes q.kind q.count) (functions q.kind q.count) q.row q.pins a.forces

-- those of the library that is asked; there are five gates
abbrev pub AnswersOf : Source → Tables → Question → Answer → Type 0
AnswersOf Gates tables q a = Answers gate_shape gate_function q a
AnswersOf Numbers tables q a = Answers number_shape number_function q a
AnswersOf Pair tables q a = Answers (pair_shape 5 gate_shape number_shape) (pair_function 5 gate_function number_function) q a
AnswersOf Sample tables q a = Answers (table_shape tables) (table_function tables) q a
