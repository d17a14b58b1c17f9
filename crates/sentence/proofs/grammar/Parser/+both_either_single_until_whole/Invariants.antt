use Rattle.std.proofs.Common.{◌+◌, ◌-◌, ◌*◌, length}
use Rattle.sentence.specs.Steps.{Onward, Step}
use Rattle.sentence.proofs.grammar.Parser.+both_either_single_until_whole.Given as goal

abbrev pub decreases-both : goal.decreases-both
decreases-both l = 5 * (length l.self.now.cursor.bytes.now - l.self.now.cursor.at) + 2

abbrev pub decreases-either : goal.decreases-either
decreases-either l = 5 * (length l.self.now.cursor.bytes.now - l.self.now.cursor.at) + 3

abbrev pub decreases-single : goal.decreases-single
decreases-single l = 5 * (length l.self.now.cursor.bytes.now - l.self.now.cursor.at) + 0

abbrev pub decreases-until : goal.decreases-until
decreases-until l = 5 * (length l.self.now.cursor.bytes.now - l.self.now.cursor.at) + 1

abbrev pub decreases-whole : goal.decreases-whole
decreases-whole l = 5 * (length l.self.now.cursor.bytes.now - l.self.now.cursor.at) + 4

abbrev pub invariant-both-loop-ampersand : goal.invariant-both-loop-ampersand
invariant-both-loop-ampersand l = Onward l.fn.self l.self × Step l.fn.self l.self l.left

abbrev pub decreases-both-loop-ampersand : goal.decreases-both-loop-ampersand
decreases-both-loop-ampersand l = length l.self.cursor.bytes.now - l.self.cursor.at

abbrev pub invariant-either-loop-bar : goal.invariant-either-loop-bar
invariant-either-loop-bar l = Onward l.fn.self l.self × Step l.fn.self l.self l.left

abbrev pub decreases-either-loop-bar : goal.decreases-either-loop-bar
decreases-either-loop-bar l = length l.self.cursor.bytes.now - l.self.cursor.at
