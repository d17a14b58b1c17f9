-- The number, the place and the letter of each fault.
use Rattle.std.specs.Prelude.{ℕ, List, [], ◌++◌, Some, None, Option, codes, decimal}
use Rattle.std.specs.Char.{encode_utf8}
use Rattle.blocks.specs.Letters.{letter_of}
use Rattle.diagram.specs.declared.fault.CaseFault.{CaseFault}
use Rattle.diagram.specs.declared.fault.CaseFault.TheVariants.{Size, Rule, Types, Tree, Atom, Steps, Length, Value, Made, Loop}
use Rattle.casefile.specs.declared.fault.FileFault.{FileFault}
use Rattle.casefile.specs.declared.fault.FileFault.TheVariants.{TooLong, Key, Form, Sentence, Name, Case}
use Rattle.answer.specs.declared.refusal.Refusal.{Refusal}

-- a refusal without a letter
abbrev pub plainly : ℕ → ℕ → Refusal
plainly n p = record { number = n; place = p; letter = None }

-- the refusal of a case
abbrev pub case_refusal : CaseFault → Refusal
case_refusal Size = plainly 6 0
case_refusal (Rule s) = plainly 7 s
case_refusal (Types e) = record { number = 8; place = e.signal; letter = Some (letter_of e.fault) }
case_refusal Tree = plainly 9 0
case_refusal (Atom f) = plainly 9 f
case_refusal Steps = plainly 10 0
case_refusal Length = plainly 11 0
case_refusal (Value e) = plainly 12 e
case_refusal (Made e) = plainly 13 e
case_refusal (Loop s) = plainly 14 s

-- the refusal of a file
abbrev pub refusal_of : FileFault → Refusal
refusal_of TooLong = plainly 1 0
refusal_of (Key n) = plainly 2 n
refusal_of (Form n) = plainly 3 n
refusal_of (Sentence n) = plainly 4 n
refusal_of (Name n) = plainly 5 n
refusal_of (Case e) = case_refusal e

-- the letter as it is printed, where there is one: a comma and the letter
abbrev pub letter_text : Option ℕ → List ℕ
letter_text None = []
letter_text (Some letter) = codes "," ++ encode_utf8 letter

-- the refusal as it is printed: `refused=`, the number, a comma, the place, and the letter
abbrev pub refusal_text : Refusal → List ℕ
refusal_text r = codes "refused=" ++ (decimal r.number ++ (codes "," ++ (decimal r.place ++ letter_text r.letter)))
