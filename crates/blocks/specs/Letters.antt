-- The letters of a library's faults.
use Rattle.std.specs.Prelude.{ℕ}
use Rattle.blocks.specs.declared.types.LibraryFault.{LibraryFault}
use Rattle.blocks.specs.declared.types.LibraryFault.TheVariants.{UnknownKind, NoSuchCount, Unlawful}

-- K, P or T
abbrev pub letter_of : LibraryFault → ℕ
letter_of UnknownKind = 75
letter_of NoSuchCount = 80
letter_of Unlawful = 84
