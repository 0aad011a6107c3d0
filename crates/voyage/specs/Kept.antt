-- What is kept of a sheet that is read from a file. Follows docs/RULES.md, "Programs". Assumes nothing.
use Rattle.std.specs.Prelude.{Option, Some, None, Result, Ok, Err, List, ℕ, take}
use Rattle.scan.specs.declared.inner.Scan.{Scan}
use Rattle.scan.specs.Scanning.{Reached}
use Rattle.bounded.specs.Laid.{Front}
use Rattle.command.specs.declared.sentences.FileFault.{FileFault}
use Rattle.voyage.specs.declared.inner.sheets.Kept.{Kept}

-- memory begins with what a program holds of a sheet, where one could be read
abbrev pub Holds : Result Kept FileFault → List ℕ → Type 0
Holds (Ok k) memory = Front (take k.bytes memory) k.formed
Holds (Err fault) memory = Unit

-- some bytes lead from one state to the other, where they could be read
abbrev pub Led : Scan → Result Scan FileFault → Type 0
Led s (Ok t) = Reached s t
Led s (Err fault) = Unit

-- the same, where there were any
abbrev pub Next : Scan → Result (Option Scan) FileFault → Type 0
Next s (Ok (Some t)) = Reached s t
Next s (Ok None) = Unit
Next s (Err fault) = Unit
