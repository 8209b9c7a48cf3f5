-- Why there is no outcome of a preprocessing.
use Rattle.std.specs.Prelude.{◌<◌, ℕ, Option, Some, None}
use Rattle.inc_text.specs.declared.devices.ReadFault.{ReadFault}
use Rattle.inc_text.specs.declared.devices.ReadFault.TheVariants as read
use Rattle.inc_macro.specs.declared.faults.DefineFault.{DefineFault}
use Rattle.inc_pp.specs.declared.outcomes.PpRefusal.{PpRefusal}
use Rattle.inc_pp.specs.declared.outcomes.PpRefusal.TheVariants.{BadDefinition, CannotRead, FileTooLong}

-- P of the place of a word that makes no definition, and why
abbrev pub IfBadDefinition : PpRefusal → (ℕ → DefineFault → Type 0) → Type 0
IfBadDefinition (BadDefinition index fault) P = P index fault
IfBadDefinition _ P = Unit {0}

-- the file that was not read, and why
abbrev pub read_fault_of : PpRefusal → Option (ℕ × ReadFault)
read_fault_of (CannotRead file) = Some (file, read.Read)
read_fault_of (FileTooLong file) = Some (file, read.TooLong)
read_fault_of _ = None

-- the file that it names is one of so many
abbrev pub IsRefusalWithin : ℕ → PpRefusal → Type 0
IsRefusalWithin files (CannotRead file) = file < files
IsRefusalWithin files (FileTooLong file) = file < files
IsRefusalWithin files _ = Unit {0}
