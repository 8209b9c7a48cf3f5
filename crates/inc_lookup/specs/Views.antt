-- Files of the program, and what a reading of one gives, as the definitions see them.
use Rattle.std.specs.Prelude.{ℕ, List, Result, Ok, Err}
use Rattle.std.specs.Global.{Vec}
use Rattle.inc_text.specs.declared.devices.ReadFault.{ReadFault}
use Rattle.inc_lookup.specs.declared.sources.SourceFile.{SourceFile}
use Rattle.inc_lookup.specs.Projects.{File}

abbrev pub seen_file : SourceFile → File
seen_file f = record { path = f.path.items; bytes = f.bytes.items }

-- the bytes of a file, or why they are not there
abbrev pub seen_answer : Result (Vec ℕ) ReadFault → Result (List ℕ) ReadFault
seen_answer (Ok bytes) = Ok bytes.items
seen_answer (Err fault) = Err fault
