-- Entries, one after the other.
use Rattle.std.proofs.Common.{List, ◌++◌, Result, Ok, Err}
use Rattle.inc_build.specs.Entries.{Entry}
use Rattle.inc_build.specs.declared.databases.DatabaseFault.{DatabaseFault}

-- entries before others
abbrev pub onto : List Entry → Result (List Entry) DatabaseFault → Result (List Entry) DatabaseFault
onto before (Err fault) = Err fault
onto before (Ok after) = Ok (before ++ after)
