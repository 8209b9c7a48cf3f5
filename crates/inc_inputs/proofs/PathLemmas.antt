-- Include paths before others.
use Rattle.std.proofs.Common.{List, ◌++◌, Result, Ok, Err}
use Rattle.inc_lookup.specs.Projects.{SearchPath}
use Rattle.inc_inputs.specs.Reports.{Report}

-- some before others
abbrev pub paths_behind : List SearchPath → Result (List SearchPath) Report → Result (List SearchPath) Report
paths_behind ps (Ok qs) = Ok (ps ++ qs)
paths_behind ps (Err r) = Err r
