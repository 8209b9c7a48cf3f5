-- Directories with which names are found, as the definitions see them.
use Rattle.std.specs.Prelude.{ℕ, List}
use Rattle.inc_answers.specs.UsefulDirs as spec
use Rattle.inc_answers.specs.declared.useful_dirs.BestDirs.{BestDirs}
use Rattle.inc_answers.specs.declared.useful_dirs.UsefulDir.{UsefulDir}

abbrev pub seen_useful : UsefulDir → List ℕ × ℕ
seen_useful d = (d.dir.now, d.count)

abbrev pub seen_best : BestDirs → spec.Best
seen_best b = record { first = seen_useful b.first; second = seen_useful b.second; third = seen_useful b.third }
