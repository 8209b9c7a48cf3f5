use Rattle.std.proofs.Common.{◌≡◌, ℕ, List, false}
use Rattle.inc_lookup.specs.Paths.{is_absolute}
use Rattle.inc_lookup.specs.PathSearch.{found_in}
use Rattle.inc_lookup.specs.ReducedNames.{IsReduced}
use Rattle.inc_lookup.proofs.projects.Project.look_in_dirs.Given as goal

-- the directories from here on decide
abbrev pub invariant-loop-index : goal.invariant-loop-index
invariant-loop-index l = (text : List ℕ) → IsReduced text l.name.climbs l.name.rest.now → is_absolute text ≡ false
    → found_in l.self.paths l.search.dirs l.index text ≡ found_in l.self.paths l.search.dirs l.first text
