use Rattle.std.proofs.Common.{◌≡◌, arith}
use Rattle.inc_cut.proofs.LevelSearches.{parent_low}
use Rattle.inc_cut.proofs.searches.scaled_dinic.PhaseSearch.level_before.Goals as goal

pub file-requires : goal.file-requires
file-requires c =
    let r = c.requires in
    let low = parent_low r.0 r.1 c.args.search.now r.3 r.2 c.args.visit c.in-Some.parent r.4 c.in-Some.is in
    let from : c.from.result ≡ c.in-Some.parent.from = rw c.in-Some.parent-is at c.from.ensures in
    omega arith
