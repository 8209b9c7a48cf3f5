use Rattle.inc_lookup.proofs.KeptPaths.{paths_kept}
use Rattle.inc_lookup.proofs.laws.projects_keep_their_paths.Goals as goal

pub returns : goal.returns
returns c = paths_kept
