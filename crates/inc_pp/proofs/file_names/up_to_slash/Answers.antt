use Rattle.inc_pp.proofs.PathFronts.{front-before, front-missing}
use Rattle.inc_pp.proofs.file_names.up_to_slash.Goals as goal

pub returns-in-Some : goal.returns-in-Some
returns-in-Some c = front-before c.args.path.now c.in-Some.slash c.in-Some.ensures

pub returns-in-None : goal.returns-in-None
returns-in-None c = front-missing c.args.path.now c.in-None.ensures
