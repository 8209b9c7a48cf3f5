use Rattle.inc_build.proofs.TextLemmas.{same_rows}
use Rattle.inc_build.proofs.laws.texts_tell_apart.Goals as goal

pub returns : goal.returns
returns c = same_rows
