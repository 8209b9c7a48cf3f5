use Rattle.inc_directive.proofs.PrefixKinds.{kind-prefix_of}
use Rattle.inc_directive.proofs.laws.prefixes_give_the_kinds.Goals as goal

pub returns : goal.returns
returns c = kind-prefix_of
