use Rattle.inc_lookup.proofs.NormalLemmas.{normal_form-normal}
use Rattle.inc_lookup.proofs.laws.normal_forms_are_their_own.Goals as goal

pub returns : goal.returns
returns c = normal_form-normal
