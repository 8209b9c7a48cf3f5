use Rattle.inc_lookup.proofs.NormalLemmas.{normal_form-names}
use Rattle.inc_lookup.proofs.laws.normal_forms_are_names.Goals as goal

pub returns : goal.returns
returns c = normal_form-names
