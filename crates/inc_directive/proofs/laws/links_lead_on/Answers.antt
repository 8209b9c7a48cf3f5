use Rattle.inc_directive.proofs.EndingPlaces.{leads_on-file}
use Rattle.inc_directive.proofs.laws.links_lead_on.Goals as goal

pub returns : goal.returns
returns c = leads_on-file
