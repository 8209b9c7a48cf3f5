use Rattle.inc_lookup.proofs.SimpleLemmas.{breaks_mask}
use Rattle.inc_lookup.proofs.simple_names.breaks_of.Goals as goal

pub returns : goal.returns
returns c = breaks_mask c.args.before c.args.bytes c.fits-before.0 c.fits-bytes.0
