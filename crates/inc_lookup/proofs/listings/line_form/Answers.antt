use Rattle.std.proofs.Common.{sym, ◌∙◌}
use Rattle.inc_lookup.proofs.ListingLemmas.{has_end-is}
use Rattle.inc_lookup.proofs.listings.line_form.Goals as goal

pub returns-clause-form : goal.returns-clause-form
returns-clause-form c = (has_end-is c.args.path.now c.memchr2.result c.memchr2.ensures ∙ sym c.if-is_some.ensures, c.in_ok-form.ensures.form)
