use Rattle.std.proofs.Common.{sym, ◌∙◌}
use Rattle.std.proofs.lemmas.Bool.{eqb-true}
use Rattle.inc_lookup.proofs.ListingLemmas.{not-false}
use Rattle.inc_lookup.proofs.SimpleLemmas.{none_breaks}
use Rattle.inc_lookup.proofs.simple_names.has_break.Goals as goal

pub returns : goal.returns
returns c = λ none. none_breaks c.args.name.now c.args.at c.requires (sym c.breaks_of-breaks.ensures ∙ eqb-true c.breaks_of-breaks.result 0 (not-false _ none))
