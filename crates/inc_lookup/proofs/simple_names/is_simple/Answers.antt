use Rattle.std.proofs.Common.{◌<◌, length, sym, ◌∙◌, arith, rules}
use Rattle.inc_lookup.proofs.SimpleLemmas.{simple_from}
use Rattle.inc_lookup.proofs.simple_names.is_simple.Goals as goal

pub returns : goal.returns
returns c = λ yes.
    let on = c.goes_on.ensures yes in
    let some : 0 < length c.args.name.now = search rules in
    simple_from c.args.name.now some (sym c.breaks.ensures ∙ c.if-breaks.false) (λ k low. on.none k (omega arith) low) on.end
