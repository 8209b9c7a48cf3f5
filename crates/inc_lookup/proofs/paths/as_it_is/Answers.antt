use Rattle.std.proofs.Common.{◌≡◌, ◌∷◌, [], take, sym, ap, ◌∙◌}
use Rattle.std.proofs.lemmas.Slice.Eq.{bytes_eq-Decides}
use Rattle.inc_lookup.specs.Paths.{normal_form}
use Rattle.inc_lookup.proofs.ReducedLemmas.{dotted, normal_form-dotted}
use Rattle.inc_lookup.proofs.paths.as_it_is.Goals as goal

pub returns-then-is_plain-clause-form : goal.returns-then-is_plain-clause-form
returns-then-is_plain-clause-form c =
    let front : take 2 c.args.path.now ≡ 46 ∷ 47 ∷ [] = (bytes_eq-Decides (take 2 c.args.path.now) (46 ∷ 47 ∷ [])).0 c.in-Some.ensures.cases.0 in
    ap normal_form (dotted c.args.path.now c.in-Some.rest.now front c.in-Some.ensures.cases.1)
    ∙ normal_form-dotted c.in-Some.rest.now (sym c.is_plain.ensures ∙ c.if-is_plain.true)
