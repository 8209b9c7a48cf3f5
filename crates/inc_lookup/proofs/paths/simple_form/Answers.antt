use Rattle.std.proofs.Common.{◌≡◌, ◌∷◌, [], ap, take, ◌∙◌}
use Rattle.std.proofs.lemmas.Slice.Eq.{bytes_eq-Decides}
use Rattle.inc_lookup.specs.Paths.{normal_form}
use Rattle.inc_lookup.specs.SimpleNames.{has_end}
use Rattle.inc_lookup.proofs.ReducedLemmas.{dotted, normal_form-dotted}
use Rattle.inc_lookup.proofs.SimpleLemmas.{simple-plain, simple-one_line}
use Rattle.inc_lookup.proofs.paths.simple_form.Goals as goal

pub returns-then-is_simple-clause-form : goal.returns-then-is_simple-clause-form
returns-then-is_simple-clause-form c =
    let rest = c.in-Some.rest.now in
    let front : take 2 c.args.path.now ≡ 46 ∷ 47 ∷ [] = (bytes_eq-Decides (take 2 c.args.path.now) (46 ∷ 47 ∷ [])).0 c.in-Some.ensures.cases.0 in
    let is = dotted c.args.path.now rest front c.in-Some.ensures.cases.1 in
    let simple = c.is_simple.ensures c.if-is_simple.true in
    (ap has_end is ∙ simple-one_line rest simple, ap normal_form is ∙ normal_form-dotted rest (simple-plain rest simple))
