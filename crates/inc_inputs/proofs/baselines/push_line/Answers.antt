use Rattle.std.proofs.Common.{◌≡◌, ◌∙◌, ◌++◌, ◌∷◌, [], ap, map, sym}
use Rattle.std.proofs.lemmas.List.{map-append}
use Rattle.inc_inputs.specs.Views.{named_line_in}
use Rattle.inc_inputs.proofs.BaselineLemmas.{text_named}
use Rattle.inc_inputs.proofs.baselines.push_line.Goals as goal

pub returns-clause-lines : goal.returns-clause-lines
returns-clause-lines c = λ more.
    let old = c.args.lines.now.items in
    let added =
    ap (map named_line_in) c.in_ok-push.ensures.items ∙ map-append named_line_in old (c.in_ok-named_line.field-0 ∷ [])
    ∙ ap (λ l. map named_line_in old ++ l ∷ []) c.in_ok-named_line.ensures in
    text_named c.args.line c.args.text.now more (map named_line_in old) _ c.in-Some.colon (sym c.is_passed.ensures ∙ c.if-is_passed.false) (sym c.in-Some.ensures.is) added
