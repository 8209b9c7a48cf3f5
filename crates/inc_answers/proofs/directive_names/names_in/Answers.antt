use Rattle.std.proofs.Common.{◌≡◌, ◌∙◌, ◌++◌, List, sym, ap, map}
use Rattle.std.proofs.lemmas.List.{append-nil}
use Rattle.inc_directive.specs.FileDirectives.{Directive}
use Rattle.inc_directive.specs.Parts.{inclusions_in}
use Rattle.inc_answers.specs.NameTables.{seen_named}
use Rattle.inc_answers.proofs.NameOrder.{lines_rise}
use Rattle.inc_answers.proofs.directive_names.names_in.Goals as goal

pub invariant_of-result : goal.invariant_of-result
invariant_of-result c =
    let lines = c.loop-directive.lines.items in
    let whole : map seen_named lines ≡ inclusions_in c.args.found.now =
    sym (append-nil (map seen_named lines)) ∙ ap (λ (ds : List Directive). map seen_named lines ++ ds) (sym c.in_default.ensures.0) ∙ c.loop-directive.invariant in
    lines_rise lines (inclusions_in c.args.found.now) whole c.requires
