use Rattle.std.proofs.Common.{◌≡◌, ◌∙◌, ◌++◌, ℕ, List, ap, codes, map, rules}
use Rattle.inc_directive.specs.Parts.{inclusions_in}
use Rattle.inc_answers.specs.JsonTexts.{items_text}
use Rattle.inc_answers.specs.ScanForms.{directive_item}
use Rattle.inc_answers.proofs.JoinedTexts.{list_made}
use Rattle.inc_answers.proofs.scan_forms.put_directives.Goals as goal

pub returns : goal.returns
returns c =
    let f = directive_item c.args.path.now in
    let ds = inclusions_in c.args.found.now in
    let old = c.args.text.now.items in
    let opened : c.push.new.self.items ≡ old ++ codes "[" = search rules in
    let closed : c.push-2.new.self.items ≡ c.loop-directive.text.items ++ codes "]" = search rules in
    list_made f old c.loop-directive.text.items c.push-2.new.self.items c.loop-directive.place ds c.loop-directive.left c.in_default.ensures.0
    (c.loop-directive.invariant ∙ ap (λ (t : List ℕ). t ++ items_text (map f ds)) opened) closed
