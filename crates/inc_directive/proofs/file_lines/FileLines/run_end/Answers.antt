use Rattle.std.proofs.Common.{◌≡◌, ◌≤◌, ◌+◌, ◌-◌, List, length, drop, take, arith, ap, sym, ◌∙◌, rules, subst}
use Rattle.std.specs.List.{All, prefix_len}
use Rattle.std.proofs.lemmas.List.{length-drop, take_rest}
use Rattle.std.proofs.lemmas.List.Sums.{prefix_len-le-length}
use Rattle.inc_token.specs.LineWalk.{lines_or_none}
use Rattle.inc_token.specs.TokenLines.{token_lines}
use Rattle.inc_directive.specs.Parts.{FilePart, is_text, part_role}
use Rattle.inc_directive.specs.declared.kinds.Role.TheVariants.{TextLine}
use Rattle.inc_directive.specs.declared.parts.Part.{Part}
use Rattle.inc_directive.proofs.PartFiles.{dropped, part_count, run_stops, texts_first}
use Rattle.inc_directive.proofs.file_lines.FileLines.run_end.Goals as goal
use Rattle.inc_directive.proofs.file_lines.FileLines.run_end.Goals.{After-texts_first}

pub offset_bounds-deref-from : goal.offset_bounds-deref-from
offset_bounds-deref-from c =
    let kept = c.self.inside in
    omega (arith, part_count kept.language kept.parts.items (lines_or_none (token_lines kept.language kept.text)) c.args.self.now c.self.view_is, c.self.invariant.few, c.requires)

pub slice_bounds-texts_first-count : goal.slice_bounds-texts_first-count
slice_bounds-texts_first-count c =
    let kept = c.self.inside in
    omega (arith, part_count kept.language kept.parts.items (lines_or_none (token_lines kept.language kept.text)) c.args.self.now c.self.view_is, ap length c.deref.ensures.value, c.requires)

pub slice_bounds-texts_first-start : goal.slice_bounds-texts_first-start
slice_bounds-texts_first-start c =
    let kept = c.self.inside in
    let within : c.args.from ≤ length c.deref.result.now =
    omega (arith, part_count kept.language kept.parts.items (lines_or_none (token_lines kept.language kept.text)) c.args.self.now c.self.view_is, ap length c.deref.ensures.value, c.requires) in
    search rules

-- how many parts come first
first : (c : After-texts_first) → c.texts_first.result ≡ prefix_len (λ (p : Part). is_text p.tag) (drop c.args.from c.self.inside.parts.items)
first c =
    c.texts_first.ensures ∙ ap (prefix_len (λ (p : Part). is_text p.tag)) (take_rest c.deref.result.now c.args.from)
    ∙ ap (λ (ps : List Part). prefix_len (λ (p : Part). is_text p.tag) (drop c.args.from ps)) c.deref.ensures.value

fits : (c : After-texts_first) → c.args.from + c.texts_first.result ≤ length c.args.self.now
fits c =
    let kept = c.self.inside in
    let all = part_count kept.language kept.parts.items (lines_or_none (token_lines kept.language kept.text)) c.args.self.now c.self.view_is in
    omega (arith, all, first c, prefix_len-le-length (λ (p : Part). is_text p.tag) (drop c.args.from kept.parts.items), length-drop c.args.from kept.parts.items, c.requires)

pub overflow_add-result : goal.overflow_add-result
overflow_add-result c =
    let kept = c.self.inside in
    omega (arith, fits c, part_count kept.language kept.parts.items (lines_or_none (token_lines kept.language kept.text)) c.args.self.now c.self.view_is, c.self.invariant.few)

pub returns-clause-within : goal.returns-clause-within
returns-clause-within c = fits c

pub returns-clause-text : goal.returns-clause-text
returns-clause-text c =
    let kept = c.self.inside in
    let all = part_count kept.language kept.parts.items (lines_or_none (token_lines kept.language kept.text)) c.args.self.now c.self.view_is in
    let d = dropped kept.language kept.text kept.parts.items (lines_or_none (token_lines kept.language kept.text)) c.args.self.now c.args.from c.self.view_is c.self.invariant.kept (omega (arith, all, c.requires)) in
    let size : c.args.from + c.texts_first.result - c.args.from ≡ prefix_len (λ (p : Part). is_text p.tag) (drop c.args.from kept.parts.items) = omega (arith, first c) in
    subst (λ k. All (λ (p : FilePart). part_role p ≡ TextLine) (take k (drop c.args.from c.args.self.now))) (sym size)
    (subst (λ (ps : List FilePart). All (λ (p : FilePart). part_role p ≡ TextLine) (take (prefix_len (λ (p : Part). is_text p.tag) (drop c.args.from kept.parts.items)) ps)) (sym d.is)
    (texts_first kept.language d.place (drop c.args.from kept.parts.items) d.ls))

pub returns-clause-end : goal.returns-clause-end
returns-clause-end c =
    let kept = c.self.inside in
    run_stops kept.language kept.text kept.parts.items (lines_or_none (token_lines kept.language kept.text)) c.args.self.now c.args.from c.texts_first.result c.self.view_is c.self.invariant.kept (first c)
