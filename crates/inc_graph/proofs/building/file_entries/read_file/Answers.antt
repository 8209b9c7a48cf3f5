use Rattle.std.proofs.Common.{◌≡◌, ◌∙◌, Some, Ok, sym, ap, rules}
use Rattle.inc_text.specs.PhaseText.{phase_text}
use Rattle.inc_token.specs.LineWalk.{lines_or_none}
use Rattle.inc_token.specs.TokenLines.{token_lines}
use Rattle.inc_directive.specs.Groups.{file_lines}
use Rattle.inc_directive.specs.FileDirectives.{directives_in}
use Rattle.inc_directive.specs.Parts.{lines_of_parts}
use Rattle.inc_graph.specs.Entries.{entry_alone}
use Rattle.inc_graph.specs.IncludeGraph.{definitions_in, text_definitions}
use Rattle.inc_graph.proofs.Inclusions.{entries_read, found_read, nexts_read, directs_read, bad_read}
use Rattle.inc_graph.proofs.building.file_entries.read_file.Goals as goal

pub returns-in_ok-directs-in-Ok-read_lines-clause-state : goal.returns-in_ok-directs-in-Ok-read_lines-clause-state
returns-in_ok-directs-in-Ok-read_lines-clause-state c =
    let setting = c.args.setting.now in
    let ls = lines_of_parts c.in-Ok-read_lines.found in
    let text : c.in-Ok.text ≡ phase_text c.args.setting.now.language c.args.bytes.items = search rules in
    let lines = c.in-Ok-read_lines.ensures.lines ∙ ap (λ language. file_lines language (lines_or_none (token_lines language c.in-Ok.text))) c.language.ensures ∙ ap (λ cells. file_lines setting.language (lines_or_none (token_lines setting.language cells))) text in
    let places : definitions_in setting.undefined ls ≡ text_definitions setting (phase_text setting.language c.args.bytes.items) = ap (definitions_in setting.undefined) lines in
    let entries = c.in_ok-entries-in-Ok-read_lines.ensures.entries in
    ap (λ es. Some (Ok es)) (c.in_ok-add_definitions-in-Ok-read_lines.ensures)
    ∙ ap Some (sym (entries_read setting c.args.lookup.now c.args.at.now c.args.bytes.items c.in-Ok.text (directives_in ls) (search rules) (search rules)
    c.in_ok-entries-in-Ok-read_lines.entries (definitions_in setting.undefined ls) entries places))

pub returns-in_ok-directs-in-Ok-read_lines-clause-places : goal.returns-in_ok-directs-in-Ok-read_lines-clause-places
returns-in_ok-directs-in-Ok-read_lines-clause-places c =
    found_read c.args.setting.now c.args.lookup.now c.args.at.now c.args.bytes.items c.in-Ok.text (directives_in (lines_of_parts c.in-Ok-read_lines.found))
    (search rules) (search rules) c.args.places.now.found c.entries_of.new.places.found c.in_ok-entries-in-Ok-read_lines.ensures.places

pub returns-in_ok-directs-in-Ok-read_lines-clause-nexts : goal.returns-in_ok-directs-in-Ok-read_lines-clause-nexts
returns-in_ok-directs-in-Ok-read_lines-clause-nexts c =
    nexts_read c.args.setting.now c.args.lookup.now c.args.at.now c.args.bytes.items c.in-Ok.text (directives_in (lines_of_parts c.in-Ok-read_lines.found))
    (search rules) (search rules) c.entries_of.new.nexts.items c.in_ok-entries-in-Ok-read_lines.ensures.nexts

pub returns-in-Some-clause-places : goal.returns-in-Some-clause-places
returns-in-Some-clause-places c =
    bad_read c.args.setting.now (entry_alone c.args.setting.now.undefined c.args.lookup.now c.args.at.now) c.args.lookup.now c.args.at.now c.args.bytes.items c.in-Err-read_lines.fault c.args.places.now.found (search rules)

pub returns-in_ok-directs-in-Ok-read_lines-clause-directs : goal.returns-in_ok-directs-in-Ok-read_lines-clause-directs
returns-in_ok-directs-in-Ok-read_lines-clause-directs c = λ several.
    directs_read c.args.setting.now c.args.at.now.file c.args.bytes.items c.in-Ok.text (directives_in (lines_of_parts c.in-Ok-read_lines.found))
    (search rules) (search rules) c.in_ok-directs-in-Ok-read_lines.directs (c.in_ok-directs-in-Ok-read_lines.ensures several)
