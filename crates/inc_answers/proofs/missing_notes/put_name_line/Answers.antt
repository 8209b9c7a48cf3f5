use Rattle.std.proofs.Common.{[], ◌∷◌, ◌∙◌, ◌++◌, ap, codes}
use Rattle.std.specs.Prelude.{decimal}
use Rattle.inc_graph.specs.HeaderNames.{seen_name}
use Rattle.inc_lookup.specs.Projects.{path_at}
use Rattle.inc_answers.specs.MissingNames.{spelled}
use Rattle.inc_answers.specs.MissingNotes.{note_start, padding, shown}
use Rattle.inc_answers.proofs.NoteLemmas.{joined, joined_as}
use Rattle.inc_answers.proofs.missing_notes.put_name_line.Goals as goal

pub returns : goal.returns
returns c =
    let old = c.args.text.now.items in
    let count = note_start ++ padding c.args.count ++ decimal c.args.count ++ codes "  " in
    let name = shown (spelled (seen_name c.args.directive.header)) in
    let path = shown (path_at c.args.project.now c.args.directive.file) in
    let line = decimal c.args.directive.line in
    let named =
    joined_as old count name (shown c.deref.result.now) c.put_count.new.text.items c.put_shown.new.text.items c.in_ok-put_count.ensures c.in_ok-put_shown.ensures
    (ap shown (c.deref.ensures.value ∙ c.in_ok-written.ensures))
    in
    let first = joined old (count ++ name) (codes "  first at ") c.put_shown.new.text.items c.extend_from_slice.new.self.items named c.in_ok-extend_from_slice.ensures.items in
    let placed =
    joined_as old (count ++ name ++ codes "  first at ") path (shown c.path.result.now) c.extend_from_slice.new.self.items c.put_shown-2.new.text.items first c.in_ok-put_shown-2.ensures
    (ap shown c.path.ensures.path)
    in
    let colon =
    joined old (count ++ name ++ codes "  first at " ++ path) (codes ":") c.put_shown-2.new.text.items c.extend_from_slice-2.new.self.items placed c.in_ok-extend_from_slice-2.ensures.items
    in
    let lined =
    joined_as old (count ++ name ++ codes "  first at " ++ path ++ codes ":") line (decimal c.from.result) c.extend_from_slice-2.new.self.items c.put_number.new.text.items colon
    c.in_ok-put_number.ensures (ap decimal c.from.ensures)
    in
    joined old (count ++ name ++ codes "  first at " ++ path ++ codes ":" ++ line) (10 ∷ []) c.put_number.new.text.items c.push.new.self.items lined c.in_ok-push.ensures.items
