use Rattle.std.proofs.Common.{◌++◌, Some, None, ap, arith, map, option_map, refl, sym, ◌∙◌, rules}
use Rattle.std.proofs.lemmas.List.{append-nil}
use Rattle.inc_directive.specs.Parts.{lines_of_parts}
use Rattle.inc_graph.specs.FileEntries.{definition_entry}
use Rattle.inc_graph.proofs.DefinedNames.{none_named}
use Rattle.inc_graph.proofs.DefinedParts.{definitions_more, definitions_same}
use Rattle.inc_graph.proofs.building.file_entries.add_definitions.Goals as goal
use Rattle.inc_graph.proofs.building.file_entries.add_definitions.Goals.{in-Some+in_ok-add_definition, in_default}

pub returns-then-undefined_count-eq0 : goal.returns-then-undefined_count-eq0
returns-then-undefined_count-eq0 c =
    sym (ap (λ ks. c.args.entries.now ++ map definition_entry ks) (none_named c.args.setting.now.undefined (lines_of_parts c.args.found.now) (search rules)) ∙ append-nil c.args.entries.now)

pub loop-i-preserved : goal.loop-i-preserved
loop-i-preserved c =
    let names = c.args.setting.now.undefined in
    let parts = c.args.found.now in
    let init = c.args.entries.now in
    elim c.match-defined_name.branch [
      | in-Some+in_ok-add_definition w ↦
          let is = ap (option_map (λ name. name.now)) (sym w.in-Some.is) ∙ c.defined_name.ensures in
          rw w.entries-is (definitions_more names parts c.loop-i.i c.count-i-end.ensures.parts (omega arith) (Some w.in-Some.name.now) is w.first_line.result w.first_line.ensures init c.loop-i.entries _ c.loop-i.invariant w.in_ok-add_definition.ensures)
      | in_default w ↦
          let is = ap (option_map (λ name. name.now)) (sym w.in_default.is) ∙ c.defined_name.ensures in
          rw w.entries-is (definitions_same names parts c.loop-i.i c.count-i-end.ensures.parts (omega arith) None is refl init c.loop-i.entries c.loop-i.invariant)
    ]
