use Rattle.std.proofs.Common.{◌∙◌, ap, arith, map, option_map, sym}
use Rattle.inc_answers.proofs.DefinitionLemmas.{each_part, part_more, part_none, with_parts}
use Rattle.inc_answers.proofs.definition_places.note_lines.Goals as goal
use Rattle.inc_answers.proofs.definition_places.note_lines.Goals.{in-Some, in_default}

pub loop-i-preserved : goal.loop-i-preserved
loop-i-preserved c =
    let names = map (λ n. n.now) c.args.names.now in
    let parts = c.args.found.now in
    let i = c.loop-i.i in
    elim c.match-defined_name.branch [
      | in-Some w ↦
          let is = ap (option_map (λ name. name.now)) (sym w.in-Some.is) ∙ c.defined_name.ensures in
          λ before are. rw w.places-is (part_more names before c.args.file parts i c.count-i-end.ensures.parts (omega arith) w.in-Some.name.now w.first_line-line.result w.note.new.places.items is w.first_line-line.ensures
          (w.note.ensures (with_parts before c.args.file parts i) (c.loop-i.invariant before are)))
      | in_default w ↦
          let is = ap (option_map (λ name. name.now)) (sym w.in_default.is) ∙ c.defined_name.ensures in
          λ before are. rw w.places-is (part_none names before c.args.file parts i c.count-i-end.ensures.parts (omega arith) c.loop-i.places.items is (c.loop-i.invariant before are))
    ]

pub returns : goal.returns
returns c = λ before are.
    each_part (map (λ n. n.now) c.args.names.now) before c.args.file c.args.found.now c.loop-i.places.items c.loop-i.i (omega (arith, c.count-i-end.ensures.count, c.loop-i-test.false)) (c.loop-i.invariant before are)
