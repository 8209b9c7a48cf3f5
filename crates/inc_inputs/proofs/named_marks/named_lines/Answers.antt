use Rattle.std.proofs.Common.{◌∙◌, ◌++◌, ◌∷◌, [], ap, arith, option_map}
use Rattle.inc_inputs.proofs.NamedParts.{named_more, named_same}
use Rattle.inc_inputs.proofs.named_marks.named_lines.Goals as goal
use Rattle.inc_inputs.proofs.named_marks.named_lines.Goals.{else-is_named, then-is_named+in_ok-push}

pub loop-i-preserved : goal.loop-i-preserved
loop-i-preserved c =
    let name = option_map (λ n. n.now) c.args.name in
    elim c.if-is_named.branch [
      | then-is_named+in_ok-push w ↦
          ap (λ ls. ls.items) w.lines-is
          ∙ named_more name c.args.found.now c.loop-i.i c.count-i-end.ensures.parts (omega arith) c.is_named.result c.is_named.ensures.directive c.is_named.ensures.text
          c.loop-i.lines.items _ c.loop-i.invariant w.if-is_named.true
          (w.in_ok-push.ensures.items ∙ ap (λ n. c.loop-i.lines.items ++ n ∷ []) w.first_line.ensures)
      | else-is_named w ↦
          ap (λ ls. ls.items) w.lines-is
          ∙ named_same name c.args.found.now c.loop-i.i c.count-i-end.ensures.parts (omega arith) c.is_named.result c.is_named.ensures.directive c.is_named.ensures.text
          c.loop-i.lines.items c.loop-i.invariant w.if-is_named.false
    ]
