use Rattle.std.proofs.Common.{◌≡◌, ◌∙◌, ◌<◌, ◌++◌, ℕ, List, [], Some, ap, append-nil, arith, codes, drop, get_or, length, option_map, sym}
use Rattle.std.specs.Prelude.{IfSome, slice_get}
use Rattle.std.proofs.lemmas.List.{drop_all}
use Rattle.std.proofs.lemmas.Option.{slice_get-get_or}
use Rattle.inc_graph.specs.IncludeGraph.{Edge}
use Rattle.inc_graph.specs.declared.graphs.Edge as declared
use Rattle.inc_answers.specs.DotText.{flagged, lines_from, look}
use Rattle.inc_answers.proofs.DotLemmas.{line_drawn, line_put, line_skipped, some_all}
use Rattle.inc_answers.proofs.GraphLemmas.{length-numbered}
use Rattle.inc_answers.proofs.dot_text.dot_text.Goals as goal
use Rattle.inc_answers.proofs.dot_text.dot_text.Goals.{then-is_drawn+in_ok-put_numbered, else-is_drawn}

pub is_fixed-requires : goal.is_fixed-requires
is_fixed-requires c =
    let long : length c.edges-number-end.result.now ≡ length c.args.graph.now.edges =
    ap (λ (es : List declared.Edge). length es) c.edges-number-end.ensures.edges ∙ length-numbered c.args.graph.now in
    some_all c.args.fixed (λ f. length f.now ≡ length c.args.graph.now.edges) (λ f. c.loop-number.number < length f.now) (λ f same. omega (arith, same, long, c.loop-number-test.true)) c.requires.fixed

pub put_numbered-requires-clause-number : goal.put_numbered-requires-clause-number
put_numbered-requires-clause-number c =
    let long : length c.edges-number-end.result.now ≡ length c.args.graph.now.edges =
    ap (λ (es : List declared.Edge). length es) c.edges-number-end.ensures.edges ∙ length-numbered c.args.graph.now in
    omega (arith, long, c.loop-number-test.true)

pub loop-number-preserved : goal.loop-number-preserved
loop-number-preserved c =
    let g = c.args.graph.now in
    let i = c.loop-number.number in
    let d = flagged (option_map (λ e. e.now) c.args.edges) c.args.removed.now (option_map (λ f. f.now) c.args.fixed) in
    let long : length c.edges-number-end.result.now ≡ length g.edges =
    ap (λ (es : List declared.Edge). length es) c.edges-number-end.ensures.edges ∙ length-numbered g in
    let low : i < length g.edges = omega (arith, long, c.loop-number-test.true) in
    let none : Edge = record { from = 0; to = 0; line = 0 } in
    let e : Edge = get_or g.edges i none in
    let at : slice_get g.edges i ≡ Some e = slice_get-get_or g.edges i none low in
    elim c.if-is_drawn.branch [
      | then-is_drawn+in_ok-put_numbered w ↦
          let style = w.look-look.ensures ∙ ap (λ b. look b w.is_fixed.result) w.has_flag.ensures ∙ ap (λ b. look (d.removed i) b) w.is_fixed.ensures in
          let added = w.in_ok-put_numbered.ensures e at ∙ ap (λ (l : List ℕ). c.loop-number.text.items ++ l) (line_drawn c.args.project.now d i e w.look-look.result.now (sym c.is_drawn.ensures ∙ w.if-is_drawn.true) style) in
          line_put c.args.project.now d g.edges i e c.loop-number.text.items c.if-is_drawn.text.items _ low at (ap (λ t. t.items) w.text-is ∙ added) c.loop-number.invariant
      | else-is_drawn w ↦
          let added = sym (append-nil c.loop-number.text.items) ∙ ap (λ (l : List ℕ). c.loop-number.text.items ++ l) (line_skipped c.args.project.now d i e (sym c.is_drawn.ensures ∙ w.if-is_drawn.false)) in
          line_put c.args.project.now d g.edges i e c.loop-number.text.items c.if-is_drawn.text.items _ low at (ap (λ t. t.items) w.text-is ∙ added) c.loop-number.invariant
    ]

pub returns : goal.returns
returns c =
    let g = c.args.graph.now in
    let i = c.loop-number.number in
    let d = flagged (option_map (λ e. e.now) c.args.edges) c.args.removed.now (option_map (λ f. f.now) c.args.fixed) in
    let long : length c.edges-number-end.result.now ≡ length g.edges =
    ap (λ (es : List declared.Edge). length es) c.edges-number-end.ensures.edges ∙ length-numbered g in
    let none : drop i g.edges ≡ [] = drop_all i g.edges (omega (arith, long, c.loop-number-test.false)) in
    let whole : c.loop-number.text.items ≡ codes "digraph incut {\n" ++ lines_from c.args.project.now d 0 g.edges =
    sym (append-nil c.loop-number.text.items) ∙ ap (λ (es : List Edge). c.loop-number.text.items ++ lines_from c.args.project.now d i es) (sym none) ∙ c.loop-number.invariant
    ∙ ap (λ (t : List ℕ). t ++ lines_from c.args.project.now d 0 g.edges) c.in_ok-text.ensures.items in
    c.in_ok-extend_from_slice.ensures.items ∙ ap (λ (t : List ℕ). t ++ codes "}\n") whole
