use Rattle.std.proofs.Common.{◌≡◌, ◌++◌, drop, option_map}
use Rattle.inc_answers.specs.DotText.{flagged, lines_from}
use Rattle.inc_answers.proofs.dot_text.dot_text.Given as goal

-- the lines so far, and those of the edges that are left
abbrev pub invariant-loop-number : goal.invariant-loop-number
invariant-loop-number l =
    let d = flagged (option_map (λ e. e.now) l.edges) l.removed (option_map (λ f. f.now) l.fixed) in
    l.text.items ++ lines_from l.project d l.number (drop l.number l.graph.edges) ≡ l.initial.text.items ++ lines_from l.project d 0 l.graph.edges
