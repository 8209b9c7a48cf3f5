use Rattle.std.proofs.Common.{◌∙◌, ◌≡◌, List, Bool, false, ap, length, replicate, rules}
use Rattle.std.proofs.lemmas.List.{length-replicate}
use Rattle.inc_answers.proofs.GraphLemmas.{length-numbered}
use Rattle.inc_answers.proofs.dot_text.no_flags.Goals as goal

pub returns-clause-long : goal.returns-clause-long
returns-clause-long c =
    let none : c.in_ok-flags.flags.items ≡ replicate (length c.edges-count.result.now) false = c.in_ok-flags.ensures.items_if_clones_equal (search rules) in
    ap (λ (l : List Bool). length l) none ∙ length-replicate {A = Bool} (length c.edges-count.result.now) false ∙ ap (λ es. length es) c.edges-count.ensures.edges ∙ length-numbered c.args.graph.now
