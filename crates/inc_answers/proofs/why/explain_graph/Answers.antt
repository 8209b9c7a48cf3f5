use Rattle.std.proofs.Common.{ℕ, List, Some, None, refl, ap, ap₂, subst, sym, ◌∙◌}
use Rattle.inc_graph.specs.Chains.{IsShortestOrNone, AreChainsByLast}
use Rattle.inc_graph.specs.IncludeGraph.{Graph}
use Rattle.inc_answers.specs.Printed.{end_of}
use Rattle.inc_answers.specs.Terms.{is_whole}
use Rattle.inc_answers.specs.WhyText.{why_printed}
use Rattle.inc_answers.specs.declared.outcome.EndKind.{EndKind}
use Rattle.inc_answers.specs.declared.outcome.EndKind.TheVariants.{Answered}
use Rattle.inc_answers.proofs.why.explain_graph.Goals as goal

pub returns-then-find_shortest-clause-sent : goal.returns-then-find_shortest-clause-sent
returns-then-find_shortest-clause-sent g c =
    let chains = c.find_shortest.new.self in
    let graph = c.args.graph.now in
    let shortest = subst (λ (h : Graph). IsShortestOrNone h (Some chains.chain)) c.in_ok-chains.ensures.graph c.if-find_shortest.ensures.chain in
    let by_last = subst (AreChainsByLast graph 0) (sym c.find_shortest.ensures.left) c.in_ok-chains.ensures.all in
    record {
      text = (
        why_printed (is_whole c.args.question.now) c.args.fails c.args.most c.args.project.now graph (Some chains.chain) chains.left,
        (Some chains.chain, chains.left, shortest, by_last, refl),
        record { ends = c.noted.ensures ∙ ap₂ (λ (n : List ℕ) (k : EndKind). end_of n k) c.in_ok-notes.ensures c.reached_kind.ensures; sent = c.send_reached.ensures },
      );
      nothing = tt;
    }

pub returns-clause-sent : goal.returns-clause-sent
returns-clause-sent g c =
    let chains = c.find_shortest.new.self in
    let graph = c.args.graph.now in
    let none = subst (λ (h : Graph). IsShortestOrNone h None) c.in_ok-chains.ensures.graph c.if-find_shortest.ensures.chain in
    let by_last = subst (AreChainsByLast graph 0) (sym c.find_shortest.ensures.left) c.in_ok-chains.ensures.all in
    record {
      text = (
        why_printed (is_whole c.args.question.now) c.args.fails c.args.most c.args.project.now graph None chains.left,
        (None, chains.left, none, by_last, refl),
        record { ends = c.noted-2.ensures ∙ ap (λ n. end_of n Answered) c.in_ok-notes-2.ensures; sent = c.send_unreached.ensures },
      );
      nothing = tt;
    }
