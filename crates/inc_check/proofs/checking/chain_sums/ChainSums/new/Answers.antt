use Rattle.std.proofs.Common.{◌≡◌, ℕ, ◌≤◌, length, replicate, ap, ◌∙◌, rules, arith}
use Rattle.std.proofs.lemmas.List.{length-replicate}
use Rattle.std.proofs.lemmas.List.Elements.{All-same, All-replicate}
use Rattle.inc_graph.proofs.NumberedEdges.{length-numbered_from}
use Rattle.inc_check.proofs.SumLemmas.{sums_none}
use Rattle.inc_check.proofs.checking.chain_sums.ChainSums.new.Goals as goal

pub returns-clause-fitted : goal.returns-clause-fitted
returns-clause-fitted c =
    let zeros : c.in_ok-stamps.stamps.items ≡ replicate c.files.result 0 = c.in_ok-stamps.ensures.items_if_clones_equal (search rules) in
    record {
      at = c.first_file.ensures;
      start = c.first_file-2.ensures;
      near = c.start.ensures;
      empty = c.has_empty_chain.ensures;
      through = ap length c.in_ok-through.ensures ∙ length-replicate (length c.edges.result.now) 0 ∙ ap length c.edges.ensures.edges ∙ length-numbered_from 0 c.args.graph.now.edges;
      stamps = ap length zeros ∙ length-replicate c.files.result 0 ∙ c.files.ensures.files;
      hints = c.in_ok-hints.ensures;
      low = All-same (λ (s : ℕ). s ≤ 0) _ _ zeros (All-replicate (λ (s : ℕ). s ≤ 0) c.files.result 0 (omega arith));
    }

pub returns-clause-summed : goal.returns-clause-summed
returns-clause-summed c layout =
    sums_none layout c.args.graph.now c.in_ok-through.through (length c.edges.result.now) (ap length c.edges.ensures.edges ∙ length-numbered_from 0 c.args.graph.now.edges) c.in_ok-through.ensures
