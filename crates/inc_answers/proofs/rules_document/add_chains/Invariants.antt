use Rattle.std.proofs.Common.{◌≡◌, ◌++◌, map, take}
use Rattle.std.specs.Prelude.{flat_map}
use Rattle.inc_answers.specs.Documents.{edge_places}
use Rattle.inc_answers.proofs.rules_document.add_chains.Given as goal

-- those so far are added
abbrev pub invariant-loop-chain : goal.invariant-loop-chain
invariant-loop-chain l = l.document ≡ l.initial.document ++ flat_map (edge_places l.graph) (map (λ c. c.items) (take l.chain-index l.chains))
