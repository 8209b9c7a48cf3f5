use Rattle.std.proofs.Common.{◌≡◌, ◌++◌, codes, take}
use Rattle.std.specs.Prelude.{flat_map}
use Rattle.inc_report.specs.SarifViews.{seen_listed}
use Rattle.inc_report.specs.RulesSarif.{chain_result}
use Rattle.inc_report.proofs.rules_sarif.put_chains.Given as goal

-- those so far are added
abbrev pub invariant-loop-chain : goal.invariant-loop-chain
invariant-loop-chain l =
    l.text.items ≡ l.initial.text.items ++ flat_map (λ x. codes "," ++ chain_result l.project l.graph (seen_listed l.listed) x.items) (take l.chain-index l.chains)
