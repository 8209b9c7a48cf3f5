use Rattle.std.proofs.Common.{◌++◌, List, ℕ, ap, map, rules}
use Rattle.inc_report.proofs.SarifLemmas.{behind_from, judged_more, results_ended}
use Rattle.inc_report.proofs.rules_sarif.results_of.Goals as goal
use Rattle.inc_rules.specs.Views.{seen_judged}

pub loop-place-init : goal.loop-place-init
loop-place-init c =
    ap (λ (t : List ℕ). t ++ behind_from c.args.project.now c.args.graph.now c.args.name.now 0 (map seen_judged c.args.judged.now)) c.new-text.ensures.items

pub loop-place-preserved : goal.loop-place-preserved
loop-place-preserved c =
    judged_more c.args.project.now c.args.graph.now c.args.name.now c.loop-place.text.items c.put_judged.new.text.items _ c.loop-place.place c.index-judged-place.result c.args.judged.now
    c.loop-place-test.true c.index-judged-place.is c.in_ok-put_judged.ensures c.loop-place.invariant

pub returns : goal.returns
returns c = results_ended c.args.project.now c.args.graph.now c.args.name.now c.loop-place.text.items _ c.loop-place.place c.args.judged.now (search rules) c.loop-place.invariant
