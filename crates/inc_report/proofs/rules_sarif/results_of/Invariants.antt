use Rattle.std.proofs.Common.{◌≡◌, ◌++◌, drop, map}
use Rattle.inc_report.proofs.SarifLemmas.{behind_from}
use Rattle.inc_report.proofs.rules_sarif.results_of.Given as goal
use Rattle.inc_rules.specs.Views.{seen_judged}

-- the results so far, and those of the rules that are left
abbrev pub invariant-loop-place : goal.invariant-loop-place
invariant-loop-place l =
    l.text.items ++ behind_from l.project l.graph l.name l.place (map seen_judged (drop l.place l.judged))
    ≡ behind_from l.project l.graph l.name 0 (map seen_judged l.judged)
