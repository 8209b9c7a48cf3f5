use Rattle.std.proofs.Common.{List, ℕ, length, refl, subst}
use Rattle.inc_answers.specs.Sending.{Sends}
use Rattle.inc_report.proofs.BrokenRules.{all_judged}
use Rattle.inc_answers.proofs.SendingLemmas.{sends_then}
use Rattle.inc_rules.specs.Views.{seen_judged}
use Rattle.inc_report.proofs.rules.send_rules.Goals as goal

pub returns : goal.returns
returns g c =
    subst (λ (text : List ℕ). Sends c.args.out.now c.send_unresolved.new.out text)
    (all_judged c.args.project.now c.args.graph.now seen_judged (length c.args.judged.now) c.args.judged.now c.args.judged.now refl refl)
    (sends_then _ _ _ _ _ (sends_then _ _ _ _ _ c.send_count_line.ensures c.send_judged.ensures) c.send_unresolved.ensures)
