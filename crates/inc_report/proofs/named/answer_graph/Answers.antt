use Rattle.std.proofs.Common.{length, subst}
use Rattle.inc_answers.specs.FileSizes.{kept_sizes}
use Rattle.inc_answers.specs.JsonAnswers.{about_subject}
use Rattle.inc_report.specs.NamedText.{AreTreesReported, IsRuleReport, IsCostReport}
use Rattle.inc_answers.specs.Terms.{Details, is_whole}
use Rattle.inc_answers.specs.Told.{told_printed}
use Rattle.inc_report.proofs.NamedLemmas.{cost_report, graph_report, rule_report, tree_report, who_report, why_report}
use Rattle.inc_answers.proofs.WritingLemmas.{prints_one}
use Rattle.inc_report.proofs.named.answer_graph.Goals as goal

pub returns-in_ok-explain-in-Why-clause-sent : goal.returns-in_ok-explain-in-Why-clause-sent
returns-in_ok-explain-in-Why-clause-sent g c =
    prints_one _ _ _ _ _ (why_report c.args.form c.args.question.now c.args.details.now c.args.subject c.requires.kept _ c.in-Why.is c.in_ok-explain-in-Why.ensures) c.send.ensures

pub returns-in_ok-tell-in-Who-clause-sent : goal.returns-in_ok-tell-in-Who-clause-sent
returns-in_ok-tell-in-Who-clause-sent g c =
    prints_one _ _ _ _ _ (who_report c.args.form c.args.question.now c.args.details.now c.args.subject c.requires.kept _ c.in-Who.is c.in_ok-tell-in-Who.ensures) c.send-in-Who.ensures

pub returns-in_ok-list-in-Graph-clause-sent : goal.returns-in_ok-list-in-Graph-clause-sent
returns-in_ok-list-in-Graph-clause-sent g c =
    prints_one _ _ _ _ _ (graph_report c.args.form c.args.question.now c.args.details.now c.args.subject c.requires.kept _ c.in-Graph.is (c.in_ok-list-in-Graph.ensures (is_whole c.args.question.now))) c.send-in-Graph.ensures

pub returns-in_ok-rule-in-Rules-clause-sent : goal.returns-in_ok-rule-in-Rules-clause-sent
returns-in_ok-rule-in-Rules-clause-sent g c =
    prints_one _ _ _ _ _ (rule_report c.args.form c.args.question.now c.args.details.now c.args.subject c.requires.kept _ c.in-Rules.is
    (subst (λ (d : Details). IsRuleReport c.args.form d.rules (about_subject c.args.subject) (told_printed c.in_ok-rule-in-Rules.field-0)) c.details.view_is c.in_ok-rule-in-Rules.ensures)) c.send-in-Rules.ensures

pub returns-in_ok-tell_costs-in-Cost-clause-sent : goal.returns-in_ok-tell_costs-in-Cost-clause-sent
returns-in_ok-tell_costs-in-Cost-clause-sent g c =
    let s = c.args.subject in
    prints_one _ _ _ _ _ (cost_report c.args.form c.args.question.now c.args.details.now s c.requires.kept _ c.in-Cost.is c.requires.files c.requires.sound
    (subst (λ (d : Details). IsCostReport c.args.form d.costs (kept_sizes s.files.now (length s.project.now.paths)) (about_subject s) (told_printed c.in_ok-tell_costs-in-Cost.field-0)) c.details.view_is
    c.in_ok-tell_costs-in-Cost.ensures)) c.send-in-Cost.ensures

pub returns-in_ok-tell_trees-in-Tree-clause-sent : goal.returns-in_ok-tell_trees-in-Tree-clause-sent
returns-in_ok-tell_trees-in-Tree-clause-sent g c =
    let s = c.args.subject in
    prints_one _ _ _ _ _ (tree_report c.args.form c.args.question.now c.args.details.now s c.requires.kept _ c.in-Tree.is c.requires.files c.requires.sound c.in_ok-tell_trees-in-Tree.ensures) c.send-in-Tree.ensures
