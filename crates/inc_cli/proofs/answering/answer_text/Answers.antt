use Rattle.std.proofs.Common.{map}
use Rattle.inc_rules.specs.Views.{seen_rule}
use Rattle.inc_lookup.specs.Given.{HoldsOfGiven}
use Rattle.inc_report.specs.BaselineText.{IsBaselineBy}
use Rattle.inc_report.specs.BlankHeadline.{BlankHeadline, PatchHeadline}
use Rattle.inc_answers.specs.BlankText.{IsBlankBy, IsPatchBy}
use Rattle.inc_answers.specs.CostText.{IsCostBy}
use Rattle.inc_answers.specs.CutText.{IsCutBy}
use Rattle.inc_answers.specs.GraphText.{IsGraphBy}
use Rattle.inc_report.specs.Headline.{CutHeadline}
use Rattle.inc_answers.specs.RuleViews.{seen_list}
use Rattle.inc_report.specs.RulesSarif.{IsSarifBy}
use Rattle.inc_report.specs.RulesText.{IsRulesBy}
use Rattle.inc_answers.specs.TreeText.{AreTreesBy}
use Rattle.inc_answers.specs.WhoText.{IsWhoBy}
use Rattle.inc_answers.specs.WhyText.{IsWhyBy}
use Rattle.inc_answers.specs.declared.trees.TreeForm.TheVariants as trees
use Rattle.inc_cli.specs.Questions.{Content, Promise}
use Rattle.inc_cli.proofs.ListedReadings.{holds, prints, reading}
use Rattle.inc_cli.proofs.answering.answer_text.Goals as goal

pub returns-in-Why-clause-printed : goal.returns-in-Why-clause-printed
returns-in-Why-clause-printed g c Content notes =
    let gives = g.I.Inputs.gives in
    let old = c.args.files in
    let new = c.run_why.new.sources in
    let layout = c.args.project.now in
    let q = c.args.question.now in
    rw c.in-Why.is (prints gives old new layout q (λ p. HoldsOfGiven (reading gives) old new layout (IsWhyBy c.in-Why.fails c.in-Why.most q p)) _ _ _
    (λ p h. holds gives old new layout (IsWhyBy c.in-Why.fails c.in-Why.most q p) h) c.run_why.ensures.written c.run_why.ensures.unread)
returns-in-Why-clause-printed g c Promise notes =
    let gives = g.I.Inputs.gives in
    let old = c.args.files in
    let new = c.run_why.new.sources in
    let layout = c.args.project.now in
    let q = c.args.question.now in
    rw c.in-Why.is (prints gives old new layout q (λ p. HoldsOfGiven (reading gives) old new layout (IsWhyBy c.in-Why.fails c.in-Why.most q p)) _ _ _
    (λ p h. tt) c.run_why.ensures.written c.run_why.ensures.unread)

pub returns-in-Who-clause-printed : goal.returns-in-Who-clause-printed
returns-in-Who-clause-printed g c Content notes =
    let gives = g.I.Inputs.gives in
    let old = c.args.files in
    let new = c.run_who.new.sources in
    let layout = c.args.project.now in
    let q = c.args.question.now in
    let chains = c.in-Who.with_chains in
    rw c.in-Who.is (prints gives old new layout q (λ p. HoldsOfGiven (reading gives) old new layout (IsWhoBy chains c.in-Who.fails c.in-Who.most q p)) _ _ _
    (λ p h. holds gives old new layout (IsWhoBy chains c.in-Who.fails c.in-Who.most q p) h) c.run_who.ensures.written c.run_who.ensures.unread)
returns-in-Who-clause-printed g c Promise notes =
    let gives = g.I.Inputs.gives in
    let old = c.args.files in
    let new = c.run_who.new.sources in
    let layout = c.args.project.now in
    let q = c.args.question.now in
    let chains = c.in-Who.with_chains in
    rw c.in-Who.is (prints gives old new layout q (λ p. HoldsOfGiven (reading gives) old new layout (IsWhoBy chains c.in-Who.fails c.in-Who.most q p)) _ _ _
    (λ p h. tt) c.run_who.ensures.written c.run_who.ensures.unread)

pub returns-in-Graph-clause-printed : goal.returns-in-Graph-clause-printed
returns-in-Graph-clause-printed g c Content notes =
    let gives = g.I.Inputs.gives in
    let old = c.args.files in
    let new = c.run_graph.new.sources in
    let layout = c.args.project.now in
    let q = c.args.question.now in
    rw c.in-Graph.is (prints gives old new layout q (λ p. HoldsOfGiven (reading gives) old new layout (IsGraphBy q p)) _ _ _
    (λ p h. holds gives old new layout (IsGraphBy q p) h) c.run_graph.ensures.written c.run_graph.ensures.unread)
returns-in-Graph-clause-printed g c Promise notes =
    let gives = g.I.Inputs.gives in
    let old = c.args.files in
    let new = c.run_graph.new.sources in
    let layout = c.args.project.now in
    let q = c.args.question.now in
    rw c.in-Graph.is (prints gives old new layout q (λ p. HoldsOfGiven (reading gives) old new layout (IsGraphBy q p)) _ _ _
    (λ p h. tt) c.run_graph.ensures.written c.run_graph.ensures.unread)

pub returns-in-Lines-clause-printed : goal.returns-in-Lines-clause-printed
returns-in-Lines-clause-printed g c Content notes =
    let gives = g.I.Inputs.gives in
    let old = c.args.files in
    let new = c.run_rules.new.sources in
    let layout = c.args.project.now in
    let q = c.args.question.now in
    let rules = map seen_rule c.in-Rules.list.rules.now in
    rw (c.in-Rules.is, c.in-Lines.is) (prints gives old new layout q (λ p. HoldsOfGiven (reading gives) old new layout (IsRulesBy rules q p)) _ _ _
    (λ p h. holds gives old new layout (IsRulesBy rules q p) h) c.run_rules.ensures.written c.run_rules.ensures.unread)
returns-in-Lines-clause-printed g c Promise notes =
    let gives = g.I.Inputs.gives in
    let old = c.args.files in
    let new = c.run_rules.new.sources in
    let layout = c.args.project.now in
    let q = c.args.question.now in
    let rules = map seen_rule c.in-Rules.list.rules.now in
    rw c.in-Rules.is (prints gives old new layout q (λ p. HoldsOfGiven (reading gives) old new layout (IsRulesBy rules q p)) _ _ _
    (λ p h. tt) c.run_rules.ensures.written c.run_rules.ensures.unread)

pub returns-in-Sarif-clause-printed : goal.returns-in-Sarif-clause-printed
returns-in-Sarif-clause-printed g c Content notes =
    let gives = g.I.Inputs.gives in
    let old = c.args.files in
    let new = c.run_sarif.new.sources in
    let layout = c.args.project.now in
    let q = c.args.question.now in
    let list = seen_list c.in-Rules.list in
    rw (c.in-Rules.is, c.in-Sarif.is) (prints gives old new layout q (λ p. HoldsOfGiven (reading gives) old new layout (IsSarifBy list q p)) _ _ _
    (λ p h. holds gives old new layout (IsSarifBy list q p) h) c.run_sarif.ensures.written c.run_sarif.ensures.unread)
returns-in-Sarif-clause-printed g c Promise notes =
    let gives = g.I.Inputs.gives in
    let old = c.args.files in
    let new = c.run_sarif.new.sources in
    let layout = c.args.project.now in
    let q = c.args.question.now in
    let list = seen_list c.in-Rules.list in
    rw c.in-Rules.is (prints gives old new layout q (λ p. HoldsOfGiven (reading gives) old new layout (IsSarifBy list q p)) _ _ _
    (λ p h. tt) c.run_sarif.ensures.written c.run_sarif.ensures.unread)

pub returns-in-Cut-clause-printed : goal.returns-in-Cut-clause-printed
returns-in-Cut-clause-printed g c Content notes =
    let gives = g.I.Inputs.gives in
    let old = c.args.files in
    let new = c.run_cut.new.sources in
    let layout = c.args.project.now in
    let q = c.args.question.now in
    let l = c.args.limits.now in
    rw c.in-Cut.is (prints gives old new layout q (λ p. HoldsOfGiven (reading gives) old new layout (IsCutBy q l p)) _ _ _
    (λ p h. holds gives old new layout (IsCutBy q l p) h) c.run_cut.ensures.written c.run_cut.ensures.unread)
returns-in-Cut-clause-printed g c Promise notes =
    let gives = g.I.Inputs.gives in
    let old = c.args.files in
    let new = c.run_cut.new.sources in
    let layout = c.args.project.now in
    let q = c.args.question.now in
    let l = c.args.limits.now in
    rw c.in-Cut.is (prints gives old new layout q (λ p. HoldsOfGiven (reading gives) old new layout (λ _ listing. CutHeadline q l p listing)) _ _ _
    (λ p h. holds gives old new layout (λ _ listing. CutHeadline q l p listing) h) c.run_cut.ensures.headline c.run_cut.ensures.unread)

pub returns-in-Blank-clause-printed : goal.returns-in-Blank-clause-printed
returns-in-Blank-clause-printed g c Content notes =
    let gives = g.I.Inputs.gives in
    let old = c.args.files in
    let new = c.run_blank-ended.result.1 in
    let layout = c.args.project.now in
    let q = c.args.question.now in
    let l = c.args.limits.now in
    rw c.in-Blank.is (prints gives old new layout q (λ p. HoldsOfGiven (reading gives) old new layout (IsBlankBy q l p)) _ _ _
    (λ p h. holds gives old new layout (IsBlankBy q l p) h) c.run_blank-ended.ensures.written c.run_blank-ended.ensures.unread)
returns-in-Blank-clause-printed g c Promise notes =
    let gives = g.I.Inputs.gives in
    let old = c.args.files in
    let new = c.run_blank-ended.result.1 in
    let layout = c.args.project.now in
    let q = c.args.question.now in
    let l = c.args.limits.now in
    rw c.in-Blank.is (prints gives old new layout q (λ p. HoldsOfGiven (reading gives) old new layout (λ _ listing. BlankHeadline q l p listing)) _ _ _
    (λ p h. holds gives old new layout (λ _ listing. BlankHeadline q l p listing) h) c.run_blank-ended.ensures.headline c.run_blank-ended.ensures.unread)

pub returns-in-Patch-clause-printed : goal.returns-in-Patch-clause-printed
returns-in-Patch-clause-printed g c Content notes =
    let gives = g.I.Inputs.gives in
    let old = c.args.files in
    let new = c.run_patch-ended.result.1 in
    let layout = c.args.project.now in
    let q = c.args.question.now in
    let l = c.args.limits.now in
    rw c.in-Patch.is (prints gives old new layout q (λ p. HoldsOfGiven (reading gives) old new layout (IsPatchBy q l p)) _ _ _
    (λ p h. holds gives old new layout (IsPatchBy q l p) h) c.run_patch-ended.ensures.written c.run_patch-ended.ensures.unread)
returns-in-Patch-clause-printed g c Promise notes =
    let gives = g.I.Inputs.gives in
    let old = c.args.files in
    let new = c.run_patch-ended.result.1 in
    let layout = c.args.project.now in
    let q = c.args.question.now in
    let l = c.args.limits.now in
    rw c.in-Patch.is (prints gives old new layout q (λ p. HoldsOfGiven (reading gives) old new layout (λ _ listing. PatchHeadline q l p listing)) _ _ _
    (λ p h. holds gives old new layout (λ _ listing. PatchHeadline q l p listing) h) c.run_patch-ended.ensures.headline c.run_patch-ended.ensures.unread)

pub returns-in-Cost-clause-printed : goal.returns-in-Cost-clause-printed
returns-in-Cost-clause-printed g c Content notes =
    let gives = g.I.Inputs.gives in
    let old = c.args.files in
    let new = c.run_cost-ended.result.1 in
    let layout = c.args.project.now in
    let q = c.args.question.now in
    let top = c.in-Cost.top in
    rw c.in-Cost.is (prints gives old new layout q (λ p. HoldsOfGiven (reading gives) old new layout (IsCostBy top c.args.groups.now q p)) _ _ _
    (λ p h. holds gives old new layout (IsCostBy top c.args.groups.now q p) h) c.run_cost-ended.ensures.written c.run_cost-ended.ensures.unread)
returns-in-Cost-clause-printed g c Promise notes =
    let gives = g.I.Inputs.gives in
    let old = c.args.files in
    let new = c.run_cost-ended.result.1 in
    let layout = c.args.project.now in
    let q = c.args.question.now in
    let top = c.in-Cost.top in
    rw c.in-Cost.is (prints gives old new layout q (λ p. HoldsOfGiven (reading gives) old new layout (IsCostBy top c.args.groups.now q p)) _ _ _
    (λ p h. tt) c.run_cost-ended.ensures.written c.run_cost-ended.ensures.unread)

pub returns-in-Tree-clause-printed : goal.returns-in-Tree-clause-printed
returns-in-Tree-clause-printed g c Content notes =
    let gives = g.I.Inputs.gives in
    let old = c.args.files in
    let new = c.run_trees-ended.result.1 in
    let layout = c.args.project.now in
    let q = c.args.question.now in
    rw c.in-Tree.is (prints gives old new layout q (λ p. HoldsOfGiven (reading gives) old new layout (AreTreesBy trees.Lines q p)) _ _ _
    (λ p h. holds gives old new layout (AreTreesBy trees.Lines q p) h) c.run_trees-ended.ensures.written c.run_trees-ended.ensures.unread)
returns-in-Tree-clause-printed g c Promise notes =
    let gives = g.I.Inputs.gives in
    let old = c.args.files in
    let new = c.run_trees-ended.result.1 in
    let layout = c.args.project.now in
    let q = c.args.question.now in
    rw c.in-Tree.is (prints gives old new layout q (λ p. HoldsOfGiven (reading gives) old new layout (AreTreesBy trees.Lines q p)) _ _ _
    (λ p h. tt) c.run_trees-ended.ensures.written c.run_trees-ended.ensures.unread)

pub returns-in-Folded-clause-printed : goal.returns-in-Folded-clause-printed
returns-in-Folded-clause-printed g c Content notes =
    let gives = g.I.Inputs.gives in
    let old = c.args.files in
    let new = c.run_trees-ended-in-Folded.result.1 in
    let layout = c.args.project.now in
    let q = c.args.question.now in
    rw c.in-Folded.is (prints gives old new layout q (λ p. HoldsOfGiven (reading gives) old new layout (AreTreesBy trees.Folded q p)) _ _ _
    (λ p h. holds gives old new layout (AreTreesBy trees.Folded q p) h) c.run_trees-ended-in-Folded.ensures.written c.run_trees-ended-in-Folded.ensures.unread)
returns-in-Folded-clause-printed g c Promise notes =
    let gives = g.I.Inputs.gives in
    let old = c.args.files in
    let new = c.run_trees-ended-in-Folded.result.1 in
    let layout = c.args.project.now in
    let q = c.args.question.now in
    rw c.in-Folded.is (prints gives old new layout q (λ p. HoldsOfGiven (reading gives) old new layout (AreTreesBy trees.Folded q p)) _ _ _
    (λ p h. tt) c.run_trees-ended-in-Folded.ensures.written c.run_trees-ended-in-Folded.ensures.unread)

pub returns-in-WriteBaseline-clause-printed : goal.returns-in-WriteBaseline-clause-printed
returns-in-WriteBaseline-clause-printed g c Content notes =
    let gives = g.I.Inputs.gives in
    let old = c.args.files in
    let new = c.run_baseline-ended.result.1 in
    let layout = c.args.project.now in
    let q = c.args.question.now in
    let format = c.in-WriteBaseline.format in
    let list = seen_list c.in-WriteBaseline.list in
    rw c.in-WriteBaseline.is (prints gives old new layout q (λ p. HoldsOfGiven (reading gives) old new layout (IsBaselineBy format list q p)) _ _ _
    (λ p h. holds gives old new layout (IsBaselineBy format list q p) h) c.run_baseline-ended.ensures.written c.run_baseline-ended.ensures.unread)
returns-in-WriteBaseline-clause-printed g c Promise notes =
    let gives = g.I.Inputs.gives in
    let old = c.args.files in
    let new = c.run_baseline-ended.result.1 in
    let layout = c.args.project.now in
    let q = c.args.question.now in
    let format = c.in-WriteBaseline.format in
    let list = seen_list c.in-WriteBaseline.list in
    rw c.in-WriteBaseline.is (prints gives old new layout q (λ p. HoldsOfGiven (reading gives) old new layout (IsBaselineBy format list q p)) _ _ _
    (λ p h. tt) c.run_baseline-ended.ensures.written c.run_baseline-ended.ensures.unread)

pub returns-in-Check-clause-printed : goal.returns-in-Check-clause-printed
returns-in-Check-clause-printed g c known notes = rw c.in-Check.is (c.answer_check.ensures known c.args.groups.now notes)
