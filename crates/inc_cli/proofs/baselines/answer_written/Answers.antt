use Rattle.std.proofs.Common.{◌≡◌, Result, map, subst}
use Rattle.inc_lookup.specs.Given.{HoldsOfGiven}
use Rattle.inc_inputs.specs.Reports.{Report}
use Rattle.inc_inputs.specs.declared.inputs.ListedFiles.{ListedFiles}
use Rattle.inc_report.specs.BaselineText.{IsBaselineBy}
use Rattle.inc_answers.specs.RuleViews.{seen_list}
use Rattle.inc_cli.specs.Outputs.{Answer}
use Rattle.inc_cli.specs.Questions.{Content, Promise, writes_told}
use Rattle.inc_cli.specs.Views.{seen_end}
use Rattle.inc_cli.proofs.ListedReadings.{holds, prints, reading}
use Rattle.inc_cli.proofs.WrittenLemmas.{told_before}
use Rattle.inc_cli.proofs.baselines.answer_written.Goals as goal

pub returns : goal.returns
returns g c Content limits groups not =
    let gives = g.I.Inputs.gives in
    let puts = g.I.Inputs.puts in
    let layout = c.args.project.now in
    let q = c.args.question.now in
    let name = c.args.name.now in
    let list = seen_list c.args.list in
    let old : ListedFiles _ _ = record { inputs = c.args.inputs; paths = c.args.paths } in
    let new = c.run_baseline-ended.result.1 in
    let steps = c.write_beside.ensures not in
    let told = c.end_of-told.ensures (told_before puts name _ _ _ _ steps not) in
    record {
      result = c.run_baseline-ended.result.0;
      last = c.write_beside.new.inputs;
      certificate = λ _. c.run_baseline-ended.ensures.certificate;
      prints =
          prints gives old new layout q (λ p. HoldsOfGiven (reading gives) old new layout (IsBaselineBy c.args.format list q p)) _ _ _
          (λ p h. holds gives old new layout (IsBaselineBy c.args.format list q p) h) c.run_baseline-ended.ensures.written c.run_baseline-ended.ensures.unread;
      is = subst (λ (t : Result Answer Report). writes_told puts name t new.inputs (seen_end c.write_beside.result) c.write_beside.new.inputs) told steps;
    }
returns g c Promise limits groups not =
    let gives = g.I.Inputs.gives in
    let puts = g.I.Inputs.puts in
    let layout = c.args.project.now in
    let q = c.args.question.now in
    let name = c.args.name.now in
    let list = seen_list c.args.list in
    let old : ListedFiles _ _ = record { inputs = c.args.inputs; paths = c.args.paths } in
    let new = c.run_baseline-ended.result.1 in
    let steps = c.write_beside.ensures not in
    let told = c.end_of-told.ensures (told_before puts name _ _ _ _ steps not) in
    record {
      result = c.run_baseline-ended.result.0;
      last = c.write_beside.new.inputs;
      certificate = λ _. c.run_baseline-ended.ensures.certificate;
      prints =
          prints gives old new layout q (λ p. HoldsOfGiven (reading gives) old new layout (IsBaselineBy c.args.format list q p)) _ _ _
          (λ p h. tt) c.run_baseline-ended.ensures.written c.run_baseline-ended.ensures.unread;
      is = subst (λ (t : Result Answer Report). writes_told puts name t new.inputs (seen_end c.write_beside.result) c.write_beside.new.inputs) told steps;
    }
