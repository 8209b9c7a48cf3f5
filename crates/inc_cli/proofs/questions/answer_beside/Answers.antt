use Rattle.std.proofs.Common.{◌≡◌, ◌∙◌, ℕ, List, [], Result, ap, map, refl, subst, sym}
use Rattle.std.specs.Prelude.{unwrap_or}
use Rattle.inc_cli.specs.Commands.{certificate_of}
use Rattle.inc_inputs.specs.Reports.{Report}
use Rattle.inc_cli.specs.Outputs.{Answer, ended}
use Rattle.inc_cli.specs.Questions.{writes_for}
use Rattle.inc_cli.specs.Views.{seen_command}
use Rattle.inc_cli.proofs.Names.{named_or}
use Rattle.inc_cli.proofs.WrittenLemmas.{writes_none}
use Rattle.inc_cli.proofs.questions.answer_beside.Goals as goal

pub returns-in-WriteBaseline : goal.returns-in-WriteBaseline
returns-in-WriteBaseline g c known not = rw c.in-WriteBaseline.is (c.answer_written.ensures known c.args.limits.now c.args.groups.now not)

pub returns : goal.returns
returns g c known not =
    let command = seen_command c.args.command in
    let name : c.unwrap_or-certificate.result.now ≡ unwrap_or (certificate_of command) [] =
    named_or c.certificate.result c.unwrap_or-certificate.result _ [] c.unwrap_or-certificate.ensures refl ∙ ap (λ o. unwrap_or o []) c.certificate.ensures in
    let told = c.end_of-told.ensures not
    ∙ ap (λ (w : List ℕ). ended c.args.notes.items (map (λ p. p.now) c.args.paths.now) w c.answer-ended.result.0) name in
    let prints = c.answer-ended.ensures.printed known c.args.notes.items in
    record {
      result = c.answer-ended.result.0;
      last = prints.new;
      certificate = c.answer-ended.ensures.certificate;
      prints = prints;
      is =
          subst (λ (a : Result Answer Report). writes_for g.I.Inputs.puts command (ended c.args.notes.items (map (λ p. p.now) c.args.paths.now) (unwrap_or (certificate_of command) []) c.answer-ended.result.0)
          prints.new a prints.new) (sym told) (writes_none g.I.Inputs.puts c.args.command c.in_default.not-WriteBaseline _ prints.new);
    }
