use Rattle.std.proofs.Common.{◌≡◌, Ok, Err, ap, refl, subst, sym}
use Rattle.inc_args.specs.Views.{seen_pp}
use Rattle.inc_cli.specs.Preprocessings.{writes_beside, writes_texts}
use Rattle.inc_cli.specs.Views.{answer_in, seen_end}
use Rattle.inc_inputs.specs.Reports.{report_of}
use Rattle.inc_inputs.specs.Steps.{Comes, comes_to}
use Rattle.inc_inputs.specs.Views.{seen}
use Rattle.inc_inputs.proofs.StepLemmas.{comes_err}
use Rattle.inc_cli.proofs.pp.write_beside.Goals as goal

pub returns-in-Err-write_texts : goal.returns-in-Err-write_texts
returns-in-Err-write_texts g c =
    let puts = g.I.Inputs.puts in
    let p = seen_pp c.args.args.now in
    let was : seen (λ u. u) c.write_texts.result ≡ Err (report_of c.in-Err-write_texts.failure) = ap (seen (λ u. u)) c.in-Err-write_texts.is in
    subst (λ t. Comes (writes_beside puts p (seen_end t)) c.args.inputs.now (Err (report_of c.in-Err-write_texts.failure)) c.write_texts.new.inputs) (sym c.in-Ok.is)
    (comes_err (writes_texts puts p (answer_in c.in-Ok.answer)) (λ written. comes_to (Ok (answer_in c.in-Ok.answer))) _ _ _ _ _ was refl c.write_texts.ensures)
