use Rattle.std.proofs.Common.{◌≡◌, Err, IfErr, Result, Ok, [], refl, subst, sym}
use Rattle.std.specs.Result.{IsErrAnd}
use Rattle.inc_check.specs.Texts.{CostsFormat, IsMalformed}
use Rattle.inc_inputs.specs.Reports.{IsListReport, report_of}
use Rattle.inc_inputs.specs.declared.failures.Failure.{Failure}
use Rattle.inc_cli.proofs.Names.{named_or}
use Rattle.inc_cli.proofs.questions.open_texts.Goals as goal

-- what is said of a failure is said of it where it is passed on
passed_if : {A : Type 0} (x : Result A Failure) (f : Failure) (P : Failure → Type 0) → IsErrAnd x (λ e. e ≡ f) → P f → IfErr x P
passed_if (Ok a) f P h p = tt
passed_if (Err e) f P h p = subst P (sym h) p

pub returns-in_err-costs-clause-fault : goal.returns-in_err-costs-clause-fault
returns-in_err-costs-clause-fault c =
    let texts = c.args.costs.now in
    let name = named_or c.args.limits.now.costs c.unwrap_or.result _ [] c.unwrap_or.ensures refl in
    let told = subst (λ n. IsListReport (IsMalformed CostsFormat texts) n (report_of c.in_err-costs.field-0.0)) name c.in_err-costs.ensures.fault in
    passed_if c.from_residual.result c.in_err-costs.field-0.0 _ c.from_residual.ensures.1 told
