use Rattle.std.proofs.Common.{refl, sym, ◌∙◌}
use Rattle.inc_pp.proofs.Wholes.{if_some}
use Rattle.inc_pp.specs.Refusals.{read_fault_of}
use Rattle.inc_report.specs.PpViews.{common_of}
use Rattle.inc_report.proofs.PpLemmas.{no_source, of_outcome, of_refusal, of_next}
use Rattle.inc_report.proofs.pp.outcome_of.Goals as goal

pub returns-in_default-clause-refused : goal.returns-in_default-clause-refused
returns-in_default-clause-refused g c titles p q says is =
    let none = sym c.in_ok-source.ensures.file ∙ c.in_default.is in
    no_source g.S.Sources.gives _ _ (common_of c.args.job.now) _ _ titles c.args.path.now p q none refl refl says is

pub returns-in-Ok-clause-outcome : goal.returns-in-Ok-clause-outcome
returns-in-Ok-clause-outcome g c titles p is =
    let there = sym c.in_ok-source.ensures.file ∙ c.in-Some.is in
    of_outcome g.S.Sources.gives _ _ (common_of c.args.job.now) _ _ titles c.args.path.now p c.in-Some.source c.in-Ok.outcome c.with_source-settings.result c.with_source-settings.ensures there is c.in-Ok.ensures.outcome

pub returns-in-Err-clause-refused : goal.returns-in-Err-clause-refused
returns-in-Err-clause-refused g c titles p q says is =
    let there = sym c.in_ok-source.ensures.file ∙ c.in-Some.is in
    of_refusal g.S.Sources.gives _ _ (common_of c.args.job.now) _ _ titles c.args.path.now p q c.in-Some.source c.in-Err.fault c.with_source-settings.result c.with_source-settings.ensures there c.in-Err.ensures.definition says is

pub returns-in-Err-clause-unread : goal.returns-in-Err-clause-unread
returns-in-Err-clause-unread g c =
    let there = sym c.in_ok-source.ensures.file ∙ c.in-Some.is in
    if_some (read_fault_of c.in-Err.fault)
    (λ r fails. of_next g.S.Sources.gives _ _ (common_of c.args.job.now) _ c.args.path.now c.in-Some.source r c.with_source-settings.result c.with_source-settings.ensures there fails) c.in-Err.ensures.unread
