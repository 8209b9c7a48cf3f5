use Rattle.std.proofs.Common.{ℕ, List, [], map, sym, subst}
use Rattle.inc_lookup.specs.Given.{HoldsOfGiven}
use Rattle.inc_pp.specs.Readings.{IsOutcome}
use Rattle.inc_pp.specs.Refusals.{read_fault_of}
use Rattle.inc_pp.proofs.Readings.{shared-unread}
use Rattle.inc_pp.proofs.Wholes.{if_some, outcome-alone}
use Rattle.inc_pp.proofs.outcomes.preprocess.Goals as goal

pub preprocess_with-requires-clause-shared : goal.preprocess_with-requires-clause-shared
preprocess_with-requires-clause-shared g c =
    (c.args.sources.now, [], shared-unread g.S.Sources.gives c.args.sources.now c.args.project.now c.args.settings.now.language c.in_ok-removed.removed c.in_ok-files.files c.in_ok-files.ensures)

pub returns-in-Ok-clause-outcome : goal.returns-in-Ok-clause-outcome
returns-in-Ok-clause-outcome g c =
    let words : List (List ℕ) = map (λ w. w.now) c.args.words.now in
    let removed = c.in_ok-removed.removed in
    let shared = shared-unread g.S.Sources.gives c.args.sources.now c.args.project.now c.args.settings.now.language removed c.in_ok-files.files c.in_ok-files.ensures in
    rw (← c.in_ok-removed.ensures)
    (subst (λ o. HoldsOfGiven g.S.Sources.gives c.args.sources.now c.preprocess_with.new.sources c.args.project.now (IsOutcome c.args.source words c.args.settings.now removed o)) (sym c.with_files.ensures)
    (outcome-alone g.S.Sources.gives c.args.sources.now c.preprocess_with.new.sources c.args.project.now c.args.source words c.args.settings.now removed c.preprocess_with.new.files c.in-Ok.outcome
    (c.in-Ok.ensures.outcome c.args.sources.now [] shared)))

pub returns-clause-unread : goal.returns-clause-unread
returns-clause-unread g c =
    let shared = shared-unread g.S.Sources.gives c.args.sources.now c.args.project.now c.args.settings.now.language c.in_ok-removed.removed c.in_ok-files.files c.in_ok-files.ensures in
    rw (← c.in_ok-removed.ensures) (if_some (read_fault_of c.in-Err.fault) (λ r fails. fails c.args.sources.now [] shared) c.in-Err.ensures.unread)
