use Rattle.std.proofs.Common.{◌<◌, length, IfSome, sym, subst}
use Rattle.inc_macro.specs.Tables.{table_of}
use Rattle.inc_pp.specs.StateViews.{state_of}
use Rattle.inc_pp.specs.WalkJobs.{job_in}
use Rattle.inc_pp.specs.WalkStates.{IsOver, EndsBy}
use Rattle.inc_pp.proofs.outcomes.preprocess_in.Goals as goal

pub returns-in-Err-Stop-clause-outcome : goal.returns-in-Err-Stop-clause-outcome
returns-in-Err-Stop-clause-outcome g c = λ first earlier shared.
    let job = job_in c.args.job.now c.args.source (table_of c.args.macros) earlier in
    subst (λ o. IsOver g.S.Sources.gives first c.walk.new.sources job c.walk.new.files o) (sym c.new-in-Err-Stop.ensures)
    (subst (λ e. EndsBy g.S.Sources.gives first c.walk.new.sources job c.walk.new.files (state_of c.walk.new.state) c.walk.new.at_hand e) c.in-Err-Stop.field-0-is
    (c.in-Err-Stop.ensures.ends first (table_of c.args.macros) earlier c.new-state.ensures shared)).0

pub returns-in-Err-Stop-clause-stop : goal.returns-in-Err-Stop-clause-stop
returns-in-Err-Stop-clause-stop g c =
    let shared = c.requires.shared in
    let job = job_in c.args.job.now c.args.source (table_of c.args.macros) shared.1 in
    subst (λ o. IfSome o.stop (λ s. s.file < length c.args.job.now.project.now.paths)) (sym c.new-in-Err-Stop.ensures)
    (subst (λ e. EndsBy g.S.Sources.gives shared.0 c.walk.new.sources job c.walk.new.files (state_of c.walk.new.state) c.walk.new.at_hand e) c.in-Err-Stop.field-0-is
    (c.in-Err-Stop.ensures.ends shared.0 (table_of c.args.macros) shared.1 c.new-state.ensures shared.2)).1

pub returns-in-Err-Unread-clause-unread : goal.returns-in-Err-Unread-clause-unread
returns-in-Err-Unread-clause-unread g c =
    let same = c.requires.shared in
    let here = job_in c.args.job.now c.args.source (table_of c.args.macros) same.1 in
    let ended = subst (λ e. EndsBy g.S.Sources.gives same.0 c.walk.new.sources here c.walk.new.files (state_of c.walk.new.state) c.walk.new.at_hand e) c.in-Err-Unread.field-0-is
    (c.in-Err-Unread.ensures.ends same.0 (table_of c.args.macros) same.1 c.new-state.ensures same.2) in
    rw (c.unread.ensures.told ended.2) (λ first earlier shared.
    (subst (λ e. EndsBy g.S.Sources.gives first c.walk.new.sources (job_in c.args.job.now c.args.source (table_of c.args.macros) earlier) c.walk.new.files (state_of c.walk.new.state) c.walk.new.at_hand e) c.in-Err-Unread.field-0-is
    (c.in-Err-Unread.ensures.ends first (table_of c.args.macros) earlier c.new-state.ensures shared)).0)

pub returns-in-Err-Unread-clause-within : goal.returns-in-Err-Unread-clause-within
returns-in-Err-Unread-clause-within g c =
    let shared = c.requires.shared in
    let job = job_in c.args.job.now c.args.source (table_of c.args.macros) shared.1 in
    c.unread.ensures.within (length c.args.job.now.project.now.paths)
    (subst (λ e. EndsBy g.S.Sources.gives shared.0 c.walk.new.sources job c.walk.new.files (state_of c.walk.new.state) c.walk.new.at_hand e) c.in-Err-Unread.field-0-is
    (c.in-Err-Unread.ensures.ends shared.0 (table_of c.args.macros) shared.1 c.new-state.ensures shared.2)).1

pub returns-in-Ok-clause-outcome : goal.returns-in-Ok-clause-outcome
returns-in-Ok-clause-outcome g c = λ first earlier shared.
    subst (λ o. IsOver g.S.Sources.gives first c.walk.new.sources (job_in c.args.job.now c.args.source (table_of c.args.macros) earlier) c.walk.new.files o) (sym c.new.ensures)
    (c.in-Ok.ensures.over first (table_of c.args.macros) earlier c.new-state.ensures shared)
