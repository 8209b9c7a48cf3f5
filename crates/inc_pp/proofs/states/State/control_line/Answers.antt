use Rattle.std.proofs.Common.{ap, ◌∙◌}
use Rattle.std.proofs.lemmas.Result.{err_from_is_err_and}
use Rattle.inc_directive.specs.LineKinds.{Text, Include, Other}
use Rattle.inc_directive.specs.KindViews.{seen_target}
use Rattle.inc_pp.specs.StateViews.{state_of}
use Rattle.inc_pp.specs.Tasks.{State}
use Rattle.inc_pp.proofs.ControlSteps.{include-done, found-stop, header-stop, other-done, other-stop, text-done}
use Rattle.inc_pp.proofs.StopSteps.{if-stop, kind-read, line-at}
use Rattle.inc_pp.proofs.states.State.control_line.Goals as goal

pub returns-in_ok-entry-in-Include-clause-done : goal.returns-in_ok-entry-in-Include-clause-done
returns-in_ok-entry-in-Include-clause-done c f l is at =
    let kind_is = kind-read c.args.lines.now c.args.i l (Include c.in-Include.by (seen_target c.in-Include.target)) at c.in-Include.ensures in
    include-done f l (state_of c.args.self.now) c.args.here.now c.args.project.now c.args.settings.now c.args.at.now c.args.nests is
    c.in-Include.by (seen_target c.in-Include.target) kind_is
    c.in_ok-header-in-Include.header c.header.new.self.budget (state_of c.header.new.self) c.in_ok-there-in-Include.there
    c.in_ok-header-in-Include.ensures.kept (c.in_ok-header-in-Include.ensures.done l at) c.in_ok-there-in-Include.ensures.found
    (state_of c.led_to.new.self) c.in_ok-found-in-Include.found c.first_line.result c.in_ok-entry-in-Include.entry c.in_ok-found-in-Include.ensures.done.0
    c.in_ok-found-in-Include.ensures.done.1 (line-at c.args.lines.now c.args.i l c.first_line.result at c.first_line.ensures) c.in_ok-entry-in-Include.ensures

pub returns-in_err-header-in-Include-clause-stop : goal.returns-in_err-header-in-Include-clause-stop
returns-in_err-header-in-Include-clause-stop c =
    let p = err_from_is_err_and c.from_residual.result c.from_residual.ensures.1 in
    rw (p.1, p.2) (if-stop c.in_err-header-in-Include.field-0.0 _ _ (λ line cause e. (
      ap (λ (t : State). t.output) c.in_err-header-in-Include.ensures.kept,
      ap (λ (t : State). t.reads) c.in_err-header-in-Include.ensures.kept,
      λ f l is at.
          let kind_is = kind-read c.args.lines.now c.args.i l (Include c.in-Include.by (seen_target c.in-Include.target)) at c.in-Include.ensures in
          header-stop f l (state_of c.args.self.now) c.args.here.now c.args.project.now c.args.settings.now c.args.at.now c.args.nests is
          c.in-Include.by (seen_target c.in-Include.target) kind_is line cause (e l at).0 (e l at).1,
    )) c.in_err-header-in-Include.ensures.stop)

pub returns-in_err-found-in-Include-clause-stop : goal.returns-in_err-found-in-Include-clause-stop
returns-in_err-found-in-Include-clause-stop c =
    let p = err_from_is_err_and c.from_residual-in_err-found-in-Include.result c.from_residual-in_err-found-in-Include.ensures.1 in
    rw (p.1, p.2) (if-stop c.in_err-found-in-Include.field-0.0 _ _ (λ line cause e. (
      ap (λ (t : State). t.output) (e.2 ∙ c.in_ok-header-in-Include.ensures.kept),
      ap (λ (t : State). t.reads) (e.2 ∙ c.in_ok-header-in-Include.ensures.kept),
      λ f l is at.
          let kind_is = kind-read c.args.lines.now c.args.i l (Include c.in-Include.by (seen_target c.in-Include.target)) at c.in-Include.ensures in
          found-stop f l (state_of c.args.self.now) c.args.here.now c.args.project.now c.args.settings.now c.args.at.now c.args.nests is
          c.in-Include.by (seen_target c.in-Include.target) kind_is
          c.in_ok-header-in-Include.header c.header.new.self.budget (state_of c.header.new.self) c.in_ok-there-in-Include.there
          c.in_ok-header-in-Include.ensures.kept (c.in_ok-header-in-Include.ensures.done l at) c.in_ok-there-in-Include.ensures.found
          line cause (line-at c.args.lines.now c.args.i l line at e.0) e.1,
    )) c.in_err-found-in-Include.ensures.stop)

pub returns-in_ok-obey-in-Other-clause-done : goal.returns-in_ok-obey-in-Other-clause-done
returns-in_ok-obey-in-Other-clause-done c f l is at =
    let kind_is = kind-read c.args.lines.now c.args.i l (Other c.in-Other.kind) at c.in-Other.ensures in
    other-done f l (state_of c.args.self.now) c.args.here.now c.in-Other.kind kind_is (state_of c.obey.new.self) c.obey.new.here
    (c.in_ok-obey-in-Other.ensures.done f l is.under is.at at)

pub returns-in_err-obey-in-Other-clause-stop : goal.returns-in_err-obey-in-Other-clause-stop
returns-in_err-obey-in-Other-clause-stop c =
    let p = err_from_is_err_and c.from_residual-in_err-obey-in-Other.result c.from_residual-in_err-obey-in-Other.ensures.1 in
    rw (p.1, p.2) (if-stop c.in_err-obey-in-Other.field-0.0 _ _ (λ line cause e. (
      e.0,
      c.in_err-obey-in-Other.ensures.reads,
      λ f l is at.
          let kind_is = kind-read c.args.lines.now c.args.i l (Other c.in-Other.kind) at c.in-Other.ensures in
          let stopped = e.1 f l is.under is.at at in
          other-stop f l (state_of c.args.self.now) c.args.here.now c.in-Other.kind kind_is line cause stopped.0 stopped.1,
    )) c.in_err-obey-in-Other.ensures.stop)

pub returns-in-Text-clause-done : goal.returns-in-Text-clause-done
returns-in-Text-clause-done c f l is at =
    text-done f l (state_of c.args.self.now) c.args.here.now (kind-read c.args.lines.now c.args.i l Text at c.in-Text.ensures)
