use Rattle.inc_report.specs.PpTexts.{IsNextPp, IsPpBy, wanted_of}
use Rattle.inc_answers.specs.Terms.{named_directives}
use Rattle.inc_cli.specs.Preprocessings.{FailsFor, IsPpOf}
use Rattle.inc_cli.specs.Views.{output_of, pp_asked_in}
use Rattle.inc_cli.proofs.ListedPrints.{each_all, unread_all}
use Rattle.inc_cli.proofs.ListedReadings.{fails_after, holds, paths_of}
use Rattle.inc_cli.proofs.pp.print_each.Goals as goal

pub returns : goal.returns
returns g c notes =
    let gives = g.I.Inputs.gives in
    let old = c.args.files.now in
    let new = c.run_pp-ended.new.sources in
    let layout = c.args.project.now in
    let q = c.args.question.now in
    let a = pp_asked_in (paths_of old) layout q notes in
    let removed = named_directives layout q.without in
    let out = output_of (g.O.ByteSink.written c.args.out) (g.O.ByteSink.written c.run_pp-ended.result.1) (g.O.ByteSink.has_failed c.run_pp-ended.result.1) in
    record {
      writes = each_all (λ f. f.inputs) _ (IsPpOf gives a old.inputs) q.sources new out.before out.after out.failed c.run_pp-ended.result.0
          (λ s done p h. holds gives old s layout (IsPpBy (wanted_of q) done q.words q.settings removed p) h)
          c.run_pp-ended.ensures.written;
      unread = unread_all c.run_pp-ended.result.0 _ (FailsFor gives a old.inputs new.inputs out)
          (λ r h. (
            h.0,
            h.1,
            h.2,
            h.3,
            h.4,
            h.5,
            fails_after gives old new layout r.0 r.1 (IsNextPp (wanted_of q) h.0 h.2 q.words q.settings removed h.3 r.0) h.6,
          ))
          c.run_pp-ended.ensures.unread;
      certificate = c.run_pp-ended.ensures.certificate;
    }
