use Rattle.inc_text.specs.Devices.{AppendsFront}
use Rattle.inc_answers.proofs.SendingLemmas.{front_then}
use Rattle.inc_cli.proofs.Fronts.{front_longer, on_err, on_err_then}
use Rattle.inc_cli.proofs.notes.write_both.Goals as goal

pub returns-in_err-write_whole-clause-front : goal.returns-in_err-write_whole-clause-front
returns-in_err-write_whole-clause-front g c =
    on_err c.from_residual.result _ (front_longer (g.E.ByteSink.written c.args.messages.now) (g.E.ByteSink.written c.write_whole.new.w) c.args.first.now
    c.args.second.now c.in_err-write_whole.ensures.front)

pub returns-clause-front : goal.returns-clause-front
returns-clause-front g c =
    let w1 = g.E.ByteSink.written c.write_whole.new.w in
    let w2 = g.E.ByteSink.written c.write_whole-2.new.w in
    on_err_then c.write_whole-2.result (AppendsFront w1 w2 c.args.second.now) _
    (λ last. front_then (g.E.ByteSink.written c.args.messages.now) w1 w2 c.args.first.now _ c.in_ok-write_whole.ensures.whole last) c.write_whole-2.ensures.front
