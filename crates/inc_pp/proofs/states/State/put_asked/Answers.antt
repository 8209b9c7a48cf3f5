use Rattle.std.proofs.Common.{map, option_map}
use Rattle.inc_token.specs.Views.{seen}
use Rattle.inc_expand.specs.Places.{place_value}
use Rattle.inc_pp.specs.StateViews.{state_of}
use Rattle.inc_pp.proofs.RunSteps.{put-done}
use Rattle.inc_pp.proofs.states.State.put_asked.Goals as goal

pub returns-clause-done : goal.returns-clause-done
returns-clause-done c = λ f under index.
    let e = c.in_ok-once.ensures.done in
    put-done f c.args.settings.now under (map seen c.args.tokens.now) (state_of c.args.self.now) c.args.here.now c.most_output.result c.most_output.ensures c.args.file index
    (place_value c.place.result) c.place.ensures (option_map place_value c.marks-marks.result) c.marks-marks.ensures (state_of c.note_once.new.self) e.0 c.put_expanded.new.output c.put_expanded.new.budget c.in_ok-once.once
    e.2 e.1 c.in_ok-note_once.ensures.done
