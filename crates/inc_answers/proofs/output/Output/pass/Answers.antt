use Rattle.std.proofs.Common.{◌≡◌, [], take}
use Rattle.inc_answers.proofs.SendingLemmas.{sends_past}
use Rattle.inc_answers.proofs.output.Output.pass.Goals as goal

pub returns : goal.returns
returns g c =
    let empty : take c.self.inside.waiting c.self.inside.bytes.items ≡ [] = rw (← c.self.view_is) at c.requires in
    rw (← c.self.view_is) (rw empty (sends_past _ _ _ _ c.args.text.now c.write_unless_failed.ensures))
