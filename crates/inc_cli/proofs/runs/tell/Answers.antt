use Rattle.inc_cli.proofs.runs.tell.Goals as goal

pub returns-in-Ok : goal.returns-in-Ok
returns-in-Ok g c = rw c.in-Ok.is (c.note.ensures c.args.hindrance)
