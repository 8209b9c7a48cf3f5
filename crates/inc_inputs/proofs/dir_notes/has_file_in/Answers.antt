use Rattle.std.proofs.Common.{◌<◌, length, rules}
use Rattle.inc_inputs.specs.DirNotes.{lies_in}
use Rattle.inc_inputs.proofs.WordNotes.{any_here, any_later}
use Rattle.inc_inputs.proofs.dir_notes.has_file_in.Goals as goal

pub returns-then-lies_at : goal.returns-then-lies_at
returns-then-lies_at c =
    let low : c.loop-place.place < length c.args.project.now.paths = search rules in
    any_here (lies_in c.args.folder.now) c.args.project.now c.loop-place.place low c.lies_at.result c.lies_at.ensures c.if-lies_at.true c.loop-place.invariant

pub loop-place-preserved : goal.loop-place-preserved
loop-place-preserved c =
    let low : c.loop-place.place < length c.args.project.now.paths = search rules in
    any_later (lies_in c.args.folder.now) c.args.project.now c.loop-place.place low c.lies_at.result c.lies_at.ensures c.if-lies_at.false c.loop-place.invariant
