use Rattle.std.proofs.Common.{sym, ◌∙◌, ◌<◌, length, arith}
use Rattle.inc_graph.proofs.UnknownMarks.{known_nowhere, unknown_there}
use Rattle.inc_graph.proofs.fixing.is_unknown_in_file.Goals as goal

pub returns-in-None : goal.returns-in-None
returns-in-None c =
    sym (known_nowhere c.args.project.now c.args.graph.now c.args.mark.now c.files-few.ensures.sound c.requires.files c.file.result
    (rw c.path.ensures at c.file.ensures.place) (rw c.path.ensures at c.file.ensures.only) c.in-None.is)

pub returns-in-Some : goal.returns-in-Some
returns-in-Some c =
    let inside : c.in-Some.file < length c.args.project.now.paths = c.in-Some.ensures.within in
    c.is_unknown_at.ensures ∙ rw c.line.ensures (sym (unknown_there c.args.project.now c.args.graph.now c.args.mark.now c.files-few.ensures.sound c.requires.files c.file.result
    (rw c.path.ensures at c.file.ensures.place) (rw c.path.ensures at c.file.ensures.only) c.in-Some.file (omega arith) c.in-Some.is))
