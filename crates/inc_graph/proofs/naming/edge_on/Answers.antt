use Rattle.std.proofs.Common.{ℕ, List, refl, ◌∙◌}
use Rattle.inc_graph.specs.Marks.{Mark}
use Rattle.inc_graph.proofs.NamedEdges.{number_all, mark_in_place, only_named}
use Rattle.inc_graph.proofs.naming.edge_on.Goals as goal

abbrev mark_on : List ℕ → ℕ → Mark
mark_on path line = record { path = path; line = line }

pub returns-clause-edge : goal.returns-clause-edge
returns-clause-edge c =
    c.edge_in.ensures.edge
    ∙ mark_in_place c.args.project.now c.args.graph.now (mark_on c.args.path.now c.args.line) c.files-sound.ensures.sound c.requires.files c.file_named-file.result c.file_named-file.ensures.place c.file_named-file.ensures.only
    c.file_named-file.result refl

pub returns-clause-within : goal.returns-clause-within
returns-clause-within c =
    number_all c.args.project.now c.args.graph.now (mark_on c.args.path.now c.args.line) c.edge_in.result (c.edge_in.ensures.edge
    ∙ mark_in_place c.args.project.now c.args.graph.now (mark_on c.args.path.now c.args.line) c.files-sound.ensures.sound c.requires.files c.file_named-file.result c.file_named-file.ensures.place c.file_named-file.ensures.only
    c.file_named-file.result refl)

pub returns-clause-only : goal.returns-clause-only
returns-clause-only c = λ k e at named.
    c.edge_in.ensures.edge
    ∙ mark_in_place c.args.project.now c.args.graph.now (mark_on c.args.path.now c.args.line) c.files-sound.ensures.sound c.requires.files c.file_named-file.result c.file_named-file.ensures.place c.file_named-file.ensures.only
    c.file_named-file.result refl
    ∙ only_named c.args.project.now c.args.graph.now (mark_on c.args.path.now c.args.line) c.files-sound.ensures.sound c.requires.files c.file_named-file.result c.file_named-file.ensures.place c.file_named-file.ensures.only k e at named
