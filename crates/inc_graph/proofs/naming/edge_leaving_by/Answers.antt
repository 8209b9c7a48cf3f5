use Rattle.std.proofs.Common.{◌≡◌, ◌<◌, ℕ, List, Option, Some, None, length, sym, ◌∙◌}
use Rattle.std.specs.Prelude.{position, option_map, ◌==◌, ◌&&◌, slice_get}
use Rattle.std.specs.Option.{IfSome}
use Rattle.inc_lookup.specs.Projects.{Layout, path_at}
use Rattle.inc_graph.specs.declared.graphs.Edge as declared
use Rattle.inc_graph.specs.IncludeGraph.{Edge, Graph, IsSound}
use Rattle.inc_graph.specs.Marks.{Mark}
use Rattle.inc_graph.specs.Near.{IsNamedFrom, IsNamedElsewhere}
use Rattle.inc_graph.specs.Views.{seen_edge}
use Rattle.inc_graph.proofs.NamedEdges.{named_from, named_elsewhere, named_nowhere}
use Rattle.inc_graph.proofs.naming.edge_leaving_by.Goals as goal

abbrev mark_on : List ℕ → ℕ → Mark
mark_on path line = record { path = path; line = line }

module _ (layout : Layout) (g : Graph) (m : Mark) (file : ℕ) (sound : IsSound g) (files : g.files ≡ length layout.paths)
    (once : (i j : ℕ) → i < length layout.paths → j < length layout.paths → path_at layout i ≡ path_at layout j → i ≡ j) (within : file < g.files) (path : path_at layout file ≡ m.path) where
  named : (o : Option declared.Edge) → option_map (λ (e : declared.Edge). e.id) o ≡ position (λ (e : Edge). (e.from == file) && (e.line == m.line)) g.edges
      → IfSome o (λ (e : declared.Edge). slice_get g.edges e.id ≡ Some (seen_edge e)) → IfSome o (λ (e : declared.Edge). e.to < g.files) → IfSome o (λ (e : declared.Edge). IsNamedFrom layout g file m e)
  named None place at to = tt
  named (Some e) place at to = named_from layout g m file sound files once within e path place at to

  nowhere : (o : Option declared.Edge) → option_map (λ (e : declared.Edge). e.id) o ≡ position (λ (e : Edge). (e.from == file) && (e.line == m.line)) g.edges → o ≡ None → IsNamedElsewhere layout g file m
  nowhere None place none = named_nowhere layout g m file sound files once within path place
  nowhere (Some e) place none = cc

pub returns-then-not-is_same_path-clause-none : goal.returns-then-not-is_same_path-clause-none
returns-then-not-is_same_path-clause-none c none =
    let other : c.path.result.now ≡ c.args.path.now → ⊥ = rw c.if-not-is_same_path.true at c.is_same_path.ensures in
    named_elsewhere c.args.project.now c.args.graph.now (mark_on c.args.path.now c.args.line) c.args.file c.files-sound.ensures.sound c.requires.files c.each_path_once.ensures c.requires.file
    (λ same. other (c.path.ensures.path ∙ same))

pub returns-clause-edge : goal.returns-clause-edge
returns-clause-edge c =
    let same : c.path.result.now ≡ c.args.path.now = rw c.if-not-is_same_path.false at c.is_same_path.ensures in
    named c.args.project.now c.args.graph.now (mark_on c.args.path.now c.args.line) c.args.file c.files-sound.ensures.sound c.requires.files c.each_path_once.ensures c.requires.file (sym c.path.ensures.path ∙ same)
    c.edge_found.result c.edge_found.ensures.place c.edge_found.ensures.edge c.edge_found.ensures.to

pub returns-clause-none : goal.returns-clause-none
returns-clause-none c none =
    let same : c.path.result.now ≡ c.args.path.now = rw c.if-not-is_same_path.false at c.is_same_path.ensures in
    nowhere c.args.project.now c.args.graph.now (mark_on c.args.path.now c.args.line) c.args.file c.files-sound.ensures.sound c.requires.files c.each_path_once.ensures c.requires.file (sym c.path.ensures.path ∙ same)
    c.edge_found.result c.edge_found.ensures.place none
