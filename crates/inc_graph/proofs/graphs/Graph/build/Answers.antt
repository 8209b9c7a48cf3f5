use Rattle.std.proofs.Common.{List, ℕ, Ok, Err, IfOk, IfErr, IfSome, length, ◌+◌, sym, subst}
use Rattle.inc_text.specs.declared.devices.ReadFault.{ReadFault}
use Rattle.inc_lookup.specs.Given.{HoldsOfGiven, FailsAfter}
use Rattle.inc_graph.specs.IncludeGraph.{AreAsked, IsGraphAnswer}
use Rattle.inc_graph.specs.ReadFiles.{IsOfClosure, IsReachedAfter, IsOfFiles, read_fault_of}
use Rattle.inc_graph.proofs.graphs.Graph.build.Goals as goal

pub build_in-requires-clause-asked : goal.build_in-requires-clause-asked
build_in-requires-clause-asked g c =
    subst (λ (x : List ℕ). AreAsked (length c.args.project.now.paths) (length c.args.setting.now.others + 1) c.args.from.now x) (sym c.in_ok-to.ensures) c.requires

pub returns-clause-graph : goal.returns-clause-graph
returns-clause-graph g c =
    subst (λ (b : List ℕ). IfOk c.build_in.result (λ graph. HoldsOfGiven g.S.Sources.gives c.args.sources.now c.build_in.new.sources c.args.project.now (λ given listing.
    IsGraphAnswer c.args.setting.now listing c.args.from.now b (Ok graph) × IsOfClosure c.args.setting.now c.args.from.now b given listing)))
    c.in_ok-to.ensures c.build_in.ensures.graph

pub returns-clause-refusal : goal.returns-clause-refusal
returns-clause-refusal g c =
    subst (λ (b : List ℕ). IfErr c.build_in.result (λ fault. IsOfFiles fault → HoldsOfGiven g.S.Sources.gives c.args.sources.now c.build_in.new.sources c.args.project.now (λ given listing.
    IsGraphAnswer c.args.setting.now listing c.args.from.now b (Err fault) × IsOfClosure c.args.setting.now c.args.from.now b given listing)))
    c.in_ok-to.ensures c.build_in.ensures.refusal

pub returns-clause-unread : goal.returns-clause-unread
returns-clause-unread g c =
    subst (λ (b : List ℕ). IfErr c.build_in.result (λ fault. IfSome (read_fault_of fault) (λ (r : ℕ × ReadFault).
    FailsAfter g.S.Sources.gives c.args.sources.now c.build_in.new.sources c.args.project.now r.0 r.1 (IsReachedAfter c.args.setting.now c.args.from.now b r.0))))
    c.in_ok-to.ensures c.build_in.ensures.unread
