use Rattle.std.proofs.Common.{◌≡◌, List, ◌++◌, length, map}
use Rattle.std.specs.Prelude.{codes}
use Rattle.inc_graph.specs.MissingLists.{Missing}
use Rattle.inc_lookup.specs.Projects.{Layout}
use Rattle.inc_graph.specs.IncludeGraph.{Graph}
use Rattle.inc_graph.specs.declared.graphs.Blocker.{Blocker}
use Rattle.inc_answers.specs.MarkTexts.{missing_mark, list_text, blockers_text}
use Rattle.inc_answers.specs.Numbers.{count_text}
use Rattle.inc_answers.specs.Sending.{Stream, Sends}
use Rattle.inc_answers.specs.WhyText.{unresolved_text}
use Rattle.inc_answers.proofs.SendingLemmas.{sends_then}
use Rattle.inc_answers.proofs.why.send_unresolved.Goals as goal

-- the lists of the graph, as they are read
unresolved_by : (layout : Layout) (g : Graph) (missing : List Missing) (bs cs : List Blocker) (old new : Stream) → missing ≡ g.missing → bs ≡ g.blockers → cs ≡ g.blockers
    → Sends old new (list_text (codes "missing") (map (missing_mark layout) missing) ++ count_text (codes "blocked") (length bs) ++ blockers_text layout cs)
    → Sends old new (unresolved_text layout g)
unresolved_by layout g missing bs cs old new m b c sent = rw (m, b, c) at sent

pub returns : goal.returns
returns g c =
    unresolved_by c.args.project.now c.args.graph.now c.missing.result.now c.blockers.result.now c.blockers-2.result.now _ _ c.missing.ensures.missing c.blockers.ensures.blockers
    c.blockers-2.ensures.blockers
    (sends_then _ _ _ _ _ (sends_then _ _ _ _ _ c.send_missing.ensures c.send_count_line.ensures) c.send_blockers.ensures)
