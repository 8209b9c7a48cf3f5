use Rattle.std.proofs.Common.{sym, ◌∙◌}
use Rattle.inc_lookup.specs.Projects.{path_at}
use Rattle.inc_graph.proofs.HitLemmas.{smaller, next_within, hit_pushed, no_hit}
use Rattle.inc_graph.proofs.building.nexts.hits_of.Goals as goal

pub loop-left-smaller-in-Continue-branch-3 : goal.loop-left-smaller-in-Continue-branch-3
loop-left-smaller-in-Continue-branch-3 c =
    smaller c.args.lookup.now (path_at c.args.lookup.now c.args.file) c.args.form c.args.name.now c.loop-left.left c.in-Some.first c.in-Some.is c.loop-left.invariant.within
    c.in-Some-2.found (sym c.in_ok-found.ensures.found ∙ c.in-Some-2.is)

pub loop-left-preserved-in-Continue-branch-3 : goal.loop-left-preserved-in-Continue-branch-3
loop-left-preserved-in-Continue-branch-3 c =
    let layout = c.args.lookup.now in
    let found = sym c.in_ok-found.ensures.found ∙ c.in-Some-2.is in
    record {
      all = hit_pushed layout (path_at layout c.args.file) c.args.form c.args.name.now c.loop-left.left c.in-Some.first c.in-Some.is c.loop-left.invariant.within
          c.loop-left.hits.items c.push.new.self.items _ c.in-Some-2.found found c.in_ok-push-in-Some-2.ensures.items c.loop-left.invariant.all;
      within = next_within layout (path_at layout c.args.file) c.args.form c.args.name.now c.loop-left.left c.in-Some.first c.in-Some.is c.loop-left.invariant.within c.in-Some-2.found found;
    }

pub loop-left-preserved : goal.loop-left-preserved
loop-left-preserved c =
    let layout = c.args.lookup.now in
    record {
      all = no_hit layout (path_at layout c.args.file) c.args.form c.args.name.now c.loop-left.left c.in-Some.first c.in-Some.is c.loop-left.invariant.within
          c.loop-left.hits.items _ (sym c.in_ok-found.ensures.found ∙ c.in-None.is) c.loop-left.invariant.all;
      within = tt;
    }
