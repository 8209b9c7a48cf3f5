use Rattle.std.proofs.Common.{◌∙◌, ap, map}
use Rattle.inc_answers.specs.DirectiveNames.{kept_kind}
use Rattle.inc_answers.specs.NameTables.{NameSource}
use Rattle.inc_answers.proofs.NamedReasonLemmas.{names_step}
use Rattle.inc_answers.proofs.named_reasons.open_names.Goals as goal

pub loop-blocker-preserved : goal.loop-blocker-preserved
loop-blocker-preserved c = record {
  found = names_step c.args.language (map (λ n. n.now) c.args.undefined.now) (kept_kind c.args.names.now.language c.args.names.now.kept) c.args.blockers.now c.loop-blocker.blocker-index
      c.blocker-item.result _ _ _ c.loop-blocker-test.true c.blocker-item.is c.loop-blocker.invariant.found c.in_ok-add_open.ensures
      (c.kind.ensures ∙ c.in_ok-directive.ensures.line
      ∙ ap (λ (n : NameSource). kept_kind n.language n.kept c.directive_of.result) c.loop-blocker.invariant.same
      ∙ ap (kept_kind c.args.names.now.language c.args.names.now.kept) c.directive_of.ensures);
  same = c.in_ok-directive.ensures.same ∙ c.loop-blocker.invariant.same;
}
