use Rattle.std.proofs.Common.{◌∙◌, map, subst, sym}
use Rattle.std.proofs.lemmas.Result.{IfOk-weaker}
use Rattle.inc_graph.specs.FileSets.{AreFlags}
use Rattle.inc_inputs.specs.Ends.{named_files}
use Rattle.inc_inputs.proofs.PlaceMarks.{kept_made}
use Rattle.inc_inputs.proofs.places.kept_flags.Goals as goal

pub returns : goal.returns
returns c =
    let layout = c.args.project.now in
    let keep = map (λ p. p.now) c.args.keep.now in
    let only = map (λ p. p.now) c.args.only.now in
    let ks : AreFlags (named_files layout keep) c.deref.result.now = subst (λ bs. AreFlags (named_files layout keep) bs) (sym c.deref.ensures.value) c.in_ok-kept.ensures in
    let os : AreFlags (named_files layout only) c.deref-2.result.now = subst (λ bs. AreFlags (named_files layout only) bs) (sym c.deref-2.ensures.value) c.in_ok-others.ensures in
    IfOk-weaker c.join_flags.result _ _
    (λ flags e. e (named_files layout keep) (named_files layout only) ks os
    ∙ kept_made layout keep only c.count.result c.are_some.result c.count.ensures.count c.are_some.ensures (sym c.are_none.ensures ∙ c.if-are_none.false))
    c.join_flags.ensures
