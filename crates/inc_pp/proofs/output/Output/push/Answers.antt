use Rattle.std.proofs.Common.{◌∷◌, ◌++◌, [], refl, ap, ◌∙◌}
use Rattle.inc_pp.specs.Tasks.{OutToken}
use Rattle.inc_pp.proofs.Prints.{pushed, same-kept}
use Rattle.inc_pp.proofs.output.Output.push.Goals as goal

pub invariant_of-self : goal.invariant_of-self
invariant_of-self c = same-kept _ _ _ _ c.reserve.ensures.items refl c.self.invariant

pub invariant_of-self-in_err-push_text : goal.invariant_of-self-in_err-push_text
invariant_of-self-in_err-push_text c = same-kept _ _ _ _ c.reserve.ensures.items c.in_err-push_text.ensures.same c.self.invariant

pub invariant_of-self-2 : goal.invariant_of-self-2
invariant_of-self-2 c =
    let t : OutToken = record { kind = c.args.kind; spelling = c.args.spelling.now; starts = c.args.starts } in
    (pushed c.self.inside.labels.items c.push_reserved.new.self.items c.self.inside.text.items c.push_text.new.text.items t c.self.invariant
    (c.push_reserved.ensures.items ∙ ap (λ ms. ms ++ c.in-Some.label ∷ []) c.reserve.ensures.items ∙ ap (λ m. c.self.inside.labels.items ++ m ∷ []) c.in-Some.ensures)
    c.in_ok-push_text.ensures.done).0

pub returns : goal.returns
returns c =
    let t : OutToken = record { kind = c.args.kind; spelling = c.args.spelling.now; starts = c.args.starts } in
    rw (← c.self.view_is) (pushed c.self.inside.labels.items c.push_reserved.new.self.items c.self.inside.text.items c.push_text.new.text.items t c.self.invariant
    (c.push_reserved.ensures.items ∙ ap (λ ms. ms ++ c.in-Some.label ∷ []) c.reserve.ensures.items ∙ ap (λ m. c.self.inside.labels.items ++ m ∷ []) c.in-Some.ensures)
    c.in_ok-push_text.ensures.done).1
