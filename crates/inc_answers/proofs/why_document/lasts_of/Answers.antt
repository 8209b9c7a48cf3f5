use Rattle.std.proofs.Common.{◌∙◌, ◌++◌, ◌∷◌, [], List, ℕ, ap}
use Rattle.inc_answers.specs.WhyDocument.{other_last, other_lasts}
use Rattle.inc_answers.proofs.EdgeEnds.{next_kept}
use Rattle.inc_answers.proofs.why_document.lasts_of.Goals as goal

pub loop-edges-preserved : goal.loop-edges-preserved
loop-edges-preserved c =
    next_kept (other_last c.args.last.now) c.loop-edges.edges.items c.push_last.new.edges.items (other_lasts c.args.last.now c.args.chains.now.left) c.loop-edges.chains.left
    c.advance.new.self.chain c.advance.new.self.left c.loop-edges-test.ensures.chain
    (c.in_ok-push_last.ensures ∙ ap (λ (chain : List ℕ). c.loop-edges.edges.items ++ other_lasts c.args.last.now (chain ∷ [])) c.edges.ensures) c.loop-edges.invariant
