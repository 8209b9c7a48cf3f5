use Rattle.std.proofs.Common.{◌∙◌, ◌∷◌, [], suc, ap, arith, map}
use Rattle.std.proofs.lemmas.List.{map-append}
use Rattle.inc_rules.proofs.JudgeLemmas.{more_chain}
use Rattle.inc_rules.proofs.reach.whole_chains.Goals as goal

pub whole_chain-requires : goal.whole_chain-requires
whole_chain-requires c =
    let within = rw c.loop-alloc-test.ensures.source at c.loop-alloc.invariant.within in
    rw (c.edges.ensures, c.make.ensures.made) (within 0 c.advance.new.self.at (omega arith))

pub loop-alloc-preserved : goal.loop-alloc-preserved
loop-alloc-preserved c =
    let within = rw c.loop-alloc-test.ensures.source at c.loop-alloc.invariant.within in
    let chains = rw c.loop-alloc-test.ensures.source at c.loop-alloc.invariant.chains in
    let made = rw (c.edges.ensures, c.make.ensures.made) at c.in_ok-whole_chain.ensures in
    record {
      within = rw c.make.ensures.left (λ k d low. within (suc k) d (omega arith));
      chains = rw c.make.ensures.left
          (more_chain _ _ _ _ _ _ chains (ap (map (λ x. x.items)) c.in_ok-push.ensures.items ∙ map-append (λ x. x.items) c.loop-alloc.chains.items (c.in_ok-whole_chain.field-0 ∷ [])) made);
    }
