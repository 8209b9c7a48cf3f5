use Rattle.std.proofs.Common.{◌∙◌, ◌≡◌, ◌<◌, List, ℕ, suc, [], ◌∷◌, arith, length, subst, sym}
use Rattle.std.specs.List.{All, concat}
use Rattle.std.proofs.lemmas.List.Elements.{All-head, All-tail}
use Rattle.inc_answers.proofs.FlagLemmas.{Flagging, flagging_goes_on}
use Rattle.inc_answers.proofs.dot_text.flag_chains.Goals as goal

pub flag_edges-requires : goal.flag_edges-requires
flag_edges-requires c =
    let within = rw c.loop-flags-test.ensures.chain at c.loop-flags.invariant.within in
    rw (c.edges.ensures, c.loop-flags.invariant.long) (within 0 [] (omega arith))

pub loop-flags-preserved : goal.loop-flags-preserved
loop-flags-preserved c =
    let within = rw c.loop-flags-test.ensures.chain at c.loop-flags.invariant.within in
    let flagging = rw c.loop-flags-test.ensures.chain at c.loop-flags.invariant.flagging in
    record {
      flagging = flagging_goes_on c.args.flags.now c.loop-flags.flags c.flag_edges.new.flags c.advance.new.self.chain (concat c.advance.new.self.left) (concat c.args.chains.now.left)
          (rw c.edges.ensures at c.flag_edges.ensures.flags) flagging;
      long = c.flag_edges.ensures.long ∙ c.loop-flags.invariant.long;
      within = λ k d low. within (suc k) d (omega arith);
    }
