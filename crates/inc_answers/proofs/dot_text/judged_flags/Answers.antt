use Rattle.std.proofs.Common.{◌≡◌, ◌∙◌, ◌<◌, ℕ, Bool, List, [], ◌++◌, ap, arith, drop, length, subst, sym, take}
use Rattle.std.specs.List.{All}
use Rattle.std.proofs.Math.Seq.{take-append_seam}
use Rattle.inc_graph.specs.FileSets.{AreFlags}
use Rattle.inc_answers.proofs.DrawnRules.{drawn_chains, low_chains}
use Rattle.inc_answers.proofs.dot_text.judged_flags.Goals as goal

pub flag_judged-requires : goal.flag_judged-requires
flag_judged-requires c =
    let long : length c.deref_mut.result.now ≡ length c.args.graph.now.edges = ap (λ l. length l) c.deref_mut.ensures.value ∙ c.in_ok-flags.ensures.long in
    rw long (low_chains c.args.graph.now c.args.judged.now c.requires)

pub returns : goal.returns
returns c =
    let new : List Bool = c.flag_judged.new.flags in
    let old : List Bool = c.in_ok-flags.flags.items in
    let long : c.in_ok-flags.flags.len ≡ length new = omega (arith, c.flag_judged.ensures.long, c.deref_mut.ensures.len) in
    let back : take c.in_ok-flags.flags.len (new ++ drop (length new) old) ≡ new =
    ap (λ (n : ℕ). take n (new ++ drop (length new) old)) long ∙ take-append_seam new (drop (length new) old) in
    rw back (subst (λ es. AreFlags es new) (drawn_chains c.args.judged.now) (c.flag_judged.ensures.flags [] (rw c.deref_mut.ensures.value c.in_ok-flags.ensures.flags)))
