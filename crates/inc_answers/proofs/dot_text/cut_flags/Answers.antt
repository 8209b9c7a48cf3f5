use Rattle.std.proofs.Common.{◌≡◌, ◌∙◌, ℕ, Bool, List, [], ◌++◌, ap, arith, drop, length, take}
use Rattle.std.proofs.Math.Seq.{take-append_seam}
use Rattle.inc_answers.proofs.dot_text.cut_flags.Goals as goal

pub returns : goal.returns
returns c =
    let new : List Bool = c.flag_cut.new.flags in
    let old : List Bool = c.in_ok-flags.flags.items in
    let long : c.in_ok-flags.flags.len ≡ length new = omega (arith, c.flag_cut.ensures.long, c.deref_mut.ensures.len) in
    let back : take c.in_ok-flags.flags.len (new ++ drop (length new) old) ≡ new =
    ap (λ (n : ℕ). take n (new ++ drop (length new) old)) long ∙ take-append_seam new (drop (length new) old) in
    rw back (c.flag_cut.ensures.flags (rw c.deref_mut.ensures.value c.in_ok-flags.ensures.flags))
