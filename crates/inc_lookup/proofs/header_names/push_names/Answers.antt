use Rattle.std.proofs.Common.{◌≡◌, ◌<◌, true, false, length, arith}
use Rattle.std.specs.Prelude.{◌==◌}
use Rattle.std.proofs.lemmas.Bool.{eqb-true, eqb-false}
use Rattle.inc_lookup.proofs.ReducedLemmas.{names_none, names_first, names_behind}
use Rattle.inc_lookup.proofs.header_names.push_names.Goals as goal
use Rattle.inc_lookup.proofs.header_names.push_names.Goals.{then-len-root+in_ok-push, else-len-root}

pub returns-then-is_empty : goal.returns-then-is_empty
returns-then-is_empty c = λ parts more shows behind. names_none c.args.root parts more c.args.out.now.items c.args.names.now shows behind (let empty : (length c.args.names.now == 0) ≡ true = cc in eqb-true _ _ empty)

pub returns : goal.returns
returns c = λ parts more shows behind.
    let is_some : (length c.args.names.now == 0) ≡ false = cc in
    let unlike = eqb-false (length c.args.names.now) 0 is_some in
    let some : 0 < length c.args.names.now = omega arith in
    elim c.if-len-root.branch [
      | then-len-root+in_ok-push w ↦
          rw (c.in_ok-extend_from_slice.ensures.items, w.out-is, w.in_ok-push.ensures.items)
          (names_behind c.args.root parts more c.args.out.now.items c.args.names.now shows behind (omega arith) some)
      | else-len-root w ↦
          rw (c.in_ok-extend_from_slice.ensures.items, w.out-is)
          (names_first c.args.root parts more c.args.out.now.items c.args.names.now shows behind (omega arith))
    ]
