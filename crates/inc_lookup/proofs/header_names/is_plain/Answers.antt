use Rattle.std.proofs.Common.{◌+◌, take, drop, sym, ◌∙◌}
use Rattle.std.proofs.lemmas.List.{take_rest}
use Rattle.inc_lookup.proofs.PathLemmas.{cut_first, cut_none, cut_taken}
use Rattle.inc_lookup.proofs.ReducedLemmas.{plain_not, plain_more, plain_last}
use Rattle.inc_lookup.proofs.header_names.is_plain.Goals as goal

pub is_kept-requires : goal.is_kept-requires
is_kept-requires c =
    let cut = cut_first c.args.name.now c.loop-slash.at c.in-Some.slash (rw take_rest at c.in-Some.ensures) in
    rw (cut_taken c.loop-slash.at c.in-Some.slash) cut.1

pub returns-then-not-is_kept : goal.returns-then-not-is_kept
returns-then-not-is_kept c =
    let name = c.args.name.now in
    let at = c.loop-slash.at in
    let slash = c.in-Some.slash in
    let cut = cut_first name at slash (rw take_rest at c.in-Some.ensures) in
    let out = rw (cut_taken at slash) at c.is_kept.ensures in
    sym (c.loop-slash.invariant.same ∙ plain_not (drop at name) (take slash (drop at name)) (drop (at + (slash + 1)) name) cut.0 cut.1 (sym out ∙ c.if-not-is_kept.true))

pub loop-slash-preserved : goal.loop-slash-preserved
loop-slash-preserved c =
    let name = c.args.name.now in
    let at = c.loop-slash.at in
    let slash = c.in-Some.slash in
    let cut = cut_first name at slash (rw take_rest at c.in-Some.ensures) in
    let stays = rw (cut_taken at slash) at c.is_kept.ensures in
    record {
      within = cut.2;
      same = c.loop-slash.invariant.same ∙ plain_more (drop at name) (take slash (drop at name)) (drop (at + (slash + 1)) name) cut.0 cut.1 (sym stays ∙ c.if-not-is_kept.false);
    }

pub is_kept-requires-2 : goal.is_kept-requires-2
is_kept-requires-2 c = rw take_rest (cut_none c.args.name.now c.loop-slash.at (rw take_rest at c.in_default.ensures))

pub returns : goal.returns
returns c =
    let name = c.args.name.now in
    let at = c.loop-slash.at in
    let bare = cut_none name at (rw take_rest at c.in_default.ensures) in
    let last = rw take_rest at c.is_kept-2.ensures in
    last ∙ plain_last (drop at name) bare ∙ sym c.loop-slash.invariant.same
