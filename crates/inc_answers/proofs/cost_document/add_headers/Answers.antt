use Rattle.std.proofs.Common.{◌∙◌, ◌<◌, get_or, length, rules, sym}
use Rattle.std.specs.Prelude.{codes, flat_map}
use Rattle.std.proofs.lemmas.List.{append-nil, get_or_default, take_all}
use Rattle.inc_answers.specs.CostDocument.{header_block}
use Rattle.inc_answers.specs.CostViews.{seen_amounts}
use Rattle.inc_answers.proofs.CostBlocks.{blocks_added, made_below}
use Rattle.inc_answers.proofs.cost_document.add_headers.Goals as goal

pub loop-header-init : goal.loop-header-init
loop-header-init c = c.in_ok-add_line.ensures ∙ sym (append-nil _)

pub loop-header-preserved : goal.loop-header-preserved
loop-header-preserved c =
    let all = c.args.headers.now in
    let i = c.loop-header.header-index in
    blocks_added (header_block c.args.project.now (seen_amounts c.args.brought.now)) all i (get_or all i 0) _ c.loop-header.document c.add_header.new.document c.loop-header-test.true (get_or_default all i 0 (get_or all i 0) c.loop-header-test.true)
    c.in_ok-add_header.ensures c.loop-header.invariant

pub returns : goal.returns
returns c =
    let some : 0 < length c.args.headers.now = search rules in
    made_below (codes "headers, by what comes in through each alone:") c.args.headers.now (flat_map (header_block c.args.project.now (seen_amounts c.args.brought.now)) c.args.headers.now) c.args.document.now c.loop-header.document some
    (rw (take_all c.loop-header.header-index c.args.headers.now c.loop-header-test.false) at c.loop-header.invariant)
