use Rattle.std.proofs.Common.{◌∙◌}
use Rattle.inc_token.proofs.Skipping.{plain_end, plain_until, over_at_end, over_at_line_feed}
use Rattle.inc_token.proofs.pieces.skipping.skip_line.Goals as goal
use Rattle.inc_token.proofs.pieces.skipping.skip_line.Goals.{else-end-text-via-then-end-text+else-text-end-ne10, else-end-text-via-else-end-text}

pub skip_line_parts-requires : goal.skip_line_parts-requires
skip_line_parts-requires c = plain_end c.args.text.now c.args.at c.skip_plain-end.result c.requires c.skip_plain-end.ensures

pub returns-then-text-end-ne10 : goal.returns-then-text-end-ne10
returns-then-text-end-ne10 c = c.skip_line_parts.ensures ∙ plain_until c.args.language c.args.text.now c.args.at c.skip_plain-end.result c.requires c.skip_plain-end.ensures

pub returns : goal.returns
returns c =
    let text = c.args.text.now in
    let end = c.skip_plain-end.result in
    let before = plain_until c.args.language text c.args.at end c.requires c.skip_plain-end.ensures in
    elim c.else-end-text.branch [
      | else-end-text-via-then-end-text+else-text-end-ne10 w ↦ over_at_line_feed c.args.language text end w.if-end-text.true w.if-text-end-ne10.false ∙ before
      | else-end-text-via-else-end-text w ↦ over_at_end c.args.language text end w.if-end-text.false ∙ before
    ]
