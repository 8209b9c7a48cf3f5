use Rattle.std.proofs.Common.{◌∙◌, ap, arith, rules, length}
use Rattle.inc_token.specs.WholePieces.{class_of_whole}
use Rattle.inc_token.proofs.WholeTokens.{no_byte, blank_first, bare_first}
use Rattle.inc_token.proofs.classes.kind_of.Goals as goal
use Rattle.inc_token.proofs.classes.kind_of.Goals.{then-is_empty-via-then-is_empty, then-is_empty-via-else-is_empty+then-skip_blanks-gt0}

pub returns-then-is_empty : goal.returns-then-is_empty
returns-then-is_empty c =
    elim c.then-is_empty.branch [
      | then-is_empty-via-then-is_empty w ↦ no_byte c.args.language c.args.bytes.now (search rules)
      | then-is_empty-via-else-is_empty+then-skip_blanks-gt0 w ↦ blank_first c.args.language c.args.bytes.now (omega (arith, w.skip_blanks.ensures))
    ]

pub returns : goal.returns
returns c =
    c.class_of_whole.ensures
    ∙ ap (λ p. class_of_whole p (length c.args.bytes.now)) c.piece_at.ensures
    ∙ bare_first c.args.language c.args.bytes.now (search rules) (omega (arith, c.skip_blanks.ensures))
