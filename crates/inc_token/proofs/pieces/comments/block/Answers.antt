use Rattle.std.proofs.Common.{◌≡◌, ℕ, List, ◌+◌, drop, ap, sym, ◌∙◌, arith}
use Rattle.std.proofs.lemmas.List.{take_rest, drop-drop}
use Rattle.inc_token.proofs.FrontPieces.{comment_of}
use Rattle.inc_token.specs.TokenLines.{comment_rest, block_comment}
use Rattle.inc_token.specs.declared.pieces.Piece.TheVariants.{Blank}
use Rattle.inc_token.proofs.Comments.{block_comment-is}
use Rattle.inc_token.proofs.Searches.{comment_found, comment_missed}
use Rattle.inc_token.proofs.pieces.comments.block.Goals as goal

-- what is after the /*
behind : (text : List ℕ) (at : ℕ) → comment_of 2 (comment_rest (drop (at + 2) text)) ≡ block_comment (drop at text)
behind text at = ap (λ xs. comment_of 2 (comment_rest xs)) (sym (drop-drop 2 at text)) ∙ sym (block_comment-is (drop at text))

pub returns-in-Some : goal.returns-in-Some
returns-in-Some c =
    let k = c.in-Some.inside in
    let count : k + 4 ≡ 2 + k + 2 = omega arith in
    ap Blank count ∙ sym (comment_found 2 k (drop (c.args.at + 2) c.args.text.now) (rw take_rest at c.in-Some.ensures)) ∙ behind c.args.text.now c.args.at

pub returns-in-None : goal.returns-in-None
returns-in-None c = sym (comment_missed 2 (drop (c.args.at + 2) c.args.text.now) (rw take_rest at c.in-None.ensures)) ∙ behind c.args.text.now c.args.at
