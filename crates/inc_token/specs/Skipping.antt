-- A line of which no token is wanted: how far it goes, when only comments and literals are told from other bytes. A token
-- begins no comment and holds no LF, so that this is where the line ends that `lines_from` gives.
use Rattle.std.specs.Prelude.{ℕ, zero, suc, ◌+◌, ◌-◌, ◌==◌, ◌&&◌, ◌||◌, not, Bool, false, List, [], ◌∷◌, if◌then◌else◌, nat_lt}
use Rattle.inc_text.specs.Ascii.{apostrophe, asterisk, line_feed, quotation_mark, slash}
use Rattle.inc_token.specs.declared.pieces.Piece.{Piece}
use Rattle.inc_token.specs.declared.pieces.Piece.TheVariants.{Blank}
use Rattle.inc_token.specs.declared.pieces.skipping.Skipped.{Skipped}
use Rattle.inc_token.specs.declared.pieces.skipping.Skipped.TheVariants.{ToLineEnd, ToOpenComment}
use Rattle.inc_token.specs.TokenLines.{block_comment, line_comment}
use Rattle.inc_token.specs.Scanning.{closed_at, begins_with_byte, lone_len}
use Rattle.inc_text.specs.declared.languages.Language.{Language}

-- LF, ", ' and /: the bytes that may end the line or begin a literal or a comment
abbrev pub is_stop : ℕ → Bool
is_stop b = (b == line_feed) || (b == quotation_mark) || (b == apostrophe) || (b == slash)

-- another byte
abbrev pub is_plain : ℕ → Bool
is_plain b = not (is_stop b)

-- the length of a literal, or what its quote takes where it does not close
abbrev pub literal_or_rest : Language → ℕ → List ℕ → ℕ
literal_or_rest language n text = if nat_lt 0 n then n else lone_len language text

-- the length of a comment, 0 where it is not closed
abbrev pub comment_len : Piece → ℕ
comment_len (Blank n) = n
comment_len _ = 0

-- the length of the literal, the comment or else the byte at the front, 0 where a comment is not closed
abbrev pub skipped_len : Language → List ℕ → ℕ
skipped_len language [] = 0
skipped_len language (b ∷ bs) =
    if (b == quotation_mark) || (b == apostrophe) then literal_or_rest language (closed_at b false 1 bs) (b ∷ bs) else
    if (b == slash) && begins_with_byte asterisk bs then comment_len (block_comment (b ∷ bs)) else
    if (b == slash) && begins_with_byte slash bs then comment_len (line_comment (b ∷ bs)) else 1

-- so many bytes further
abbrev pub further : ℕ → Skipped → Skipped
further n (ToLineEnd at) = ToLineEnd (n + at)
further n (ToOpenComment at) = ToOpenComment (n + at)

-- after the first of so many bytes, of which there is none where a comment is not closed
abbrev pub skip_part : ℕ → Skipped → Skipped
skip_part zero rest = ToOpenComment 0
skip_part (suc n) rest = further 1 rest

-- how many bytes are before the LF that ends the line, the end of the text, or an unterminated comment; `left`:
-- bytes of a literal or a comment that began before
abbrev pub line_rest : Language → ℕ → List ℕ → Skipped
line_rest language left [] = ToLineEnd 0
line_rest language (suc left) (b ∷ bs) = further 1 (line_rest language left bs)
line_rest language zero (b ∷ bs) =
    let n = skipped_len language (b ∷ bs) in
    if b == line_feed then ToLineEnd 0 else skip_part n (line_rest language (n - 1) bs)
