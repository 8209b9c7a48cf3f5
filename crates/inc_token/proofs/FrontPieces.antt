-- The piece at the front of a text by its first byte, as the proofs read the scanner.
use Rattle.std.specs.Prelude.{ℕ, ◌+◌, ◌==◌, ◌&&◌, ◌||◌, false, List, [], ◌∷◌, Option, Some, None, if◌then◌else◌, nat_lt}
use Rattle.inc_text.specs.Ascii.{apostrophe, asterisk, line_feed, quotation_mark, slash}
use Rattle.inc_token.specs.declared.kinds.Kind.TheVariants.{HeaderName, Identifier, Number, Char, Str, Punct}
use Rattle.inc_token.specs.declared.pieces.Piece.{Piece}
use Rattle.inc_token.specs.declared.pieces.Piece.TheVariants.{Blank, NewLine, Lexeme, Unclosed}
use Rattle.inc_token.specs.declared.pieces.Progress.{Progress}
use Rattle.inc_token.specs.declared.pieces.Progress.TheVariants.{AfterInclude}
use Rattle.inc_token.specs.TokenLines.{block_comment, line_comment}
use Rattle.inc_token.specs.Spellings.{begins_nondigit, is_blank, is_letter, identifier_part, number_part, begins_number}
use Rattle.inc_token.specs.Scanning.{begins_with_byte, closed_at, header_name_len, is_wide, lexeme_or_other, literal_or_lone, punctuator_len, quoted_len, row_len, wide_lone_len, wide_str_len, wide_token}
pub use Rattle.inc_token.specs.Scanning.{line_len}
use Rattle.inc_text.specs.declared.languages.Language.{Language}

-- what a comment is of which n bytes are known, by the length of the rest
abbrev pub comment_of : ℕ → Option ℕ → Piece
comment_of n None = Unclosed
comment_of n (Some rest) = Blank (n + rest)

-- the token at the front of a text that begins with no white space and no LF, by its first byte
abbrev pub first_token : Language → List ℕ → Piece
first_token language [] = NewLine
first_token language (b ∷ bs) =
    let word = row_len (identifier_part language) 0 (b ∷ bs) in
    if begins_number (b ∷ bs) then Lexeme Number (row_len (number_part language) 0 (b ∷ bs)) else
    if is_wide b then wide_token (quoted_len apostrophe 1 bs) (wide_str_len b bs) (wide_lone_len language (b ∷ bs)) word else
    if is_letter b || begins_nondigit language b then lexeme_or_other Identifier word else
    if b == quotation_mark then literal_or_lone language Str (closed_at quotation_mark false 1 bs) (b ∷ bs) else
    if b == apostrophe then literal_or_lone language Char (closed_at apostrophe false 1 bs) (b ∷ bs) else lexeme_or_other Punct (punctuator_len (b ∷ bs))

-- the same, where a header name may count
abbrev pub token_by : Language → Progress → List ℕ → Piece
token_by language AfterInclude text = if nat_lt 0 (header_name_len text) then Lexeme HeaderName (header_name_len text) else first_token language text
token_by language _ text = first_token language text

-- what is at the front, by the first two bytes
abbrev pub piece_by : Language → Progress → List ℕ → Piece
piece_by language progress [] = NewLine
piece_by language progress (b ∷ bs) =
    if is_blank b then Blank 1 else
    if b == line_feed then NewLine else
    if (b == slash) && begins_with_byte asterisk bs then block_comment (b ∷ bs) else
    if (b == slash) && begins_with_byte slash bs then line_comment (b ∷ bs) else token_by language progress (b ∷ bs)
