-- Globs: patterns of paths, as in .gitignore files. A piece of a pattern is * for any bytes of a name, ** for any bytes, **/ where a
-- component begins for any directories or none, ? for a byte of a name, [..] for one of the bytes in it or, after ! or ^, for one that is
-- not in it, and any other byte for itself. No byte of a name is a /.
use Rattle.std.specs.Prelude.{ℕ, zero, suc, ◌+◌, ◌-◌, ◌==◌, ◌&&◌, ◌||◌, not, Bool, true, false, List, [], ◌∷◌, Option, Some, None, if◌then◌else◌, take, nat_eq, nat_le, option_map, option_and_then, codes}
use Rattle.std.specs.List.{starts_with}
use Rattle.inc_text.specs.Ascii.{asterisk, caret, close_bracket, exclamation_mark, minus, open_bracket, question_mark, slash}

pub data Piece : Type 0 where
  Byte : ℕ → Piece
  -- ?
  Any : Piece
  -- the bytes between [ and ], and whether the piece is for the others
  Class : (negated : Bool) → List ℕ → Piece
  -- *
  Name : Piece
  -- **
  Path : Piece
  -- **/
  Directories : Piece

---- what a piece stands for

-- the byte is one of a class, which has bytes and ranges of them, as a-z
abbrev pub is_in : List ℕ → ℕ → Bool
is_in [] b = false
is_in (low ∷ dash ∷ high ∷ more) b =
    if dash == minus then (nat_le low b && nat_le b high) || is_in more b else (low == b) || is_in (dash ∷ high ∷ more) b
is_in (x ∷ more) b = (x == b) || is_in more b

abbrev pub is_other : Bool → Bool → Bool
is_other negated listed = if negated then not listed else listed

-- the piece stands for the byte
abbrev pub stands_for : Piece → ℕ → Bool
stands_for (Byte x) b = x == b
stands_for Any b = not (b == slash)
stands_for (Class negated members) b = not (b == slash) && is_other negated (is_in members b)
stands_for Name b = not (b == slash)
stands_for Path b = true
stands_for Directories b = true

-- the rest fits behind some bytes that the piece stands for, perhaps none
abbrev pub many : Piece → (rest : List ℕ → Bool) → List ℕ → Bool
many p rest [] = rest []
many p rest (b ∷ bs) = rest (b ∷ bs) || (stands_for p b && many p rest bs)

-- the rest fits behind some /
abbrev pub below : (rest : List ℕ → Bool) → List ℕ → Bool
below rest [] = false
below rest (b ∷ bs) = ((b == slash) && rest bs) || below rest bs

-- the rest fits behind one byte that the piece stands for
abbrev pub one : Piece → (rest : List ℕ → Bool) → List ℕ → Bool
one p rest [] = false
one p rest (b ∷ bs) = stands_for p b && rest bs

-- the piece and then the rest fit
abbrev pub fits_piece : Piece → (rest : List ℕ → Bool) → List ℕ → Bool
fits_piece Name rest text = many Name rest text
fits_piece Path rest text = many Path rest text
fits_piece Directories rest text = rest text || below rest text
fits_piece p rest text = one p rest text

-- no piece fits the empty text alone
abbrev pub fits : List Piece → List ℕ → Bool
fits [] [] = true
fits [] (b ∷ bs) = false
fits (p ∷ ps) text = fits_piece p (fits ps) text

---- the pieces of a pattern

-- how many bytes are before the first ]
abbrev pub len_to_bracket : List ℕ → Option ℕ
len_to_bracket [] = None
len_to_bracket (b ∷ bs) = if b == close_bracket then Some 0 else option_map (λ n. n + 1) (len_to_bracket bs)

-- how many members a class has, from the first byte after the [ and its mark on: the first may be ]
abbrev pub members_len : List ℕ → Option ℕ
members_len [] = None
members_len (b ∷ bs) = option_map (λ n. n + 1) (len_to_bracket bs)

-- a class by the bytes after its mark, and its length; `before` bytes of it are before these
abbrev pub class_after : (negated : Bool) → (before : ℕ) → List ℕ → Option (Piece × ℕ)
class_after negated before text = option_map (λ n. (Class negated (take n text), before + n + 1)) (members_len text)

-- a class by the bytes after its [, and its length
abbrev pub class_at : List ℕ → Option (Piece × ℕ)
class_at [] = None
class_at (b ∷ bs) = if (b == exclamation_mark) || (b == caret) then class_after true 2 bs else class_after false 1 (b ∷ bs)

-- a piece that begins with *, and its length; `first`: a component begins with it
abbrev pub stars_at : (first : Bool) → List ℕ → Piece × ℕ
stars_at first text =
    if first && starts_with nat_eq text (codes "**/") then (Directories, 3) else
    if starts_with nat_eq text (codes "**") then (Path, 2) else (Name, 1)

-- the piece that a pattern begins with, and its length; a class that does not end is none
abbrev pub piece_at : (first : Bool) → List ℕ → Option (Piece × ℕ)
piece_at first [] = None
piece_at first (b ∷ bs) =
    if b == asterisk then Some (stars_at first (b ∷ bs)) else
    if b == question_mark then Some (Any, 1) else
    if b == open_bracket then class_at bs else Some (Byte b, 1)

-- a component begins after the piece
abbrev pub ends_component : Piece → Bool
ends_component (Byte b) = b == slash
ends_component Directories = true
ends_component p = false

-- the pieces of a pattern of which `left` bytes belong to a piece before; none where a class does not end
abbrev pub pieces_from : (left : ℕ) → (first : Bool) → List ℕ → Option (List Piece)
pieces_from left first [] = Some []
pieces_from (suc left) first (b ∷ bs) = pieces_from left first bs
pieces_from zero first (b ∷ bs) =
    option_and_then (λ (x : Piece × ℕ). option_map (λ ps. x.0 ∷ ps) (pieces_from (x.1 - 1) (ends_component x.0) bs)) (piece_at first (b ∷ bs))

abbrev pub pieces : List ℕ → Option (List Piece)
pieces pattern = pieces_from 0 true pattern

-- the pattern has a piece that is not a byte for itself: it may fit more than one path
abbrev pub is_glob : List ℕ → Bool
is_glob [] = false
is_glob (b ∷ bs) = (b == asterisk) || (b == question_mark) || (b == open_bracket) || is_glob bs
