-- How a text keeps where its bytes come from: origins where a byte is not the plain continuation of the byte before,
-- and the places at which physical lines begin. A place is that of a byte in the text, from 0.
use Rattle.std.specs.Prelude.{ℕ, Some, option_map, slice_get, ◌+◌, ◌-◌, ◌≤◌, ◌<◌, ◌≡◌, ◌==◌, ◌&&◌, ◌*◌, ◌++◌, Bool, not, count_by, List, [], ◌∷◌, if◌then◌else◌, length, nat_le, nat_lt, slice_index, take, drop}
use Rattle.std.specs.List.{prefix_len, All, AllWithin, HoldsAt}
use Rattle.std.specs.List.Sorted.{IsNonDecreasingBy}
use Rattle.inc_text.specs.Ascii.{backslash, carriage_return, line_feed, question_mark}
use Rattle.inc_text.specs.declared.cursors.Tally.{Tally}
use Rattle.inc_text.specs.declared.cursors.Level.{Level}
use Rattle.inc_text.specs.declared.origins.Origin.{Origin}
use Rattle.inc_text.specs.declared.source_pieces.SourcePiece.{SourcePiece}
use Rattle.inc_text.specs.declared.source_pieces.SourcePiece.TheVariants.{Byte, Splice}
use Rattle.inc_text.specs.PhaseText.{Cell, cells_from, is_passed, longest_text, one_more, range_and_line, spliced, trigraph, with_new_lines, with_trigraphs, without_mark}
use Rattle.inc_text.specs.declared.devices.TheConstants.{LONGEST_FILE}
use Rattle.memchr.specs.Find.{is_byte3}
use Rattle.inc_text.specs.declared.languages.Language.{Language}

-- what holds before the first origin: each byte stands for itself
abbrev pub plain : Origin
plain = record { at = 0; ahead = 1; width = 1 }

-- the last of the leading origins that are at or before a place
abbrev pub origin_from : Origin → List Origin → ℕ → Origin
origin_from origin [] place = origin
origin_from origin (next ∷ rest) place = if nat_le next.at place then origin_from next rest place else origin

-- the last origin
abbrev pub last_from : Origin → List Origin → Origin
last_from origin [] = origin
last_from origin (next ∷ rest) = last_from next rest

-- how many source bytes the byte at a place stands for
abbrev pub width_at : Origin → ℕ → ℕ
width_at origin place = if place == origin.at then origin.width else 1

-- how many splices are at or before a place
abbrev pub splices_upto : List ℕ → ℕ → ℕ
splices_upto splices place = prefix_len (λ splice. nat_le splice place) splices

-- the byte at a place, before which so many LFs are
abbrev pub cell_at : List Origin → List ℕ → ℕ → ℕ → ℕ → Cell
cell_at origins splices lines place byte = record {
  byte = byte;
  first = (place + (origin_from plain origins place).ahead) - width_at (origin_from plain origins place) place;
  last = place + (origin_from plain origins place).ahead;
  line = 1 + (lines + splices_upto splices place);
}

-- the bytes from a place on, before which so many LFs are
abbrev pub cells_at : List Origin → List ℕ → ℕ → ℕ → List ℕ → List Cell
cells_at origins splices lines place [] = []
cells_at origins splices lines place (b ∷ bs) =
    cell_at origins splices lines place b ∷ cells_at origins splices ((if b == line_feed then 1 else 0) + lines) (place + 1) bs

-- an origin whose ranges are numbers of 32 bits
pub record Fits (origin : Origin) : Type 0 where
  pub ahead : origin.ahead ≤ LONGEST_FILE + 1
  pub width : origin.width ≤ origin.at + origin.ahead
  pub before : 0 < origin.at + origin.ahead

-- origins and places of splices that a binary search may read
pub record InOrder (origins : List Origin) (splices : List ℕ) : Type 0 where
  pub origins_rise : IsNonDecreasingBy (λ (m : Origin). m.at) origins
  pub splices_rise : IsNonDecreasingBy (λ (s : ℕ). s) splices
  pub fits : All Fits origins

-- the parts of a text
pub record IsMapped (origins : List Origin) (splices bytes : List ℕ) : Type 0 where
  pub order : InOrder origins splices
  pub short : length bytes ≤ longest_text
  pub few : count_by (λ b. b == line_feed) bytes + length splices ≤ LONGEST_FILE + 1

-- how many LFs are before each block of 4,096 bytes, up to the one after the last whole one
pub record AreCounts (bytes counts : List ℕ) : Type 0 where
  pub reach : length bytes < length counts * 512
  pub each : (k : ℕ) → k < length counts → slice_index counts k ≡ count_by (λ b. b == line_feed) (take (k * 512) bytes)

-- what a text keeps
pub record TextKeeps (origins : List Origin) (splices counts bytes : List ℕ) : Type 0 where
  pub parts : IsMapped origins splices bytes
  pub counted : AreCounts bytes counts

-- the first k of some items are those that are at or before a place
pub record Passed {X : Type 0} (at : X → ℕ) (place : ℕ) (items : List X) (k : ℕ) : Type 0 where
  pub bound : k ≤ length items
  pub before : AllWithin (λ (x : X). at x ≤ place) items 0 k
  pub after : k < length items → HoldsAt (λ (x : X). place < at x) items k

-- the first k of some items are at or before a place
pub record Behind {X : Type 0} (at : X → ℕ) (place : ℕ) (items : List X) (k : ℕ) : Type 0 where
  pub bound : k ≤ length items
  pub before : AllWithin (λ (x : X). at x ≤ place) items 0 k

-- what is at or before a place of a text, and how many LFs before it
pub record AreBefore (origins : List Origin) (splices bytes : List ℕ) (at : ℕ) (before : Tally) : Type 0 where
  pub origins_passed : Passed (λ (m : Origin). m.at) at origins before.origins
  pub splices_passed : Passed (λ (s : ℕ). s) at splices before.splices
  pub line_feeds : before.line_feeds ≡ count_by (λ b. b == line_feed) (take at bytes)

-- the places of a stretch stand for one byte of the source each, on one line
pub record IsLevel (origins : List Origin) (splices bytes : List ℕ) (level : Level) : Type 0 where
  -- the stretch ends with the text at most
  pub within : level.to ≤ length bytes
  -- so many LFs are before its end
  pub line_feeds : level.line_feeds ≡ count_by (λ b. b == line_feed) (take level.to bytes)
  -- the source is at most so far ahead of the text
  pub ahead : level.ahead ≤ LONGEST_FILE + 1
  -- and each place of the stretch has one before it
  pub some : (at : ℕ) → level.from ≤ at → at < level.to → 1 ≤ at + level.ahead
  -- the byte of the source and its line are by that distance
  pub each : (at : ℕ) → level.from ≤ at → at < level.to
      → option_map {U = ℕ × ℕ × ℕ} range_and_line (slice_get (cells_at origins splices 0 0 bytes) at) ≡ Some (at + level.ahead - 1, at + level.ahead, level.line)

-- what a cursor keeps: a stretch, and what is before its end
pub record CursorKeeps (origins : List Origin) (splices counts bytes : List ℕ)
    (origins_passed splices_passed : ℕ) (level : Level) : Type 0 where
  pub parts : IsMapped origins splices bytes
  pub counted : AreCounts bytes counts
  pub origins_behind : Behind (λ (m : Origin). m.at) level.to origins origins_passed
  pub splices_behind : Behind (λ (s : ℕ). s) level.to splices splices_passed
  pub stretch : IsLevel origins splices bytes level

-- how many bytes a new-line at the front of a source has; 0 where there is none
abbrev pub new_line_len : List ℕ → ℕ
new_line_len bs = if slice_index bs 0 == line_feed then 1 else if (slice_index bs 0 == carriage_return) && (slice_index bs 1 == line_feed) then 2 else 0

-- what a trigraph at the front of a source is replaced by; 0 where there is none
abbrev pub trigraph_of : Language → List ℕ → ℕ
trigraph_of language bs = if (slice_index bs 0 == question_mark) && (slice_index bs 1 == question_mark) then trigraph language (slice_index bs 2) else 0

-- the byte that a source begins with after phase 1, and how many bytes of the source it stands for
abbrev pub front_byte : Language → List ℕ → ℕ
front_byte language bs = if nat_lt 0 (new_line_len bs) then 10 else if nat_lt 0 (trigraph_of language bs) then trigraph_of language bs else slice_index bs 0

abbrev pub front_width : Language → List ℕ → ℕ
front_width language bs = if nat_lt 0 (new_line_len bs) then new_line_len bs else if nat_lt 0 (trigraph_of language bs) then 3 else 1

-- how many bytes a new-line at the front of a source has with white space before it that may be in a splice; 0 where none is there
abbrev pub end_len : Language → List ℕ → ℕ
end_len language [] = 0
end_len language (b ∷ bs) =
    if nat_lt 0 (new_line_len (b ∷ bs)) then new_line_len (b ∷ bs) else if is_passed language b then one_more (end_len language bs) else 0

-- whether a source begins with a `\` and a new-line
abbrev pub begins_splice : Language → List ℕ → Bool
begins_splice language bs = (front_byte language bs == backslash) && nat_lt 0 (end_len language (drop (front_width language bs) bs))

-- what a source goes on with
abbrev pub piece_of : Language → List ℕ → SourcePiece
piece_of language bs =
    if begins_splice language bs then Splice (front_width language bs + end_len language (drop (front_width language bs) bs))
    else Byte (front_byte language bs) (front_width language bs)

-- origins of a text of n bytes, whose next byte stands for the source bytes from `at` on
pub record OriginsTo (origins : List Origin) (n at : ℕ) : Type 0 where
  pub rise : IsNonDecreasingBy (λ (m : Origin). m.at) origins
  pub fits : All Fits origins
  pub within : All (λ (m : Origin). m.at ≤ n) origins
  pub ahead : at + 1 ≡ n + (last_from plain origins).ahead
  pub fresh : (last_from plain origins).at ≡ n → (last_from plain origins).width ≡ 1

-- splices of a text of n bytes
pub record SplicesTo (splices : List ℕ) (n : ℕ) : Type 0 where
  pub rise : IsNonDecreasingBy (λ (s : ℕ). s) splices
  pub within : All (λ (s : ℕ). s ≤ n) splices

-- the text after phase 2 of a source whose first byte is byte `at` of a file, on a line
abbrev pub text_from : Language → ℕ → ℕ → List ℕ → List Cell
text_from language at line source = spliced language (with_trigraphs language (with_new_lines (cells_from at line source)))

-- the text of a source before a new-line is added at its end
abbrev pub open_text : Language → List ℕ → List Cell
open_text language source = spliced language (with_trigraphs language (with_new_lines (without_mark (cells_from 0 1 source))))

-- what is known of the parts of a text once its source is read up to place `at`
pub record ReadTo (language : Language) (source : List ℕ) (origins : List Origin) (splices bytes : List ℕ) (at : ℕ) : Type 0 where
  pub origins_to : OriginsTo origins (length bytes) at
  pub splices_to : SplicesTo splices (length bytes)
  pub text : cells_at origins splices 0 0 bytes ++ text_from language at (1 + (count_by (λ b. b == line_feed) bytes + length splices)) (drop at source)
      ≡ open_text language source
  pub lines : count_by (λ b. b == line_feed) bytes + length splices + count_by (λ b. b == line_feed) (drop at source)
      ≡ count_by (λ b. b == line_feed) source
  pub fewer : length bytes ≤ at
  pub bound : at ≤ length source
  pub short : length source ≤ LONGEST_FILE

-- what is known where a source becomes its text in its own memory: of its room the first `len` bytes are the text of what is read, up to
-- place `at`, and those from there on are the source's
pub record IsSpliced (language : Language) (source : List ℕ) (origins : List Origin) (splices room : List ℕ) (len at : ℕ) : Type 0 where
  -- the text of what is read
  pub read : ReadTo language source origins splices (take len room) at
  -- the bytes of the source that are not read yet
  pub rest : drop at room ≡ drop at source
  -- the room is that of the source
  pub size : length room ≡ length source
  -- the text ends before them
  pub order : len ≤ at

-- the origins once a byte for `width` source bytes, from place `at` of the source on, is added to a text of n bytes
abbrev pub origins_with : List Origin → ℕ → ℕ → ℕ → List Origin
origins_with origins n at width =
    if width == 1 then origins else origins ++ record { at = n; ahead = (at + width) - n; width = width } ∷ []

-- the origins once `width` source bytes from place `at` on are passed over
abbrev pub origins_past : List Origin → ℕ → ℕ → ℕ → List Origin
origins_past origins n at width = origins ++ record { at = n; ahead = (at + width + 1) - n; width = 1 } ∷ []

-- whether some bytes end in another than LF
abbrev pub ends_open : List ℕ → Bool
ends_open bs = nat_lt 0 (length bs) && not (slice_index bs (length bs - 1) == line_feed)

-- a byte that may begin a new-line of two bytes, a trigraph or a splice
abbrev pub is_special : ℕ → Bool
is_special b = is_byte3 13 63 92 b

abbrev pub is_plain : ℕ → Bool
is_plain b = not (is_special b)

-- how many source bytes a piece has
abbrev pub width_of : SourcePiece → ℕ
width_of (Byte b w) = w
width_of (Splice w) = w

-- how many bytes the byte order mark EF BB BF at the front of a source has
abbrev pub mark_len : List ℕ → ℕ
mark_len bs = if (slice_index bs 0 == 0xef) && (slice_index bs 1 == 0xbb) && (slice_index bs 2 == 0xbf) then 3 else 0
