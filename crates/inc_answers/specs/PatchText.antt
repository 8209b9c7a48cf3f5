-- The text that `cut --patch` prints: a unified diff, as `diff -u` makes it and `patch` and `git apply` take it, of the files that hold a
-- directive of the cut. A line on which nothing but white space is left is deleted, and another one that changes is replaced.
use Rattle.std.specs.Prelude.{ℕ, ◌+◌, ◌-◌, ◌/◌, ◌%◌, ◌==◌, ◌&&◌, ◌||◌, not, Bool, false, List, [], ◌∷◌, ◌++◌, if◌then◌else◌, length, take, flat_map, nat_le, nat_lt, bytes_eq, codes, decimal}
use Rattle.std.specs.List.{list_all, list_any}
use Rattle.inc_text.specs.Ascii.{alert, backslash, backspace, blank, carriage_return, digit_zero, form_feed, line_feed, minus, plus, quotation_mark, small_a, small_b, small_f, small_n, small_r, small_t, small_v, tab, tilde, vertical_tab}
use Rattle.inc_check.specs.Texts.{line_text}
use Rattle.inc_answers.specs.Changes.{Change}
use Rattle.inc_answers.specs.declared.patch.Place.{Place}

---- lines

-- a byte that does not end its line
abbrev pub goes_on : ℕ → Bool
goes_on b = not (b == line_feed)

-- a byte before the first of these lines
abbrev pub before_lines : ℕ → List (List ℕ) → List (List ℕ)
before_lines b [] = (b ∷ []) ∷ []
before_lines b (l ∷ ls) = (b ∷ l) ∷ ls

-- the lines of a text, each with its LF; the last may have none
abbrev pub lines_of : List ℕ → List (List ℕ)
lines_of [] = []
lines_of (b ∷ bs) = if b == line_feed then (b ∷ []) ∷ lines_of bs else before_lines b (lines_of bs)

-- a line of a file, before and after a change that keeps the number of lines
pub record Row : Type 0 where
  pub before : List ℕ
  pub after : List ℕ

abbrev pub rows_of : (befores afters : List (List ℕ)) → List Row
rows_of [] afters = []
rows_of (b ∷ bs) [] = []
rows_of (b ∷ bs) (a ∷ as') = record { before = b; after = a } ∷ rows_of bs as'

abbrev pub rows : Change → List Row
rows c = rows_of (lines_of c.before) (lines_of c.after)

abbrev pub is_changed : Row → Bool
is_changed r = not (bytes_eq r.before r.after)

abbrev pub is_white : ℕ → Bool
is_white b = (b == blank) || (nat_le tab b && nat_le b carriage_return)

-- nothing but white space is left of it
abbrev pub is_deleted : Row → Bool
is_deleted r = is_changed r && list_all is_white r.after

---- hunks

-- so many lines stand before and after a change
abbrev pub context : ℕ
context = 3

-- the next line is one of a hunk: few lines lie between it and a change
abbrev pub is_near : (since : ℕ) → List Row → Bool
is_near since [] = false
is_near since (r ∷ rs) = nat_lt since context || list_any is_changed (take (context + 1) (r ∷ rs))

abbrev pub since_after : (since : ℕ) → Row → ℕ
since_after since r = if is_changed r then 0 else since + 1

-- the lines of a hunk that begins with the next one
abbrev pub hunk_of : (since : ℕ) → List Row → List Row
hunk_of since [] = []
hunk_of since (r ∷ rs) = if is_near since (r ∷ rs) then r ∷ hunk_of (since_after since r) rs else []

-- how many lines it has after the change
abbrev pub count_left : List Row → ℕ
count_left [] = 0
count_left (r ∷ rs) = if is_deleted r then count_left rs else count_left rs + 1

-- the first line and how many there are; of none the line before
abbrev pub range_text : (line count : ℕ) → List ℕ
range_text line count =
    if count == 1 then decimal line else (decimal (if count == 0 then line - 1 else line) ++ codes "," ++ decimal count)

abbrev pub head_text : Place → List Row → List ℕ
head_text p hunk =
    line_text (codes "@@ -" ++ range_text p.old (length hunk) ++ codes " +" ++ range_text p.new (count_left hunk) ++ codes " @@")

-- a line with what is done with it before, and that it has no LF, where it has none
abbrev pub marked_line : (mark : ℕ) → List ℕ → List ℕ
marked_line mark l =
    mark ∷ l ++ (if list_all goes_on l then line_feed ∷ line_text (codes "\\ No newline at end of file") else [])

abbrev pub row_text : Row → List ℕ
row_text r =
    if is_changed r then marked_line minus r.before ++ (if is_deleted r then [] else marked_line plus r.after)
    else marked_line blank r.before

abbrev pub place_after : Place → Row → (near : Bool) → Place
place_after p r near =
    record { old = p.old + 1; new = if is_deleted r then p.new else p.new + 1; since = since_after p.since r; is_open = near }

-- the hunks from a line on
abbrev pub hunks_from : Place → List Row → List ℕ
hunks_from p [] = []
hunks_from p (r ∷ rs) =
    let near : Bool = is_near p.since (r ∷ rs) in
    (if near && not p.is_open then head_text p (hunk_of p.since (r ∷ rs)) else [])
    ++ (if near then row_text r else []) ++ hunks_from (place_after p r near) rs

-- at the first line, with no change before it
abbrev pub first_place : Place
first_place = record { old = 1; new = 1; since = context; is_open = false }

---- names of files

-- what stands for a byte in quotes, after a backslash
abbrev pub escape_letter : ℕ → ℕ
escape_letter b =
    if b == alert then small_a else if b == backspace then small_b else if b == tab then small_t else if b == line_feed then small_n
    else if b == vertical_tab then small_v else if b == form_feed then small_f else if b == carriage_return then small_r else b

-- `"`, `\`, control bytes and those over 126
abbrev pub is_special : ℕ → Bool
is_special b = nat_lt b blank || nat_lt tilde b || (b == quotation_mark) || (b == backslash)

-- three octal digits
abbrev pub octal : ℕ → List ℕ
octal b = (digit_zero + b / 64) ∷ (digit_zero + b / 8 % 8) ∷ (digit_zero + b % 8) ∷ []

-- one character stands for the byte in quotes
abbrev pub has_letter : ℕ → Bool
has_letter b = (nat_le alert b && nat_le b carriage_return) || (b == quotation_mark) || (b == backslash)

-- a byte as git writes it in quotes
abbrev pub quoted_byte : ℕ → List ℕ
quoted_byte b =
    if is_special b then backslash ∷ (if has_letter b then escape_letter b ∷ [] else octal b) else b ∷ []

-- a name as git writes it: in quotes where the path has special bytes, and with a TAB after it where it has a space
abbrev pub name_text : (prefix path : List ℕ) → List ℕ
name_text prefix path =
    (if list_any is_special path then quotation_mark ∷ prefix ++ flat_map quoted_byte path ++ quotation_mark ∷ [] else prefix ++ path)
    ++ (if list_any (λ b. b == blank) path then tab ∷ [] else [])

---- the whole text

-- the diff of a file
abbrev pub file_diff : Change → List ℕ
file_diff c =
    line_text (codes "--- " ++ name_text (codes "a/") c.path) ++ line_text (codes "+++ " ++ name_text (codes "b/") c.path)
    ++ hunks_from first_place (rows c)

abbrev pub patch_text : List Change → List ℕ
patch_text cs = flat_map file_diff cs
