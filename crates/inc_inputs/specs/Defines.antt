-- Lists of definitions, as compilers print them: `#define NAME BODY` or `#define NAME(PARAMETERS) BODY`, one a line. Each stands for a word
-- of the command line, `NAME=BODY` or `NAME(PARAMETERS)=BODY`. A list that describes a compiler has lines `dir PATH`, too, for the
-- directories of its system's headers, and lines `has NAME(ARG) NUMBER` for its answers to questions.
use Rattle.std.specs.Prelude.{◌≡◌, ◌≤◌, ℕ, ◌+◌, ◌==◌, ◌&&◌, ◌||◌, not, Bool, true, false, List, [], ◌∷◌, ◌++◌, Option, Some, None, Result, Ok, Err, if◌then◌else◌, length, take, drop, nat_lt, nat_le, slice_index, codes, bytes_eq, filter_map, option_map}
use Rattle.std.specs.List.{list_any, prefix_len, slice_split}
use Rattle.inc_text.specs.Ascii.{blank, equals, line_feed, open_parenthesis}
use Rattle.inc_text.specs.declared.languages.Language.{Language}
use Rattle.inc_macro.specs.Macros.{is_among, predefined_names}
use Rattle.inc_inputs.specs.Lists.{list_paths, without_return}
use Rattle.inc_inputs.specs.Questions.{answer_in, answer_words, begins_answer, close_len}
use Rattle.inc_inputs.specs.declared.file_lists.PathEnd.TheVariants.{LineFeed}
use Rattle.inc_inputs.specs.declared.defines.Defined.{Defined}

---- a line

-- how long the name is
abbrev pub name_len : List ℕ → ℕ
name_len text = prefix_len (λ b. not (b == blank || b == open_parenthesis)) text

-- how long the parameters are, with their parentheses; one more than the text has where there is no `)`
abbrev pub parameters_len : List ℕ → ℕ
parameters_len text = if slice_index text 0 == open_parenthesis then close_len text + 1 else 0

-- how long the name is with its parameters
abbrev pub head_len : List ℕ → ℕ
head_len text = name_len text + parameters_len (drop (name_len text) text)

-- a body follows, or nothing
abbrev pub begins_body : List ℕ → Bool
begins_body [] = true
begins_body (b ∷ bs) = b == blank

-- so many bytes are a name with its parameters: a `=` would end them in a word
abbrev pub is_head : ℕ → List ℕ → Bool
is_head n text =
    nat_lt 0 (name_len text) && nat_le n (length text) && not (list_any (λ b. b == equals) (take n text)) && begins_body (drop n text)

-- how a line of a list begins
abbrev pub definition_start : List ℕ
definition_start = codes "#define "

abbrev pub begins_definition : List ℕ → Bool
begins_definition line = nat_le 8 (length line) && bytes_eq (take 8 line) definition_start

-- what a line defines, as it is after `#define `
abbrev pub definition_in : List ℕ → Option (List ℕ)
definition_in line =
    if begins_definition line then (if is_head (head_len (drop 8 line)) (drop 8 line) then Some (drop 8 line) else None) else None

---- words

-- the name with its parameters in so many bytes, and the body
abbrev pub word_of : ℕ → List ℕ → List ℕ
word_of n text = take n text ++ equals ∷ drop 1 (drop n text)

-- how long the name of a definition is, without and with its parameters
pub record HasHead (d : Defined) : Type 0 where
  pub name : d.name_len ≡ name_len d.text.now
  pub head : d.head_len ≡ head_len d.text.now
  pub within : d.head_len ≤ length d.text.now

-- the word that stands for a definition; none where its name is predefined
abbrev pub words_for : Language → List ℕ → List (List ℕ)
words_for language text = if is_among (take (name_len text) text) (predefined_names language) then [] else word_of (head_len text) text ∷ []

---- the lines of a list

-- how a line begins that names a directory of the system's headers
abbrev pub dir_start : List ℕ
dir_start = codes "dir "

abbrev pub names_dir : List ℕ → Bool
names_dir line = nat_lt 4 (length line) && bytes_eq (take 4 line) dir_start

-- the directory that it names
abbrev pub dir_in : List ℕ → Option (List ℕ)
dir_in line = if names_dir line then Some (drop 4 line) else None

-- the words of a line: none of one that names a directory, which a list may have that describes a compiler, as one that has an answer
abbrev pub words_in : Language → (is_compiler : Bool) → List ℕ → Option (List (List ℕ))
words_in language is_compiler line =
    if is_compiler && names_dir line then Some []
    else if is_compiler && begins_answer line then option_map (answer_words language) (answer_in line)
    else option_map (words_for language) (definition_in line)

-- the words before those of what follows
abbrev pub with_words : List (List ℕ) → Result (List (List ℕ)) ℕ → Result (List (List ℕ)) ℕ
with_words words (Ok more) = Ok (words ++ more)
with_words words (Err line) = Err line

-- the words of a line and of those after it; a line that a list may not have is named by its number
abbrev pub line_words : ℕ → Option (List (List ℕ)) → Result (List (List ℕ)) ℕ → Result (List (List ℕ)) ℕ
line_words line None more = Err line
line_words line (Some words) more = with_words words more

-- the words of what follows the last LF: of nothing, none
abbrev pub last_words : (words_of : List ℕ → Option (List (List ℕ))) → ℕ → List ℕ → Result (List (List ℕ)) ℕ
last_words words_of line [] = Ok []
last_words words_of line (b ∷ bs) = line_words line (words_of (b ∷ bs)) (Ok [])

-- the words of lines from this number on, of which each but the last is ended
abbrev pub words_from : (words_of : List ℕ → Option (List (List ℕ))) → ℕ → List (List ℕ) → Result (List (List ℕ)) ℕ
words_from words_of line [] = Ok []
words_from words_of line (last ∷ []) = last_words words_of line last
words_from words_of line (l ∷ next ∷ ls) = line_words line (words_of (without_return l)) (words_from words_of (line + 1) (next ∷ ls))

-- the words of a list, in order, or the number of its first line that it may not have
abbrev pub defined_words : Language → (is_compiler : Bool) → List ℕ → Result (List (List ℕ)) ℕ
defined_words language is_compiler text = words_from (words_in language is_compiler) 1 (slice_split (λ b. b == line_feed) text)

-- the words of a line come after others, if it may be in the list
abbrev pub IsTaken : (words : Option (List (List ℕ))) → (old : List (List ℕ)) → (is_taken : Bool) → (new : List (List ℕ)) → Type 0
IsTaken None old is_taken new = is_taken ≡ false
IsTaken (Some words) old is_taken new = (is_taken ≡ true) × (new ≡ old ++ words)

---- directories

-- the directories that a list names, in order
abbrev pub described_dirs : List ℕ → List (List ℕ)
described_dirs text = filter_map dir_in (list_paths LineFeed text)
