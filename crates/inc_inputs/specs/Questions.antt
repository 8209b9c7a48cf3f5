-- Questions of GNU C to a compiler, as `__has_attribute(noreturn)`. A question is a macro that pastes its operand to a name, and the number that
-- this name is defined as is the answer; a name that is not defined counts as 0 in an `#if`. A list that describes a compiler has a line
-- `has NAME(ARG) NUMBER` for an answer.
use Rattle.std.specs.Prelude.{◌≡◌, ℕ, ◌+◌, ◌==◌, ◌&&◌, ◌||◌, not, Bool, true, false, List, [], ◌∷◌, ◌++◌, Option, Some, None, if◌then◌else◌, length, take, drop, flat_map, nat_le, codes, bytes_eq}
use Rattle.std.specs.Char.{is_ascii_alphanumeric, is_ascii_digit}
use Rattle.std.specs.List.{list_all, list_any, prefix_len}
use Rattle.inc_build.specs.declared.compiler_words.Kind.{Kind}
use Rattle.inc_build.specs.declared.compiler_words.Kind.TheVariants.{Undefined}
use Rattle.inc_macro.specs.Macros.{is_among}
use Rattle.inc_text.specs.Ascii.{blank, close_parenthesis, equals, open_parenthesis, underscore}
use Rattle.inc_text.specs.Languages.{is_gnu}
use Rattle.inc_text.specs.declared.languages.Language.{Language}
use Rattle.inc_inputs.specs.BuildProjects.{name_in}
use Rattle.inc_inputs.specs.PlaceWords.{is_number}

---- a line

pub record Answered : Type 0 where
  pub question : List ℕ
  pub operand : List ℕ
  -- with the space before it
  pub number : List ℕ

-- how a line begins that has an answer
abbrev pub answer_start : List ℕ
answer_start = codes "has "

abbrev pub begins_answer : List ℕ → Bool
begins_answer line = nat_le 4 (length line) && bytes_eq (take 4 line) answer_start

-- a letter, a digit or `_`
abbrev pub is_letter : ℕ → Bool
is_letter b = is_ascii_alphanumeric b || b == underscore

-- one or more of these, of which the first is no digit
abbrev pub is_name : List ℕ → Bool
is_name [] = false
is_name (b ∷ bs) = not (is_ascii_digit b) && list_all is_letter (b ∷ bs)

-- how many bytes are before the first `(`
abbrev pub open_len : List ℕ → ℕ
open_len text = prefix_len (λ b. not (b == open_parenthesis)) text

-- how many are before the first `)`
abbrev pub close_len : List ℕ → ℕ
close_len text = prefix_len (λ b. not (b == close_parenthesis)) text

-- what is before the first `(`, and what follows it
abbrev pub question_of : List ℕ → List ℕ
question_of text = take (open_len text) text

abbrev pub inner_of : List ℕ → List ℕ
inner_of text = drop (open_len text + 1) text

-- the parts of `NAME(ARG) NUMBER`
abbrev pub parts_of : List ℕ → Answered
parts_of text = record {
  question = question_of text;
  operand = take (close_len (inner_of text)) (inner_of text);
  number = drop (close_len (inner_of text) + 1) (inner_of text);
}

-- a space and a number
abbrev pub is_spaced : List ℕ → Bool
is_spaced [] = false
is_spaced (b ∷ bs) = b == blank && is_number bs

-- such parts are two names and a number
abbrev pub is_answer : Answered → Bool
is_answer a = is_name a.question && is_name a.operand && is_spaced a.number

-- the answer that a line has
abbrev pub answer_in : List ℕ → Option Answered
answer_in line = if begins_answer line then (if is_answer (parts_of (drop 4 line)) then Some (parts_of (drop 4 line)) else None) else None

---- words

-- the words of a question: it expands its operand, and pastes that to its name
abbrev pub question_words : List ℕ → List (List ℕ)
question_words q = (q ++ codes "(x)=" ++ q ++ codes "_(x)") ∷ (q ++ codes "_(x)=" ++ q ++ codes "_##x") ∷ []

-- the questions that GNU C has, whatever describes a compiler
abbrev pub gnu_questions : List (List ℕ)
gnu_questions = codes "__has_attribute" ∷ codes "__has_builtin" ∷ codes "__has_c_attribute" ∷ codes "__has_cpp_attribute" ∷ []

-- the language has the question
abbrev pub has_question : Language → (name : List ℕ) → Bool
has_question language name = is_gnu language && is_among name gnu_questions

-- the word of an answer
abbrev pub answer_word : Answered → List ℕ
answer_word a = a.question ++ codes "_" ++ a.operand ++ codes "=" ++ drop 1 a.number

-- the words of a question, unless the language has it
abbrev pub asked_words : Language → (question : List ℕ) → List (List ℕ)
asked_words language q = if has_question language q then [] else question_words q

-- its words: before it those of its question
abbrev pub answer_words : Language → Answered → List (List ℕ)
answer_words language a = asked_words language a.question ++ answer_word a ∷ []

---- the questions of the language

-- a word defines a macro of this name: it is followed by nothing, `=` or `(`
abbrev pub ends_name : List ℕ → Bool
ends_name [] = true
ends_name (b ∷ bs) = b == equals || b == open_parenthesis

abbrev pub defines : (name word : List ℕ) → Bool
defines name word = nat_le (length name) (length word) && bytes_eq (take (length name) word) name && ends_name (drop (length name) word)

-- a word takes the definition of this name away
abbrev pub takes_away : (name : List ℕ) → Kind × List ℕ → Bool
takes_away name (Undefined, text) = bytes_eq text name
takes_away name (_, text) = false

-- no word defines the name, and no word of an entry takes its definition away
abbrev pub is_free : (macros : List (Kind × List ℕ)) → (words : List (List ℕ)) → (name : List ℕ) → Bool
is_free macros words name = not (list_any (defines name) words || list_any (takes_away name) macros)

-- these words and one more, if its name is free
abbrev pub with_default : (macros : List (Kind × List ℕ)) → (words : List (List ℕ)) → (word : List ℕ) → List (List ℕ)
with_default macros words word = if is_free macros words (name_in word) then words ++ word ∷ [] else words

abbrev pub with_defaults : (macros : List (Kind × List ℕ)) → (words more : List (List ℕ)) → List (List ℕ)
with_defaults macros words [] = words
with_defaults macros words (w ∷ ws) = with_defaults macros (with_default macros words w) ws

-- these words, and after them those of the questions of the language whose names are free: as if they came first, but that each word stays at its
-- place
abbrev pub with_questions : Language → (macros : List (Kind × List ℕ)) → (words : List (List ℕ)) → List (List ℕ)
with_questions language macros words = if is_gnu language then with_defaults macros words (flat_map question_words gnu_questions) else words
