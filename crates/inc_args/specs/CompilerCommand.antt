-- The command of a compiler after the first `--` of a command about a project.
use Rattle.std.specs.Prelude.{ℕ, suc, not, Bool, false, List, [], ◌∷◌, if◌then◌else◌, codes, drop, length, take}
use Rattle.std.specs.List.{list_any, prefix_len}
use Rattle.std.specs.Str.{bytes_eq}
use Rattle.clap.specs.Words.{Text}

-- the commands that are about a project
abbrev pub project_commands : List Text
project_commands =
    codes "why" ∷ codes "who" ∷ codes "graph" ∷ codes "rules" ∷ codes "cost" ∷ codes "cut" ∷ codes "check" ∷ codes "pp" ∷ []

abbrev pub is_dashes : Text → Bool
is_dashes word = bytes_eq word (codes "--")

abbrev pub is_option : Text → Bool
is_option word = bytes_eq (take 1 word) (codes "-")

-- the command is one of them: the first of these words that is no option, unless `--` stands before it
abbrev pub has_project : List Text → Bool
has_project [] = false
has_project (word ∷ words) =
    if is_dashes word then false else
    if is_option word then has_project words else list_any (λ name. bytes_eq word name) project_commands

-- how many words, of which the first is the program's name, stand before that `--`: all, where no command takes one of a compiler
abbrev pub own_count : List Text → ℕ
own_count words = if has_project (drop 1 words) then suc (prefix_len (λ word. not (is_dashes word)) (drop 1 words)) else length words

-- those of this program, which it reads
abbrev pub own_words : List Text → List Text
own_words words = take (own_count words) words

-- those of the compiler
abbrev pub compiler_words : List Text → List Text
compiler_words words = drop (suc (own_count words)) words
