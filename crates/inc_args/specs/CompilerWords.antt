-- Words that compilers have with one `-`, as the command line has them.
use Rattle.std.specs.Prelude.{List, [], ◌∷◌, ◌++◌, Option, Some, None, if◌then◌else◌, codes, drop, length, take}
use Rattle.std.specs.Str.{bytes_eq}
use Rattle.clap.specs.Words.{Text}

-- what follows this option in a word that begins with it
abbrev pub value_after : (option word : Text) → Option Text
value_after option word = if bytes_eq (take (length option) word) option then Some (drop (length option) word) else None

-- an option with two `-`, and a `=` before a value in the same word
abbrev pub long_option : (option value : Text) → Text
long_option option [] = codes "-" ++ option
long_option option (b ∷ bs) = codes "-" ++ option ++ codes "=" ++ b ∷ bs

-- a word that begins with an option of compilers; any other word stays
abbrev pub as_long : (option word : Text) → (value : Option Text) → Text
as_long option word None = word
as_long option word (Some value) = long_option option value

abbrev pub iquote : Text
iquote = codes "-iquote"

abbrev pub isystem : Text
isystem = codes "-isystem"

abbrev pub idirafter : Text
idirafter = codes "-idirafter"

abbrev pub as_option : Text → Text
as_option word =
    as_long isystem (as_long idirafter (as_long iquote word (value_after iquote word)) (value_after idirafter word)) (value_after isystem word)

-- the words of a command line, up to one that ends its options
abbrev pub as_options : List Text → List Text
as_options [] = []
as_options (word ∷ words) = if bytes_eq word (codes "--") then word ∷ words else as_option word ∷ as_options words
