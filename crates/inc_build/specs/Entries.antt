-- The entries of a compilation database, as values of JSON.
use Rattle.std.specs.Prelude.{ℕ, List, [], ◌∷◌, Option, Some, None, Result, Ok, Err, option_map, option_and_then, codes, length, nat_lt, if◌then◌else◌}
use Rattle.serde_json.specs.Data.{Data, Items, no_items, item}
use Rattle.serde_json.specs.Find.{as_array, as_object, as_str, get}
use Rattle.inc_build.specs.declared.entries.TheConstants.{LONGEST_DIRECTORY}
use Rattle.inc_build.specs.Commands.{shell_words}
use Rattle.inc_build.specs.declared.entries.EntryFault.{EntryFault}
use Rattle.inc_build.specs.declared.entries.EntryFault.TheVariants.{NoObject, NoDirectory, LongDirectory, NoFile, NoCommand, OpenQuote}

pub record Entry : Type 0 where
  pub directory : List ℕ
  pub file : List ℕ
  pub words : List (List ℕ)

-- a member that is a string
abbrev pub text_at : (name : List ℕ) → Data → Option (List ℕ)
text_at name entry = option_and_then as_str (get name entry)

-- items that are strings, all of them
abbrev pub strings : Items → Option (List (List ℕ))
strings no_items = Some []
strings (item d ds) = option_and_then (λ s. option_map (λ ss. s ∷ ss) (strings ds)) (as_str d)

abbrev pub arguments : Data → Option (List (List ℕ))
arguments entry = option_and_then strings (option_and_then as_array (get (codes "arguments") entry))

abbrev pub quoted : Option (List (List ℕ)) → Result (List (List ℕ)) EntryFault
quoted None = Err OpenQuote
quoted (Some words) = Ok words

-- a command that the shell's rules take apart
abbrev pub split : Option (List ℕ) → Result (List (List ℕ)) EntryFault
split None = Err NoCommand
split (Some command) = quoted (shell_words command)

-- `arguments`, where that is an array of strings, else `command`
abbrev pub words_or : Option (List (List ℕ)) → Data → Result (List (List ℕ)) EntryFault
words_or (Some words) entry = Ok words
words_or None entry = split (text_at (codes "command") entry)

abbrev pub with_words : (directory file : List ℕ) → Result (List (List ℕ)) EntryFault → Result Entry EntryFault
with_words directory file (Err fault) = Err fault
with_words directory file (Ok words) = Ok (record { directory = directory; file = file; words = words })

abbrev pub with_file : (directory : List ℕ) → (file : Option (List ℕ)) → Data → Result Entry EntryFault
with_file directory None entry = Err NoFile
with_file directory (Some file) entry = with_words directory file (words_or (arguments entry) entry)

abbrev pub with_directory : (directory : Option (List ℕ)) → Data → Result Entry EntryFault
with_directory None entry = Err NoDirectory
with_directory (Some directory) entry =
    if nat_lt LONGEST_DIRECTORY (length directory) then Err LongDirectory else with_file directory (text_at (codes "file") entry) entry

abbrev pub in_object : {M : Type 0} → Option M → Data → Result Entry EntryFault
in_object None value = Err NoObject
in_object (Some members) value = with_directory (text_at (codes "directory") value) value

-- the order of the faults of an entry is that of these steps
abbrev pub entry : Data → Result Entry EntryFault
entry value = in_object (as_object value) value
