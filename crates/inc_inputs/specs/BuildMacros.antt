-- What is left of words for macros, of which some take definitions away, read from the last one on: so each word is looked at once.
use Rattle.std.specs.Prelude.{ℕ, Bool, not, List, [], ◌∷◌, ◌++◌, if◌then◌else◌}
use Rattle.inc_build.specs.Builds.{is_named, with_name}
use Rattle.inc_build.specs.declared.compiler_words.Kind.{Kind}
use Rattle.inc_build.specs.declared.compiler_words.Kind.TheVariants.{Undefined}
use Rattle.inc_inputs.specs.BuildProjects.{name_in}

-- a word that defines a macro stays where none of these names is that of its macro
abbrev pub stays : (undefined : List (List ℕ)) → (word : List ℕ) → Bool
stays undefined word = not (is_named (name_in word) undefined)

-- the names that words take away, each once
abbrev pub undefined_with : (undefined : List (List ℕ)) → Kind × List ℕ → List (List ℕ)
undefined_with undefined (Undefined, name) = with_name name undefined
undefined_with undefined (_, word) = undefined

abbrev pub undefined_in : List (Kind × List ℕ) → List (List ℕ)
undefined_in [] = []
undefined_in (m ∷ ms) = undefined_with (undefined_in ms) m

-- the words that define macros and stay, the last first
abbrev pub kept_word : (undefined : List (List ℕ)) → Kind × List ℕ → List (List ℕ)
kept_word undefined (Undefined, name) = []
kept_word undefined (_, word) = if stays undefined word then word ∷ [] else []

abbrev pub kept_in : List (Kind × List ℕ) → List (List ℕ)
kept_in [] = []
kept_in (m ∷ ms) = kept_in ms ++ kept_word (undefined_in ms) m
