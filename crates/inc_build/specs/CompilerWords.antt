-- What a compiler is asked by its words, as far as a question about includes goes.
use Rattle.std.specs.Prelude.{ℕ, ◌==◌, ◌&&◌, ◌||◌, not, Bool, true, false, List, [], ◌∷◌, Option, Some, None, is_some, if◌then◌else◌, codes, drop, length, take}
use Rattle.std.specs.Str.{bytes_eq}
use Rattle.std.specs.List.{list_any}
use Rattle.inc_build.specs.declared.compiler_words.Kind.{Kind}
use Rattle.inc_build.specs.declared.compiler_words.Kind.TheVariants.{Quoted, Searched, System, Last, Macros, Included, Defined, Undefined}

pub data Item : Type 0 where
  -- an option with a value that counts
  Given : Kind → (value : List ℕ) → Item
  -- the language that -std= names
  Standard : (name : List ℕ) → Item
  -- -nostdinc
  NoSystem : Item
  -- @FILE
  Listed : (path : List ℕ) → Item
  -- an option that is not known here, or whose value is missing
  Told : (name : List ℕ) → Item
  -- a word that is no option: a source, an object, or the value of an option that is not known here
  Operand : List ℕ → Item

-- what follows an option in a word that begins with it
abbrev pub after : (option word : List ℕ) → Option (List ℕ)
after option word = if bytes_eq (take (length option) word) option then Some (drop (length option) word) else None

abbrev pub begins : (option word : List ℕ) → Bool
begins option word = is_some (after option word)

---- options with a value that counts, in the word itself or in the next one

abbrev pub values : List (List ℕ × Kind)
values =
    (codes "-I", Searched) ∷ (codes "-D", Defined) ∷ (codes "-U", Undefined)
    ∷ (codes "-iquote", Quoted) ∷ (codes "-isystem", System) ∷ (codes "-idirafter", Last)
    ∷ (codes "-include", Included) ∷ (codes "-imacros", Macros) ∷ []

abbrev pub value_or : Kind → Option (List ℕ) → Option (Kind × List ℕ) → Option (Kind × List ℕ)
value_or kind None rest = rest
value_or kind (Some value) rest = Some (kind, value)

-- the first of them that the word begins with, and what follows it
abbrev pub valued : List (List ℕ × Kind) → List ℕ → Option (Kind × List ℕ)
valued [] word = None
valued (o ∷ os) word = value_or o.1 (after o.0 word) (valued os word)

---- options without one

-- those whose value is the next word, both skipped
abbrev pub passed_with_value : List (List ℕ)
passed_with_value = codes "-o" ∷ codes "-x" ∷ codes "-MF" ∷ codes "-MT" ∷ codes "-MQ" ∷ codes "-MJ" ∷ codes "-arch" ∷ codes "-L" ∷ codes "-l" ∷ codes "-aux-info" ∷ codes "-dumpbase" ∷ codes "-dumpdir" ∷ codes "--param" ∷ []

-- those that may change which headers are found: reported, with their value, which is the next word
abbrev pub told_with_value : List (List ℕ)
told_with_value = codes "-isysroot" ∷ codes "--sysroot" ∷ codes "-iprefix" ∷ codes "-iwithprefix" ∷ codes "-iwithprefixbefore" ∷ codes "-imultilib" ∷ codes "-include-pch" ∷ codes "-iframework" ∷ codes "-framework" ∷ codes "-target" ∷ codes "-Xclang" ∷ codes "-Xpreprocessor" ∷ codes "-Xlinker" ∷ codes "-Xassembler" ∷ []

-- those that begin with one of these are skipped
abbrev pub passed_fronts : List (List ℕ)
passed_fronts = codes "-W" ∷ codes "-f" ∷ codes "-m" ∷ codes "-O" ∷ codes "-g" ∷ codes "-M" ∷ codes "-L" ∷ codes "-l" ∷ []

-- and these
abbrev pub passed : List (List ℕ)
passed = codes "-c" ∷ codes "-S" ∷ codes "-E" ∷ codes "-P" ∷ codes "-w" ∷ codes "-s" ∷ codes "-v" ∷ codes "-pg" ∷ codes "-pipe" ∷ codes "-pthread" ∷ codes "-ansi" ∷ codes "-pedantic" ∷ codes "-pedantic-errors" ∷ codes "-static" ∷ codes "-shared" ∷ []

abbrev pub is_among : List (List ℕ) → List ℕ → Bool
is_among list word = list_any (λ x. bytes_eq word x) list

abbrev pub begins_among : List (List ℕ) → List ℕ → Bool
begins_among list word = list_any (λ x. begins x word) list

---- one word, which may take the next one

-- what is kept of a word, and whether the next one is its value
abbrev pub Reading : Type 0
Reading = Option Item × Bool

abbrev pub operand : List ℕ → Item
operand [] = Operand []
operand (b ∷ bs) = if b == 64 then Listed bs else Operand (b ∷ bs)

abbrev pub other_option : List ℕ → Option Item
other_option word = if is_among passed word || begins_among passed_fronts word then None else Some (Told word)

abbrev pub standard_or : Option (List ℕ) → Option Item → Option Item
standard_or None other = other
standard_or (Some name) other = Some (Standard name)

abbrev pub no_value : List ℕ → Option Item
no_value word = if bytes_eq word (codes "-nostdinc") then Some NoSystem else standard_or (after (codes "-std=") word) (other_option word)

-- an option with its value: what follows it in its word, else the next one
abbrev pub with_value : (word : List ℕ) → Kind → (value : List ℕ) → (next : Option (List ℕ)) → Reading
with_value word kind (b ∷ bs) next = (Some (Given kind (b ∷ bs)), false)
with_value word kind [] (Some value) = (Some (Given kind value), true)
with_value word kind [] None = (Some (Told word), false)

abbrev pub value_reading : (word : List ℕ) → Option (Kind × List ℕ) → (next : Option (List ℕ)) → Reading
value_reading word None next = (no_value word, false)
value_reading word (Some v) next = with_value word v.0 v.1 next

abbrev pub option_reading : (word : List ℕ) → (next : Option (List ℕ)) → Reading
option_reading word next =
    if is_among passed_with_value word then (None, is_some next) else
    if is_among told_with_value word then (Some (Told word), is_some next) else value_reading word (valued values word) next

-- `-` alone is standard input
abbrev pub is_option : List ℕ → Bool
is_option word = begins (codes "-") word && not (bytes_eq word (codes "-"))

abbrev pub reading : (word : List ℕ) → (next : Option (List ℕ)) → Reading
reading word next = if is_option word then option_reading word next else (Some (operand word), false)

---- all words

abbrev pub kept : Option Item → List Item → List Item
kept None more = more
kept (Some i) more = i ∷ more

abbrev pub first : List (List ℕ) → Option (List ℕ)
first [] = None
first (w ∷ ws) = Some w

abbrev pub after_first : List (List ℕ) → List (List ℕ)
after_first [] = []
after_first (w ∷ ws) = ws

-- the words after one, and after its value if that is the next word
abbrev pub left_after : Bool → List (List ℕ) → List (List ℕ)
left_after takes_next words = if takes_next then after_first words else words

-- what words ask for, from left to right
abbrev pub items_of : List (List ℕ) → List Item
items_of [] = []
items_of (w ∷ []) = kept (reading w None).0 []
items_of (w ∷ next ∷ more) =
    if (reading w (Some next)).1 then kept (reading w (Some next)).0 (items_of more) else kept (reading w (Some next)).0 (items_of (next ∷ more))

-- the words of a command, the first of which is the compiler's name
abbrev pub items : List (List ℕ) → List Item
items words = items_of (after_first words)
