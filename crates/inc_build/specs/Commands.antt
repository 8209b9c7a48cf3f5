-- The words of a command as a POSIX shell splits it (Shell Command Language, 2.2 and 2.3), where nothing is expanded: each byte that is none of
-- blanks, quotes and \ stands for itself.
use Rattle.std.specs.Prelude.{ℕ, ◌==◌, ◌&&◌, ◌||◌, not, Bool, true, false, List, [], ◌∷◌, ◌++◌, Option, Some, None, if◌then◌else◌, option_map}
use Rattle.inc_text.specs.Ascii.{apostrophe, backslash, blank, carriage_return, dollar, line_feed, quotation_mark, tab}
use Rattle.inc_build.specs.declared.commands.Mode.{Mode}
use Rattle.inc_build.specs.declared.commands.Mode.TheVariants.{Bare, Escaped, Single, Double, DoubleEscaped}

-- a place within a command
pub record State : Type 0 where
  pub mode : Mode
  -- a word has begun, perhaps an empty one in quotes
  pub is_begun : Bool
  -- the bytes of the word so far
  pub word : List ℕ

abbrev pub start : State
start = record { mode = Bare; is_begun = false; word = [] }

abbrev pub is_blank : ℕ → Bool
is_blank b = (b == blank) || (b == tab) || (b == line_feed) || (b == carriage_return)

-- the same word in another mode
abbrev pub moved : Mode → State → State
moved m s = record { mode = m; is_begun = s.is_begun; word = s.word }

-- a word has begun, in this mode
abbrev pub begun : Mode → State → State
begun m s = record { mode = m; is_begun = true; word = s.word }

-- one more byte of the word, in this mode
abbrev pub put : Mode → ℕ → State → State
put m b s = record { mode = m; is_begun = true; word = s.word ++ b ∷ [] }

-- the bytes that a \ within "" stands before
abbrev pub is_special : ℕ → Bool
is_special b = (b == quotation_mark) || (b == backslash) || (b == dollar) || (b == 96)

abbrev pub bare : State → ℕ → State
bare s b =
    if b == backslash then moved Escaped s else
    if b == apostrophe then begun Single s else
    if b == quotation_mark then begun Double s else put Bare b s

abbrev pub double_escaped : State → ℕ → State
double_escaped s b =
    if b == line_feed then moved Double s else
    if is_special b then put Double b s else put Double b (put Double backslash s)

-- the place after a byte that ends no word. A \ before a new-line joins two lines
abbrev pub in_mode : Mode → State → ℕ → State
in_mode Bare s b = bare s b
in_mode Escaped s b = if b == line_feed then moved Bare s else put Bare b s
in_mode Single s b = if b == apostrophe then moved Bare s else put Single b s
in_mode Double s b = if b == quotation_mark then moved Bare s else if b == backslash then moved DoubleEscaped s else put Double b s
in_mode DoubleEscaped s b = double_escaped s b

abbrev pub stepped : State → ℕ → State
stepped s b = in_mode s.mode s b

abbrev pub is_bare : Mode → Bool
is_bare Bare = true
is_bare _ = false

-- a blank outside quotes, after the word at hand if there is one
abbrev pub ends : State → ℕ → Bool
ends s b = is_bare s.mode && is_blank b

-- the word at hand, if there is one, and those after it
abbrev pub finished : State → List (List ℕ) → List (List ℕ)
finished s ws = if s.is_begun then s.word ∷ ws else ws

-- the words at the end; none where a quote does not end. A \ at the end stands for itself
abbrev pub at_end : Mode → State → Option (List (List ℕ))
at_end Bare s = Some (finished s [])
at_end Escaped s = Some (finished (put Bare backslash s) [])
at_end Single s = None
at_end Double s = None
at_end DoubleEscaped s = None

-- the words from a place on
abbrev pub words_from : State → List ℕ → Option (List (List ℕ))
words_from s [] = at_end s.mode s
words_from s (b ∷ bs) = if ends s b then option_map (finished s) (words_from start bs) else words_from (stepped s b) bs

abbrev pub shell_words : List ℕ → Option (List (List ℕ))
shell_words text = words_from start text

-- a byte that stands for itself outside quotes
abbrev pub is_plain : ℕ → Bool
is_plain b = not (is_blank b) && not (b == backslash) && not (b == apostrophe) && not (b == quotation_mark)

-- a word outside quotes ends where this is next
abbrev pub stops : List ℕ → Bool
stops [] = true
stops (b ∷ bs) = is_blank b
