-- Rule files: which files may not reach or not include others, and which must include one. A line has one rule, as
-- `src/*.c must not reach net/** except src/main.c`. Its words are separated by spaces and tabs; one that begins with # begins a comment.
use Rattle.std.specs.Prelude.{ℕ, ◌+◌, ◌==◌, ◌||◌, not, Bool, true, false, List, [], ◌∷◌, ◌++◌, Option, Some, None, Result, Ok, Err, if◌then◌else◌, bytes_eq, codes, filter, take}
use Rattle.std.specs.List.{flat_map, list_any, slice_split, take_while}
use Rattle.std.specs.Option.{option_map_or}
use Rattle.inc_text.specs.Ascii.{blank, carriage_return, comma, line_feed, hash, tab}
use Rattle.inc_globs.specs.Globs.{fits, pieces}
use Rattle.inc_rules.specs.declared.rules.Verb.{Verb}
use Rattle.inc_rules.specs.declared.rules.Verb.TheVariants.{NotReach, NotInclude, Include, IncludeFirst}
use Rattle.inc_rules.specs.declared.rules.FaultKind.{FaultKind}
use Rattle.inc_rules.specs.declared.rules.FaultKind.TheVariants.{UnknownVerb, Ends, Unexpected, BadGlob}

-- a rule of a line, by number from 1
pub record Rule : Type 0 where
  pub line : ℕ
  -- its words, without those of a comment
  pub words : List (List ℕ)
  -- the glob of the files that it is about
  pub left : List ℕ
  pub verb : Verb
  -- the glob of those that they may not or must include
  pub right : List ℕ
  -- globs of files that it is not about
  pub except : List (List ℕ)

-- why a line has no rule, and which words of it say so
pub record Fault : Type 0 where
  pub kind : FaultKind
  pub words : List (List ℕ)

---- words

abbrev pub is_empty : List ℕ → Bool
is_empty [] = true
is_empty (b ∷ bs) = false

-- the parts of a text between bytes that separate them; empty ones are none
abbrev pub parts_between : (is_separator : ℕ → Bool) → List ℕ → List (List ℕ)
parts_between is_separator text = filter (λ part. not (is_empty part)) (slice_split is_separator text)

-- a CR counts as a space, so that lines may end in CR and LF
abbrev pub is_space : ℕ → Bool
is_space b = b == blank || b == tab || b == carriage_return

abbrev pub begins_comment : List ℕ → Bool
begins_comment [] = false
begins_comment (b ∷ bs) = b == hash

-- the words before a comment
abbrev pub words_of : (line : List ℕ) → List (List ℕ)
words_of line = take_while (λ w. not (begins_comment w)) (parts_between is_space line)

---- the parts of a rule

-- what follows some words, where a list of words begins with them
abbrev pub behind : (first words : List (List ℕ)) → Option (List (List ℕ))
behind [] ws = Some ws
behind (f ∷ fs) [] = None
behind (f ∷ fs) (w ∷ ws) = if bytes_eq f w then behind fs ws else None

abbrev pub must : List ℕ
must = codes "must"

-- a verb, and what follows it
abbrev pub verb_by : (not_reach not_include include : Option (List (List ℕ))) → Option (Verb × List (List ℕ))
verb_by (Some ws) not_include include = Some (NotReach, ws)
verb_by None (Some ws) include = Some (NotInclude, ws)
verb_by None None (Some ws) = Some (Include, ws)
verb_by None None None = None

-- the verb that words begin with
abbrev pub verb_of : List (List ℕ) → Option (Verb × List (List ℕ))
verb_of ws =
    verb_by (behind (must ∷ codes "not" ∷ codes "reach" ∷ []) ws) (behind (must ∷ codes "not" ∷ codes "include" ∷ []) ws)
    (behind (must ∷ codes "include" ∷ []) ws)

-- globs after `except`, separated by commas, too
abbrev pub globs_of : List (List ℕ) → List (List ℕ)
globs_of ws = flat_map (parts_between (λ b. b == comma)) ws

-- the glob has a [ without ]
abbrev pub is_bad : (glob : List ℕ) → Bool
is_bad glob = option_map_or (λ ps. false) (pieces glob) true

-- the first such glob
abbrev pub first_bad : List (List ℕ) → Option (List ℕ)
first_bad [] = None
first_bad (g ∷ gs) = if is_bad g then Some g else first_bad gs

abbrev pub fault : FaultKind → (words : List (List ℕ)) → Fault
fault kind words = record { kind = kind; words = words }

-- the rule, unless one of its globs is bad
abbrev pub sound_rule : Rule → Option (List ℕ) → Result Rule Fault
sound_rule r None = Ok r
sound_rule r (Some glob) = Err (fault BadGlob (glob ∷ []))

abbrev pub checked : Rule → Result Rule Fault
checked r = sound_rule r (first_bad (r.left ∷ r.right ∷ r.except))

-- exceptions, of which there must be some after the word before them
abbrev pub some_globs : (word : List ℕ) → (globs : List (List ℕ)) → Result (List (List ℕ)) Fault
some_globs word [] = Err (fault Ends (word ∷ []))
some_globs word (g ∷ gs) = Ok (g ∷ gs)

-- the exceptions in the words at the end of a rule
abbrev pub exceptions : List (List ℕ) → Result (List (List ℕ)) Fault
exceptions [] = Ok []
exceptions (w ∷ ws) = if bytes_eq (codes "except") w then some_globs w (globs_of ws) else Err (fault Unexpected (w ∷ []))

-- a rule with its exceptions
abbrev pub with_exceptions : Rule → Result (List (List ℕ)) Fault → Result Rule Fault
with_exceptions r (Ok gs) = checked (record r { except = gs })
with_exceptions r (Err f) = Err f

-- the verb with the word `first`, which may follow the right side of a rule that a file includes another, and the words after it
abbrev pub with_first : Verb → List (List ℕ) → Verb × List (List ℕ)
with_first Include (w ∷ ws) = if bytes_eq (codes "first") w then (IncludeFirst, ws) else (Include, w ∷ ws)
with_first verb ws = (verb, ws)

-- a rule by its verb and the words after its right side
abbrev pub with_rest : (line : ℕ) → (words : List (List ℕ)) → (left right : List ℕ) → Verb × List (List ℕ) → Result Rule Fault
with_rest line words left right x =
    with_exceptions (record { line = line; words = words; left = left; verb = x.0; right = right; except = [] }) (exceptions x.1)

-- the last of some words, of which the first is known
abbrev pub last_of : List ℕ → List (List ℕ) → List ℕ
last_of w [] = w
last_of w (next ∷ ws) = last_of next ws

-- a rule by what follows its verb
abbrev pub with_right : (line : ℕ) → (words : List (List ℕ)) → (left : List ℕ) → Verb → List (List ℕ) → Result Rule Fault
with_right line words left verb [] = Err (fault Ends (last_of left words ∷ []))
with_right line words left verb (right ∷ ws) = with_rest line words left right (with_first verb ws)

-- by what follows its left side: the verb is told by at most two words
abbrev pub by_verb : (line : ℕ) → (words : List (List ℕ)) → (left : List ℕ) → (rest : List (List ℕ)) → Option (Verb × List (List ℕ)) → Result Rule Fault
by_verb line words left [] found = Err (fault Ends (left ∷ []))
by_verb line words left (w ∷ ws) None = Err (fault UnknownVerb (take 2 (w ∷ ws)))
by_verb line words left (w ∷ ws) (Some x) = with_right line words left x.0 x.1

-- the rule of a line with these words
abbrev pub rule_of : (line : ℕ) → (left : List ℕ) → (rest : List (List ℕ)) → Result Rule Fault
rule_of line left rest = by_verb line (left ∷ rest) left rest (verb_of rest)

---- a text

-- rules, or the first fault and the number of its line
abbrev pub Rules : Type 0
Rules = Result (List Rule) (ℕ × Fault)

-- rules before those of what follows
abbrev pub with_more : List Rule → Rules → Rules
with_more rs (Ok more) = Ok (rs ++ more)
with_more rs (Err e) = Err e

-- a rule before those of the lines after it
abbrev pub before : (line : ℕ) → Result Rule Fault → Rules → Rules
before line (Ok r) more = with_more (r ∷ []) more
before line (Err f) more = Err (line, f)

-- the rule of a line, which has none where it has no words
abbrev pub with_line : (line : ℕ) → (words : List (List ℕ)) → Rules → Rules
with_line line [] more = more
with_line line (left ∷ rest) more = before line (rule_of line left rest) more

-- those of lines from this number on
abbrev pub rules_from : (line : ℕ) → List (List ℕ) → Rules
rules_from line [] = Ok []
rules_from line (l ∷ ls) = with_line line (words_of l) (rules_from (line + 1) ls)

abbrev pub rules_of : (text : List ℕ) → Rules
rules_of text = rules_from 1 (slice_split (λ b. b == line_feed) text)

---- its files

-- the glob fits the path
abbrev pub is_for : (glob path : List ℕ) → Bool
is_for glob path = option_map_or (λ ps. fits ps path) (pieces glob) false

-- the file with this path is one of the right side
abbrev pub is_right : Rule → (path : List ℕ) → Bool
is_right r path = is_for r.right path

-- the rule is about the file with this path: it is of the left side, and neither excepted nor of the right side, too
abbrev pub is_left : Rule → (path : List ℕ) → Bool
is_left r path = if is_for r.left path then not (is_right r path || list_any (λ g. is_for g path) r.except) else false
