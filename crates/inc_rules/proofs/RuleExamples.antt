-- Rules and what they are about, worked out by computing.
use Rattle.std.proofs.Common.{◌≡◌, ℕ, true, false, List, [], ◌∷◌, ◌++◌, Ok, Err, refl}
use Rattle.std.specs.Prelude.{codes}
use Rattle.inc_rules.specs.declared.rules.Verb.{Verb}
use Rattle.inc_rules.specs.declared.rules.Verb.TheVariants.{NotReach, NotInclude, Include, IncludeFirst}
use Rattle.inc_rules.specs.declared.rules.FaultKind.TheVariants.{UnknownVerb, Ends, Unexpected, BadGlob}
use Rattle.inc_rules.specs.Rules.{Rule, fault, is_left, is_right, rules_of, words_of}

abbrev rule : ℕ → (words : List (List ℕ)) → (left : List ℕ) → Verb → (right : List ℕ) → (except : List (List ℕ)) → Rule
rule line words left verb right except = record { line = line; words = words; left = left; verb = verb; right = right; except = except }

---- words

words-1 : words_of (9 ∷ codes "a  b" ++ 13 ∷ []) ≡ codes "a" ∷ codes "b" ∷ []
words-1 = refl

words-2 : words_of (codes "a # b") ≡ codes "a" ∷ []
words-2 = refl

words-3 : words_of (codes "#a b") ≡ []
words-3 = refl

-- a # inside a word begins no comment
words-4 : words_of (codes "a#b") ≡ codes "a#b" ∷ []
words-4 = refl

---- verbs

not_reach : rules_of (codes "a must not reach b") ≡ Ok (rule 1 (codes "a" ∷ codes "must" ∷ codes "not" ∷ codes "reach" ∷ codes "b" ∷ []) (codes "a") NotReach (codes "b") [] ∷ [])
not_reach = refl

not_include : rules_of (codes "a must not include b") ≡ Ok (rule 1 (codes "a" ∷ codes "must" ∷ codes "not" ∷ codes "include" ∷ codes "b" ∷ []) (codes "a") NotInclude (codes "b") [] ∷ [])
not_include = refl

include : rules_of (codes "a must include b") ≡ Ok (rule 1 (codes "a" ∷ codes "must" ∷ codes "include" ∷ codes "b" ∷ []) (codes "a") Include (codes "b") [] ∷ [])
include = refl

first : rules_of (codes "a must include b first") ≡ Ok (rule 1 (codes "a" ∷ codes "must" ∷ codes "include" ∷ codes "b" ∷ codes "first" ∷ []) (codes "a") IncludeFirst (codes "b") [] ∷ [])
first = refl

---- exceptions

abbrev except_words : List (List ℕ)
except_words = codes "a" ∷ codes "must" ∷ codes "include" ∷ codes "b" ∷ codes "first" ∷ codes "except" ∷ codes "c,d" ∷ codes ",e" ∷ codes "," ∷ codes "f" ∷ []

except-1 : rules_of (codes "a must include b first except c,d ,e , f") ≡ Ok (rule 1 except_words (codes "a") IncludeFirst (codes "b") (codes "c" ∷ codes "d" ∷ codes "e" ∷ codes "f" ∷ []) ∷ [])
except-1 = refl

except-2 : rules_of (codes "a must include b except first") ≡ Ok (rule 1 (codes "a" ∷ codes "must" ∷ codes "include" ∷ codes "b" ∷ codes "except" ∷ codes "first" ∷ []) (codes "a") Include (codes "b") (codes "first" ∷ []) ∷ [])
except-2 = refl

---- lines

-- an empty line and one that is a comment have no rule, and are counted
lines-1 : rules_of (codes "# rules" ++ 13 ∷ 10 ∷ 13 ∷ 10 ∷ codes "a must include b # c" ++ 13 ∷ 10 ∷ [])
    ≡ Ok (rule 3 (codes "a" ∷ codes "must" ∷ codes "include" ∷ codes "b" ∷ []) (codes "a") Include (codes "b") [] ∷ [])
lines-1 = refl

lines-2 : rules_of (codes "a must include b" ++ 10 ∷ codes "c must not reach d")
    ≡ Ok (rule 1 (codes "a" ∷ codes "must" ∷ codes "include" ∷ codes "b" ∷ []) (codes "a") Include (codes "b") []
    ∷ rule 2 (codes "c" ∷ codes "must" ∷ codes "not" ∷ codes "reach" ∷ codes "d" ∷ []) (codes "c") NotReach (codes "d") [] ∷ [])
lines-2 = refl

lines-3 : rules_of [] ≡ Ok []
lines-3 = refl

---- faults

verb-1 : rules_of (codes "a may include b") ≡ Err (1, fault UnknownVerb (codes "may" ∷ codes "include" ∷ []))
verb-1 = refl

verb-2 : rules_of (codes "a must") ≡ Err (1, fault UnknownVerb (codes "must" ∷ []))
verb-2 = refl

verb-3 : rules_of (codes "a must not b c") ≡ Err (1, fault UnknownVerb (codes "must" ∷ codes "not" ∷ []))
verb-3 = refl

ends-1 : rules_of (10 ∷ codes "a") ≡ Err (2, fault Ends (codes "a" ∷ []))
ends-1 = refl

ends-2 : rules_of (codes "a must not reach # b") ≡ Err (1, fault Ends (codes "reach" ∷ []))
ends-2 = refl

ends-3 : rules_of (codes "a must include b except ,") ≡ Err (1, fault Ends (codes "except" ∷ []))
ends-3 = refl

unexpected-1 : rules_of (codes "a must not include b first") ≡ Err (1, fault Unexpected (codes "first" ∷ []))
unexpected-1 = refl

unexpected-2 : rules_of (codes "a must include b c") ≡ Err (1, fault Unexpected (codes "c" ∷ []))
unexpected-2 = refl

bad-1 : rules_of (codes "a[ must include b") ≡ Err (1, fault BadGlob (codes "a[" ∷ []))
bad-1 = refl

bad-2 : rules_of (codes "a must include b except c,[d") ≡ Err (1, fault BadGlob (codes "[d" ∷ []))
bad-2 = refl

-- the first fault of a text
fault-1 : rules_of (codes "a must include b" ++ 10 ∷ codes "a" ++ 10 ∷ codes "b") ≡ Err (2, fault Ends (codes "a" ∷ []))
fault-1 = refl

---- files

abbrev layers : Rule
layers = rule 1 [] (codes "src/**") NotReach (codes "src/net/**") (codes "src/main.c" ∷ codes "src/t*.c" ∷ [])

left-1 : is_left layers (codes "src/a.c") ≡ true
left-1 = refl

left-2 : is_left layers (codes "lib/a.c") ≡ false
left-2 = refl

-- a file of both sides
left-3 : is_left layers (codes "src/net/a.c") ≡ false
left-3 = refl

-- files that are excepted
left-4 : is_left layers (codes "src/main.c") ≡ false
left-4 = refl

left-5 : is_left layers (codes "src/test.c") ≡ false
left-5 = refl

right-1 : is_right layers (codes "src/net/a.c") ≡ true
right-1 = refl

-- exceptions are none of the right side
right-2 : is_right (rule 1 [] (codes "a") Include (codes "b") (codes "b" ∷ [])) (codes "b") ≡ true
right-2 = refl
