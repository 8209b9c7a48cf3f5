-- The walk over the symbols of an expression: what it has before it, and what it gives. It reads as the definition does,
-- with a stack in place of the calls within calls.
use Rattle.std.specs.Prelude.{◌≡◌, ℕ, suc, ◌+◌, ◌*◌, ◌<◌, Bool, true, false, List, [], ◌∷◌, ◌++◌, Option, Some, None, codes, drop, length}
use Rattle.inc_cond.specs.declared.known.Known.{Known}
use Rattle.inc_cond.specs.declared.parser.Frame.{Frame}
use Rattle.inc_cond.specs.declared.parser.Frame.TheVariants.{Parenthesis, Prefix, Infix, Question, Colon}
use Rattle.inc_cond.specs.declared.parser.Mark.{Mark}
use Rattle.inc_cond.specs.declared.parser.Mark.TheVariants as mark
use Rattle.inc_cond.specs.declared.parser.Turn.{Turn}
use Rattle.inc_cond.specs.declared.parser.Turn.TheVariants.{Wanted, Read, Done, Over}
use Rattle.inc_cond.specs.Symbols.{Symbol}
use Rattle.inc_cond.specs.Expressions.{Forms, Reader, Reading, ◌and_then◌, behind, reader, whole}
use Rattle.inc_cond.specs.Values.{truth}
use Rattle.inc_cond.specs.Known.{known_literal, knowns, known_parenthesised, known_prefixed, known_joined, known_chosen}

-- the reader with as many steps as it needs
unfoldable pub read : {E : Type 0} → Forms E → Reader E
read forms least left ss = reader forms (suc (length ss)) least left ss

-- what follows a part that was read, by what waits for it
abbrev pub after_part : Frame → Known × List Symbol → Reading Known
after_part (Parenthesis least) e =
    behind (codes ")") e.1 and_then λ rest. read knowns least (Some (known_parenthesised e.0)) rest
after_part (Prefix u least) e = read knowns least (Some (known_prefixed u e.0)) e.1
after_part (Infix o left least) e = read knowns least (Some (known_joined o left e.0)) e.1
after_part (Question test) e =
    behind (codes ":") e.1 and_then λ rest.
    read knowns 0 None rest and_then λ b. Some (known_chosen test e.0 b.0, b.1)
after_part (Colon test then) e = Some (known_chosen test then e.0, e.1)

-- what the whole gives, by what waits, innermost first, and by what the innermost part gives
abbrev pub resumed : List Frame → Reading Known → Option Known
resumed [] r = whole r
resumed (f ∷ fs) r = resumed fs (r and_then after_part f)

-- what the walk gives from here
abbrev pub answer : Turn → List Frame → List Symbol → Option Known
answer (Wanted least) fs ss = resumed fs (read knowns least None ss)
answer (Read least e) fs ss = resumed fs (read knowns least (Some e) ss)
answer (Done e) fs ss = resumed fs (Some (e, ss))
answer (Over known) fs ss = known

-- nothing comes
abbrev pub is_over : Turn → Bool
is_over (Over known) = true
is_over _ = false

-- what the walk gives, where nothing comes
abbrev pub given : Turn → Option Known
given (Over known) = known
given _ = None

-- at most so many turns are left
abbrev pub turns_left : Turn → List Frame → List Symbol → ℕ
turns_left (Wanted least) fs ss = 3 * length ss + (2 * length fs + 1)
turns_left (Read least e) fs ss = 3 * length ss + (2 * length fs + 2)
turns_left (Done e) fs ss = 3 * length ss + (2 * length fs + 1)
turns_left (Over known) fs ss = 0

-- a turn leads to another one
pub record IsTurn (old : Turn) (fs : List Frame) (ss : List Symbol) (new : Turn) (gs : List Frame) (ts : List Symbol) : Type 0 where
  pub same : answer new gs ts ≡ answer old fs ss
  pub fewer : turns_left new gs ts < turns_left old fs ss

-- a turn leads to another one, whatever symbols come after those at hand; where none is at hand, none comes
abbrev pub IsStep : Turn → List Frame → List Symbol → Turn → List Frame → List Symbol → Type 0
IsStep old fs ss new gs ts = (rest : List Symbol) → (ss ≡ [] → rest ≡ []) → IsTurn old fs (ss ++ rest) new gs (ts ++ rest)

---- how frames are kept

-- the expression that was read last; none is missing where a frame has one
abbrev pub first_known : List Known → Known
first_known [] = known_literal (truth false)
first_known (k ∷ ks) = k

-- the frames, innermost first, of marks and the expressions in all of them
abbrev pub frames_of : List Mark → List Known → List Frame
frames_of [] ks = []
frames_of (mark.Parenthesis least ∷ ms) ks = Parenthesis least ∷ frames_of ms ks
frames_of (mark.Prefix u least ∷ ms) ks = Prefix u least ∷ frames_of ms ks
frames_of (mark.Infix o least ∷ ms) ks = Infix o (first_known ks) least ∷ frames_of ms (drop 1 ks)
frames_of (mark.Question ∷ ms) ks = Question (first_known ks) ∷ frames_of ms (drop 1 ks)
frames_of (mark.Colon ∷ ms) ks = Colon (first_known (drop 1 ks)) (first_known ks) ∷ frames_of ms (drop 2 ks)
