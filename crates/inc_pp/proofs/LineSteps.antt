-- One step of a walk over the parts of a file, by the place of the part.
use Rattle.std.proofs.Common.{◌≡◌, ◌≢◌, ℕ, zero, suc, ◌+◌, ◌-◌, ◌<◌, ◌≤◌, ◌==◌, ◌⊎◌, inl, inr, Bool, true, false, List, [], ◌∷◌, ◌++◌, Some, IfSome, refl, ap, sym, ◌∙◌, subst, length, take, drop, slice_get, arith}
use Rattle.std.specs.List.{All}
use Rattle.std.proofs.lemmas.Grind.{flat_map-append}
use Rattle.std.proofs.lemmas.List.{take-append-drop, drop-drop, drop_more, drop_all, length-drop}
use Rattle.std.proofs.lemmas.Bool.{eqb-true, eqb-false}
use Rattle.std.proofs.lemmas.List.Elements.{All-append, All-drop, All-head, All-nil, All-tail, All-take}
use Rattle.std.proofs.lemmas.Option.{slice_get_within, get_or_from_slice_get}
use Rattle.inc_directive.specs.declared.kinds.Role.{Role}
use Rattle.inc_directive.specs.declared.kinds.Role.TheVariants.{IfGroup, ElifGroup, ElseGroup, EndifLine, TextLine, ControlLine}
use Rattle.inc_directive.specs.Groups.{FileLine, Group, Ending, Empty, Link, role, with_line, group_at}
use Rattle.inc_directive.specs.Jumps.{closing, LeadsTo, Closes}
use Rattle.inc_directive.specs.Parts.{FilePart, TextPart, DirectivePart, IsPart, lines_in, lines_from, lines_of_parts, part_role}
use Rattle.inc_directive.specs.TreeLaws.{is_opening}
use Rattle.inc_macro.specs.Results.{◌>>=◌}
use Rattle.inc_pp.specs.Tasks.{File, State, Here}
use Rattle.inc_pp.specs.Directives.{directive_read}
use Rattle.inc_pp.specs.Runs.{run_read, released}
use Rattle.inc_pp.specs.Walks.{ending_read, lines_read}
use Rattle.inc_pp.proofs.ChoiceReads.{choice_read, next_read}
use Rattle.inc_pp.proofs.Walking.{NoTextFirst, lines-if, lines-control, lines-endif, lines-elif, lines-else, lines-ended, lines-run, closing-read, next-line, next-elif, text_is_some}

-- a place within a list has an element
pub element : {A : Type 0} (xs : List A) (i : ℕ) → i < length xs → (x : A) × (slice_get xs i ≡ Some x)
element [] i low = absurd (omega (arith, low))
element (x ∷ xs) zero low = (x, refl)
element (x ∷ xs) (suc i) low = element xs i (omega (arith, low))

-- a list from a place on
drop_at : {A : Type 0} (xs : List A) (i n : ℕ) (x : A) → slice_get xs i ≡ Some x → n ≡ i + 1 → drop i xs ≡ x ∷ drop n xs
drop_at xs i n x at is =
    drop_more xs i x (slice_get_within xs i x at)
    ∙ ap (λ y. y ∷ drop (i + 1) xs) (get_or_from_slice_get xs i x x at)
    ∙ ap (λ k. x ∷ drop k xs) (sym is)

-- the lines from a part on begin with its lines
pub from-part : (ps : List FilePart) (i n : ℕ) (p : FilePart) → slice_get ps i ≡ Some p → n ≡ i + 1 → lines_from i ps ≡ lines_in p ++ lines_from n ps
from-part ps i n p at is = ap lines_of_parts (drop_at ps i n p at is)

pub from-line : (ps : List FilePart) (i n : ℕ) (l : FileLine) → slice_get ps i ≡ Some (DirectivePart l) → n ≡ i + 1 → lines_from i ps ≡ l ∷ lines_from n ps
from-line ps i n l at is = from-part ps i n (DirectivePart l) at is

-- all lines, by a directive among them
pub around-line : (ps : List FilePart) (i n : ℕ) (l : FileLine) → slice_get ps i ≡ Some (DirectivePart l) → n ≡ i + 1 → lines_of_parts ps ≡ lines_of_parts (take i ps) ++ l ∷ lines_from n ps
around-line ps i n l at is =
    ap lines_of_parts (sym (take-append-drop i ps)) ∙ flat_map-append lines_in (take i ps) (drop i ps)
    ∙ ap (λ ls. lines_of_parts (take i ps) ++ ls) (from-line ps i n l at is)

---- parts by their roles

-- a part with the role of no text is a directive
pub directive_at : (ps : List FilePart) (i : ℕ) (r : Role) → r ≢ TextLine → i < length ps → ((p : FilePart) → slice_get ps i ≡ Some p → part_role p ≡ r)
    → (l : FileLine) × (slice_get ps i ≡ Some (DirectivePart l)) × (role l.kind ≡ r)
directive_at ps i r other low is = let e = element ps i low in by e.0 e.1
  where
    by : (p : FilePart) → slice_get ps i ≡ Some p → (l : FileLine) × (slice_get ps i ≡ Some (DirectivePart l)) × (role l.kind ≡ r)
    by (TextPart ls) at = absurd (other (sym (is (TextPart ls) at)))
    by (DirectivePart l) at = (l, at, is (DirectivePart l) at)

-- so is one that opens a section or a branch
pub opener_at : (ps : List FilePart) (i : ℕ) → i < length ps → ((p : FilePart) → slice_get ps i ≡ Some p → is_opening (part_role p) ≡ true)
    → (l : FileLine) × (slice_get ps i ≡ Some (DirectivePart l)) × (is_opening (role l.kind) ≡ true)
opener_at ps i low is = let e = element ps i low in by e.0 e.1
  where
    by : (p : FilePart) → slice_get ps i ≡ Some p → (l : FileLine) × (slice_get ps i ≡ Some (DirectivePart l)) × (is_opening (role l.kind) ≡ true)
    by (TextPart ls) at = let no : false ≡ true = is (TextPart ls) at in cc
    by (DirectivePart l) at = (l, at, is (DirectivePart l) at)

-- and one before which a group ends
pub branch_at : (ps : List FilePart) → All IsPart ps → (i : ℕ) (e : Ending) → i < length ps → group_at (lines_from i ps) ≡ (Empty, e)
    → (l : FileLine) × (slice_get ps i ≡ Some (DirectivePart l))
branch_at ps parts i e low ends = let x = element ps i low in by x.0 x.1 (part_of x.0 x.1)
  where
    part_of : (p : FilePart) → slice_get ps i ≡ Some p → IsPart p
    part_of p at = All-head IsPart p (drop (i + 1) ps) (subst (All IsPart) (drop_at ps i (i + 1) p at refl) (All-drop IsPart i ps parts))

    by : (p : FilePart) → slice_get ps i ≡ Some p → IsPart p → (l : FileLine) × (slice_get ps i ≡ Some (DirectivePart l))
    by (DirectivePart l) at is = (l, at)
    by (TextPart []) at is = absurd is
    by (TextPart (l ∷ ls)) at is =
        let text : role l.kind ≡ TextLine = All-head (λ (k : FileLine). role k.kind ≡ TextLine) l ls is in
        let rest : List FileLine = ls ++ lines_from (i + 1) ps in
        absurd (text_is_some l (group_at rest).0
        (ap (λ (x : Group × Ending). x.0) (sym (ap (λ (r : Role). with_line r l (group_at rest)) text) ∙ ap group_at (sym (from-part ps i (i + 1) (TextPart (l ∷ ls)) at refl)) ∙ ends)))

abbrev pub AreText : List FilePart → Type 0
AreText ps = All (λ (p : FilePart). part_role p ≡ TextLine) ps

abbrev pub IsNoText : List FilePart → ℕ → Type 0
IsNoText ps i = IfSome (slice_get ps i) (λ (p : FilePart). part_role p ≢ TextLine)

-- the lines of parts that are text
lines-text : (ps : List FilePart) → All IsPart ps → AreText ps → All (λ (t : FileLine). role t.kind ≡ TextLine) (lines_of_parts ps)
lines-text [] parts text = All-nil (λ (t : FileLine). role t.kind ≡ TextLine)
lines-text (TextPart [] ∷ ps) parts text = absurd (All-head IsPart (TextPart []) ps parts)
lines-text (TextPart (l ∷ ls) ∷ ps) parts text =
    All-append (λ (t : FileLine). role t.kind ≡ TextLine) (l ∷ ls) (lines_of_parts ps) (All-head IsPart (TextPart (l ∷ ls)) ps parts)
    (lines-text ps (All-tail IsPart (TextPart (l ∷ ls)) ps parts) (All-tail (λ (p : FilePart). part_role p ≡ TextLine) (TextPart (l ∷ ls)) ps text))
lines-text (DirectivePart l ∷ ps) parts text =
    absurd (All-head IsPart (DirectivePart l) ps parts (All-head (λ (p : FilePart). part_role p ≡ TextLine) (DirectivePart l) ps text))

-- they are some
lines-some : (ps : List FilePart) → All IsPart ps → 0 < length ps → 0 < length (lines_of_parts ps)
lines-some [] parts low = absurd (omega (arith, low))
lines-some (TextPart [] ∷ ps) parts low = absurd (All-head IsPart (TextPart []) ps parts)
lines-some (TextPart (l ∷ ls) ∷ ps) parts low = omega arith
lines-some (DirectivePart l ∷ ps) parts low = omega arith

not_text_first : (ps : List FilePart) (j : ℕ) → IsNoText ps j → NoTextFirst (lines_from j ps)
not_text_first [] zero other = tt
not_text_first [] (suc j) other = tt
not_text_first (TextPart ls ∷ ps) zero other = absurd (other refl)
not_text_first (DirectivePart l ∷ ps) zero other = other
not_text_first (TextPart ls ∷ ps) (suc j) other = not_text_first ps j other
not_text_first (DirectivePart l ∷ ps) (suc j) other = not_text_first ps j other

run_of : (f : File) (ts ls : List FileLine) → 0 < length ts → All (λ (t : FileLine). role t.kind ≡ TextLine) ts → NoTextFirst ls → (s : State) (h : Here)
    → lines_read f (ts ++ ls) s h ≡ (run_read f ts s h >>= λ r. lines_read f ls r.0 r.1)
run_of f [] ls low all other s h = absurd (omega (arith, low))
run_of f (t ∷ ts) ls low all other s h =
    lines-run f t ts ls (All-head (λ (t : FileLine). role t.kind ≡ TextLine) t ts all) (All-tail (λ (t : FileLine). role t.kind ≡ TextLine) t ts all) other s h

long_take : {A : Type 0} (n : ℕ) (xs : List A) → 0 < n → 0 < length xs → 0 < length (take n xs)
long_take zero xs low _ = absurd (omega (arith, low))
long_take (suc n) [] _ low = absurd (omega (arith, low))
long_take (suc n) (x ∷ xs) _ _ = omega arith

next_is : (n i : ℕ) → n ≡ i + 1 → n ≡ suc i
next_is n i e = omega (arith, e)

-- the end of a run is not its beginning
pub run-onward_at : (ps : List FilePart) (i j : ℕ) → i < length ps → ((p : FilePart) → slice_get ps i ≡ Some p → part_role p ≡ TextLine) → i ≤ j → IsNoText ps j → i < j
run-onward_at ps i j within text low other = beyond (i == j) refl
  where
    beyond : (b : Bool) → (i == j) ≡ b → i < j
    beyond true e =
        let p = element ps i within in
        let there : slice_get ps j ≡ Some p.0 = ap (λ k. slice_get ps k) (sym (eqb-true i j e)) ∙ p.1 in
        absurd (subst (λ o. IfSome o (λ (q : FilePart). part_role q ≢ TextLine)) there other (text p.0 p.1))
    beyond false e = omega (arith, low, eqb-false i j e)

module _ (f : File) (ps : List FilePart) where
  -- text lines up to a part that is none
  pub step-text : All IsPart ps → (i j : ℕ) → i < length ps → i < j → AreText (take (j - i) (drop i ps)) → IsNoText ps j
      → (s : State) (h : Here) → lines_read f (lines_from i ps) s h ≡ (run_read f (lines_of_parts (take (j - i) (drop i ps))) s h >>= λ r. lines_read f (lines_from j ps) r.0 r.1)
  step-text parts i j within onward text other s h =
      let run : List FilePart = take (j - i) (drop i ps) in
      let are_parts : All IsPart run = All-take IsPart (j - i) (drop i ps) (All-drop IsPart i ps parts) in
      let some : 0 < length (drop i ps) = omega (arith, length-drop i ps, within) in
      let whole : run ++ drop j ps ≡ drop i ps =
      ap (λ k. run ++ drop k ps) (omega (arith, onward)) ∙ ap (λ xs. run ++ xs) (sym (drop-drop (j - i) i ps)) ∙ take-append-drop (j - i) (drop i ps) in
      let here : lines_of_parts run ++ lines_from j ps ≡ lines_from i ps = sym (flat_map-append lines_in run (drop j ps)) ∙ ap lines_of_parts whole in
      ap (λ xs. lines_read f xs s h) (sym here)
      ∙ run_of f (lines_of_parts run) (lines_from j ps) (lines-some run are_parts (long_take (j - i) (drop i ps) (omega (arith, onward)) some)) (lines-text run are_parts text) (not_text_first ps j other) s h

  pub step-control : (i n : ℕ) (l : FileLine) → slice_get ps i ≡ Some (DirectivePart l) → role l.kind ≡ ControlLine → n ≡ i + 1 → (s : State) (h : Here)
      → lines_read f (lines_from i ps) s h ≡ (directive_read f l s h >>= λ r. lines_read f (lines_from n ps) r.0 r.1)
  step-control i n l at is e s h = ap (λ xs. lines_read f xs s h) (from-line ps i n l at e) ∙ lines-control f l (lines_from n ps) is s h

  pub step-endif : (i n : ℕ) (l : FileLine) → slice_get ps i ≡ Some (DirectivePart l) → role l.kind ≡ EndifLine → n ≡ i + 1 → (s : State) (h : Here)
      → lines_read f (lines_from i ps) s h ≡ lines_read f (lines_from n ps) s h
  step-endif i n l at is e s h = ap (λ xs. lines_read f xs s h) (from-line ps i n l at e) ∙ lines-endif f l (lines_from n ps) is s h

  pub step-if : (i n : ℕ) (l : FileLine) → slice_get ps i ≡ Some (DirectivePart l) → role l.kind ≡ IfGroup → n ≡ i + 1 → Closes l (group_at (lines_from n ps)) → (s : State) (h : Here)
      → lines_read f (lines_from i ps) s h ≡ choice_read f l (group_at (lines_from n ps)).0 (group_at (lines_from n ps)).1 s h
  step-if i n l at is e closes s h = ap (λ xs. lines_read f xs s h) (from-line ps i n l at e) ∙ lines-if f l (lines_from n ps) is closes s h

  -- an #elif or #else that is run into leads to the #endif
  pub step-end : (list : List Link) (i n : ℕ) (l : FileLine) → slice_get ps i ≡ Some (DirectivePart l) → (role l.kind ≡ ElifGroup) ⊎ (role l.kind ≡ ElseGroup) → n ≡ i + 1
      → (leads : LeadsTo ps list i) → (s : State) (h : Here) → lines_read f (lines_from i ps) s h ≡ lines_read f (lines_from leads.link.end ps) s h
  step-end list i n l at is e leads s h =
      ap (λ xs. lines_read f xs s h) (from-line ps i n l at e) ∙ ended is
      ∙ ap (λ k. ending_read f (group_at (lines_from k ps)).1 s h) here
      ∙ sym (closing-read f (group_at (lines_from (suc i) ps)).1 s h)
      ∙ sym (lines-ended f (lines_from leads.link.end ps) (closing (group_at (lines_from (suc i) ps)).1) leads.at_end s h)
    where
      here : n ≡ suc i
      here = omega (arith, e)

      ended : (role l.kind ≡ ElifGroup) ⊎ (role l.kind ≡ ElseGroup) → lines_read f (l ∷ lines_from n ps) s h ≡ ending_read f (group_at (lines_from n ps)).1 s h
      ended (inl is) = lines-elif f l (lines_from n ps) is s h
      ended (inr is) = lines-else f l (lines_from n ps) is s h

  -- a false condition leads to the next branch of the section, or after it
  pub step-next : (list : List Link) (i n b m : ℕ) (l : FileLine) (k : Role) → n ≡ i + 1 → (leads : LeadsTo ps list i) → b ≡ leads.link.branch
      → slice_get ps b ≡ Some (DirectivePart l) → role l.kind ≡ k → k ≢ ElifGroup → m ≡ b + 1 → (k ≡ IfGroup → Closes l (group_at (lines_from m ps))) → (s : State) (h : Here)
      → next_read f (group_at (lines_from n ps)).1 s h ≡ lines_read f (lines_from m ps) s h
  step-next list i n b m l k e leads is_b at is other e' closes s h =
      next-line f l (lines_from m ps) (group_at (lines_from n ps)).1 k is other closes
      (ap group_at (sym (from-line ps b m l at e')) ∙ ap (λ x. group_at (lines_from x ps)) is_b ∙ leads.at_branch ∙ ap (λ x. (Empty, (group_at (lines_from x ps)).1)) (sym (next_is n i e))) s h

  pub step-elif : (list : List Link) (i n b m : ℕ) (l : FileLine) → n ≡ i + 1 → (leads : LeadsTo ps list i) → b ≡ leads.link.branch
      → slice_get ps b ≡ Some (DirectivePart l) → role l.kind ≡ ElifGroup → m ≡ b + 1 → (s : State) (h : Here)
      → next_read f (group_at (lines_from n ps)).1 s h ≡ choice_read f l (group_at (lines_from m ps)).0 (group_at (lines_from m ps)).1 s h
  step-elif list i n b m l e leads is_b at is e' s h =
      next-elif f l (lines_from m ps) (group_at (lines_from n ps)).1 is
      (ap group_at (sym (from-line ps b m l at e')) ∙ ap (λ x. group_at (lines_from x ps)) is_b ∙ leads.at_branch ∙ ap (λ x. (Empty, (group_at (lines_from x ps)).1)) (sym (next_is n i e))) s h

  -- the end of the file
  pub step-done : (i : ℕ) → length ps ≤ i → (s : State) (h : Here) → lines_read f (lines_from i ps) s h ≡ released f s h
  step-done i past s h = ap (λ xs. lines_read f xs s h) (ap lines_of_parts (drop_all i ps past))
