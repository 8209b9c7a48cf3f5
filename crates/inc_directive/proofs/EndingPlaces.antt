-- Each ending that a group has is at the place of its line, and the links lead there.
use Rattle.std.proofs.Common.{◌≡◌, ℕ, zero, suc, ◌+◌, ◌<◌, ◌≤◌, ◌==◌, true, false, List, [], ◌∷◌, ◌++◌, Option, Some, None, IfSome, Result, Ok, Err, IfOk, length, drop, slice_get, refl, sym, ap, ◌∙◌, arith, subst, append-nil}
use Rattle.std.proofs.lemmas.List.{length-drop}
use Rattle.std.proofs.lemmas.Option.{slice_get_within}
use Rattle.inc_token.specs.TokenLines.{TokenLine}
use Rattle.inc_text.specs.declared.languages.Language.{Language}
use Rattle.inc_directive.specs.Groups.{FileLine, Group, Empty, Ending, FileEnd, Faulty, AtElif, AtElse, AtEndif, Closed, Link, links, link_at, directive_line, with_branch, with_section, role, with_line, branches, else_branch, whole, group_at, group_tree, file_lines, file_lines_from, file_links, links_of_tree}
use Rattle.inc_directive.specs.Jumps.{LeadsOn, closing}
use Rattle.inc_directive.specs.Plans.{Outlook, first_of, condition_closing, else_closing, before_line, jump_to, jump_of, link_of}
use Rattle.inc_directive.proofs.EndingPlans.{IsBelow, outlook, ending_links, link_of_jump}
use Rattle.inc_directive.specs.Parts.{AreNumbered}
use Rattle.inc_directive.specs.TreeLaws.{is_opening}
use Rattle.inc_directive.specs.declared.kinds.Role.{Role}
use Rattle.inc_directive.specs.declared.kinds.Role.TheVariants.{IfGroup, ElifGroup, ElseGroup, EndifLine, TextLine, ControlLine}
use Rattle.inc_directive.specs.declared.sections.BalanceFault.{BalanceFault}
use Rattle.inc_directive.specs.declared.sections.Closing.{Closing}
use Rattle.inc_directive.specs.declared.sections.Closing.TheVariants.{At, Missing, Refused}
use Rattle.inc_directive.specs.declared.sections.Jump.{Jump}
use Rattle.inc_directive.proofs.Endings.{before-outlook, below_line}
use Rattle.inc_directive.proofs.PlanWalks.{place-jump_of, place_at}
use Rattle.inc_directive.proofs.SoundLines.{IsAt, IsSound, opening_at, sound-group_tree}

---- endings are at their places

-- the ending is at its place, not before `n`
abbrev pub StandsAt : List FileLine → ℕ → FileLine → Ending → Type 0
StandsAt lines n l e = (n ≤ l.place) × (l.place < length lines) × (group_at (drop l.place lines) ≡ (Empty, e))

-- so do the endings after it
abbrev pub Stand : List FileLine → ℕ → Ending → Type 0
Stand lines n FileEnd = Unit
Stand lines n (Faulty fault) = Unit
Stand lines n (AtElif l g e) = StandsAt lines n l (AtElif l g e) × Stand lines (suc l.place) e
Stand lines n (AtElse l g e) = StandsAt lines n l (AtElse l g e) × Stand lines (suc l.place) e
Stand lines n (AtEndif l g e) = StandsAt lines n l (AtEndif l g e) × Stand lines (suc l.place) e

stands-lower : (lines : List FileLine) (m n : ℕ) (l : FileLine) (e : Ending) → n ≤ m → StandsAt lines m l e → StandsAt lines n l e
stands-lower lines m n l e le h = let first : m ≤ l.place = h.0 in (omega (arith, le, first), h.1, h.2)

lower : (lines : List FileLine) (m n : ℕ) (e : Ending) → n ≤ m → Stand lines m e → Stand lines n e
lower lines m n FileEnd le h = tt
lower lines m n (Faulty fault) le h = tt
lower lines m n (AtElif l g e) le h = (stands-lower lines m n l (AtElif l g e) le h.0, h.1)
lower lines m n (AtElse l g e) le h = (stands-lower lines m n l (AtElse l g e) le h.0, h.1)
lower lines m n (AtEndif l g e) le h = (stands-lower lines m n l (AtEndif l g e) le h.0, h.1)

-- so does what follows branches
abbrev StandAfter : List FileLine → ℕ → Closed → Type 0
StandAfter lines n r = IfOk r (λ x. Stand lines n x.2)

after-with_branch : (lines : List FileLine) (n : ℕ) (l : FileLine) (g : Group) (r : Closed) → StandAfter lines n r → StandAfter lines n (with_branch l g r)
after-with_branch lines n l g (Ok x) h = h
after-with_branch lines n l g (Err fault) h = tt

after-else_branch : (lines : List FileLine) (n m opening : ℕ) (l : FileLine) (g : Group) (e : Ending) → n ≤ m → Stand lines m e → StandAfter lines n (else_branch opening l g e)
after-else_branch lines n m opening l g FileEnd le h = tt
after-else_branch lines n m opening l g (Faulty fault) le h = tt
after-else_branch lines n m opening l g (AtElif k a e) le h = tt
after-else_branch lines n m opening l g (AtElse k a e) le h = tt
after-else_branch lines n m opening l g (AtEndif k a e) le h = let first : m ≤ k.place = h.0.0 in lower lines (suc k.place) n e (omega (arith, le, first)) h.1

after-branches : (lines : List FileLine) (n m opening : ℕ) (l : FileLine) (g : Group) (e : Ending) → n ≤ m → Stand lines m e → StandAfter lines n (branches opening l g e)
after-branches lines n m opening l g FileEnd le h = tt
after-branches lines n m opening l g (Faulty fault) le h = tt
after-branches lines n m opening l g (AtElif k a e) le h =
    let first : m ≤ k.place = h.0.0 in
    after-with_branch lines n l g (branches opening k a e) (after-branches lines n (suc k.place) opening k a e (omega (arith, le, first)) h.1)
after-branches lines n m opening l g (AtElse k a e) le h =
    let first : m ≤ k.place = h.0.0 in
    after-with_branch lines n l g (else_branch opening k a e) (after-else_branch lines n (suc k.place) opening k a e (omega (arith, le, first)) h.1)
after-branches lines n m opening l g (AtEndif k a e) le h = let first : m ≤ k.place = h.0.0 in lower lines (suc k.place) n e (omega (arith, le, first)) h.1

stand-with_section : (lines : List FileLine) (n : ℕ) (r : Closed) → StandAfter lines n r → Stand lines n (with_section r).1
stand-with_section lines n (Ok x) h = h
stand-with_section lines n (Err fault) h = tt

stand-with_line : (lines : List FileLine) (k : Role) (l : FileLine) (x : Group × Ending) → l.place < length lines → group_at (drop l.place lines) ≡ with_line k l x
    → Stand lines (suc l.place) x.1 → Stand lines l.place (with_line k l x).1
stand-with_line lines TextLine l x within is h = lower lines (suc l.place) l.place x.1 (omega arith) h
stand-with_line lines ControlLine l x within is h = lower lines (suc l.place) l.place x.1 (omega arith) h
stand-with_line lines IfGroup l x within is h =
    stand-with_section lines l.place (branches (directive_line l) l x.0 x.1) (after-branches lines l.place (suc l.place) (directive_line l) l x.0 x.1 (omega arith) h)
stand-with_line lines ElifGroup l x within is h = ((omega arith, within, is), h)
stand-with_line lines ElseGroup l x within is h = ((omega arith, within, is), h)
stand-with_line lines EndifLine l x within is h = ((omega arith, within, is), h)

drop-next : (xs : List FileLine) (i : ℕ) (x : FileLine) (rest : List FileLine) → drop i xs ≡ x ∷ rest → drop (suc i) xs ≡ rest
drop-next [] zero x rest is = cc
drop-next [] (suc i) x rest is = cc
drop-next (y ∷ xs) zero x rest is = cc
drop-next (y ∷ xs) (suc i) x rest is = drop-next xs i x rest is

stands : (lines rest : List FileLine) (n : ℕ) → drop n lines ≡ rest → AreNumbered n rest → n + length rest ≡ length lines → Stand lines n (group_at rest).1
stands lines [] n is numbered len = tt
stands lines (l ∷ rest) n is numbered len =
    let next : n + 1 ≡ suc n = omega arith in
    let here : l.place ≡ n = numbered.0 in
    let below = stands lines rest (suc n) (drop-next lines n l rest is) (subst (λ m. AreNumbered m rest) next numbered.1) (omega (arith, len)) in
    let whole : group_at (drop l.place lines) ≡ with_line (role l.kind) l (group_at rest) = ap (λ m. group_at (drop m lines)) here ∙ ap group_at is in
    subst (λ m. Stand lines m (with_line (role l.kind) l (group_at rest)).1) here
    (stand-with_line lines (role l.kind) l (group_at rest) (omega (arith, here, len)) whole (subst (λ m. Stand lines (suc m) (group_at rest).1) (sym here) below))

numbered-drop : (lines : List FileLine) (first n m : ℕ) → AreNumbered first lines → m ≡ first + n → n ≤ length lines → AreNumbered m (drop n lines)
numbered-drop lines first zero m h e le = let same : first ≡ m = omega arith in subst (λ k. AreNumbered k lines) same h
numbered-drop [] first (suc n) m h e le = tt
numbered-drop (l ∷ lines) first (suc n) m h e le = numbered-drop lines (first + 1) n m h.1 (omega arith) (omega arith)

---- where a section ends

-- the section that the ending is in ends at a place, not before `n`
record Reaches (lines : List FileLine) (n : ℕ) (e : Ending) (end : ℕ) : Type 0 where
  after : n ≤ end
  within : end < length lines
  at : group_at (drop end lines) ≡ (Empty, closing e)

reach_endif : (lines : List FileLine) (n : ℕ) (l : FileLine) (g : Group) (e : Ending) (end : ℕ) → StandsAt lines n l (AtEndif l g e) → At l.place ≡ At end → Reaches lines n (AtEndif l g e) end
reach_endif lines n l g e end h is =
    let same : l.place ≡ end = cc in
    subst (λ m. Reaches lines n (AtEndif l g e) m) same (record { after = h.0; within = h.1; at = h.2 })

reach_else : (lines : List FileLine) (n : ℕ) (e : Ending) (end : ℕ) → Stand lines n e → else_closing (outlook e) ≡ At end → Reaches lines n e end
reach_else lines n FileEnd end h is = cc
reach_else lines n (Faulty fault) end h is = cc
reach_else lines n (AtElif l g e) end h is = cc
reach_else lines n (AtElse l g e) end h is = cc
reach_else lines n (AtEndif l g e) end h is = reach_endif lines n l g e end h.0 is

reach : (lines : List FileLine) (n : ℕ) (e : Ending) (end : ℕ) → Stand lines n e → condition_closing (outlook e) ≡ At end → Reaches lines n e end
reach lines n FileEnd end h is = cc
reach lines n (Faulty fault) end h is = cc
reach lines n (AtElif l g e) end h is =
    let r = reach lines (suc l.place) e end h.1 is in
    record { after = omega (arith, r.after, h.0.0); within = r.within; at = r.at }
reach lines n (AtElse l g e) end h is =
    let r = reach_else lines (suc l.place) e end h.1 is in
    record { after = omega (arith, r.after, h.0.0); within = r.within; at = r.at }
reach lines n (AtEndif l g e) end h is = reach_endif lines n l g e end h.0 is

---- where a line leads

-- the jump of the line at a place before an ending
record Leads (lines : List FileLine) (i : ℕ) (e : Ending) (found : Option Jump) : Type 0 where
  -- the jump that was found
  jump : Jump
  -- it is the one that was found
  is : found ≡ Some jump
  -- it starts at this line
  place : jump.place ≡ i
  -- its branch is behind the line
  onward : i < jump.branch
  -- its end is not before its branch
  closed : jump.branch ≤ jump.end
  -- its end is a line of the file
  within : jump.end < length lines
  -- at the branch the ending of the group begins
  at_branch : group_at (drop jump.branch lines) ≡ (Empty, e)
  -- at the end the line that closes the section begins
  at_end : group_at (drop jump.end lines) ≡ (Empty, closing e)

abbrev leap : ℕ → ℕ → ℕ → Jump
leap place branch end = record { place = place; branch = branch; end = end }

leads_over : (lines : List FileLine) (i : ℕ) (l : FileLine) (e : Ending) (end : ℕ) → StandsAt lines (suc i) l e → l.place ≤ end → end < length lines
    → group_at (drop end lines) ≡ (Empty, closing e) → Leads lines i e (Some (leap i l.place end))
leads_over lines i l e end h le within at =
    record {
      jump = leap i l.place end;
      is = refl;
      place = refl;
      onward = h.0;
      closed = le;
      within = within;
      at_branch = h.2;
      at_end = at;
    }

leads_endif : (lines : List FileLine) (i : ℕ) (l : FileLine) (g : Group) (e : Ending) (end : ℕ) → StandsAt lines (suc i) l (AtEndif l g e) → At l.place ≡ At end
    → Leads lines i (AtEndif l g e) (Some (leap i l.place end))
leads_endif lines i l g e end h is =
    let same : l.place ≡ end = cc in
    let r = reach_endif lines (suc i) l g e end h is in
    leads_over lines i l (AtEndif l g e) end h (omega (arith, same)) r.within r.at

leads_else : (lines : List FileLine) (i : ℕ) (e : Ending) (end : ℕ) → Stand lines (suc i) e → else_closing (outlook e) ≡ At end → Leads lines i e (jump_to i (first_of (outlook e).pending) (At end))
leads_else lines i FileEnd end h is = cc
leads_else lines i (Faulty fault) end h is = cc
leads_else lines i (AtElif l g e) end h is = cc
leads_else lines i (AtElse l g e) end h is = cc
leads_else lines i (AtEndif l g e) end h is = leads_endif lines i l g e end h.0 is

leads_condition : (lines : List FileLine) (i : ℕ) (e : Ending) (end : ℕ) → Stand lines (suc i) e → condition_closing (outlook e) ≡ At end
    → Leads lines i e (jump_to i (first_of (outlook e).pending) (At end))
leads_condition lines i FileEnd end h is = cc
leads_condition lines i (Faulty fault) end h is = cc
leads_condition lines i (AtElif l g e) end h is =
    let r = reach lines (suc l.place) e end h.1 is in
    leads_over lines i l (AtElif l g e) end h.0 (omega (arith, r.after)) r.within r.at
leads_condition lines i (AtElse l g e) end h is =
    let r = reach_else lines (suc l.place) e end h.1 is in
    leads_over lines i l (AtElse l g e) end h.0 (omega (arith, r.after)) r.within r.at
leads_condition lines i (AtEndif l g e) end h is = leads_endif lines i l g e end h.0 is

-- where the section closes
by_condition : (lines : List FileLine) (i : ℕ) (e : Ending) (c : Closing) → condition_closing (outlook e) ≡ c → IsAt c → Stand lines (suc i) e
    → Leads lines i e (jump_to i (first_of (outlook e).pending) (condition_closing (outlook e)))
by_condition lines i e (At end) is here h =
    subst (λ (c : Closing). Leads lines i e (jump_to i (first_of (outlook e).pending) c)) (sym is) (leads_condition lines i e end h is)
by_condition lines i e Missing is here h = absurd here
by_condition lines i e (Refused fault) is here h = absurd here

by_else : (lines : List FileLine) (i : ℕ) (e : Ending) (c : Closing) → else_closing (outlook e) ≡ c → IsAt c → Stand lines (suc i) e
    → Leads lines i e (jump_to i (first_of (outlook e).pending) (else_closing (outlook e)))
by_else lines i e (At end) is here h =
    subst (λ (c : Closing). Leads lines i e (jump_to i (first_of (outlook e).pending) c)) (sym is) (leads_else lines i e end h is)
by_else lines i e Missing is here h = absurd here
by_else lines i e (Refused fault) is here h = absurd here

leads : (k : Role) (lines : List FileLine) (i line : ℕ) (e : Ending) → is_opening k ≡ true → IsSound (before_line k i line (outlook e)) → Stand lines (suc i) e
    → Leads lines i e (jump_of k i (outlook e))
leads IfGroup lines i line e opens sound h = by_condition lines i e (condition_closing (outlook e)) refl (opening_at (condition_closing (outlook e)) line (outlook e) sound) h
leads ElifGroup lines i line e opens sound h = by_condition lines i e (condition_closing (outlook e)) refl sound.pending.0 h
leads ElseGroup lines i line e opens sound h = by_else lines i e (else_closing (outlook e)) refl sound.pending.0 h
leads EndifLine lines i line e opens sound h = cc
leads TextLine lines i line e opens sound h = cc
leads ControlLine lines i line e opens sound h = cc

---- the link of a line

-- the links of lines, one line after the other
abbrev walked_links : List FileLine → List Link
walked_links [] = []
walked_links (l ∷ ls) = link_of_jump (jump_of (role l.kind) l.place (outlook (group_at ls).1)) ++ walked_links ls

below_lines : (ls : List FileLine) → IsBelow (walked_links ls) (outlook (group_at ls).1) (group_at ls)
below_lines [] = record { same = refl; linked = λ _. refl }
below_lines (l ∷ ls) =
    subst (λ (o : Outlook). IsBelow (walked_links (l ∷ ls)) o (group_at (l ∷ ls))) (before-outlook (role l.kind) l (group_at ls))
    (below_line l (group_at ls) (walked_links ls) (outlook (group_at ls).1) (below_lines ls))

links-whole : (list : List Link) (g : Group) (e : Ending) (tree : Group) → ((outlook e).fault ≡ None → list ≡ links g ++ ending_links e) → whole g e ≡ Ok tree → list ≡ links tree
links-whole list g FileEnd tree h t =
    let same : g ≡ tree = cc in
    h refl ∙ append-nil (links g) ∙ ap links same
links-whole list g (Faulty fault) tree h t = cc
links-whole list g (AtElif l k e) tree h t = cc
links-whole list g (AtElse l k e) tree h t = cc
links-whole list g (AtEndif l k e) tree h t = cc

walked_links-tree : (lines : List FileLine) (tree : Group) → group_tree lines ≡ Ok tree → walked_links lines ≡ links tree
walked_links-tree lines tree h = let b = below_lines lines in links-whole (walked_links lines) (group_at lines).0 (group_at lines).1 tree b.linked h

passed : (jump : Option Jump) (rest : List Link) (at place : ℕ) → IfSome jump (λ s. s.place ≡ place) → place < at → link_at (link_of_jump jump ++ rest) at ≡ link_at rest at
passed None rest at place h less = refl
passed (Some s) rest at place h less =
    let other : (s.place == at) ≡ false = grind arith in
    rw other refl

reached : (jump : Option Jump) (rest : List Link) (at : ℕ) (s : Jump) → jump ≡ Some s → s.place ≡ at → link_at (link_of_jump jump ++ rest) at ≡ Some (link_of s)
reached jump rest at s is here =
    let this : (s.place == at) ≡ true = grind arith in
    rw (is, this) refl

found_at : (ls : List FileLine) (first i at : ℕ) (l : FileLine) (s : Jump) → AreNumbered first ls → at ≡ first + i → slice_get ls i ≡ Some l
    → jump_of (role l.kind) at (outlook (group_at (drop (suc i) ls)).1) ≡ Some s → s.place ≡ at → link_at (walked_links ls) at ≡ Some (link_of s)
found_at [] first i at l s h e is leads here = cc
found_at (m ∷ ls) first zero at l s h e is leads here =
    let same : m ≡ l = cc in
    let place : m.place ≡ at = place_at first (m ∷ ls) zero at m h e refl in
    let o = outlook (group_at ls).1 in
    reached (jump_of (role m.kind) m.place o) (walked_links ls) at s (ap (λ (x : FileLine). jump_of (role x.kind) m.place o) same ∙ ap (λ n. jump_of (role l.kind) n o) place ∙ leads) here
found_at (m ∷ ls) first (suc i) at l s h e is leads here =
    let before : m.place < at = omega (arith, h.0, e) in
    let o = outlook (group_at ls).1 in
    passed (jump_of (role m.kind) m.place o) (walked_links ls) at m.place (place-jump_of (role m.kind) m.place o) before
    ∙ found_at ls (first + 1) i at l s h.1 (omega arith) is leads here

pub leads_on : (lines : List FileLine) (tree : Group) (i : ℕ) (l : FileLine) → AreNumbered 0 lines → group_tree lines ≡ Ok tree → slice_get lines i ≡ Some l → is_opening (role l.kind) ≡ true
    → LeadsOn lines (links tree) i
leads_on lines tree i l numbers h is opens =
    let less : i < length lines = slice_get_within lines i l is in
    let rest = drop (suc i) lines in
    let e = (group_at rest).1 in
    let place : l.place ≡ i = place_at 0 lines i i l numbers (omega arith) is in
    let stand : Stand lines (suc i) e = stands lines rest (suc i) refl (numbered-drop lines 0 (suc i) (suc i) numbers (omega arith) (omega (arith, less))) (omega (arith, less, length-drop (suc i) lines)) in
    let sound : IsSound (before_line (role l.kind) i (directive_line l) (outlook e)) =
    subst (λ n. IsSound (before_line (role l.kind) n (directive_line l) (outlook e))) place (sound-group_tree lines tree h i l is) in
    let to = leads (role l.kind) lines i (directive_line l) e opens sound stand in
    record {
      link = link_of to.jump;
      found = ap (λ (ks : List Link). link_at ks i) (sym (walked_links-tree lines tree h)) ∙ found_at lines 0 i i l to.jump numbers (omega arith) is to.is to.place;
      onward = to.onward;
      closed = to.closed;
      within = to.within;
      at_branch = to.at_branch;
      at_end = to.at_end;
    }

numbered : (language : Language) (place : ℕ) (ls : List TokenLine) → AreNumbered place (file_lines_from language place ls)
numbered language place [] = tt
numbered language place (l ∷ ls) = (refl, numbered language (place + 1) ls)

pub leads_on-file : (language : Language) (ls : List TokenLine) (list : List Link) → file_links language ls ≡ Ok list → (i : ℕ) (l : FileLine)
    → slice_get (file_lines language ls) i ≡ Some l → is_opening (role l.kind) ≡ true → LeadsOn (file_lines language ls) list i
leads_on-file language ls list h i l is opens = leads_by language ls list (group_tree (file_lines language ls)) refl h i l is opens
  where
    leads_by : (language : Language) (ls : List TokenLine) (list : List Link) (r : Result Group BalanceFault) → group_tree (file_lines language ls) ≡ r → links_of_tree r ≡ Ok list → (i : ℕ) (l : FileLine)
        → slice_get (file_lines language ls) i ≡ Some l → is_opening (role l.kind) ≡ true → LeadsOn (file_lines language ls) list i
    leads_by language ls list (Ok tree) t h i l is opens =
        let same : links tree ≡ list = cc in
        subst (λ (ks : List Link). LeadsOn (file_lines language ls) ks i) same (leads_on (file_lines language ls) tree i l (numbered language 0 ls) t is opens)
    leads_by language ls list (Err fault) t h i l is opens = cc
