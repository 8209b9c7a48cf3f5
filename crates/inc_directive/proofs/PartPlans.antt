-- The walk over the parts of a file, from the last one on, and what it says of the groups.
use Rattle.std.proofs.Common.{◌≡◌, ◌≢◌, ℕ, zero, suc, ◌+◌, ◌<◌, ◌≤◌, ◌==◌, true, false, Bool, List, [], ◌∷◌, ◌++◌, Option, Some, None, IfSome, MatchOption, Result, Ok, Err, length, drop, slice_get, map, reverse, option_map, option_to_list, if◌then◌else◌, refl, sym, ap, ◌∙◌, arith, subst}
use Rattle.std.specs.List.{All, filter}
use Rattle.std.proofs.lemmas.Bool.{eqb-true}
use Rattle.std.proofs.lemmas.List.{drop_all, reverse-append}
use Rattle.std.proofs.lemmas.List.Elements.{All-nil, All-cons, All-head, All-tail}
use Rattle.inc_directive.specs.Groups.{FileLine, Group, Empty, Ending, Link, links, link_at, role, group_at, group_tree, links_of_tree}
use Rattle.inc_directive.specs.Jumps.{IsPlanOf, LeadsTo, LeadsOn, closing, fault_in}
use Rattle.inc_directive.specs.Parts.{FilePart, DirectivePart, AreNumbered, IsPart, lines_of_parts, part_role}
use Rattle.inc_directive.specs.Plans.{Outlook, before_line, first_fault, first_of, jump_of, jump_to, lead_of, link_by, link_of, links_from, closing_at, else_closing_at, rest_of, before_opening, condition_closing, else_closing}
use Rattle.inc_directive.specs.TreeLaws.{is_opening, opening_places}
use Rattle.inc_directive.specs.declared.kinds.Role.{Role}
use Rattle.inc_directive.specs.declared.kinds.Role.TheVariants.{IfGroup, ElifGroup, ElseGroup, EndifLine, TextLine, ControlLine}
use Rattle.inc_directive.specs.declared.sections.BalanceFault.{BalanceFault}
use Rattle.inc_directive.specs.declared.sections.Closing.{Closing}
use Rattle.inc_directive.specs.declared.sections.Closing.TheVariants.{At, Missing, Refused}
use Rattle.inc_directive.specs.declared.sections.Jump.{Jump}
use Rattle.inc_directive.specs.declared.sections.Lead.{Lead}
use Rattle.inc_directive.specs.declared.sections.Pending.{Pending}
use Rattle.inc_directive.proofs.EndingPlaces.{leads_on}
use Rattle.inc_directive.proofs.Endings.{answer_below}
use Rattle.inc_directive.proofs.PartHeads.{closing-expanded, expanded, expanded_pair, expanded_tree, group-from, head_at, head_of, heads_from, length-heads, numbered-heads, tree-of_parts}
use Rattle.inc_directive.proofs.PlanWalks.{AreWalked, place-jump_of, walked_line, walked_none}
use Rattle.inc_directive.proofs.TreeLinks.{links-group_tree}
use Rattle.inc_token.proofs.Slices.{drop-at}

---- links are those of the jumps

-- the lead of a jump
abbrev lead_by : Option Jump → Option Lead
lead_by j = option_map lead_of j

pub links-more : (i : ℕ) (jump : Option Jump) (ds : List (Option Lead)) (jumps : List Jump) → IfSome jump (λ s. s.place ≡ i) → links_from (i + 1) ds ≡ map link_of jumps
    → links_from i (option_map lead_of jump ∷ ds) ≡ map link_of (option_to_list jump ++ jumps)
links-more i None ds jumps at h = h
links-more i (Some s) ds jumps at h =
    ap (λ n. link_by n (lead_of s) ∷ links_from (i + 1) ds) (sym at) ∙ ap (λ (ks : List Link). link_of s ∷ ks) h

-- the link of a part
not_before : (ds : List (Option Lead)) (first i : ℕ) → i < first → link_at (links_from first ds) i ≡ None
not_before [] first i less = refl
not_before (None ∷ ds) first i less = not_before ds (first + 1) i (omega arith)
not_before (Some d ∷ ds) first i less =
    let other : (first == i) ≡ false = grind arith in
    rw other (not_before ds (first + 1) i (omega arith))

pub lead_at : (ds : List (Option Lead)) (first n i : ℕ) (d : Option Lead) → slice_get ds n ≡ Some d → i ≡ first + n → option_map (link_by i) d ≡ link_at (links_from first ds) i
lead_at [] first n i d is e = cc
lead_at (None ∷ ds) first zero i None is e = let here : i < first + 1 = omega (arith, e) in sym (not_before ds (first + 1) i here)
lead_at (None ∷ ds) first zero i (Some d) is e = cc
lead_at (Some c ∷ ds) first zero i None is e = cc
lead_at (Some c ∷ ds) first zero i (Some d) is e =
    let same : c ≡ d = cc in
    let here : first ≡ i = omega (arith, e) in
    let this : (first == i) ≡ true = grind arith in
    rw this (ap (λ n. Some (link_by n d)) (sym here) ∙ ap (λ (x : Lead). Some (link_by first x)) (sym same))
lead_at (None ∷ ds) first (suc n) i d is e = lead_at ds (first + 1) n i d is (omega (arith, e))
lead_at (Some c ∷ ds) first (suc n) i d is e =
    let other : (first == i) ≡ false = grind arith in
    rw other (lead_at ds (first + 1) n i d is (omega (arith, e)))

pub lead_past : (ds : List (Option Lead)) (first n i : ℕ) → length ds ≤ n → i ≡ first + n → None ≡ link_at (links_from first ds) i
lead_past [] first n i past e = refl
lead_past (None ∷ ds) first zero i past e = absurd (omega (arith, past))
lead_past (Some c ∷ ds) first zero i past e = absurd (omega (arith, past))
lead_past (None ∷ ds) first (suc n) i past e = lead_past ds (first + 1) n i (omega (arith, past)) (omega (arith, e))
lead_past (Some c ∷ ds) first (suc n) i past e =
    let other : (first == i) ≡ false = grind arith in
    rw other (lead_past ds (first + 1) n i (omega (arith, past)) (omega (arith, e)))

---- no ending is after the last part

abbrev pub IsClosingUnder : ℕ → Closing → Type 0
IsClosingUnder n (At end) = end < n
IsClosingUnder n Missing = Unit {0}
IsClosingUnder n (Refused fault) = Unit {0}

abbrev pub AreUnder : ℕ → List Pending → Type 0
AreUnder n [] = Unit {0}
AreUnder n (p ∷ ps) = (p.place < n) × IsClosingUnder n p.closing × AreUnder n ps

closing-under : (n : ℕ) (ps : List Pending) (fault : Option BalanceFault) → AreUnder n ps → IsClosingUnder n (closing_at (first_of ps) fault)
closing-under n [] None h = tt
closing-under n [] (Some fault) h = tt
closing-under n (p ∷ ps) fault h = h.1

refused-under : (n : ℕ) (x : Bool) (c : Closing) (fault : BalanceFault) → IsClosingUnder n c → IsClosingUnder n (if x then c else Refused fault)
refused-under n true c fault h = h
refused-under n false c fault h = tt

else-under : (n : ℕ) (ps : List Pending) (fault : Option BalanceFault) → AreUnder n ps → IsClosingUnder n (else_closing_at (first_of ps) fault)
else-under n [] None h = tt
else-under n [] (Some fault) h = tt
else-under n (p ∷ ps) fault h = refused-under n p.is_endif p.closing _ h.1

rest-under : (n : ℕ) (ps : List Pending) → AreUnder n ps → AreUnder n (rest_of ps)
rest-under n [] h = tt
rest-under n (p ∷ ps) h = h.2

opening-under : (n line : ℕ) (c : Closing) (o : Outlook) → AreUnder n o.pending → AreUnder n (before_opening c line o).pending
opening-under n line (At end) o h = rest-under n o.pending h
opening-under n line Missing o h = tt
opening-under n line (Refused fault) o h = tt

before-under : (n i line : ℕ) (r : Role) (o : Outlook) → i < n → AreUnder n o.pending → AreUnder n (before_line r i line o).pending
before-under n i line IfGroup o less h = opening-under n line (condition_closing o) o h
before-under n i line ElifGroup o less h = (less, closing-under n o.pending o.fault h, rest-under n o.pending h)
before-under n i line ElseGroup o less h = (less, else-under n o.pending o.fault h, rest-under n o.pending h)
before-under n i line EndifLine o less h = (less, less, h)
before-under n i line TextLine o less h = h
before-under n i line ControlLine o less h = h

-- a jump leads to no part after the last
abbrev pub IsJumpUnder : ℕ → Option Jump → Type 0
IsJumpUnder n jump = IfSome jump (λ j. (j.branch < n) × (j.end < n))

to-under : (n i : ℕ) (ps : List Pending) (c : Closing) → AreUnder n ps → IsClosingUnder n c → IsJumpUnder n (jump_to i (first_of ps) c)
to-under n i [] c h under = tt
to-under n i (p ∷ ps) (At end) h under = (h.0, under)
to-under n i (p ∷ ps) Missing h under = tt
to-under n i (p ∷ ps) (Refused fault) h under = tt

pub jump-under : (n i : ℕ) (r : Role) (o : Outlook) → AreUnder n o.pending → IsJumpUnder n (jump_of r i o)
jump-under n i IfGroup o h = to-under n i o.pending (condition_closing o) h (closing-under n o.pending o.fault h)
jump-under n i ElifGroup o h = to-under n i o.pending (condition_closing o) h (closing-under n o.pending o.fault h)
jump-under n i ElseGroup o h = to-under n i o.pending (else_closing o) h (else-under n o.pending o.fault h)
jump-under n i EndifLine o h = tt
jump-under n i TextLine o h = tt
jump-under n i ControlLine o h = tt

---- the walk

-- the parts from one on are walked over
pub record IsWalked (ps : List FilePart) (i : ℕ) (o : Outlook) (leads : List (Option Lead)) : Type 0 where
  -- the jumps that were found
  pub jumps : List Jump
  -- they are those of the directives from this part on
  pub walked : AreWalked i jumps o (group_at (drop i (heads_from 0 ps)))
  -- the leads are their links
  pub links : links_from i (reverse leads) ≡ map link_of jumps
  -- what waits is among the parts
  pub under : AreUnder (length ps) o.pending

pub walked_begun : (ps : List FilePart) (i : ℕ) (o : Outlook) (leads : List (Option Lead)) → i ≡ length ps → o ≡ record { pending = []; fault = None } → leads ≡ [] → IsWalked ps i o leads
walked_begun ps i o leads end empty none =
    let past : drop i (heads_from 0 ps) ≡ [] = drop_all i (heads_from 0 ps) (omega (arith, end, length-heads 0 ps)) in
    record {
      jumps = [];
      walked = walked_none i [] o (drop i (heads_from 0 ps)) refl empty past;
      links = ap (λ (ds : List (Option Lead)). links_from i (reverse ds)) none;
      under = subst (λ (q : Outlook). AreUnder (length ps) q.pending) (sym empty) tt;
    }

-- with one part more
pub walked_part : (ps : List FilePart) (i n : ℕ) (o q : Outlook) (leads more : List (Option Lead)) (r : Role) (jump : Option Jump) → n ≡ i + 1 → i < length ps
    → option_map part_role (slice_get ps i) ≡ Some r → jump ≡ jump_of r i o → q ≡ before_line r i i o → more ≡ leads ++ option_map lead_of jump ∷ [] → IsWalked ps n o leads → IsWalked ps i q more
walked_part ps i n o q leads more r jump next less acts leads_is before pushed h = by (slice_get ps i) refl
  where
    by : (found : Option FilePart) → slice_get ps i ≡ found → IsWalked ps i q more
    by None none = let no : None ≡ Some r = ap (option_map part_role) (sym none) ∙ acts in cc
    by (Some p) is =
        let same : part_role p ≡ r = (let both : Some (part_role p) ≡ Some r = ap (option_map part_role) (sym is) ∙ acts in cc) in
        let head = head_of i p in
        let heads = heads_from 0 ps in
        let there : slice_get heads i ≡ Some head = head_at i 0 i ps p is (omega arith) in
        let rest = group_at (drop (suc i) heads) in
        let on : n ≡ suc i = omega (arith, next) in
        let below : AreWalked (i + 1) h.jumps o rest =
        subst (λ k. AreWalked (i + 1) h.jumps o (group_at (drop k heads))) on (subst (λ m. AreWalked m h.jumps o (group_at (drop n heads))) next h.walked) in
        let leap : jump ≡ jump_of (role head.kind) i o = leads_is ∙ ap (λ (k : Role). jump_of k i o) (sym same) in
        let outlook : q ≡ before_line (role head.kind) i i o = before ∙ ap (λ (k : Role). before_line k i i o) (sym same) in
        let placed : IfSome jump (λ s. s.place ≡ i) = subst (λ (j : Option Jump). IfSome j (λ s. s.place ≡ i)) (sym leads_is) (place-jump_of r i o) in
        let back : reverse more ≡ option_map lead_of jump ∷ reverse leads = ap reverse pushed ∙ reverse-append leads (option_map lead_of jump ∷ []) in
        record {
          jumps = option_to_list jump ++ h.jumps;
          walked = subst (λ (fs : List FileLine). AreWalked i (option_to_list jump ++ h.jumps) q (group_at fs)) (sym (drop-at heads i head there))
              (walked_line head h.jumps o rest jump q leap outlook below);
          links = ap (links_from i) back ∙ links-more i jump (reverse leads) h.jumps placed (ap (λ k. links_from k (reverse leads)) (sym next) ∙ h.links);
          under = subst (λ (x : Outlook). AreUnder (length ps) x.pending) (sym before) (before-under (length ps) i i r o less h.under);
        }

---- what the walk says once it is over

-- parts that open nothing have no link
origins_none : (list : List Link) (places : List ℕ) (i : ℕ) → map (λ (k : Link). k.from) list ≡ places → All (λ k. k ≢ i) places → link_at list i ≡ None
origins_none [] places i is h = refl
origins_none (k ∷ list) places i is h =
    let all : All (λ p. p ≢ i) (k.from ∷ map (λ (j : Link). j.from) list) = subst (All (λ p. p ≢ i)) (sym is) h in
    let other : (k.from == i) ≡ false = differ (k.from == i) refl in
    rw other (origins_none list (map (λ (j : Link). j.from) list) i refl (All-tail (λ p. p ≢ i) k.from (map (λ (j : Link). j.from) list) all))
  where
    differ : (x : Bool) → (k.from == i) ≡ x → x ≡ false
    differ true e = absurd (All-head (λ p. p ≢ i) k.from (map (λ (j : Link). j.from) list) (subst (All (λ p. p ≢ i)) (sym is) h) (eqb-true k.from i e))
    differ false e = refl

either : (x : Bool) (P : Bool → Type 0) → P true → P false → P x
either true P f g = f
either false P f g = g

places_apart : (hs : List FileLine) (first i : ℕ) → AreNumbered first hs → i < first → All (λ k. k ≢ i) (opening_places hs)
places_apart [] first i h less = All-nil (λ k. k ≢ i)
places_apart (l ∷ hs) first i h less =
    let more = places_apart hs (first + 1) i h.1 (omega (arith, less)) in
    let P : Bool → Type 0 = λ x. All (λ k. k ≢ i) (map (λ (m : FileLine). m.place) (if x then l ∷ filter (λ (m : FileLine). is_opening (role m.kind)) hs else filter (λ (m : FileLine). is_opening (role m.kind)) hs)) in
    either (is_opening (role l.kind)) P (All-cons (λ k. k ≢ i) l.place (opening_places hs) (λ same. omega (arith, same, h.0, less)) more) more

not_opening : (hs : List FileLine) (first n i : ℕ) (h : FileLine) → AreNumbered first hs → slice_get hs n ≡ Some h → i ≡ first + n → is_opening (role h.kind) ≡ false → All (λ k. k ≢ i) (opening_places hs)
not_opening [] first n i h numbered is e shut = cc
not_opening (l ∷ hs) first zero i h numbered is e shut =
    let same : l ≡ h = cc in
    let closed : is_opening (role l.kind) ≡ false = ap (λ (x : FileLine). is_opening (role x.kind)) same ∙ shut in
    rw closed (places_apart hs (first + 1) i numbered.1 (omega (arith, e)))
not_opening (l ∷ hs) first (suc n) i h numbered is e shut =
    let more = not_opening hs (first + 1) n i h numbered.1 is (omega (arith, e)) shut in
    let P : Bool → Type 0 = λ x. All (λ k. k ≢ i) (map (λ (m : FileLine). m.place) (if x then l ∷ filter (λ (m : FileLine). is_opening (role m.kind)) hs else filter (λ (m : FileLine). is_opening (role m.kind)) hs)) in
    either (is_opening (role l.kind)) P (All-cons (λ k. k ≢ i) l.place (opening_places hs) (λ same. omega (arith, same, numbered.0, e)) more) more

to_parts : (ps : List FilePart) (list : List Link) (i : ℕ) → All IsPart ps → LeadsOn (heads_from 0 ps) list i → LeadsTo ps list i
to_parts ps list i parts h =
    let heads = heads_from 0 ps in
    let from = group-from ps (suc i) parts in
    record {
      link = h.link;
      found = h.found;
      onward = h.onward;
      closed = h.closed;
      within = omega (arith, h.within, length-heads 0 ps);
      at_branch = group-from ps h.link.branch parts ∙ ap (expanded_pair ps) h.at_branch
          ∙ ap (λ (e : Ending). (Empty, e)) (ap (λ (x : Group × Ending). x.1) (sym from));
      at_end = group-from ps h.link.end parts ∙ ap (expanded_pair ps) h.at_end
          ∙ ap (λ (e : Ending). (Empty, e)) (sym (ap (λ (x : Group × Ending). closing x.1) from ∙ closing-expanded ps (group_at (drop (suc i) heads)).1));
    }

plan_by : (ps : List FilePart) (list : List Link) (tree : Group) → All IsPart ps → group_tree (heads_from 0 ps) ≡ Ok tree → links tree ≡ list → IsPlanOf ps list
plan_by ps list tree parts is same = record {
  tree = (expanded ps tree, tree-of_parts ps parts ∙ ap (expanded_tree ps) is);
  leads = λ i l at opens.
      to_parts ps list i parts
      (subst (λ (ks : List Link). LeadsOn (heads_from 0 ps) ks i) same
      (leads_on (heads_from 0 ps) tree i (head_of i (DirectivePart l)) (numbered-heads 0 ps) is (head_at i 0 i ps (DirectivePart l) at (omega arith)) opens));
  none = λ i p at shut.
      origins_none list (opening_places (heads_from 0 ps)) i (ap (map (λ (k : Link). k.from)) (sym same) ∙ links-group_tree (heads_from 0 ps) tree is)
      (not_opening (heads_from 0 ps) 0 i i (head_of i p) (numbered-heads 0 ps) (head_at i 0 i ps p at (omega arith)) (omega arith) shut);
}

pub plan_over : (ps : List FilePart) (o : Outlook) (leads all : List (Option Lead)) → All IsPart ps → IsWalked ps 0 o leads → first_fault o.pending o.fault ≡ None → all ≡ reverse leads → IsPlanOf ps (links_from 0 all)
plan_over ps o leads all parts h none is =
    let answer = subst (λ (f : Option BalanceFault). MatchOption f (links_of_tree (group_tree (heads_from 0 ps)) ≡ Ok (map link_of h.jumps)) (λ g. group_tree (heads_from 0 ps) ≡ Err g)) none
    (answer_below (map link_of h.jumps) o (group_at (heads_from 0 ps)) h.walked.below) in
    let list : map link_of h.jumps ≡ links_from 0 all = sym (ap (links_from 0) is ∙ h.links) in
    by (group_tree (heads_from 0 ps)) refl answer list
  where
    by : (r : Result Group BalanceFault) → group_tree (heads_from 0 ps) ≡ r → links_of_tree r ≡ Ok (map link_of h.jumps) → map link_of h.jumps ≡ links_from 0 all → IsPlanOf ps (links_from 0 all)
    by (Ok tree) t answer list = let same : links tree ≡ map link_of h.jumps = cc in plan_by ps (links_from 0 all) tree parts t (same ∙ list)
    by (Err fault) t answer list = cc

pub fault_over : (ps : List FilePart) (o : Outlook) (leads : List (Option Lead)) (fault : BalanceFault) → All IsPart ps → IsWalked ps 0 o leads → first_fault o.pending o.fault ≡ Some fault
    → group_tree (lines_of_parts ps) ≡ Err (fault_in ps fault)
fault_over ps o leads fault parts h some =
    let answer = subst (λ (f : Option BalanceFault). MatchOption f (links_of_tree (group_tree (heads_from 0 ps)) ≡ Ok (map link_of h.jumps)) (λ g. group_tree (heads_from 0 ps) ≡ Err g)) some
    (answer_below (map link_of h.jumps) o (group_at (heads_from 0 ps)) h.walked.below) in
    tree-of_parts ps parts ∙ ap (expanded_tree ps) answer
