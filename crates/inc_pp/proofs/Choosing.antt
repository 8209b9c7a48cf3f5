-- How a section is read from the line that opens it, one condition after the other.
use Rattle.std.proofs.Common.{◌≡◌, ◌≢◌, ◌⊎◌, inl, inr, ℕ, suc, ◌+◌, ◌<◌, Bool, true, false, List, Some, None, option_map, Ok, Err, refl, ap, sym, ◌∙◌, subst, length, slice_get, arith}
use Rattle.std.specs.List.{All}
use Rattle.inc_directive.specs.declared.kinds.Role.{Role}
use Rattle.inc_directive.specs.declared.kinds.Role.TheVariants.{IfGroup, ElifGroup, ElseGroup}
use Rattle.inc_directive.specs.Groups.{FileLine, Empty, Link, link_at, role, group_at}
use Rattle.inc_directive.specs.Jumps.{LeadsTo, Closes}
use Rattle.inc_directive.specs.Parts.{FilePart, DirectivePart, IsPart, lines_from, part_role}
use Rattle.inc_directive.specs.TreeLaws.{is_opening}
use Rattle.inc_pp.specs.declared.causes.Cause.{Cause}
use Rattle.inc_pp.specs.declared.faults.Break.{Break}
use Rattle.inc_pp.specs.declared.faults.Break.TheVariants.{Stop, Unread, NoMemory}
use Rattle.inc_pp.specs.Choices.{StopsAt}
use Rattle.inc_pp.proofs.ChoiceReads.{IsChoosing}
use Rattle.inc_pp.specs.HeldFiles.{IsPlanned}
use Rattle.inc_pp.specs.Sections.{is_taken}
use Rattle.inc_pp.specs.Stops.{IfStop, halt_at}
use Rattle.inc_pp.specs.Tasks.{File, State, Here}
use Rattle.inc_pp.specs.Walks.{lines_read}
use Rattle.inc_pp.proofs.LineSteps.{opener_at, branch_at, step-if, step-end, step-next, step-elif}
use Rattle.inc_pp.proofs.Walking.{chosen, refused, stopped}

-- the role of the part at a place
pub role_at : (ps : List FilePart) (i : ℕ) (r : Role) → option_map part_role (slice_get ps i) ≡ Some r
    → (p : FilePart) → slice_get ps i ≡ Some p → part_role p ≡ r
role_at ps i r is p at = let e : Some (part_role p) ≡ Some r = sym (ap (λ o. option_map part_role o) at) ∙ is in cc

-- the link of a line
pub link_is : (list : List Link) (i : ℕ) (part : Link → ℕ) (k : Link) (n : ℕ) → Some n ≡ option_map part (link_at list i) → link_at list i ≡ Some k → n ≡ part k
link_is list i part k n is found = let e : Some n ≡ Some (part k) = is ∙ ap (λ o. option_map part o) found in cc

pub link_some : (list : List Link) (i : ℕ) (part : Link → ℕ) (k : Link) → None ≡ option_map part (link_at list i) → link_at list i ≡ Some k → ⊥
link_some list i part k is found = let e : None ≡ Some (part k) = is ∙ ap (λ o. option_map part o) found in cc

suc_is : (i : ℕ) → suc i ≡ i + 1
suc_is i = omega arith

module _ (ps : List FilePart) (list : List Link) (planned : IsPlanned ps list) where
  closes_at : (i : ℕ) (l : FileLine) → slice_get ps i ≡ Some (DirectivePart l) → role l.kind ≡ IfGroup → Closes l (group_at (lines_from (i + 1) ps))
  closes_at i l at is = subst (λ n. Closes l (group_at (lines_from n ps))) (suc_is i) (planned.closes i l at is)

  -- a section whose one condition is false
  pub section-passed : (f : File) (at next : ℕ) (l m : FileLine) (r : Role) → slice_get ps at ≡ Some (DirectivePart l) → role l.kind ≡ IfGroup
      → Some next ≡ option_map (λ (k : Link). k.branch) (link_at list at) → slice_get ps next ≡ Some (DirectivePart m) → role m.kind ≡ r → r ≢ ElifGroup
      → (s t : State) (h : Here) → is_taken f l s h ≡ Ok (false, t) → lines_read f (lines_from at ps) s h ≡ lines_read f (lines_from (next + 1) ps) t h
  section-passed f at next l m r there opens is behind is_r other s t h refuses =
      let leads = planned.plan.leads at l there (ap is_opening opens) in
      step-if f ps at (at + 1) l there opens refl (closes_at at l there opens) s h
      ∙ refused f l (lines_from (at + 1) ps) s t h refuses
      ∙ step-next f ps list at (at + 1) next (next + 1) m (role m.kind) refl leads (link_is list at (λ k. k.branch) leads.link next is leads.found) behind refl
      (λ same. other (sym is_r ∙ same)) refl (closes_at next m behind) t h

  module _ (P : File → Type 0) (part : ℕ) (old : State) (here : Here) where
    pub choosing-from : part < length ps → ((p : FilePart) → slice_get ps part ≡ Some p → part_role p ≡ IfGroup)
        → IsChoosing P ps part old here part old
    choosing-from low opens = record {
      within = low;
      onward = omega arith;
      opening = λ p at. ap is_opening (opens p at);
      kept = refl;
      same = λ f l under at.
          let is : role l.kind ≡ IfGroup = opens (DirectivePart l) at in
          step-if f ps part (part + 1) l at is refl (closes_at part l at is) old here;
    }

    module _ (at : ℕ) (now : State) (c : IsChoosing P ps part old here at now) where
      opener : (l : FileLine) × (slice_get ps at ≡ Some (DirectivePart l)) × (is_opening (role l.kind) ≡ true)
      opener = opener_at ps at c.within c.opening

      -- the condition is true
      pub choosing-true : (after : State) (r : Bool) → r ≡ true
          → ((f : File) (l : FileLine) → P f → slice_get ps at ≡ Some (DirectivePart l) → is_taken f l now here ≡ Ok (r, after))
          → (f : File) → P f → lines_read f (lines_from part ps) old here ≡ lines_read f (lines_from (at + 1) ps) after here
      choosing-true after r is taken f under =
          let e = opener in
          c.same f e.0 under e.1 ∙ chosen f e.0 (lines_from (at + 1) ps) now after here (taken f e.0 under e.1 ∙ ap (λ b. Ok (b, after)) is)

      -- it stops
      pub choosing-stop : (physical : ℕ) (cause : Cause)
          → ((f : File) (l : FileLine) → P f → slice_get ps at ≡ Some (DirectivePart l) → is_taken f l now here ≡ Err (halt_at f now physical cause))
          → (f : File) → P f → lines_read f (lines_from part ps) old here ≡ Err (halt_at f now physical cause)
      choosing-stop physical cause halts f under =
          let e = opener in
          c.same f e.0 under e.1 ∙ stopped f e.0 (lines_from (at + 1) ps) now here (halt_at f now physical cause) (halts f e.0 under e.1)

      leads : LeadsTo ps list at
      leads = let e = opener in planned.plan.leads at e.0 e.1 e.2

      pub choosing-none : None ≡ option_map (λ (k : Link). k.branch) (link_at list at) → ⊥
      choosing-none is = link_some list at (λ k. k.branch) leads.link is leads.found

      next_is : (next : ℕ) → Some next ≡ option_map (λ (k : Link). k.branch) (link_at list at) → next ≡ leads.link.branch
      next_is next is = link_is list at (λ k. k.branch) leads.link next is leads.found

      pub choosing-within : (next : ℕ) → Some next ≡ option_map (λ (k : Link). k.branch) (link_at list at) → (next < length ps) × (at < next)
      choosing-within next is =
          let e = next_is next is in
          let k = leads in
          (omega (arith, e, k.closed, k.within), omega (arith, e, k.onward))

      module _ (after : State) (b : Bool) (off : b ≡ false) (refuses : (f : File) (l : FileLine) → P f → slice_get ps at ≡ Some (DirectivePart l) → is_taken f l now here ≡ Ok (b, after))
          (next : ℕ) (is : Some next ≡ option_map (λ (k : Link). k.branch) (link_at list at)) (r : Role) (at_next : option_map part_role (slice_get ps next) ≡ Some r) where
        -- the next branch has a condition too
        pub choosing-elif : r ≡ ElifGroup → after.reads ≡ now.reads → IsChoosing P ps part old here next after
        choosing-elif elif_is kept =
            let low = choosing-within next is in
            record {
              within = low.0;
              onward = omega (arith, low.1, c.onward);
              kept = kept ∙ c.kept;
              opening = λ p there. ap is_opening (role_at ps next r at_next p there ∙ elif_is);
              same = λ f l under there.
                  let e = opener in
                  c.same f e.0 under e.1 ∙ refused f e.0 (lines_from (at + 1) ps) now after here (refuses f e.0 under e.1 ∙ ap (λ x. Ok (x, after)) off)
                  ∙ step-elif f ps list at (at + 1) next (next + 1) l refl leads (next_is next is) there (role_at ps next r at_next (DirectivePart l) there ∙ elif_is) refl after here;
            }

        -- it has none, or the section ends
        pub choosing-last : All IsPart ps → r ≢ ElifGroup → (f : File) → P f → lines_read f (lines_from part ps) old here ≡ lines_read f (lines_from (next + 1) ps) after here
        choosing-last parts other f under =
            let e = opener in
            let ends : group_at (lines_from next ps) ≡ (Empty, (group_at (lines_from (suc at) ps)).1) = ap (λ n. group_at (lines_from n ps)) (next_is next is) ∙ (leads).at_branch in
            let l = branch_at ps parts next _ (choosing-within next is).0 ends in
            c.same f e.0 under e.1 ∙ refused f e.0 (lines_from (at + 1) ps) now after here (refuses f e.0 under e.1 ∙ ap (λ x. Ok (x, after)) off)
            ∙ step-next f ps list at (at + 1) next (next + 1) l.0 (role l.0.kind) refl leads (next_is next is) l.1 refl
            (λ same. other (sym (role_at ps next r at_next (DirectivePart l.0) l.1) ∙ same)) refl (closes_at next l.0 l.1) after here

    -- it stops, or memory has run out
    pub stop_of : (at : ℕ) (was after : State) → IsChoosing P ps part old here at was → (fault : Break)
        → IfStop fault (λ physical cause. (after ≡ was) × ((f : File) (l : FileLine) → P f → slice_get ps at ≡ Some (DirectivePart l)
        → is_taken f l was here ≡ Err (halt_at f was physical cause)))
        → IfStop fault (λ physical cause. (f : File) → P f → StopsAt f (lines_read f (lines_from part ps) old here) physical cause after)
    stop_of at was after c (Stop physical cause) halts =
        λ f under. (
          was,
          record { output = ap (λ s. s.output) (sym halts.0); reads = ap (λ s. s.reads) (sym halts.0) },
          choosing-stop at was c physical cause halts.1 f under,
        )
    stop_of at was after c (Unread fault) halts = halts
    stop_of at was after c NoMemory halts = tt

  -- a branch that is run into
  module _ (part : ℕ) (low : part < length ps) (branch : (p : FilePart) → slice_get ps part ≡ Some p → (part_role p ≡ ElifGroup) ⊎ (part_role p ≡ ElseGroup)) where
    opens : (p : FilePart) → (part_role p ≡ ElifGroup) ⊎ (part_role p ≡ ElseGroup) → is_opening (part_role p) ≡ true
    opens p (inl is) = ap is_opening is
    opens p (inr is) = ap is_opening is

    branch_line : (l : FileLine) × (slice_get ps part ≡ Some (DirectivePart l)) × (is_opening (role l.kind) ≡ true)
    branch_line = opener_at ps part low (λ p at. opens p (branch p at))

    leads_on : LeadsTo ps list part
    leads_on = let e = branch_line in planned.plan.leads part e.0 e.1 e.2

    pub end-none : None ≡ option_map (λ (k : Link). k.end) (link_at list part) → ⊥
    end-none is = link_some list part (λ k. k.end) leads_on.link is leads_on.found

    pub end-onward : (end : ℕ) → Some end ≡ option_map (λ (k : Link). k.end) (link_at list part) → part < end
    end-onward end is =
        let e = link_is list part (λ k. k.end) leads_on.link end is leads_on.found in
        let k = leads_on in
        omega (arith, e, k.onward, k.closed)

    pub end-leads : (end : ℕ) → Some end ≡ option_map (λ (k : Link). k.end) (link_at list part) → (f : File) (s : State) (h : Here)
        → lines_read f (lines_from part ps) s h ≡ lines_read f (lines_from end ps) s h
    end-leads end is f s h =
        let e = branch_line in
        step-end f ps list part (part + 1) e.0 e.1 (branch (DirectivePart e.0) e.1) refl leads_on s h
        ∙ ap (λ n. lines_read f (lines_from n ps) s h) (sym (link_is list part (λ k. k.end) leads_on.link end is leads_on.found))
