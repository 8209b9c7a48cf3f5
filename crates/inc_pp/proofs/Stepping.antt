-- One step of a walk: a run, and a directive of no section.
use Rattle.std.proofs.Common.{◌≡◌, ◌≢◌, ℕ, ◌+◌, ◌-◌, ◌<◌, ◌≤◌, Bool, List, Option, Some, None, Result, Ok, Err, refl, ap, sym, ◌∙◌, length, take, drop, slice_get}
use Rattle.std.specs.List.{All}
use Rattle.inc_directive.specs.declared.kinds.Role.TheVariants.{TextLine, ControlLine, EndifLine}
use Rattle.inc_directive.specs.Groups.{FileLine, role}
use Rattle.inc_directive.specs.Parts.{FilePart, DirectivePart, IsPart, lines_from, lines_of_parts, part_role}
use Rattle.inc_lookup.specs.declared.projects.Found.{Found}
use Rattle.inc_lookup.specs.Projects.{Layout}
use Rattle.inc_macro.specs.Results.{◌>>=◌}
use Rattle.inc_cond.specs.Headers.{HeaderSearch}
use Rattle.inc_pp.specs.declared.faults.Break.{Break}
use Rattle.inc_pp.specs.declared.faults.Break.TheVariants.{Stop, Unread, NoMemory}
use Rattle.inc_pp.specs.Choices.{StopsAt, LeadsTo}
use Rattle.inc_pp.specs.Directives.{control_read, released_for}
use Rattle.inc_pp.specs.Includes.{included}
use Rattle.inc_pp.specs.Runs.{run_read}
use Rattle.inc_pp.specs.Settings.{Settings}
use Rattle.inc_pp.specs.Stops.{IfStop, halt_at, IsSearched, IsUnder, IsIn}
use Rattle.inc_pp.specs.Tasks.{File, State, Entry, Here, Halt, Deeper}
use Rattle.inc_pp.specs.Walks.{lines_read}
use Rattle.inc_pp.proofs.LineSteps.{AreText, IsNoText, directive_at, run-onward_at, step-text, step-control, step-endif}

-- no file is to be read
pub included-none : (d : Deeper) (s : State) (h : Here) → included d None s h ≡ Ok (s, h)
included-none None s h = refl
included-none (Some read) s h = refl

-- a step that leads to no file
pub on_to : (ps : List FilePart) (f : File) (part next : ℕ) (s t : State) (h k : Here) → lines_read f (lines_from part ps) s h ≡ lines_read f (lines_from next ps) t k
    → LeadsTo ps f part s h None next t k
on_to ps f part next s t h k e = e ∙ ap (λ r. r >>= λ x. lines_read f (lines_from next ps) x.0 x.1) (sym (included-none f.deeper t k))

control_other : ControlLine ≢ TextLine
control_other = λ e. cc

endif_other : EndifLine ≢ TextLine
endif_other = λ e. cc

module _ (ps : List FilePart) (part : ℕ) (low : part < length ps) where
  -- a run of text lines
  module _ (text : (p : FilePart) → slice_get ps part ≡ Some p → part_role p ≡ TextLine) (end : ℕ) (after : part ≤ end)
      (all : AreText (take (end - part) (drop part ps))) (other : IsNoText ps end) where
    pub run-onward : part < end
    run-onward = run-onward_at ps part end low text after other

    step_of : All IsPart ps → (f : File) (s : State) (h : Here) → lines_read f (lines_from part ps) s h
        ≡ (run_read f (lines_of_parts (take (end - part) (drop part ps))) s h >>= λ r. lines_read f (lines_from end ps) r.0 r.1)
    step_of parts f = step-text f ps parts part end low run-onward all other

    pub run-leads : All IsPart ps → (f : File) (s t : State) (h k : Here) → run_read f (lines_of_parts (take (end - part) (drop part ps))) s h ≡ Ok (t, k)
        → LeadsTo ps f part s h None end t k
    run-leads parts f s t h k is =
        on_to ps f part end s t h k (step_of parts f s h ∙ ap (λ r. r >>= λ x. lines_read f (lines_from end ps) x.0 x.1) is)

    pub run-stop : All IsPart ps → (settings : Settings) (file : ℕ) (s t : State) (h : Here) (fault : Break)
        → IfStop fault (λ at cause. (t ≡ s) × ((f : File) → IsUnder settings f → f.index ≡ file → run_read f (lines_of_parts (take (end - part) (drop part ps))) s h ≡ Err (halt_at f s at cause)))
        → IfStop fault (λ at cause. (f : File) → IsUnder settings f → f.index ≡ file → StopsAt f (lines_read f (lines_from part ps) s h) at cause t)
    run-stop parts settings file s t h (Stop at cause) halts =
        λ f under index. (
          s,
          record { output = ap (λ x. x.output) (sym halts.0); reads = ap (λ x. x.reads) (sym halts.0) },
          step_of parts f s h ∙ ap (λ r. r >>= λ x. lines_read f (lines_from end ps) x.0 x.1) (halts.1 f under index),
        )
    run-stop parts settings file s t h (Unread fault) halts = halts
    run-stop parts settings file s t h NoMemory halts = tt

  -- a directive of no section
  module _ (control : (p : FilePart) → slice_get ps part ≡ Some p → part_role p ≡ ControlLine) where
    control_line : (l : FileLine) × (slice_get ps part ≡ Some (DirectivePart l)) × (role l.kind ≡ ControlLine)
    control_line = directive_at ps part ControlLine control_other low control

    -- where no token waits any more
    abbrev onward : File → FileLine → Result (State × Here) Halt → Result (State × Here) Halt
    onward f l r = (r >>= λ p. control_read f l p.0 p.1) >>= λ x. lines_read f (lines_from (part + 1) ps) x.0 x.1

    pub control-leads : (f : File) (s m t : State) (h p k : Here) (found : Option Entry) → ((l : FileLine) → slice_get ps part ≡ Some (DirectivePart l) → released_for l f s h ≡ Ok (m, p))
        → ((l : FileLine) → slice_get ps part ≡ Some (DirectivePart l) → control_read f l m p ≡ included f.deeper found t k)
        → LeadsTo ps f part s h found (part + 1) t k
    control-leads f s m t h p k found free is =
        let e = control_line in
        step-control f ps part (part + 1) e.0 e.1 e.2 refl s h ∙ ap (onward f e.0) (free e.0 e.1)
        ∙ ap (λ r. r >>= λ x. lines_read f (lines_from (part + 1) ps) x.0 x.1) (is e.0 e.1)

    -- tokens that wait have a fault
    pub release-stop : (layout : Layout) (settings : Settings) (from : Found) (nests : Bool) (s t : State) (h : Here) (fault : Break)
        → IfStop fault (λ at cause. (t ≡ s) × ((f : File) (l : FileLine) → IsUnder settings f → f.index ≡ from.file →
        slice_get ps part ≡ Some (DirectivePart l) → released_for l f s h ≡ Err (halt_at f s at cause)))
        → IfStop fault (λ at cause. (f : File) → IsIn layout settings from nests f → StopsAt f (lines_read f (lines_from part ps) s h) at cause t)
    release-stop layout settings from nests s t h (Stop at cause) halts =
        λ f in_file.
        let e = control_line in (
          s,
          record { output = ap (λ x. x.output) (sym halts.0); reads = ap (λ x. x.reads) (sym halts.0) },
          step-control f ps part (part + 1) e.0 e.1 e.2 refl s h ∙ ap (onward f e.0) (halts.1 f e.0 in_file.under in_file.at e.1),
        )
    release-stop layout settings from nests s t h (Unread fault) halts = halts
    release-stop layout settings from nests s t h NoMemory halts = tt

    pub control-stop : (layout : Layout) (settings : Settings) (from : Found) (nests : Bool) (s m t : State) (h p : Here) (fault : Break)
        → ((f : File) (l : FileLine) → IsIn layout settings from nests f → slice_get ps part ≡ Some (DirectivePart l) → released_for l f s h ≡ Ok (m, p))
        → IfStop fault (λ at cause. (t.output ≡ m.output) × (t.reads ≡ m.reads)
        × ((f : File) (l : FileLine) → IsIn layout settings from nests f → slice_get ps part ≡ Some (DirectivePart l) → control_read f l m p ≡ Err (halt_at f m at cause)))
        → IfStop fault (λ at cause. (f : File) → IsIn layout settings from nests f → StopsAt f (lines_read f (lines_from part ps) s h) at cause t)
    control-stop layout settings from nests s m t h p (Stop at cause) free halts =
        λ f in_file.
        let e = control_line in (
          m,
          record { output = sym halts.0; reads = sym halts.1 },
          step-control f ps part (part + 1) e.0 e.1 e.2 refl s h ∙ ap (onward f e.0) (free f e.0 in_file e.1)
              ∙ ap (λ r. r >>= λ x. lines_read f (lines_from (part + 1) ps) x.0 x.1) (halts.2 f e.0 in_file e.1),
        )
    control-stop layout settings from nests s m t h p (Unread fault) free halts = halts
    control-stop layout settings from nests s m t h p NoMemory free halts = tt

  pub endif-leads : ((p : FilePart) → slice_get ps part ≡ Some p → part_role p ≡ EndifLine) → (f : File) (s : State) (h : Here)
      → LeadsTo ps f part s h None (part + 1) s h
  endif-leads is f s h =
      let e = directive_at ps part EndifLine endif_other low is in
      on_to ps f part (part + 1) s s h h (step-endif f ps part (part + 1) e.0 e.1 e.2 refl s h)

-- what a file looks for headers in
pub searched-in : (layout : Layout) (settings : Settings) (at : Found) (nests : Bool) (f : File) → IsIn layout settings at nests f → (search : HeaderSearch)
    → search ≡ record { layout = layout; file = at.file; next = at.next } → IsSearched settings search f
searched-in layout settings at nests f in_file search is = record {
  under = in_file.under;
  looks =
      ap (λ (l : Layout). search_at l f.index f.next) in_file.laid ∙ ap (λ (n : ℕ). search_at layout n f.next) in_file.at
      ∙ ap (λ (o : Option ℕ). search_at layout at.file o) in_file.next ∙ sym is;
}
  where
    search_at : Layout → ℕ → Option ℕ → HeaderSearch
    search_at l file next = record { layout = l; file = file; next = next }
