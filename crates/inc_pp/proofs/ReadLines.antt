-- A walk over the parts of a file that has led to no other file so far.
use Rattle.std.proofs.Common.{◌≡◌, ◌<◌, ◌≤◌, Bool, List, Option, None, Err, refl, sym, ap, ◌∙◌, subst, arith}
use Rattle.inc_directive.specs.Parts.{FilePart, lines_from}
use Rattle.inc_lookup.specs.declared.projects.Found.{Found}
use Rattle.inc_lookup.specs.Projects.{Layout}
use Rattle.inc_pp.specs.Choices.{LeadsTo, StopsAt}
use Rattle.inc_pp.specs.Settings.{Settings}
use Rattle.inc_pp.specs.Stops.{IfStop, IsIn, halt_at}
use Rattle.inc_pp.specs.Tasks.{File, State, Entry}
use Rattle.inc_pp.specs.Walks.{lines_read}
use Rattle.inc_pp.specs.declared.faults.Break.{Break}
use Rattle.inc_pp.specs.declared.frames.Frame.{Frame}
use Rattle.inc_macro.specs.Results.{◌>>=◌}
use Rattle.inc_pp.proofs.StopSteps.{if-stop}
use Rattle.inc_pp.proofs.Stepping.{included-none, on_to}

module _ (ps : List FilePart) (layout : Layout) (settings : Settings) (nests : Bool) (o : Frame) (s : State) where
  -- from a frame and a state to these
  pub record IsOn (p : Frame) (t : State) : Type 0 where
    pub onward : o.part ≤ p.part
    pub same : p.at ≡ o.at
    pub reads : t.reads ≡ s.reads
    pub leads : (f : File) → IsIn layout settings o.at nests f → lines_read f (lines_from o.part ps) s o.here ≡ lines_read f (lines_from p.part ps) t p.here

  pub is_begun : IsOn o s
  is_begun = record { onward = omega arith; same = refl; reads = refl; leads = λ f _. refl }

  -- a step is that of parts that are these
  module _ (p : Frame) (t : State) (on : IsOn p t) (own : List FilePart) (own_is : own ≡ ps) where
    moved : (f : File) → IsIn layout settings o.at nests f → IsIn layout settings p.at nests f
    moved f is = subst (λ (at : Found). IsIn layout settings at nests f) (sym on.same) is

    -- a step more
    pub led : (q : Frame) (u : State) (answer found : Option Entry) → answer ≡ found
        → ((f : File) → IsIn layout settings p.at nests f → LeadsTo own f p.part t p.here answer q.part u q.here)
        → (f : File) → IsIn layout settings o.at nests f → LeadsTo ps f o.part s o.here found q.part u q.here
    led q u answer found found_is step f is =
        on.leads f is ∙ subst (λ o. LeadsTo ps f p.part t p.here o q.part u q.here) found_is (subst (λ qs. LeadsTo qs f p.part t p.here answer q.part u q.here) own_is (step f (moved f is)))

    -- none more
    pub led_on : (f : File) → IsIn layout settings o.at nests f → LeadsTo ps f o.part s o.here None p.part t p.here
    led_on f is = on_to ps f o.part p.part s t o.here p.here (on.leads f is)

    pub is_on : (q : Frame) (u : State) (answer : Option Entry) → answer ≡ None → p.part < q.part → q.at ≡ p.at → u.reads ≡ t.reads
        → ((f : File) → IsIn layout settings p.at nests f → LeadsTo own f p.part t p.here answer q.part u q.here) → IsOn q u
    is_on q u answer none onward same reads step = record {
      onward = omega (arith, on.onward, onward);
      same = same ∙ on.same;
      reads = reads ∙ on.reads;
      leads = λ f is. led q u answer None none step f is ∙ ap (λ r. r >>= λ x. lines_read f (lines_from q.part ps) x.0 x.1) (included-none f.deeper u q.here);
    }

    pub has_stopped : (fault : Break) (u : State)
        → IfStop fault (λ at cause. (f : File) → IsIn layout settings p.at nests f → StopsAt f (lines_read f (lines_from p.part own) t p.here) at cause u)
        → IfStop fault (λ at cause. (f : File) → IsIn layout settings o.at nests f → StopsAt f (lines_read f (lines_from o.part ps) s o.here) at cause u)
    has_stopped fault u = if-stop fault _ _ (λ at cause stops f is. let stop = stops f (moved f is) in
        (stop.0, stop.1, on.leads f is ∙ subst (λ qs. lines_read f (lines_from p.part qs) t p.here ≡ Err (halt_at f stop.0 at cause)) own_is stop.2))
