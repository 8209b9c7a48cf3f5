-- A walk from its beginning to its end.
use Rattle.std.proofs.Common.{◌≡◌, ℕ, ◌<◌, ◌-◌, List, [], Option, Some, None, IfSome, Result, Ok, Err, IfOk, refl, ap, sym, ◌∙◌, subst, length, arith}
use Rattle.std.proofs.lemmas.List.Elements.{All-nil}
use Rattle.inc_text.specs.declared.devices.ReadFault.{ReadFault}
use Rattle.inc_lookup.specs.Given.{HoldsOfGiven, FailsAfter}
use Rattle.inc_lookup.specs.declared.projects.DirectiveId.{DirectiveId}
use Rattle.inc_lookup.specs.Projects.{Layout, Listing, layout_of}
use Rattle.inc_macro.specs.declared.faults.DefineFault.{DefineFault}
use Rattle.inc_macro.specs.Macros.{Table, no_macros}
use Rattle.inc_macro.specs.Results.{◌>>=◌}
use Rattle.inc_lookup.proofs.GivenLemmas.{given_all}
use Rattle.inc_directive.specs.Parts.{FilePart}
use Rattle.inc_pp.specs.declared.frames.Frame.{Frame}
use Rattle.inc_pp.specs.Readings.{IsOutcome, IsNextReadAfter}
use Rattle.inc_pp.specs.Settings.{Settings}
use Rattle.inc_pp.specs.Shared.{AreShared, IsSharedOutcome}
use Rattle.inc_pp.specs.Preprocessing.{Outcome, with_words, preprocessing, outcome_of, most_depth, file_read, reading, named_settings, source_read}
use Rattle.inc_pp.specs.Tasks.{State, source_at, begun}
use Rattle.inc_pp.specs.Walks.{Held, held_at, deeper_at, all_read}
use Rattle.inc_pp.specs.WalkJobs.{over_by}
use Rattle.inc_pp.specs.WalkStates.{Job, task_of, IsWalk, IsEntering, IsOver, IsNext, whole_of}
use Rattle.inc_pp.proofs.OpenFiles.{read_at}
use Rattle.inc_pp.proofs.Readings.{reading-from, reading-on, reading-end}

-- the settings of a job are these, with a name of its source
abbrev pub IsNamed : Job → Settings → Type 0
IsNamed j settings = j.settings ≡ named_settings j.layout j.source settings

-- the whole by its words
outcome-is : (j : Job) (settings : Settings) → IsNamed j settings → (words : List (List ℕ)) → with_words 0 words (no_macros settings.language) ≡ Ok j.table
    → (listing : Listing) → layout_of listing ≡ j.layout → (o : Outcome) → outcome_of (whole_of j listing) ≡ o
    → preprocessing listing j.source words settings j.without ≡ Ok o
outcome-is j settings named words defined listing laid o is =
    ap (λ (r : Result Table (ℕ × DefineFault)). r >>= λ table. Ok (outcome_of (source_read listing j.source (named_settings (layout_of listing) j.source settings) j.without (begun table)))) defined
    ∙ ap (λ (l : Layout). Ok (outcome_of (source_read listing j.source (named_settings l j.source settings) j.without (begun j.table)))) laid
    ∙ ap (λ (s : Settings). Ok (outcome_of (source_read listing j.source s j.without (begun j.table)))) (sym named)
    ∙ ap (λ x. Ok x) is

pub if_ok : {A B : Type 0} (r : Result A B) {P Q : A → Type 0} → ((x : A) → P x → Q x) → IfOk r P → IfOk r Q
if_ok (Ok x) step p = step x p
if_ok (Err e) step p = tt

pub if_some : {A : Type 0} (o : Option A) {P Q : A → Type 0} → ((x : A) → P x → Q x) → IfSome o P → IfSome o Q
if_some (Some x) step p = step x p
if_some None step p = tt

module _ {S : Type 0} (gives : S → ℕ → Result (List ℕ) ReadFault → S → Type 0) (old : S) (j : Job) where
  -- the source is entered first
  pub whole-enters : (now : S) (held : Held) (s : State) → s ≡ begun j.table → j.source < length j.layout.paths
      → AreShared gives old now j.layout j.settings.language j.without held j.earlier → IsEntering gives old now j held [] (source_at j.settings j.source) s
  whole-enters now held s is low shared = subst (λ x. IsEntering gives old now j held [] (source_at j.settings j.source) x) (sym is) (record {
    reading = reading-on gives old j now held [] (λ t. reading most_depth t (source_at j.settings j.source) (begun j.table)) (reading-from gives old j now held shared)
        (λ t. all_read t held [] (file_read t (deeper_at t (most_depth - 0)) (source_at j.settings j.source) (begun j.table)))
        (λ listing laid trees. read_at (task_of j listing) most_depth (source_at j.settings j.source) (begun j.table));
    are_open = All-nil (λ (o : Frame). (ls : List FilePart) × (held_at held o.at.file ≡ Some ls));
    deep = omega arith;
    within = All-nil (λ (o : Frame). o.at.file < length j.layout.paths);
    file_within = (low, low);
  })

  -- no file is left
  pub whole-over : (new : S) (held : Held) (s : State) → IsWalk gives old new j held [] s → IsOver gives old new j held (over_by s None)
  whole-over new held s w = reading-end gives old j new held s.reads _ w.reading (over_by s None) refl (λ listing laid trees. refl)

  module _ (settings : Settings) (named : IsNamed j settings) (words : List (List ℕ)) (defined : with_words 0 words (no_macros settings.language) ≡ Ok j.table) (new : S) where
    pub whole-outcome : (held : Held) (o : Outcome) → IsOver gives old new j held o
        → IsSharedOutcome gives old new j.layout j.earlier j.source words settings j.without held o
    whole-outcome held o over = record {
      given = over.given;
      shared = subst (λ (s : Settings). AreShared gives old new j.layout s.language j.without held over.given) named over.shared;
      every = λ listing laid agrees. record { is = outcome-is j settings named words defined listing laid o (over.every listing laid agrees); read = over.read };
    }

    pub whole-next : (file : ℕ) (fault : ReadFault) → FailsAfter gives old new j.layout file fault (IsNext j file)
        → FailsAfter gives old new j.layout file fault (IsNextReadAfter j.earlier j.source words settings j.without file)
    whole-next file fault fails = record {
      state = fails.state;
      before = given_all fails.before
          (λ given listing laid h. record {
            outcome = outcome_of (whole_of j listing);
            is = outcome-is j settings named words defined listing laid (outcome_of (whole_of j listing)) refl;
            before = h.before;
            more = h.more;
            reads = h.reads;
            read = h.read;
            fresh = h.fresh;
          });
      failed = fails.failed;
    }

-- an outcome by files of which none was read before
pub outcome-alone : {S : Type 0} (gives : S → ℕ → Result (List ℕ) ReadFault → S → Type 0) (old new : S) (layout : Layout) (source : ℕ) (words : List (List ℕ)) (settings : Settings)
    (without : List DirectiveId) (held : Held) (o : Outcome) → IsSharedOutcome gives old new layout [] source words settings without held o
    → HoldsOfGiven gives old new layout (IsOutcome source words settings without o)
outcome-alone gives old new layout source words settings without held o is = record {
  given = is.given;
  gave = is.shared.gave;
  witness = is.shared.witness;
  laid_out = is.shared.laid_out;
  agrees = is.shared.agrees;
  every = is.every;
}
