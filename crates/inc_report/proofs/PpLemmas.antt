-- What is printed of a preprocessing, by its outcome, and where there is none.
use Rattle.std.proofs.Common.{◌≡◌, ℕ, Bool, true, false, List, [], ◌++◌, Option, Some, None, Result, Ok, Err, refl, sym, subst, ap, ◌∙◌, arith}
use Rattle.std.specs.Prelude.{Contains, codes, if◌then◌else◌, is_some}
use Rattle.std.specs.Option.{option_map_or}
use Rattle.inc_check.specs.Texts.{line_text}
use Rattle.inc_report.specs.SourceEndings.{outcome_ending}
use Rattle.std.proofs.lemmas.List.{append-nil}
use Rattle.std.proofs.lemmas.List.Elements.{All-nil}
use Rattle.inc_text.specs.declared.devices.ReadFault.{ReadFault}
use Rattle.inc_lookup.specs.Given.{Given, Agrees, FailsAfter, IsOnce}
use Rattle.inc_lookup.specs.Projects.{Layout, Listing, layout_of}
use Rattle.inc_lookup.proofs.GivenLemmas.{given_all}
use Rattle.inc_macro.specs.declared.faults.DefineFault.{DefineFault}
use Rattle.inc_pp.specs.declared.causes.Stop.{Stop}
use Rattle.inc_pp.specs.Preprocessing.{Outcome, preprocessing}
use Rattle.inc_pp.specs.Printed.{printed}
use Rattle.inc_pp.specs.Readings.{IsNextReadAfter, IsOfReadsAfter}
use Rattle.inc_pp.specs.declared.outcomes.PpRefusal.{PpRefusal}
use Rattle.inc_pp.specs.declared.outcomes.PpRefusal.TheVariants as pp
use Rattle.inc_pp.specs.Refusals.{IfBadDefinition}
use Rattle.inc_pp.specs.Settings.{Settings, sourced_settings}
use Rattle.inc_pp.specs.Shared.{AreShared, IsSharedOutcome}
use Rattle.inc_pp.specs.Walks.{Held}
use Rattle.inc_report.specs.declared.pp.NoOutcome.TheVariants.{Refused}
use Rattle.inc_report.specs.NoOutcomes.{IsRefusedPp, stop_line, stop_end}
use Rattle.inc_report.specs.PpSteps.{Common, IsSection, FailsIn}
use Rattle.inc_report.specs.PpText.{define_number, outcome_printed, stop_text}
use Rattle.inc_report.specs.PpTexts.{Section, if_wanted, refused_section, section, section_at, section_of, shown}
use Rattle.inc_answers.specs.Printed.{Printed, answered, end_of, negative}
use Rattle.inc_answers.specs.NamedFiles.{file_at}
use Rattle.inc_answers.specs.Refusals.{NoSuchSource, BadDefinition, refusal}
use Rattle.inc_report.specs.declared.pp.Wanted.{Wanted}

---- the text of an outcome

text_by : (layout : Layout) (tokens : List ℕ) (stop : Option Stop)
    → tokens ++ stop_line layout stop ≡ (elim stop as (λ s. Printed) [ None ↦ answered tokens | Some s ↦ negative (tokens ++ stop_text layout s) ]).text
text_by layout tokens None = append-nil tokens
text_by layout tokens (Some s) = refl

pub outcome_text : (layout : Layout) (o : Outcome) → printed o.tokens ++ stop_line layout o.stop ≡ (outcome_printed layout o).text
outcome_text layout o = text_by layout (printed o.tokens) o.stop

end_by : (layout : Layout) (tokens : List ℕ) (stop : Option Stop)
    → end_of [] (stop_end stop) ≡ (elim stop as (λ s. Printed) [ None ↦ answered tokens | Some s ↦ negative (tokens ++ stop_text layout s) ]).end
end_by layout tokens None = refl
end_by layout tokens (Some s) = refl

pub outcome_end : (layout : Layout) (o : Outcome) → end_of [] (stop_end o.stop) ≡ (outcome_printed layout o).end
outcome_end layout o = end_by layout (printed o.tokens) o.stop

-- of a refusal no rule is told
pub unruled : (b : Bool) → [] ≡ if_wanted b []
unruled true = refl
unruled false = refl

-- what is sent of where an outcome stopped is how it ended, if it stopped
pub stop_told : (layout : Layout) (o : Outcome) (stopped : Bool) (sent : List ℕ) → stopped ≡ is_some o.stop → sent ≡ stop_line layout o.stop
    → (if stopped then sent else line_text (codes "answered")) ≡ outcome_ending layout o
stop_told layout o stopped sent is said = rw (is, said) (by_stop o.stop)
  where
    by_stop : (s : Option Stop) → (if is_some s then stop_line layout s else line_text (codes "answered")) ≡ option_map_or (stop_text layout) s (line_text (codes "answered"))
    by_stop None = refl
    by_stop (Some s) = refl

---- the section of one source

-- nothing was read for it
pub read-none : (earlier : List Given) → IsOnce earlier → IsOfReadsAfter earlier [] earlier
read-none earlier once = record { later = []; is = refl; only = All-nil (λ (g : Given). Contains [] g.file); each = λ i c. absurd (omega (arith, c.1)); once = once }

module _ (c : Common) (source : List ℕ) (listing : Listing) (laid : layout_of listing ≡ c.layout) where
  found : (o : Option ℕ) → file_at c.layout source ≡ o → section listing c.words c.settings c.without source ≡ section_at listing c.words c.settings c.without source o
  found o is = ap (λ (x : Option ℕ). section_at listing c.words c.settings c.without source x) (ap (λ (l : Layout). file_at l source) laid ∙ is)

  found_answer : (file : ℕ) (answer : Result Outcome (ℕ × DefineFault)) → file_at c.layout source ≡ Some file
      → preprocessing listing file c.words (sourced_settings source c.settings) c.without ≡ answer → section listing c.words c.settings c.without source ≡ section_of c.layout answer
  found_answer file answer there is =
      found (Some file) there
      ∙ ap (λ (l : Layout). section_of l (preprocessing listing file c.words (sourced_settings source c.settings) c.without)) laid
      ∙ ap (λ (r : Result Outcome (ℕ × DefineFault)). section_of c.layout r) is

module _ {S : Type 0} (gives : S → ℕ → Result (List ℕ) ReadFault → S → Type 0) (old new : S) (c : Common) (before after : Held) (wanted : Wanted) (source : List ℕ) where
  -- where nothing was read
  section_unread : (s : Section) → s.reads ≡ [] → new ≡ old → after ≡ before
      → ((listing : Listing) → layout_of listing ≡ c.layout → section listing c.words c.settings c.without source ≡ s)
      → IsSection gives old new c before after wanted source (shown wanted source s)
  section_unread s none still held is = λ first earlier shared. record {
    given = earlier;
    shared = rw (still, held) shared;
    is = λ listing laid agrees. ap (λ (x : Section). shown wanted source x) (sym (is listing laid));
    read = λ listing laid agrees.
        subst (λ (rs : List ℕ). IsOfReadsAfter earlier rs earlier) (sym none ∙ ap (λ (x : Section). x.reads) (sym (is listing laid))) (read-none earlier shared.kept.once);
  }

  pub no_source : (p q : Printed) → file_at c.layout source ≡ None → new ≡ old → after ≡ before → q ≡ refusal NoSuchSource → p ≡ shown wanted source (refused_section q)
      → IsSection gives old new c before after wanted source p
  no_source p q none still held says is =
      subst (λ (x : Printed). IsSection gives old new c before after wanted source x) (sym (is ∙ ap (λ (x : Printed). shown wanted source (refused_section x)) says))
      (section_unread (refused_section (refusal NoSuchSource)) refl still held (λ listing laid. found c source listing laid None none))

  -- a refusal that is printed is that of a word
  pub of_refusal : (p q : Printed) (file : ℕ) (fault : PpRefusal) (settings : Settings) → settings ≡ sourced_settings source c.settings → file_at c.layout source ≡ Some file
      → IfBadDefinition fault (λ index why. (new ≡ old) × (after ≡ before) × ((listing : Listing) → preprocessing listing file c.words settings c.without ≡ Err (index, why)))
      → IsRefusedPp (Refused fault) q → p ≡ shown wanted source (refused_section q) → IsSection gives old new c before after wanted source p
  of_refusal p q file (pp.BadDefinition index why) settings named there bad says is =
      subst (λ (x : Printed). IsSection gives old new c before after wanted source x) (sym (is ∙ ap (λ (x : Printed). shown wanted source (refused_section x)) says))
      (section_unread (refused_section (refusal (BadDefinition index (define_number why)))) refl bad.0 bad.1
      (λ listing laid. found_answer c source listing laid file (Err (index, why)) there
      (ap (λ (st : Settings). preprocessing listing file c.words st c.without) (sym named) ∙ bad.2 listing)))
  of_refusal p q file (pp.CannotRead other) settings named there bad says is = absurd says
  of_refusal p q file (pp.FileTooLong other) settings named there bad says is = absurd says
  of_refusal p q file pp.NoMemory settings named there bad says is = absurd says

  pub of_outcome : (p : Printed) (file : ℕ) (outcome : Outcome) (settings : Settings) → settings ≡ sourced_settings source c.settings → file_at c.layout source ≡ Some file → p ≡ shown wanted source (section_of c.layout (Ok outcome))
      → ((first : S) (earlier : List Given) → AreShared gives first old c.layout settings.language c.without before earlier
      → IsSharedOutcome gives first new c.layout earlier file c.words settings c.without after outcome)
      → IsSection gives old new c before after wanted source p
  of_outcome p file outcome settings named there is made = λ first earlier shared.
      let m = subst (λ (st : Settings). (x : S) (given : List Given) → AreShared gives x old c.layout st.language c.without before given
      → IsSharedOutcome gives x new c.layout given file c.words st c.without after outcome) named made first earlier shared in
      let same = λ (listing : Listing) (laid : layout_of listing ≡ c.layout) (agrees : Agrees m.given listing).
      found_answer c source listing laid file (Ok outcome) there (m.every listing laid agrees).is in
      record {
        given = m.given;
        shared = m.shared;
        is = λ listing laid agrees. is ∙ ap (λ (x : Section). shown wanted source x) (sym (same listing laid agrees));
        read = λ listing laid agrees.
            subst (λ (rs : List ℕ). IsOfReadsAfter earlier rs m.given) (ap (λ (x : Section). x.reads) (sym (same listing laid agrees))) (m.every listing laid agrees).read;
      }

-- a file is not read for it
pub of_next : {S : Type 0} (gives : S → ℕ → Result (List ℕ) ReadFault → S → Type 0) (old new : S) (c : Common) (before : Held) (source : List ℕ) (file : ℕ) (r : ℕ × ReadFault)
    (settings : Settings) → settings ≡ sourced_settings source c.settings → file_at c.layout source ≡ Some file
    → ((first : S) (earlier : List Given) → AreShared gives first old c.layout settings.language c.without before earlier
    → FailsAfter gives first new c.layout r.0 r.1 (IsNextReadAfter earlier file c.words settings c.without r.0))
    → FailsIn gives old new c before source r
of_next {S} gives old new c before source file r settings named there fails = λ first earlier shared.
    let f = subst (λ (st : Settings). (x : S) (given : List Given) → AreShared gives x old c.layout st.language c.without before given
    → FailsAfter gives x new c.layout r.0 r.1 (IsNextReadAfter given file c.words st c.without r.0)) named fails first earlier shared in
    record {
      state = f.state;
      before = given_all f.before (λ given listing laid next. record {
        before = next.before;
        more = next.more;
        is = ap (λ (x : Section). x.reads) (found_answer c source listing laid file (Ok next.outcome) there next.is) ∙ next.reads;
        read = next.read;
        fresh = next.fresh;
      });
      failed = f.failed;
    }
