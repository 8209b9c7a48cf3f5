use Rattle.std.proofs.Common.{◌≡◌, ◌∙◌, ap, sym, subst, ℕ, List, Result, Ok, map}
use Rattle.inc_text.specs.declared.devices.ReadFault.{ReadFault}
use Rattle.inc_text.specs.declared.languages.Language.{Language}
use Rattle.inc_lookup.specs.Given.{Given}
use Rattle.inc_lookup.specs.Projects.{Layout}
use Rattle.inc_lookup.specs.declared.projects.DirectiveId.{DirectiveId}
use Rattle.inc_macro.specs.Macros.{Table, no_macros, with_words}
use Rattle.inc_macro.specs.Tables.{table_of}
use Rattle.inc_pp.specs.Preprocessing.{named_settings}
use Rattle.inc_pp.specs.Refusals.{read_fault_of}
use Rattle.inc_pp.specs.Settings.{Settings}
use Rattle.inc_pp.specs.Shared.{AreShared}
use Rattle.inc_pp.specs.Walks.{Held}
use Rattle.inc_pp.proofs.WalkLemmas.{if_err}
use Rattle.inc_pp.proofs.Wholes.{if_ok, if_some, whole-outcome, whole-next}
use Rattle.inc_pp.proofs.outcomes.preprocess_with.Goals as goal

-- the words in the language of the settings
in_language : {l m : Language} → l ≡ m → (words : List (List ℕ)) (table : Table) → with_words 0 words (no_macros l) ≡ Ok table → with_words 0 words (no_macros m) ≡ Ok table
in_language same words table is = ap (λ l. with_words 0 words (no_macros l)) (sym same) ∙ is

-- files that are shared in the language of some settings are so in that of the same settings with a name of the source
in_settings : {S : Type 0} (gives : S → ℕ → Result (List ℕ) ReadFault → S → Type 0) (first now : S) (layout : Layout) (source : ℕ) (given named : Settings) (without : List DirectiveId) (held : Held)
    (earlier : List Given) → named ≡ named_settings layout source given
    → AreShared gives first now layout given.language without held earlier → AreShared gives first now layout named.language without held earlier
in_settings gives first now layout source given named without held earlier is shared =
    subst (λ (s : Settings). AreShared gives first now layout s.language without held earlier) (sym is) shared

pub preprocess_in-requires-clause-shared : goal.preprocess_in-requires-clause-shared
preprocess_in-requires-clause-shared g c =
    let shared = c.requires.shared in
    (shared.0, shared.1, in_settings g.S.Sources.gives shared.0 c.args.sources.now c.args.job.now.project.now c.args.source c.args.job.now.settings.now _ c.args.job.now.removed.now c.args.files.now shared.1 c.named_settings-settings.ensures shared.2)

pub returns-clause-outcome : goal.returns-clause-outcome
returns-clause-outcome g c =
    let words : List (List ℕ) = map (λ w. w.now) c.args.words.now in
    if_ok c.preprocess_in.result
    (λ o over first earlier shared.
    whole-outcome g.S.Sources.gives first _ c.args.job.now.settings.now c.named_settings-settings.ensures words (in_language c.language.ensures words (table_of c.in-Ok.macros) c.in-Ok.ensures.done) c.preprocess_in.new.sources c.preprocess_in.new.files o
    (over first earlier (in_settings g.S.Sources.gives first c.args.sources.now c.args.job.now.project.now c.args.source c.args.job.now.settings.now _ c.args.job.now.removed.now c.args.files.now earlier c.named_settings-settings.ensures shared)))
    c.preprocess_in.ensures.outcome

pub returns-clause-unread : goal.returns-clause-unread
returns-clause-unread g c =
    let words : List (List ℕ) = map (λ w. w.now) c.args.words.now in
    if_err c.preprocess_in.result
    (λ fault. if_some (read_fault_of fault)
    (λ r fails first earlier shared.
    whole-next g.S.Sources.gives first _ c.args.job.now.settings.now c.named_settings-settings.ensures words (in_language c.language.ensures words (table_of c.in-Ok.macros) c.in-Ok.ensures.done) c.preprocess_in.new.sources r.0 r.1
    (fails first earlier (in_settings g.S.Sources.gives first c.args.sources.now c.args.job.now.project.now c.args.source c.args.job.now.settings.now _ c.args.job.now.removed.now c.args.files.now earlier c.named_settings-settings.ensures shared))))
    c.preprocess_in.ensures.unread
