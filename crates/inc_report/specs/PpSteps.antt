-- One source of several, after what was read for those before it.
use Rattle.std.specs.Prelude.{◌≡◌, ℕ, List, Result}
use Rattle.inc_text.specs.declared.devices.ReadFault.{ReadFault}
use Rattle.inc_lookup.specs.declared.projects.DirectiveId.{DirectiveId}
use Rattle.inc_lookup.specs.Given.{Given, Agrees, FailsAfter}
use Rattle.inc_lookup.specs.Projects.{Layout, Listing, layout_of}
use Rattle.inc_pp.specs.Readings.{IsOfReadsAfter}
use Rattle.inc_pp.specs.Settings.{Settings}
use Rattle.inc_pp.specs.Shared.{AreShared}
use Rattle.inc_pp.specs.Walks.{Held}
use Rattle.inc_report.specs.PpTexts.{IsNextOf, section, shown}
use Rattle.inc_answers.specs.Printed.{Printed}
use Rattle.inc_report.specs.declared.pp.Wanted.{Wanted}

-- what all sources have in common
pub record Common : Type 0 where
  -- the paths of the files and directories
  pub layout : Layout
  -- the words that define macros first
  pub words : List (List ℕ)
  -- language, date and time, and what an include does whose file is not found
  pub settings : Settings
  -- the include directives that are removed
  pub without : List DirectiveId

abbrev pub AreSharedBy : {S : Type 0} → (S → ℕ → Result (List ℕ) ReadFault → S → Type 0) → (first now : S) → Common → Held → List Given → Type 0
AreSharedBy gives first now c held given = AreShared gives first now c.layout c.settings.language c.without held given

-- after earlier readings p was printed of a source, and these were read for it
pub record IsSectionAfter {S : Type 0} (gives : S → ℕ → Result (List ℕ) ReadFault → S → Type 0) (first now : S) (c : Common) (held : Held) (earlier : List Given)
    (wanted : Wanted) (source : List ℕ) (p : Printed) : Type 0 where
  pub given : List Given
  pub shared : AreSharedBy gives first now c held given
  pub is : (listing : Listing) → layout_of listing ≡ c.layout → Agrees given listing → p ≡ shown wanted source (section listing c.words c.settings c.without source)
  pub read : (listing : Listing) → layout_of listing ≡ c.layout → Agrees given listing → IsOfReadsAfter earlier (section listing c.words c.settings c.without source).reads given

-- whatever was read before, since the sources were in whatever state
abbrev pub IsSection : {S : Type 0} → (S → ℕ → Result (List ℕ) ReadFault → S → Type 0) → (old new : S) → Common → (before after : Held) → Wanted → (source : List ℕ) → Printed → Type 0
IsSection {S} gives old new c before after wanted source p =
    (first : S) (earlier : List Given) → AreSharedBy gives first old c before earlier → IsSectionAfter gives first new c after earlier wanted source p

-- a file was not read that is the next for a source
abbrev pub FailsIn : {S : Type 0} → (S → ℕ → Result (List ℕ) ReadFault → S → Type 0) → (old new : S) → Common → (before : Held) → (source : List ℕ) → ℕ × ReadFault → Type 0
FailsIn {S} gives old new c before source r =
    (first : S) (earlier : List Given) → AreSharedBy gives first old c before earlier
    → FailsAfter gives first new c.layout r.0 r.1 (λ given listing. IsNextOf (section listing c.words c.settings c.without source).reads r.0 earlier given)
