-- The files that several preprocessings share: each is read and lexed once, whichever source leads to it first.
use Rattle.std.specs.Prelude.{◌≡◌, ◌≢◌, ◌⊎◌, ℕ, List, Some, None, Result, Ok, Err, IfOk, IfErr, length, set, Contains}
use Rattle.std.specs.List.{All}
use Rattle.inc_text.specs.declared.devices.ReadFault.{ReadFault}
use Rattle.inc_text.specs.PhaseText.{phase_text}
use Rattle.inc_text.specs.declared.languages.Language.{Language}
use Rattle.inc_directive.specs.Groups.{Group, group_tree}
use Rattle.inc_directive.specs.Parts.{FilePart, lines_of_parts}
use Rattle.inc_lookup.specs.declared.projects.DirectiveId.{DirectiveId}
use Rattle.inc_lookup.specs.Given.{Given, Gave, Agrees, IsOnce}
use Rattle.inc_lookup.specs.DirectiveLists.{is_listed}
use Rattle.inc_lookup.specs.Projects.{Layout, Listing, bytes_at, layout_of}
use Rattle.inc_pp.specs.Files.{FileFault, text_tree, tree_of}
use Rattle.inc_pp.specs.Preprocessing.{Outcome}
use Rattle.inc_pp.specs.Readings.{IsOutcomeAfter}
use Rattle.inc_pp.specs.Settings.{Settings}
use Rattle.inc_pp.specs.Stops.{AreOf}
use Rattle.inc_pp.specs.Walks.{Known, Held, held_at, fault_at, known_at}

-- none of a project's files is read
pub record AreUnread (layout : Layout) (held : Held) : Type 0 where
  pub wide : length held ≡ length layout.paths
  pub none : (i : ℕ) → known_at held i ≡ None

-- the files that are held are those that were read, each once
pub record AreHeld (layout : Layout) (language : Language) (held : Held) (given : List Given) : Type 0 where
  -- there is a place for each file
  pub wide : length held ≡ length layout.paths
  -- no file was read twice
  pub once : IsOnce given
  -- a file that is not held was not read
  pub unread : (i : ℕ) → known_at held i ≡ None → All (λ (g : Given). g.file ≢ i) given
  -- a file that is held was read
  pub read : (i : ℕ) (k : Known) → known_at held i ≡ Some k → (g : Given) × Contains given g × (g.file ≡ i)
  -- the kinds of held lines are those of this language
  pub of_language : (i : ℕ) (ps : List FilePart) → held_at held i ≡ Some ps → AreOf language (lines_of_parts ps)

-- and have this tree in a listing, or this fault, and so many bytes
pub record HaveTrees (language : Language) (without : List DirectiveId) (held : Held) (listing : Listing) : Type 0 where
  pub trees : (i : ℕ) (ps : List FilePart) → held_at held i ≡ Some ps → (g : Group) × (group_tree (lines_of_parts ps) ≡ Ok g) × (tree_of language listing without i ≡ Ok g)
  pub faults : (i : ℕ) (fault : FileFault) → fault_at held i ≡ Some fault → tree_of language listing without i ≡ Err fault
  pub sizes : (i : ℕ) (k : Known) → known_at held i ≡ Some k → length (bytes_at listing i) ≡ k.size

-- a file was read, and is held then, with so many bytes: its lines, which are of this language and have the tree of the bytes, or the fault
-- of the bytes; nothing else has changed
abbrev pub IsLoadedBy : {S : Type 0} → (S → ℕ → Result (List ℕ) ReadFault → S → Type 0) → Language → (without : List DirectiveId) → (file : ℕ) → (old : S) → (before : Held) → (new : S) → (after : Held) → (size : ℕ) → Type 0
IsLoadedBy gives language without file old before new after size =
    (bytes : List ℕ) × (lines : Result (List FilePart) FileFault) × gives old file (Ok bytes) new × (length bytes ≡ size)
    × (after ≡ set before file (Some (record { size = size; lines = lines })))
    × IfOk lines (λ ps. AreOf language (lines_of_parts ps))
    × IfOk lines (λ ps. (g : Group) × (group_tree (lines_of_parts ps) ≡ Ok g) × (text_tree language (is_listed without file) (phase_text language bytes) ≡ Ok g))
    × IfErr lines (λ fault. text_tree language (is_listed without file) (phase_text language bytes) ≡ Err fault)

-- it was held before, and nothing has changed
abbrev pub IsHeldBy : {S : Type 0} → (file : ℕ) → (old : S) → (before : Held) → (new : S) → (after : Held) → (size : ℕ) → Type 0
IsHeldBy file old before new after size =
    (known : Known) × (known_at before file ≡ Some known) × (known.size ≡ size) × (new ≡ old) × (after ≡ before)

-- one of both
abbrev pub IsKnownBy : {S : Type 0} → (S → ℕ → Result (List ℕ) ReadFault → S → Type 0) → Language → (without : List DirectiveId) → (file : ℕ) → (old : S) → (before : Held) → (new : S) → (after : Held) → (size : ℕ) → Type 0
IsKnownBy gives language without file old before new after size =
    IsHeldBy file old before new after size ⊎ (IsLoadedBy gives language without file old before new after size × (known_at before file ≡ None))

-- the files that are held are those that were given since the sources were in their first state, and are so in each listing that
-- agrees; there is one
pub record AreShared {S : Type 0} (gives : S → ℕ → Result (List ℕ) ReadFault → S → Type 0) (first now : S) (layout : Layout) (language : Language) (without : List DirectiveId) (held : Held) (given : List Given) : Type 0 where
  -- the sources gave this since their first state
  pub gave : Gave gives first given now
  -- a listing
  pub witness : Listing
  -- it has these paths
  pub laid_out : layout_of witness ≡ layout
  -- its files are as they were given
  pub agrees : Agrees given witness
  -- what is held is what was given
  pub kept : AreHeld layout language held given
  -- in each such listing the held files have their trees
  pub trees : (listing : Listing) → layout_of listing ≡ layout → Agrees given listing → HaveTrees language without held listing

-- the outcome of a preprocessing by shared files, after earlier readings
pub record IsSharedOutcome {S : Type 0} (gives : S → ℕ → Result (List ℕ) ReadFault → S → Type 0) (first now : S) (layout : Layout) (earlier : List Given)
    (source : ℕ) (words : List (List ℕ)) (settings : Settings) (without : List DirectiveId) (held : Held) (outcome : Outcome) : Type 0 where
  pub given : List Given
  pub shared : AreShared gives first now layout settings.language without held given
  pub every : (listing : Listing) → layout_of listing ≡ layout → Agrees given listing → IsOutcomeAfter earlier source words settings without outcome given listing
