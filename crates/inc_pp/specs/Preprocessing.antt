-- Preprocessing of a source file (ISO/IEC 9899:2018, 5.1.1.2 phases 1 to 4; 6.10): a recursion on the tree of a file, and on how deep
-- includes may still nest. Choices of this profile: the limits, and what a stop keeps.
use Rattle.std.specs.Prelude.{ℕ, zero, suc, ◌+◌, Bool, true, false, List, [], ◌∷◌, ◌++◌, Option, Some, None, Result, Ok, Err, length, unwrap_or}
use Rattle.inc_directive.specs.Groups.{Group, Branches, Empty, Run, Control, Section, Branch, Otherwise, Close}
use Rattle.inc_lookup.specs.declared.projects.DirectiveId.{DirectiveId}
use Rattle.inc_lookup.specs.Projects.{Layout, Listing, bytes_at, layout_of, path_at}
use Rattle.inc_macro.specs.declared.faults.DefineFault.{DefineFault}
pub use Rattle.inc_macro.specs.Macros.{with_words}
use Rattle.inc_macro.specs.Macros.{no_macros}
use Rattle.inc_macro.specs.Results.{◌>>=◌}
use Rattle.inc_pp.specs.declared.causes.Cause.TheVariants.{TooMuchRead}
use Rattle.inc_pp.specs.declared.causes.Stop.{Stop}
use Rattle.inc_pp.specs.Directives.{directive_read}
use Rattle.inc_pp.specs.Files.{FileFault, tree_of}
use Rattle.inc_pp.specs.Runs.{run_read, released}
use Rattle.inc_pp.specs.Sections.{is_taken}
use Rattle.inc_pp.specs.Settings.{Settings, is_too_much, sourced_settings}
use Rattle.inc_pp.specs.Tasks.{OutToken, Task, State, Entry, Here, Halt, Deeper, File, layout_in, start, source_at, begun, halting}
use Rattle.inc_pp.specs.declared.walks.TheConstants.{MOST_DEPTH}

---- files

-- the lines of a group from the top; of a section the first group with a true condition
abbrev mutual
  pub group_read : File → Group → State → Here → Result (State × Here) Halt
  group_read f Empty s h = Ok (s, h)
  group_read f (Run ls g) s h = run_read f ls s h >>= λ r. group_read f g r.0 r.1
  group_read f (Control l g) s h = directive_read f l s h >>= λ r. group_read f g r.0 r.1
  group_read f (Section bs g) s h = section_read f bs s h >>= λ r. group_read f g r.0 r.1

  pub section_read : File → Branches → State → Here → Result (State × Here) Halt
  section_read f (Branch l g bs) s h =
      is_taken f l s h >>= λ t. elim t.0 [ true ↦ group_read f g t.1 h | false ↦ section_read f bs t.1 h ]
  section_read f (Otherwise l g e) s h = group_read f g s h
  section_read f (Close e) s h = Ok (s, h)

-- a file by its tree, or its fault; no token waits on at its end
abbrev pub tree_read : File → Result Group FileFault → State → Here → Result State Halt
tree_read f (Ok g) s h = group_read f g s h >>= λ r. released f r.0 r.1 >>= λ q. Ok q.0
tree_read f (Err fault) s h = halting f fault.1 s (Err fault.0)

-- with one more file read, which has so many bytes
abbrev pub with_read : ℕ → (size : ℕ) → State → State
with_read file size s = record {
  table = s.table;
  once = s.once;
  poisoned = s.poisoned;
  meter = s.meter;
  reads = s.reads ++ (file ∷ []);
  bytes_read = s.bytes_read + size;
  output = s.output;
}

-- the stop at the directive that leads to a file
abbrev pub much_halt : Entry → State → Halt
much_halt e s = record { state = s; stop = record { file = e.by.file; line = e.by.line; cause = TooMuchRead } }

-- a file that was added to the reads is read from the top, if not too much was read with it
abbrev pub counted_read : (too_much : Bool) → File → Entry → Result Group FileFault → State → Here → Result State Halt
counted_read true f e r s h = Err (much_halt e s)
counted_read false f e r s h = tree_read f r s h

-- a file is added to the reads, and counted with its bytes
abbrev pub sized_read : (size : ℕ) → Task → Deeper → Entry → State → Result State Halt
sized_read size t deeper e s =
    counted_read (is_too_much t.settings.most_read (s.bytes_read + size))
    (record { task = t; index = e.at.file; next = e.at.next; deeper = deeper }) e
    (tree_of t.settings.language t.listing t.without e.at.file) (with_read e.at.file size s) (start (layout_in t) e)

-- the bytes that count are those in the list
abbrev pub file_read : Task → Deeper → Entry → State → Result State Halt
file_read t deeper e s = sized_read (length (bytes_at t.listing e.at.file)) t deeper e s

-- includes nest so deep at most; the source is at depth 0
abbrev pub most_depth : ℕ
most_depth = MOST_DEPTH

-- a file below which includes may still nest so deep
abbrev pub reading : (left : ℕ) → Task → Entry → State → Result State Halt
reading zero t e s = file_read t None e s
reading (suc left) t e s = file_read t (Some (reading left t)) e s

---- the whole

-- what a preprocessing gives: the tokens put out, the files read, and where it stopped, if it did
pub record Outcome : Type 0 where
  pub tokens : List OutToken
  pub reads : List ℕ
  pub stop : Option Stop

-- a stop keeps what was read and put out before it
abbrev pub outcome_of : Result State Halt → Outcome
outcome_of (Ok s) = record { tokens = s.output; reads = s.reads; stop = None }
outcome_of (Err halt) = record { tokens = halt.state.output; reads = halt.state.reads; stop = Some halt.stop }

-- the settings with a name of the source: its path in the list, where they have none
abbrev pub named_settings : Layout → (source : ℕ) → Settings → Settings
named_settings layout source s = sourced_settings (unwrap_or s.source (path_at layout source)) s

-- a source that is read under settings with a name of it
abbrev pub source_read : Listing → (source : ℕ) → Settings → (without : List DirectiveId) → State → Result State Halt
source_read listing source settings without s =
    reading most_depth (record { listing = listing; settings = settings; without = without }) (source_at settings source) s

-- the preprocessing of a source file; it is defined where each word of the command line makes a definition
abbrev pub preprocessing :
    Listing → (source : ℕ) → (words : List (List ℕ)) → Settings → (without : List DirectiveId) → Result Outcome (ℕ × DefineFault)
preprocessing listing source words settings without =
    with_words 0 words (no_macros settings.language) >>= λ table.
    Ok (outcome_of (source_read listing source (named_settings (layout_of listing) source settings) without (begun table)))
