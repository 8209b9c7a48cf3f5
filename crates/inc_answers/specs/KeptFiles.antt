-- Files whose bytes are kept when they are read.
use Rattle.std.specs.Prelude.{◌≡◌, ℕ, List, Option, Some, None, Result, Ok, Err, is_some, slice_index_or, IsTrue}
use Rattle.std.specs.List.{All, slice_set}
use Rattle.inc_text.specs.declared.devices.ReadFault.{ReadFault}
use Rattle.inc_text.specs.declared.devices.ReadFault.TheVariants.{TooLong, Read, NoMemory}
use Rattle.inc_lookup.specs.Projects.{Layout, Listing, layout_of, bytes_at}
use Rattle.inc_graph.specs.IncludeGraph.{Edge, Graph}
use Rattle.inc_answers.specs.declared.kept_sources.KeptSources.{KeptSources}

-- the bytes of each file that was read, by its place in the list
abbrev pub Kept : Type 0
Kept = List (Option (List ℕ))

abbrev pub kept_at : Kept → ℕ → Option (List ℕ)
kept_at kept file = slice_index_or kept file None

-- each file that an edge leaves is kept
abbrev pub AreAllKept : Graph → Kept → Type 0
AreAllKept g kept = All (λ (e : Edge). IsTrue (is_some (kept_at kept e.from))) g.edges

-- the files of the listing are those that are kept
abbrev pub Fits : Kept → Listing → Type 0
Fits kept listing = (file : ℕ) (bytes : List ℕ) → kept_at kept file ≡ Some bytes → bytes_at listing file ≡ bytes

-- P of every listing of this layout in which the files that are kept have these bytes
abbrev pub OfKept : Kept → Layout → (Listing → Type 0) → Type 0
OfKept kept layout P = (listing : Listing) → layout_of listing ≡ layout → Fits kept listing → P listing

-- a reading by sources that keep what they give; of one that has found no memory nothing is known
abbrev pub keeps : {S : Type 0} → (S → ℕ → Result (List ℕ) ReadFault → S → Type 0)
    → KeptSources S → ℕ → Result (List ℕ) ReadFault → KeptSources S → Type 0
keeps gives old file (Ok bytes) new =
    gives old.sources file (Ok bytes) new.sources × (new.files ≡ slice_set old.files file (Some bytes))
keeps gives old file (Err TooLong) new = gives old.sources file (Err TooLong) new.sources
keeps gives old file (Err Read) new = gives old.sources file (Err Read) new.sources
keeps gives old file (Err NoMemory) new = Unit {0}
