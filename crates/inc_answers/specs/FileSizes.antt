-- How many bytes files have.
use Rattle.std.specs.Prelude.{◌≡◌, ℕ, List, Result, Ok, Err, if◌then◌else◌, length, map}
use Rattle.std.specs.List.{range_with_len, slice_set}
use Rattle.std.specs.Option.{option_map_or}
use Rattle.inc_text.specs.declared.devices.ReadFault.{ReadFault}
use Rattle.inc_text.specs.declared.devices.ReadFault.TheVariants.{TooLong, Read, NoMemory}
use Rattle.inc_lookup.specs.Projects.{Listing, bytes_at}
use Rattle.inc_graph.specs.Members.{is_member}
use Rattle.inc_answers.specs.KeptFiles.{Kept, kept_at}
use Rattle.inc_answers.specs.declared.sized_sources.SizedSources.{SizedSources}

-- the bytes of a file; a header, whose text is not read, counts none
abbrev pub file_size : Listing → (headers : List ℕ) → (file : ℕ) → ℕ
file_size listing headers file = if is_member file headers then 0 else length (bytes_at listing file)

-- of each file, by its place in the list
abbrev pub file_sizes : Listing → (headers : List ℕ) → List ℕ
file_sizes listing headers = map (file_size listing headers) (range_with_len 0 (length listing.files))

-- of files that are kept; one that is not has none
abbrev pub kept_sizes : Kept → (count : ℕ) → List ℕ
kept_sizes kept count = map (λ f. option_map_or (λ (bytes : List ℕ). length bytes) (kept_at kept f) 0) (range_with_len 0 count)

-- a reading by sources that note how much they give; of one that has found no memory nothing is known
abbrev pub sizes : {S : Type 0} → (S → ℕ → Result (List ℕ) ReadFault → S → Type 0)
    → SizedSources S → ℕ → Result (List ℕ) ReadFault → SizedSources S → Type 0
sizes gives old file (Ok bytes) new =
    gives old.sources file (Ok bytes) new.sources × (new.sizes.items ≡ slice_set old.sizes.items file (length bytes))
sizes gives old file (Err TooLong) new = gives old.sources file (Err TooLong) new.sources
sizes gives old file (Err Read) new = gives old.sources file (Err Read) new.sources
sizes gives old file (Err NoMemory) new = Unit {0}
