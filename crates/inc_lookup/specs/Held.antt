-- What a reading of files that are held in memory may answer.
use Rattle.std.specs.Prelude.{◌≡◌, ◌<◌, ◌≤◌, ℕ, List, Result, Ok, Err, length, map, slice_get, Some}
use Rattle.inc_text.specs.declared.devices.TheConstants.{LONGEST_FILE}
use Rattle.inc_text.specs.declared.devices.ReadFault.{ReadFault}
use Rattle.inc_text.specs.declared.devices.ReadFault.TheVariants.{TooLong, Read, NoMemory}
use Rattle.inc_lookup.specs.declared.sources.HeldFiles.{HeldFiles}
use Rattle.inc_lookup.specs.Projects.{File}
use Rattle.inc_lookup.specs.Views.{seen_file}

-- the bytes of the file at a place, unless they are too many or no file has that place; a want of memory may always come
abbrev pub IsHeldAnswer : List File → ℕ → Result (List ℕ) ReadFault → Type 0
IsHeldAnswer files i (Ok bytes) = (slice_get (map (λ (f : File). f.bytes) files) i ≡ Some bytes) × (length bytes ≤ LONGEST_FILE)
IsHeldAnswer files i (Err TooLong) = (bytes : List ℕ) × (slice_get (map (λ (f : File). f.bytes) files) i ≡ Some bytes) × (LONGEST_FILE < length bytes)
IsHeldAnswer files i (Err Read) = length files ≤ i
IsHeldAnswer files i (Err NoMemory) = Unit {0}

-- a reading of held files, which stay as they are
abbrev pub held_gives : HeldFiles → ℕ → Result (List ℕ) ReadFault → HeldFiles → Type 0
held_gives old file answer new = (new ≡ old) × IsHeldAnswer (map seen_file old.files.now) file answer
