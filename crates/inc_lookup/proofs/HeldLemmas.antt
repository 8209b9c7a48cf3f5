-- What is given of files that are held is their bytes.
use Rattle.std.proofs.Common.{◌≡◌, ℕ, zero, suc, ◌<◌, length, arith, List, [], ◌∷◌, Some, get_or, map, refl, ap, sym, ◌∙◌}
use Rattle.std.specs.Prelude.{slice_get}
use Rattle.std.specs.List.{All}
use Rattle.std.specs.Option.{option_map_or}
use Rattle.std.proofs.lemmas.List.Elements.{All-nil, All-cons}
use Rattle.inc_lookup.specs.declared.sources.HeldFiles.{HeldFiles}
use Rattle.inc_lookup.specs.declared.sources.SourceFile.{SourceFile}
use Rattle.inc_lookup.specs.Given.{Given, Gave, Agrees}
use Rattle.inc_lookup.specs.Held.{held_gives}
use Rattle.inc_lookup.specs.Projects.{Listing, File, paths_of}
use Rattle.inc_lookup.specs.Views.{seen_file}

abbrev body_of : File → List ℕ
body_of f = f.bytes

-- the bytes at a place, where there are some
bytes_in : (files : List File) (i : ℕ) (bytes : List ℕ) → slice_get (map body_of files) i ≡ Some bytes → option_map_or body_of (slice_get files i) [] ≡ bytes
bytes_in [] i bytes is = cc
bytes_in (f ∷ fs) zero bytes is = cc
bytes_in (f ∷ fs) (suc i) bytes is = bytes_in fs i bytes is

pub held_at : (files : List SourceFile) (i : ℕ) (f : SourceFile) → i < length files → f ≡ get_or files i f → slice_get (map body_of (map seen_file files)) i ≡ Some f.bytes.items
held_at [] i f low is = absurd (omega arith)
held_at (g ∷ gs) zero f low is = ap (λ (x : SourceFile). Some x.bytes.items) (sym is)
held_at (g ∷ gs) (suc i) f low is = held_at gs i f (omega arith) is

-- the paths of the files as the definitions see them
pub paths_of-seen : (files : List SourceFile) → paths_of (map seen_file files) ≡ map (λ (f : SourceFile). f.path.items) files
paths_of-seen [] = refl
paths_of-seen (f ∷ fs) = ap (λ (l : List (List ℕ)). f.path.items ∷ l) (paths_of-seen fs)

-- readings leave the files as they are, and give bytes of theirs
pub gave_held : (old : HeldFiles) (given : List Given) (new : HeldFiles) → Gave held_gives old given new
    → (new ≡ old) × All (λ (g : Given). slice_get (map body_of (map seen_file old.files.now)) g.file ≡ Some g.bytes) given
gave_held old [] new gave = (sym gave, All-nil (λ (g : Given). slice_get (map body_of (map seen_file old.files.now)) g.file ≡ Some g.bytes))
gave_held old (g ∷ gs) new gave =
    let before = gave_held old gs gave.0 gave.1 in (
      gave.2.0 ∙ before.0,
      All-cons (λ (x : Given). slice_get (map body_of (map seen_file old.files.now)) x.file ≡ Some x.bytes) g gs
          (ap (λ (s : HeldFiles). slice_get (map body_of (map seen_file s.files.now)) g.file) (sym before.0) ∙ gave.2.1.0) before.1,
    )

-- they agree with each listing whose files have those bytes
pub held_agrees : (old new : HeldFiles) (given : List Given) (listing : Listing) → Gave held_gives old given new → map body_of listing.files ≡ map body_of (map seen_file old.files.now)
    → (new ≡ old) × Agrees given listing
held_agrees old new given listing gave same =
    let all = gave_held old given new gave in
    (all.0, λ k d low. bytes_in listing.files (get_or given k d).file (get_or given k d).bytes (ap (λ l. slice_get l (get_or given k d).file) same ∙ all.1 k d low))
