-- What was given, and the listings that agree with it.
use Rattle.std.proofs.Common.{◌≡◌, ◌≢◌, ℕ, zero, suc, ◌<◌, List, [], ◌∷◌, length, get_or, set, map, Result, refl, ap, sym, ◌∙◌, get_or-set_same, get_or-set_other}
use Rattle.std.specs.Prelude.{slice_get}
use Rattle.std.specs.List.{All}
use Rattle.std.specs.Option.{option_map_or}
use Rattle.std.proofs.lemmas.List.{length-map}
use Rattle.std.proofs.lemmas.List.Elements.{All-cons}
use Rattle.std.proofs.Math.Seq.{map-set_same}
use Rattle.inc_text.specs.declared.devices.ReadFault.{ReadFault}
use Rattle.inc_lookup.specs.Given.{Given, Agrees, HoldsOfGiven}
use Rattle.inc_lookup.specs.Projects.{File, Layout, Listing, layout_of, bytes_at, paths_of}

---- listings of a layout

pub laid_count : (layout : Layout) (listing : Listing) → layout_of listing ≡ layout → length listing.files ≡ length layout.paths
laid_count layout listing laid = sym (length-map listing.files (λ (f : File). f.path)) ∙ ap (λ (l : Layout). length l.paths) laid

file_without : List ℕ → File
file_without path = record { path = path; bytes = [] }

-- the listing whose files are empty
pub bare_listing : Layout → Listing
bare_listing layout = record { files = map file_without layout.paths; search = layout.search }

paths_without : (paths : List (List ℕ)) → paths_of (map file_without paths) ≡ paths
unfolding file_without
paths_without [] = refl
paths_without (p ∷ ps) = ap (λ (l : List (List ℕ)). p ∷ l) (paths_without ps)

pub laid_bare : (layout : Layout) → layout_of (bare_listing layout) ≡ layout
unfolding bare_listing
laid_bare layout = ap (λ (ps : List (List ℕ)). record layout { paths = ps }) (paths_without layout.paths)

file_with : List File → ℕ → List ℕ → File
file_with files file bytes = record { path = (get_or files file (record { path = []; bytes = [] })).path; bytes = bytes }

-- the listing with these bytes of one file
pub with_bytes : Listing → ℕ → List ℕ → Listing
with_bytes listing file bytes = record listing { files = set listing.files file (file_with listing.files file bytes) }

bytes_by : (files : List File) (i : ℕ) → option_map_or (λ (f : File). f.bytes) (slice_get files i) [] ≡ (get_or files i (record { path = []; bytes = [] })).bytes
bytes_by [] i = refl
bytes_by (f ∷ fs) zero = refl
bytes_by (f ∷ fs) (suc i) = bytes_by fs i

pub laid_with : (layout : Layout) (listing : Listing) (file : ℕ) (bytes : List ℕ) → layout_of listing ≡ layout → layout_of (with_bytes listing file bytes) ≡ layout
unfolding with_bytes file_with
laid_with layout listing file bytes laid =
    ap (λ (ps : List (List ℕ)). record { paths = ps; search = listing.search })
    (map-set_same (λ (f : File). f.path) listing.files file (file_with listing.files file bytes) (record { path = []; bytes = [] }) refl)
    ∙ laid

bytes_with : (listing : Listing) (file : ℕ) (bytes : List ℕ) → file < length listing.files → bytes_at (with_bytes listing file bytes) file ≡ bytes
unfolding with_bytes file_with
bytes_with listing file bytes low =
    bytes_by (set listing.files file (file_with listing.files file bytes)) file
    ∙ ap (λ (f : File). f.bytes) (get_or-set_same listing.files file (file_with listing.files file bytes) (record { path = []; bytes = [] }) low)

other_with : (listing : Listing) (file : ℕ) (bytes : List ℕ) (other : ℕ) → other ≢ file → bytes_at (with_bytes listing file bytes) other ≡ bytes_at listing other
unfolding with_bytes
other_with listing file bytes other ne =
    bytes_by (set listing.files file (file_with listing.files file bytes)) other
    ∙ ap (λ (f : File). f.bytes) (get_or-set_other listing.files file other (file_with listing.files file bytes) (record { path = []; bytes = [] }) ne)
    ∙ sym (bytes_by listing.files other)

-- a file is read of which nothing was given
pub agrees_more : (listing : Listing) (given : List Given) (file : ℕ) (bytes : List ℕ) → file < length listing.files → All (λ (g : Given). g.file ≢ file) given → Agrees given listing
    → Agrees (record { file = file; bytes = bytes } ∷ given) (with_bytes listing file bytes)
agrees_more listing given file bytes low unread agrees =
    All-cons (λ (g : Given). bytes_at (with_bytes listing file bytes) g.file ≡ g.bytes) (record { file = file; bytes = bytes }) given (bytes_with listing file bytes low)
    (λ k d h. other_with listing file bytes (get_or given k d).file (unread k d h) ∙ agrees k d h)

---- what holds of the listings that agree

module _ {S : Type 0} {gives : S → ℕ → Result (List ℕ) ReadFault → S → Type 0} {old new : S} {layout : Layout} where
  pub given_one : {P : List Given → Listing → Type 0} → (h : HoldsOfGiven gives old new layout P) → P h.given h.witness
  given_one h = h.every h.witness h.laid_out h.agrees

  pub given_all : {P Q : List Given → Listing → Type 0} → HoldsOfGiven gives old new layout P
      → ((given : List Given) (listing : Listing) → layout_of listing ≡ layout → P given listing → Q given listing) → HoldsOfGiven gives old new layout Q
  given_all h step = record {
    given = h.given;
    gave = h.gave;
    witness = h.witness;
    laid_out = h.laid_out;
    agrees = h.agrees;
    every = λ listing laid agrees. step h.given listing laid (h.every listing laid agrees);
  }
