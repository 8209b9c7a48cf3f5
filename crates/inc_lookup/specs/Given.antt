-- What was read of a project's files on the way to an answer, and what the answer says then.
use Rattle.std.specs.Prelude.{◌≡◌, ◌≢◌, ℕ, List, [], ◌∷◌, Result, Ok, Err}
use Rattle.std.specs.List.{All}
use Rattle.inc_text.specs.declared.devices.ReadFault.{ReadFault}
use Rattle.inc_lookup.specs.Projects.{Layout, Listing, layout_of, bytes_at}

-- the bytes that were read of the file at a place
pub record Given : Type 0 where
  pub file : ℕ
  pub bytes : List ℕ

-- readings led from one state of the sources to another, and gave these, the latest first
abbrev pub Gave : {S : Type 0} → (S → ℕ → Result (List ℕ) ReadFault → S → Type 0) → S → List Given → S → Type 0
Gave gives old [] new = old ≡ new
Gave {S} gives old (g ∷ gs) new = (s : S) × Gave gives old gs s × gives s g.file (Ok g.bytes) new

-- each file that was read has the bytes that were given of it
abbrev pub Agrees : List Given → Listing → Type 0
Agrees given listing = All (λ (g : Given). bytes_at listing g.file ≡ g.bytes) given

-- P of what was given on the way from one state of the sources to another, and of every listing of this layout that agrees
-- with it; there is such a listing
pub record HoldsOfGiven {S : Type 0} (gives : S → ℕ → Result (List ℕ) ReadFault → S → Type 0) (old new : S) (layout : Layout) (P : List Given → Listing → Type 0) : Type 0 where
  pub given : List Given
  pub gave : Gave gives old given new
  pub witness : Listing
  pub laid_out : layout_of witness ≡ layout
  pub agrees : Agrees given witness
  pub every : (listing : Listing) → layout_of listing ≡ layout → Agrees given listing → P given listing

-- a reading of this file failed with this fault, after readings of which P holds
pub record FailsAfter {S : Type 0} (gives : S → ℕ → Result (List ℕ) ReadFault → S → Type 0) (old new : S) (layout : Layout) (file : ℕ) (fault : ReadFault) (P : List Given → Listing → Type 0) : Type 0 where
  pub state : S
  pub before : HoldsOfGiven gives old state layout P
  pub failed : gives state file (Err fault) new

-- no file was read twice
abbrev pub IsOnce : List Given → Type 0
IsOnce [] = Unit {0}
IsOnce (g ∷ gs) = All (λ (h : Given). h.file ≢ g.file) gs × IsOnce gs
