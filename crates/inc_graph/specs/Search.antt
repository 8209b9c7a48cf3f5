-- Breadth-first search over steps of any type: the queue of the files that are reached, the paths by parent steps, and what holds of them.
use Rattle.std.specs.Prelude.{◌≡◌, ℕ, zero, suc, ◌<◌, ◌≤◌, ◌==◌, Bool, true, List, [], ◌∷◌, ◌++◌, Option, Some, None, length, map, fold, slice_get, slice_index, is_some, count_by, not, if◌then◌else◌, option_map, option_and_then, min, IfSome}
use Rattle.std.specs.Option.{option_map_or}
use Rattle.inc_graph.specs.declared.search.ParentStep.{ParentStep}
use Rattle.inc_graph.specs.declared.search.Visit.{Visit}
use Rattle.inc_graph.specs.Members.{is_member}
use Rattle.inc_graph.specs.PathOrder.{Precedes, IsAtMost}
use Rattle.inc_lookup.specs.declared.projects.TheConstants.{MOST_FILES}

---- the queue

pub record Queue (S : Type 0) : Type 0 where
  -- how many files there are
  pub files : ℕ
  -- those that are reached, in the order in which they were
  pub visits : List (Visit S)

-- the place of the first visit to a file that passes
abbrev pub first_place : {S : Type 0} → (ℕ → Bool) → List (Visit S) → Option ℕ
first_place passes [] = None
first_place passes (v ∷ vs) = if passes v.file then Some 0 else option_map suc (first_place passes vs)

-- the place of a file
abbrev pub place_among : {S : Type 0} → List (Visit S) → ℕ → Option ℕ
place_among visits f = first_place (λ x. f == x) visits

abbrev pub place_of : {S : Type 0} → Queue S → ℕ → Option ℕ
place_of q f = place_among q.visits f

abbrev pub is_reached : {S : Type 0} → Queue S → ℕ → Bool
is_reached q f = is_some (place_of q f)

-- the place of that of these files which was reached first
abbrev pub first_of : {S : Type 0} → Queue S → (ends : List ℕ) → Option ℕ
first_of q ends = first_place (λ x. is_member x ends) q.visits

-- the file at a place
abbrev pub file_at : {S : Type 0} → List (Visit S) → ℕ → ℕ
file_at {S} visits k = option_map_or (λ (v : Visit S). v.file) (slice_get visits k) 0

---- what is done to it

-- the file goes to the end, unless it is reached
abbrev pub with_visit : {S : Type 0} → Visit S → Queue S → Queue S
with_visit v q = if is_reached q v.file then q else record { files = q.files; visits = q.visits ++ v ∷ [] }

-- the files from which a search begins
abbrev pub with_start : {S : Type 0} → Queue S → ℕ → Queue S
with_start q f = with_visit (record { file = f; parent = None }) q

abbrev pub started : {S : Type 0} → (files : ℕ) → (starts : List ℕ) → Queue S
started files starts = fold with_start (record { files = files; visits = [] }) starts

-- a step, and the file to which it leads
pub record Next (S : Type 0) : Type 0 where
  -- the step
  pub step : S
  -- where it leads
  pub to : ℕ

abbrev pub with_next : {S : Type 0} → (place : ℕ) → Queue S → Next S → Queue S
with_next place q n = with_visit (record { file = n.to; parent = Some (record { step = n.step; from = place }) }) q

-- the step of a candidate is taken, unless the candidate fails the test
abbrev pub with_candidate : {C S : Type 0} → (test : C → Option (Next S)) → (place : ℕ) → Queue S → C → Queue S
with_candidate test place q c = option_map_or (with_next place q) (test c) q

abbrev pub with_candidates : {C S : Type 0} → (test : C → Option (Next S)) → (place : ℕ) → Queue S → List C → Queue S
with_candidates test place q cs = fold (with_candidate test place) q cs

---- the path to a file

abbrev pub parent_at : {S : Type 0} → List (Visit S) → ℕ → Option (ParentStep S)
parent_at {S} visits k = option_and_then (λ (v : Visit S). v.parent) (slice_get visits k)

-- what is made of the path to a place, from that of its start on, by at most so many steps
abbrev pub along : {S A : Type 0} → (begin : ℕ → A) → (go : A → ℕ → S → A) → List (Visit S) → (most place : ℕ) → A
along begin go visits zero k = begin k
along {S} begin go visits (suc most) k =
    option_map_or (λ (p : ParentStep S). go (along begin go visits most p.from) k p.step) (parent_at visits k) (begin k)

-- its steps: since each leads from an earlier place, there are no more of them than the place says
abbrev pub path_to : {S : Type 0} → List (Visit S) → (place : ℕ) → List S
path_to {S} visits k = along (λ j. []) (λ (path : List S) j s. path ++ s ∷ []) visits k k

-- its files
abbrev pub files_to : {S : Type 0} → List (Visit S) → (place : ℕ) → List ℕ
files_to {S} visits k = along (λ j. file_at visits j ∷ []) (λ files j (s : S). files ++ file_at visits j ∷ []) visits k k

-- the place of its start
abbrev pub start_of : {S : Type 0} → List (Visit S) → (place : ℕ) → ℕ
start_of {S} visits k = along (λ j. j) (λ start j (s : S). start) visits k k

---- what is reached

-- the parent step leads from an earlier place
abbrev pub IsFrom : {S : Type 0} → (place : ℕ) → Visit S → Type 0
IsFrom {S} k v = IfSome v.parent (λ (p : ParentStep S). p.from < k)

-- a file is reached by a step from the file at an earlier place
pub record IsParent {S : Type 0} (Leads : ℕ → S → ℕ → Type 0) (visits : List (Visit S)) (k file : ℕ) (p : ParentStep S) : Type 0 where
  -- the place that it comes from is before that of the file
  pub earlier : p.from < k
  -- a file was reached there
  pub before : Visit S
  -- it stands at the place
  pub at : slice_get visits p.from ≡ Some before
  -- the step leads from the file there to this one
  pub leads : Leads before.file p.step file

-- a file is a start, or has a parent step
abbrev pub IsReachedBy : {S : Type 0} → (Leads : ℕ → S → ℕ → Type 0) → (starts : List ℕ) → List (Visit S) → (k file : ℕ) → Option (ParentStep S) → Type 0
IsReachedBy Leads starts visits k file None = is_member file starts ≡ true
IsReachedBy Leads starts visits k file (Some p) = IsParent Leads visits k file p

-- a queue of files that steps reach from the starts, where `Leads a s b` says that step s leads from file a to file b
pub record AreReached {S : Type 0} (Leads : ℕ → S → ℕ → Type 0) (starts : List ℕ) (q : Queue S) : Type 0 where
  -- it has no other files
  pub inside : (k : ℕ) (v : Visit S) → slice_get q.visits k ≡ Some v → v.file < q.files
  -- no file is in it twice
  pub once : (k : ℕ) (v : Visit S) → slice_get q.visits k ≡ Some v → place_of q v.file ≡ Some k
  -- each other file has a parent step, so that a path leads back to a start
  pub entries : (k : ℕ) (v : Visit S) → slice_get q.visits k ≡ Some v → IsReachedBy Leads starts q.visits k v.file v.parent

-- a breadth-first search of so many files that has taken some of them from the queue
pub record IsSearch {S : Type 0} (Leads : ℕ → S → ℕ → Type 0) (files : ℕ) (starts : List ℕ) (q : Queue S) (taken : ℕ) : Type 0 where
  -- the queue is for these files
  pub sized : q.files ≡ files
  -- the files of the queue are reached
  pub reached : AreReached Leads starts q
  -- each start is one of them
  pub begun : (f : ℕ) → is_member f starts ≡ true → is_reached q f ≡ true
  -- no start has a parent step
  pub roots : (k : ℕ) (v : Visit S) → slice_get q.visits k ≡ Some v → is_member v.file starts ≡ true → v.parent ≡ None
  -- the queue holds what was taken from it
  pub taken_within : taken ≤ length q.visits
  -- each step from a file that was taken leads to a file that is reached
  pub closed : (k : ℕ) (v : Visit S) (s : S) (b : ℕ) → k < taken → slice_get q.visits k ≡ Some v → Leads v.file s b → is_reached q b ≡ true

-- one that has taken all files of the queue: it has reached all files that steps reach
abbrev pub IsFinished : {S : Type 0} → (Leads : ℕ → S → ℕ → Type 0) → (files : ℕ) → (starts : List ℕ) → Queue S → Type 0
IsFinished Leads files starts q = IsSearch Leads files starts q (length q.visits)

-- candidates for the steps from a file
pub record AreCandidates {C S : Type 0} (Leads : ℕ → S → ℕ → Type 0) (test : C → Option (Next S)) (files file : ℕ) (cs : List C) : Type 0 where
  -- what passes the test is a step from the file to one of the files
  pub each : (k : ℕ) (c : C) (n : Next S) → slice_get cs k ≡ Some c → test c ≡ Some n → Leads file n.step n.to × (n.to < files)
  -- each step from the file passes it
  pub whole : (s : S) (b : ℕ) → Leads file s b → (k : ℕ) × (c : C) × (slice_get cs k ≡ Some c) × (test c ≡ Some (record { step = s; to = b }))

---- first paths

-- what paths are ordered by: the place of the start, and then the ranks of the steps
abbrev pub trail : {S : Type 0} → (rank : S → ℕ) → List (Visit S) → (place : ℕ) → List ℕ
trail rank visits k = start_of visits k ∷ map rank (path_to visits k)

-- a file is reached, by a path no later than this one
pub record IsRelaxed {S : Type 0} (rank : S → ℕ) (q : Queue S) (f : ℕ) (other : List ℕ) : Type 0 where
  -- where it is in the queue
  pub place : ℕ
  -- it has that place
  pub placed : place_of q f ≡ Some place
  -- its path is the other one or comes before it
  pub most : IsAtMost (trail rank q.visits place) other

-- the queue is in the order of its paths, and the next step from the file at a place, of at least this rank, makes a later one than all
pub record IsOrdered {S : Type 0} (rank : S → ℕ) (visits : List (Visit S)) (taken n : ℕ) : Type 0 where
  -- shorter paths come first, those of one length by their starts and the ranks of their steps: this is the order by levels
  pub order : (j k : ℕ) → j < k → k < length visits → Precedes (trail rank visits j) (trail rank visits k)
  -- whatever is reached next comes after all
  pub bound : taken < length visits → (k : ℕ) → k < length visits → Precedes (trail rank visits k) (trail rank visits taken ++ n ∷ [])

-- a search that has reached each file by a first path
pub record AreFirst {S : Type 0} (rank : S → ℕ) (Leads : ℕ → S → ℕ → Type 0) (q : Queue S) (taken : ℕ) : Type 0 where
  -- the queue is in the order of its paths
  pub ordered : IsOrdered rank q.visits taken 0
  -- a step from a file that was taken leads to a file that is reached by a path no later than that by this step
  pub relaxed : (k : ℕ) (v : Visit S) (s : S) (b : ℕ) → k < taken → slice_get q.visits k ≡ Some v → Leads v.file s b
      → IsRelaxed rank q b (trail rank q.visits k ++ rank s ∷ [])

-- the steps from a file are followed by rising ranks
abbrev pub AreRising : {C S : Type 0} → (rank : S → ℕ) → (test : C → Option (Next S)) → List C → Type 0
AreRising {C} {S} rank test cs =
    (j k : ℕ) (c d : C) (m n : Next S) → j < k → slice_get cs j ≡ Some c → test c ≡ Some m → slice_get cs k ≡ Some d → test d ≡ Some n → rank m.step < rank n.step

---- how places are kept

-- 1 plus the place, or 0 where there is none
abbrev pub mark_of : Option ℕ → ℕ
mark_of None = 0
mark_of (Some k) = suc k

-- what a search keeps of a queue
pub record IsKept {S : Type 0} (visits : List (Visit S)) (marks : List ℕ) : Type 0 where
  -- there are few files, so that a mark has 16 bits
  pub few : length marks ≤ MOST_FILES
  -- as many files have a place as there are in the queue
  pub count : count_by (λ m. not (m == 0)) marks ≡ length visits
  -- the mark of a file is that of its place in the queue
  pub placed : (f : ℕ) → slice_index marks f ≡ mark_of (place_among visits f)
  -- parent steps lead from earlier places
  pub falling : (k : ℕ) (p : ParentStep S) → parent_at visits k ≡ Some p → p.from < k

-- of two places the one that is earlier
abbrev pub earlier_of : Option ℕ → Option ℕ → Option ℕ
earlier_of None other = other
earlier_of (Some a) None = Some a
earlier_of (Some a) (Some b) = Some (min a b)
