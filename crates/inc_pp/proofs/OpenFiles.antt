-- The files that are being read: what their rest is, as one is read on, entered or ended.
use Rattle.std.proofs.Common.{◌≡◌, ◌≢◌, ℕ, zero, suc, ◌+◌, ◌-◌, ◌<◌, Bool, true, false, List, [], ◌∷◌, Some, Result, Ok, Err, is_some, nat_lt, refl, ap, sym, ◌∙◌, length, arith}
use Rattle.std.specs.List.{All}
use Rattle.std.specs.Option.{option_map_or}
use Rattle.std.proofs.lemmas.Bool.{lt-ltb, le-ltb, ltb-true, ltb-false}
use Rattle.std.proofs.lemmas.List.Elements.{All-head, All-tail}
use Rattle.inc_directive.specs.declared.sections.BalanceFault.{BalanceFault}
use Rattle.inc_directive.specs.Parts.{FilePart, lines_from, lines_of_parts}
use Rattle.inc_directive.specs.Groups.{FileLine, Group, Ending, FileEnd, Faulty, AtElif, AtElse, AtEndif, whole, group_at, group_tree}
use Rattle.inc_lookup.specs.declared.projects.Found.{Found}
use Rattle.inc_lookup.specs.Projects.{bytes_at}
use Rattle.inc_macro.specs.Results.{◌>>=◌}
use Rattle.inc_pp.specs.declared.frames.Frame.{Frame}
use Rattle.inc_pp.specs.Files.{FileFault, tree_of}
use Rattle.inc_pp.specs.Includes.{included}
use Rattle.inc_pp.specs.Preprocessing.{group_read, tree_read, with_read, much_halt, counted_read, sized_read, file_read, most_depth, reading}
use Rattle.inc_pp.specs.Runs.{released}
use Rattle.inc_pp.specs.Settings.{is_too_much}
use Rattle.inc_pp.specs.Stops.{halt_at, IsIn}
use Rattle.inc_pp.specs.Tasks.{Task, File, State, Entry, Here, Halt, Deeper, layout_in, start}
use Rattle.inc_pp.specs.WalkJobs.{first_frame}
use Rattle.inc_pp.specs.Walks.{ending_read, lines_read, Held, held_at, parts_in, deeper_at, file_at, open_read, all_read}
use Rattle.inc_pp.proofs.Walking.{then_then, then_ap}

-- a stop ends all of them
pub all-stop : (t : Task) (held : Held) (os : List Frame) (halt : Halt) → all_read t held os (Err halt) ≡ Err halt
all-stop t held [] halt = refl
all-stop t held (o ∷ os) halt = all-stop t held os halt

all-same : (t : Task) (held : Held) (os : List Frame) (r r' : Result State Halt) → r ≡ r' → all_read t held os r ≡ all_read t held os r'
all-same t held os r r' e = ap (λ x. all_read t held os x) e

---- one file

-- a directive leads on in the file
pub all-on : (t : Task) (held : Held) (o o' : Frame) (os : List Frame) (s s' : State)
    → lines_read (file_at t o.at (length os)) (lines_from o.part (parts_in held o.at.file)) s o.here
    ≡ lines_read (file_at t o'.at (length os)) (lines_from o'.part (parts_in held o'.at.file)) s' o'.here
    → all_read t held (o ∷ os) (Ok s) ≡ all_read t held (o' ∷ os) (Ok s')
all-on t held o o' os s s' e = all-same t held os _ _ (ap (λ r. r >>= λ x. Ok x.0) e)

-- the file ends
pub all-done : (t : Task) (held : Held) (o : Frame) (os : List Frame) (s s' : State) (h : Here)
    → lines_read (file_at t o.at (length os)) (lines_from o.part (parts_in held o.at.file)) s o.here ≡ Ok (s', h)
    → all_read t held (o ∷ os) (Ok s) ≡ all_read t held os (Ok s')
all-done t held o os s s' h e = all-same t held os _ _ (ap (λ r. r >>= λ x. Ok x.0) e)

-- it stops
pub all-halt : (t : Task) (held : Held) (o : Frame) (os : List Frame) (s : State) (halt : Halt)
    → lines_read (file_at t o.at (length os)) (lines_from o.part (parts_in held o.at.file)) s o.here ≡ Err halt
    → all_read t held (o ∷ os) (Ok s) ≡ Err halt
all-halt t held o os s halt e = all-same t held os _ _ (ap (λ r. r >>= λ x. Ok x.0) e) ∙ all-stop t held os halt

---- a file that is included

-- how deep includes may still nest, as a file knows it
nests_at : (t : Task) (left : ℕ) → is_some (deeper_at t left) ≡ nat_lt 0 left
nests_at t zero = refl
nests_at t (suc left) = sym (zero_lt left)
  where
    zero_lt : (n : ℕ) → nat_lt 0 (suc n) ≡ true
    zero_lt n = lt-ltb 0 (suc n) (omega arith)

at_depth : (depth : ℕ) → nat_lt 0 (most_depth - depth) ≡ nat_lt depth most_depth
at_depth depth = by (nat_lt depth most_depth) refl
  where
    by : (b : Bool) → nat_lt depth most_depth ≡ b → nat_lt 0 (most_depth - depth) ≡ b
    by true e = let low = ltb-true depth most_depth e in lt-ltb 0 (most_depth - depth) (omega (arith, low))
    by false e = let high = ltb-false depth most_depth e in le-ltb 0 (most_depth - depth) (omega (arith, high))

pub is_in : (t : Task) (at : Found) (depth : ℕ) → IsIn (layout_in t) t.settings at (nat_lt depth most_depth) (file_at t at depth)
is_in t at depth = record { under = refl; laid = refl; at = refl; next = refl; deeper = nests_at t (most_depth - depth) ∙ at_depth depth }

pub read_at : (t : Task) (left : ℕ) (to : Entry) (s : State) → reading left t to s ≡ file_read t (deeper_at t left) to s
read_at t zero to s = refl
read_at t (suc left) to s = refl

-- an include directive that leads to a file
pub all-enter : (t : Task) (held : Held) (o o' : Frame) (os : List Frame) (s s' : State) (to : Entry)
    → length os < most_depth → o'.at ≡ o.at
    → lines_read (file_at t o.at (length os)) (lines_from o.part (parts_in held o.at.file)) s o.here
    ≡ (included (deeper_at t (most_depth - length os)) (Some to) s' o'.here
    >>= λ r. lines_read (file_at t o.at (length os)) (lines_from o'.part (parts_in held o.at.file)) r.0 r.1)
    → all_read t held (o ∷ os) (Ok s)
    ≡ all_read t held (o' ∷ os) (file_read t (deeper_at t (most_depth - suc (length os))) to s')
all-enter t held o o' os s s' to low same e =
    all-same t held os _ _
    (ap (λ r. r >>= λ x. Ok x.0) e ∙ ap (λ d. (included d (Some to) s' o'.here >>= onward) >>= λ x. Ok x.0) (deeper-is (most_depth - length os) (most_depth - suc (length os)) (omega (arith, low)))
    ∙ through (reading (most_depth - suc (length os)) t to s')
    ∙ ap (λ r. r >>= λ a. onward (a, o'.here) >>= λ x. Ok x.0) (read_at t (most_depth - suc (length os)) to s')
    ∙ ap (λ (k : Found). file_read t (deeper_at t (most_depth - suc (length os))) to s' >>= λ a. lines_read (file_at t k (length os)) (lines_from o'.part (parts_in held k.file)) a o'.here >>= λ x. Ok x.0) (sym same))
  where
    onward : State × Here → Result (State × Here) Halt
    onward r = lines_read (file_at t o.at (length os)) (lines_from o'.part (parts_in held o.at.file)) r.0 r.1

    deeper-is : (n left : ℕ) → n ≡ suc left → deeper_at t n ≡ Some (reading left t)
    deeper-is n left is = ap (λ k. deeper_at t k) is

    through : (r : Result State Halt) → (((r >>= λ a. Ok (a, o'.here)) >>= onward) >>= λ x. Ok x.0) ≡ (r >>= λ a. onward (a, o'.here) >>= λ x. Ok x.0)
    through (Ok a) = refl
    through (Err halt) = refl

-- the tree of lines is their first group, and the end of the file ends it
whole_is : (x : Group × Ending) (g : Group) → whole x.0 x.1 ≡ Ok g → x ≡ (g, FileEnd)
whole_is x g e = by x.1 refl
  where
    refusal : (fault : BalanceFault) → Err fault ≢ Ok g
    refusal fault = λ e. cc

    group_is : whole x.0 FileEnd ≡ Ok g → x.0 ≡ g
    group_is same = cc

    by : (ending : Ending) → x.1 ≡ ending → x ≡ (g, FileEnd)
    by FileEnd is = ap (λ (k : Group). (k, x.1)) (group_is (ap (λ y. whole x.0 y) (sym is) ∙ e)) ∙ ap (λ (y : Ending). (g, y)) is
    by (Faulty fault) is = absurd (refusal fault (ap (λ y. whole x.0 y) (sym is) ∙ e))
    by (AtElif l k y) is = absurd (refusal _ (ap (λ y. whole x.0 y) (sym is) ∙ e))
    by (AtElse l k y) is = absurd (refusal _ (ap (λ y. whole x.0 y) (sym is) ∙ e))
    by (AtEndif l k y) is = absurd (refusal _ (ap (λ y. whole x.0 y) (sym is) ∙ e))

-- a file is read from its first line on
pub tree_from : (f : File) (ls : List FileLine) (g : Group) (s : State) (h : Here) → group_tree ls ≡ Ok g
    → tree_read f (Ok g) s h ≡ (lines_read f ls s h >>= λ r. Ok r.0)
tree_from f ls g s h is =
    sym (ap (λ (x : Group × Ending). (group_read f x.0 s h >>= λ r. ending_read f x.1 r.0 r.1) >>= λ r. Ok r.0) (whole_is (group_at ls) g is)
    ∙ then_then (group_read f g s h) (λ r. released f r.0 r.1) (λ r. Ok r.0))

-- what a file that is entered is, by whether it is too much
counted-is : (t : Task) (deeper : Deeper) (to : Entry) (size : ℕ) (s : State) (much : Bool) → length (bytes_at t.listing to.at.file) ≡ size
    → is_too_much t.settings.most_read (s.bytes_read + size) ≡ much
    → file_read t deeper to s
    ≡ counted_read much (record { task = t; index = to.at.file; next = to.at.next; deeper = deeper }) to
    (tree_of t.settings.language t.listing t.without to.at.file) (with_read to.at.file size s) (start (layout_in t) to)
counted-is t deeper to size s much long is =
    ap (λ n. sized_read n t deeper to s) long
    ∙ ap (λ b. counted_read b (record { task = t; index = to.at.file; next = to.at.next; deeper = deeper }) to
    (tree_of t.settings.language t.listing t.without to.at.file) (with_read to.at.file size s) (start (layout_in t) to)) is

-- a file that is too much ends all of them
pub all-much : (t : Task) (held : Held) (os : List Frame) (deeper : Deeper) (to : Entry) (size : ℕ) (s : State)
    → length (bytes_at t.listing to.at.file) ≡ size → is_too_much t.settings.most_read (s.bytes_read + size) ≡ true
    → all_read t held os (file_read t deeper to s) ≡ Err (much_halt to (with_read to.at.file size s))
all-much t held os deeper to size s long much =
    all-same t held os _ _ (counted-is t deeper to size s true long much) ∙ all-stop t held os (much_halt to (with_read to.at.file size s))

-- a file that is held is entered
pub all-entered : (t : Task) (held : Held) (os : List Frame) (to : Entry) (depth : ℕ) (ls : List FilePart) (g : Group) (size : ℕ) (s : State) (new : Frame)
    → depth ≡ length os → held_at held to.at.file ≡ Some ls
    → length (bytes_at t.listing to.at.file) ≡ size → is_too_much t.settings.most_read (s.bytes_read + size) ≡ false → group_tree (lines_of_parts ls) ≡ Ok g → tree_of t.settings.language t.listing t.without to.at.file ≡ Ok g
    → new ≡ first_frame (layout_in t) to
    → all_read t held os (file_read t (deeper_at t (most_depth - depth)) to s) ≡ all_read t held (new ∷ os) (Ok (with_read to.at.file size s))
all-entered t held os to depth ls g size s new deep there long few tree same is =
    all-same t held os _ _
    (counted-is t (deeper_at t (most_depth - depth)) to size s false long few
    ∙ ap (λ r. tree_read (file_at t to.at depth) r (with_read to.at.file size s) (start (layout_in t) to)) same
    ∙ tree_from (file_at t to.at depth) (lines_of_parts ls) g (with_read to.at.file size s) (start (layout_in t) to) tree
    ∙ ap (λ k. lines_read (file_at t to.at k) (lines_of_parts ls) (with_read to.at.file size s) (start (layout_in t) to) >>= λ r. Ok r.0) deep
    ∙ ap (λ o. lines_read (file_at t to.at (length os)) (lines_of_parts (option_map_or (λ xs. xs) o [])) (with_read to.at.file size s) (start (layout_in t) to) >>= λ r. Ok r.0) (sym there)
    ∙ ap (λ o. open_read t held o (length os) (with_read to.at.file size s)) (sym is))

-- a file with a fault is entered
pub all-bad : (t : Task) (held : Held) (os : List Frame) (to : Entry) (depth : ℕ) (fault : FileFault) (size : ℕ) (s : State)
    → length (bytes_at t.listing to.at.file) ≡ size → is_too_much t.settings.most_read (s.bytes_read + size) ≡ false
    → tree_of t.settings.language t.listing t.without to.at.file ≡ Err fault
    → all_read t held os (file_read t (deeper_at t (most_depth - depth)) to s) ≡ Err (halt_at (file_at t to.at depth) (with_read to.at.file size s) fault.1 fault.0)
all-bad t held os to depth fault size s long few is =
    all-same t held os _ _ (counted-is t (deeper_at t (most_depth - depth)) to size s false long few
    ∙ ap (λ r. tree_read (file_at t to.at depth) r (with_read to.at.file size s) (start (layout_in t) to)) is)
    ∙ all-stop t held os (halt_at (file_at t to.at depth) (with_read to.at.file size s) fault.1 fault.0)

-- more files are held
pub all-held : (t : Task) (held held' : Held) (os : List Frame) (r : Result State Halt) → All (λ (o : Frame). parts_in held o.at.file ≡ parts_in held' o.at.file) os
    → all_read t held os r ≡ all_read t held' os r
all-held t held held' [] r same = refl
all-held t held held' (o ∷ os) r same =
    all-held t held held' os (r >>= open_read t held o (length os)) (All-tail P o os same)
    ∙ ap (λ x. all_read t held' os x) (then_ap r (open_read t held o (length os)) (open_read t held' o (length os))
    (λ s. ap (λ ls. lines_read (file_at t o.at (length os)) (lines_from o.part ls) s o.here >>= λ q. Ok q.0) (All-head P o os same)))
  where
    P : Frame → Type 0
    P = λ o. parts_in held o.at.file ≡ parts_in held' o.at.file
