-- How a walk goes on: a file is entered, a line is read, a file ends, and why it is over.
use Rattle.std.proofs.Common.{◌≡◌, ◌≢◌, inl, inr, ℕ, suc, ◌+◌, ◌-◌, ◌<◌, ◌≤◌, Bool, true, false, List, [], ◌∷◌, ◌++◌, Option, Some, None, IfSome, Result, Ok, Err, refl, ap, sym, ◌∙◌, subst, length, length-set, set, nat_lt, option_map, reverse, OnOk, IfOk, IfErr, arith}
use Rattle.std.specs.List.{All}
use Rattle.std.specs.Option.{option_map_or}
use Rattle.std.proofs.lemmas.Bool.{ltb-true}
use Rattle.std.proofs.lemmas.List.{reverse-append, length-reverse, length_push}
use Rattle.std.proofs.lemmas.List.Elements.{All-cons, All-head, All-tail}
use Rattle.inc_text.specs.PhaseText.{phase_text}
use Rattle.inc_text.specs.declared.devices.ReadFault.{ReadFault}
use Rattle.inc_text.specs.declared.languages.Language.{Language}
use Rattle.inc_directive.specs.Groups.{Group, group_tree}
use Rattle.inc_directive.specs.Parts.{FilePart, lines_from, lines_of_parts}
use Rattle.inc_lookup.specs.declared.projects.DirectiveId.{DirectiveId}
use Rattle.inc_lookup.specs.declared.projects.Found.{Found}
use Rattle.inc_lookup.specs.DirectiveLists.{is_listed}
use Rattle.inc_lookup.specs.Given.{Given, FailsAfter}
use Rattle.inc_lookup.specs.Projects.{Listing, bytes_at, layout_of}
use Rattle.inc_lookup.proofs.GivenLemmas.{given_all}
use Rattle.inc_pp.specs.declared.causes.Cause.{Cause}
use Rattle.inc_pp.specs.declared.causes.Cause.TheVariants.{TooMuchRead}
use Rattle.inc_pp.specs.declared.frames.Frame.{Frame}
use Rattle.inc_pp.specs.declared.faults.Break.{Break}
use Rattle.inc_pp.specs.Choices.{StopsAt, LeadsTo}
use Rattle.inc_pp.specs.Files.{FileFault, text_tree}
use Rattle.inc_macro.specs.Results.{◌>>=◌}
use Rattle.inc_pp.specs.Preprocessing.{outcome_of, with_read, file_read, most_depth}
use Rattle.inc_pp.specs.Readings.{IsOfReadsAfter}
use Rattle.inc_pp.specs.Runs.{released}
use Rattle.inc_pp.specs.Stops.{IfBadFile, IfStop, IfUnread, halt_at, IsIn, IsUnder}
use Rattle.inc_pp.specs.Settings.{is_too_much}
use Rattle.inc_pp.specs.Shared.{HaveTrees, IsKnownBy, IsLoadedBy}
use Rattle.inc_pp.specs.Tasks.{File, State, Entry, Here, IsWithin}
use Rattle.inc_pp.specs.Walks.{Known, lines_read, Held, held_at, fault_at, known_at, parts_in, deeper_at, file_at, all_read}
use Rattle.inc_pp.specs.HeldFiles.{IsSkipped, NonePoisoned}
use Rattle.inc_pp.specs.WalkJobs.{first_frame, frames_left, over_by, walk_left}
use Rattle.inc_pp.specs.Includes.{included, most_reads}
use Rattle.inc_pp.specs.declared.faults.Break.TheVariants as end
use Rattle.inc_text.specs.declared.devices.ReadFault.TheVariants as read
use Rattle.inc_pp.proofs.GrowingReads.{grows-entering}
use Rattle.inc_pp.specs.WalkStates.{EndsBy, Job, task_of, IsReading, whole_of, AreOpen, IsWalk, IsEntering, IsCounted, IsOver}
use Rattle.inc_pp.proofs.LineSteps.{step-done}
use Rattle.inc_pp.proofs.OpenFiles.{all-on, all-done, all-halt, all-much, all-enter, all-entered, all-bad, all-held, is_in}
use Rattle.inc_pp.proofs.Readings.{held-other, held-none, known-same, known_size, known_sound, reading-on, reading-again, reading-more, reading-end, reading-fails}
use Rattle.inc_pp.proofs.Stepping.{included-none}
use Rattle.inc_pp.proofs.StopSteps.{if-stop}

-- the lines of a held file
lines_are : (held : Held) (i : ℕ) (ls : List FilePart) → held_at held i ≡ Some ls → parts_in held i ≡ ls
lines_are held i ls at = ap (λ o. option_map_or (λ xs. xs) o []) at

-- what is open stays so when another file is held
same_lines : (held : Held) (file : ℕ) (k : Known) (frames : List Frame) → held_at held file ≡ None → AreOpen held frames
    → All (λ (o : Frame). parts_in held o.at.file ≡ parts_in (set held file (Some k)) o.at.file) frames
same_lines held file k frames none are_open = λ i d low.
    let at = are_open i d low in
    ap (λ o. option_map_or (λ xs. xs) o []) (sym (held-other held file _ k (λ e. not_both _ at.1 (ap (λ n. held_at held n) e ∙ none))))
  where
    not_both : (o : Option (List FilePart)) {ks : List FilePart} → o ≡ Some ks → o ≡ None → ⊥
    not_both o a b = cc

still_open : (held : Held) (file : ℕ) (k : Known) (frames : List Frame) → held_at held file ≡ None → AreOpen held frames
    → AreOpen (set held file (Some k)) frames
still_open held file k frames none are_open = λ i d low.
    let at = are_open i d low in
    (at.0, held-other held file _ k (λ e. not_both _ at.1 (ap (λ n. held_at held n) e ∙ none)) ∙ at.1)
  where
    not_both : (o : Option (List FilePart)) {ks : List FilePart} → o ≡ Some ks → o ≡ None → ⊥
    not_both o a b = cc

-- a file whose lines are held
pub held_is : {A : Type 0} (view : A → List FilePart) (o : Option A) (x : A) (held : Held) (i : ℕ) → option_map view o ≡ held_at held i → o ≡ Some x → held_at held i ≡ Some (view x)
held_is view o x held i at is = sym at ∙ ap (λ y. option_map view y) is

-- no part is left
pub within_held : (m n : ℕ) (ls : List FilePart) → m ≡ length ls → m ≤ n → length ls ≤ n
within_held m n ls is low = omega (arith, is, low)

pub some_past : (held : Held) (i m n : ℕ) (ls : List FilePart) → held_at held i ≡ Some ls → m ≡ length ls → m ≤ n → length (parts_in held i) ≤ n
some_past held i m n ls at is low = let long : length (parts_in held i) ≡ length ls = ap length (lines_are held i ls at) in omega (arith, long, is, low)

-- what holds of lines, or of a fault, where it is known that there are some
of_lines : (r : Result (List FilePart) FileFault) (ls : List FilePart) (P : List FilePart → Type 0) → r ≡ Ok ls → IfOk r P → P ls
of_lines r ls P is h = subst (λ q. IfOk q P) is h

of_fault : (r : Result (List FilePart) FileFault) (fault : FileFault) (P : FileFault → Type 0) → r ≡ Err fault → IfErr r P → P fault
of_fault r fault P is h = subst (λ q. IfErr q P) is h

-- whether it is too much once a file is added to the reads
pub much_by : (most : Option ℕ) (s t : State) (file size n : ℕ) (b much : Bool) → t ≡ with_read file size s → n ≡ t.bytes_read → b ≡ is_too_much most n → b ≡ much
    → is_too_much most (s.bytes_read + size) ≡ much
much_by most s t file size n b much added counted is on = ap (is_too_much most) (sym (counted ∙ ap (λ (x : State). x.bytes_read) added)) ∙ sym is ∙ on

-- as many files are held as before
pub known-wide : {S : Type 0} (gives : S → ℕ → Result (List ℕ) ReadFault → S → Type 0) (language : Language) (without : List DirectiveId) (file : ℕ) (old new : S) (held after : Held) (size : ℕ)
    → IsKnownBy gives language without file old held new after size → length after ≡ length held
known-wide gives language without file old new held after size (inl h) = ap length h.4
known-wide gives language without file old new held after size (inr h) = ap length h.0.4 ∙ length-set held file _

-- what follows of an answer
pub on_ok : {A B : Type 0} (r : Result A B) {P Q : Type 0} → (P → Q) → OnOk r P → OnOk r Q
on_ok (Ok x) step p = step p
on_ok (Err e) step p = tt

pub on_ok_both : {A B : Type 0} (r : Result A B) {P Q R : Type 0} → (P → Q → R) → OnOk r P → OnOk r Q → OnOk r R
on_ok_both (Ok x) step p q = step p q
on_ok_both (Err e) step p q = tt

pub if_err : {A B : Type 0} (r : Result A B) {P Q : B → Type 0} → ((e : B) → P e → Q e) → IfErr r P → IfErr r Q
if_err (Ok x) step p = tt
if_err (Err e) step p = step e p

pub found_of : (P : Entry → Type 0) (found : Option Entry) (to : Entry) → found ≡ Some to → IfSome found P → P to
found_of P found to is h = subst (λ o. IfSome o P) is h

pub one_longer : (new mid old : List ℕ) (file : ℕ) → new ≡ mid ++ file ∷ [] → mid ≡ old → length new ≡ length old + 1
one_longer new mid old file is same = ap length is ∙ length_push mid file ∙ ap (λ xs. length xs + 1) same

pub few_of : (mid old : List ℕ) → mid ≡ old → length mid < most_reads → length old < most_reads
few_of mid old same low = subst (λ xs. length xs < most_reads) same low

pub some_low : (held : Held) (i m n : ℕ) (ls : List FilePart) → held_at held i ≡ Some ls → m ≡ length ls → n < m → n < length (parts_in held i)
some_low held i m n ls at is low = let long : length (parts_in held i) ≡ length ls = ap length (lines_are held i ls at) in omega (arith, long, is, low)

-- whether includes may nest one deeper
pub nests_by : (n : ℕ) (items : List Frame) → n ≡ length items → nat_lt n most_depth ≡ nat_lt (length (reverse items)) most_depth
nests_by n items is = ap (λ k. nat_lt k most_depth) (is ∙ sym (length-reverse items))

-- one more on top
pub reverse-push : {A : Type 0} (items news : List A) (x : A) → news ≡ items ++ x ∷ [] → reverse news ≡ x ∷ reverse items
reverse-push items news x is = ap reverse is ∙ reverse-append items (x ∷ [])

-- what is left to read once another file is held
left-set : (held : Held) (file : ℕ) (k : Known) (frames : List Frame) → All (λ (o : Frame). parts_in held o.at.file ≡ parts_in (set held file (Some k)) o.at.file) frames
    → frames_left (set held file (Some k)) frames ≡ frames_left held frames
left-set held file k [] same = refl
left-set held file k (o ∷ os) same =
    ap (λ xs. suc (length xs - o.part) + frames_left (set held file (Some k)) os) (sym (All-head (λ (o : Frame). parts_in held o.at.file ≡ parts_in (set held file (Some k)) o.at.file) o os same))
    ∙ ap (λ n. suc (length (parts_in held o.at.file) - o.part) + n)
    (left-set held file k os (All-tail (λ (o : Frame). parts_in held o.at.file ≡ parts_in (set held file (Some k)) o.at.file) o os same))

-- there is one more file to read
pub left-first : (held after : Held) (frames : List Frame) (frame : Frame) (n : ℕ) → frames_left after frames ≡ frames_left held frames
    → n ≡ length (parts_in after frame.at.file) → n < 18_446_744_073_709_551_616
    → frames_left after (frame ∷ frames) ≤ frames_left held frames + 18_446_744_073_709_551_617
left-first held after frames frame n same long low = omega (arith, same, long, low)

pub left-same : (held after : Held) (frames : List Frame) → frames_left after frames ≡ frames_left held frames
    → frames_left after frames ≤ frames_left held frames + 18_446_744_073_709_551_617
left-same held after frames same = omega (arith, same)

-- after a line there is less left
pub left-step : (held : Held) (frames : List Frame) (frame next : Frame) (reads : ℕ) → next.at ≡ frame.at → frame.part < next.part → frame.part < length (parts_in held frame.at.file)
    → walk_left held (next ∷ frames) reads < walk_left held (frame ∷ frames) reads
left-step held frames frame next reads same onward low =
    let long : length (parts_in held next.at.file) ≡ length (parts_in held frame.at.file) = ap (λ (at : Found). length (parts_in held at.file)) same in
    omega (arith, long, onward, low)

pub left-done : (held : Held) (frames : List Frame) (frame : Frame) (reads : ℕ) → walk_left held frames reads < walk_left held (frame ∷ frames) reads
left-done held frames frame reads = omega arith

pub left-enter : (held after : Held) (frames news : List Frame) (frame next : Frame) (reads : ℕ) → next.at ≡ frame.at → frame.part < next.part → frame.part < length (parts_in held frame.at.file)
    → reads < most_reads → frames_left after news ≤ frames_left held (next ∷ frames) + 18_446_744_073_709_551_617
    → walk_left after news (reads + 1) < walk_left held (frame ∷ frames) reads
left-enter held after frames news frame next reads same onward low few less =
    let long : length (parts_in held next.at.file) ≡ length (parts_in held frame.at.file) = ap (λ (at : Found). length (parts_in held at.file)) same in
    omega (arith, long, onward, low, few, less)

module _ {S : Type 0} (gives : S → ℕ → Result (List ℕ) ReadFault → S → Type 0) (old new : S) (j : Job) (held : Held) (frames : List Frame) where
  ---- a file is to be entered

  module _ (from : Entry) (s : State) (e : IsEntering gives old new j held frames from s) where
    -- it is held already
    counted-again : (k : Known) → known_at held from.at.file ≡ Some k → IsCounted gives old new j held frames from k.size s
    counted-again k at = record {
      reading = reading-again gives old j new held s.reads _ e.reading from.at.file k
          (λ t. all_read t held frames (file_read t (deeper_at t (most_depth - length frames)) from s)) at (λ listing laid trees. refl);
      are_open = e.are_open;
      deep = e.deep;
      within = e.within;
      file_within = e.file_within;
      sized = ap (λ o. option_map (λ (x : Known). x.size) o) at;
    }

    -- it has been read
    counted-load : (later : S) (after : Held) (size : ℕ) → known_at held from.at.file ≡ None
        → IsLoadedBy gives j.settings.language j.without from.at.file new held later after size → IsCounted gives old later j after frames from size s
    counted-load later after size none l =
        let k : Known = record { size = size; lines = l.1 } in
        let wide : from.at.file < length held = omega (arith, e.reading.shared.kept.wide, e.file_within.0) in
        let no_lines = held-none held from.at.file none in
        subst (λ h. IsCounted gives old later j h frames from size s) (sym l.4) (record {
          reading = reading-more gives old j new held s.reads _ e.reading later from.at.file l.0 e.file_within.0 none l.2 k l.3 l.5
              (λ ls is. of_lines l.1 ls
              (λ ps. (g : Group) × (group_tree (lines_of_parts ps) ≡ Ok g)
              × (text_tree j.settings.language (is_listed j.without from.at.file) (phase_text j.settings.language l.0) ≡ Ok g)) is l.6)
              (λ fault is. of_fault l.1 fault
              (λ why. text_tree j.settings.language (is_listed j.without from.at.file) (phase_text j.settings.language l.0) ≡ Err why) is l.7)
              (λ t. all_read t (set held from.at.file (Some k)) frames (file_read t (deeper_at t (most_depth - length frames)) from s))
              (λ listing laid trees. all-held (task_of j listing) held (set held from.at.file (Some k)) frames _ (same_lines held from.at.file k frames no_lines e.are_open));
          are_open = still_open held from.at.file k frames no_lines e.are_open;
          deep = e.deep;
          within = e.within;
          file_within = e.file_within;
          sized = ap (λ o. option_map (λ (x : Known). x.size) o) (known-same held from.at.file k wide);
        })

    -- one of both
    pub counted-known : (later : S) (after : Held) (size : ℕ) (language : Language) → language ≡ j.settings.language
        → IsKnownBy gives language j.without from.at.file new held later after size → IsCounted gives old later j after frames from size s
    counted-known later after size language is known = by (subst (λ l. IsKnownBy gives l j.without from.at.file new held later after size) is known)
      where
        by : IsKnownBy gives j.settings.language j.without from.at.file new held later after size → IsCounted gives old later j after frames from size s
        by (inl h) =
            subst (λ x. IsCounted gives old later j x frames from size s) (sym h.4)
            (subst (λ x. IsCounted gives old x j held frames from size s) (sym h.3)
            (subst (λ n. IsCounted gives old new j held frames from n s) h.2 (counted-again h.0 h.1)))
        by (inr h) = counted-load later after size h.1 h.0

    -- what is left to read is the same then
    pub left-known : (later : S) (after : Held) (size : ℕ) (language : Language) → IsKnownBy gives language j.without from.at.file new held later after size
        → frames_left after frames ≡ frames_left held frames
    left-known later after size language (inl h) = ap (λ x. frames_left x frames) h.4
    left-known later after size language (inr h) =
        ap (λ x. frames_left x frames) h.0.4
        ∙ left-set held from.at.file _ frames (same_lines held from.at.file _ frames (held-none held from.at.file h.1) e.are_open)

    -- it cannot be read
    enter-fails : (later : S) (t : State) (fault : ReadFault) → known_at held from.at.file ≡ None → gives new from.at.file (Err fault) later → fault ≢ read.NoMemory
        → EndsBy gives old later j held t from.at.file (end.Unread fault)
    enter-fails later t fault none step why = (
      record {
        state = failing.state;
        before = given_all failing.before
            (λ given listing laid h.
            let more = grows-entering (task_of j listing) held frames (most_depth - length frames) from s in
            record {
              before = s.reads;
              more = more.0;
              reads = ap (λ r. (outcome_of r).reads) h.0 ∙ more.1;
              read = h.1;
              fresh = h.2;
            });
        failed = failing.failed;
      },
      e.file_within.0,
      why,
    )
      where
        failing : FailsAfter gives old later j.layout from.at.file fault
            (λ given listing. (whole_of j listing ≡ all_read (task_of j listing) held frames (file_read (task_of j listing) (deeper_at (task_of j listing) (most_depth - length frames)) from s))
            × IsOfReadsAfter j.earlier s.reads given × All (λ (g : Given). g.file ≢ from.at.file) given)
        failing = reading-fails gives old j new held s.reads _ e.reading later from.at.file fault none step

    -- or memory has run out
    pub enter-break : (later : S) (after : Held) (t : State) (why : Break) → IfBadFile why (λ line cause. ⊥)
        → IfUnread why (λ fault. (known_at held from.at.file ≡ None) × (after ≡ held) × gives new from.at.file (Err fault) later × (fault ≢ read.NoMemory))
        → EndsBy gives old later j after t from.at.file why
    enter-break later after t (end.Stop line cause) bad unread = absurd bad
    enter-break later after t (end.Unread fault) bad unread =
        subst (λ h. EndsBy gives old later j h t from.at.file (end.Unread fault)) (sym unread.1) (enter-fails later t fault unread.0 unread.2 unread.3)
    enter-break later after t end.NoMemory bad unread = tt

  ---- a file that is held is entered

  module _ (from : Entry) (size : ℕ) (s : State) (e : IsCounted gives old new j held frames from size s) where
    -- with the bytes that it has in each listing
    long_in : (listing : Listing) → HaveTrees j.settings.language j.without held listing → length (bytes_at listing from.at.file) ≡ size
    long_in listing trees =
        let k = known_size (known_at held from.at.file) size e.sized in
        trees.sizes from.at.file k.0 k.1 ∙ k.2

    -- too much was read with it
    pub counted-much : is_too_much j.settings.most_read (s.bytes_read + size) ≡ true
        → IsOver gives old new j held (over_by (with_read from.at.file size s) (Some (record { file = from.by.file; line = from.by.line; cause = TooMuchRead })))
    counted-much much =
        reading-end gives old j new held (s.reads ++ from.at.file ∷ []) _ e.reading
        (over_by (with_read from.at.file size s) (Some (record { file = from.by.file; line = from.by.line; cause = TooMuchRead }))) refl
        (λ listing laid trees. ap outcome_of (all-much (task_of j listing) held frames (deeper_at (task_of j listing) (most_depth - length frames)) from size s (long_in listing trees) much))

    module _ (few : is_too_much j.settings.most_read (s.bytes_read + size) ≡ false) where
      -- it has a tree
      pub counted-open : (ls : List FilePart) (frame : Frame) → held_at held from.at.file ≡ Some ls → frame ≡ first_frame j.layout from
          → IsWalk gives old new j held (frame ∷ frames) (with_read from.at.file size s)
      counted-open ls frame at is = record {
        reading = reading-on gives old j new held (s.reads ++ from.at.file ∷ []) _ e.reading (λ t. all_read t held (frame ∷ frames) (Ok (with_read from.at.file size s)))
            (λ listing laid trees.
            let tree = trees.trees from.at.file ls at in
            all-entered (task_of j listing) held frames from (length frames) ls tree.0 size s frame refl at (long_in listing trees) few tree.1 tree.2
            (is ∙ ap (λ l. first_frame l from) (sym laid)));
        are_open = All-cons (λ (o : Frame). (ks : List FilePart) × (held_at held o.at.file ≡ Some ks)) frame frames
            (ls, ap (λ (o : Frame). held_at held o.at.file) is ∙ at) e.are_open;
        deep = omega (arith, e.deep);
        within = All-cons (λ (o : Frame). o.at.file < length j.layout.paths) frame frames (subst (λ (o : Frame). o.at.file < length j.layout.paths) (sym is) e.file_within.0) e.within;
      }

      -- it has none
      pub counted-faulty : (line : ℕ) (cause : Cause) → fault_at held from.at.file ≡ Some (cause, line)
          → IsOver gives old new j held (over_by (with_read from.at.file size s) (Some (record { file = from.at.file; line = line; cause = cause })))
      counted-faulty line cause at =
          reading-end gives old j new held (s.reads ++ from.at.file ∷ []) _ e.reading
          (over_by (with_read from.at.file size s) (Some (record { file = from.at.file; line = line; cause = cause }))) refl
          (λ listing laid trees.
          ap outcome_of (all-bad (task_of j listing) held frames from (length frames) (cause, line) size s (long_in listing trees) few (trees.faults from.at.file (cause, line) at)))

      -- it has lines, as it has no fault
      pub counted-sound : (frame : Frame) → fault_at held from.at.file ≡ None → frame ≡ first_frame j.layout from
          → IsWalk gives old new j held (frame ∷ frames) (with_read from.at.file size s)
      counted-sound frame none is =
          let k = known_size (known_at held from.at.file) size e.sized in
          let sound = known_sound (known_at held from.at.file) k.0 k.1 none in
          counted-open sound.0 frame sound.1 is

  ---- the innermost file is read on

  module _ (frame : Frame) (s : State) (w : IsWalk gives old new j held (frame ∷ frames) s) where
    -- nothing is left of it after this state
    pub walk-passed : (t : State) (h : Here) → t.reads ≡ s.reads
        → ((f : File) → IsUnder j.settings f → f.index ≡ frame.at.file → lines_read f (lines_from frame.part (parts_in held frame.at.file)) s frame.here ≡ Ok (t, h))
        → IsWalk gives old new j held frames t
    walk-passed t h reads nothing = record {
      reading = subst (λ rs. IsReading gives old new j held rs (λ x. all_read x held frames (Ok t))) (sym reads)
          (reading-on gives old j new held s.reads _ w.reading (λ x. all_read x held frames (Ok t))
          (λ listing laid trees. all-done (task_of j listing) held frame frames s t h (nothing (file_at (task_of j listing) frame.at (length frames)) refl refl)));
      are_open = All-tail (λ (o : Frame). (ks : List FilePart) × (held_at held o.at.file ≡ Some ks)) frame frames w.are_open;
      deep = omega (arith, w.deep);
      within = All-tail (λ (o : Frame). o.at.file < length j.layout.paths) frame frames w.within;
    }

    -- it is over
    pub walk-done : (t : State) (h : Here) → t.reads ≡ s.reads → length (parts_in held frame.at.file) ≤ frame.part
        → ((f : File) → IsUnder j.settings f → f.index ≡ frame.at.file → released f s frame.here ≡ Ok (t, h))
        → IsWalk gives old new j held frames t
    walk-done t h reads past free =
        walk-passed t h reads (λ f under index. step-done f (parts_in held frame.at.file) frame.part past s frame.here ∙ free f under index)

    -- it is held
    pub walk-held : held_at held frame.at.file ≢ None
    walk-held = λ none.
        let there = All-head (λ (o : Frame). (ks : List FilePart) × (held_at held o.at.file ≡ Some ks)) frame frames w.are_open in
        some_other there.0 (sym there.1 ∙ none)
      where
        some_other : (ks : List FilePart) → Some ks ≢ None
        some_other ks = λ e. cc

    pub walk-within : frame.at.file < length j.layout.paths
    walk-within = All-head (λ (o : Frame). o.at.file < length j.layout.paths) frame frames w.within

    module _ (ls : List FilePart) (at : held_at held frame.at.file ≡ Some ls) (nests : Bool) (nests_is : nests ≡ nat_lt (length frames) most_depth) where
      this : (listing : Listing) → File
      this listing = file_at (task_of j listing) frame.at (length frames)

      in_this : (listing : Listing) → layout_of listing ≡ j.layout → IsIn j.layout j.settings frame.at nests (this listing)
      unfolding this
      in_this listing laid =
          let is = is_in (task_of j listing) frame.at (length frames) in
          record { under = refl; laid = laid; at = refl; next = refl; deeper = is.deeper ∙ sym nests_is }

      from_lines : (listing : Listing) → lines_read (this listing) (lines_from frame.part (parts_in held frame.at.file)) s frame.here
          ≡ lines_read (this listing) (lines_from frame.part ls) s frame.here
      from_lines listing = ap (λ xs. lines_read (this listing) (lines_from frame.part xs) s frame.here) (lines_are held frame.at.file ls at)

      module _ (next : Frame) (t : State) (same : next.at ≡ frame.at) (reads : t.reads ≡ s.reads) where
        next_open : AreOpen held (next ∷ frames)
        next_open =
            All-cons (λ (o : Frame). (ks : List FilePart) × (held_at held o.at.file ≡ Some ks)) next frames (ls, ap (λ (o : Found). held_at held o.file) same ∙ at)
            (All-tail (λ (o : Frame). (ks : List FilePart) × (held_at held o.at.file ≡ Some ks)) frame frames w.are_open)

        next_within : All (λ (o : Frame). o.at.file < length j.layout.paths) (next ∷ frames)
        next_within =
            All-cons (λ (o : Frame). o.at.file < length j.layout.paths) next frames (subst (λ (o : Found). o.file < length j.layout.paths) (sym same) walk-within)
            (All-tail (λ (o : Frame). o.at.file < length j.layout.paths) frame frames w.within)

        -- a line is read that leads to no file
        pub walk-step : (found : Option Entry) → found ≡ None → ((f : File) → IsIn j.layout j.settings frame.at nests f → LeadsTo ls f frame.part s frame.here found next.part t next.here)
            → IsWalk gives old new j held (next ∷ frames) t
        unfolding this
        walk-step found is leads = record {
          reading = subst (λ rs. IsReading gives old new j held rs (λ x. all_read x held (next ∷ frames) (Ok t))) (sym reads)
              (reading-on gives old j new held s.reads _ w.reading (λ x. all_read x held (next ∷ frames) (Ok t))
              (λ listing laid trees.
              all-on (task_of j listing) held frame next frames s t
              (from_lines listing ∙ leads (this listing) (in_this listing laid)
              ∙ ap (λ o. included (this listing).deeper o t next.here >>= λ x. lines_read (this listing) (lines_from next.part ls) x.0 x.1) is
              ∙ ap (λ r. r >>= λ x. lines_read (this listing) (lines_from next.part ls) x.0 x.1) (included-none (this listing).deeper t next.here)
              ∙ ap (λ xs. lines_read (this listing) (lines_from next.part xs) t next.here) (sym (lines_are held frame.at.file ls at))
              ∙ ap (λ (o : Found). lines_read (file_at (task_of j listing) o (length frames)) (lines_from next.part (parts_in held o.file)) t next.here) (sym same))));
          are_open = next_open;
          deep = w.deep;
          within = next_within;
        }

        -- a line is read that leads to a file
        pub walk-enter : (found : Option Entry) (to : Entry) → found ≡ Some to → IsWithin j.layout to → nests ≡ true
            → ((f : File) → IsIn j.layout j.settings frame.at nests f → LeadsTo ls f frame.part s frame.here found next.part t next.here)
            → IsEntering gives old new j held (next ∷ frames) to t
        unfolding this
        walk-enter found to is low on leads =
            let shallow : length frames < most_depth = ltb-true (length frames) most_depth (sym nests_is ∙ on) in
            record {
              reading = subst (λ rs. IsReading gives old new j held rs
                  (λ x. all_read x held (next ∷ frames) (file_read x (deeper_at x (most_depth - length (next ∷ frames))) to t))) (sym reads)
                  (reading-on gives old j new held s.reads _ w.reading
                  (λ x. all_read x held (next ∷ frames) (file_read x (deeper_at x (most_depth - length (next ∷ frames))) to t))
                  (λ listing laid trees.
                  all-enter (task_of j listing) held frame next frames s t to shallow same
                  (from_lines listing ∙ leads (this listing) (in_this listing laid)
                  ∙ ap (λ o. included (this listing).deeper o t next.here >>= λ r. lines_read (this listing) (lines_from next.part ls) r.0 r.1) is
                  ∙ ap (λ xs. included (this listing).deeper (Some to) t next.here >>= λ r. lines_read (this listing) (lines_from next.part xs) r.0 r.1) (sym (lines_are held frame.at.file ls at)))));
              are_open = next_open;
              deep = omega (arith, shallow);
              within = next_within;
              file_within = low;
            }

      -- it stops
      pub walk-stop : (t : State) (line : ℕ) (cause : Cause) → t.reads ≡ s.reads
          → ((f : File) → IsIn j.layout j.settings frame.at nests f → StopsAt f (lines_read f (lines_from frame.part ls) s frame.here) line cause t)
          → IsOver gives old new j held (record { tokens = t.output; reads = t.reads; stop = Some (record { file = frame.at.file; line = line; cause = cause }) })
      unfolding this
      walk-stop t line cause reads stops =
          reading-end gives old j new held s.reads _ w.reading
          (record { tokens = t.output; reads = t.reads; stop = Some (record { file = frame.at.file; line = line; cause = cause }) }) (sym reads)
          (λ listing laid trees.
          let halt = stops (this listing) (in_this listing laid) in
          ap outcome_of (all-halt (task_of j listing) held frame frames s (halt_at (this listing) halt.0 line cause) (from_lines listing ∙ halt.2))
          ∙ outcome-put (this listing) halt.0 line cause halt.1.output halt.1.reads)
        where
          outcome-put : (f : File) (x : State) (l : ℕ) (c : Cause) → x.output ≡ t.output → x.reads ≡ t.reads
              → outcome_of (Err (halt_at f x l c)) ≡ record { tokens = t.output; reads = t.reads; stop = Some (record { file = f.index; line = l; cause = c }) }
          outcome-put f x l c o r =
              ap (λ tokens. record { tokens = tokens; reads = x.reads; stop = Some (record { file = f.index; line = l; cause = c }) }) o
              ∙ ap (λ rs. record { tokens = t.output; reads = rs; stop = Some (record { file = f.index; line = l; cause = c }) }) r

      -- it stops, or memory has run out
      pub walk-break : (t : State) (why : Break) → t.reads ≡ s.reads
          → IfStop why (λ line cause. (f : File) → IsIn j.layout j.settings frame.at nests f → StopsAt f (lines_read f (lines_from frame.part ls) s frame.here) line cause t)
          → EndsBy gives old new j held t frame.at.file why
      walk-break t (end.Stop line cause) reads stops = (walk-stop t line cause reads stops, walk-within)
      walk-break t (end.Unread fault) reads stops = absurd stops
      walk-break t end.NoMemory reads stops = tt

      -- tokens that wait have a fault where the file ends
      pub done-break : (t : State) (why : Break) → t.reads ≡ s.reads → length ls ≤ frame.part
          → IfStop why (λ line cause. (t ≡ s) × ((f : File) → IsUnder j.settings f → f.index ≡ frame.at.file → released f s frame.here ≡ Err (halt_at f s line cause)))
          → EndsBy gives old new j held t frame.at.file why
      done-break t why reads past stops =
          walk-break t why reads
          (if-stop why _ _ (λ line cause stop f in_file. (
            s,
            record { output = ap (λ x. x.output) (sym stop.0); reads = ap (λ x. x.reads) (sym stop.0) },
            step-done f ls frame.part past s frame.here ∙ stop.1 f in_file.under in_file.at,
          )) stops)

-- a file is entered of which nothing is left
pub counted-passed : {S : Type 0} (gives : S → ℕ → Result (List ℕ) ReadFault → S → Type 0) (old new : S) (j : Job) (held : Held) (frames : List Frame) (from : Entry) (size : ℕ) (s t : State)
    → IsCounted gives old new j held frames from size s → is_too_much j.settings.most_read (s.bytes_read + size) ≡ false → t ≡ with_read from.at.file size s
    → (ls : List FilePart) → held_at held from.at.file ≡ Some ls → IsSkipped t.table ls → NonePoisoned t → IsWalk gives old new j held frames t
counted-passed gives old new j held frames from size s t e few is ls at nothing none =
    subst (λ (x : State). IsWalk gives old new j held frames x) (sym is)
    (walk-passed gives old new j held frames first (with_read from.at.file size s) (counted-open gives old new j held frames from size s e few ls first at refl) (with_read from.at.file size s) first.here refl
    (λ f under index. ap (λ xs. lines_read f (lines_of_parts xs) (with_read from.at.file size s) first.here) (lines_are held from.at.file ls at) ∙ nothing f (with_read from.at.file size s) first.here (ap (λ (x : State). x.table) (sym is)) (subst NonePoisoned is none)))
  where
    first : Frame
    first = first_frame j.layout from
