-- What is known of a preprocessing by what was read so far.
use Rattle.std.proofs.Common.{◌≡◌, ◌≢◌, ◌⊎◌, inl, inr, ◌==◌, Bool, true, false, ℕ, zero, suc, ◌<◌, List, [], ◌∷◌, ◌++◌, Option, Some, None, Result, Ok, Err, IfOk, refl, ap, sym, ◌∙◌, subst, length, length-set, set, get_or, get_or-set_same, get_or-set_other, option_and_then, option_map, Contains, arith}
use Rattle.std.specs.List.{All}
use Rattle.std.proofs.lemmas.Bool.{eqb-true, eqb-false}
use Rattle.std.proofs.lemmas.List.Elements.{All-nil, All-cons, All-head, All-tail, Contains-append_left, Contains-push, Contains-push_cases, Contains-append_right}
use Rattle.inc_text.specs.PhaseText.{phase_text}
use Rattle.inc_text.specs.declared.devices.ReadFault.{ReadFault}
use Rattle.inc_text.specs.declared.languages.Language.{Language}
use Rattle.inc_directive.specs.Groups.{Group, group_tree}
use Rattle.inc_directive.specs.Parts.{FilePart, lines_of_parts}
use Rattle.inc_lookup.specs.DirectiveLists.{is_listed}
use Rattle.inc_lookup.specs.declared.projects.DirectiveId.{DirectiveId}
use Rattle.inc_lookup.specs.Given.{Given, Agrees, FailsAfter, IsOnce}
use Rattle.inc_lookup.specs.Projects.{Layout, Listing, layout_of, bytes_at}
use Rattle.inc_lookup.proofs.GivenLemmas.{laid_count, bare_listing, laid_bare, with_bytes, laid_with, agrees_more}
use Rattle.inc_pp.specs.declared.faults.Break.{Break}
use Rattle.inc_pp.specs.declared.faults.Break.TheVariants as end
use Rattle.inc_pp.specs.Files.{FileFault, text_tree, tree_of}
use Rattle.inc_pp.specs.Preprocessing.{Outcome, most_depth, outcome_of, reading}
use Rattle.inc_pp.specs.Readings.{IsOfReadsAfter}
use Rattle.inc_pp.specs.Shared.{AreHeld, AreShared, AreUnread, HaveTrees}
use Rattle.inc_pp.specs.Stops.{AreOf, IfUnread}
use Rattle.inc_pp.specs.Tasks.{Task, State, Halt, source_at, begun}
use Rattle.inc_pp.specs.Walks.{Known, Held, held_at, fault_at, known_at, if_parts, if_fault}
use Rattle.inc_pp.specs.WalkStates.{Job, task_of, whole_of, AreRead, IsReading, IsOver}

-- an element of a list with one more in front
in_front : {A : Type 0} (x : A) (xs : List A) → Contains (x ∷ xs) x
in_front x xs = Contains-append_left (x ∷ []) xs x (Contains-push [] x)

behind : {A : Type 0} (x : A) (xs : List A) (y : A) → Contains xs y → Contains (x ∷ xs) y
behind x xs y c = Contains-append_right (x ∷ []) xs y c

---- the files that are held

known_by : (held : Held) (i : ℕ) → known_at held i ≡ get_or held i None
known_by [] i = refl
known_by (o ∷ os) zero = by o
  where
    by : (o : Option Known) → option_and_then (λ x. x) (Some o) ≡ o
    by o = refl
known_by (o ∷ os) (suc i) = known_by os i

pub known-same : (held : Held) (file : ℕ) (r : Known) → file < length held → known_at (set held file (Some r)) file ≡ Some r
known-same held file r low = known_by (set held file (Some r)) file ∙ get_or-set_same held file (Some r) None low

known-other : (held : Held) (file i : ℕ) (r : Known) → i ≢ file → known_at (set held file (Some r)) i ≡ known_at held i
known-other held file i r ne = known_by (set held file (Some r)) i ∙ get_or-set_other held file i (Some r) None ne ∙ sym (known_by held i)

-- what is known of a file, once one more is
known-set : (held : Held) (file i : ℕ) (r q : Known) → file < length held → known_at (set held file (Some r)) i ≡ Some q
    → ((i ≡ file) × (q ≡ r)) ⊎ ((i ≢ file) × (known_at held i ≡ Some q))
known-set held file i r q low at = by (i == file) refl
  where
    some_is : (o : Option Known) → o ≡ Some r → o ≡ Some q → q ≡ r
    some_is o a b = let e : Some r ≡ Some q = sym a ∙ b in cc

    by : (b : Bool) → (i == file) ≡ b → ((i ≡ file) × (q ≡ r)) ⊎ ((i ≢ file) × (known_at held i ≡ Some q))
    by true e =
        let same = eqb-true i file e in
        inl (same, some_is (known_at (set held file (Some r)) file) (known-same held file r low) (ap (λ k. known_at (set held file (Some r)) k) (sym same) ∙ at))
    by false e = let ne = eqb-false i file e in inr (ne, sym (known-other held file i r ne) ∙ at)

neither : {A : Type 0} (o : Option A) {x : A} → o ≡ None → o ≢ Some x
neither o a = λ b. cc

-- the parts of a file by what is known of it, and its fault
abbrev parts_of : Option Known → Option (List FilePart)
parts_of o = option_and_then (λ (k : Known). if_parts k.lines) o

abbrev fault_of : Option Known → Option FileFault
fault_of o = option_and_then (λ (k : Known). if_fault k.lines) o

pub held-other : (held : Held) (file i : ℕ) (k : Known) → i ≢ file → held_at (set held file (Some k)) i ≡ held_at held i
held-other held file i k ne = ap parts_of (known-other held file i k ne)

-- what is known of a file that has lines, or a fault, or so many bytes
pub known_lines : (o : Option Known) (ls : List FilePart) → parts_of o ≡ Some ls → (k : Known) × (o ≡ Some k) × (k.lines ≡ Ok ls)
known_lines (Some k) ls is = (k, refl, by k.lines is)
  where
    by : (r : Result (List FilePart) FileFault) → if_parts r ≡ Some ls → r ≡ Ok ls
    by (Ok ks) is = cc
    by (Err fault) is = cc
known_lines None ls is = absurd (neither None refl is)

pub known_fault : (o : Option Known) (fault : FileFault) → fault_of o ≡ Some fault → (k : Known) × (o ≡ Some k) × (k.lines ≡ Err fault)
known_fault (Some k) fault is = (k, refl, by k.lines is)
  where
    by : (r : Result (List FilePart) FileFault) → if_fault r ≡ Some fault → r ≡ Err fault
    by (Ok ks) is = cc
    by (Err other) is = cc
known_fault None fault is = absurd (neither None refl is)

pub known_size : (o : Option Known) (size : ℕ) → option_map (λ (k : Known). k.size) o ≡ Some size → (k : Known) × (o ≡ Some k) × (k.size ≡ size)
known_size (Some k) size is = (k, refl, cc)
known_size None size is = absurd (neither None refl is)

pub known_less : (o : Option Known) → option_map (λ (k : Known). k.size) o ≡ None → o ≡ None
known_less (Some k) is = absurd (neither None refl (sym is))
known_less None is = refl

-- what holds where a file was not read
pub if-unread : (fault : Break) {P Q : ReadFault → Type 0} → ((why : ReadFault) → P why → Q why) → IfUnread fault P → IfUnread fault Q
if-unread (end.Stop line cause) more h = tt
if-unread (end.Unread why) more h = more why h
if-unread end.NoMemory more h = tt

-- a file that is known and has no fault has lines
pub known_sound : (o : Option Known) (k : Known) → o ≡ Some k → fault_of o ≡ None → (ls : List FilePart) × (parts_of o ≡ Some ls)
known_sound o k at none = by k.lines refl (sym (ap fault_of at) ∙ none)
  where
    by : (r : Result (List FilePart) FileFault) → k.lines ≡ r → if_fault k.lines ≡ None → (ls : List FilePart) × (parts_of o ≡ Some ls)
    by (Ok ls) is sound = (ls, ap parts_of at ∙ ap if_parts is)
    by (Err fault) is sound = absurd (neither (if_fault k.lines) sound (ap if_fault is))

pub held-none : (held : Held) (i : ℕ) → known_at held i ≡ None → held_at held i ≡ None
held-none held i none = ap parts_of none

---- one more file is known

module _ (layout : Layout) (language : Language) (without : List DirectiveId) (held : Held) (file : ℕ) (bytes : List ℕ) (given : List Given) (low : file < length layout.paths)
    (none : known_at held file ≡ None) (kept : AreHeld layout language held given) (r : Known) where
  abbrev pub this : Given
  this = record { file = file; bytes = bytes }

  abbrev pub after : Held
  after = set held file (Some r)

  wide : file < length held
  wide = omega (arith, kept.wide, low)

  pub kept-more : IfOk r.lines (λ ps. AreOf language (lines_of_parts ps)) → AreHeld layout language after (this ∷ given)
  kept-more kinds = record {
    wide = length-set held file (Some r) ∙ kept.wide;
    once = (kept.unread file none, kept.once);
    unread = λ i is.
        let ne : file ≢ i = λ e. neither (known_at (set held file (Some r)) file) (ap (λ k. known_at (set held file (Some r)) k) e ∙ is) (known-same held file r wide) in
        All-cons (λ (g : Given). g.file ≢ i) this given ne (kept.unread i (sym (known-other held file i r (λ e. ne (sym e))) ∙ is));
    read = λ i q at. elim (known-set held file i r q wide at) [
      | inl new ↦ (this, in_front this given, sym new.0)
      | inr old ↦ (let g = kept.read i q old.1 in (g.0, behind this given g.0 g.1, g.2))
    ];
    of_language = λ i ks at.
        let k = known_lines (known_at (set held file (Some r)) i) ks at in
        elim (known-set held file i r k.0 wide k.1) [
          | inl new ↦ subst (λ q. IfOk q (λ ps. AreOf language (lines_of_parts ps))) (sym (ap (λ (x : Known). x.lines) new.1) ∙ k.2) kinds
          | inr old ↦ kept.of_language i ks (ap parts_of old.1 ∙ ap if_parts k.2)
        ];
  }

  -- what the file turned out to be is what it is in the listing
  pub trees-more : (listing : Listing) → HaveTrees language without held listing
      → ((ls : List FilePart) → r.lines ≡ Ok ls → (g : Group) × (group_tree (lines_of_parts ls) ≡ Ok g) × (tree_of language listing without file ≡ Ok g))
      → ((fault : FileFault) → r.lines ≡ Err fault → tree_of language listing without file ≡ Err fault)
      → length (bytes_at listing file) ≡ r.size → HaveTrees language without after listing
  trees-more listing trees is_tree is_fault long = record {
    trees = λ i ks at.
        let k = known_lines (known_at (set held file (Some r)) i) ks at in
        elim (known-set held file i r k.0 wide k.1) [
          | inl new ↦ (let is = is_tree ks (sym (ap (λ (x : Known). x.lines) new.1) ∙ k.2) in (is.0, is.1, ap (λ n. tree_of language listing without n) new.0 ∙ is.2))
          | inr old ↦ trees.trees i ks (ap parts_of old.1 ∙ ap if_parts k.2)
        ];
    faults = λ i fault at.
        let k = known_fault (known_at (set held file (Some r)) i) fault at in
        elim (known-set held file i r k.0 wide k.1) [
          | inl new ↦ ap (λ n. tree_of language listing without n) new.0 ∙ is_fault fault (sym (ap (λ (x : Known). x.lines) new.1) ∙ k.2)
          | inr old ↦ trees.faults i fault (ap fault_of old.1 ∙ ap if_fault k.2)
        ];
    sizes = λ i k at. elim (known-set held file i r k wide at) [
      | inl new ↦ ap (λ n. length (bytes_at listing n)) new.0 ∙ long ∙ sym (ap (λ (x : Known). x.size) new.1)
      | inr old ↦ trees.sizes i k old.1
    ];
  }

---- files that are shared

-- none is read yet
pub shared-unread : {S : Type 0} (gives : S → ℕ → Result (List ℕ) ReadFault → S → Type 0) (first : S) (layout : Layout) (language : Language) (without : List DirectiveId) (held : Held)
    → AreUnread layout held → AreShared gives first first layout language without held []
shared-unread gives first layout language without held unread = record {
  gave = refl;
  witness = bare_listing layout;
  laid_out = laid_bare layout;
  agrees = All-nil (λ (g : Given). bytes_at (bare_listing layout) g.file ≡ g.bytes);
  kept = record {
    wide = unread.wide;
    once = tt;
    unread = λ i is. All-nil (λ (g : Given). g.file ≢ i);
    read = λ i r is. absurd (neither (known_at held i) (unread.none i) is);
    of_language = λ i ls is. absurd (neither (held_at held i) (held-none held i (unread.none i)) is);
  };
  trees = λ listing laid agrees. record {
    trees = λ i ls is. absurd (neither (held_at held i) (held-none held i (unread.none i)) is);
    faults = λ i fault is. absurd (neither (fault_at held i) (ap fault_of (unread.none i)) is);
    sizes = λ i k is. absurd (neither (known_at held i) (unread.none i) is);
  };
}

-- one more is read
module _ {S : Type 0} (gives : S → ℕ → Result (List ℕ) ReadFault → S → Type 0) (first now later : S) (layout : Layout) (language : Language) (without : List DirectiveId) (held : Held)
    (given : List Given) (file : ℕ) (bytes : List ℕ) (shared : AreShared gives first now layout language without held given) (low : file < length layout.paths)
    (none : known_at held file ≡ None) (step : gives now file (Ok bytes) later) where
  abbrev pub one : Given
  one = record { file = file; bytes = bytes }

  pub agrees-before : (listing : Listing) → Agrees (one ∷ given) listing → Agrees given listing
  agrees-before listing agrees = All-tail (λ (g : Given). bytes_at listing g.file ≡ g.bytes) one given agrees

  -- its tree, or its fault, is that of the bytes that were given
  pub tree-given : (listing : Listing) → Agrees (one ∷ given) listing → tree_of language listing without file ≡ text_tree language (is_listed without file) (phase_text language bytes)
  tree-given listing agrees =
      ap (λ bs. text_tree language (is_listed without file) (phase_text language bs)) (All-head (λ (g : Given). bytes_at listing g.file ≡ g.bytes) one given agrees)

  pub shared-more : (r : Known) → length bytes ≡ r.size → IfOk r.lines (λ ps. AreOf language (lines_of_parts ps))
      → ((ls : List FilePart) → r.lines ≡ Ok ls → (g : Group) × (group_tree (lines_of_parts ls) ≡ Ok g) × (text_tree language (is_listed without file) (phase_text language bytes) ≡ Ok g))
      → ((fault : FileFault) → r.lines ≡ Err fault → text_tree language (is_listed without file) (phase_text language bytes) ≡ Err fault)
      → AreShared gives first later layout language without (set held file (Some r)) (one ∷ given)
  shared-more r long kinds is_tree is_fault = record {
    gave = (now, shared.gave, step);
    witness = with_bytes shared.witness file bytes;
    laid_out = laid_with layout shared.witness file bytes shared.laid_out;
    agrees = agrees_more shared.witness given file bytes (omega (arith, laid_count layout shared.witness shared.laid_out, low)) (shared.kept.unread file none) shared.agrees;
    kept = kept-more layout language without held file bytes given low none shared.kept r kinds;
    trees = λ listing laid agrees.
        let is = tree-given listing agrees in
        trees-more layout language without held file bytes given low none shared.kept r listing (shared.trees listing laid (agrees-before listing agrees))
        (λ ls e. let t = is_tree ls e in (t.0, t.1, is ∙ t.2)) (λ fault e. is ∙ is_fault fault e)
        (ap length (All-head (λ (g : Given). bytes_at listing g.file ≡ g.bytes) one given agrees) ∙ long);
  }

---- what was read

-- a file that was read before is read again, or has just been read
read-again : (earlier : List Given) (reads : List ℕ) (given : List Given) (file : ℕ) → AreRead earlier reads given → ((g : Given) × Contains given g × (g.file ≡ file))
    → AreRead earlier (reads ++ file ∷ []) given
read-again earlier reads given file r at = record {
  later = r.later;
  is = r.is;
  only = λ k d low. Contains-append_left reads (file ∷ []) _ (r.only k d low);
  each = λ i c. elim (Contains-push_cases reads file i c) [ inl was ↦ r.each i was | inr is ↦ (at.0, at.1, at.2 ∙ is) ];
}

read-more : (earlier : List Given) (reads : List ℕ) (given : List Given) (g : Given) → AreRead earlier reads given → AreRead earlier (reads ++ g.file ∷ []) (g ∷ given)
read-more earlier reads given g r = record {
  later = g ∷ r.later;
  is = ap (λ gs. g ∷ gs) r.is;
  only = All-cons (λ (x : Given). Contains (reads ++ g.file ∷ []) x.file) g r.later (Contains-push reads g.file)
      (λ k d l. Contains-append_left reads (g.file ∷ []) _ (r.only k d l));
  each = λ i c. elim (Contains-push_cases reads g.file i c) [
    | inl was ↦ (let x = r.each i was in (x.0, behind g given x.0 x.1, x.2))
    | inr is ↦ (g, in_front g given, is)
  ];
}

of_reads : (earlier : List Given) (reads : List ℕ) (given : List Given) → AreRead earlier reads given → IsOnce given → IsOfReadsAfter earlier reads given
of_reads earlier reads given r once = record { later = r.later; is = r.is; only = r.only; each = r.each; once = once }

---- what is left

module _ {S : Type 0} (gives : S → ℕ → Result (List ℕ) ReadFault → S → Type 0) (old : S) (j : Job) where
  -- nothing is read yet by this preprocessing
  pub reading-from : (now : S) (held : Held) → AreShared gives old now j.layout j.settings.language j.without held j.earlier
      → IsReading gives old now j held [] (λ t. reading most_depth t (source_at j.settings j.source) (begun j.table))
  reading-from now held shared = record {
    given = j.earlier;
    shared = shared;
    read = record { later = []; is = refl; only = All-nil (λ (g : Given). Contains [] g.file); each = λ i c. absurd (omega (arith, c.1)) };
    every = λ listing laid agrees. refl;
  }

  module _ (new : S) (held : Held) (reads : List ℕ) (left : Task → Result State Halt) (r : IsReading gives old new j held reads left) where
    -- a step that reads nothing
    pub reading-on : (next : Task → Result State Halt)
        → ((listing : Listing) → layout_of listing ≡ j.layout → HaveTrees j.settings.language j.without held listing → left (task_of j listing) ≡ next (task_of j listing))
        → IsReading gives old new j held reads next
    reading-on next same = record {
      given = r.given;
      shared = r.shared;
      read = r.read;
      every = λ listing laid agrees. r.every listing laid agrees ∙ same listing laid (r.shared.trees listing laid agrees);
    }

    -- a file is read again that is held
    pub reading-again : (file : ℕ) (q : Known) (next : Task → Result State Halt) → known_at held file ≡ Some q
        → ((listing : Listing) → layout_of listing ≡ j.layout → HaveTrees j.settings.language j.without held listing → left (task_of j listing) ≡ next (task_of j listing))
        → IsReading gives old new j held (reads ++ file ∷ []) next
    unfolding reading-on
    reading-again file q next at same =
        let on = reading-on next same in
        record { given = on.given; shared = on.shared; read = read-again j.earlier reads r.given file r.read (r.shared.kept.read file q at); every = on.every }

    -- one more file is read: it has a tree, or else a fault
    pub reading-more : (later : S) (file : ℕ) (bytes : List ℕ) → file < length j.layout.paths → known_at held file ≡ None → gives new file (Ok bytes) later
        → (q : Known) → length bytes ≡ q.size → IfOk q.lines (λ ps. AreOf j.settings.language (lines_of_parts ps))
        → ((ls : List FilePart) → q.lines ≡ Ok ls → (g : Group) × (group_tree (lines_of_parts ls) ≡ Ok g) × (text_tree j.settings.language (is_listed j.without file) (phase_text j.settings.language bytes) ≡ Ok g))
        → ((fault : FileFault) → q.lines ≡ Err fault → text_tree j.settings.language (is_listed j.without file) (phase_text j.settings.language bytes) ≡ Err fault)
        → (next : Task → Result State Halt)
        → ((listing : Listing) → layout_of listing ≡ j.layout → HaveTrees j.settings.language j.without (set held file (Some q)) listing
        → left (task_of j listing) ≡ next (task_of j listing))
        → IsReading gives old later j (set held file (Some q)) (reads ++ file ∷ []) next
    reading-more later file bytes low none step q long kinds is_tree is_fault next on = record {
      given = record { file = file; bytes = bytes } ∷ r.given;
      shared = shared;
      read = read-more j.earlier reads r.given (record { file = file; bytes = bytes }) r.read;
      every = λ listing laid agrees.
          r.every listing laid (agrees-before gives old new later j.layout j.settings.language j.without held r.given file bytes r.shared low none step listing agrees)
          ∙ on listing laid (shared.trees listing laid agrees);
    }
      where
        shared : AreShared gives old later j.layout j.settings.language j.without (set held file (Some q)) (record { file = file; bytes = bytes } ∷ r.given)
        shared = shared-more gives old new later j.layout j.settings.language j.without held r.given file bytes r.shared low none step q long kinds is_tree is_fault

    -- nothing is left
    pub reading-end : (o : Outcome) → reads ≡ o.reads
        → ((listing : Listing) → layout_of listing ≡ j.layout → HaveTrees j.settings.language j.without held listing → outcome_of (left (task_of j listing)) ≡ o)
        → IsOver gives old new j held o
    reading-end o same final = record {
      given = r.given;
      shared = r.shared;
      read = subst (λ rs. IsOfReadsAfter j.earlier rs r.given) same (of_reads j.earlier reads r.given r.read r.shared.kept.once);
      every = λ listing laid agrees. ap outcome_of (r.every listing laid agrees) ∙ final listing laid (r.shared.trees listing laid agrees);
    }

    -- a file cannot be read
    pub reading-fails : (later : S) (file : ℕ) (fault : ReadFault) → known_at held file ≡ None → gives new file (Err fault) later
        → FailsAfter gives old later j.layout file fault
        (λ given listing. (whole_of j listing ≡ left (task_of j listing)) × IsOfReadsAfter j.earlier reads given × All (λ (g : Given). g.file ≢ file) given)
    reading-fails later file fault none step = record {
      state = new;
      before = record {
        given = r.given;
        gave = r.shared.gave;
        witness = r.shared.witness;
        laid_out = r.shared.laid_out;
        agrees = r.shared.agrees;
        every = λ listing laid agrees.
            (r.every listing laid agrees, of_reads j.earlier reads r.given r.read r.shared.kept.once, r.shared.kept.unread file none);
      };
      failed = step;
    }
