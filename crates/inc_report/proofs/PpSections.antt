-- What is printed of sources one after the other.
use Rattle.std.proofs.Common.{◌≡◌, ◌≢◌, ℕ, Bool, true, false, List, [], ◌∷◌, ◌++◌, Option, Some, None, Result, Ok, Err, IfSome, refl, sym, subst, ap, ap₂, ◌∙◌, length, map, inl, inr, take, drop, get_or, ◌+◌, ◌<◌}
use Rattle.std.specs.Prelude.{Contains, flat_map, IsErrOf}
use Rattle.std.specs.List.{All}
use Rattle.std.specs.Io.KnownBytes.{Appends, Keeps}
use Rattle.std.proofs.lemmas.Grind.{flat_map-append}
use Rattle.std.proofs.lemmas.List.{append_assoc, append-nil, drop_more, map-append, take-append-drop, take_more}
use Rattle.std.proofs.lemmas.List.Elements.{All-append, All-drop, Contains-append_left, Contains-append_right, Contains-append_cases}
use Rattle.std.proofs.Math.Seq.{drop-append_seam}
use Rattle.inc_text.specs.declared.devices.ReadFault.{ReadFault}
use Rattle.inc_text.specs.declared.devices.ReadFault.TheVariants as read
use Rattle.inc_lookup.specs.Given.{Given, Agrees, HoldsOfGiven, FailsAfter}
use Rattle.inc_lookup.specs.Projects.{Layout, Listing, layout_of, bytes_at}
use Rattle.inc_pp.specs.Readings.{IsOfReadsAfter}
use Rattle.inc_pp.specs.Shared.{AreUnread}
use Rattle.inc_pp.specs.Walks.{Held}
use Rattle.inc_pp.proofs.Readings.{shared-unread}
use Rattle.inc_answers.specs.declared.outcome.End.{End}
use Rattle.inc_answers.specs.declared.outcome.EndKind.{EndKind}
use Rattle.inc_answers.specs.declared.outcome.EndKind.TheVariants.{Answered, Negative, Refused}
use Rattle.inc_answers.specs.declared.outcome.RunFault.{RunFault}
use Rattle.inc_report.specs.declared.pp.Wanted.{Wanted}
use Rattle.inc_answers.specs.declared.outcome.RunFault.TheVariants.{CannotRead, FileTooLong, CannotReadCertificate, Write, NoMemory}
use Rattle.inc_report.specs.PpSteps.{Common, AreSharedBy, IsSection, FailsIn}
use Rattle.inc_report.specs.PpTexts.{IsNextPp, IsPpBy, Section, all_printed, all_reads, section, shown, worse, worst}
use Rattle.inc_answers.specs.NearNames.{source_notes}
use Rattle.inc_answers.specs.Printed.{Printed, answered, end_of, with_texts}
use Rattle.inc_answers.specs.Writing.{Writes, WritesEach, unread_of}
use Rattle.inc_report.proofs.PpLemmas.{read-none}
use Rattle.inc_answers.proofs.SendingLemmas.{appends_none, appends_then, front_then}
use Rattle.inc_answers.proofs.WritingLemmas.{nothing_given}

---- ends

worse-answered : (e : EndKind) → worse e Answered ≡ e
worse-answered Answered = refl
worse-answered Negative = refl
worse-answered Refused = refl

worse-assoc : (a b c : EndKind) → worse a (worse b c) ≡ worse (worse a b) c
worse-assoc Answered b c = refl
worse-assoc Negative Answered c = refl
worse-assoc Negative Negative Answered = refl
worse-assoc Negative Negative Negative = refl
worse-assoc Negative Negative Refused = refl
worse-assoc Negative Refused c = refl
worse-assoc Refused b c = refl

worst-push : {X : Type 0} (h : X → EndKind) (xs : List X) (x : X) → worst (map h (xs ++ x ∷ [])) ≡ worse (worst (map h xs)) (h x)
worst-push h [] x = worse-answered (h x)
worst-push h (y ∷ ys) x = ap (λ (e : EndKind). worse (h y) e) (worst-push h ys x) ∙ worse-assoc (h y) (worst (map h ys)) (h x)

---- sections

flat_map-push : {X A : Type 0} (f : X → List A) (xs : List X) (x : X) → flat_map f (xs ++ x ∷ []) ≡ flat_map f xs ++ f x
flat_map-push f xs x = flat_map-append f xs (x ∷ []) ∙ ap (λ (l : List _). flat_map f xs ++ l) (append-nil (f x))

-- what is printed of some sources, and of one more, with these notes
abbrev pub joined : (notes : List ℕ) → (p q : Printed) → Printed
joined notes p q = record {
  text = p.text ++ q.text;
  end = with_texts (p.end.rules ++ q.end.rules) (p.end.endings ++ q.end.endings) (p.end.stops ++ q.end.stops) (end_of notes (worse p.end.kind q.end.kind));
}

-- one section more
pub printed-push : (wanted : Wanted) (of : List ℕ → Section) (notes : List (List ℕ) → List ℕ) (done : List (List ℕ)) (source : List ℕ) (p q : Printed)
    → p ≡ all_printed wanted of notes done → q ≡ shown wanted source (of source)
    → joined (notes (done ++ source ∷ [])) p q ≡ all_printed wanted of notes (done ++ source ∷ [])
printed-push wanted of notes done source p q is one =
    let h : List ℕ → Printed = λ s. shown wanted s (of s) in
    let text : p.text ++ q.text ≡ flat_map (λ s. (h s).text) (done ++ source ∷ []) =
    ap (λ (x : Printed). x.text ++ q.text) is ∙ ap (λ (x : Printed). flat_map (λ s. (h s).text) done ++ x.text) one
    ∙ sym (flat_map-push (λ s. (h s).text) done source) in
    let rules : p.end.rules ++ q.end.rules ≡ flat_map (λ s. (h s).end.rules) (done ++ source ∷ []) =
    ap (λ (x : Printed). x.end.rules ++ q.end.rules) is ∙ ap (λ (x : Printed). flat_map (λ s. (h s).end.rules) done ++ x.end.rules) one
    ∙ sym (flat_map-push (λ s. (h s).end.rules) done source) in
    let endings : p.end.endings ++ q.end.endings ≡ flat_map (λ s. (h s).end.endings) (done ++ source ∷ []) =
    ap (λ (x : Printed). x.end.endings ++ q.end.endings) is ∙ ap (λ (x : Printed). flat_map (λ s. (h s).end.endings) done ++ x.end.endings) one
    ∙ sym (flat_map-push (λ s. (h s).end.endings) done source) in
    let stops : p.end.stops ++ q.end.stops ≡ flat_map (λ s. (h s).end.stops) (done ++ source ∷ []) =
    ap (λ (x : Printed). x.end.stops ++ q.end.stops) is ∙ ap (λ (x : Printed). flat_map (λ s. (h s).end.stops) done ++ x.end.stops) one
    ∙ sym (flat_map-push (λ s. (h s).end.stops) done source) in
    let end : worse p.end.kind q.end.kind ≡ worst (map (λ s. (h s).end.kind) (done ++ source ∷ [])) =
    ap (λ (x : Printed). worse x.end.kind q.end.kind) is ∙ ap (λ (x : Printed). worse (worst (map (λ s. (h s).end.kind) done)) x.end.kind) one
    ∙ sym (worst-push (λ s. (h s).end.kind) done source) in
    rw (text, rules, endings, stops, end) refl

---- readings one after the other

pub agrees-then : (earlier later given : List Given) (listing : Listing) → given ≡ later ++ earlier → Agrees given listing → Agrees earlier listing
agrees-then earlier later given listing is agrees =
    let P : Given → Type 0 = λ g. bytes_at listing g.file ≡ g.bytes in
    let all : All P (later ++ earlier) = subst (λ (gs : List Given). All P gs) is agrees in
    subst (λ (gs : List Given). All P gs) (drop-append_seam later earlier) (All-drop P (length later) (later ++ earlier) all)

pub reads-then : (first second : List ℕ) (earlier given : List Given) → IsOfReadsAfter [] first earlier → IsOfReadsAfter earlier second given → IsOfReadsAfter [] (first ++ second) given
reads-then first second earlier given a b =
    let P : Given → Type 0 = λ g. Contains (first ++ second) g.file in
    let was : All P earlier = subst (λ (gs : List Given). All P gs) (sym (a.is ∙ append-nil a.later)) (λ k d low. Contains-append_left first second _ (a.only k d low)) in
    record {
      later = given;
      is = sym (append-nil given);
      only = subst (λ (gs : List Given). All P gs) (sym b.is) (All-append P b.later earlier (λ k d low. Contains-append_right first second _ (b.only k d low)) was);
      each = λ i c. elim (Contains-append_cases first second i c) [
        | inl old ↦ (let x = a.each i old in (x.0, subst (λ (gs : List Given). Contains gs x.0) (sym b.is) (Contains-append_right b.later earlier x.0 x.1), x.2))
        | inr new ↦ b.each i new
      ];
      once = b.once;
    }

---- a call on its way

appends-kept : (start written next : Option (List ℕ)) (text : List ℕ) → Appends start written text → Keeps written next → Appends start next text
appends-kept None b next text h k = tt
appends-kept (Some xs) None next text h k = absurd h
appends-kept (Some xs) (Some ys) None text h k = absurd k
appends-kept (Some xs) (Some ys) (Some zs) text h k = k ∙ h

-- p was printed of these sources, and what was read for them is held
pub record AreSaid {S : Type 0} (gives : S → ℕ → Result (List ℕ) ReadFault → S → Type 0) (old now : S) (c : Common) (wanted : Wanted) (held : Held) (done : List (List ℕ)) (p : Printed) : Type 0 where
  pub given : List Given
  pub shared : AreSharedBy gives old now c held given
  pub every : (listing : Listing) → layout_of listing ≡ c.layout → Agrees given listing → IsPpBy wanted done c.words c.settings c.without p given listing

-- and written
pub record AreWritten {S : Type 0} (gives : S → ℕ → Result (List ℕ) ReadFault → S → Type 0) (old now : S) (c : Common) (wanted : Wanted) (held : Held) (done : List (List ℕ))
    (start written : Option (List ℕ)) (end : EndKind) (rules endings stops : List ℕ) : Type 0 where
  pub p : Printed
  pub said : AreSaid gives old now c wanted held done p
  pub ends : with_texts rules endings stops (end_of (source_notes c.layout done) end) ≡ p.end
  pub text : Appends start written p.text

-- of the sources before it these are written, and then a file was not read
abbrev pub IsUnread : {S : Type 0} → (S → ℕ → Result (List ℕ) ReadFault → S → Type 0) → (old new : S) → Common → Wanted → (all : List (List ℕ)) → (start written : Option (List ℕ)) → ℕ × ReadFault → Type 0
IsUnread gives old new c wanted all start written r =
    (done more : List (List ℕ)) × (source : List ℕ) × (p : Printed) × (all ≡ done ++ source ∷ more) × Appends start written p.text
    × FailsAfter gives old new c.layout r.0 r.1 (IsNextPp wanted done source c.words c.settings c.without p r.0)

abbrev pub PpOf : {S : Type 0} → (S → ℕ → Result (List ℕ) ReadFault → S → Type 0) → (old : S) → Common → Wanted → S → List (List ℕ) → Printed → Type 0
PpOf gives old c wanted s done p = HoldsOfGiven gives old s c.layout (IsPpBy wanted done c.words c.settings c.without p)

module _ {S : Type 0} (gives : S → ℕ → Result (List ℕ) ReadFault → S → Type 0) (old : S) (c : Common) (wanted : Wanted) where
  said-holds : (now : S) (held : Held) (done : List (List ℕ)) (p : Printed) → AreSaid gives old now c wanted held done p → PpOf gives old c wanted now done p
  said-holds now held done p a = record {
    given = a.given;
    gave = a.shared.gave;
    witness = a.shared.witness;
    laid_out = a.shared.laid_out;
    agrees = a.shared.agrees;
    every = a.every;
  }

  -- nothing is written yet
  pub written-none : (held : Held) (at : Option (List ℕ)) → AreUnread c.layout held → AreWritten gives old old c wanted held [] at at Answered [] [] []
  written-none held at unread = record {
    p = answered [];
    said = record {
      given = [];
      shared = shared-unread gives old c.layout c.settings.language c.without held unread;
      every = λ listing laid agrees. record { is = refl; read = read-none [] tt };
    };
    ends = refl;
    text = appends_none at;
  }

  -- the call has written all
  pub written-all : (now : S) (held : Held) (all : List (List ℕ)) (start written : Option (List ℕ)) (end : EndKind) (rules endings stops : List ℕ) (failed : Bool) (e : End)
      → failed ≡ false → e ≡ with_texts rules endings stops (end_of (source_notes c.layout all) end) → AreWritten gives old now c wanted held all start written end rules endings stops
      → WritesEach (PpOf gives old c wanted) all now start written failed (Ok e)
  written-all now held all start written end rules endings stops failed e sound is a = record {
    text = (a.p, said-holds now held all a.p a.said, is ∙ a.ends, a.text);
    front = λ x. absurd (never x);
    part = tt;
    failing = (λ x. absurd (never x), λ t. cc);
  }
    where
      never : IsErrOf (Ok e) Write → ⊥
      never x = cc

  module _ (now new : S) (held after : Held) (done : List (List ℕ)) (source : List ℕ) where
    said-more : (p q : Printed) → AreSaid gives old now c wanted held done p → IsSection gives now new c held after wanted source q
        → AreSaid gives old new c wanted after (done ++ source ∷ []) (joined (source_notes c.layout (done ++ source ∷ [])) p q)
    said-more p q a section_is =
        let one = section_is old a.given a.shared in
        record {
          given = one.given;
          shared = one.shared;
          every = λ listing laid agrees.
              let read = one.read listing laid agrees in
              let before = a.every listing laid (agrees-then a.given read.later one.given listing read.is agrees) in
              let of : List ℕ → Section = section listing c.words c.settings c.without in
              record {
                is = ap (λ (l : Layout). joined (source_notes l (done ++ source ∷ [])) p q) (sym laid)
                    ∙ printed-push wanted of (source_notes (layout_of listing)) done source p q before.is (one.is listing laid agrees);
                read = subst (λ (rs : List ℕ). IsOfReadsAfter [] rs one.given) (sym (flat_map-push (λ s. (of s).reads) done source))
                    (reads-then (all_reads of done) (of source).reads a.given one.given before.read read);
              };
        }

    -- one source more is written
    pub written-more : (more : List (List ℕ)) (start written next : Option (List ℕ)) (end : EndKind) (rules new_rules endings new_endings stops new_stops : List ℕ) (e : End) (failed : Bool)
        → more ≡ done ++ source ∷ [] → new_rules ≡ rules ++ e.rules → new_endings ≡ endings ++ e.endings → new_stops ≡ stops ++ e.stops
        → AreWritten gives old now c wanted held done start written end rules endings stops → Writes (IsSection gives now new c held after wanted source) written next failed (Ok e)
        → AreWritten gives old new c wanted after more start next (worse end e.kind) new_rules new_endings new_stops
    written-more more start written next end rules new_rules endings new_endings stops new_stops e failed is kept ended stopped a w =
        let q = w.text in
        record {
          p = joined (source_notes c.layout (done ++ source ∷ [])) a.p q.0;
          said = subst (λ (ss : List (List ℕ)). AreSaid gives old new c wanted after ss (joined (source_notes c.layout (done ++ source ∷ [])) a.p q.0)) (sym is)
              (said-more a.p q.0 a.said q.1);
          ends = ap₂ (λ (r : List ℕ) (ss : List (List ℕ)). with_texts r new_endings new_stops (end_of (source_notes c.layout ss) (worse end e.kind))) kept is
              ∙ ap₂ (λ (t u : List ℕ). with_texts (rules ++ e.rules) t u (end_of (source_notes c.layout (done ++ source ∷ [])) (worse end e.kind))) ended stopped
              ∙ ap (λ (x : End). with_texts (x.rules ++ e.rules) (x.endings ++ e.endings) (x.stops ++ e.stops) (end_of (source_notes c.layout (done ++ source ∷ [])) (worse x.kind e.kind))) a.ends
              ∙ ap (λ (x : End). with_texts (a.p.end.rules ++ x.rules) (a.p.end.endings ++ x.endings) (a.p.end.stops ++ x.stops)
              (end_of (source_notes c.layout (done ++ source ∷ [])) (worse a.p.end.kind x.kind))) q.2;
          text = appends_then start written next a.p.text q.0.text a.text q.3;
        }

    -- the call ends at a fault
    pub written-fault : (all rest : List (List ℕ)) (start written next : Option (List ℕ)) (end : EndKind) (rules endings stops : List ℕ) (failed : Bool) (fault : RunFault) → all ≡ done ++ source ∷ rest
        → AreWritten gives old now c wanted held done start written end rules endings stops → Writes (IsSection gives now new c held after wanted source) written next failed (Err fault)
        → WritesEach (PpOf gives old c wanted) all new start next failed (Err fault)
    written-fault all rest start written next end rules endings stops failed fault parts a w = record {
      text = tt;
      front = λ is. (let f = w.front is in (
        done ++ source ∷ [],
        rest,
        joined (source_notes c.layout (done ++ source ∷ [])) a.p f.0,
        parts ∙ sym (append_assoc done (source ∷ []) rest),
        said-holds new after (done ++ source ∷ []) _ (said-more a.p f.0 a.said f.1),
        front_then start written next a.p.text f.0.text a.text f.2,
      ));
      part = λ other. (done, source ∷ rest, now, a.p, parts, λ none. absurd (cons_nil none), said-holds now held done a.p a.said, appends-kept start written next a.p.text a.text (w.nothing other));
      failing = w.failing;
    }
      where
        cons_nil : source ∷ rest ≢ []
        cons_nil is = cc

    -- a file is not read
    pub unread-then : (p : Printed) (r : ℕ × ReadFault) → AreSaid gives old now c wanted held done p → FailsIn gives now new c held source r
        → FailsAfter gives old new c.layout r.0 r.1 (IsNextPp wanted done source c.words c.settings c.without p r.0)
    unread-then p r a fails =
        let f = fails old a.given a.shared in
        record {
          state = f.state;
          before = record {
            given = f.before.given;
            gave = f.before.gave;
            witness = f.before.witness;
            laid_out = f.before.laid_out;
            agrees = f.before.agrees;
            every = λ listing laid agrees.
                let next = f.before.every listing laid agrees in
                let was = a.every listing laid (agrees-then a.given next.read.later f.before.given listing next.read.is agrees) in
                record { is = was.is; earlier = a.given; read = was.read; next = next };
          };
          failed = f.failed;
        }

    -- of which source, and what was written then
    pub unread-each : (all rest : List (List ℕ)) (start written next : Option (List ℕ)) (end : EndKind) (rules endings stops : List ℕ) (failed : Bool) (fault : RunFault) → all ≡ done ++ source ∷ rest
        → AreWritten gives old now c wanted held done start written end rules endings stops → Writes (IsSection gives now new c held after wanted source) written next failed (Err fault)
        → IfSome (unread_of fault) (FailsIn gives now new c held source) → IfSome (unread_of fault) (IsUnread gives old new c wanted all start next)
    unread-each all rest start written next end rules endings stops failed (CannotRead file) parts a w fails =
        (done, rest, source, a.p, parts, appends-kept start written next a.p.text a.text (w.nothing (λ is. cc)), unread-then a.p (file, read.Read) a.said fails)
    unread-each all rest start written next end rules endings stops failed (FileTooLong file) parts a w fails =
        (done, rest, source, a.p, parts, appends-kept start written next a.p.text a.text (w.nothing (λ is. cc)), unread-then a.p (file, read.TooLong) a.said fails)
    unread-each all rest start written next end rules endings stops failed CannotReadCertificate parts a w fails = tt
    unread-each all rest start written next end rules endings stops failed Write parts a w fails = tt
    unread-each all rest start written next end rules endings stops failed NoMemory parts a w fails = tt

  -- nothing is written, since memory ran out before
  pub wrote-none : (all : List (List ℕ)) (at : Option (List ℕ)) (failed : Bool) → failed ≡ false → WritesEach (PpOf gives old c wanted) all old at at failed (Err NoMemory)
  wrote-none all at failed sound = record {
    text = tt;
    front = λ is. cc;
    part = λ other. (
      [],
      all,
      old,
      answered [],
      refl,
      λ none. none,
      nothing_given gives old c.layout (IsPpBy wanted [] c.words c.settings c.without (answered [])) (λ listing laid. record { is = refl; read = read-none [] tt }),
      appends_none at,
    );
    failing = (λ is. cc, λ t. cc);
  }

-- the sink did not fail where a call succeeds
pub sound-after : (P : Printed → Type 0) (old new : Option (List ℕ)) (failed : Bool) (end : End) → Writes P old new failed (Ok end) → failed ≡ false
sound-after P old new false end w = refl
sound-after P old new true end w = absurd (never (w.failing.1 refl))
  where
    never : IsErrOf (Ok end) Write → ⊥
    never is = cc

-- a list at one of its places
pub parts-at : {X Y : Type 0} (f : X → Y) (xs : List X) (i : ℕ) (d : X) → i < length xs → map f xs ≡ map f (take i xs) ++ f (get_or xs i d) ∷ map f (drop (i + 1) xs)
parts-at f xs i d low =
    ap (λ (l : List _). map f l) (sym (take-append-drop i xs) ∙ ap (λ (l : List _). take i xs ++ l) (drop_more xs i d low))
    ∙ map-append f (take i xs) (get_or xs i d ∷ drop (i + 1) xs)

pub front-at : {X Y : Type 0} (f : X → Y) (xs : List X) (i : ℕ) (d : X) → i < length xs → map f (take (i + 1) xs) ≡ map f (take i xs) ++ f (get_or xs i d) ∷ []
front-at f xs i d low = ap (λ (l : List _). map f l) (take_more xs i d low) ∙ map-append f (take i xs) (get_or xs i d ∷ [])
