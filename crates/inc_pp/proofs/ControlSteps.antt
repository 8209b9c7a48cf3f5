-- A directive of no section, from what was read to the file at hand.
use Rattle.std.proofs.Common.{◌≡◌, ℕ, Bool, List, Option, Some, None, Result, Ok, Err, is_some, refl, sym, ap, ◌∙◌, ok_or, option_map}
use Rattle.inc_token.specs.declared.kinds.IncludeName.{IncludeName}
use Rattle.inc_text.specs.declared.languages.Language.{Language}
use Rattle.inc_token.specs.TokenLines.{Tok}
use Rattle.inc_directive.specs.Groups.{FileLine}
use Rattle.inc_directive.specs.LineKinds.{Target, Quoted, Angled, Nothing, Text, Include, Other, line_of_tokens, search_after}
use Rattle.inc_directive.specs.declared.kinds.DirectiveKind.{DirectiveKind}
use Rattle.inc_directive.specs.declared.kinds.DirectiveKind.TheVariants.{Define, Undef, Line}
use Rattle.inc_lookup.specs.declared.projects.Found.{Found}
use Rattle.inc_lookup.specs.Projects.{Layout, found_place, path_at}
use Rattle.inc_macro.specs.Results.{◌>>=◌}
use Rattle.inc_macro.specs.Macros.{Table, define, undef}
use Rattle.inc_expand.specs.Expansion.{Item, Meter, Place}
use Rattle.inc_pp.specs.declared.causes.Cause.{Cause}
use Rattle.inc_pp.specs.declared.causes.Cause.TheVariants as cause
use Rattle.inc_pp.specs.DirectiveSteps.{header_at, here_by, wanted_at, renumbered_at, changed_by}
use Rattle.inc_pp.specs.Directives.{Numbering, counted, line_operands, renumbered, changed, control_of, control_line, with_numbering, with_table}
use Rattle.inc_pp.specs.Includes.{Header, after_found, entered, entry_in, found_from, header_in, header_of, led_to, wanted, include_target, included}
use Rattle.inc_pp.specs.LineMarkers.{marks_of}
use Rattle.inc_pp.specs.Runs.{marks_in, with_meter}
use Rattle.inc_pp.specs.Sections.{operands}
use Rattle.inc_pp.specs.Settings.{Settings}
use Rattle.inc_pp.specs.Steps.{place_under, expansion_at}
use Rattle.inc_pp.specs.Stops.{IsIn, IsUnder, halt_at}
use Rattle.inc_pp.specs.Tasks.{File, State, Entry, Here, Deeper, caused, halting, place_of}
use Rattle.inc_pp.proofs.StopSteps.{in_state, place-is}

---- include directives

-- numbers of lines with the state after them
abbrev pub turned : State → Here → Result (Numbering × Meter) Cause → Result (State × Here) Cause
turned s h r = r >>= λ x. Ok (with_meter x.1 s, with_numbering x.0 h)

-- nothing is read
nothing : (d : Deeper) (s : State) (h : Here) → included d None s h ≡ Ok (s, h)
nothing None s h = refl
nothing (Some read) s h = refl

header-is : (target : Target) (f : File) (l : FileLine) (s : State) (h : Here) →
    header_of target f l s h ≡ in_state s (header_at target (place_of f h) s.table s.meter (operands l))
header-is (Quoted name) f l s h = refl
header-is (Angled name) f l s h = refl
header-is Nothing f l s h = refl
header-is target f l s h = by (expansion_at (place_of f h) s.table s.meter (operands l))
  where
    paired : List Item × Meter → Result (List Item × State) Cause
    paired x = Ok (x.0, with_meter x.1 s)

    chosen : List Item × State → Result (Header × State) Cause
    chosen x = ok_or (header_in x.0) cause.BadInclude >>= λ header. Ok (header, x.1)

    chosen_meter : List Item × Meter → Result (Header × Meter) Cause
    chosen_meter x = ok_or (header_in x.0) cause.BadInclude >>= λ header. Ok (header, x.1)

    named : (o : Option Header) (meter : Meter) → ◌>>=◌ {B = Header × State} (ok_or o cause.BadInclude) (λ header. Ok (header, with_meter meter s))
        ≡ in_state s (◌>>=◌ {B = Header × Meter} (ok_or o cause.BadInclude) (λ header. Ok (header, meter)))
    named None meter = refl
    named (Some header) meter = refl

    by : (r : Result (List Item × Meter) Cause) → ((r >>= paired) >>= chosen) ≡ in_state s (r >>= chosen_meter)
    by (Ok x) = named (header_in x.0) x.1
    by (Err c) = refl

wanted-is : (n : IncludeName) (f : File) (s : State) (o : Option Found) → wanted n f s o ≡ wanted_at n f.task.settings.missing (is_some f.deeper) s o
wanted-is n f s None = refl
wanted-is n f s (Some at) = by f.deeper
  where
    by : (d : Deeper) → wanted n (record { task = f.task; index = f.index; next = f.next; deeper = d }) s (Some at)
        ≡ wanted_at n f.task.settings.missing (is_some d) s (Some at)
    by None = refl
    by (Some read) = refl

module _ (f : File) (l : FileLine) (s : State) (h : Here) (layout : Layout) (settings : Settings) (from : Found) (nests : Bool)
    (is : IsIn layout settings from nests f) where
  place : place_of f h ≡ place_under settings h
  place = place-is f settings h is.under

  module _ (n : IncludeName) (target : Target) (kind_is : l.kind ≡ Include n target) where
    -- the file that a header finds
    abbrev there : Header → Option Found
    there header = found_place layout (path_at layout from.file) header.form (search_after n from.next) header.name

    found-there : (header : Header) → found_from f n header ≡ there header
    found-there header =
        ap (λ (lay : Layout). found_place lay (path_at lay f.index) header.form (search_after n f.next) header.name) is.laid
        ∙ ap (λ k. found_place layout (path_at layout k) header.form (search_after n f.next) header.name) is.at
        ∙ ap (λ o. found_place layout (path_at layout from.file) header.form (search_after n o) header.name) is.next

    include-is : (r : Result (Option Entry × State) Cause) → include_target n target f l s h ≡ r →
        control_line f l s h ≡ (halting f (line_of_tokens l.tokens) s r >>= λ x. included f.deeper x.0 x.1 h)
    include-is r e =
        ap (λ k. control_of k f l s h) kind_is
        ∙ ap (λ (q : Result (Option Entry × State) Cause). halting f (line_of_tokens l.tokens) s q >>= λ x. included f.deeper x.0 x.1 h) e

    target-is : (r : Result (Header × Meter) Cause) → header_at target (place_under settings h) s.table s.meter (operands l) ≡ r →
        header_of target f l s h ≡ in_state s r
    target-is r e =
        header-is target f l s h ∙ ap (λ p. in_state s (header_at target p s.table s.meter (operands l))) place ∙ ap (in_state s) e

    -- how what a name has found is read
    abbrev put : (Found → Entry) → Option Found × State → Result (Option Entry × State) Cause
    put enter q = Ok (option_map enter q.0, q.1)

    abbrev enter : List ℕ → Found → Entry
    enter name = entry_in layout settings (record { file = from.file; line = line_of_tokens l.tokens }) h name

    enter-is : (name : List ℕ) → entered f (line_of_tokens l.tokens) h name ≡ enter name
    enter-is name =
        ap (λ (lay : Layout). entry_in lay f.task.settings (record { file = f.index; line = line_of_tokens l.tokens }) h name) is.laid
        ∙ ap (λ (st : Settings). entry_in layout st (record { file = f.index; line = line_of_tokens l.tokens }) h name) is.under
        ∙ ap (λ i. entry_in layout settings (record { file = i; line = line_of_tokens l.tokens }) h name) is.at

    -- from the header with the state after it
    headed : (r : Result (Header × State) Cause) → header_of target f l s h ≡ r →
        include_target n target f l s h ≡ (r >>= λ x. led_to n f x.1 (found_from f n x.0) >>= put (entered f (line_of_tokens l.tokens) h x.0.name))
    headed r e = ap (λ (q : Result (Header × State) Cause). q >>= λ x. led_to n f x.1 (found_from f n x.0) >>= put (entered f (line_of_tokens l.tokens) h x.0.name)) e

    wanted-there : (t : State) (o : Option Found) → wanted n f t o ≡ wanted_at n settings.missing nests t o
    wanted-there t o =
        wanted-is n f t o ∙ ap (λ (st : Settings). wanted_at n st.missing (is_some f.deeper) t o) is.under
        ∙ ap (λ b. wanted_at n settings.missing b t o) is.deeper

    pub header-stop : (line : ℕ) (c : Cause) → line ≡ line_of_tokens l.tokens →
        header_at target (place_under settings h) s.table s.meter (operands l) ≡ Err c → control_line f l s h ≡ Err (halt_at f s line c)
    header-stop line c where_is e =
        include-is (Err c) (headed (Err c) (target-is (Err c) e)) ∙ ap (λ m. Err (halt_at f s m c)) (sym where_is)

    -- the header is known, and what is found with it
    module _ (header : Header) (meter : Meter) (t : State) (o : Option Found) (kept : t ≡ with_meter meter s)
        (header_is : header_at target (place_under settings h) s.table s.meter (operands l) ≡ Ok (header, meter)) (found_is : o ≡ there header) where
      leads : (w : Result (Option Found) Cause) → wanted_at n settings.missing nests t o ≡ w →
          include_target n target f l s h ≡ ((w >>= λ at. Ok (at, after_found n o t)) >>= put (enter header.name))
      leads w g =
          headed (Ok (header, with_meter meter s)) (target-is (Ok (header, meter)) header_is)
          ∙ ap (λ k. led_to n f (with_meter meter s) k >>= put (entered f (line_of_tokens l.tokens) h header.name)) (found-there header ∙ sym found_is)
          ∙ ap (λ (u : State). led_to n f u o >>= put (entered f (line_of_tokens l.tokens) h header.name)) (sym kept)
          ∙ ap (λ (r : Result (Option Found) Cause). (r >>= λ at. Ok (at, after_found n o t)) >>= put (entered f (line_of_tokens l.tokens) h header.name)) (wanted-there t o ∙ g)
          ∙ ap (λ (k : Found → Entry). (w >>= λ at. Ok (at, after_found n o t)) >>= put k) (enter-is header.name)

      pub include-done : (new : State) (found : Option Found) (line : ℕ) (entry : Option Entry) → wanted_at n settings.missing nests t o ≡ Ok found → new ≡ after_found n o t →
          line ≡ line_of_tokens l.tokens → entry ≡ option_map (entry_in layout settings (record { file = from.file; line = line }) h header.name) found →
          control_line f l s h ≡ included f.deeper entry new h
      include-done new found line entry g after where_is given =
          let made : entry ≡ option_map (enter header.name) found =
          given ∙ ap (λ i. option_map (entry_in layout settings (record { file = from.file; line = i }) h header.name) found) where_is in
          include-is (Ok (option_map (enter header.name) found, after_found n o t)) (leads (Ok found) g)
          ∙ ap (λ (u : State). included f.deeper (option_map (enter header.name) found) u h) (sym after)
          ∙ ap (λ (e : Option Entry). included f.deeper e new h) (sym made)

      pub found-stop : (line : ℕ) (c : Cause) → line ≡ line_of_tokens l.tokens → wanted_at n settings.missing nests t o ≡ Err c →
          control_line f l s h ≡ Err (halt_at f s line c)
      found-stop line c where_is g = include-is (Err c) (leads (Err c) g) ∙ ap (λ m. Err (halt_at f s m c)) (sym where_is)

---- `#line`

module _ (f : File) (l : FileLine) (s : State) (h : Here) (settings : Settings) (u : IsUnder settings f) where
  line-is : (r : Result (Numbering × Meter) Cause) → renumbered_at h l.last_line (place_under settings h) s.table s.meter l.tokens ≡ r →
      changed Line f l s h ≡ turned s h r
  line-is r e =
      by (expansion_at (place_of f h) s.table s.meter (line_operands l.tokens))
      ∙ ap (λ p. turned s h (renumbered_at h l.last_line p s.table s.meter l.tokens)) (place-is f settings h u) ∙ ap (turned s h) e
    where
      paired : List Item × Meter → Result (List Item × State) Cause
      paired x = Ok (x.0, with_meter x.1 s)

      chosen : List Item × State → Result (State × Here) Cause
      chosen x = ok_or (renumbered s.table.language h l.last_line (counted l.tokens x.0)) cause.BadLine >>= λ n. Ok (x.1, with_numbering n h)

      chosen_meter : List Item × Meter → Result (Numbering × Meter) Cause
      chosen_meter x = ok_or (renumbered s.table.language h l.last_line (counted l.tokens x.0)) cause.BadLine >>= λ n. Ok (n, x.1)

      numbered : (o : Option Numbering) (meter : Meter) → ◌>>=◌ {B = State × Here} (ok_or o cause.BadLine) (λ n. Ok (with_meter meter s, with_numbering n h))
          ≡ turned s h (◌>>=◌ {B = Numbering × Meter} (ok_or o cause.BadLine) (λ n. Ok (n, meter)))
      numbered None meter = refl
      numbered (Some n) meter = refl

      by : (q : Result (List Item × Meter) Cause) → ((q >>= paired) >>= chosen) ≡ turned s h (q >>= chosen_meter)
      by (Ok x) = numbered (renumbered s.table.language h l.last_line (counted l.tokens x.0)) x.1
      by (Err c) = refl

  pub line-done : (n : Numbering) (meter : Meter) (new : State) (after : Here) → new ≡ with_meter meter s → after ≡ with_numbering n h →
      renumbered_at h l.last_line (place_under settings h) s.table s.meter l.tokens ≡ Ok (n, meter) → changed Line f l s h ≡ Ok (new, after)
  line-done n meter new after kept numbered e =
      line-is (Ok (n, meter)) e ∙ ap (λ (t : State). Ok (t, with_numbering n h)) (sym kept) ∙ ap (λ (k : Here). Ok (new, k)) (sym numbered)

  pub line-stop : (c : Cause) → renumbered_at h l.last_line (place_under settings h) s.table s.meter l.tokens ≡ Err c → changed Line f l s h ≡ Err c
  line-stop c e = line-is (Err c) e

---- other directives

-- a state with what is known of the file
abbrev pub staying : Here → Result State Cause → Result (State × Here) Cause
staying h r = r >>= λ s. Ok (s, h)

changed-is : (k : DirectiveKind) (f : File) (l : FileLine) (s : State) (h : Here) → (k ≡ Line → ⊥) →
    changed k f l s h ≡ staying (here_by k s.table.language l.tokens h) (changed_by f.task.settings.most_output (marks_in f h) k f.index l.tokens s)
changed-is Line f l s h not_line = absurd (not_line refl)
changed-is Define f l s h not_line = by (caused cause.Define (define (operands l) s.table))
  where
    by : (r : Result Table Cause) → (r >>= λ t. Ok (with_table t s, h)) ≡ staying h (r >>= λ t. Ok (with_table t s))
    by (Ok t) = refl
    by (Err c) = refl
changed-is Undef f l s h not_line = by (caused cause.Define (undef (operands l) s.table))
  where
    by : (r : Result (Bool × Table) Cause) → (r >>= λ x. Ok (with_table x.1 s, h)) ≡ staying h (r >>= λ x. Ok (with_table x.1 s))
    by (Ok t) = refl
    by (Err c) = refl
changed-is _ f l s h not_line = refl

module _ (f : File) (l : FileLine) (s : State) (h : Here) (file : ℕ) (at : f.index ≡ file) (settings : Settings) (u : IsUnder settings f) (marks : Option Place)
    (marked : marks ≡ marks_of settings (place_under settings h)) (most : Option ℕ) (limited : most ≡ settings.most_output) (k : DirectiveKind) (ts : List Tok) (tokens : l.tokens ≡ ts) (not_line : k ≡ Line → ⊥) where
  marks-are : marks_in f h ≡ marks
  marks-are = ap (λ (t : Settings). marks_of t (place_under t h)) u ∙ sym marked

  most-is : f.task.settings.most_output ≡ most
  most-is = ap (λ (t : Settings). t.most_output) u ∙ sym limited

  rest-is : (r : Result State Cause) → changed_by most marks k file ts s ≡ r → changed k f l s h ≡ staying (here_by k s.table.language ts h) r
  rest-is r e =
      changed-is k f l s h not_line
      ∙ ap (λ (n : Option ℕ). staying (here_by k s.table.language l.tokens h) (changed_by n (marks_in f h) k f.index l.tokens s)) most-is
      ∙ ap (λ (m : Option Place). staying (here_by k s.table.language l.tokens h) (changed_by most m k f.index l.tokens s)) marks-are
      ∙ ap (λ us. staying (here_by k s.table.language us h) (changed_by most marks k f.index us s)) tokens
      ∙ ap (λ i. staying (here_by k s.table.language ts h) (changed_by most marks k i ts s)) at ∙ ap (staying (here_by k s.table.language ts h)) e

  pub rest-done : (new : State) (after : Here) (language : Language) → language ≡ s.table.language → after ≡ here_by k language ts h →
      changed_by most marks k file ts s ≡ Ok new → changed k f l s h ≡ Ok (new, after)
  rest-done new after language same known e =
      rest-is (Ok new) e ∙ ap (λ (m : Language). Ok (new, here_by k m ts h)) (sym same) ∙ ap (λ (x : Here). Ok (new, x)) (sym known)

  pub rest-stop : (c : Cause) → changed_by most marks k file ts s ≡ Err c → changed k f l s h ≡ Err c
  rest-stop c e = rest-is (Err c) e

---- all but include directives

pub text-done : (f : File) (l : FileLine) (s : State) (h : Here) → l.kind ≡ Text → control_line f l s h ≡ included f.deeper None s h
text-done f l s h kind_is = ap (λ k. control_of k f l s h) kind_is ∙ sym (nothing f.deeper s h)

module _ (f : File) (l : FileLine) (s : State) (h : Here) (k : DirectiveKind) (kind_is : l.kind ≡ Other k) where
  other-is : (r : Result (State × Here) Cause) → changed k f l s h ≡ r → control_line f l s h ≡ halting f (line_of_tokens l.tokens) s r
  other-is r e =
      ap (λ j. control_of j f l s h) kind_is ∙ ap (λ (q : Result (State × Here) Cause). halting f (line_of_tokens l.tokens) s q) e

  pub other-done : (new : State) (after : Here) → changed k f l s h ≡ Ok (new, after) → control_line f l s h ≡ included f.deeper None new after
  other-done new after e = other-is (Ok (new, after)) e ∙ sym (nothing f.deeper new after)

  pub other-stop : (line : ℕ) (c : Cause) → line ≡ line_of_tokens l.tokens → changed k f l s h ≡ Err c → control_line f l s h ≡ Err (halt_at f s line c)
  other-stop line c where_is e = other-is (Err c) e ∙ ap (λ n. Err (halt_at f s n c)) (sym where_is)
