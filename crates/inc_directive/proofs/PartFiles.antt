-- Files that are kept as parts of their text.
use Rattle.std.proofs.Common.{◌≡◌, ◌≢◌, ℕ, zero, suc, ◌+◌, ◌-◌, ◌<◌, ◌≤◌, ◌&&◌, Bool, true, false, if◌then◌else◌, List, [], ◌∷◌, ◌++◌, Option, Some, None, IfSome, Ok, length, drop, take, map, refl, sym, ap, ◌∙◌, subst, arith, slice_get, slice_range, get_or}
use Rattle.std.specs.List.{All, list_all, prefix_len}
use Rattle.std.specs.Option.{option_map_or}
use Rattle.std.proofs.lemmas.List.{append_assoc, append-nil, drop-drop, get_or-drop, length-drop, length-map, length-take-le}
use Rattle.std.proofs.lemmas.List.Elements.{All-nil, All-cons, All-head, All-tail}
use Rattle.std.proofs.lemmas.List.Sums.{prefix_len_stops}
use Rattle.std.proofs.lemmas.Option.{slice_get-get_or, slice_get_within}
use Rattle.std.proofs.Math.Seq.{take-add}
use Rattle.inc_text.specs.PhaseText.{Cell}
use Rattle.inc_token.specs.LineWalk.{are_none, lines_at, spaced_first, tokens_of_lines}
use Rattle.inc_token.specs.Prefixes.{prefix_of}
use Rattle.inc_token.specs.TokenLines.{Tok, TokenLine}
use Rattle.inc_text.specs.declared.languages.Language.{Language}
use Rattle.inc_directive.specs.Groups.{FileLine, file_lines_from, role}
use Rattle.inc_directive.specs.LineKinds.{Text, line_kind, line_of_tokens}
use Rattle.inc_directive.specs.Parts.{FilePart, TextPart, DirectivePart, AreKept, AreNumbered, Fits, IsKept, IsPart, IsTagOf, directive_part, first_tokens, is_blank, is_named, is_text, kept_line, kept_lines, kind_of, lines_in, lines_of_parts, part_kind, part_line, part_role, part_with, parts_from}
use Rattle.inc_directive.specs.Runs.{run_tokens}
use Rattle.inc_directive.specs.declared.kinds.DirectiveKind.TheVariants.{If}
use Rattle.inc_directive.specs.declared.kinds.Role.TheVariants.{TextLine}
use Rattle.inc_directive.specs.declared.parts.Part.{Part}
use Rattle.inc_directive.specs.declared.parts.Tag.{Tag}
use Rattle.inc_directive.specs.declared.parts.Tag.TheVariants as tag
use Rattle.inc_directive.proofs.PrefixKinds.{text-kind}
use Rattle.inc_token.proofs.Slices.{slice_range-more}

---- tags

-- a kind without a name rests on none
pub kind_of-unnamed : (t : Tag) (m n : List ℕ) → is_named t ≡ false → kind_of t m ≡ kind_of t n
kind_of-unnamed (tag.Quoted by) m n h = cc
kind_of-unnamed (tag.Angled by) m n h = cc
kind_of-unnamed (tag.ByName by) m n h = cc
kind_of-unnamed t m n h = refl

pub role-kind_of : (t : Tag) (m n : List ℕ) → role (kind_of t m) ≡ role (kind_of t n)
role-kind_of (tag.Quoted by) m n = refl
role-kind_of t m n = refl

pub text-role : (t : Tag) (name : List ℕ) → is_text t ≡ true → role (kind_of t name) ≡ TextLine
text-role tag.Text name h = refl
text-role tag.Blank name h = refl
text-role tag.Removed name h = refl
text-role t name h = cc

pub directive-role : (t : Tag) (name : List ℕ) → is_text t ≡ false → role (kind_of t name) ≢ TextLine
directive-role tag.Text name h = cc
directive-role tag.Blank name h = cc
directive-role tag.Removed name h = cc
directive-role (tag.Other If) name h = λ is. cc
directive-role t name h = λ is. cc

pub text-kind_of : (t : Tag) (name : List ℕ) → is_text t ≡ true → kind_of t name ≡ Text
text-kind_of tag.Text name h = refl
text-kind_of tag.Blank name h = refl
text-kind_of tag.Removed name h = refl
text-kind_of t name h = cc

pub named-directive : (t : Tag) → is_named t ≡ true → is_text t ≡ false
named-directive (tag.Quoted by) h = refl
named-directive (tag.Angled by) h = refl
named-directive (tag.ByName by) h = refl
named-directive t h = cc

directive-fits : (language : Language) (t : Tag) (ls : List TokenLine) → is_text t ≡ false → Fits language t ls → (name : List ℕ) × All (λ (l : TokenLine). IsTagOf (line_kind language l.tokens) t name) ls
directive-fits language tag.Text ls h f = cc
directive-fits language tag.Blank ls h f = cc
directive-fits language tag.Removed ls h f = cc
directive-fits language t ls h f = f

kept-same : (t : Tag) (l : TokenLine) → is_blank t ≡ false → kept_line t l ≡ l
kept-same tag.Removed l h = cc
kept-same t l h = refl

kept-directive : (t : Tag) (l : TokenLine) → is_text t ≡ false → kept_line t l ≡ l
kept-directive tag.Removed l h = cc
kept-directive t l h = refl

kept-last : (t : Tag) (l : TokenLine) → (kept_line t l).last_line ≡ l.last_line
kept-last tag.Removed l = refl
kept-last t l = refl

-- lines without tokens
none_by : (ts : List Tok) (l : TokenLine) (ls : List TokenLine) → l.tokens ≡ ts → are_none l.tokens && list_all (λ (k : TokenLine). are_none k.tokens) ls ≡ true
    → (list_all (λ (k : TokenLine). are_none k.tokens) ls ≡ true → All (λ (k : TokenLine). k.tokens ≡ []) (map (kept_line tag.Blank) ls)) → All (λ (k : TokenLine). k.tokens ≡ []) (l ∷ map (kept_line tag.Blank) ls)
none_by [] l ls is e rest =
    All-cons (λ (k : TokenLine). k.tokens ≡ []) l (map (kept_line tag.Blank) ls) is (rest (sym (ap (λ ts. are_none ts && list_all (λ (k : TokenLine). are_none k.tokens) ls) is) ∙ e))
none_by (t ∷ ts) l ls is e rest = let differs : false ≡ true = sym (ap (λ us. are_none us && list_all (λ (k : TokenLine). are_none k.tokens) ls) is) ∙ e in cc

none_all : (ls : List TokenLine) → list_all (λ (l : TokenLine). are_none l.tokens) ls ≡ true → All (λ (l : TokenLine). l.tokens ≡ []) (map (kept_line tag.Blank) ls)
none_all [] e = All-nil (λ (l : TokenLine). l.tokens ≡ [])
none_all (l ∷ ls) e = none_by l.tokens l ls refl e (none_all ls)

none_removed : (ls : List TokenLine) → All (λ (l : TokenLine). l.tokens ≡ []) (map (kept_line tag.Removed) ls)
none_removed [] = All-nil (λ (l : TokenLine). l.tokens ≡ [])
none_removed (l ∷ ls) = All-cons (λ (k : TokenLine). k.tokens ≡ []) _ (map (kept_line tag.Removed) ls) refl (none_removed ls)

-- the lines of a blank part have no token
kept-blank : (language : Language) (t : Tag) (ls : List TokenLine) → is_blank t ≡ true → Fits language t ls → All (λ (l : TokenLine). l.tokens ≡ []) (map (kept_line t) ls)
kept-blank language tag.Blank ls h f = none_all ls f.1
kept-blank language tag.Removed ls h f = none_removed ls
kept-blank language t ls h f = cc

---- a part of a file

-- the lines of a part, in the file
abbrev shown : Language → ℕ → Tag → List TokenLine → FilePart
shown language place t ls = part_with t (file_lines_from language place (map (kept_line t) ls))

-- what is known of part i
pub record IsPartAt (language : Language) (cells : List Cell) (all : List FilePart) (i : ℕ) (p : Part) : Type 0 where
  -- the place of its first line in the file
  pub place : ℕ
  -- the lines from its start on
  pub ls : List TokenLine
  -- it is kept of the first of these
  pub kept : IsKept language cells p ls
  -- it shows as these lines
  pub is : slice_get all i ≡ Some (shown language place p.tag (take p.lines ls))

part_in : (language : Language) (cells : List Cell) (place : ℕ) (parts : List Part) (ls : List TokenLine) (i : ℕ) (p : Part) → AreKept language cells parts ls → slice_get parts i ≡ Some p
    → IsPartAt language cells (parts_from language place parts ls) i p
part_in language cells place [] ls i p h is = cc
part_in language cells place (q ∷ parts) ls zero p h is =
    let same : q ≡ p = cc in
    subst (λ (x : Part). IsPartAt language cells (parts_from language place (q ∷ parts) ls) zero x) same (record { place = place; ls = ls; kept = h.0; is = refl })
part_in language cells place (q ∷ parts) ls (suc i) p h is =
    let s = part_in language cells (place + q.lines) parts (drop q.lines ls) i p h.1 is in
    record { place = s.place; ls = s.ls; kept = s.kept; is = s.is }

pub length-parts : (language : Language) (place : ℕ) (parts : List Part) (ls : List TokenLine) → length (parts_from language place parts ls) ≡ length parts
length-parts language place [] ls = refl
length-parts language place (p ∷ parts) ls = ap suc (length-parts language (place + p.lines) parts (drop p.lines ls))

pub part_count : (language : Language) (parts : List Part) (ls : List TokenLine) (all : List FilePart) → parts_from language 0 parts ls ≡ all → length parts ≡ length all
part_count language parts ls all view = sym (length-parts language 0 parts ls) ∙ ap length view

-- the part that the program has read
pub part_at : (language : Language) (cells : List Cell) (parts : List Part) (ls : List TokenLine) (all : List FilePart) (i : ℕ) (p : Part) → parts_from language 0 parts ls ≡ all
    → AreKept language cells parts ls → i < length all → p ≡ get_or parts i p → IsPartAt language cells all i p
part_at language cells parts ls all i p view h less read =
    let is : slice_get parts i ≡ Some p = slice_get-get_or parts i p (omega (arith, less, part_count language parts ls all view)) ∙ ap (λ (x : Part). Some x) (sym read) in
    subst (λ (ps : List FilePart). IsPartAt language cells ps i p) view (part_in language cells 0 parts ls i p h is)

-- the part at a place of the list
pub part_found : (language : Language) (cells : List Cell) (parts : List Part) (ls : List TokenLine) (all : List FilePart) (i : ℕ) (p : Part) → parts_from language 0 parts ls ≡ all
    → AreKept language cells parts ls → slice_get parts i ≡ Some p → IsPartAt language cells all i p
part_found language cells parts ls all i p view h is = subst (λ (ps : List FilePart). IsPartAt language cells ps i p) view (part_in language cells 0 parts ls i p h is)

-- its first line
pub record HasLine (language : Language) (cells : List Cell) (all : List FilePart) (i : ℕ) (p : Part) : Type 0 where
  -- the place of the line in the file
  pub place : ℕ
  -- the line
  pub line : TokenLine
  -- the other lines of the part
  pub more : List TokenLine
  -- all lines after it
  pub rest : List TokenLine
  -- these are the lines from its start on
  pub lines : lines_at language cells p.start ≡ Ok (line ∷ rest)
  -- it starts within the text
  pub within : p.start ≤ length cells
  -- it has a line
  pub some : 1 ≤ p.lines
  -- it has no more lines than there are
  pub enough : p.lines ≤ length (line ∷ rest)
  -- its lines are this one and the others
  pub taken : take p.lines (line ∷ rest) ≡ line ∷ more
  -- its tag says this of them
  pub fits : Fits language p.tag (line ∷ more)
  -- it shows as these lines
  pub is : slice_get all i ≡ Some (shown language place p.tag (line ∷ more))
  -- a directive has no other line
  pub one : is_text p.tag ≡ false → more ≡ []

first_line_by : (language : Language) (cells : List Cell) (all : List FilePart) (i : ℕ) (p : Part) (n : ℕ) (ls : List TokenLine) (place : ℕ) → p.lines ≡ n → IsKept language cells p ls
    → slice_get all i ≡ Some (shown language place p.tag (take p.lines ls)) → HasLine language cells all i p
first_line_by language cells all i p zero ls place size h is = absurd (omega (arith, size, h.some))
first_line_by language cells all i p (suc n) [] place size h is = absurd (omega (arith, size, h.enough))
first_line_by language cells all i p (suc n) (l ∷ ls) place size h is =
    let taken : take p.lines (l ∷ ls) ≡ l ∷ take n ls = ap (λ k. take k (l ∷ ls)) size in
    record {
      place = place;
      line = l;
      more = take n ls;
      rest = ls;
      lines = h.lines;
      within = h.within;
      some = h.some;
      enough = h.enough;
      taken = taken;
      fits = subst (Fits language p.tag) taken h.fits;
      is = is ∙ ap (λ (ks : List TokenLine). Some (shown language place p.tag ks)) taken;
      one = λ other. (let none : n ≡ 0 = omega (arith, size, h.one other) in ap (λ k. take k ls) none);
    }

pub has_line : {language : Language} {cells : List Cell} {all : List FilePart} {i : ℕ} {p : Part} → IsPartAt language cells all i p → HasLine language cells all i p
has_line {language} {cells} {all} {i} {p} s = first_line_by language cells all i p p.lines s.ls s.place refl s.kept s.is

-- the part by whether it is text
shown-text : (language : Language) (place : ℕ) (t : Tag) (ls : List TokenLine) → is_text t ≡ true → shown language place t ls ≡ TextPart (file_lines_from language place (map (kept_line t) ls))
shown-text language place t ls e = ap (λ x. if x then TextPart (file_lines_from language place (map (kept_line t) ls)) else directive_part (file_lines_from language place (map (kept_line t) ls))) e

abbrev pub directive_shown : Language → ℕ → TokenLine → FileLine
directive_shown language place l = record { place = place; kind = line_kind language l.tokens; tokens = l.tokens; last_line = l.last_line }

shown-directive : (language : Language) (place : ℕ) (t : Tag) (l : TokenLine) (ls : List TokenLine) → is_text t ≡ false → shown language place t (l ∷ ls) ≡ DirectivePart (directive_shown language place l)
shown-directive language place t l ls e =
    ap (λ x. if x then TextPart (file_lines_from language place (map (kept_line t) (l ∷ ls))) else directive_part (file_lines_from language place (map (kept_line t) (l ∷ ls)))) e
    ∙ ap (λ (k : TokenLine). DirectivePart (directive_shown language place k)) (kept-directive t l e)

module _ {language : Language} {cells : List Cell} {all : List FilePart} {i : ℕ} {p : Part} (s : HasLine language cells all i p) where
  -- where it is a directive
  pub is_directive : is_text p.tag ≡ false → slice_get all i ≡ Some (DirectivePart (directive_shown language s.place s.line))
  is_directive e = s.is ∙ ap (λ (q : FilePart). Some q) (shown-directive language s.place p.tag s.line s.more e)

  pub tag_fits : is_text p.tag ≡ false → (name : List ℕ) × IsTagOf (line_kind language s.line.tokens) p.tag name
  tag_fits e =
      let f = directive-fits language p.tag (s.line ∷ s.more) e s.fits in
      (f.0, All-head (λ (l : TokenLine). IsTagOf (line_kind language l.tokens) p.tag f.0) s.line s.more f.1)

  is_lines : is_text p.tag ≡ true → slice_get all i ≡ Some (TextPart (file_lines_from language s.place (map (kept_line p.tag) (s.line ∷ s.more))))
  is_lines e = s.is ∙ ap (λ (q : FilePart). Some q) (shown-text language s.place p.tag (s.line ∷ s.more) e)

  pub role_is : (x : Bool) → is_text p.tag ≡ x → (q : FilePart) → slice_get all i ≡ Some q → part_role q ≡ role (kind_of p.tag [])
  role_is true e q is =
      let both : Some q ≡ Some (TextPart (file_lines_from language s.place (map (kept_line p.tag) (s.line ∷ s.more)))) = sym is ∙ is_lines e in
      let same : q ≡ TextPart (file_lines_from language s.place (map (kept_line p.tag) (s.line ∷ s.more))) = cc in
      ap part_role same ∙ sym (text-role p.tag [] e)
  role_is false e q is =
      let both : Some q ≡ Some (DirectivePart (directive_shown language s.place s.line)) = sym is ∙ is_directive e in
      let same : q ≡ DirectivePart (directive_shown language s.place s.line) = cc in
      let t = tag_fits e in
      ap part_role same ∙ ap role (sym t.1.kind) ∙ role-kind_of p.tag t.0 []

  pub kind_is : (x : Bool) → is_text p.tag ≡ x → is_named p.tag ≡ false → (q : FilePart) → slice_get all i ≡ Some q → part_kind q ≡ kind_of p.tag []
  kind_is true e unnamed q is =
      let both : Some q ≡ Some (TextPart (file_lines_from language s.place (map (kept_line p.tag) (s.line ∷ s.more)))) = sym is ∙ is_lines e in
      let same : q ≡ TextPart (file_lines_from language s.place (map (kept_line p.tag) (s.line ∷ s.more))) = cc in
      ap part_kind same ∙ sym (text-kind_of p.tag [] e)
  kind_is false e unnamed q is =
      let both : Some q ≡ Some (DirectivePart (directive_shown language s.place s.line)) = sym is ∙ is_directive e in
      let same : q ≡ DirectivePart (directive_shown language s.place s.line) = cc in
      let t = tag_fits e in
      ap part_kind same ∙ sym t.1.kind ∙ kind_of-unnamed p.tag t.0 [] unnamed

  -- a directive that is given is that of the line
  pub given : (l : FileLine) → slice_get all i ≡ Some (DirectivePart l) → (l.tokens ≡ s.line.tokens) × (l.last_line ≡ s.line.last_line) × (is_text p.tag ≡ false)
  given l is = by (is_text p.tag) refl
    where
      by : (x : Bool) → is_text p.tag ≡ x → (l.tokens ≡ s.line.tokens) × (l.last_line ≡ s.line.last_line) × (is_text p.tag ≡ false)
      by true e = let no : Some (DirectivePart l) ≡ Some (TextPart (file_lines_from language s.place (map (kept_line p.tag) (s.line ∷ s.more)))) = sym is ∙ is_lines e in cc
      by false e =
          let both : Some (DirectivePart l) ≡ Some (DirectivePart (directive_shown language s.place s.line)) = sym is ∙ is_directive e in
          let same : l ≡ directive_shown language s.place s.line = cc in
          (ap (λ (k : FileLine). k.tokens) same, ap (λ (k : FileLine). k.last_line) same, e)

  -- the tokens of the first line
  first_by : (x : Bool) → is_text p.tag ≡ x → first_tokens (shown language s.place p.tag (s.line ∷ s.more)) ≡ (kept_line p.tag s.line).tokens
  first_by true e = ap first_tokens (shown-text language s.place p.tag (s.line ∷ s.more) e)
  first_by false e = ap first_tokens (shown-directive language s.place p.tag s.line s.more e) ∙ ap (λ (l : TokenLine). l.tokens) (sym (kept-directive p.tag s.line e))

  line_by : part_line all i ≡ line_of_tokens (kept_line p.tag s.line).tokens
  line_by = ap (λ (o : Option FilePart). option_map_or (λ (q : FilePart). line_of_tokens (first_tokens q)) o 0) s.is ∙ ap line_of_tokens (first_by (is_text p.tag) refl)

  pub line_blank : is_blank p.tag ≡ true → part_line all i ≡ 0
  line_blank e =
      let none = All-head (λ (l : TokenLine). l.tokens ≡ []) (kept_line p.tag s.line) (map (kept_line p.tag) s.more) (kept-blank language p.tag (s.line ∷ s.more) e s.fits) in
      line_by ∙ ap line_of_tokens none

  pub line_first : is_blank p.tag ≡ false → part_line all i ≡ line_of_tokens s.line.tokens
  line_first e = line_by ∙ ap (λ (l : TokenLine). line_of_tokens l.tokens) (kept-same p.tag s.line e)

pub line_past : (all : List FilePart) (i : ℕ) → slice_get all i ≡ None → part_line all i ≡ 0
line_past all i none = ap (λ (o : Option FilePart). option_map_or (λ (q : FilePart). line_of_tokens (first_tokens q)) o 0) none

pub tokens_line : (ts : List Tok) (t : Tok) → Some t ≡ slice_get ts 0 → line_of_tokens ts ≡ t.line
tokens_line [] t is = cc
tokens_line (u ∷ ts) t is = let same : u ≡ t = cc in ap (λ (x : Tok). x.line) same

pub tokens_none : (ts : List Tok) → None ≡ slice_get ts 0 → line_of_tokens ts ≡ 0
tokens_none [] is = refl
tokens_none (u ∷ ts) is = cc

---- the parts from one on

pub record AreDropped (language : Language) (cells : List Cell) (all : List FilePart) (n : ℕ) (parts : List Part) : Type 0 where
  -- the place of their first line in the file
  pub place : ℕ
  -- the lines from it on
  pub ls : List TokenLine
  -- they are kept of these
  pub kept : AreKept language cells parts ls
  -- they show as what is left of all
  pub is : drop n all ≡ parts_from language place parts ls

dropped_in : (language : Language) (cells : List Cell) (place : ℕ) (parts : List Part) (ls : List TokenLine) (n : ℕ) → n ≤ length parts → AreKept language cells parts ls
    → AreDropped language cells (parts_from language place parts ls) n (drop n parts)
dropped_in language cells place parts ls zero le h = record { place = place; ls = ls; kept = h; is = refl }
dropped_in language cells place [] ls (suc n) le h = absurd (omega (arith, le))
dropped_in language cells place (p ∷ parts) ls (suc n) le h =
    let s = dropped_in language cells (place + p.lines) parts (drop p.lines ls) n (omega (arith, le)) h.1 in
    record { place = s.place; ls = s.ls; kept = s.kept; is = s.is }

pub dropped : (language : Language) (cells : List Cell) (parts : List Part) (ls : List TokenLine) (all : List FilePart) (n : ℕ) → parts_from language 0 parts ls ≡ all → AreKept language cells parts ls → n ≤ length parts
    → AreDropped language cells all n (drop n parts)
dropped language cells parts ls all n view h le = subst (λ (ps : List FilePart). AreDropped language cells ps n (drop n parts)) view (dropped_in language cells 0 parts ls n le h)

-- those that are text come first
front_role : (language : Language) (place : ℕ) (t : Tag) (ls : List TokenLine) → is_text t ≡ true → part_role (shown language place t ls) ≡ TextLine
front_role language place t ls e = ap part_role (shown-text language place t ls e)

texts_by : (x : Bool) (n : ℕ) (q : FilePart) (qs : List FilePart) → (x ≡ true → part_role q ≡ TextLine) → All (λ (p : FilePart). part_role p ≡ TextLine) (take n qs)
    → All (λ (p : FilePart). part_role p ≡ TextLine) (take (if x then 1 + n else 0) (q ∷ qs))
texts_by true n q qs f h =
    let e : suc n ≡ 1 + n = omega arith in
    subst (λ k. All (λ (p : FilePart). part_role p ≡ TextLine) (take k (q ∷ qs))) e (All-cons (λ (p : FilePart). part_role p ≡ TextLine) q (take n qs) (f refl) h)
texts_by false n q qs f h = All-nil (λ (p : FilePart). part_role p ≡ TextLine)

pub texts_first : (language : Language) (place : ℕ) (parts : List Part) (ls : List TokenLine)
    → All (λ (p : FilePart). part_role p ≡ TextLine) (take (prefix_len (λ (p : Part). is_text p.tag) parts) (parts_from language place parts ls))
texts_first language place [] ls = All-nil (λ (p : FilePart). part_role p ≡ TextLine)
texts_first language place (p ∷ parts) ls =
    texts_by (is_text p.tag) (prefix_len (λ (q : Part). is_text q.tag) parts) (shown language place p.tag (take p.lines ls)) (parts_from language (place + p.lines) parts (drop p.lines ls))
    (front_role language place p.tag (take p.lines ls)) (texts_first language (place + p.lines) parts (drop p.lines ls))

-- what the program has read of part i
pub read_at : (language : Language) (cells : List Cell) (parts : List Part) (ls : List TokenLine) (all : List FilePart) (i : ℕ) (p : Part) → parts_from language 0 parts ls ≡ all
    → AreKept language cells parts ls → i < length all → p ≡ get_or parts i p → HasLine language cells all i p
read_at language cells parts ls all i p view h less read = has_line (part_at language cells parts ls all i p view h less read)

---- the whole file

all_text : (language : Language) (place : ℕ) (ls : List TokenLine) → All (λ (l : TokenLine). prefix_of language l.tokens ≡ None) ls → All (λ (l : FileLine). role l.kind ≡ TextLine) (file_lines_from language place ls)
all_text language place [] h = All-nil (λ (l : FileLine). role l.kind ≡ TextLine)
all_text language place (l ∷ ls) h =
    All-cons (λ (k : FileLine). role k.kind ≡ TextLine) _ (file_lines_from language (place + 1) ls)
    (ap role (text-kind language l.tokens (All-head (λ (k : TokenLine). prefix_of language k.tokens ≡ None) l ls h)))
    (all_text language (place + 1) ls (All-tail (λ (k : TokenLine). prefix_of language k.tokens ≡ None) l ls h))

no_prefixes : (language : Language) (ls : List TokenLine) → All (λ (l : TokenLine). prefix_of language l.tokens ≡ None) (map (kept_line tag.Removed) ls)
no_prefixes language [] = All-nil (λ (l : TokenLine). prefix_of language l.tokens ≡ None)
no_prefixes language (l ∷ ls) = All-cons (λ (k : TokenLine). prefix_of language k.tokens ≡ None) _ (map (kept_line tag.Removed) ls) refl (no_prefixes language ls)

map-same : (f : TokenLine → TokenLine) (ls : List TokenLine) → ((l : TokenLine) → f l ≡ l) → map f ls ≡ ls
map-same f [] h = refl
map-same f (l ∷ ls) h = ap (λ (k : TokenLine). k ∷ map f ls) (h l) ∙ ap (λ (ks : List TokenLine). l ∷ ks) (map-same f ls h)

text_prefixes : (language : Language) (t : Tag) (ls : List TokenLine) → is_text t ≡ true → Fits language t ls → All (λ (l : TokenLine). prefix_of language l.tokens ≡ None) (map (kept_line t) ls)
text_prefixes language tag.Text ls e f = subst (All (λ (l : TokenLine). prefix_of language l.tokens ≡ None)) (sym (map-same (kept_line tag.Text) ls (λ l. refl))) f.0
text_prefixes language tag.Blank ls e f = subst (All (λ (l : TokenLine). prefix_of language l.tokens ≡ None)) (sym (map-same (kept_line tag.Blank) ls (λ l. refl))) f.0
text_prefixes language tag.Removed ls e f = no_prefixes language ls
text_prefixes language t ls e f = cc

part_is : (language : Language) (cells : List Cell) (all : List FilePart) (place : ℕ) (p : Part) (line : TokenLine) (more : List TokenLine) → Fits language p.tag (line ∷ more) → (x : Bool) → is_text p.tag ≡ x
    → IsPart (shown language place p.tag (line ∷ more))
part_is language cells all place p line more fits true e =
    subst IsPart (sym (shown-text language place p.tag (line ∷ more) e)) (all_text language place (map (kept_line p.tag) (line ∷ more)) (text_prefixes language p.tag (line ∷ more) e fits))
part_is language cells all place p line more fits false e =
    let f = directive-fits language p.tag (line ∷ more) e fits in
    let t = All-head (λ (l : TokenLine). IsTagOf (line_kind language l.tokens) p.tag f.0) line more f.1 in
    subst IsPart (sym (shown-directive language place p.tag line more e)) (λ text. directive-role p.tag f.0 e (ap role t.kind ∙ text))

part_by : (language : Language) (cells : List Cell) (place : ℕ) (p : Part) (n : ℕ) (ls : List TokenLine) → p.lines ≡ n → IsKept language cells p ls → IsPart (shown language place p.tag (take p.lines ls))
part_by language cells place p zero ls size h = absurd (omega (arith, size, h.some))
part_by language cells place p (suc n) [] size h = absurd (omega (arith, size, h.enough))
part_by language cells place p (suc n) (l ∷ ls) size h =
    let taken : take p.lines (l ∷ ls) ≡ l ∷ take n ls = ap (λ k. take k (l ∷ ls)) size in
    subst (λ (ks : List TokenLine). IsPart (shown language place p.tag ks)) (sym taken) (part_is language cells [] place p l (take n ls) (subst (Fits language p.tag) taken h.fits) (is_text p.tag) refl)

pub are_parts : (language : Language) (cells : List Cell) (place : ℕ) (parts : List Part) (ls : List TokenLine) → AreKept language cells parts ls → All IsPart (parts_from language place parts ls)
are_parts language cells place [] ls h = All-nil IsPart
are_parts language cells place (p ∷ parts) ls h =
    All-cons IsPart _ (parts_from language (place + p.lines) parts (drop p.lines ls)) (part_by language cells place p p.lines ls refl h.0)
    (are_parts language cells (place + p.lines) parts (drop p.lines ls) h.1)

-- the lines of the parts
lines-append : (language : Language) (place n : ℕ) (xs ys : List TokenLine) → n ≡ length xs → file_lines_from language place (xs ++ ys) ≡ file_lines_from language place xs ++ file_lines_from language (place + n) ys
lines-append language place n [] ys e = let here : place ≡ place + n = omega (arith, e) in ap (λ k. file_lines_from language k ys) here
lines-append language place zero (x ∷ xs) ys e = absurd (omega (arith, e))
lines-append language place (suc n) (x ∷ xs) ys e =
    let on : place + 1 + n ≡ place + suc n = omega arith in
    ap (λ (ls : List FileLine). record { place = place; kind = line_kind language x.tokens; tokens = x.tokens; last_line = x.last_line } ∷ ls)
    (lines-append language (place + 1) n xs ys (omega (arith, e)) ∙ ap (λ k. file_lines_from language (place + 1) xs ++ file_lines_from language k ys) on)

part_lines : (language : Language) (place : ℕ) (t : Tag) (line : TokenLine) (more : List TokenLine) → (is_text t ≡ false → more ≡ []) → (x : Bool) → is_text t ≡ x
    → lines_in (shown language place t (line ∷ more)) ≡ file_lines_from language place (map (kept_line t) (line ∷ more))
part_lines language place t line more one true e = ap lines_in (shown-text language place t (line ∷ more) e)
part_lines language place t line more one false e =
    ap lines_in (shown-directive language place t line more e)
    ∙ ap (λ (l : TokenLine). directive_shown language place l ∷ []) (sym (kept-directive t line e))
    ∙ ap (λ (ls : List TokenLine). file_lines_from language place (map (kept_line t) (line ∷ ls))) (sym (one e))

lines_by_size : (language : Language) (cells : List Cell) (place : ℕ) (p : Part) (n : ℕ) (ls : List TokenLine) → p.lines ≡ n → IsKept language cells p ls
    → lines_in (shown language place p.tag (take p.lines ls)) ≡ file_lines_from language place (map (kept_line p.tag) (take p.lines ls))
lines_by_size language cells place p zero ls size h = absurd (omega (arith, size, h.some))
lines_by_size language cells place p (suc n) [] size h = absurd (omega (arith, size, h.enough))
lines_by_size language cells place p (suc n) (l ∷ ls) size h =
    let taken : take p.lines (l ∷ ls) ≡ l ∷ take n ls = ap (λ k. take k (l ∷ ls)) size in
    ap (λ (ks : List TokenLine). lines_in (shown language place p.tag ks)) taken
    ∙ part_lines language place p.tag l (take n ls) (λ other. (let none : n ≡ 0 = omega (arith, size, h.one other) in ap (λ k. take k ls) none)) (is_text p.tag) refl
    ∙ ap (λ (ks : List TokenLine). file_lines_from language place (map (kept_line p.tag) ks)) (sym taken)

pub lines-parts : (language : Language) (cells : List Cell) (place : ℕ) (parts : List Part) (ls : List TokenLine) → AreKept language cells parts ls
    → lines_of_parts (parts_from language place parts ls) ≡ file_lines_from language place (kept_lines parts ls)
lines-parts language cells place [] ls h = refl
lines-parts language cells place (p ∷ parts) ls h =
    let size : p.lines ≡ length (map (kept_line p.tag) (take p.lines ls)) = sym (length-map (take p.lines ls) (kept_line p.tag) ∙ length-take-le p.lines ls h.0.enough) in
    ap (λ (ks : List FileLine). ks ++ lines_of_parts (parts_from language (place + p.lines) parts (drop p.lines ls))) (lines_by_size language cells place p p.lines ls refl h.0)
    ∙ ap (λ (ks : List FileLine). file_lines_from language place (map (kept_line p.tag) (take p.lines ls)) ++ ks) (lines-parts language cells (place + p.lines) parts (drop p.lines ls) h.1)
    ∙ sym (lines-append language place p.lines (map (kept_line p.tag) (take p.lines ls)) (kept_lines parts (drop p.lines ls)) size)

numbered : (language : Language) (place : ℕ) (ls : List TokenLine) → AreNumbered place (file_lines_from language place ls)
numbered language place [] = tt
numbered language place (l ∷ ls) = (refl, numbered language (place + 1) ls)

pub numbered_parts : (language : Language) (cells : List Cell) (place : ℕ) (parts : List Part) (ls : List TokenLine) → AreKept language cells parts ls → AreNumbered place (lines_of_parts (parts_from language place parts ls))
numbered_parts language cells place parts ls h = subst (AreNumbered place) (sym (lines-parts language cells place parts ls h)) (numbered language place (kept_lines parts ls))

-- the tokens of one line
not_spaced : (ts : List Tok) → spaced_first false ts ≡ ts
not_spaced [] = refl
not_spaced (t ∷ ts) = refl

pub one_line : (before : List Tok) (l : TokenLine) (ls : List TokenLine) → before ≡ [] → before ++ tokens_of_lines false (take 1 (l ∷ ls)) ≡ l.tokens
one_line before l ls none = ap (λ (ts : List Tok). ts ++ tokens_of_lines false (take 1 (l ∷ ls))) none ∙ append-nil (spaced_first false l.tokens) ∙ not_spaced l.tokens

-- a part that ends a run of text
pub run_stops : (language : Language) (cells : List Cell) (parts : List Part) (ls : List TokenLine) (all : List FilePart) (from n : ℕ) → parts_from language 0 parts ls ≡ all → AreKept language cells parts ls
    → n ≡ prefix_len (λ (p : Part). is_text p.tag) (drop from parts) → IfSome (slice_get all (from + n)) (λ (q : FilePart). part_role q ≢ TextLine)
run_stops language cells parts ls all from n view h e = by (slice_get all (from + n)) refl
  where
    by : (o : Option FilePart) → slice_get all (from + n) ≡ o → IfSome o (λ (q : FilePart). part_role q ≢ TextLine)
    by None none = tt
    by (Some q) at =
        let d : Part = record { start = 0; lines = 0; tag = tag.Text } in
        let less : from + n < length parts = omega (arith, slice_get_within all (from + n) q at, part_count language parts ls all view) in
        let p : Part = get_or parts (from + n) d in
        let is : slice_get parts (from + n) ≡ Some p = slice_get-get_or parts (from + n) d less in
        let stop : is_text (get_or (drop from parts) n d).tag ≡ false =
        ap (λ k. is_text (get_or (drop from parts) k d).tag) e ∙ prefix_len_stops (λ (r : Part). is_text r.tag) (drop from parts) d (omega (arith, e, less, length-drop from parts)) in
        let other : is_text p.tag ≡ false = ap (λ (r : Part). is_text r.tag) (sym (get_or-drop from parts n d)) ∙ stop in
        let s = has_line (part_found language cells parts ls all (from + n) p view h is) in
        λ text. directive-role p.tag [] other (sym (role_is s (is_text p.tag) refl q at) ∙ text)

---- the tokens of runs

tokens-shown : (language : Language) (place : ℕ) (ls : List TokenLine) → run_tokens (file_lines_from language place ls) ≡ tokens_of_lines true ls
tokens-shown language place [] = refl
tokens-shown language place (l ∷ ls) = ap (λ (ts : List Tok). spaced_first true l.tokens ++ ts) (tokens-shown language (place + 1) ls)

no_tokens : (ls : List TokenLine) → All (λ (l : TokenLine). l.tokens ≡ []) ls → tokens_of_lines true ls ≡ []
no_tokens [] h = refl
no_tokens (l ∷ ls) h =
    ap (λ (ts : List Tok). spaced_first true ts ++ tokens_of_lines true ls) (All-head (λ (k : TokenLine). k.tokens ≡ []) l ls h)
    ∙ no_tokens ls (All-tail (λ (k : TokenLine). k.tokens ≡ []) l ls h)

any_by : (ts : List Tok) (l : TokenLine) (ls : List TokenLine) → l.tokens ≡ ts → are_none l.tokens && list_all (λ (k : TokenLine). are_none k.tokens) ls ≡ false
    → (list_all (λ (k : TokenLine). are_none k.tokens) ls ≡ false → tokens_of_lines true ls ≡ [] → ⊥) → spaced_first true l.tokens ++ tokens_of_lines true ls ≡ [] → ⊥
any_by [] l ls is e rest none =
    rest (sym (ap (λ us. are_none us && list_all (λ (k : TokenLine). are_none k.tokens) ls) is) ∙ e) (sym (ap (λ us. spaced_first true us ++ tokens_of_lines true ls) is) ∙ none)
any_by (t ∷ ts) l ls is e rest none =
    let some : spaced_first true (t ∷ ts) ++ tokens_of_lines true ls ≡ [] = sym (ap (λ us. spaced_first true us ++ tokens_of_lines true ls) is) ∙ none in cc

any_tokens : (ls : List TokenLine) → list_all (λ (l : TokenLine). are_none l.tokens) ls ≡ false → tokens_of_lines true ls ≡ [] → ⊥
any_tokens [] e none = cc
any_tokens (l ∷ ls) e none = any_by l.tokens l ls refl e (any_tokens ls) none

directive_tokens : (language : Language) (t : Tag) (name : List ℕ) (ts : List Tok) (ls : List TokenLine) → is_text t ≡ false → IsTagOf (line_kind language ts) t name → spaced_first true ts ++ tokens_of_lines true ls ≡ [] → ⊥
directive_tokens language t name [] ls e is none = directive-role t name e (ap role is.kind)
directive_tokens language t name (u ∷ ts) ls e is none = cc

some_tokens : (language : Language) (t : Tag) (line : TokenLine) (more : List TokenLine) → is_blank t ≡ false → Fits language t (line ∷ more) → tokens_of_lines true (line ∷ more) ≡ [] → ⊥
some_tokens language tag.Text line more e f none = any_tokens (line ∷ more) f.1 none
some_tokens language tag.Blank line more e f none = cc
some_tokens language tag.Removed line more e f none = cc
some_tokens language t line more e f none = directive_tokens language t f.0 line.tokens more refl (All-head (λ (l : TokenLine). IsTagOf (line_kind language l.tokens) t f.0) line more f.1) none

module _ {language : Language} {cells : List Cell} {all : List FilePart} {i : ℕ} {p : Part} (s : HasLine language cells all i p) where
  pub part_tokens : is_blank p.tag ≡ false → run_tokens (lines_in (shown language s.place p.tag (s.line ∷ s.more))) ≡ tokens_of_lines true (take p.lines (s.line ∷ s.rest))
  part_tokens e =
      ap run_tokens (part_lines language s.place p.tag s.line s.more s.one (is_text p.tag) refl)
      ∙ tokens-shown language s.place (map (kept_line p.tag) (s.line ∷ s.more))
      ∙ ap (tokens_of_lines true) (map-same (kept_line p.tag) (s.line ∷ s.more) (λ l. kept-same p.tag l e) ∙ sym s.taken)

  pub part_blank : is_blank p.tag ≡ true → run_tokens (lines_in (shown language s.place p.tag (s.line ∷ s.more))) ≡ []
  part_blank e =
      ap run_tokens (part_lines language s.place p.tag s.line s.more s.one (is_text p.tag) refl)
      ∙ tokens-shown language s.place (map (kept_line p.tag) (s.line ∷ s.more))
      ∙ no_tokens (map (kept_line p.tag) (s.line ∷ s.more)) (kept-blank language p.tag (s.line ∷ s.more) e s.fits)

  pub part_some : is_blank p.tag ≡ false → run_tokens (lines_in (shown language s.place p.tag (s.line ∷ s.more))) ≡ [] → ⊥
  part_some e none = some_tokens language p.tag s.line s.more e s.fits (sym (part_tokens e ∙ ap (tokens_of_lines true) s.taken) ∙ none)

-- a run with a part more
run-append : (xs ys : List FileLine) → run_tokens (xs ++ ys) ≡ run_tokens xs ++ run_tokens ys
run-append [] ys = refl
run-append (x ∷ xs) ys = ap (λ (ts : List Tok). spaced_first true x.tokens ++ ts) (run-append xs ys) ∙ sym (append_assoc (spaced_first true x.tokens) (run_tokens xs) (run_tokens ys))

parts-append : (xs ys : List FilePart) → lines_of_parts (xs ++ ys) ≡ lines_of_parts xs ++ lines_of_parts ys
parts-append [] ys = refl
parts-append (x ∷ xs) ys = ap (λ (ls : List FileLine). lines_in x ++ ls) (parts-append xs ys) ∙ sym (append_assoc (lines_in x) (lines_of_parts xs) (lines_of_parts ys))

pub run_next : (all : List FilePart) (from i : ℕ) (q : FilePart) → from ≤ i → slice_get all i ≡ Some q
    → run_tokens (lines_of_parts (slice_range all from (i + 1))) ≡ run_tokens (lines_of_parts (slice_range all from i)) ++ run_tokens (lines_in q)
run_next all from i q le is =
    ap (λ (ps : List FilePart). run_tokens (lines_of_parts ps)) (slice_range-more all from i q le is)
    ∙ ap run_tokens (parts-append (slice_range all from i) (q ∷ []) ∙ ap (λ (ls : List FileLine). lines_of_parts (slice_range all from i) ++ ls) (append-nil (lines_in q)))
    ∙ run-append (lines_of_parts (slice_range all from i)) (lines_in q)

pub blank_next : {language : Language} {cells : List Cell} {all : List FilePart} {i : ℕ} {p : Part} (s : HasLine language cells all i p) (from : ℕ) → from ≤ i
    → run_tokens (lines_of_parts (slice_range all from i)) ≡ [] → is_blank p.tag ≡ true → run_tokens (lines_of_parts (slice_range all from (i + 1))) ≡ []
blank_next {language} {cells} {all} {i} {p} s from le none e =
    let q : FilePart = shown language s.place p.tag (s.line ∷ s.more) in
    run_next all from i q le s.is ∙ ap (λ (ts : List Tok). ts ++ run_tokens (lines_in q)) none ∙ part_blank s e

append_first : (xs ys : List Tok) → xs ++ ys ≡ [] → xs ≡ []
append_first [] ys e = refl
append_first (x ∷ xs) ys e = cc

append_last : (xs ys : List Tok) → xs ++ ys ≡ [] → ys ≡ []
append_last [] ys e = e
append_last (x ∷ xs) ys e = cc

-- a run without tokens has no part with one
split_range : (all : List FilePart) (from i to : ℕ) → from ≤ i → i ≤ to → slice_range all from to ≡ slice_range all from i ++ slice_range all i to
split_range all from i to le within =
    let sum : to - from ≡ (i - from) + (to - i) = omega (arith, le, within) in
    let on : from + (i - from) ≡ i = omega (arith, le) in
    ap (λ k. take k (drop from all)) sum ∙ take-add (i - from) (to - i) (drop from all)
    ∙ ap (λ (ps : List FilePart). take (i - from) (drop from all) ++ take (to - i) ps) (drop-drop (i - from) from all ∙ ap (λ k. drop k all) on)

pub run_any : (all : List FilePart) (from i to : ℕ) (q : FilePart) → from ≤ i → i < to → slice_get all i ≡ Some q → (run_tokens (lines_in q) ≡ [] → ⊥) → run_tokens (lines_of_parts (slice_range all from to)) ≡ [] → ⊥
run_any all from i to q le less is some none =
    let parts : slice_range all from to ≡ slice_range all from (i + 1) ++ slice_range all (i + 1) to = split_range all from (i + 1) to (omega (arith, le)) (omega (arith, less)) in
    let tokens : run_tokens (lines_of_parts (slice_range all from (i + 1))) ++ run_tokens (lines_of_parts (slice_range all (i + 1) to)) ≡ [] =
    sym (ap (λ (ps : List FilePart). run_tokens (lines_of_parts ps)) parts ∙ ap run_tokens (parts-append (slice_range all from (i + 1)) (slice_range all (i + 1) to))
    ∙ run-append (lines_of_parts (slice_range all from (i + 1))) (lines_of_parts (slice_range all (i + 1) to))) ∙ none in
    some (append_last (run_tokens (lines_of_parts (slice_range all from i))) (run_tokens (lines_in q))
    (sym (run_next all from i q le is) ∙ append_first (run_tokens (lines_of_parts (slice_range all from (i + 1)))) (run_tokens (lines_of_parts (slice_range all (i + 1) to))) tokens))
