-- Where files define names, found part by part and file by file.
use Rattle.std.proofs.Common.{◌≡◌, ◌≢◌, ◌∙◌, ◌<◌, ◌+◌, ℕ, zero, suc, Bool, true, false, List, [], ◌∷◌, ◌++◌, Option, Some, None, Result, Ok, Err, ap, ap₂, arith, bytes_eq, cond, get_or, length, length-set, nat_lt, option_map, position, refl, set, subst, sym, take}
use Rattle.std.specs.Prelude.{find, option_and_then, replicate, slice_get, slice_index_or}
use Rattle.std.specs.List.{All, list_any}
use Rattle.std.specs.Option.{is_some, option_map_or, option_or}
use Rattle.std.proofs.lemmas.Bool.{lt-ltb}
use Rattle.std.proofs.lemmas.List.{append-nil, get_or-set_other, get_or-set_same, length-replicate, take_all, take_more}
use Rattle.std.proofs.lemmas.Grind.{flat_map-append}
use Rattle.std.proofs.lemmas.List.Elements.{All-head, All-tail}
use Rattle.std.proofs.lemmas.List.Folds.{find-append}
use Rattle.std.proofs.lemmas.List.Quantifiers.{position-Some}
use Rattle.std.proofs.lemmas.Option.{slice_get-get_or}
use Rattle.std.proofs.lemmas.Slice.Eq.{bytes_eq-Decides}
use Rattle.inc_text.specs.PhaseText.{Cell, phase_text}
use Rattle.inc_text.specs.declared.languages.Language.{Language}
use Rattle.inc_token.specs.LineWalk.{lines_or_none}
use Rattle.inc_token.specs.TokenLines.{Tok, token_lines}
use Rattle.inc_lookup.specs.declared.projects.DirectiveId.{DirectiveId}
use Rattle.inc_lookup.proofs.ListingLemmas.{is_some-position}
use Rattle.inc_directive.specs.FileDirectives.{Directive, file_directives}
use Rattle.inc_directive.specs.Groups.{FileLine, directive_line, file_lines, role}
use Rattle.inc_directive.specs.LineKinds.{LineKind, Text, Include, Other, defined_name, line_of_tokens}
use Rattle.inc_directive.specs.Parts.{FilePart, TextPart, DirectivePart, IsPart, first_tokens, lines_in, lines_of_parts, part_definition, part_line}
use Rattle.inc_directive.specs.declared.files.FileFault.{FileFault}
use Rattle.inc_directive.specs.declared.kinds.DirectiveKind.TheVariants.{Define}
use Rattle.inc_directive.specs.declared.kinds.Role.TheVariants.{TextLine}
use Rattle.inc_answers.specs.DefinitionPlaces.{ArePlaced, at_line, defines, defining_line, definition_line, line_unless_bad, place_by, place_in}

---- options

pub or_none : {X : Type 0} (o : Option X) → option_or o None ≡ o
or_none None = refl
or_none (Some x) = refl

or_or : {X : Type 0} (a b c : Option X) → option_or (option_or a b) c ≡ option_or a (option_or b c)
or_or None b c = refl
or_or (Some x) b c = refl

map_or : {X Y : Type 0} (f : X → Y) (a b : Option X) → option_map f (option_or a b) ≡ option_or (option_map f a) (option_map f b)
map_or f None b = refl
map_or f (Some x) b = refl

same_some : {X : Type 0} (a b : X) → Some a ≡ Some b → a ≡ b
same_some a b is = cc

---- places of names

place_at : (ps : List (Option DirectiveId)) (i : ℕ) → slice_index_or ps i None ≡ get_or ps i None
place_at [] i = refl
place_at (p ∷ ps) zero = refl
place_at (p ∷ ps) (suc i) = place_at ps i

none_at : (n k : ℕ) → slice_index_or {A = Option DirectiveId} (replicate n None) k None ≡ None
none_at zero k = refl
none_at (suc n) zero = refl
none_at (suc n) (suc k) = none_at n k

-- the file at a place of a project
pub file_at : (i n file : ℕ) (o : Option ℕ) → o ≡ cond (nat_lt i n) (Some i) None → o ≡ Some file → file ≡ i
file_at i n file o at is = by (nat_lt i n) (sym at ∙ is)
  where
    by : (b : Bool) → cond b (Some i) None ≡ Some file → file ≡ i
    by true e = sym (same_some i file e)
    by false e = cc

pub file_there : (i n : ℕ) (o : Option ℕ) → i < n → o ≡ cond (nat_lt i n) (Some i) None → o ≡ None → ⊥
file_there i n o low at none = never (ap (λ (b : Bool). cond b (Some i) None) (sym (lt-ltb i n low)) ∙ sym at ∙ none)
  where
    never : Some i ≡ None → ⊥
    never e = cc

module _ (names : List (List ℕ)) where
  -- by another word for them
  pub placed_same : (a b : List ℕ → Option DirectiveId) (ps : List (Option DirectiveId)) → ((name : List ℕ) → a name ≡ b name) → ArePlaced names a ps → ArePlaced names b ps
  placed_same a b ps same are = record { long = are.long; each = λ name k at. are.each name k at ∙ same name }

  -- at first none is known
  pub none_placed : (ps : List (Option DirectiveId)) (n : ℕ) → ps ≡ replicate n None → n ≡ length names → ArePlaced names (λ name. None) ps
  none_placed ps n are count = record {
    long = ap (λ (l : List (Option DirectiveId)). length l) are ∙ length-replicate {A = Option DirectiveId} n None ∙ count;
    each = λ name k at. ap (λ (l : List (Option DirectiveId)). slice_index_or l k None) are ∙ none_at n k;
  }

  -- the place of a name is one of names that are the same
  same_name : (a b : List ℕ) (k : ℕ) → position (bytes_eq a) names ≡ Some k → position (bytes_eq b) names ≡ Some k → a ≡ b
  same_name a b k at_a at_b =
      let x : List ℕ = get_or names k [] in
      (bytes_eq-Decides a x).0 (position-Some (bytes_eq a) names k [] at_a).1 ∙ sym ((bytes_eq-Decides b x).0 (position-Some (bytes_eq b) names k [] at_b).1)

  module _ (before : List ℕ → Option DirectiveId) (name : List ℕ) (place : DirectiveId) where
    abbrev with_place : List ℕ → Option DirectiveId
    with_place n = option_or (before n) (cond (bytes_eq n name) (Some place) None)

    kept_out : (n : List ℕ) → bytes_eq n name ≡ false → before n ≡ with_place n
    kept_out n other = sym (ap (λ (b : Bool). option_or (before n) (cond b (Some place) None)) other ∙ or_none (before n))

    -- of a name that is none of these nothing is kept
    pub other_name : (ps : List (Option DirectiveId)) → position (bytes_eq name) names ≡ None → ArePlaced names before ps → ArePlaced names with_place ps
    other_name ps nowhere are = record { long = are.long; each = λ n k at. are.each n k at ∙ by (bytes_eq n name) n k at refl }
      where
        by : (b : Bool) (n : List ℕ) (k : ℕ) → position (bytes_eq n) names ≡ Some k → bytes_eq n name ≡ b → before n ≡ with_place n
        by true n k at is =
            let same : n ≡ name = (bytes_eq-Decides n name).0 is in
            absurd (never k (sym (subst (λ (m : List ℕ). position (bytes_eq m) names ≡ Some k) same at) ∙ nowhere))
          where
            never : (i : ℕ) → Some i ≡ None → ⊥
            never i e = cc
        by false n k at is = kept_out n is

    -- of one of them it is, where none was
    pub one_name : (ps new : List (Option DirectiveId)) (i : ℕ) → position (bytes_eq name) names ≡ Some i
        → (i < length ps → new ≡ set ps i (option_or (slice_index_or ps i None) (Some place))) → ArePlaced names before ps → ArePlaced names with_place new
    one_name ps new i here kept are = record {
      long = ap (λ (l : List (Option DirectiveId)). length l) now ∙ length-set ps i first ∙ are.long;
      each = λ n k at. by (bytes_eq n name) n k at refl;
    }
      where
        first : Option DirectiveId
        first = option_or (slice_index_or ps i None) (Some place)

        low : i < length ps
        low = let inside = (position-Some (bytes_eq name) names i [] here).0 in omega (arith, inside, are.long)

        now : new ≡ set ps i first
        now = kept low

        by : (b : Bool) (n : List ℕ) (k : ℕ) → position (bytes_eq n) names ≡ Some k → bytes_eq n name ≡ b → slice_index_or new k None ≡ with_place n
        by true n k at is =
            let same : n ≡ name = (bytes_eq-Decides n name).0 is in
            let there : k ≡ i = same_some k i (sym (subst (λ (m : List ℕ). position (bytes_eq m) names ≡ Some k) same at) ∙ here) in
            ap₂ (λ (l : List (Option DirectiveId)) (j : ℕ). slice_index_or l j None) now there
            ∙ place_at (set ps i first) i ∙ get_or-set_same ps i first None low
            ∙ ap (λ (o : Option DirectiveId). option_or o (Some place)) (are.each name i here ∙ ap before (sym same))
            ∙ ap (λ (b : Bool). option_or (before n) (cond b (Some place) None)) (sym is)
        by false n k at is =
            let apart : k ≢ i = λ e. false_true (sym is ∙ (bytes_eq-Decides n name).1 (same_name n name i (subst (λ (j : ℕ). position (bytes_eq n) names ≡ Some j) e at) here)) in
            ap (λ (l : List (Option DirectiveId)). slice_index_or l k None) now
            ∙ place_at (set ps i first) k ∙ get_or-set_other ps i k first None apart ∙ sym (place_at ps k) ∙ are.each n k at ∙ kept_out n is
          where
            false_true : false ≡ true → ⊥
            false_true e = cc

  -- what is looked up is the place of the name
  pub looked_up : (definition : List ℕ → Option DirectiveId) (ps : List (Option DirectiveId)) (name : List ℕ) (k : ℕ) → ArePlaced names definition ps → position (bytes_eq name) names ≡ Some k
      → slice_index_or ps k None ≡ cond (list_any (bytes_eq name) names) (definition name) None
  looked_up definition ps name k are at =
      are.each name k at
      ∙ ap (λ (b : Bool). cond b (definition name) None) (sym (sym (is_some-position (bytes_eq name) names) ∙ ap (λ (o : Option ℕ). is_some o) at))

  pub not_there : (definition : List ℕ → Option DirectiveId) (name : List ℕ) → position (bytes_eq name) names ≡ None
      → None ≡ cond (list_any (bytes_eq name) names) (definition name) None
  not_there definition name at =
      ap (λ (b : Bool). cond b (definition name) None) (sym (sym (is_some-position (bytes_eq name) names) ∙ ap (λ (o : Option ℕ). is_some o) at))

---- the parts of a file

-- a line of text defines nothing
text_defines : (k : LineKind) (ts : List Tok) → role k ≡ TextLine → defined_name k ts ≡ None
text_defines Text ts is = refl
text_defines (Include by target) ts is = cc
text_defines (Other Define) ts is = cc
text_defines (Other d) ts is = refl

texts_define : (name : List ℕ) (ls : List FileLine) → All (λ (l : FileLine). role l.kind ≡ TextLine) ls → find (defines name) ls ≡ None
texts_define name [] all = refl
texts_define name (l ∷ ls) all =
    let P : FileLine → Type 0 = λ k. role k.kind ≡ TextLine in
    ap (λ (o : Option (List ℕ)). cond (option_map_or (bytes_eq name) o false) (Some l) (find (defines name) ls)) (text_defines l.kind l.tokens (All-head P l ls all))
    ∙ texts_define name ls (All-tail P l ls all)

-- the line on which a part defines a name, if it defines this
abbrev pub line_if : (name : List ℕ) → Option (List ℕ) → (line : ℕ) → Option ℕ
line_if name None line = None
line_if name (Some n) line = cond (bytes_eq name n) (Some line) None

part_defines : (name : List ℕ) (p : FilePart) → IsPart p → defining_line name (lines_in p) ≡ line_if name (part_definition p) (line_of_tokens (first_tokens p))
part_defines name (TextPart []) is = absurd is
part_defines name (TextPart (l ∷ ls)) is = ap (λ (o : Option FileLine). option_map directive_line o) (texts_define name (l ∷ ls) is)
part_defines name (DirectivePart l) is = by (defined_name l.kind l.tokens)
  where
    if_same : (b : Bool) → option_map directive_line (cond b (Some l) None) ≡ cond b (Some (line_of_tokens l.tokens)) None
    if_same true = refl
    if_same false = refl

    by : (o : Option (List ℕ)) → option_map directive_line (cond (option_map_or (bytes_eq name) o false) (Some l) None) ≡ line_if name o (line_of_tokens l.tokens)
    by None = refl
    by (Some n) = if_same (bytes_eq name n)

-- of one part more
defining_more : (name : List ℕ) (parts : List FilePart) (i : ℕ) → All IsPart parts → i < length parts
    → defining_line name (lines_of_parts (take (i + 1) parts))
    ≡ option_or (defining_line name (lines_of_parts (take i parts))) (line_if name (option_and_then part_definition (slice_get parts i)) (part_line parts i))
defining_more name parts i all low =
    let none : FilePart = TextPart [] in
    let p : FilePart = get_or parts i none in
    let there : slice_get parts i ≡ Some p = slice_get-get_or parts i none low in
    let lines : lines_of_parts (take (i + 1) parts) ≡ lines_of_parts (take i parts) ++ lines_in p =
    ap lines_of_parts (take_more parts i none low) ∙ flat_map-append lines_in (take i parts) (p ∷ []) ∙ ap (λ (ls : List FileLine). lines_of_parts (take i parts) ++ ls) (append-nil (lines_in p)) in
    ap (defining_line name) lines
    ∙ ap (λ (o : Option FileLine). option_map directive_line o) (find-append (defines name) (lines_of_parts (take i parts)) (lines_in p))
    ∙ map_or directive_line (find (defines name) (lines_of_parts (take i parts))) (find (defines name) (lines_in p))
    ∙ ap (option_or (defining_line name (lines_of_parts (take i parts))))
    (part_defines name p (all i none low)
    ∙ ap (λ (o : Option FilePart). line_if name (option_and_then part_definition o) (option_map_or (λ (q : FilePart). line_of_tokens (first_tokens q)) o 0)) (sym there))

-- with the definitions of so many parts of a file
abbrev pub with_parts : (before : List ℕ → Option DirectiveId) → (file : ℕ) → List FilePart → (count : ℕ) → List ℕ → Option DirectiveId
with_parts before file parts count name = option_or (before name) (option_map (at_line file) (defining_line name (lines_of_parts (take count parts))))

module _ (names : List (List ℕ)) (before : List ℕ → Option DirectiveId) (file : ℕ) (parts : List FilePart) where
  -- of no part
  pub no_part : (ps : List (Option DirectiveId)) → ArePlaced names before ps → ArePlaced names (with_parts before file parts 0) ps
  no_part ps are = placed_same names before (with_parts before file parts 0) ps (λ name. sym (or_none (before name))) are

  -- of all
  pub each_part : (ps : List (Option DirectiveId)) (count : ℕ) → count ≡ length parts → ArePlaced names (with_parts before file parts count) ps
      → ArePlaced names (λ name. option_or (before name) (option_map (at_line file) (defining_line name (lines_of_parts parts)))) ps
  each_part ps count is are =
      placed_same names (with_parts before file parts count) _ ps
      (λ name. ap (λ (l : List FilePart). option_or (before name) (option_map (at_line file) (defining_line name (lines_of_parts l))))
      (take_all count parts (omega (arith, is)))) are

module _ (names : List (List ℕ)) (before : List ℕ → Option DirectiveId) (file : ℕ) (parts : List FilePart) (i : ℕ) (all : All IsPart parts) (low : i < length parts) where
  abbrev own : ℕ → List ℕ → Option DirectiveId
  own count name = with_parts before file parts count name

  one_more : (name : List ℕ) → option_or (own i name) (option_map (at_line file) (line_if name (option_and_then part_definition (slice_get parts i)) (part_line parts i))) ≡ own (i + 1) name
  one_more name =
      or_or (before name) (option_map (at_line file) (defining_line name (lines_of_parts (take i parts)))) _
      ∙ ap (option_or (before name))
      (sym (map_or (at_line file) (defining_line name (lines_of_parts (take i parts))) (line_if name (option_and_then part_definition (slice_get parts i)) (part_line parts i)))
      ∙ ap (λ (o : Option ℕ). option_map (at_line file) o) (sym (defining_more name parts i all low)))

  -- a part that defines a name
  pub part_more : (found : List ℕ) (line : ℕ) (new : List (Option DirectiveId)) → Some found ≡ option_and_then part_definition (slice_get parts i) → line ≡ part_line parts i
      → ArePlaced names (λ n. option_or (own i n) (cond (bytes_eq n found) (Some (at_line file line)) None)) new → ArePlaced names (own (i + 1)) new
  part_more found line new is at are =
      placed_same names _ _ new (λ name. ap (option_or (own i name)) (if_same name (bytes_eq name found) ∙ by name) ∙ one_more name) are
    where
      if_same : (name : List ℕ) (b : Bool) → cond b (Some (at_line file line)) None ≡ option_map (at_line file) (cond b (Some line) None)
      if_same name true = refl
      if_same name false = refl

      by : (name : List ℕ) → option_map (at_line file) (line_if name (Some found) line) ≡ option_map (at_line file) (line_if name (option_and_then part_definition (slice_get parts i)) (part_line parts i))
      by name = ap₂ (λ (o : Option (List ℕ)) (l : ℕ). option_map (at_line file) (line_if name o l)) is at

  -- one that defines none
  pub part_none : (new : List (Option DirectiveId)) → None ≡ option_and_then part_definition (slice_get parts i) → ArePlaced names (own i) new → ArePlaced names (own (i + 1)) new
  part_none new is are =
      placed_same names _ _ new
      (λ name. sym (or_none (own i name))
      ∙ ap (λ (o : Option (List ℕ)). option_or (own i name) (option_map (at_line file) (line_if name o (part_line parts i)))) is ∙ one_more name) are

---- files

-- the line in a file that is read
pub read_line : (language : Language) (bytes : List ℕ) (text : List Cell) (ls : List FileLine) (ds : List Directive) → text ≡ phase_text language bytes → file_directives language text ≡ Ok ds
    → ls ≡ file_lines language (lines_or_none (token_lines language text)) → (name : List ℕ) → defining_line name ls ≡ definition_line language bytes name
read_line language bytes text ls ds is read are name =
    ap₂ (λ (l : List FileLine) (r : Result (List Directive) FileFault). line_unless_bad name l r) are (sym read)
    ∙ ap (λ (t : List Cell). line_unless_bad name (file_lines language (lines_or_none (token_lines language t))) (file_directives language t)) is

-- and in a bad one
pub bad_line : (language : Language) (bytes : List ℕ) (text : List Cell) (fault : FileFault) → text ≡ phase_text language bytes → file_directives language text ≡ Err fault
    → (name : List ℕ) → definition_line language bytes name ≡ None
bad_line language bytes text fault is read name =
    ap (line_unless_bad name (file_lines language (lines_or_none (token_lines language (phase_text language bytes))))) (sym (ap (file_directives language) is) ∙ read)

-- a place is in one of the files
pub place_low : (language : Language) (bytes : ℕ → Option (List ℕ)) (count : ℕ) (name : List ℕ) (d : DirectiveId) → place_by language bytes count name ≡ Some d → d.file < count
place_low language bytes zero name d is = cc
place_low language bytes (suc file) name d is = by (place_by language bytes file name) refl (λ e. place_low language bytes file name d e)
  where
    in_file : (o : Option ℕ) → option_map (at_line file) o ≡ Some d → d.file ≡ file
    in_file None at = cc
    in_file (Some line) at = ap (λ (x : DirectiveId). x.file) (sym (same_some (at_line file line) d at))

    by : (o : Option DirectiveId) → place_by language bytes file name ≡ o → (place_by language bytes file name ≡ Some d → d.file < file) → d.file < suc file
    by None none before =
        let here : d.file ≡ file = in_file (option_and_then (λ bs. definition_line language bs name) (bytes file))
        (sym (ap (λ (x : Option DirectiveId). option_or x (place_in language name file (bytes file))) none) ∙ is) in
        omega (arith, here)
    by (Some e) some before =
        let same : e ≡ d = same_some e d (sym (ap (λ (x : Option DirectiveId). option_or x (place_in language name file (bytes file))) some) ∙ is) in
        let low = before (some ∙ ap (λ (x : DirectiveId). Some x) same) in
        omega (arith, low)

-- the same bytes, the same place
pub place_same : (language : Language) (a b : ℕ → Option (List ℕ)) (count : ℕ) → ((file : ℕ) → file < count → a file ≡ b file) → (name : List ℕ) → place_by language a count name ≡ place_by language b count name
place_same language a b zero same name = refl
place_same language a b (suc file) same name =
    ap₂ (λ (x : Option DirectiveId) (bytes : Option (List ℕ)). option_or x (place_in language name file bytes))
    (place_same language a b file (λ f low. same f (omega (arith, low))) name) (same file (omega arith))
