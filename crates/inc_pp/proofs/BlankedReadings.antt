-- The preprocessing of a project in whose files the removed directives are blanked is that of the old one without them.
use Rattle.std.proofs.Common.{◌≡◌, ℕ, zero, suc, ◌+◌, ◌==◌, ◌&&◌, ◌||◌, ◌++◌, append-nil, Bool, true, false, List, [], ◌∷◌, Some, None, Result, Ok, Err, slice_get, refl, sym, ap, ◌∙◌, arith, length}
use Rattle.std.specs.Option.{option_map_or}
use Rattle.std.proofs.Math.Path.{fun_ext}
use Rattle.std.proofs.lemmas.List.Folds.{list_any-append}
use Rattle.inc_text.specs.PhaseText.{phase_text}
use Rattle.inc_text.specs.declared.languages.Language.{Language}
use Rattle.inc_token.specs.declared.lines.LexFault.{LexFault}
use Rattle.inc_token.specs.Blanking.{ranges_of}
use Rattle.inc_token.specs.TokenLines.{TokenLine, token_lines}
use Rattle.inc_token.proofs.BlankedBytes.{blanked-length}
use Rattle.inc_token.proofs.BlankedLines.{blanked-lines}
use Rattle.inc_directive.specs.BlankedSources.{blanked_by, blanked_source}
use Rattle.inc_directive.specs.declared.sections.BalanceFault.{BalanceFault}
use Rattle.inc_directive.specs.Groups.{Group, Ending, file_tree, whole}
use Rattle.inc_directive.specs.Removal.{is_removed, with_removed}
use Rattle.inc_lookup.specs.declared.projects.DirectiveId.{DirectiveId}
use Rattle.inc_lookup.specs.DirectiveLists.{is_listed}
use Rattle.inc_lookup.specs.Projects.{Layout, File as SourceFile, Listing, bytes_at, layout_of, paths_of}
use Rattle.inc_macro.specs.Macros.{no_macros}
use Rattle.inc_macro.specs.Results.{◌>>=◌}
use Rattle.inc_pp.specs.BlankedProjects.{BlankingIsRemoval, BlankingSomeIsRemoval, blanked_files, blanked_listing}
use Rattle.inc_pp.specs.Files.{FileFault, lines_or_fault, of_balance, text_tree, tree_of, tree_of_lines}
use Rattle.inc_pp.specs.Preprocessing.{counted_read, sized_read, file_read, most_depth, outcome_of, preprocessing, reading, tree_read, with_read, with_words, named_settings, source_read}
use Rattle.inc_pp.specs.Settings.{Settings, is_too_much}
use Rattle.inc_pp.specs.Tasks.{Deeper, Halt, State, Entry, Task, begun, source_at, start}
use Rattle.inc_pp.proofs.BareReadings.{bare_result, then_same, tree_same}
use Rattle.inc_pp.proofs.BareTrees.{bare_lines, bare_tree, lines_replaced, tree_bare}

---- trees

abbrev of_tree : Result Group BalanceFault → Result Group FileFault
of_tree (Ok t) = Ok t
of_tree (Err fault) = Err (of_balance fault)

bare_of : (r : Result Group BalanceFault) → bare_result
    (elim r [ Ok tree ↦ Ok tree | Err fault ↦ Err (of_balance fault) ]) ≡ of_tree (bare_tree r)
bare_of (Ok t) = refl
bare_of (Err fault) = refl

lines_bare : (language : Language) (ls : List TokenLine)
    → bare_result (tree_of_lines language ls) ≡ of_tree (whole (bare_lines language ls).0 (bare_lines language ls).1)
lines_bare language ls = bare_of (file_tree language ls) ∙ ap of_tree (tree_bare language ls)

-- the tree of lines, those on some physical lines removed
abbrev tree_without : Language → (removed : ℕ → Bool) → Result (List TokenLine) LexFault → Result Group FileFault
tree_without language removed r = lines_or_fault r >>= λ ls. tree_of_lines language (with_removed language removed ls)

trees_same : (language : Language) (removed others : ℕ → Bool) (source : List ℕ)
    → bare_result (text_tree language others (phase_text language (blanked_source language removed source)))
    ≡ bare_result (text_tree language (λ n. removed n || others n) (phase_text language source))
trees_same language removed others source = by (token_lines language (phase_text language source)) refl where
  by : (r : Result (List TokenLine) LexFault) → token_lines language (phase_text language source) ≡ r
      → bare_result (tree_without language others (token_lines language (phase_text language (blanked_by language removed r source))))
      ≡ bare_result (tree_without language (λ n. removed n || others n) r)
  by (Err fault) is = ap (λ r. bare_result (tree_without language others r)) is
  by (Ok ls) is =
      let b = blanked-lines language (is_removed language removed) source ls refl is in
      ap (λ r. bare_result (tree_without language others r)) b.1
      ∙ lines_bare language (with_removed language others b.0)
      ∙ ap (λ (x : Group × Ending). of_tree (whole x.0 x.1)) (sym (lines_replaced language removed others b.2))
      ∙ sym (lines_bare language (with_removed language (λ n. removed n || others n) ls))

---- projects

length_blanked : (language : Language) (removed : ℕ → Bool) (r : Result (List TokenLine) LexFault) (source : List ℕ) → length (blanked_by language removed r source) ≡ length source
length_blanked language removed (Ok ls) source = blanked-length 0 (ranges_of (is_removed language removed) ls) source
length_blanked language removed (Err fault) source = refl

bytes_blanked : (language : Language) (without : List DirectiveId) (files : List SourceFile) (k i j : ℕ) → j ≡ k + i
    → option_map_or (λ (f : SourceFile). f.bytes) (slice_get (blanked_files language without k files) i) []
    ≡ blanked_source language (is_listed without j)
    (option_map_or (λ (f : SourceFile). f.bytes) (slice_get files i) [])
bytes_blanked language without [] k i j is = refl
bytes_blanked language without (f ∷ fs) k zero j is =
    let e : k ≡ j = omega (arith, is) in
    ap (λ n. blanked_source language (is_listed without n) f.bytes) e
bytes_blanked language without (f ∷ fs) k (suc i) j is =
    bytes_blanked language without fs (k + 1) i j (omega (arith, is))

paths_blanked : (language : Language) (without : List DirectiveId) (files : List SourceFile) (k : ℕ)
    → paths_of (blanked_files language without k files) ≡ paths_of files
paths_blanked language without [] k = refl
paths_blanked language without (f ∷ fs) k = ap (λ ps. f.path ∷ ps) (paths_blanked language without fs (k + 1))

module _ (settings : Settings) (listing : Listing) (without others : List DirectiveId) where
  abbrev blank : Listing
  blank = blanked_listing settings.language listing without

  abbrev old : Task
  old = record { listing = listing; settings = settings; without = without ++ others }

  abbrev new : Task
  new = record { listing = blank; settings = settings; without = others }

  layouts : layout_of listing ≡ layout_of blank
  layouts = ap (λ (ps : List (List ℕ)). record { paths = ps; search = listing.search })
      (sym (paths_blanked settings.language without listing.files 0))

  listed : (i : ℕ) → is_listed (without ++ others) i ≡ (λ n. is_listed without i n || is_listed others i n)
  listed i = fun_ext λ n. list_any-append (λ (d : DirectiveId). (d.file == i) && (d.line == n)) without others

  tree_blanked : (i : ℕ) → bare_result (tree_of settings.language blank others i)
      ≡ bare_result (tree_of settings.language listing (without ++ others) i)
  tree_blanked i =
      let zero_more : i ≡ 0 + i = omega arith in
      ap (λ bytes. bare_result (text_tree settings.language (is_listed others i) (phase_text settings.language bytes)))
      (bytes_blanked settings.language without listing.files 0 i i zero_more)
      ∙ trees_same settings.language (is_listed without i) (is_listed others i) (bytes_at listing i)
      ∙ ap (λ (removed : ℕ → Bool). bare_result (text_tree settings.language removed
      (phase_text settings.language (bytes_at listing i)))) (sym (listed i))

  -- blanking changes no length
  size_blanked : (i : ℕ) → length (bytes_at blank i) ≡ length (bytes_at listing i)
  size_blanked i =
      let zero_more : i ≡ 0 + i = omega arith in
      ap length (bytes_blanked settings.language without listing.files 0 i i zero_more)
      ∙ length_blanked settings.language (is_listed without i) (token_lines settings.language (phase_text settings.language (bytes_at listing i))) (bytes_at listing i)

  -- a file that is added to the reads
  counted_same : (much : Bool) (deeper : Deeper) (to : Entry) (s : State)
      → counted_read much (record { task = new; index = to.at.file; next = to.at.next; deeper = deeper }) to (tree_of settings.language blank others to.at.file) s (start (layout_of blank) to)
      ≡ counted_read much (record { task = old; index = to.at.file; next = to.at.next; deeper = deeper }) to (tree_of settings.language listing (without ++ others) to.at.file) s
      (start (layout_of listing) to)
  counted_same true deeper to s = refl
  counted_same false deeper to s =
      tree_same settings blank blank others others refl to.at deeper (tree_of settings.language blank others to.at.file)
      s
      (start (layout_of blank) to)
      ∙ ap (λ r. tree_read (record { task = new; index = to.at.file; next = to.at.next; deeper = deeper }) r
      s (start (layout_of blank) to)) (tree_blanked to.at.file)
      ∙ sym (tree_same settings listing blank (without ++ others) others layouts to.at deeper
      (tree_of settings.language listing (without ++ others) to.at.file) s
      (start (layout_of blank) to))
      ∙ ap (λ layout. tree_read (record { task = old; index = to.at.file; next = to.at.next; deeper = deeper })
      (tree_of settings.language listing (without ++ others) to.at.file) s (start layout to))
      (sym layouts)

  file_same : (deeper : Deeper) (to : Entry) (s : State) → file_read new deeper to s ≡ file_read old deeper to s
  file_same deeper to s =
      let size = length (bytes_at listing to.at.file) in
      ap (λ n. sized_read n new deeper to s) (size_blanked to.at.file)
      ∙ counted_same (is_too_much settings.most_read (s.bytes_read + size)) deeper to (with_read to.at.file size s)

  reading_same : (left : ℕ) (to : Entry) (s : State) → reading left new to s ≡ reading left old to s
  reading_same zero to s = file_same None to s
  reading_same (suc left) to s =
      ap (λ (read : Entry → State → Result State Halt). file_read new (Some read) to s)
      (fun_ext λ e. fun_ext λ t. reading_same left e t)
      ∙ file_same (Some (reading left old)) to s

pub blanking-some : BlankingSomeIsRemoval
blanking-some listing source words settings without others =
    let blanked = blanked_listing settings.language listing without in
    let named = named_settings (layout_of listing) source settings in
    then_same (with_words 0 words (no_macros settings.language))
    (λ table. Ok (outcome_of (source_read blanked source (named_settings (layout_of blanked) source settings) others (begun table))))
    (λ table. Ok (outcome_of (source_read listing source named (without ++ others) (begun table))))
    (λ table.
    ap (λ (l : Layout). Ok (outcome_of (source_read blanked source (named_settings l source settings) others (begun table))))
    (sym (layouts settings listing without others))
    ∙ ap (λ r. Ok (outcome_of r)) (reading_same named listing without others most_depth (source_at named source)
    (begun table)))

pub blanking-is-removal : BlankingIsRemoval
blanking-is-removal listing source words settings without =
    blanking-some listing source words settings without []
    ∙ ap (λ ds. preprocessing listing source words settings ds) (append-nil without)
