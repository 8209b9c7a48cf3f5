-- The walk over a text in which a line of tokens gives way to spaces and LFs.
use Rattle.inc_text.specs.declared.languages.Language.{Language}
use Rattle.std.proofs.Common.{◌≡◌, ◌≢◌, ℕ, ◌-◌, ◌≤◌, ◌==◌, ◌||◌, ◌⊎◌, inl, inr, Bool, true, false, List, [], ◌∷◌, ◌++◌, length, get_or, append-nil, append_assoc, refl, sym, ap, ◌∙◌, subst, arith}
use Rattle.std.proofs.lemmas.List.{map-append, length-map, length-append}
use Rattle.inc_text.specs.PhaseText.{Cell, bytes_of}
use Rattle.inc_token.specs.Blanking.{end_of, line_range}
use Rattle.inc_token.specs.TokenLaws.{last_of, token_from}
use Rattle.inc_token.specs.TokenLines.{Tok, TokenLine, piece_at, piece_len, with_token}
use Rattle.inc_token.specs.declared.kinds.Kind.{Kind}
use Rattle.inc_token.specs.declared.pieces.Piece.{Piece}
use Rattle.inc_token.specs.declared.pieces.Piece.TheVariants.{Blank, NewLine, Lexeme, Unclosed}
use Rattle.inc_token.specs.declared.pieces.Progress.{Progress}
use Rattle.inc_token.specs.declared.pieces.Progress.TheVariants.{AtStart}
use Rattle.inc_token.proofs.ClosedText.{AreClosed, closed_both, closed_lf, gap_closed}
use Rattle.inc_token.proofs.SamePieces.{has_lf, on_line, goes_on, any_progress, piece_same, gap_same, token_on_line, new_line_byte, gap_byte}
use Rattle.inc_token.proofs.Walks.{Walk, at_end, over_gap, over_end, over_token}

abbrev pub empty_line : ℕ → TokenLine
empty_line n = record { tokens = []; last_line = n }

abbrev pub line : List Tok → ℕ → TokenLine
line ts n = record { tokens = ts; last_line = n }

abbrev pub last_cell : Cell → List Cell → Cell
last_cell c [] = c
last_cell c (d ∷ ds) = last_cell d ds

pub last_of-is : (c : Cell) (cs : List Cell) → last_of c cs ≡ (last_cell c cs).last
last_of-is c [] = refl
last_of-is c (d ∷ ds) = last_of-is d ds

last_cell-append : (c : Cell) (before : List Cell) (d : Cell) (ds : List Cell)
    → last_cell c (before ++ (d ∷ ds)) ≡ last_cell d ds
last_cell-append c [] d ds = refl
last_cell-append c (b ∷ before) d ds = last_cell-append b before d ds

last_byte : (d : Cell) (ds rest : List Cell) (x : ℕ)
    → get_or (bytes_of (d ∷ (ds ++ rest))) (length ds) x ≡ (last_cell d ds).byte
last_byte d [] rest x = refl
last_byte d (e ∷ ds) rest x = last_byte e ds rest x

---- lines with a token before them

abbrev first_tokens : List TokenLine → List Tok
first_tokens [] = []
first_tokens (l ∷ ls) = l.tokens

abbrev first_line_end : List TokenLine → ℕ
first_line_end [] = 0
first_line_end (l ∷ ls) = l.last_line

abbrev first_or : TokenLine → List TokenLine → TokenLine
first_or d [] = d
first_or d (x ∷ xs) = x

abbrev later_lines : List TokenLine → List TokenLine
later_lines [] = []
later_lines (l ∷ ls) = ls

abbrev head_token : Tok → List Tok → Tok
head_token d [] = d
head_token d (t ∷ ts) = t

abbrev tail_tokens : List Tok → List Tok
tail_tokens [] = []
tail_tokens (t ∷ ts) = ts

-- a line that has tokens is not empty
no_empty : (t : Tok) (ls ms : List TokenLine) (n : ℕ) → with_token t ls ≡ empty_line n ∷ ms → ⊥
no_empty t [] ms n is = cc
no_empty t (l ∷ ls) ms n is = let e : t ∷ l.tokens ≡ [] = ap first_tokens is in cc

no_tokens : (t : Tok) (ts : List Tok) (n m : ℕ) (ls ms : List TokenLine) → empty_line n ∷ ls ≡ line (t ∷ ts) m ∷ ms
    → ⊥
no_tokens t ts n m ls ms is = let e : [] ≡ t ∷ ts = ap first_tokens is in cc

-- the first token of a line, and the lines without it
token_off : (u : Tok) (ls : List TokenLine) (t : Tok) (ts : List Tok) (n : ℕ) (ms : List TokenLine)
    → with_token u ls ≡ line (t ∷ ts) n ∷ ms
    → (u ≡ t) × (ls ≡ line ts n ∷ ms)
token_off u [] t ts n ms is = cc
token_off u (l ∷ ls) t ts n ms is =
    let tokens : u ∷ l.tokens ≡ t ∷ ts = ap first_tokens is in
    let one : l.tokens ≡ ts = ap tail_tokens tokens in
    let two : l.last_line ≡ n = ap first_line_end is in
    let three : ls ≡ ms = ap later_lines is in (
      ap (head_token u) tokens,
      ap (λ xs. line xs l.last_line ∷ ls) one ∙ ap (λ m. line ts m ∷ ls) two
          ∙ ap (λ xs. line ts n ∷ xs) three,
    )

token_cons : (u : Tok) (ls : List TokenLine) (l : TokenLine) (ms : List TokenLine) → with_token u ls ≡ l ∷ ms
    → (k : TokenLine) × (ls ≡ k ∷ ms) × (l ≡ line (u ∷ k.tokens) k.last_line)
token_cons u [] l ms is = cc
token_cons u (k ∷ ls) l ms is =
    let same : line (u ∷ k.tokens) k.last_line ≡ l = ap (first_or l) is in
    (k, ap (λ xs. k ∷ xs) (ap later_lines is), sym same)

-- the last byte of a token is no LF
token_last : (language : Language) (progress : Progress) (kind : Kind) (d : Cell) (ds rest : List Cell)
    → piece_at language progress (bytes_of (d ∷ (ds ++ rest))) ≡ Lexeme kind (length (d ∷ ds))
    → on_line (last_cell d ds).byte ≡ true
token_last language progress kind d ds rest piece =
    let one : length (d ∷ ds) - 1 ≡ length ds = omega arith in
    let on = (token_on_line language progress d.byte (bytes_of (ds ++ rest)) kind (length (d ∷ ds)) piece).1 0 in
    ap on_line (sym (last_byte d ds rest 0) ∙ ap (λ k. get_or (bytes_of (d ∷ (ds ++ rest))) k 0) (sym one)) ∙ on

---- the end of a line

-- where no token follows on its line, the progress says nothing
pub walk_empty : (language : Language) {progress : Progress} {space : Bool} {cells : List Cell} {ls : List TokenLine}
    → Walk language progress space cells ls
    → (n : ℕ) (ms : List TokenLine) → ls ≡ empty_line n ∷ ms → (later : Progress) (other : Bool)
    → Walk language later other cells ls
walk_empty language at_end n ms is later other = cc
walk_empty language {progress} (over_gap c cs rest piece more cells at) n ms is later other =
    over_gap c cs rest (any_progress language progress later c.byte (bytes_of (cs ++ rest)) (Blank (length (c ∷ cs))) piece
    (λ t. t)) (walk_empty language more n ms is later true) cells at
walk_empty language {progress} (over_end c rest piece more) n ms is later other =
    over_end c rest (any_progress language progress later c.byte (bytes_of rest) NewLine piece (λ t. t)) more
walk_empty language {progress} {space} (over_token {ls = ls} kind c cs rest piece more cells at) n ms is later other =
    absurd (no_empty (token_from space kind c cs) ls ms n is)

-- the cells of a line after a first cell and others, up to the end of its last token, and the rest of it
pub record Tail (language : Language) (c : Cell) (before cells : List Cell) (ts : List Tok) (n : ℕ) (ms : List TokenLine) : Type 0 where
  -- the cells up to the end of the last token
  pub tokens : List Cell
  -- the others
  pub rest : List Cell
  -- together they are the cells
  pub all : cells ≡ tokens ++ rest
  -- they end where the last token ends
  pub last : last_of c (before ++ tokens) ≡ end_of (last_of c before) ts
  -- the last of them is on the line
  pub byte : on_line (last_cell c (before ++ tokens)).byte ≡ true
  -- the rest has no token up to the end of the line, and then these lines
  pub more : Walk language AtStart false rest (empty_line n ∷ ms)

tail_here : (language : Language) {progress : Progress} {space : Bool} {cells : List Cell} {ls : List TokenLine}
    → Walk language progress space cells ls
    → (n : ℕ) (ms : List TokenLine) → ls ≡ empty_line n ∷ ms → (c : Cell) (before : List Cell)
    → on_line (last_cell c before).byte ≡ true → Tail language c before cells [] n ms
tail_here language {progress} {space} {cells} walk n ms is c before ok =
    record {
      tokens = [];
      rest = cells;
      all = refl;
      last = ap (last_of c) (append-nil before);
      byte = ap (λ xs. on_line (last_cell c xs).byte) (append-nil before) ∙ ok;
      more = subst (Walk language AtStart false cells) is (walk_empty language walk n ms is AtStart false);
    }

line_tail : (language : Language) {progress : Progress} {space : Bool} {cells : List Cell} {ls : List TokenLine}
    → Walk language progress space cells ls
    → (ts : List Tok) (n : ℕ) (ms : List TokenLine) → ls ≡ line ts n ∷ ms → (c : Cell) (before : List Cell)
    → (ts ≡ [] → on_line (last_cell c before).byte ≡ true) → Tail language c before cells ts n ms
line_tail language at_end ts n ms is c before ok = cc
line_tail language (over_gap d ds rest piece more cells at) [] n ms is c before ok =
    tail_here language {space = false} (over_gap d ds rest piece more cells at) n ms is c before (ok refl)
line_tail language (over_end d rest piece more) [] n ms is c before ok =
    tail_here language {space = false} (over_end d rest piece more) n ms is c before (ok refl)
line_tail language {space} (over_token {ls = ls} kind d ds rest piece more cells at) [] n ms is c before ok =
    absurd (no_empty (token_from space kind d ds) ls ms n is)
line_tail language (over_gap d ds rest piece more cells at) (t ∷ ts) n ms is c before ok =
    let r = line_tail language more (t ∷ ts) n ms is c (before ++ (d ∷ ds)) (λ e. cc) in
    record {
      tokens = d ∷ (ds ++ r.tokens);
      rest = r.rest;
      all = at ∙ ap (λ xs. d ∷ (ds ++ xs)) r.all ∙ ap (λ xs. d ∷ xs) (sym (append_assoc ds r.tokens r.rest));
      last = ap (last_of c) (sym (append_assoc before (d ∷ ds) r.tokens)) ∙ r.last;
      byte = ap (λ xs. on_line (last_cell c xs).byte) (sym (append_assoc before (d ∷ ds) r.tokens)) ∙ r.byte;
      more = r.more;
    }
line_tail language (over_end {ls = ls} d rest piece more) (t ∷ ts) n ms is c before ok =
    absurd (no_tokens t ts d.line n ls ms is)
line_tail language {progress} {space} (over_token {ls = ls} kind d ds rest piece more cells at) (t ∷ ts) n ms is c before ok =
    let off = token_off (token_from space kind d ds) ls t ts n ms is in
    let joint : last_cell c (before ++ (d ∷ ds)) ≡ last_cell d ds = last_cell-append c before d ds in
    let here : on_line (last_cell c (before ++ (d ∷ ds))).byte ≡ true = ap (λ (x : Cell). on_line x.byte) joint
    ∙ token_last language progress kind d ds rest piece in
    let r = line_tail language more ts n ms off.1 c (before ++ (d ∷ ds)) (λ e. here) in
    let ends : last_of c (before ++ (d ∷ ds)) ≡ t.last = last_of-is c (before ++ (d ∷ ds))
    ∙ ap (λ (x : Cell). x.last) joint ∙ sym (last_of-is d ds) ∙ ap (λ (x : Tok). x.last) off.0 in
    record {
      tokens = d ∷ (ds ++ r.tokens);
      rest = r.rest;
      all = at ∙ ap (λ xs. d ∷ (ds ++ xs)) r.all ∙ ap (λ xs. d ∷ xs) (sym (append_assoc ds r.tokens r.rest));
      last = ap (last_of c) (sym (append_assoc before (d ∷ ds) r.tokens)) ∙ r.last ∙ ap (λ e. end_of e ts) ends;
      byte = ap (λ xs. on_line (last_cell c xs).byte) (sym (append_assoc before (d ∷ ds) r.tokens)) ∙ r.byte;
      more = r.more;
    }

---- up to the first token of a line

-- a walk goes up to the first token of a line, after some lines, and on to the end of its last token: its cells are c
-- and cs. In their place may stand any text that begins with a space, if it can be walked over where the line begins
pub record Reached (language : Language) (later progress : Progress) (space : Bool) (cells : List Cell) (ls : List TokenLine)
    (ts : List Tok) (n : ℕ) (ms : List TokenLine) : Type 0 where
  pub before : List Cell
  pub c : Cell
  pub cs : List Cell
  pub rest : List Cell
  pub all : cells ≡ before ++ (c ∷ (cs ++ rest))
  pub first : c.first ≡ (line_range ts).first
  pub last : last_of c cs ≡ (line_range ts).last
  pub first_byte : on_line c.byte ≡ true
  pub last_byte : on_line (last_cell c cs).byte ≡ true
  -- no splice begins before it and ends in it
  pub closed : AreClosed language (bytes_of before)
  pub more : Walk language AtStart false rest (empty_line n ∷ ms)
  pub lf : (l : TokenLine) (others : List TokenLine) → ls ≡ l ∷ others → has_lf (bytes_of before) ≡ true
  pub front : (s : Cell) (w : List Cell) (ks : List TokenLine) → s.byte ≡ 32
      → ((other : Bool) → Walk language later other (s ∷ w) ks)
      → Walk language progress space (before ++ (s ∷ w)) (ls ++ ks)

-- a line that has tokens does not begin with its end
walk_goes_on : (language : Language) {progress : Progress} {space : Bool} {cells : List Cell} {ls : List TokenLine}
    → Walk language progress space cells ls
    → (t : Tok) (ts : List Tok) (n : ℕ) (ms : List TokenLine) → ls ≡ line (t ∷ ts) n ∷ ms
    → goes_on (bytes_of cells) ≡ true
walk_goes_on language at_end t ts n ms is = cc
walk_goes_on language {progress} (over_gap d ds rest piece more cells at) t ts n ms is =
    ap (λ xs. goes_on (bytes_of xs)) at ∙ gap_byte language progress d.byte (length (d ∷ ds)) (bytes_of (ds ++ rest)) piece
walk_goes_on language (over_end {ls = ls} d rest piece more) t ts n ms is = absurd (no_tokens t ts d.line n ls ms is)
walk_goes_on language {progress} (over_token kind d ds rest piece more cells at) t ts n ms is =
    ap (λ xs. goes_on (bytes_of xs)) at ∙ (token_on_line language progress d.byte (bytes_of (ds ++ rest)) kind
    (length (d ∷ ds)) piece).0

-- pieces of cells
bytes_of-append : (xs ys : List Cell) → bytes_of (xs ++ ys) ≡ bytes_of xs ++ bytes_of ys
bytes_of-append xs ys = map-append (λ (c : Cell). c.byte) xs ys

length-bytes : (xs : List Cell) → length (bytes_of xs) ≡ length xs
length-bytes xs = length-map xs (λ (c : Cell). c.byte)

gap_cells : (language : Language) (progress : Progress) (d : Cell) (ds old new : List Cell) → goes_on (bytes_of old) ≡ true
    → piece_at language progress (bytes_of (d ∷ (ds ++ old))) ≡ Blank (length (d ∷ ds))
    → piece_at language progress (bytes_of (d ∷ (ds ++ new))) ≡ Blank (length (d ∷ ds))
gap_cells language progress d ds old new on is =
    let size : length (d.byte ∷ bytes_of ds) ≡ length (d ∷ ds) = length-bytes (d ∷ ds) in
    let here : piece_at language progress (d.byte ∷ (bytes_of ds ++ bytes_of old)) ≡ Blank (length (d.byte ∷ bytes_of ds)) =
    ap (λ xs. piece_at language progress (d.byte ∷ xs)) (sym (bytes_of-append ds old)) ∙ is ∙ ap Blank (sym size) in
    ap (λ xs. piece_at language progress (d.byte ∷ xs)) (bytes_of-append ds new)
    ∙ gap_same language progress d.byte (bytes_of ds) (bytes_of old) (bytes_of new) on here ∙ ap Blank size

lf_behind : (xs ys : List ℕ) → has_lf ys ≡ true → has_lf (xs ++ ys) ≡ true
lf_behind [] ys lf = lf
lf_behind (x ∷ xs) ys lf = by (x == 10) (lf_behind xs ys lf) where
  by : (t : Bool) {u : Bool} → u ≡ true → (t || u) ≡ true
  by true is = refl
  by false is = is

-- a piece, some text that holds an LF, and what comes after it
same_cells : (language : Language) (progress : Progress) (d : Cell) (ds x old new : List Cell) (p : Piece) → has_lf (bytes_of x) ≡ true
    → piece_len p ≡ length (d ∷ ds) → p ≢ Unclosed
    → piece_at language progress (bytes_of (d ∷ (ds ++ (x ++ old)))) ≡ p
    → piece_at language progress (bytes_of (d ∷ (ds ++ (x ++ new)))) ≡ p
same_cells language progress d ds x old new p lf size closed is =
    let front : List ℕ = bytes_of ds ++ bytes_of x in
    let holds : has_lf (d.byte ∷ front) ≡ true = lf_behind (bytes_of (d ∷ ds)) (bytes_of x) lf in
    let fits : piece_len p ≤ length (d.byte ∷ front) =
    omega (arith, size, length-append (bytes_of ds) (bytes_of x), length-bytes ds) in
    let text : (w : List Cell) → bytes_of (ds ++ (x ++ w)) ≡ front ++ bytes_of w =
    λ w. bytes_of-append ds (x ++ w) ∙ ap (λ ys. bytes_of ds ++ ys) (bytes_of-append x w)
    ∙ sym (append_assoc (bytes_of ds) (bytes_of x) (bytes_of w)) in
    ap (λ xs. piece_at language progress (d.byte ∷ xs)) (text new)
    ∙ piece_same language progress d.byte front (bytes_of old) (bytes_of new) p holds
    (ap (λ xs. piece_at language progress (d.byte ∷ xs)) (sym (text old)) ∙ is) fits closed

cells_closed : (language : Language) (xs ys : List Cell) → AreClosed language (bytes_of xs ++ bytes_of ys)
    → AreClosed language (bytes_of (xs ++ ys))
cells_closed language xs ys h = subst (AreClosed language) (sym (bytes_of-append xs ys)) h

closed_gap : (language : Language) (progress : Progress) (d : Cell) (ds old : List Cell) → goes_on (bytes_of old) ≡ true
    → piece_at language progress (bytes_of (d ∷ (ds ++ old))) ≡ Blank (length (d ∷ ds)) → AreClosed language (bytes_of (d ∷ ds))
closed_gap language progress d ds old on is =
    let size : length (d.byte ∷ bytes_of ds) ≡ length (d ∷ ds) = length-bytes (d ∷ ds) in
    gap_closed language progress d.byte (bytes_of ds) (bytes_of old) on
    (ap (λ xs. piece_at language progress (d.byte ∷ xs)) (sym (bytes_of-append ds old)) ∙ is ∙ ap Blank (sym size))

first_token : (language : Language) {progress : Progress} {space : Bool} {cells : List Cell} {ls : List TokenLine}
    → Walk language progress space cells ls
    → (t : Tok) (ts : List Tok) (n : ℕ) (ms : List TokenLine) → ls ≡ line (t ∷ ts) n ∷ ms
    → Reached language progress progress space cells [] (t ∷ ts) n ms
first_token language at_end t ts n ms is = cc
first_token language {progress} {space} (over_gap d ds rest piece more cells at) t ts n ms is =
    let r = first_token language more t ts n ms is in
    let on = walk_goes_on language more t ts n ms is in
    record {
      before = d ∷ (ds ++ r.before);
      c = r.c;
      cs = r.cs;
      rest = r.rest;
      all = at ∙ ap (λ xs. d ∷ (ds ++ xs)) r.all ∙ ap (λ xs. d ∷ xs)
          (sym (append_assoc ds r.before (r.c ∷ (r.cs ++ r.rest))));
      first = r.first;
      last = r.last;
      first_byte = r.first_byte;
      last_byte = r.last_byte;
      closed = cells_closed language (d ∷ ds) r.before (closed_both language (bytes_of (d ∷ ds)) (bytes_of r.before)
          (closed_gap language progress d ds rest on piece) r.closed);
      more = r.more;
      lf = λ l others e. cc;
      front = λ s w ks is_space walks.
          over_gap d ds (r.before ++ (s ∷ w)) (gap_cells language progress d ds rest (r.before ++ (s ∷ w)) on piece)
          (r.front s w ks is_space walks)
          (d ∷ ((ds ++ r.before) ++ (s ∷ w))) (ap (λ xs. d ∷ xs) (append_assoc ds r.before (s ∷ w)));
    }
first_token language (over_end {ls = ls} d rest piece more) t ts n ms is = absurd (no_tokens t ts d.line n ls ms is)
first_token language {progress} {space} (over_token {ls = ls} kind d ds rest piece more cells at) t ts n ms is =
    let off = token_off (token_from space kind d ds) ls t ts n ms is in
    let r = line_tail language more ts n ms off.1 d ds (λ e. token_last language progress kind d ds rest piece) in
    let ends : last_of d ds ≡ t.last = ap (λ (x : Tok). x.last) off.0 in
    record {
      before = [];
      c = d;
      cs = ds ++ r.tokens;
      rest = r.rest;
      all = at ∙ ap (λ xs. d ∷ (ds ++ xs)) r.all ∙ ap (λ xs. d ∷ xs) (sym (append_assoc ds r.tokens r.rest));
      first = ap (λ (x : Tok). x.first) off.0;
      last = r.last ∙ ap (λ e. end_of e ts) ends;
      first_byte = (token_on_line language progress d.byte (bytes_of (ds ++ rest)) kind (length (d ∷ ds)) piece).0;
      last_byte = r.byte;
      closed = tt;
      more = r.more;
      lf = λ l others e. cc;
      front = λ s w ks is_space walks. walks space;
    }

lf_later : (d : Cell) (ds x : List Cell) → has_lf (bytes_of x) ≡ true → has_lf (bytes_of (d ∷ (ds ++ x))) ≡ true
lf_later d ds x lf = ap has_lf (bytes_of-append (d ∷ ds) x) ∙ lf_behind (bytes_of (d ∷ ds)) (bytes_of x) lf

-- after some lines
pub reach_line : (language : Language) {progress : Progress} {space : Bool} {cells : List Cell} {all : List TokenLine}
    → Walk language progress space cells all
    → (ls : List TokenLine) (t : Tok) (ts : List Tok) (n : ℕ) (ms : List TokenLine)
    → all ≡ ls ++ (line (t ∷ ts) n ∷ ms)
    → (ls ≡ [] → progress ≡ AtStart) → Reached language AtStart progress space cells ls (t ∷ ts) n ms
reach_line language {progress} at_end ls t ts n ms is begun = absurd (none ls is) where
  none : (ls : List TokenLine) → [] ≡ ls ++ (line (t ∷ ts) n ∷ ms) → ⊥
  none [] is = cc
  none (l ∷ ls) is = cc
reach_line language {progress} {space} {cells} (over_gap d ds rest piece more all_cells at) [] t ts n ms is begun =
    subst (λ p. Reached language p progress space cells [] (t ∷ ts) n ms) (begun refl)
    (first_token language (over_gap d ds rest piece more all_cells at) t ts n ms is)
reach_line language {progress} {space} {cells} (over_end d rest piece more) [] t ts n ms is begun =
    subst (λ p. Reached language p progress space cells [] (t ∷ ts) n ms) (begun refl)
    (first_token language (over_end d rest piece more) t ts n ms is)
reach_line language {progress} {space} {cells} (over_token kind d ds rest piece more all_cells at) [] t ts n ms is begun =
    subst (λ p. Reached language p progress space cells [] (t ∷ ts) n ms) (begun refl)
    (first_token language (over_token kind d ds rest piece more all_cells at) t ts n ms is)
reach_line language {progress} {space} (over_gap d ds rest piece more cells at) (l ∷ ls) t ts n ms is begun =
    let r = reach_line language more (l ∷ ls) t ts n ms is (λ e. cc) in
    let after : List Cell = r.c ∷ (r.cs ++ r.rest) in
    let held = r.lf l ls refl in
    let here : piece_at language progress (bytes_of (d ∷ (ds ++ (r.before ++ after)))) ≡ Blank (length (d ∷ ds)) =
    ap (λ xs. piece_at language progress (bytes_of (d ∷ (ds ++ xs)))) (sym r.all) ∙ piece in
    record {
      before = d ∷ (ds ++ r.before);
      c = r.c;
      cs = r.cs;
      rest = r.rest;
      all = at ∙ ap (λ xs. d ∷ (ds ++ xs)) r.all ∙ ap (λ xs. d ∷ xs) (sym (append_assoc ds r.before after));
      first = r.first;
      last = r.last;
      first_byte = r.first_byte;
      last_byte = r.last_byte;
      closed = cells_closed language (d ∷ ds) r.before (closed_lf language (bytes_of (d ∷ ds)) (bytes_of r.before) held r.closed);
      more = r.more;
      lf = λ k others e. lf_later d ds r.before held;
      front = λ s w ks is_space walks.
          over_gap d ds (r.before ++ (s ∷ w)) (same_cells language progress d ds r.before after (s ∷ w)
          (Blank (length (d ∷ ds))) held refl (λ e. cc) here)
          (r.front s w ks is_space walks) (d ∷ ((ds ++ r.before) ++ (s ∷ w)))
          (ap (λ xs. d ∷ xs) (append_assoc ds r.before (s ∷ w)));
    }
reach_line language {progress} {space} (over_end {ls = all} d rest piece more) (l ∷ ls) t ts n ms is begun =
    let tail : all ≡ ls ++ (line (t ∷ ts) n ∷ ms) = ap later_lines is in
    let head : empty_line d.line ≡ l = ap (first_or l) is in
    let r = reach_line language more ls t ts n ms tail (λ e. refl) in
    let byte : d.byte ≡ 10 = new_line_byte language progress d.byte (bytes_of rest) piece in
    record {
      before = d ∷ r.before;
      c = r.c;
      cs = r.cs;
      rest = r.rest;
      all = ap (λ xs. d ∷ xs) r.all;
      first = r.first;
      last = r.last;
      first_byte = r.first_byte;
      last_byte = r.last_byte;
      closed = ((λ back all. let clash : 92 ≡ 10 = sym back ∙ byte in cc), r.closed);
      more = r.more;
      lf = λ k others e. ap (λ b. (b == 10) || has_lf (bytes_of r.before)) byte;
      front = λ s w ks is_space walks.
          subst (λ k. Walk language progress space (d ∷ (r.before ++ (s ∷ w))) (k ∷ (ls ++ ks))) head
          (over_end d (r.before ++ (s ∷ w)) (ap (λ b. piece_at language progress (b ∷ bytes_of (r.before ++ (s ∷ w)))) byte)
          (r.front s w ks is_space walks));
    }
reach_line language {progress} {space} (over_token {ls = all} kind d ds rest piece more cells at) (l ∷ ls) t ts n ms is begun =
    let off = token_cons (token_from space kind d ds) all l (ls ++ (line (t ∷ ts) n ∷ ms)) is in
    let r = reach_line language more (off.0 ∷ ls) t ts n ms off.1 (λ e. cc) in
    let after : List Cell = r.c ∷ (r.cs ++ r.rest) in
    let held = r.lf off.0 ls refl in
    let here : piece_at language progress (bytes_of (d ∷ (ds ++ (r.before ++ after)))) ≡ Lexeme kind (length (d ∷ ds)) =
    ap (λ xs. piece_at language progress (bytes_of (d ∷ (ds ++ xs)))) (sym r.all) ∙ piece in
    record {
      before = d ∷ (ds ++ r.before);
      c = r.c;
      cs = r.cs;
      rest = r.rest;
      all = at ∙ ap (λ xs. d ∷ (ds ++ xs)) r.all ∙ ap (λ xs. d ∷ xs) (sym (append_assoc ds r.before after));
      first = r.first;
      last = r.last;
      first_byte = r.first_byte;
      last_byte = r.last_byte;
      closed = cells_closed language (d ∷ ds) r.before (closed_lf language (bytes_of (d ∷ ds)) (bytes_of r.before) held r.closed);
      more = r.more;
      lf = λ k others e. lf_later d ds r.before held;
      front = λ s w ks is_space walks.
          subst (λ k. Walk language progress space (d ∷ ((ds ++ r.before) ++ (s ∷ w))) (k ∷ (ls ++ ks))) (sym off.2)
          (over_token kind d ds (r.before ++ (s ∷ w))
          (same_cells language progress d ds r.before after (s ∷ w) (Lexeme kind (length (d ∷ ds))) held refl (λ e. cc) here)
          (r.front s w ks is_space walks) (d ∷ ((ds ++ r.before) ++ (s ∷ w)))
          (ap (λ xs. d ∷ xs) (append_assoc ds r.before (s ∷ w))));
    }

---- spaces and LFs

abbrev pub AreGone : List Cell → Type 0
AreGone [] = Unit {0}
AreGone (c ∷ cs) = ((c.byte ≡ 32) ⊎ (c.byte ≡ 10)) × AreGone cs

abbrev pub AreEmpty : List TokenLine → Type 0
AreEmpty [] = Unit {0}
AreEmpty (l ∷ ls) = (l ≡ empty_line l.last_line) × AreEmpty ls

-- they give empty lines
walk_gone : (language : Language) (gone rest : List Cell) (ks : List TokenLine) → AreGone gone
    → ((space : Bool) → Walk language AtStart space rest ks)
    → (space : Bool) → (es : List TokenLine) × AreEmpty es × Walk language AtStart space (gone ++ rest) (es ++ ks)
walk_gone language [] rest ks are walks space = ([], tt, walks space)
walk_gone language (c ∷ cs) rest ks (inl blank, are) walks space =
    let r = walk_gone language cs rest ks are walks true in (
      r.0,
      r.1,
      over_gap c [] (cs ++ rest) (ap (λ b. piece_at language AtStart (b ∷ bytes_of (cs ++ rest))) blank) r.2
          (c ∷ (cs ++ rest)) refl,
    )
walk_gone language (c ∷ cs) rest ks (inr lf, are) walks space =
    let r = walk_gone language cs rest ks are walks false in (
      empty_line c.line ∷ r.0,
      (refl, r.1),
      over_end c (cs ++ rest)
          (ap (λ b. piece_at language AtStart (b ∷ bytes_of (cs ++ rest))) lf) r.2,
    )

-- a line of tokens gives way to them
pub walk_blanked : (language : Language) {space : Bool} {cells : List Cell} {ls : List TokenLine} {ts : List Tok} {n : ℕ}
    {ms : List TokenLine}
    → (r : Reached language AtStart AtStart space cells ls ts n ms) → (s : Cell) (gone : List Cell) → s.byte ≡ 32
    → AreGone gone
    → (es : List TokenLine) × AreEmpty es × Walk language AtStart space (r.before ++ (s ∷ (gone ++ r.rest)))
    (ls ++ (es ++ (empty_line n ∷ ms)))
walk_blanked language {n = n} {ms = ms} r s gone is_space are =
    let g = walk_gone language gone r.rest (empty_line n ∷ ms) are
    (λ space. walk_empty language r.more n ms refl AtStart space) true in (
      g.0,
      g.1,
      r.front s (gone ++ r.rest) (g.0 ++ (empty_line n ∷ ms)) is_space
          (λ other. over_gap s [] (gone ++ r.rest) (ap
          (λ b. piece_at language AtStart (b ∷ bytes_of (gone ++ r.rest))) is_space) g.2 (s ∷ (gone ++ r.rest)) refl),
    )
