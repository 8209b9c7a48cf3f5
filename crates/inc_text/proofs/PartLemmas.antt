-- The parts of a text, one piece at a time.
use Rattle.std.proofs.Common.{◌≡◌, ℕ, suc, ◌+◌, ◌-◌, ◌<◌, ◌≤◌, ◌&&◌, not, Bool, true, false, cond, List, [], ◌∷◌, ◌++◌, length, drop, take, get_or, leb, eqb, count_by, All, refl, sym, ap, subst, ◌∙◌, arith, add-zero}
use Rattle.std.proofs.lemmas.Bool.{cond-true, cond-false, lt-leb, le-leb, eq-eqb, eqb-true, ltb-true, lt-ltb, false≢true, and_parts}
use Rattle.std.proofs.lemmas.List.{append_assoc, append-nil, length_push, drop-drop, drop_all, take_more, take_all, length-drop, take_rest, drop_more, take-append-drop}
use Rattle.std.proofs.lemmas.List.Elements.{All-nil, All-head, All-tail, All-push, All-weaker}
use Rattle.std.proofs.lemmas.List.Sums.{count_by-le-length}
use Rattle.std.proofs.lemmas.List.Sorted.{IsNonDecreasingBy-push, IsNonDecreasingBy-short}
use Rattle.inc_text.specs.declared.origins.Origin.{Origin}
use Rattle.inc_text.specs.declared.source_pieces.SourcePiece.TheVariants.{Byte, Splice}
use Rattle.inc_text.specs.PhaseText.{Cell, spliced, with_trigraphs, with_new_lines, phase_text, ended_by, added_new_line}
use Rattle.inc_text.specs.Origins.{origins_with, origins_past, ends_open, IsMapped, plain, origin_from, last_from, width_at, splices_upto, cell_at, cells_at, Fits, OriginsTo, SplicesTo, ReadTo, text_from, open_text, front_byte, front_width, begins_splice, piece_of, mark_len, is_special}
use Rattle.inc_text.proofs.PhaseLemmas.{text_byte, text_splice, text_plain, byte_lines, splice_lines, lf, count_cons, count_append, ended_by_is, without_mark_is, has_mark}
use Rattle.inc_text.specs.declared.devices.TheConstants.{LONGEST_FILE}
use Rattle.inc_text.specs.declared.languages.Language.{Language}

-- one origin more changes nothing before it, and is the last
origin_from-push : (d : Origin) (ms : List Origin) (m : Origin) (i : ℕ) → i < m.at → origin_from d (ms ++ m ∷ []) i ≡ origin_from d ms i
origin_from-push d [] m i h = cond-false _ _ _ (lt-leb m.at i h)
origin_from-push d (x ∷ r) m i h = ap (λ v. cond (leb x.at i) v d) (origin_from-push x r m i h)

origin_from-all : (d : Origin) (ms : List Origin) (i : ℕ) → All (λ (m : Origin). m.at ≤ i) ms → origin_from d ms i ≡ last_from d ms
origin_from-all d [] i h = refl
origin_from-all d (x ∷ r) i h =
    cond-true _ _ _ (le-leb x.at i (All-head (λ (m : Origin). m.at ≤ i) x r h)) ∙ origin_from-all x r i (All-tail (λ (m : Origin). m.at ≤ i) x r h)

last_from-push : (d : Origin) (ms : List Origin) (m : Origin) → last_from d (ms ++ m ∷ []) ≡ m
last_from-push d [] m = refl
last_from-push d (x ∷ r) m = last_from-push x r m

last_from-le : (d : Origin) (ms : List Origin) (i : ℕ) → d.at ≤ i → All (λ (m : Origin). m.at ≤ i) ms → (last_from d ms).at ≤ i
last_from-le d [] i k h = k
last_from-le d (x ∷ r) i k h =
    last_from-le x r i (All-head (λ (m : Origin). m.at ≤ i) x r h) (All-tail (λ (m : Origin). m.at ≤ i) x r h)

splices_upto-push : (ss : List ℕ) (s i : ℕ) → i < s → splices_upto (ss ++ s ∷ []) i ≡ splices_upto ss i
splices_upto-push [] s i h = cond-false _ _ _ (lt-leb s i h)
splices_upto-push (x ∷ r) s i h = ap (λ v. cond (leb x i) (1 + v) 0) (splices_upto-push r s i h)

splices_upto-all : (ss : List ℕ) (i : ℕ) → All (λ (s : ℕ). s ≤ i) ss → splices_upto ss i ≡ length ss
splices_upto-all [] i h = refl
splices_upto-all (x ∷ r) i h =
    cond-true _ _ _ (le-leb x i (All-head (λ (s : ℕ). s ≤ i) x r h)) ∙ (ap (λ n. 1 + n) (splices_upto-all r i (All-tail (λ (s : ℕ). s ≤ i) x r h)) ∙ omega arith)

-- the new-lines of more bytes
count_push : (bytes : List ℕ) (c : ℕ) → count_by lf (bytes ++ c ∷ []) ≡ cond (eqb c 10) 1 0 + count_by lf bytes
count_push bytes c =
    let none : count_by lf [] ≡ 0 = refl in
    omega (arith, count_append bytes (c ∷ []), count_cons c [], none)

-- the cells of more bytes, with one origin more and with one splice more
cells_at-append : (ms : List Origin) (ss : List ℕ) (l i : ℕ) (xs ys : List ℕ)
    → cells_at ms ss l i (xs ++ ys) ≡ cells_at ms ss l i xs ++ cells_at ms ss (count_by lf xs + l) (i + length xs) ys
cells_at-append ms ss l i [] ys =
    let none : count_by lf [] ≡ 0 = refl in
    let same : l ≡ count_by lf [] + l = omega (arith, none) in
    ap (λ p. cells_at ms ss l p ys) (sym (add-zero i)) ∙ ap (λ k. cells_at ms ss k (i + 0) ys) same
cells_at-append ms ss l i (x ∷ xs) ys =
    let e : i + 1 + length xs ≡ i + suc (length xs) = omega arith in
    let next : ℕ = cond (eqb x 10) 1 0 + l in
    let k : count_by lf xs + next ≡ count_by lf (x ∷ xs) + l = omega (arith, count_cons x xs) in
    ap (λ cells. cell_at ms ss l i x ∷ cells)
    (cells_at-append ms ss next (i + 1) xs ys
    ∙ ap (λ p. cells_at ms ss next (i + 1) xs ++ cells_at ms ss (count_by lf xs + next) p ys) e
    ∙ ap (λ n. cells_at ms ss next (i + 1) xs ++ cells_at ms ss n (i + suc (length xs)) ys) k)

abbrev cell_by : Origin → ℕ → ℕ → ℕ → Cell
cell_by origin lines place byte = record {
  byte = byte;
  first = (place + origin.ahead) - width_at origin place;
  last = place + origin.ahead;
  line = 1 + lines;
}

cells_at-origin : (ms : List Origin) (m : Origin) (ss : List ℕ) (l i : ℕ) (bs : List ℕ) → i + length bs ≤ m.at
    → cells_at (ms ++ m ∷ []) ss l i bs ≡ cells_at ms ss l i bs
cells_at-origin ms m ss l i [] h = refl
cells_at-origin ms m ss l i (b ∷ bs) h =
    let next : ℕ = cond (eqb b 10) 1 0 + l in
    ap (λ k. cell_by k (l + splices_upto ss i) i b ∷ cells_at (ms ++ m ∷ []) ss next (i + 1) bs) (origin_from-push plain ms m i (omega arith))
    ∙ ap (λ cells. cell_at ms ss l i b ∷ cells) (cells_at-origin ms m ss next (i + 1) bs (omega arith))

cells_at-splice : (ms : List Origin) (ss : List ℕ) (s l i : ℕ) (bs : List ℕ) → i + length bs ≤ s
    → cells_at ms (ss ++ s ∷ []) l i bs ≡ cells_at ms ss l i bs
cells_at-splice ms ss s l i [] h = refl
cells_at-splice ms ss s l i (b ∷ bs) h =
    let next : ℕ = cond (eqb b 10) 1 0 + l in
    ap (λ k. cell_by (origin_from plain ms i) (l + k) i b ∷ cells_at ms (ss ++ s ∷ []) next (i + 1) bs) (splices_upto-push ss s i (omega arith))
    ∙ ap (λ cells. cell_at ms ss l i b ∷ cells) (cells_at-splice ms ss s next (i + 1) bs (omega arith))

-- what stays known of origins when a byte comes, plainly or with an origin, and when source bytes are skipped
below_push : (ms : List Origin) (n : ℕ) → All (λ (m : Origin). m.at ≤ n) ms → (d : Origin) → 0 < length ms → (get_or ms (length ms - 1) d).at ≤ n
below_push ms n h d some = h (length ms - 1) d (omega arith)

origins_next : (ms : List Origin) (n at : ℕ) → OriginsTo ms n at → OriginsTo ms (n + 1) (at + 1)
origins_next ms n at h = record {
  rise = h.rise;
  fits = h.fits;
  within = All-weaker (λ (m : Origin). m.at ≤ n) (λ (m : Origin). m.at ≤ n + 1) (λ m k. omega arith) ms h.within;
  ahead = omega (arith, h.ahead);
  fresh = λ e. absurd (omega (arith, last_from-le plain ms n (omega arith) h.within));
}

origins_wide : (ms : List Origin) (n at w : ℕ) → OriginsTo ms n at → n ≤ at → 0 < at + w → at + w ≤ LONGEST_FILE → OriginsTo (ms ++ record { at = n; ahead = at + w - n; width = w } ∷ []) (n + 1) (at + w)
origins_wide ms n at w h within some short =
    let m : Origin = record { at = n; ahead = at + w - n; width = w } in
    let fit : Fits m = record { ahead = omega arith; width = omega arith; before = omega arith } in
    let last : last_from plain (ms ++ m ∷ []) ≡ m = last_from-push plain ms m in
    record {
      rise = IsNonDecreasingBy-push (λ (k : Origin). k.at) ms m h.rise (below_push ms n h.within);
      fits = All-push Fits ms m h.fits fit;
      within = All-push (λ (k : Origin). k.at ≤ n + 1) ms m (All-weaker (λ (k : Origin). k.at ≤ n) (λ (k : Origin). k.at ≤ n + 1) (λ k le. omega arith) ms h.within) (omega arith);
      ahead = rw last (omega arith);
      fresh = rw last (λ e. absurd (omega arith));
    }

pub origins_skip : (ms : List Origin) (n at w : ℕ) → OriginsTo ms n at → n ≤ at → at + w ≤ LONGEST_FILE → OriginsTo (ms ++ record { at = n; ahead = at + w + 1 - n; width = 1 } ∷ []) n (at + w)
origins_skip ms n at w h within short =
    let m : Origin = record { at = n; ahead = at + w + 1 - n; width = 1 } in
    let fit : Fits m = record { ahead = omega arith; width = omega arith; before = omega arith } in
    let last : last_from plain (ms ++ m ∷ []) ≡ m = last_from-push plain ms m in
    record {
      rise = IsNonDecreasingBy-push (λ (k : Origin). k.at) ms m h.rise (below_push ms n h.within);
      fits = All-push Fits ms m h.fits fit;
      within = All-push (λ (k : Origin). k.at ≤ n) ms m h.within (omega arith);
      ahead = rw last (omega arith);
      fresh = rw last (λ e. refl);
    }

splices_next : (ss : List ℕ) (n : ℕ) → SplicesTo ss n → SplicesTo ss (n + 1)
splices_next ss n h = record {
  rise = h.rise;
  within = All-weaker (λ (s : ℕ). s ≤ n) (λ (s : ℕ). s ≤ n + 1) (λ s le. omega arith) ss h.within;
}

splices_push : (ss : List ℕ) (n : ℕ) → SplicesTo ss n → SplicesTo (ss ++ n ∷ []) n
splices_push ss n h = record {
  rise = IsNonDecreasingBy-push (λ (k : ℕ). k) ss n h.rise (λ d p. omega (arith, h.within (length ss - 1) d (omega arith)));
  within = All-push (λ (k : ℕ). k ≤ n) ss n h.within (omega arith);
}

-- the cell of a new byte
cell_is : (ms : List Origin) (ss : List ℕ) (l p at w c k : ℕ) (m : Origin) → origin_from plain ms p ≡ m → splices_upto ss p ≡ k → width_at m p ≡ w → p + m.ahead ≡ at + w
    → cell_at ms ss l p c ≡ record { byte = c; first = at; last = at + w; line = 1 + (l + k) }
cell_is ms ss l p at w c k m origin lines width ahead =
    let F : ℕ → ℕ → ℕ → Cell = λ last wide n. record { byte = c; first = last - wide; last = last; line = 1 + (l + n) } in
    let e : at + w - w ≡ at = omega arith in
    ap (λ x. cell_by x (l + splices_upto ss p) p c) origin
    ∙ ap (λ x. F (p + m.ahead) (width_at m p) x) lines ∙ ap (λ x. F (p + m.ahead) x k) width ∙ ap (λ x. F x w k) ahead
    ∙ ap (λ x. record { byte = c; first = x; last = at + w; line = 1 + (l + k) }) e

width_fresh : (m : Origin) (p : ℕ) (t : Bool) → eqb p m.at ≡ t → (m.at ≡ p → m.width ≡ 1) → cond t m.width 1 ≡ 1
width_fresh m p true h f = f (sym (eqb-true p m.at h))
width_fresh m p false h f = refl

-- how many new-lines are before the end of a text
abbrev lines_in : List ℕ → List ℕ → ℕ
lines_in ss bytes = count_by lf bytes + length ss

abbrev with_cell : List Origin → List ℕ → List ℕ → ℕ → ℕ → ℕ → List Cell
with_cell ms ss bytes c at w = cells_at ms ss 0 0 bytes ++ record { byte = c; first = at; last = at + w; line = 1 + lines_in ss bytes } ∷ []

cells_plain : (ms : List Origin) (ss bytes : List ℕ) (n at c : ℕ) → length bytes ≡ n → OriginsTo ms n at → SplicesTo ss n
    → cells_at ms ss 0 0 (bytes ++ c ∷ []) ≡ with_cell ms ss bytes c at 1
cells_plain ms ss bytes n at c e h k =
    let z : 0 + length bytes ≡ n = omega arith in
    let l : count_by lf bytes + 0 ≡ count_by lf bytes = omega arith in
    let m : Origin = last_from plain ms in
    cells_at-append ms ss 0 0 bytes (c ∷ [])
    ∙ ap (λ x. cells_at ms ss 0 0 bytes ++ x ∷ [])
    (ap (λ p. cell_at ms ss (count_by lf bytes + 0) p c) z ∙ ap (λ q. cell_at ms ss q n c) l
    ∙ cell_is ms ss (count_by lf bytes) n at 1 c (length ss) m (origin_from-all plain ms n h.within) (splices_upto-all ss n k.within) (width_fresh m n _ refl h.fresh) (sym h.ahead))

cells_wide : (ms : List Origin) (ss bytes : List ℕ) (n at w c : ℕ) → length bytes ≡ n → OriginsTo ms n at → SplicesTo ss n → n ≤ at
    → cells_at (ms ++ record { at = n; ahead = at + w - n; width = w } ∷ []) ss 0 0 (bytes ++ c ∷ []) ≡ with_cell ms ss bytes c at w
cells_wide ms ss bytes n at w c e h k le =
    let z : 0 + length bytes ≡ n = omega arith in
    let l : count_by lf bytes + 0 ≡ count_by lf bytes = omega arith in
    let m : Origin = record { at = n; ahead = at + w - n; width = w } in
    let all : All (λ (x : Origin). x.at ≤ n) (ms ++ m ∷ []) = All-push (λ (x : Origin). x.at ≤ n) ms m h.within (omega arith) in
    let same : cells_at (ms ++ m ∷ []) ss 0 0 bytes ≡ cells_at ms ss 0 0 bytes = cells_at-origin ms m ss 0 0 bytes (omega arith) in
    cells_at-append (ms ++ m ∷ []) ss 0 0 bytes (c ∷ [])
    ∙ ap (λ cells. cells ++ cell_at (ms ++ m ∷ []) ss (count_by lf bytes + 0) (0 + length bytes) c ∷ []) same
    ∙ ap (λ x. cells_at ms ss 0 0 bytes ++ x ∷ [])
    (ap (λ p. cell_at (ms ++ m ∷ []) ss (count_by lf bytes + 0) p c) z ∙ ap (λ q. cell_at (ms ++ m ∷ []) ss q n c) l
    ∙ cell_is (ms ++ m ∷ []) ss (count_by lf bytes) n at w c (length ss) m (origin_from-all plain (ms ++ m ∷ []) n all ∙ last_from-push plain ms m) (splices_upto-all ss n k.within) (cond-true _ _ _ (eq-eqb n n refl)) (omega arith))

origins_with-to : (ms : List Origin) (n at w : ℕ) (t : Bool) → eqb w 1 ≡ t → OriginsTo ms n at → n ≤ at → 0 < at + w → at + w ≤ LONGEST_FILE → OriginsTo (cond t ms (ms ++ record { at = n; ahead = at + w - n; width = w } ∷ [])) (n + 1) (at + w)
origins_with-to ms n at w true e h le some short = rw (eqb-true w 1 e) (origins_next ms n at h)
origins_with-to ms n at w false e h le some short = origins_wide ms n at w h le some short

cells_with : (ms : List Origin) (ss bytes : List ℕ) (n at w c : ℕ) (t : Bool) → eqb w 1 ≡ t → length bytes ≡ n → OriginsTo ms n at → SplicesTo ss n → n ≤ at → cells_at (cond t ms (ms ++ record { at = n; ahead = at + w - n; width = w } ∷ [])) ss 0 0 (bytes ++ c ∷ []) ≡ with_cell ms ss bytes c at w
cells_with ms ss bytes n at w c true e l h k le = rw (eqb-true w 1 e) (cells_plain ms ss bytes n at c l h k)
cells_with ms ss bytes n at w c false e l h k le = cells_wide ms ss bytes n at w c l h k le

next_line : (l : ℕ) (t : Bool) → cond t (1 + l + 1) (1 + l) ≡ 1 + (cond t 1 0 + l)
next_line l true = omega arith
next_line l false = omega arith

-- a byte of the text, where the source goes on with it
byte_comes : (language : Language) (source : List ℕ) (ms : List Origin) (ss bytes : List ℕ) (at c w : ℕ) (rest : List ℕ) → ReadTo language source ms ss bytes at → drop at source ≡ rest → 0 < w → at + w ≤ length source → ((line : ℕ) → text_from language at line rest ≡ record { byte = c; first = at; last = at + w; line = line } ∷ text_from language (at + w) (cond (eqb c 10) (line + 1) line) (drop w rest)) → count_by lf rest ≡ cond (eqb c 10) 1 0 + count_by lf (drop w rest) → ReadTo language source (origins_with ms (length bytes) at w) ss (bytes ++ c ∷ []) (at + w)
byte_comes language source ms ss bytes at c w rest h is some bound gives counts =
    let n : ℕ = length bytes in
    let ms' : List Origin = origins_with ms n at w in
    let fewer : n ≤ at = h.fewer in
    let small : at + w ≤ LONGEST_FILE = omega (arith, h.short, bound) in
    let longer : length (bytes ++ c ∷ []) ≡ n + 1 = length_push bytes c in
    let behind : drop w rest ≡ drop (at + w) source = ap (drop w) (sym is) ∙ drop-drop w at source in
    let lines : ℕ = lines_in ss bytes in
    let lines' : ℕ = lines_in ss (bytes ++ c ∷ []) in
    let grown : lines' ≡ cond (eqb c 10) 1 0 + lines = omega (arith, count_push bytes c) in
    let cells : cells_at ms' ss 0 0 (bytes ++ c ∷ []) ≡ with_cell ms ss bytes c at w = cells_with ms ss bytes n at w c _ refl refl h.origins_to h.splices_to fewer in
    let line : ℕ = 1 + lines in
    let cell : Cell = record { byte = c; first = at; last = at + w; line = line } in
    let before : List Cell = cells_at ms ss 0 0 bytes in
    let now : List Cell = text_from language (at + w) (1 + lines') (drop (at + w) source) in
    let lines_on : cond {A = ℕ} (eqb c 10) (line + 1) line ≡ 1 + lines' = next_line lines (eqb c 10) ∙ ap (λ x. 1 + x) (sym grown) in
    let goes : text_from language at line (drop at source) ≡ cell ∷ now = ap (text_from language at line) is ∙ (gives line ∙ (ap (λ x. cell ∷ text_from language (at + w) x (drop w rest)) lines_on ∙ ap (λ r. cell ∷ text_from language (at + w) (1 + lines') r) behind)) in
    let all_now : count_by lf (drop at source) ≡ cond (eqb c 10) 1 0 + count_by lf (drop (at + w) source) = ap (count_by lf) is ∙ (counts ∙ ap (λ r. cond (eqb c 10) 1 0 + count_by lf r) behind) in
    let all_before : lines + count_by lf (drop at source) ≡ count_by lf source = h.lines in
    record {
      origins_to = rw longer (origins_with-to ms n at w _ refl h.origins_to fewer (omega arith) small);
      splices_to = rw longer (splices_next ss n h.splices_to);
      text = ap (λ l. l ++ now) cells ∙ (append_assoc before (cell ∷ []) now ∙ (ap (λ r. before ++ r) (sym goes) ∙ h.text));
      lines = omega arith;
      fewer = omega arith;
      bound = bound;
      short = h.short;
    }

pub byte_read : (language : Language) (source : List ℕ) (ms : List Origin) (ss bytes : List ℕ) (at b : ℕ) (bs : List ℕ) → ReadTo language source ms ss bytes at → drop at source ≡ b ∷ bs → begins_splice language (b ∷ bs) ≡ false → 0 < front_width language (b ∷ bs) → at + front_width language (b ∷ bs) ≤ length source → ReadTo language source (origins_with ms (length bytes) at (front_width language (b ∷ bs))) ss (bytes ++ front_byte language (b ∷ bs) ∷ []) (at + front_width language (b ∷ bs))
byte_read language source ms ss bytes at b bs h rest plainly some bound =
    byte_comes language source ms ss bytes at (front_byte language (b ∷ bs)) (front_width language (b ∷ bs)) (b ∷ bs) h rest some bound (λ line. text_byte language at line b bs plainly) (byte_lines language b bs)

-- a splice
pub splice_read : (language : Language) (source : List ℕ) (ms : List Origin) (ss bytes : List ℕ) (at w : ℕ) (rest : List ℕ) → ReadTo language source ms ss bytes at → drop at source ≡ rest → 0 < w → at + w ≤ length source → ((line : ℕ) → text_from language at line rest ≡ text_from language (at + w) (line + 1) (drop w rest)) → count_by lf rest ≡ 1 + count_by lf (drop w rest) → ReadTo language source (origins_past ms (length bytes) at w) (ss ++ length bytes ∷ []) bytes (at + w)
splice_read language source ms ss bytes at w rest h is some bound gives counts =
    let n : ℕ = length bytes in
    let fewer : n ≤ at = h.fewer in
    let small : at + w ≤ LONGEST_FILE = omega (arith, h.short, bound) in
    let m : Origin = record { at = n; ahead = at + w + 1 - n; width = 1 } in
    let behind : drop w rest ≡ drop (at + w) source = ap (drop w) (sym is) ∙ drop-drop w at source in
    let lines : ℕ = lines_in ss bytes in
    let lines' : ℕ = lines_in (ss ++ n ∷ []) bytes in
    let grown : lines' ≡ lines + 1 = omega (arith, length_push ss n) in
    let line : ℕ = 1 + lines in
    let lines_on : line + 1 ≡ 1 + lines' = omega arith in
    let cells : cells_at (ms ++ m ∷ []) (ss ++ n ∷ []) 0 0 bytes ≡ cells_at ms ss 0 0 bytes = cells_at-splice (ms ++ m ∷ []) ss n 0 0 bytes (omega arith) ∙ cells_at-origin ms m ss 0 0 bytes (omega arith) in
    let now : List Cell = text_from language (at + w) (1 + lines') (drop (at + w) source) in
    let goes : text_from language at line (drop at source) ≡ now = ap (text_from language at line) is ∙ (gives line ∙ (ap (λ x. text_from language (at + w) x (drop w rest)) lines_on ∙ ap (text_from language (at + w) (1 + lines')) behind)) in
    let all_now : count_by lf (drop at source) ≡ 1 + count_by lf (drop (at + w) source) = ap (count_by lf) is ∙ (counts ∙ ap (λ r. 1 + count_by lf r) behind) in
    let all_before : lines + count_by lf (drop at source) ≡ count_by lf source = h.lines in
    record {
      origins_to = origins_skip ms n at w h.origins_to fewer small;
      splices_to = splices_push ss n h.splices_to;
      text = ap (λ l. l ++ now) cells ∙ (ap (λ r. cells_at ms ss 0 0 bytes ++ r) (sym goes) ∙ h.text);
      lines = omega arith;
      fewer = omega arith;
      bound = bound;
      short = h.short;
    }

-- bytes that begin no sequence
pub room_from : (source : List ℕ) (at x : ℕ) (r : List ℕ) → drop at source ≡ x ∷ r → at + 1 ≤ length source
room_from source at x r is = omega (arith, simp length-drop at (ap length is))

pub run_read : (language : Language) (source : List ℕ) (ms : List Origin) (ss bytes : List ℕ) (at : ℕ) (xs ys : List ℕ) → ReadTo language source ms ss bytes at → drop at source ≡ xs ++ ys
    → All (λ b. is_special b ≡ false) xs → ReadTo language source ms ss (bytes ++ xs) (at + length xs)
run_read language source ms ss bytes at [] ys h is all = rw (append-nil bytes, add-zero at) h
run_read language source ms ss bytes at (x ∷ xs) ys h is all =
    let one : ReadTo language source ms ss (bytes ++ x ∷ []) (at + 1) = byte_comes language source ms ss bytes at x 1 (x ∷ (xs ++ ys)) h is (omega arith) (room_from source at x (xs ++ ys) is) (λ line. text_plain language at line x (xs ++ ys) (All-head (λ b. is_special b ≡ false) x xs all)) (count_cons x (xs ++ ys)) in
    let behind : drop (at + 1) source ≡ xs ++ ys = sym (drop-drop 1 at source) ∙ ap (drop 1) is in
    let rest : ReadTo language source ms ss ((bytes ++ x ∷ []) ++ xs) (at + 1 + length xs) = run_read language source ms ss (bytes ++ x ∷ []) (at + 1) xs ys one behind (All-tail (λ b. is_special b ≡ false) x xs all) in
    let P : ℕ → Type 0 = λ p. ReadTo language source ms ss (bytes ++ x ∷ xs) p in
    let Q : List ℕ → Type 0 = λ l. ReadTo language source ms ss l (at + 1 + length xs) in
    let e : at + 1 + length xs ≡ at + suc (length xs) = omega arith in
    subst P e (subst Q (append_assoc bytes (x ∷ []) xs) rest)

-- the parts of a whole text
snoc : (bs : List ℕ) → 0 < length bs → take (length bs - 1) bs ++ get_or bs (length bs - 1) 0 ∷ [] ≡ bs
snoc bs h =
    let e : length bs - 1 + 1 ≡ length bs = omega arith in
    sym (take_more bs (length bs - 1) 0 (omega arith)) ∙ (ap (λ n. take n bs) e ∙ take_all (length bs) bs (omega arith))

flip : (u t : Bool) (x y : List Cell) → not u ≡ t → cond u x y ≡ cond t y x
flip true t x y h = ap (λ v. cond v y x) h
flip false t x y h = ap (λ v. cond v y x) h

ended : (end : Cell) (ms : List Origin) (ss bytes : List ℕ) (t : Bool) → ends_open bytes ≡ t → ended_by end (cells_at ms ss 0 0 bytes) ≡ cond t (cells_at ms ss 0 0 bytes ++ end ∷ []) (cells_at ms ss 0 0 bytes)
ended end ms ss [] true h = absurd (false≢true h)
ended end ms ss [] false h = refl
ended end ms ss (b ∷ bs) t h =
    let bytes : List ℕ = b ∷ bs in
    let some : 0 < length bytes = omega arith in
    let last : ℕ = get_or bytes (length bytes - 1) 0 in
    let front : List ℕ = take (length bytes - 1) bytes in
    let before : List Cell = cells_at ms ss 0 0 front in
    let c : Cell = cell_at ms ss (count_by lf front + 0) (0 + length front) last in
    let split : cells_at ms ss 0 0 bytes ≡ before ++ c ∷ [] = ap (cells_at ms ss 0 0) (sym (snoc bytes some)) ∙ cells_at-append ms ss 0 0 front (last ∷ []) in
    let says : not (eqb last 10) ≡ t = ap (λ u. u && not (eqb last 10)) (sym (lt-ltb 0 (length bytes) some)) ∙ h in
    ap (ended_by end) split ∙ (ended_by_is end before c ∙ (flip (eqb last 10) t _ _ says ∙ ap (λ l. cond t (l ++ end ∷ []) l) (sym split)))

whole_text : (language : Language) (source : List ℕ) (ms : List Origin) (ss bytes : List ℕ) → ReadTo language source ms ss bytes (length source) → cells_at ms ss 0 0 bytes ≡ open_text language source
whole_text language source ms ss bytes h =
    let none : text_from language (length source) (1 + lines_in ss bytes) (drop (length source) source) ≡ [] = ap (text_from language (length source) (1 + lines_in ss bytes)) (drop_all (length source) source (omega arith)) in
    sym (append-nil _) ∙ (ap (λ r. cells_at ms ss 0 0 bytes ++ r) (sym none) ∙ h.text)

pub parts_end : (language : Language) (source : List ℕ) (ms : List Origin) (ss bytes : List ℕ) → ReadTo language source ms ss bytes (length source) → ends_open bytes ≡ false
    → (cells_at ms ss 0 0 bytes ≡ phase_text language source) × IsMapped ms ss bytes
parts_end language source ms ss bytes h is = (
  sym (ended (added_new_line source) ms ss bytes false is) ∙ ap (ended_by (added_new_line source)) (whole_text language source ms ss bytes h),
  record {
    order = record { origins_rise = h.origins_to.rise; splices_rise = h.splices_to.rise; fits = h.origins_to.fits };
    short = omega (arith, h.fewer, h.short);
    few = omega (arith, h.lines, h.short, count_by-le-length lf source);
  },
)

pub parts_open : (language : Language) (source : List ℕ) (ms : List Origin) (ss bytes : List ℕ) → ReadTo language source ms ss bytes (length source) → ends_open bytes ≡ true
    → (cells_at (origins_with ms (length bytes) (length source) 0) ss 0 0 (bytes ++ 10 ∷ []) ≡ phase_text language source) × IsMapped (origins_with ms (length bytes) (length source) 0) ss (bytes ++ 10 ∷ [])
parts_open language source ms ss bytes h is =
    let n : ℕ = length bytes in
    let at : ℕ = length source in
    let all_lines : lines_in ss bytes + count_by lf (drop at source) ≡ count_by lf source = h.lines in
    let none : count_by lf (drop at source) ≡ 0 = ap (count_by lf) (drop_all at source (omega arith)) in
    let fewer : n ≤ at = h.fewer in
    let short : at ≤ LONGEST_FILE = h.short in
    let some : 0 < n = ltb-true 0 n ((and_parts _ _ is).0) in
    let k : at + 0 ≡ at = add-zero at in
    let line : 1 + lines_in ss bytes ≡ 1 + count_by lf source = omega arith in
    let origins : OriginsTo (origins_with ms n at 0) (n + 1) (at + 0) = origins_with-to ms n at 0 _ refl h.origins_to fewer (omega arith) (omega arith) in
    let cells : cells_at (origins_with ms n at 0) ss 0 0 (bytes ++ 10 ∷ []) ≡ with_cell ms ss bytes 10 at 0 = cells_with ms ss bytes n at 0 10 _ refl refl h.origins_to h.splices_to fewer in
    let end : with_cell ms ss bytes 10 at 0 ≡ cells_at ms ss 0 0 bytes ++ added_new_line source ∷ [] = ap (λ p. cells_at ms ss 0 0 bytes ++ record { byte = 10; first = at; last = p; line = 1 + lines_in ss bytes } ∷ []) k ∙ ap (λ l. cells_at ms ss 0 0 bytes ++ record { byte = 10; first = at; last = at; line = l } ∷ []) line in (
      cells ∙ (end ∙ (sym (ended (added_new_line source) ms ss bytes true is) ∙ ap (ended_by (added_new_line source)) (whole_text language source ms ss bytes h))),
      record {
        order = record { origins_rise = origins.rise; splices_rise = h.splices_to.rise; fits = origins.fits };
        short = omega (arith, length_push bytes 10);
        few = omega (arith, all_lines, count_push bytes 10, count_by-le-length lf source);
      },
    )

-- In the code `&xs[at..]` is `take (length xs - at) (drop at xs)`.
-- a run of bytes that stand for themselves
pub run_taken : (language : Language) (source : List ℕ) (ms : List Origin) (ss bytes : List ℕ) (at n : ℕ) → ReadTo language source ms ss bytes at → All (λ b. is_special b ≡ false) (take n (take (length source - at) (drop at source))) → ReadTo language source ms ss (bytes ++ take n (take (length source - at) (drop at source))) (at + length (take n (take (length source - at) (drop at source))))
run_taken language source ms ss bytes at n h all =
    let hay : List ℕ = take (length source - at) (drop at source) in
    run_read language source ms ss bytes at (take n hay) (drop n hay) h (sym (take_rest source at) ∙ sym (take-append-drop n hay)) all

-- a piece
byte_is : (t : Bool) (s d v c w : ℕ) → Byte c w ≡ cond t (Splice s) (Byte d v) → (t ≡ false) × (c ≡ d) × (w ≡ v)
byte_is true s d v c w e = absurd (cc)
byte_is false s d v c w e = (refl, cc, cc)

splice_is : (t : Bool) (s d v w : ℕ) → Splice w ≡ cond t (Splice s) (Byte d v) → (t ≡ true) × (w ≡ s)
splice_is true s d v w e = (refl, cc)
splice_is false s d v w e = absurd (cc)

pub byte_taken : (language : Language) (source : List ℕ) (ms : List Origin) (ss bytes : List ℕ) (at c w : ℕ) → ReadTo language source ms ss bytes at → at < length source → Byte c w ≡ piece_of language (take (length source - at) (drop at source)) → 0 < w → w ≤ length (take (length source - at) (drop at source)) → ReadTo language source (origins_with ms (length bytes) at w) ss (bytes ++ c ∷ []) (at + w)
byte_taken language source ms ss bytes at c w h lt is some fits =
    let b : ℕ = get_or source at 0 in
    let bs : List ℕ = drop (at + 1) source in
    let rest : drop at source ≡ b ∷ bs = drop_more source at 0 lt in
    let both : take (length source - at) (drop at source) ≡ b ∷ bs = take_rest source at ∙ rest in
    let size : length (take (length source - at) (drop at source)) ≡ length source - at = ap length (take_rest source at) ∙ length-drop at source in
    let p = byte_is (begins_splice language (b ∷ bs)) _ _ _ c w (is ∙ ap (piece_of language) both) in
    byte_comes language source ms ss bytes at c w (b ∷ bs) h rest some (omega arith) (rw (p.1, p.2) (λ line. text_byte language at line b bs p.0)) (rw (p.1, p.2) (byte_lines language b bs))

pub splice_taken : (language : Language) (source : List ℕ) (ms : List Origin) (ss bytes : List ℕ) (at w : ℕ) → ReadTo language source ms ss bytes at → at < length source → Splice w ≡ piece_of language (take (length source - at) (drop at source)) → 0 < w → w ≤ length (take (length source - at) (drop at source)) → ReadTo language source (origins_past ms (length bytes) at w) (ss ++ length bytes ∷ []) bytes (at + w)
splice_taken language source ms ss bytes at w h lt is some fits =
    let b : ℕ = get_or source at 0 in
    let bs : List ℕ = drop (at + 1) source in
    let rest : drop at source ≡ b ∷ bs = drop_more source at 0 lt in
    let both : take (length source - at) (drop at source) ≡ b ∷ bs = take_rest source at ∙ rest in
    let size : length (take (length source - at) (drop at source)) ≡ length source - at = ap length (take_rest source at) ∙ length-drop at source in
    let p = splice_is (begins_splice language (b ∷ bs)) _ _ _ w (is ∙ ap (piece_of language) both) in
    splice_read language source ms ss bytes at w (b ∷ bs) h rest some (omega arith) (rw (p.1) (λ line. text_splice language at line b bs p.0)) (rw (p.1) (splice_lines language b bs p.0))

-- the start, after the byte order mark where there is one
origins_none : OriginsTo [] 0 0
origins_none = record {
  rise = IsNonDecreasingBy-short (λ (m : Origin). m.at) [] (omega arith);
  fits = All-nil Fits;
  within = All-nil (λ (m : Origin). m.at ≤ 0);
  ahead = refl;
  fresh = λ _. refl;
}

splices_none : SplicesTo [] 0
splices_none = record {
  rise = IsNonDecreasingBy-short (λ (s : ℕ). s) [] (omega arith);
  within = All-nil (λ (s : ℕ). s ≤ 0);
}

no_mark : (t : Bool) → cond {A = ℕ} t 3 0 ≡ 0 → t ≡ false
no_mark true e = absurd (omega arith)
no_mark false e = refl

some_mark : (t : Bool) (n : ℕ) → n ≡ cond {A = ℕ} t 3 0 → 0 < n → (t ≡ true) × (n ≡ 3)
some_mark true n e some = (refl, e)
some_mark false n e some = absurd (omega arith)

pub start_plain : (language : Language) (source : List ℕ) → mark_len source ≡ 0 → length source ≤ LONGEST_FILE → ReadTo language source [] [] [] 0
start_plain language source none short = record {
  origins_to = origins_none;
  splices_to = splices_none;
  text = ap (λ l. spliced language (with_trigraphs language (with_new_lines l))) (sym (without_mark_is source ∙ cond-false _ _ _ (no_mark _ none)));
  lines = (let none : count_by lf [] ≡ 0 = refl in omega (arith, none));
  fewer = omega arith;
  bound = omega arith;
  short = short;
}

past_mark : (source : List ℕ) → has_mark source ≡ true → (count_by lf (drop 3 source) ≡ count_by lf source) × (3 ≤ length source)
past_mark [] h = absurd (false≢true h)
past_mark (a ∷ []) h = absurd (false≢true ((and_parts _ _ ((and_parts _ _ h).0)).1))
past_mark (a ∷ b ∷ []) h = absurd (false≢true ((and_parts _ _ h).1))
past_mark (a ∷ b ∷ c ∷ r) h =
    let p = and_parts (eqb a 0xef && eqb b 0xbb) (eqb c 0xbf) h in
    let q = and_parts (eqb a 0xef) (eqb b 0xbb) p.0 in
    let x : count_by lf (a ∷ b ∷ c ∷ r) ≡ 0 + count_by lf (b ∷ c ∷ r) = count_cons a (b ∷ c ∷ r) ∙ ap (λ v. cond (eqb v 10) 1 0 + count_by lf (b ∷ c ∷ r)) (eqb-true a 0xef q.0) in
    let y : count_by lf (b ∷ c ∷ r) ≡ 0 + count_by lf (c ∷ r) = count_cons b (c ∷ r) ∙ ap (λ v. cond (eqb v 10) 1 0 + count_by lf (c ∷ r)) (eqb-true b 0xbb q.1) in
    let z : count_by lf (c ∷ r) ≡ 0 + count_by lf r = count_cons c r ∙ ap (λ v. cond (eqb v 10) 1 0 + count_by lf r) (eqb-true c 0xbf p.1) in
    (omega arith, omega arith)

pub start_marked : (language : Language) (source : List ℕ) (n : ℕ) → n ≡ mark_len source → 0 < n → length source ≤ LONGEST_FILE → ReadTo language source (origins_past [] 0 0 n) [] [] n
start_marked language source n is some short =
    let p = some_mark (has_mark source) n is some in
    let past = past_mark source p.0 in
    let P : ℕ → Type 0 = λ w. ReadTo language source (origins_past [] 0 0 w) [] [] w in
    subst P (sym p.1) (record {
      origins_to = origins_skip [] 0 0 3 origins_none (omega arith) (omega arith);
      splices_to = splices_none;
      text = ap (λ l. spliced language (with_trigraphs language (with_new_lines l))) (sym (without_mark_is source ∙ cond-true _ _ _ p.0));
      lines = (let none : count_by lf [] ≡ 0 = refl in omega (arith, none, past.0));
      fewer = omega arith;
      bound = past.1;
      short = short;
    })
