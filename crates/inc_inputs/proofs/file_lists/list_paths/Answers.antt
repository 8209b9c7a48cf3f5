use Rattle.std.proofs.Common.{◌≡◌, ◌+◌, ◌-◌, ◌<◌, length, drop, ℕ, refl, sym, arith}
use Rattle.std.proofs.lemmas.List.{take_rest, drop-drop, length-drop}
use Rattle.std.proofs.lemmas.Grind.{common_steps}
use Rattle.inc_inputs.proofs.ListLemmas.{first_piece, last_piece}
use Rattle.inc_inputs.proofs.file_lists.list_paths.Goals as goal

taken : (at length : ℕ) → at + length - at ≡ length
taken at length = omega arith

pub loop-length-preserved : goal.loop-length-preserved
loop-length-preserved c =
    let list = c.args.list.now in
    let at = c.loop-length.at in
    let n = c.in-Some.length in
    let piece = first_piece c.args.end (drop at list) n (sym (rw (take_rest, c.end_byte.ensures) at c.in-Some.ensures)) in
    let low : n < length list - at = rw length-drop at piece.1 in
    record {
      within = omega (arith, low);
      paths = rw (c.loop-length.invariant.paths, piece.0, c.in_ok-push_path.ensures, c.piece_of.ensures, taken at n, drop-drop (n + 1) at list) (grind (arith, common_steps));
    }

pub returns : goal.returns
returns c = rw (c.loop-length.invariant.paths, last_piece c.args.end (drop c.loop-length.at c.args.list.now) (sym (rw (take_rest, c.end_byte.ensures) at c.in_default.ensures)), c.in_ok-push_path-2.ensures, take_rest) refl
