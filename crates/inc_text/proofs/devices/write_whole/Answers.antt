use Rattle.std.proofs.Common.{◌+◌, ℕ, List, Option, Some, None, take, drop, ◌++◌, ◌∙◌, ap, append_assoc, rules}
use Rattle.std.proofs.lemmas.List.{take_rest}
use Rattle.std.proofs.Math.Seq.{take-add}
use Rattle.std.specs.Io.KnownBytes.{Appends}
use Rattle.inc_text.proofs.devices.write_whole.Goals as goal

-- one more piece is written
Appends-more : (a b d : Option (List ℕ)) (n m : ℕ) (text : List ℕ) → Appends a b (take n text) → Appends b d (take m (drop n text)) → Appends a d (take (n + m) text)
Appends-more None b d n m text h k = tt
Appends-more (Some xs) None d n m text h k = absurd h
Appends-more (Some xs) (Some ys) None n m text h k = absurd k
Appends-more (Some xs) (Some ys) (Some zs) n m text h k =
    rw (take-add n m text) (k ∙ ap (λ (l : List ℕ). l ++ take m (drop n text)) h ∙ append_assoc xs (take n text) (take m (drop n text)))

pub loop-done-preserved : goal.loop-done-preserved
loop-done-preserved g c = record {
  within = search rules;
  written = Appends-more _ _ _ c.loop-done.done c.in_ok-done.field-0 c.args.text.now c.loop-done.invariant.written (rw take_rest at c.in_ok-done.ensures.bytes);
  sound = search rules;
}
