use Rattle.std.proofs.Common.{◌∙◌, ap, drop}
use Rattle.std.proofs.lemmas.List.{take_rest}
use Rattle.inc_inputs.proofs.place_words.unspaced.Goals as goal

pub returns : goal.returns
returns c = take_rest c.args.text.now c.space_len.result ∙ ap (λ n. drop n c.args.text.now) c.space_len.ensures.is
