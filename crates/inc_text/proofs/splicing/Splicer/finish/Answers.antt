use Rattle.std.proofs.Common.{◌≡◌, true, false, length, take, ◌∙◌, ap, sym, rules}
use Rattle.inc_text.specs.Origins.{ends_open}
use Rattle.inc_text.proofs.SpliceLemmas.{spliced_open, spliced_end}
use Rattle.inc_text.proofs.splicing.Splicer.finish.Goals.{then-ends_open+in_ok-push+in_ok-push-2, else-ends_open}
use Rattle.inc_text.proofs.splicing.Splicer.finish.Goals as goal

pub returns-clause-text : goal.returns-clause-text
returns-clause-text c language source h =
    let text : c.deref.result.now ≡ take c.args.self.len c.args.self.bytes.items = c.deref.ensures.value ∙ c.truncate.ensures.items in
    let size : c.len-source_len.result ≡ length c.args.self.bytes.items = search rules in
    elim c.if-ends_open.branch [
      | then-ends_open+in_ok-push+in_ok-push-2 w ↦
          let is : ends_open (take c.args.self.len c.args.self.bytes.items) ≡ true = ap ends_open (sym text) ∙ (sym c.ends_open.ensures ∙ w.if-ends_open.true) in
          rw (w.bytes-is, w.origins-is, w.in_ok-push-2.ensures.items, w.in_ok-push.ensures.items, c.truncate.ensures.items, size) ((spliced_open language source _ _ _ _ h is).0)
      | else-ends_open w ↦
          let is : ends_open (take c.args.self.len c.args.self.bytes.items) ≡ false = ap ends_open (sym text) ∙ (sym c.ends_open.ensures ∙ w.if-ends_open.false) in
          rw (w.bytes-is, w.origins-is, c.truncate.ensures.items) ((spliced_end language source _ _ _ _ h is).0)
    ]

pub returns-clause-parts : goal.returns-clause-parts
returns-clause-parts c language source h =
    let text : c.deref.result.now ≡ take c.args.self.len c.args.self.bytes.items = c.deref.ensures.value ∙ c.truncate.ensures.items in
    let size : c.len-source_len.result ≡ length c.args.self.bytes.items = search rules in
    elim c.if-ends_open.branch [
      | then-ends_open+in_ok-push+in_ok-push-2 w ↦
          let is : ends_open (take c.args.self.len c.args.self.bytes.items) ≡ true = ap ends_open (sym text) ∙ (sym c.ends_open.ensures ∙ w.if-ends_open.true) in
          rw (w.bytes-is, w.origins-is, w.in_ok-push-2.ensures.items, w.in_ok-push.ensures.items, c.truncate.ensures.items, size) ((spliced_open language source _ _ _ _ h is).1)
      | else-ends_open w ↦
          let is : ends_open (take c.args.self.len c.args.self.bytes.items) ≡ false = ap ends_open (sym text) ∙ (sym c.ends_open.ensures ∙ w.if-ends_open.false) in
          rw (w.bytes-is, w.origins-is, c.truncate.ensures.items) ((spliced_end language source _ _ _ _ h is).1)
    ]
