use Rattle.std.proofs.Common.{◌≡◌, drop, map}
use Rattle.inc_macro.specs.Macros.{with_words}
use Rattle.inc_macro.specs.Tables.{table_of}
use Rattle.inc_macro.proofs.tables.Macros.define_lexed.Given as goal

abbrev pub invariant-loop-i : goal.invariant-loop-i
invariant-loop-i l = record {
  same : with_words l.i (map (λ w. w.now) (drop l.i l.words)) (table_of l.self) ≡ with_words 0 (map (λ w. w.now) l.words) (table_of l.initial.self);
  language : l.self.language ≡ l.initial.self.language;
}
