-- An expression that is read symbol by symbol.
use Rattle.std.specs.Prelude.{List, Option}
use Rattle.inc_cond.specs.declared.known.Known.{Known}
use Rattle.inc_cond.specs.declared.walks.Walk.{Walk}
use Rattle.inc_cond.specs.Frames.{answer}
use Rattle.inc_cond.specs.Symbols.{Symbol}

-- what the walk gives, by the symbols that are still to come
abbrev pub left_to_read : Walk → List Symbol → Option Known
left_to_read w ss = answer w.turn w.frames ss
