-- What the words ask for, as the code holds it.
use Rattle.std.specs.Prelude.{map, option_map}
use Rattle.std.specs.String.{string_bytes}
use Rattle.inc_args.specs.declared.requests.Arguments.{Arguments}
use Rattle.inc_args.specs.declared.requests.FileList.{FileList}
use Rattle.inc_args.specs.declared.requests.FormArgs.{FormArgs}
use Rattle.inc_args.specs.declared.requests.FormatArgs.{FormatArgs}
use Rattle.inc_args.specs.declared.requests.LanguageArgs.{LanguageArgs}
use Rattle.inc_args.specs.declared.requests.LimitArgs.{LimitArgs}
use Rattle.inc_args.specs.declared.requests.PpArgs.{PpArgs}
use Rattle.inc_args.specs.declared.requests.QuestionArgs.{QuestionArgs}
use Rattle.inc_args.specs.declared.requests.Request.{Request}
use Rattle.inc_args.specs.declared.requests.RuleArgs.{RuleArgs}
use Rattle.inc_args.specs.declared.requests.Request.TheVariants as request
use Rattle.inc_args.specs.Meaning.{Asked, FileWords, Format, Forms, Languages, Limits, Meaning, Preprocessing, Question, RuleWords, Scan, Why, Who, Graph, Rules, Cost, Cut, Check, Pp}

abbrev pub seen_files : FileList → FileWords
seen_files f = record {
  build = option_map (λ b. b.now) f.build;
  command = map string_bytes f.command.now;
  list = option_map (λ l. l.now) f.list;
  is_null = f.is_null;
  roots = map (λ r. r.now) f.roots.items;
  exclude = map (λ g. g.now) f.exclude.items;
  dirs = map (λ d. d.now) f.dirs.items;
  quoted = map (λ d. d.now) f.quoted.items;
  system = map (λ d. d.now) f.system.items;
  last = map (λ d. d.now) f.last.items;
}

abbrev pub seen_question : QuestionArgs → Question
seen_question q = record {
  files = seen_files q.files;
  source = option_map (λ s. s.now) q.source;
  header = option_map (λ h. h.now) q.header;
  from = map (λ f. f.now) q.from.items;
  to = map (λ t. t.now) q.to.items;
  without = option_map (λ w. w.now) q.without;
  drop = map (λ d. d.now) q.drop.items;
  is_strict = q.is_strict;
  external = map (λ n. n.now) q.external.items;
  undefined = map (λ n. n.now) q.undefined.items;
}

abbrev pub seen_limits : LimitArgs → Limits
seen_limits l = record {
  fixed = option_map (λ f. f.now) l.fixed;
  keep = map (λ k. k.now) l.keep.items;
  only = map (λ o. o.now) l.only.items;
  costs = option_map (λ c. c.now) l.costs;
}

abbrev pub seen_pp : PpArgs → Preprocessing
seen_pp p = record {
  files = seen_files p.files;
  sources = map (λ s. s.now) p.sources.items;
  without = option_map (λ w. w.now) p.without;
  defines = option_map (λ d. d.now) p.defines;
  compiler = option_map (λ c. c.now) p.compiler;
  words = map (λ w. w.now) p.words.items;
  is_missing_empty = p.is_missing_empty;
  has_markers = p.has_markers;
  most_read = option_map (λ m. m.now) p.most_read;
  most_output = option_map (λ m. m.now) p.most_output;
  deps = option_map (λ d. d.now) p.deps;
  status = option_map (λ s. s.now) p.status;
}

abbrev pub seen_format : FormatArgs → Format
seen_format f = record { name = option_map (λ n. n.now) f.name; is_all = f.all; fails = f.fails; most = option_map (λ n. n.now) f.most }

abbrev pub seen_forms : FormArgs → Forms
seen_forms f = record { is_blank = f.blank; is_patch = f.patch; format = seen_format f.format }

abbrev pub seen_rules : RuleArgs → RuleWords
seen_rules r = record {
  file = option_map (λ f. f.now) r.file;
  rules = map (λ w. w.now) r.rules.items;
  baseline = option_map (λ b. b.now) r.baseline;
  written = option_map (λ w. w.now) r.written;
}

abbrev pub seen_languages : LanguageArgs → Languages
seen_languages l = record { is_extended = l.extended; is_gnu = l.gnu }

abbrev pub seen_request : Request → Asked
seen_request (request.Scan path format) = Scan (option_map (λ p. p.now) path) (option_map (λ n. n.now) format)
seen_request (request.Why q f) = Why (seen_question q) (seen_format f)
seen_request (request.Who q f) = Who (seen_question q) (seen_format f)
seen_request (request.Graph q f) = Graph (seen_question q) (seen_format f)
seen_request (request.Rules q r f) = Rules (seen_question q) (seen_rules r) (seen_format f)
seen_request (request.Cost q top f) = Cost (seen_question q) (option_map (λ t. t.now) top) (seen_format f)
seen_request (request.Cut q l f) = Cut (seen_question q) (seen_limits l) (seen_forms f)
seen_request (request.Check q l certificate) = Check (seen_question q) (seen_limits l) certificate.now
seen_request (request.Pp p) = Pp (seen_pp p)

abbrev pub seen_arguments : Arguments → Meaning
seen_arguments a = record { asked = seen_request a.request; languages = seen_languages a.languages; is_quiet = a.is_quiet; follows = a.follows }
