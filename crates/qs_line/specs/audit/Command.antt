-- The command as clap's data.
use Rattle.std.specs.Prelude.{[], ◌∷◌, codes, Some, pos, true}
use Rattle.clap.specs.Words.{App, Rule, Text, new_app, new_rule, with_rule, with_subcommand}
use Rattle.clap.specs.declared.builder.ArgAction.TheVariants.{Append, Set, SetTrue}
use Rattle.clap.specs.declared.builder.ValueParser.TheVariants as parser

-- `--NAME VALUE`, whose value has a name in the help
abbrev pub option_rule : Text → Rule
option_rule name = record (new_rule name) { long = Some name; action = Some Set; value_names = 1 }

-- the same with a default
abbrev pub defaulted_rule : Text → Text → Rule
defaulted_rule name value = record (option_rule name) { defaults = value ∷ [] }

-- `--chunk`, of 1 to 32
abbrev pub chunk_rule : Rule
chunk_rule = record (defaulted_rule (codes "chunk") (codes "8")) { parser = Some (parser.Signed (pos 1) (pos 32)) }

-- `--limit`, of 1 to 4294967295
abbrev pub limit_rule : Rule
limit_rule =
    record (defaulted_rule (codes "limit") (codes "1000000")) { parser = Some (parser.Signed (pos 1) (pos 4294967295)) }

-- `--NAME`, without a value
abbrev pub flag_rule : Text → Rule
flag_rule name = record (new_rule name) { long = Some name; action = Some SetTrue }

-- `.. [--format F] [--warn]`, as on each word
abbrev pub shared_app : App → App
shared_app app = with_rule (with_rule app (defaulted_rule (codes "format") (codes "text"))) (flag_rule (codes "warn"))

-- `check [--verbose] [--format F] [--warn]`
abbrev pub check_app : App
check_app = shared_app (with_rule (new_app (codes "check")) (flag_rule (codes "verbose")))

-- `graph [--format F] [--warn]`
abbrev pub graph_app : App
graph_app = shared_app (new_app (codes "graph"))

-- `.. [--rounds N] [--pick LIST] [--order LIST]`
abbrev pub scheduled_app : App → App
scheduled_app app =
    with_rule (with_rule (with_rule app (option_rule (codes "rounds"))) (option_rule (codes "pick")))
    (option_rule (codes "order"))

-- `.. [--counts] [--refusals]`
abbrev pub shown_app : App → App
shown_app app = with_rule (with_rule app (flag_rule (codes "counts"))) (flag_rule (codes "refusals"))

-- `.. [--rounds N] [--pick LIST] [--order LIST] [--counts] [--refusals] [--steps] [--queues]`
abbrev pub planned_app : App → App
planned_app app =
    with_rule (with_rule (shown_app (scheduled_app app)) (flag_rule (codes "steps"))) (flag_rule (codes "queues"))

-- `rules [--rounds N] [--pick LIST] [--order LIST] [--counts] [--refusals] [--steps] [--queues] [--format F] [--warn]`
abbrev pub rules_app : App
rules_app = shared_app (planned_app (new_app (codes "rules")))

-- `WORD [--mode M] [--chunk N]`
abbrev pub machine_app : Text → App
machine_app word = with_rule (with_rule (new_app word) (defaulted_rule (codes "mode") (codes "both"))) chunk_rule

-- `play [--mode M] [--chunk N] [--rounds N] [--pick LIST] [--order LIST] [--counts] [--refusals] [--steps] [--queues]
-- [--format F] [--warn]`
abbrev pub play_app : App
play_app = shared_app (planned_app (machine_app (codes "play")))

-- `syncs [--order LIST] [--format F] [--warn]`
abbrev pub syncs_app : App
syncs_app = shared_app (with_rule (new_app (codes "syncs")) (option_rule (codes "order")))

-- `--times`, of 1 to 100000
abbrev pub times_rule : Rule
times_rule = record (option_rule (codes "times")) { parser = Some (parser.Signed (pos 1) (pos 100000)) }

-- `run [--mode M] [--chunk N] [--counts] [--refusals] [--times N] [--format F] [--warn]`
abbrev pub run_app : App
run_app = shared_app (with_rule (shown_app (machine_app (codes "run"))) times_rule)

-- `--threads`, of 1 to 64
abbrev pub threads_rule : Rule
threads_rule = record (option_rule (codes "threads")) { parser = Some (parser.Signed (pos 1) (pos 64)) }

-- `.. [--after LIST]`
abbrev pub after_app : App → App
after_app app = with_rule app (option_rule (codes "after"))

-- `.. [--limit N] [--after LIST]`
abbrev pub search_app : App → App
search_app app = after_app (with_rule app limit_rule)

-- `outcomes [--limit N] [--after LIST] [--ends] [--alike] [--threads N] [--format F] [--warn]`
abbrev pub outcomes_app : App
outcomes_app =
    shared_app (with_rule (with_rule (with_rule (search_app (new_app (codes "outcomes"))) (flag_rule (codes "ends")))
    (flag_rule (codes "alike"))) threads_rule)

-- `--NAME COND` or `--NAME SUM`, as often as one likes
abbrev pub condition_rule : Text → Rule
condition_rule name = record (option_rule name) { action = Some Append }

-- `.. [--always COND].. [--some COND].. [--throughout COND].. [--ever COND].. [--never COND].. [--values SUM]..`
abbrev pub claimed_app : App → App
claimed_app app =
    with_rule (with_rule (with_rule (with_rule (with_rule (with_rule app (condition_rule (codes "always")))
    (condition_rule (codes "some"))) (condition_rule (codes "throughout"))) (condition_rule (codes "ever")))
    (condition_rule (codes "never"))) (condition_rule (codes "values"))

-- `ask [--always COND].. [--some COND].. [--throughout COND].. [--ever COND].. [--never COND].. [--values SUM]..
-- [--limit N] [--after LIST] [--threads N] [--format F] [--warn]`
abbrev pub ask_app : App
ask_app = shared_app (with_rule (search_app (claimed_app (new_app (codes "ask")))) threads_rule)

-- `K`, of 1 to 512, which has to be there
abbrev pub blocks_rule : Rule
blocks_rule =
    record (new_rule (codes "blocks")) {
      action = Some Set;
      value_names = 1;
      parser = Some (parser.Signed (pos 1) (pos 512));
      required = true;
    }

-- `fronts K [--limit N] [--after LIST] [--leads LISTS] [--format F] [--warn]`
abbrev pub fronts_app : App
fronts_app =
    shared_app (with_rule (search_app (with_rule (new_app (codes "fronts")) blocks_rule)) (option_rule (codes "leads")))

-- `estimate [--after LIST] [--format F] [--warn]`
abbrev pub estimate_app : App
estimate_app = shared_app (after_app (new_app (codes "estimate")))

-- the program's name and its version, with no word `help`
abbrev pub named_app : App
named_app =
    record (new_app (codes "qs")) {
      top = record (new_app (codes "qs")).top {
        disable_help_subcommand = true;
        has_version = true;
      };
    }

-- with the word of a command of its own
abbrev pub with_word : App → App → App
with_word app word = with_subcommand app word.top

-- with the words of texts and of runs
abbrev pub runs_app : App
runs_app =
    with_word (with_word (with_word (with_word (with_word named_app check_app) graph_app) rules_app) play_app) run_app

-- with the word of the table of synchronisations
abbrev pub counted_app : App
counted_app = with_word runs_app syncs_app

-- the whole command
abbrev pub qs_app : App
qs_app = with_word (with_word (with_word (with_word counted_app outcomes_app) ask_app) fronts_app) estimate_app
