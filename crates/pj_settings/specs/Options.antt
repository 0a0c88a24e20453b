-- The simple command of a check, in the words of `clap`.
use Rattle.std.specs.Prelude.{[], Some, true, codes}
use Rattle.clap.specs.Words.{App, Rule, Text, new_app, new_rule, with_rule}

-- an option that takes one text
abbrev pub long_rule : Text → Rule
long_rule name = record (new_rule name) { long = Some name }

-- `-d`, `--dir`
abbrev pub dir_rule : Rule
dir_rule = record (long_rule (codes "dir")) { short = Some 100; required = true }

-- `-R`, `--rulesets`
abbrev pub rulesets_rule : Rule
rulesets_rule = record (long_rule (codes "rulesets")) { short = Some 82; required = true }

-- `-f`, `--format`
abbrev pub format_rule : Rule
format_rule = record (long_rule (codes "format")) { short = Some 102 }

-- the command without subcommands and without a help flag
abbrev pub bare_app : App
bare_app = record {
  top = record (new_app (codes "check")).top { disable_help_flag = true };
  subs = [];
}

unfoldable pub check_app : App
check_app = with_rule (with_rule (with_rule (with_rule (with_rule (with_rule (with_rule (with_rule (with_rule bare_app dir_rule) rulesets_rule)
    format_rule) (long_rule (codes "aux-classpath"))) (long_rule (codes "threads"))) (long_rule (codes "minimum-priority")))
    (long_rule (codes "suppress-marker"))) (long_rule (codes "cache"))) (long_rule (codes "use-version"))
