use Rattle.std.proofs.Common.{◌≡◌, ◌∙◌, true, rules}
use Rattle.regex.specs.Patterns.{Config}
use Rattle.regex.specs.Views.{builder_config, builder_source}
use Rattle.pj_xpatterns.specs.Meaning.{config_of}
use Rattle.pj_xpatterns.proofs.PatternFacts.{is_no_refusal, no_pattern}
use Rattle.pj_xpatterns.proofs.compiled.CompiledPattern.of.Goals as goal

pub returns-in_ok-from_str-in-Syntax-clause-refused : goal.returns-in_ok-from_str-in-Syntax-clause-refused
returns-in_ok-from_str-in-Syntax-clause-refused c =
    let builder = c.dot_matches_new_line.result in
    let config : ◌≡◌ {A = Config} (record (builder_config builder) { utf8 = true }) (config_of c.args.flags) = search rules in
    let source : builder_source builder ≡ c.args.pattern.now = search rules in (
      c.in_ok-from_str-in-Syntax.ensures,
      no_pattern (config_of c.args.flags) c.args.pattern.now c.in-Syntax.field-0
          (rw (config, source, c.in-Syntax.is) at c.in-Err.ensures.by_grammar)
          (rw (config, source, c.in-Syntax.is) at c.in-Err.ensures.kind),
    )

pub returns-in-Ok-clause-taken : goal.returns-in-Ok-clause-taken
returns-in-Ok-clause-taken c =
    let builder = c.dot_matches_new_line.result in
    let config : ◌≡◌ {A = Config} (record (builder_config builder) { utf8 = true }) (config_of c.args.flags) = search rules in
    let source : builder_source builder ≡ c.args.pattern.now = search rules in
    rw (c.in-Ok.ensures.config ∙ config, c.in-Ok.ensures.source ∙ source) at (is_no_refusal c.in-Ok.regex c.in-Ok.ensures.read)
