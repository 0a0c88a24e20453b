use Rattle.std.proofs.Common.{◌∙◌, List, Ok, ap, refl, rules, subst, sym}
use Rattle.std.specs.Prelude.{IfOk}
use Rattle.std.specs.List.{AllByRecursion}
use Rattle.std.specs.Str.{IsUtf8}
use Rattle.pj_attrs.specs.FileFacts.{FileFacts}
use Rattle.pj_lex.specs.declared.token.Token.{Token}
use Rattle.pj_names.proofs.AskingLaws.{asks-stop}
use Rattle.pj_parse.specs.JavaFile.{JavaFile}
use Rattle.pj_workers.specs.Views.{AreRunsOf, AsksOf}
use Rattle.pj_workers.proofs.Rows.{is_of_one, java_file_is}
use Rattle.pj_workers.proofs.file.parsed_runs.Goals as goal

pub returns-in_err-symbols-clause-asks : goal.returns-in_err-symbols-clause-asks
returns-in_err-symbols-clause-asks g c = λ meant are. asks-stop (search rules)

pub returns-in_err-declarations-clause-asks : goal.returns-in_err-declarations-clause-asks
returns-in_err-declarations-clause-asks g c = λ meant are. asks-stop (search rules)

pub returns-in_err-java-clause-asks : goal.returns-in_err-java-clause-asks
returns-in_err-java-clause-asks g c = λ meant are. asks-stop (search rules)

pub returns-in_err-marked-clause-asks : goal.returns-in_err-marked-clause-asks
returns-in_err-marked-clause-asks g c = λ meant are. asks-stop (search rules)

pub view_runs-requires-clause-file : goal.view_runs-requires-clause-file
view_runs-requires-clause-file g c =
    is_of_one c.args.source.now c.args.parsed.now _ c.new-facts.ensures refl c.requires.text c.in_ok-marked.ensures.lines
    (subst (λ (tokens : List Token). AllByRecursion (λ (token : Token). IsUtf8 token.text.now) tokens) c.as_slice.ensures c.tokens_are_texts.ensures) c.in_ok-marked.ensures.ascending

pub view_runs-requires-clause-java : goal.view_runs-requires-clause-java
view_runs-requires-clause-java g c = c.in_ok-java.ensures ∙ ap (λ (f : FileFacts). f.file.tree) (sym c.new-facts.ensures)

pub returns-clause-asks : goal.returns-clause-asks
returns-clause-asks g c =
    subst (λ (file : JavaFile). AsksOf c.args.rules.now c.args.which.now c.args.path.now (Ok file) (g.O.Oracle.tells c.args.oracle.now) (g.O.Oracle.tells c.view_runs.new.oracle) c.view_runs.result)
    (java_file_is c.args.source.now c.args.parsed.now c.new-facts.result c.new-facts.ensures c.requires.pool) c.view_runs.ensures.asks

pub returns-clause-runs : goal.returns-clause-runs
returns-clause-runs g c =
    subst (λ (file : JavaFile). IfOk c.view_runs.result (AreRunsOf c.args.rules.now c.args.which.now c.args.path.now (Ok file) (g.O.Oracle.tells c.args.oracle.now)))
    (java_file_is c.args.source.now c.args.parsed.now c.new-facts.result c.new-facts.ensures c.requires.pool) c.view_runs.ensures.runs
