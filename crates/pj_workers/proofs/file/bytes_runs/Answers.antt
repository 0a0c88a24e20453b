use Rattle.std.proofs.Common.{ℕ, List, Ok, Result, refl, rules, subst}
use Rattle.pj_names.proofs.AskingLaws.{asks-stop}
use Rattle.pj_parse.specs.JavaFile.{IsJavaFile, JavaFile}
use Rattle.pj_parse.specs.Refused.{IsRefused, file_seen as java_file_seen}
use Rattle.pj_parse.specs.declared.file_fault.FileFault.{FileFault}
use Rattle.pj_workers.specs.Views.{AsksOf}
use Rattle.pj_workers.proofs.Parsed.{has_pool, pool_is, text_parses}
use Rattle.pj_workers.proofs.Rows.{refused_asks}
use Rattle.pj_workers.proofs.file.bytes_runs.Goals as goal

pub parsed_runs-requires-clause-parses : goal.parsed_runs-requires-clause-parses
parsed_runs-requires-clause-parses g c = text_parses c.as_slice.result.now c.in-Ok.source c.in-Ok-parse_file_by.parsed (c.in-Ok-parse_file_by.ensures.file c.as_slice.result.now c.in-Ok.ensures)

pub parsed_runs-requires-clause-pool : goal.parsed_runs-requires-clause-pool
parsed_runs-requires-clause-pool g c = pool_is c.as_slice.result.now c.in-Ok.source c.in-Ok-parse_file_by.parsed (c.in-Ok-parse_file_by.ensures.file c.as_slice.result.now c.in-Ok.ensures)

pub parsed_runs-requires-clause-pool_texts : goal.parsed_runs-requires-clause-pool_texts
parsed_runs-requires-clause-pool_texts g c = has_pool c.as_slice.result.now c.in-Ok.source c.in-Ok-parse_file_by.parsed (c.in-Ok-parse_file_by.ensures.file c.as_slice.result.now c.in-Ok.ensures)

pub returns-then-len-gt-MOST_BYTES-clause-asks : goal.returns-then-len-gt-MOST_BYTES-clause-asks
returns-then-len-gt-MOST_BYTES-clause-asks g c = λ meant are. asks-stop refl

pub returns-in_err-refused_runs-in-Err-clause-asks : goal.returns-in_err-refused_runs-in-Err-clause-asks
returns-in_err-refused_runs-in-Err-clause-asks g c = λ meant are. asks-stop (search rules)

pub returns-in-Err-clause-asks : goal.returns-in-Err-clause-asks
returns-in-Err-clause-asks g c =
    refused_asks c.args.rules.now c.args.which.now c.args.path.now (g.O.Oracle.tells c.args.oracle.now) c.args.bytes.now (λ (o : Result JavaFile FileFault) is. c.file_has_one_outcome.ensures.one c.args.bytes.now o is)
    c.in-Err.refused c.in_ok-refused_runs-in-Err.field-0 (subst (λ (b : List ℕ). IsRefused b c.in-Err.refused) c.as_slice.ensures c.in-Err.ensures) c.in_ok-refused_runs-in-Err.ensures

pub returns-in-Ok-parse_file_by-clause-asks : goal.returns-in-Ok-parse_file_by-clause-asks
returns-in-Ok-parse_file_by-clause-asks g c =
    let seen : Result JavaFile FileFault = Ok (java_file_seen c.in-Ok.source c.in-Ok-parse_file_by.parsed) in
    let is = subst (λ (b : List ℕ). IsJavaFile b seen) c.as_slice.ensures (c.in-Ok-parse_file_by.ensures.file c.as_slice.result.now c.in-Ok.ensures) in
    subst (λ (o : Result JavaFile FileFault). AsksOf c.args.rules.now c.args.which.now c.args.path.now o (g.O.Oracle.tells c.args.oracle.now) (g.O.Oracle.tells c.parsed_runs.new.oracle) c.parsed_runs.result)
    (c.file_has_one_outcome.ensures.one c.args.bytes.now seen is) c.parsed_runs.ensures.asks

pub returns-in_err-refused_runs-in-Err-parse_file_by-clause-asks : goal.returns-in_err-refused_runs-in-Err-parse_file_by-clause-asks
returns-in_err-refused_runs-in-Err-parse_file_by-clause-asks g c = λ meant are. asks-stop (search rules)

pub returns-clause-asks : goal.returns-clause-asks
returns-clause-asks g c =
    refused_asks c.args.rules.now c.args.which.now c.args.path.now (g.O.Oracle.tells c.args.oracle.now) c.args.bytes.now (λ (o : Result JavaFile FileFault) is. c.file_has_one_outcome.ensures.one c.args.bytes.now o is)
    c.in-Err-parse_file_by.refused c.in_ok-refused_runs-in-Err-parse_file_by.field-0
    (subst (λ (b : List ℕ). IsRefused b c.in-Err-parse_file_by.refused) c.as_slice.ensures (c.in-Err-parse_file_by.ensures.file c.as_slice.result.now c.in-Ok.ensures)) c.in_ok-refused_runs-in-Err-parse_file_by.ensures
