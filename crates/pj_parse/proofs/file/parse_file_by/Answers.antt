use Rattle.pj_parse.proofs.Refusals.{refused_text, parsed_file, stands_in}
use Rattle.pj_parse.proofs.file.parse_file_by.Goals as goal

pub returns-in-Ok-clause-file : goal.returns-in-Ok-clause-file
returns-in-Ok-clause-file c = λ bytes read. parsed_file bytes c.args.source.now c.in-Ok.parsed read c.in-Ok.ensures.parses c.in-Ok.ensures.pool

pub returns-in-Err-clause-file : goal.returns-in-Err-clause-file
returns-in-Err-clause-file c = λ bytes read. refused_text bytes c.args.source.now c.in-Err.fault c.refused_unparsed.result read c.in-Err.ensures.parses c.refused_unparsed.ensures

pub refused_unparsed-requires : goal.refused_unparsed-requires
refused_unparsed-requires c = stands_in c.args.source.now c.text.result.now c.in-Err.fault c.text.ensures.value c.in-Err.ensures.parses c.faults_stand_in_text.ensures
