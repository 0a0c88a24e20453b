use Rattle.pj_parse.proofs.Refusals.{refused_bytes}
use Rattle.pj_parse.proofs.file.read_file.Goals as goal

pub returns-in-Err : goal.returns-in-Err
returns-in-Err c = refused_bytes c.args.bytes.now c.in-Err.fault c.refused_unread.result c.in-Err.ensures.read c.refused_unread.ensures
