use Rattle.std.proofs.Common.{sym, Err}
use Rattle.std.specs.Str.{all_ascii_digits}
use Rattle.std.proofs.lemmas.Str.Parse.{numerals_by_value, parse_digits, tells_all_ascii_digits}
use Rattle.clap.proofs.WalkLemmas.{both}
use Rattle.pj_settings.proofs.JobFacts.{number_between-big}
use Rattle.pj_settings.proofs.values.number_between.Goals as goal

pub returns-in-Err-clause-value : goal.returns-in-Err-clause-value
returns-in-Err-clause-value c =
    let decimal = sym c.if-not-is_decimal.ensures in
    number_between-big c.args.least c.args.most c.args.text.now decimal c.requires
    (parse_digits (numerals_by_value _ tells_all_ascii_digits) 32 c.args.text.now (Err c.in-Err.field-0) c.in-Err.ensures.value.0
    (both (all_ascii_digits c.args.text.now) _ decimal).0)
