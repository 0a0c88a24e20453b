use Rattle.std.proofs.lemmas.Str.Pattern.{strip_suffix_char}
use Rattle.pj_signature_patterns.proofs.Cutting.{last_is}
use Rattle.pj_signature_patterns.proofs.cuts.before_last.Goals as goal

pub returns-clause-value : goal.returns-clause-value
returns-clause-value c =
    last_is c.args.sign c.args.text.now c.strip_suffix.result
    (strip_suffix_char c.args.sign c.args.text.now c.strip_suffix.result c.strip_suffix.ensures.cases c.requires)
