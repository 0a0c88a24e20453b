use Rattle.std.proofs.Common.{rules, ◌≡◌, true}
use Rattle.std.specs.Option.{option_copied}
use Rattle.pj_cache_format.specs.Judges.{is_below}
use Rattle.pj_cache_reading.proofs.OneAnswer.{one_read}
use Rattle.pj_old_reading.proofs.answers.answer_of.Goals as goal

pub returns : goal.returns
returns c =
    let below : is_below 3 c.in_ok-tag.tag ≡ true = search rules in
    let named = rw c.in-Ok-Some.field-0-is at c.in-Ok-Some.ensures in
    one_read (option_copied c.args.before) c.args.bytes.now c.in_ok-found.found.now c.in-Ok-Some.name c.name.inside.text c.args.at c.in_ok-found.tag_at c.in_ok-tag.tag c.in_ok-tag.behind c.in_ok-answer.behind c.in_ok-answer.answer c.in_ok-new.field-0.value
    c.in_ok-found.ensures named.0 named.1 c.name.view_is c.in_ok-tag.ensures below c.in_ok-answer.ensures c.in_ok-new.ensures.ok
