use Rattle.std.proofs.Common.{rules, ◌≡◌, true}
use Rattle.std.specs.Str.{is_utf8}
use Rattle.std.proofs.lemmas.Str.{is_utf8-from_IsUtf8}
use Rattle.pj_cache_format.proofs.put.put_text.Goals as goal

pub returns-clause-room : goal.returns-clause-room
returns-clause-room c =
    let text : is_utf8 c.args.text.now ≡ true = is_utf8-from_IsUtf8 c.args.text.now c.utf8.text in
    search (rules, text)
