use Rattle.std.proofs.Common.{map, length}
use denote.Shadow.{shadow}
use denote.Text.{Utf8}
use Rattle.std.specs.Str.{chars}
use Rattle.pj_xtokens.specs.Answer.{lexed_of}
use Rattle.pj_xtokens.specs.Scanning.{IsBehind}
use Rattle.pj_xtokens.proofs.Reading.{Leads}
use Rattle.pj_xtokens.proofs.token_list.tokens.Given as goal

abbrev pub invariant-loop-body : goal.invariant-loop-body
invariant-loop-body l = record {
  is_text : shadow (Utf8 l.rest);
  behind : IsBehind (chars l.rest) (chars l.text);
  leads : Leads (length l.text) (chars l.text) (chars l.rest) (map lexed_of l.list.items);
}

abbrev pub decreases-loop-body : goal.decreases-loop-body
decreases-loop-body l = length (chars l.rest)
