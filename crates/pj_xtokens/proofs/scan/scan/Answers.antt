use Rattle.std.proofs.Common.{inl}
use Rattle.pj_xtokens.proofs.Gapped.{begins_pair}
use Rattle.pj_xtokens.proofs.Reading.{scan_from}
use Rattle.pj_xtokens.proofs.scan.scan.Goals as goal

pub returns-in-Some : goal.returns-in-Some
returns-in-Some c = inl (begins_pair 40 58 _ _ c.in-Some.ensures.split)

pub returns : goal.returns
returns c = scan_from c.scanner_follows_the_rules.ensures.told c.scanner_follows_the_rules.ensures.spelled _ c.in_default.ensures.split _ c.longest_word.ensures
