use Rattle.pj_left_cache.proofs.MissingLaws.{active_are, each_is_first, each_stands, keys_once, missing_keys, none_missing, numbers_ascend}
use Rattle.pj_left_cache.proofs.laws.missing_rules_are.Goals as goal

pub returns-clause-places : goal.returns-clause-places
returns-clause-places g c stay keys active = each_stands stay keys active

pub returns-clause-first : goal.returns-clause-first
returns-clause-first g c stay keys active = each_is_first stay keys active

pub returns-clause-keys : goal.returns-clause-keys
returns-clause-keys g c stay keys active key = missing_keys stay keys active key

pub returns-clause-once : goal.returns-clause-once
returns-clause-once g c stay keys active = keys_once stay keys active

pub returns-clause-ascending : goal.returns-clause-ascending
returns-clause-ascending g c stay keys active = numbers_ascend stay keys active

pub returns-clause-none : goal.returns-clause-none
returns-clause-none g c stay keys active = none_missing stay keys active

pub returns-clause-active : goal.returns-clause-active
returns-clause-active g c rules held = active_are rules held
