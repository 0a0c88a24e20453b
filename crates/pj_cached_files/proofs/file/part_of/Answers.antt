use Rattle.std.proofs.Common.{rules, ◌≡◌, ◌∙◌, List, Ok, map, subst}
use Rattle.pj_fitting.specs.Right.{Key}
use Rattle.pj_names.proofs.AskingLaws.{asks-stop}
use Rattle.pj_names.specs.Told.{Asks}
use Rattle.pj_reuse.specs.Serving.{kept_results}
use Rattle.pj_left_cache.specs.Missing.{keys_of_active}
use Rattle.pj_rule_sets.specs.Active.{is_active}
use Rattle.pj_rule_sets.specs.Rules.{EffectiveRule}
use Rattle.pj_cached_files.specs.Asked.{active_keys_of, activity, keys_of_set}
use Rattle.pj_cached_files.proofs.file.part_of.Goals as goal

pub returns-in_err-is_active-clause-asks : goal.returns-in_err-is_active-clause-asks
returns-in_err-is_active-clause-asks g c = asks-stop (search rules)

pub returns-in_err-wanted-clause-asks : goal.returns-in_err-wanted-clause-asks
returns-in_err-wanted-clause-asks g c = asks-stop (search rules)

pub returns-clause-asks : goal.returns-clause-asks
returns-clause-asks g c =
    let set = c.args.run.now.rules.now in
    let keys : c.as_slice-keys.result.now ≡ keys_of_set set = c.as_slice-keys.ensures ∙ c.requires.keys in
    let active : c.as_slice-2.result.now ≡ activity set c.args.path.now =
    c.as_slice-2.ensures ∙ c.in_ok-is_active.ensures ∙ (λ i. map (λ (rule : EffectiveRule). is_active rule (c.as_str.ensures i)) ((c.as_slice.ensures ∙ c.rules.ensures) i)) in
    let wanted : c.in_ok-wanted.wanted ≡ active_keys_of set c.args.path.now = c.in_ok-wanted.ensures ∙ (λ i. keys_of_active (keys i) (active i)) in
    subst (λ (ks : List Key). Asks (kept_results c.args.run.now.found.now.answers c.args.old.now ks) (g.O.Oracle.tells c.args.oracle.now) (g.O.Oracle.tells c.kept.new.oracle) (Ok c.in_ok-stay.stay)) wanted c.in_ok-stay.ensures
