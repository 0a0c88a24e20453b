use Rattle.std.proofs.Common.{◌≡◌, ◌∙◌, [], ◌∷◌, ◌++◌, ap, refl}
use Rattle.pj_rule_sets.specs.Lists.{with_text}
use Rattle.pj_rule_sets.proofs.Keys.{put_new}
use Rattle.pj_rules.proofs.Turns.{opened}
use Rattle.pj_rules.proofs.reading.open_file.Goals as goal

pub returns : goal.returns
returns c = λ files top p taking opens.
    let old = c.args.known.now in
    let paths : c.put.new.self ≡ old.open_paths ++ c.args.opening.path ∷ [] =
    c.in_ok-put.ensures.put ∙ ap (with_text old.open_paths) c.in_ok-copied.ensures ∙ put_new old.open_paths c.args.opening.path opens.is_new in
    opened files top old _ c.args.below _ c.args.file p c.args.opening _ taking opens c.in_ok-push.ensures.ok refl paths
    c.of.ensures.path c.of.ensures.rule_set c.of.ensures.rest c.of.ensures.progress c.of.ensures.patterns
