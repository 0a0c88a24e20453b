use Rattle.std.proofs.Common.{rules, ◌≡◌, ◌<◌, ◌∙◌, ◌++◌, List, [], ◌∷◌, ap, arith, drop, length, subst, sym}
use Rattle.std.proofs.lemmas.List.{append-nil}
use Rattle.std.specs.List.{All}
use Rattle.pj_cache.specs.declared.cache.CachedResult.{CachedResult}
use Rattle.pj_findings.specs.declared.run.RuleRun.{RuleRun}
use Rattle.pj_names.proofs.AskingLaws.{left_from}
use Rattle.pj_workers.specs.Chosen.{chosen}
use Rattle.pj_cached_files.specs.Made.{IsClassText, new_results}
use Rattle.pj_cached_files.proofs.NewResults.{all_last, got, next_made, none_made, none_of}
use Rattle.pj_cached_files.proofs.made.new_results.Goals as goal

pub loop-run-preserved : goal.loop-run-preserved
loop-run-preserved c =
    let which = c.args.which.now in
    let keys = c.args.keys.now in
    let place = c.loop-run.place in
    let made = c.loop-run.made in
    let later = c.next.new.self.rest.items in
    let rest : c.loop-run.run-iterator.rest.items ≡ c.in-Some.run' ∷ later = search rules in
    let so_far = subst (λ (l : List RuleRun). made ++ new_results (chosen (drop place which) keys) l ≡ new_results (chosen which keys) c.args.runs) rest c.loop-run.invariant.value in
    let below : place < length which = omega (arith, c.loop-run.invariant.count, ap (λ (l : List RuleRun). length l) rest, c.requires.runs) in
    record {
      value = next_made keys which place _ c.index-keys-number.result c.in-Some.run' later made c.push.new.self (new_results (chosen which keys) c.args.runs) (left_from which place _ below)
          (got keys _ c.index-keys-number.result (c.requires.numbers place _ below) c.index-keys-number.is)
          (c.in_ok-push.ensures.ok ∙ ap (λ (x : CachedResult). made ++ x ∷ []) c.in_ok-new_result.ensures.value) so_far;
      count = omega (arith, c.loop-run.invariant.count, ap (λ (l : List RuleRun). length l) rest);
      classes = all_last (λ (one : CachedResult). All IsClassText one.names) made c.in_ok-new_result.field-0 c.push.new.self c.in_ok-push.ensures.ok c.loop-run.invariant.classes c.in_ok-new_result.ensures.classes;
    }

pub returns-clause-value : goal.returns-clause-value
returns-clause-value c =
    let keys = c.args.keys.now in
    let left = chosen (drop c.loop-run.place c.args.which.now) keys in
    let count : length c.loop-run.run-iterator.rest.items ≡ 0 = search rules in
    let rest = none_of c.loop-run.run-iterator.rest.items count in
    sym (append-nil c.loop-run.made)
    ∙ ap (λ (l : List CachedResult). c.loop-run.made ++ l) (sym (none_made left))
    ∙ subst (λ (l : List RuleRun). c.loop-run.made ++ new_results left l ≡ new_results (chosen c.args.which.now keys) c.args.runs) rest c.loop-run.invariant.value
