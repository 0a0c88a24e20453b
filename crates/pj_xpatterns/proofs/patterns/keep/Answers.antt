use Rattle.std.proofs.Common.{◌∙◌, sym, subst}
use Rattle.std.specs.Map.{values_of}
use Rattle.std.proofs.lemmas.Bool.{false≢true}
use Rattle.pj_xpatterns.specs.Meaning.{Pattern, IsNoPattern}
use Rattle.pj_xpatterns.proofs.Lookups.{has-again, has_contained, kept_facts}
use Rattle.pj_xpatterns.proofs.patterns.keep.Goals as goal

pub returns : goal.returns
returns c =
    let p = c.args.pattern.now in
    let kept = kept_facts c.args.held.now.entries c.insert.new.self.entries p c.in_ok-compiled.compiled c.in_ok-key.key c.as_str-text.result.now c.requires.keyed c.as_str-text.ensures c.in_ok-key.ensures c.in_ok-compiled.ensures.value c.in_ok-insert.ensures.entries in
    record {
      keyed = kept.keyed;
      ordered = c.insert.ensures.ordered;
      value = kept.value;
      taken = λ _. subst (λ (q : Pattern). ¬ IsNoPattern q) (sym c.in_ok-compiled.ensures.value ∙ kept.same) c.in_ok-compiled.ensures.taken;
      refused = tt;
    }

pub returns-then-contains_key : goal.returns-then-contains_key
returns-then-contains_key c =
    let p = c.args.pattern.now in
    let has_it = has_contained c.args.held.now.entries p c.in_ok-key.key c.as_str-text.result.now c.requires.keyed c.as_str-text.ensures c.in_ok-key.ensures c.if-contains_key.ensures in
    record {
      keyed = c.requires.keyed;
      ordered = c.requires.ordered;
      value = λ other. has-again (values_of c.args.held.now.entries) p other has_it;
      taken = λ e. absurd (false≢true (sym e ∙ has_it));
      refused = tt;
    }
