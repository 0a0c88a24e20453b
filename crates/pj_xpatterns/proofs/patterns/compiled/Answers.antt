use Rattle.std.proofs.Common.{◌≡◌, ◌∙◌, ◌+◌, ◌++◌, ◌∷◌, ◌||◌, [], Bool, List, sym, ap, subst, take, arith}
use Rattle.std.proofs.lemmas.List.{take_more}
use Rattle.pj_xpatterns.specs.Meaning.{Pattern, has, same_pattern}
use Rattle.pj_xpatterns.specs.Refusing.{AreTaken}
use Rattle.pj_xpatterns.proofs.Lookups.{apart, first_refused, has-push, taken-more}
use Rattle.pj_xpatterns.proofs.patterns.compiled.Goals as goal

pub loop-pattern-preserved : goal.loop-pattern-preserved
loop-pattern-preserved c =
    let found = c.args.found.now in
    let i = c.loop-pattern.pattern-index in
    let p = c.pattern-item.result in
    let inv = c.loop-pattern.invariant in
    let more : take (i + 1) found ≡ take i found ++ p ∷ [] = take_more found i p (omega arith) ∙ ap (λ (q : Pattern). take i found ++ q ∷ []) (sym c.pattern-item.is) in
    record {
      keyed = c.in-Ok.ensures.keyed;
      ordered = c.in-Ok.ensures.ordered;
      same = λ q. c.in-Ok.ensures.value q ∙ ap (λ (b : Bool). same_pattern p q || b) (inv.same q) ∙ sym (has-push (take i found) p q) ∙ ap (λ (ps : List Pattern). has ps q) (sym more);
      taken = subst (λ (ps : List Pattern). AreTaken ps) (sym more) (taken-more (take i found) p inv.taken (λ e. c.in-Ok.ensures.taken (inv.same p ∙ e)));
    }

pub returns-in-Err-clause-refused : goal.returns-in-Err-clause-refused
returns-in-Err-clause-refused c = first_refused c.args.found.now c.loop-pattern.pattern-index c.pattern-item.result c.in-Err.fault (omega arith) c.pattern-item.is c.loop-pattern.invariant.taken c.in-Err.ensures.refused

pub returns-clause-once : goal.returns-clause-once
returns-clause-once c = apart c.loop-pattern.held.entries c.loop-pattern.invariant.keyed c.loop-pattern.invariant.ordered
