use Rattle.std.proofs.Common.{◌∷◌, ap, refl}
use Rattle.pj_xvalue.specs.Items.{values_of}
use Rattle.pj_xframes.specs.Scopes.{variables_of}
use Rattle.pj_xeval.proofs.Fronts.{whole}
use Rattle.pj_xeval.proofs.Binding.{without-bound, let-body, let-next}
use Rattle.pj_xeval.proofs.Kept.{nothing, bound-of_tree}
use Rattle.pj_xeval.proofs.bindings.let_after.Goals as goal

pub returns-in-empty-clause-goes : goal.returns-in-empty-clause-goes
returns-in-empty-clause-goes c = λ a reply k. record {
  meaning = let-body a reply k c.args.binder.body.now c.args.binder.rest.now ((c.args.binder.name.now, values_of c.args.value) ∷ variables_of c.args.scope.now) (variables_of c.bind.new.self) (nothing c.args.binder.rest.now c.in-empty.len_below) (ap variables_of c.in_ok-bind.ensures);
  context = refl;
  scope = without-bound c.args.binder.name.now (values_of c.args.value) c.args.bound c.in_ok-count.count c.args.scope.now c.bind.new.self c.in_ok-count.ensures c.in_ok-bind.ensures;
}

pub returns-in-empty-clause-scope : goal.returns-in-empty-clause-scope
returns-in-empty-clause-scope c = λ n h k. bound-of_tree n c.args.binder.name.now (values_of c.args.value) c.args.scope.now c.bind.new.self c.in_ok-bind.ensures h k

pub returns-in-len1-up-clause-goes : goal.returns-in-len1-up-clause-goes
returns-in-len1-up-clause-goes c = λ a reply k. record {
  meaning = let-next a reply k c.args.binder.body.now c.args.binder.rest.now _ c.first-item.result ((c.args.binder.name.now, values_of c.args.value) ∷ variables_of c.args.scope.now) (variables_of c.bind.new.self)
      (whole c.args.binder.rest.now c.first-item.result c.in-len1-up.len_at_least c.first-item.is) (ap variables_of c.in_ok-bind.ensures);
  context = refl;
  scope = without-bound c.args.binder.name.now (values_of c.args.value) c.args.bound c.in_ok-count.count c.args.scope.now c.bind.new.self c.in_ok-count.ensures c.in_ok-bind.ensures;
}

pub returns-in-len1-up-clause-scope : goal.returns-in-len1-up-clause-scope
returns-in-len1-up-clause-scope c = λ n h k. bound-of_tree n c.args.binder.name.now (values_of c.args.value) c.args.scope.now c.bind.new.self c.in_ok-bind.ensures h k
