use Rattle.std.proofs.Common.{rules, ◌<◌, ◌∷◌, ◌++◌, [], ap, sym, subst, refl, ◌∙◌}
use Rattle.std.specs.Prelude.{map, Ok}
use Rattle.std.proofs.lemmas.List.{map-append}
use Rattle.pj_names.specs.JavaType.{java_type, type_list}
use Rattle.pj_names.proofs.AskingLaws.{ComesTo, comes-begin, comes-then, comes-ends, asks-refused, asks-settled, asks-stop}
use Rattle.pj_names.specs.Told.{longest, longest_is}
use Rattle.pj_types.specs.Supertypes.{given_type, supertype_list}
use Rattle.pj_types.specs.Standing.{given_types, standing}
use Rattle.pj_types.proofs.Loops.{begin-from, turn-from}
use Rattle.pj_types.proofs.hierarchy.supertype_list.Goals as goal

pub returns-in_err-walk : goal.returns-in_err-walk
returns-in_err-walk g c = asks-stop (search rules)

pub loop-class-init : goal.loop-class-init
loop-class-init g c = record {
  comes = subst (λ m. ComesTo (supertype_list c.args.name.now) (g.O.Oracle.tells c.args.oracle.now) m (g.O.Oracle.tells c.args.oracle.now))
      (begin-from c.args.name.now (standing c.in_ok-walk.walk) c.in_ok-walk.ensures) comes-begin;
  types = ap (λ l. type_list l) c.new-types.ensures ∙ ap (λ s. map given_type s.given) (sym c.in_ok-walk.ensures);
}

pub returns-in_err-ty : goal.returns-in_err-ty
returns-in_err-ty g c =
    let below : c.loop-class._class < longest = rw longest_is c.loop-class-test.true in
    let so_far = turn-from c.loop-class._class (standing c.loop-class.walk) below c.loop-class.invariant.comes in
    comes-ends so_far (asks-refused _ c.in_err-ty.ensures.asks (search rules))

pub returns-in_default : goal.returns-in_default
returns-in_default g c =
    let below : c.loop-class._class < longest = rw longest_is c.loop-class-test.true in
    let so_far = turn-from c.loop-class._class (standing c.loop-class.walk) below c.loop-class.invariant.comes in
    let asked = rw c.in_default.is at c.in_ok-ty.ensures.asks in
    let same = rw c.in_default.is at c.in_ok-ty.ensures.given in
    comes-ends (comes-then _ so_far asked) (asks-settled (ap (λ l. Ok l) (c.loop-class.invariant.types ∙ ap (λ w. given_types w) (sym same))))

pub returns-in_err-push : goal.returns-in_err-push
returns-in_err-push g c =
    let below : c.loop-class._class < longest = rw longest_is c.loop-class-test.true in
    let so_far = turn-from c.loop-class._class (standing c.loop-class.walk) below c.loop-class.invariant.comes in
    comes-ends (comes-then _ so_far c.in_ok-ty.ensures.asks) (asks-stop (search rules))

pub loop-class-preserved : goal.loop-class-preserved
loop-class-preserved g c =
    let below : c.loop-class._class < longest = rw longest_is c.loop-class-test.true in
    let so_far = turn-from c.loop-class._class (standing c.loop-class.walk) below c.loop-class.invariant.comes in
    let asked = rw c.in-Some.is at c.in_ok-ty.ensures.asks in
    let more = rw c.in-Some.is at c.in_ok-ty.ensures.given in
    record {
      comes = comes-then _ so_far asked;
      types = ap (λ l. type_list l) (search rules) ∙ map-append java_type c.loop-class.types (c.in-Some.ty ∷ []) ∙ (λ i. c.loop-class.invariant.types i ++ java_type c.in-Some.ty ∷ []) ∙ sym more;
    }

pub returns : goal.returns
returns g c = comes-ends c.loop-class.invariant.comes (asks-stop refl)
