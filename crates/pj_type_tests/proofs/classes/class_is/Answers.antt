use Rattle.std.proofs.Common.{rules, ◌≡◌, ◌<◌, ◌++◌, [], ◌∷◌, ◌∙◌, true, false, ap, sym, subst, refl}
use Rattle.pj_names.proofs.AskingLaws.{ComesTo, comes-begin, comes-then, comes-ends, asks-refused, asks-settled, asks-stop}
use Rattle.pj_names.specs.Told.{longest, longest_is}
use Rattle.pj_types.specs.NameWalks.{NameStanding}
use Rattle.pj_type_tests.specs.Types.{class_is}
use Rattle.pj_type_tests.specs.Names.{has_name}
use Rattle.pj_names.specs.JavaType.{Class, NoMore}
use Rattle.pj_type_tests.proofs.AlongNames.{called, class-names}
use Rattle.pj_types.proofs.NameSearchLaws.{was_hit}
use Rattle.pj_types.proofs.NameTurns.{names-begin, names-end, names-missed, names-turn, to_come}
use Rattle.pj_type_tests.proofs.classes.class_is.Goals as goal

pub returns-in_err-walk : goal.returns-in_err-walk
returns-in_err-walk g c = asks-stop (search rules)

pub loop-class-init : goal.loop-class-init
loop-class-init g c = (
  [],
  subst (λ m. ComesTo (class_is c.args.text.now c.args.lower.now) (g.O.Oracle.tells c.args.oracle.now) m (g.O.Oracle.tells c.args.oracle.now))
      (class-names c.args.text.now c.args.lower.now ∙ names-begin (called c.args.text.now) was_hit c.args.lower.now
      ∙ ap (λ (s : NameStanding). to_come (called c.args.text.now) was_hit 0 [] s) (sym c.in_ok-walk.ensures)) comes-begin,
)

pub returns-in_err-class : goal.returns-in_err-class
returns-in_err-class g c = comes-ends c.loop-class.invariant.1 (asks-stop (search rules))

pub returns-in_default : goal.returns-in_default
returns-in_default g c =
    let below : c.loop-class._class < longest = rw longest_is c.loop-class-test.true in
    let none = rw c.in_default.is at c.in_ok-class.ensures in
    comes-ends (names-end (called c.args.text.now) was_hit c.loop-class._class c.loop-class.invariant.0 c.loop-class.walk c.next_class.new.self below none c.loop-class.invariant.1) (asks-settled refl)

pub returns-then-is_name_of : goal.returns-then-is_name_of
returns-then-is_name_of g c =
    let below : c.loop-class._class < longest = rw longest_is c.loop-class-test.true in
    let given = rw c.in-Some.is at c.in_ok-class.ensures in
    let turned = names-turn (called c.args.text.now) was_hit c.loop-class._class c.loop-class.invariant.0 c.loop-class.walk c.next_class.new.self c.in-Some.class below given c.loop-class.invariant.1 in
    let here : has_name c.args.text.now (Class c.in-Some.class NoMore) ≡ true = search rules in
    comes-ends (rw here at turned) (asks-settled refl)

pub returns-in_err-more : goal.returns-in_err-more
returns-in_err-more g c =
    let below : c.loop-class._class < longest = rw longest_is c.loop-class-test.true in
    let given = rw c.in-Some.is at c.in_ok-class.ensures in
    let turned = names-turn (called c.args.text.now) was_hit c.loop-class._class c.loop-class.invariant.0 c.loop-class.walk c.next_class.new.self c.in-Some.class below given c.loop-class.invariant.1 in
    let other : has_name c.args.text.now (Class c.in-Some.class NoMore) ≡ false = search rules in
    let missed = names-missed (called c.args.text.now) was_hit c.loop-class._class (c.loop-class.invariant.0 ++ c.in-Some.class ∷ []) c.next_class.new.self c.in-Some.class (rw other at turned) in
    comes-ends missed (asks-refused _ c.in_err-more.ensures (search rules))

pub returns-in_err-put : goal.returns-in_err-put
returns-in_err-put g c =
    let below : c.loop-class._class < longest = rw longest_is c.loop-class-test.true in
    let given = rw c.in-Some.is at c.in_ok-class.ensures in
    let turned = names-turn (called c.args.text.now) was_hit c.loop-class._class c.loop-class.invariant.0 c.loop-class.walk c.next_class.new.self c.in-Some.class below given c.loop-class.invariant.1 in
    let other : has_name c.args.text.now (Class c.in-Some.class NoMore) ≡ false = search rules in
    let missed = names-missed (called c.args.text.now) was_hit c.loop-class._class (c.loop-class.invariant.0 ++ c.in-Some.class ∷ []) c.next_class.new.self c.in-Some.class (rw other at turned) in
    comes-ends (comes-then _ missed c.in_ok-more.ensures) (asks-stop (search rules))

pub loop-class-preserved : goal.loop-class-preserved
loop-class-preserved g c =
    let below : c.loop-class._class < longest = rw longest_is c.loop-class-test.true in
    let given = rw c.in-Some.is at c.in_ok-class.ensures in
    let turned = names-turn (called c.args.text.now) was_hit c.loop-class._class c.loop-class.invariant.0 c.loop-class.walk c.next_class.new.self c.in-Some.class below given c.loop-class.invariant.1 in
    let other : has_name c.args.text.now (Class c.in-Some.class NoMore) ≡ false = search rules in
    let missed = names-missed (called c.args.text.now) was_hit c.loop-class._class (c.loop-class.invariant.0 ++ c.in-Some.class ∷ []) c.next_class.new.self c.in-Some.class (rw other at turned) in
    (c.loop-class.invariant.0 ++ c.in-Some.class ∷ [], rw c.in_ok-put.ensures (comes-then _ missed c.in_ok-more.ensures))

pub returns : goal.returns
returns g c = comes-ends c.loop-class.invariant.1 (asks-stop refl)
