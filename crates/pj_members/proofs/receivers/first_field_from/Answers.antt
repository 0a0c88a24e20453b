use Rattle.std.proofs.Common.{rules, ◌+◌, ◌<◌, ◌++◌, [], ◌∷◌, ◌∙◌, ap, sym, subst, refl}
use Rattle.pj_names.proofs.AskingLaws.{ComesTo, comes-begin, comes-then, comes-ends, asks-refused, asks-settled, asks-stop}
use Rattle.pj_names.specs.Told.{longest, longest_is}
use Rattle.pj_members.specs.Receivers.{field_on_list, first_from, hit_of}
use Rattle.pj_members.specs.SupertypeWalks.{Standing, standing, supertype_view}
use Rattle.pj_members.proofs.SupertypeTurns.{supertypes-begin, supertypes-end, supertypes-missed, supertypes-turn, to_come}
use Rattle.pj_members.proofs.receivers.first_field_from.Goals as goal

pub returns-in_err-walk : goal.returns-in_err-walk
returns-in_err-walk g c = asks-stop (search rules)

pub loop-class-init : goal.loop-class-init
loop-class-init g c = (
  [],
  subst (λ m. ComesTo (first_from (field_on_list c.args.name.now) (supertype_view c.args.head)) (g.O.Oracle.tells c.args.oracle.now) m (g.O.Oracle.tells c.args.oracle.now))
      (supertypes-begin (field_on_list c.args.name.now) hit_of (supertype_view c.args.head)
      ∙ ap (λ (s : Standing). to_come (field_on_list c.args.name.now) hit_of 0 [] s) (sym c.in_ok-walk.ensures)) comes-begin,
)

pub returns-in_err-next : goal.returns-in_err-next
returns-in_err-next g c = comes-ends c.loop-class.invariant.1 (asks-stop (search rules))

pub returns-in_default : goal.returns-in_default
returns-in_default g c =
    let below : c.loop-class._class < longest = rw longest_is c.loop-class-test.true in
    let none = rw c.in_default.is at c.in_ok-next.ensures in
    comes-ends (supertypes-end (field_on_list c.args.name.now) hit_of c.loop-class._class c.loop-class.invariant.0 (standing c.loop-class.walk) (standing c.next_class.new.self) below none c.loop-class.invariant.1) (asks-settled refl)

pub returns-in_err-hit : goal.returns-in_err-hit
returns-in_err-hit g c =
    let below : c.loop-class._class < longest = rw longest_is c.loop-class-test.true in
    let given = rw c.in-Some.is at c.in_ok-next.ensures in
    let turned = supertypes-turn (field_on_list c.args.name.now) hit_of c.loop-class._class c.loop-class.invariant.0 (standing c.loop-class.walk) (standing c.next_class.new.self) (supertype_view c.in-Some.next) below given c.loop-class.invariant.1 in
    comes-ends turned (asks-refused _ c.in_err-hit.ensures (search rules))

pub returns-in-Some-hit : goal.returns-in-Some-hit
returns-in-Some-hit g c =
    let below : c.loop-class._class < longest = rw longest_is c.loop-class-test.true in
    let given = rw c.in-Some.is at c.in_ok-next.ensures in
    let turned = supertypes-turn (field_on_list c.args.name.now) hit_of c.loop-class._class c.loop-class.invariant.0 (standing c.loop-class.walk) (standing c.next_class.new.self) (supertype_view c.in-Some.next) below given c.loop-class.invariant.1 in
    let found = rw c.in-Some-hit.is at c.in_ok-hit.ensures in
    comes-ends (comes-then _ turned found) (asks-settled refl)

pub returns-in_err-more : goal.returns-in_err-more
returns-in_err-more g c =
    let below : c.loop-class._class < longest = rw longest_is c.loop-class-test.true in
    let given = rw c.in-Some.is at c.in_ok-next.ensures in
    let turned = supertypes-turn (field_on_list c.args.name.now) hit_of c.loop-class._class c.loop-class.invariant.0 (standing c.loop-class.walk) (standing c.next_class.new.self) (supertype_view c.in-Some.next) below given c.loop-class.invariant.1 in
    let none = rw c.in_default-hit.is at c.in_ok-hit.ensures in
    let missed = supertypes-missed (field_on_list c.args.name.now) hit_of c.loop-class._class (c.loop-class.invariant.0 ++ supertype_view c.in-Some.next ∷ []) (standing c.next_class.new.self) (supertype_view c.in-Some.next) (comes-then _ turned none) in
    comes-ends missed (asks-refused _ c.in_err-more.ensures (search rules))

pub returns-in_err-put : goal.returns-in_err-put
returns-in_err-put g c =
    let below : c.loop-class._class < longest = rw longest_is c.loop-class-test.true in
    let given = rw c.in-Some.is at c.in_ok-next.ensures in
    let turned = supertypes-turn (field_on_list c.args.name.now) hit_of c.loop-class._class c.loop-class.invariant.0 (standing c.loop-class.walk) (standing c.next_class.new.self) (supertype_view c.in-Some.next) below given c.loop-class.invariant.1 in
    let none = rw c.in_default-hit.is at c.in_ok-hit.ensures in
    let missed = supertypes-missed (field_on_list c.args.name.now) hit_of c.loop-class._class (c.loop-class.invariant.0 ++ supertype_view c.in-Some.next ∷ []) (standing c.next_class.new.self) (supertype_view c.in-Some.next) (comes-then _ turned none) in
    comes-ends (comes-then _ missed c.in_ok-more.ensures) (asks-stop (search rules))

pub loop-class-preserved : goal.loop-class-preserved
loop-class-preserved g c =
    let below : c.loop-class._class < longest = rw longest_is c.loop-class-test.true in
    let given = rw c.in-Some.is at c.in_ok-next.ensures in
    let turned = supertypes-turn (field_on_list c.args.name.now) hit_of c.loop-class._class c.loop-class.invariant.0 (standing c.loop-class.walk) (standing c.next_class.new.self) (supertype_view c.in-Some.next) below given c.loop-class.invariant.1 in
    let none = rw c.in_default-hit.is at c.in_ok-hit.ensures in
    let missed = supertypes-missed (field_on_list c.args.name.now) hit_of c.loop-class._class (c.loop-class.invariant.0 ++ supertype_view c.in-Some.next ∷ []) (standing c.next_class.new.self) (supertype_view c.in-Some.next) (comes-then _ turned none) in
    let further = comes-then _ missed c.in_ok-more.ensures in
    let given_then = c.loop-class.invariant.0 ++ supertype_view c.in-Some.next ∷ [] in (
      given_then,
      subst (λ (s : Standing). ComesTo (first_from (field_on_list c.args.name.now) (supertype_view c.args.head)) (g.O.Oracle.tells c.args.oracle.now) (to_come (field_on_list c.args.name.now) hit_of (c.loop-class._class + 1) given_then s) (g.O.Oracle.tells c.direct_supertypes.new.oracle))
          (sym c.in_ok-put.ensures) further,
    )

pub returns : goal.returns
returns g c = comes-ends c.loop-class.invariant.1 (asks-stop refl)
