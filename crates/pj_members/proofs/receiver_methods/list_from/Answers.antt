use Rattle.std.proofs.Common.{rules, List, ◌≡◌, ◌+◌, ◌<◌, ◌++◌, [], ◌∷◌, ◌∙◌, ap, sym, subst, refl}
use Rattle.std.proofs.lemmas.List.{map-append}
use Rattle.pj_names.proofs.AskingLaws.{ComesTo, comes-begin, comes-then, comes-ends, asks-refused, asks-settled, asks-stop}
use Rattle.pj_names.specs.Told.{longest, longest_is}
use Rattle.pj_types.specs.Supertypes.{Listed}
use Rattle.pj_members.specs.declared.supertypes.Supertype.{Supertype}
use Rattle.pj_members.specs.Receivers.{list_from, no_hit, second_of}
use Rattle.pj_members.specs.SupertypeWalks.{Standing, all_supertypes, standing, supertype_view}
use Rattle.pj_members.proofs.SupertypeTurns.{supertypes-begin, supertypes-end, supertypes-missed, supertypes-turn, to_come}
use Rattle.pj_members.proofs.receiver_methods.list_from.Goals as goal

pub returns-in_err-walk : goal.returns-in_err-walk
returns-in_err-walk g c = asks-stop (search rules)

pub loop-class-init : goal.loop-class-init
loop-class-init g c =
    let none : c.new-list.result ≡ [] = search rules in
    let begun = subst (λ m. ComesTo (list_from (supertype_view c.args.head)) (g.O.Oracle.tells c.args.oracle.now) m (g.O.Oracle.tells c.args.oracle.now))
    (supertypes-begin no_hit second_of (supertype_view c.args.head)
    ∙ ap (λ (s : Standing). to_come no_hit second_of 0 [] s) (sym c.in_ok-walk.ensures)) comes-begin in
    subst (λ (given : List Listed). ComesTo (list_from (supertype_view c.args.head)) (g.O.Oracle.tells c.args.oracle.now) (to_come no_hit second_of 0 given (standing c.in_ok-walk.walk)) (g.O.Oracle.tells c.args.oracle.now))
    (sym (ap (λ (l : List Supertype). all_supertypes l) none)) begun

pub returns-in_err-next : goal.returns-in_err-next
returns-in_err-next g c = comes-ends c.loop-class.invariant (asks-stop (search rules))

pub returns-in_default : goal.returns-in_default
returns-in_default g c =
    let below : c.loop-class._class < longest = rw longest_is c.loop-class-test.true in
    let none = rw c.in_default.is at c.in_ok-next.ensures in
    comes-ends (supertypes-end no_hit second_of c.loop-class._class (all_supertypes c.loop-class.list) (standing c.loop-class.walk) (standing c.next_class.new.self) below none c.loop-class.invariant) (asks-settled refl)

pub returns-in_err-more : goal.returns-in_err-more
returns-in_err-more g c =
    let below : c.loop-class._class < longest = rw longest_is c.loop-class-test.true in
    let given = rw c.in-Some.is at c.in_ok-next.ensures in
    let turned = supertypes-turn no_hit second_of c.loop-class._class (all_supertypes c.loop-class.list) (standing c.loop-class.walk) (standing c.next_class.new.self) (supertype_view c.in-Some.next) below given c.loop-class.invariant in
    let missed = supertypes-missed no_hit second_of c.loop-class._class (all_supertypes c.loop-class.list ++ supertype_view c.in-Some.next ∷ []) (standing c.next_class.new.self) (supertype_view c.in-Some.next) turned in
    comes-ends missed (asks-refused _ c.in_err-more.ensures (search rules))

pub returns-in_err-push : goal.returns-in_err-push
returns-in_err-push g c =
    let below : c.loop-class._class < longest = rw longest_is c.loop-class-test.true in
    let given = rw c.in-Some.is at c.in_ok-next.ensures in
    let turned = supertypes-turn no_hit second_of c.loop-class._class (all_supertypes c.loop-class.list) (standing c.loop-class.walk) (standing c.next_class.new.self) (supertype_view c.in-Some.next) below given c.loop-class.invariant in
    let missed = supertypes-missed no_hit second_of c.loop-class._class (all_supertypes c.loop-class.list ++ supertype_view c.in-Some.next ∷ []) (standing c.next_class.new.self) (supertype_view c.in-Some.next) turned in
    comes-ends (comes-then _ missed c.in_ok-more.ensures) (asks-stop (search rules))

pub returns-in_err-put : goal.returns-in_err-put
returns-in_err-put g c =
    let below : c.loop-class._class < longest = rw longest_is c.loop-class-test.true in
    let given = rw c.in-Some.is at c.in_ok-next.ensures in
    let turned = supertypes-turn no_hit second_of c.loop-class._class (all_supertypes c.loop-class.list) (standing c.loop-class.walk) (standing c.next_class.new.self) (supertype_view c.in-Some.next) below given c.loop-class.invariant in
    let missed = supertypes-missed no_hit second_of c.loop-class._class (all_supertypes c.loop-class.list ++ supertype_view c.in-Some.next ∷ []) (standing c.next_class.new.self) (supertype_view c.in-Some.next) turned in
    comes-ends (comes-then _ missed c.in_ok-more.ensures) (asks-stop (search rules))

pub loop-class-preserved : goal.loop-class-preserved
loop-class-preserved g c =
    let below : c.loop-class._class < longest = rw longest_is c.loop-class-test.true in
    let given = rw c.in-Some.is at c.in_ok-next.ensures in
    let turned = supertypes-turn no_hit second_of c.loop-class._class (all_supertypes c.loop-class.list) (standing c.loop-class.walk) (standing c.next_class.new.self) (supertype_view c.in-Some.next) below given c.loop-class.invariant in
    let missed = supertypes-missed no_hit second_of c.loop-class._class (all_supertypes c.loop-class.list ++ supertype_view c.in-Some.next ∷ []) (standing c.next_class.new.self) (supertype_view c.in-Some.next) turned in
    let grown : all_supertypes c.push.new.self ≡ all_supertypes c.loop-class.list ++ supertype_view c.in-Some.next ∷ [] =
    ap all_supertypes (search rules) ∙ map-append supertype_view c.loop-class.list (c.in-Some.next ∷ []) in
    let further = comes-then _ missed c.in_ok-more.ensures in
    let put = subst (λ (s : Standing). ComesTo (list_from (supertype_view c.args.head)) (g.O.Oracle.tells c.args.oracle.now) (to_come no_hit second_of (c.loop-class._class + 1) (all_supertypes c.loop-class.list ++ supertype_view c.in-Some.next ∷ []) s) (g.O.Oracle.tells c.direct_supertypes.new.oracle))
    (sym c.in_ok-put.ensures) further in
    subst (λ (given_then : List Listed). ComesTo (list_from (supertype_view c.args.head)) (g.O.Oracle.tells c.args.oracle.now) (to_come no_hit second_of (c.loop-class._class + 1) given_then (standing c.put.new.self)) (g.O.Oracle.tells c.direct_supertypes.new.oracle))
    (sym grown) put

pub returns : goal.returns
returns g c = comes-ends c.loop-class.invariant (asks-stop refl)
