use Rattle.std.proofs.Common.{rules, ◌<◌, ◌++◌, [], ◌∷◌, ◌∙◌, ap, sym, subst, refl}
use Rattle.pj_names.proofs.AskingLaws.{ComesTo, comes-begin, comes-then, comes-ends, asks-refused, asks-settled, asks-stop}
use Rattle.pj_names.specs.Told.{longest, longest_is}
use Rattle.pj_types.specs.NameWalks.{NameStanding}
use Rattle.pj_types.specs.Supertypes.{supertypes_of}
use Rattle.pj_types.proofs.NameSearchLaws.{names_found, no_class, supertypes-names}
use Rattle.pj_types.proofs.NameTurns.{names-begin, names-end, names-missed, names-turn, to_come}
use Rattle.pj_types.proofs.hierarchy.supertypes.Goals as goal

pub returns-in_err-walk : goal.returns-in_err-walk
returns-in_err-walk g c = asks-stop (search rules)

pub loop-class-init : goal.loop-class-init
loop-class-init g c =
    let whole = supertypes-names c.args.name.now ∙ names-begin no_class names_found c.args.name.now ∙ ap (λ (s : NameStanding). to_come no_class names_found 0 [] s) (sym c.in_ok-walk.ensures) in
    rw c.new-names.ensures (subst (λ m. ComesTo (supertypes_of c.args.name.now) (g.O.Oracle.tells c.args.oracle.now) m (g.O.Oracle.tells c.args.oracle.now)) whole comes-begin)

pub returns-in_err-class : goal.returns-in_err-class
returns-in_err-class g c = comes-ends c.loop-class.invariant (asks-stop (search rules))

pub returns-in_default : goal.returns-in_default
returns-in_default g c =
    let below : c.loop-class._class < longest = rw longest_is c.loop-class-test.true in
    let none = rw c.in_default.is at c.in_ok-class.ensures in
    comes-ends (names-end no_class names_found c.loop-class._class c.loop-class.names c.loop-class.walk c.next_class.new.self below none c.loop-class.invariant) (asks-settled refl)

pub returns-in_err-more : goal.returns-in_err-more
returns-in_err-more g c =
    let below : c.loop-class._class < longest = rw longest_is c.loop-class-test.true in
    let given = rw c.in-Some.is at c.in_ok-class.ensures in
    let turned = names-turn no_class names_found c.loop-class._class c.loop-class.names c.loop-class.walk c.next_class.new.self c.in-Some.class below given c.loop-class.invariant in
    let missed = names-missed no_class names_found c.loop-class._class (c.loop-class.names ++ c.in-Some.class ∷ []) c.next_class.new.self c.in-Some.class turned in
    comes-ends missed (asks-refused _ c.in_err-more.ensures (search rules))

pub returns-in_err-push : goal.returns-in_err-push
returns-in_err-push g c =
    let below : c.loop-class._class < longest = rw longest_is c.loop-class-test.true in
    let given = rw c.in-Some.is at c.in_ok-class.ensures in
    let turned = names-turn no_class names_found c.loop-class._class c.loop-class.names c.loop-class.walk c.next_class.new.self c.in-Some.class below given c.loop-class.invariant in
    let missed = names-missed no_class names_found c.loop-class._class (c.loop-class.names ++ c.in-Some.class ∷ []) c.next_class.new.self c.in-Some.class turned in
    comes-ends (comes-then _ missed c.in_ok-more.ensures) (asks-stop (search rules))

pub returns-in_err-put : goal.returns-in_err-put
returns-in_err-put g c =
    let below : c.loop-class._class < longest = rw longest_is c.loop-class-test.true in
    let given = rw c.in-Some.is at c.in_ok-class.ensures in
    let turned = names-turn no_class names_found c.loop-class._class c.loop-class.names c.loop-class.walk c.next_class.new.self c.in-Some.class below given c.loop-class.invariant in
    let missed = names-missed no_class names_found c.loop-class._class (c.loop-class.names ++ c.in-Some.class ∷ []) c.next_class.new.self c.in-Some.class turned in
    comes-ends (comes-then _ missed c.in_ok-more.ensures) (asks-stop (search rules))

pub loop-class-preserved : goal.loop-class-preserved
loop-class-preserved g c =
    let below : c.loop-class._class < longest = rw longest_is c.loop-class-test.true in
    let given = rw c.in-Some.is at c.in_ok-class.ensures in
    let turned = names-turn no_class names_found c.loop-class._class c.loop-class.names c.loop-class.walk c.next_class.new.self c.in-Some.class below given c.loop-class.invariant in
    let missed = names-missed no_class names_found c.loop-class._class (c.loop-class.names ++ c.in-Some.class ∷ []) c.next_class.new.self c.in-Some.class turned in
    rw (c.in_ok-put.ensures, c.in_ok-push.ensures.ok, c.into_text.ensures) (comes-then _ missed c.in_ok-more.ensures)

pub returns : goal.returns
returns g c = comes-ends c.loop-class.invariant (asks-stop refl)
