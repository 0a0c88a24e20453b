use Rattle.std.proofs.Common.{rules, arith, ◌≡◌, ◌<◌, ◌+◌, ◌-◌, List, ap, false, length, true, refl, subst, sym, ◌∙◌}
use Rattle.std.specs.Prelude.{Ok, if◌then◌else◌, [], ◌∷◌, ◌++◌}
use Rattle.pj_names.specs.Asking.{Return, each, first_hit}
use Rattle.pj_names.proofs.AskingLaws.{ComesTo, asks-refused, asks-return, asks-settled, asks-stop, asks-then, comes-begin, comes-ends, comes-then}
use Rattle.pj_names.specs.ClassName.{is_object}
use Rattle.pj_names.specs.JavaType.{Variable, java_type, type_list}
use Rattle.pj_names.proofs.MeaningLaws.{each-gather, gather}
use Rattle.pj_names.specs.Told.{longest, longest_is}
use Rattle.pj_names.specs.declared.ty.Ty.{Ty}
use Rattle.pj_outer_names.specs.Candidates.{file_classes}
use Rattle.pj_outer_names.specs.Inherited.{member_in}
use Rattle.pj_types.specs.NameWalks.{NameStanding}
use Rattle.pj_outer_names.specs.NameWalks.{left_out}
use Rattle.pj_outer_names.proofs.NameTurns.{names-begin, names-end, names-missed, names-turn, to_come}
use Rattle.pj_written.specs.Fits.{fits, most_signs_is}
use Rattle.pj_written.specs.Headers.{all_bounds, written_supertypes}
use Rattle.pj_type_names.specs.Searching as resolution
use Rattle.pj_type_names.specs.TypeName.{is_busy}
use Rattle.pj_type_names.proofs.Turns.{along-none, along-some, argument-none, argument-some, asks-as, bound-none, bound-some, bounds-each, by-none, by-object, by-some, comes-as, direct-none, direct-some, inherited-named, inherited-none, length-none, length-some, rest-is, searched-end, searched-turn, simple-named, simple-none, types-each, types-turn, variable-none, variable-some, written-fits}
use Rattle.pj_type_names.proofs.resolve.+resolving.Goals as goal

-- ---- headers

pub direct_supertypes-returns-then-stage-eq0 : goal.direct_supertypes-returns-then-stage-eq0
direct_supertypes-returns-then-stage-eq0 g t c =
    let stage = c.args.stage.now in
    let none : stage.left ≡ 0 = omega arith in
    asks-as (direct-none stage.file.now stage.left stage.busy.now c.args.name.now none) (asks-return (ap (λ names. Ok names) c.new.ensures))

pub direct_supertypes-returns : goal.direct_supertypes-returns
direct_supertypes-returns g t c =
    let stage = c.args.stage.now in
    let some : 0 < stage.left = omega arith in
    asks-as (direct-some stage.file.now stage.left stage.busy.now c.args.name.now some) c.supertypes_by.ensures

pub supertypes_by-returns-then-is_object : goal.supertypes_by-returns-then-is_object
supertypes_by-returns-then-is_object g t c =
    let stage = c.args.stage.now in
    let is : is_object c.args.name.now ≡ true = sym c.is_object.ensures ∙ c.if-is_object.true in
    asks-as (by-object stage.file.now (stage.left - 1) stage.busy.now c.args.name.now is) (asks-return (ap (λ names. Ok names) c.new.ensures))

pub supertypes_by-returns-in-Some : goal.supertypes_by-returns-in-Some
supertypes_by-returns-in-Some g t c =
    let stage = c.args.stage.now in
    let other : is_object c.args.name.now ≡ false = sym c.is_object.ensures ∙ c.if-is_object.false in
    let named = rw c.as_str.ensures.value at c.node_named.ensures.value in
    let found = sym named ∙ c.in-Some.is in
    asks-as (by-some stage.file.now (stage.left - 1) stage.busy.now c.args.name.now c.in-Some.class other found) c.of_file.ensures

pub supertypes_by-returns-in-None : goal.supertypes_by-returns-in-None
supertypes_by-returns-in-None g t c =
    let stage = c.args.stage.now in
    let other : is_object c.args.name.now ≡ false = sym c.is_object.ensures ∙ c.if-is_object.false in
    let named = rw c.as_str.ensures.value at c.node_named.ensures.value in
    let found = sym named ∙ c.in-None.is in
    asks-as (by-none stage.file.now (stage.left - 1) stage.busy.now c.args.name.now other found) c.outside_supertypes.ensures

pub of_file-returns-then-is_busy : goal.of_file-returns-then-is_busy
of_file-returns-then-is_busy g t c =
    let stage = c.args.stage.now in
    let deeper = resolution.header stage.file.now (stage.left - 1) in
    let is : is_busy stage.busy.now c.args.class ≡ true = sym c.is_busy.ensures ∙ c.if-is_busy.true in
    asks-as (ap (λ b. if b then Return [] else deeper (stage.busy.now ++ c.args.class.0 ∷ []) c.args.class) is) (asks-return (ap (λ names. Ok names) c.new.ensures))

pub of_file-returns-then-stage-ge-MOST_NESTED : goal.of_file-returns-then-stage-ge-MOST_NESTED
of_file-returns-then-stage-ge-MOST_NESTED g t c = asks-stop refl

pub of_file-returns-in_err-busy : goal.of_file-returns-in_err-busy
of_file-returns-in_err-busy g t c = asks-stop (search rules)

pub of_file-returns-in_err-push : goal.of_file-returns-in_err-push
of_file-returns-in_err-push g t c = asks-stop (search rules)

pub of_file-returns : goal.of_file-returns
of_file-returns g t c =
    let stage = c.args.stage.now in
    let deeper = resolution.header stage.file.now (stage.left - 1) in
    let other : is_busy stage.busy.now c.args.class ≡ false = sym c.is_busy.ensures ∙ c.if-is_busy.false in
    let pushed : c.push.new.self ≡ stage.busy.now ++ c.args.class.0 ∷ [] = search rules in
    asks-as (ap (λ b. if b then Return [] else deeper (stage.busy.now ++ c.args.class.0 ∷ []) c.args.class) other ∙ ap (λ busy. deeper busy c.args.class) (sym pushed)) c.header_supertypes.ensures

pub header_supertypes-returns-in_err-header_bounds : goal.header_supertypes-returns-in_err-header_bounds
header_supertypes-returns-in_err-header_bounds g t c = asks-refused _ c.in_err-header_bounds.ensures (search rules)

pub header_supertypes-returns : goal.header_supertypes-returns
header_supertypes-returns g t c = asks-then _ c.in_ok-header_bounds.ensures c.header_names.ensures

pub header_bounds-returns-in_err-bounds : goal.header_bounds-returns-in_err-bounds
header_bounds-returns-in_err-bounds g t c = asks-stop (search rules)

pub header_bounds-returns : goal.header_bounds-returns
header_bounds-returns g t c =
    let stage = c.args.stage.now in
    let none : c.within_bound-within.result.bounds ≡ 0 = omega (arith, c.within_bound-within.ensures.bounds, c.requires.bounds) in
    let nodes : c.as_slice.result.now ≡ all_bounds stage.file.now c.args.class = search rules in
    let within = rw (c.within_bound-within.ensures.file, c.within_bound-within.ensures.left, c.within_bound-within.ensures.busy) at c.types_of.ensures in
    asks-as (bounds-each stage.file.now stage.left stage.busy.now c.within_bound-within.result.bounds (all_bounds stage.file.now c.args.class) c.as_slice.result.now none nodes) within

pub header_types-returns : goal.header_types-returns
header_types-returns g t c =
    let stage = c.args.stage.now in
    let nodes : c.as_slice.result.now ≡ written_supertypes stage.file.now c.args.class = search rules in
    asks-as (types-each stage.file.now stage.left stage.busy.now stage.bounds (written_supertypes stage.file.now c.args.class) c.as_slice.result.now c.requires.bounds nodes) c.types_of.ensures

pub header_types-returns-in_err-written : goal.header_types-returns-in_err-written
header_types-returns-in_err-written g t c = asks-stop (search rules)

pub header_names-returns-in_err-types : goal.header_names-returns-in_err-types
header_names-returns-in_err-types g t c = asks-refused _ c.in_err-types.ensures (search rules)

pub header_names-returns-in_err-names : goal.header_names-returns-in_err-names
header_names-returns-in_err-names g t c = asks-then _ c.in_ok-types.ensures (asks-stop (search rules))

pub header_names-returns : goal.header_names-returns
header_names-returns g t c = asks-then _ c.in_ok-types.ensures (asks-return (ap (λ names. Ok names) c.in_ok-names.ensures))

-- ---- bounds of type parameters

pub bound_type-returns-then-stage-eq0 : goal.bound_type-returns-then-stage-eq0
bound_type-returns-then-stage-eq0 g t c =
    let stage = c.args.stage.now in
    let none : stage.bounds ≡ 0 = omega arith in
    asks-as (bound-none stage.file.now stage.left stage.busy.now stage.bounds c.args.n none) (asks-return (ap (λ ty. Ok ty) c.in_ok-object.ensures))

pub bound_type-returns : goal.bound_type-returns
bound_type-returns g t c =
    let stage = c.args.stage.now in
    let within = rw (c.within_bound-within.ensures.file, c.within_bound-within.ensures.left, c.within_bound-within.ensures.busy) at c.type_written.ensures in
    asks-as (bound-some stage.file.now stage.left stage.busy.now stage.bounds c.within_bound-within.result.bounds c.args.n c.within_bound-within.ensures.bounds) within

pub bound_type-returns-in_err-object : goal.bound_type-returns-in_err-object
bound_type-returns-in_err-object g t c = asks-stop (search rules)

-- ---- type arguments

pub argument-returns-then-deep-eq0 : goal.argument-returns-then-deep-eq0
argument-returns-then-deep-eq0 g t c =
    let stage = c.args.stage.now in
    let none : c.args.deep ≡ 0 = omega arith in
    asks-as (argument-none stage.file.now stage.left stage.busy.now stage.bounds c.args.deep c.args.n none) (asks-return refl)

pub argument-returns : goal.argument-returns
argument-returns g t c =
    let stage = c.args.stage.now in
    let some : 0 < c.args.deep = omega arith in
    asks-as (argument-some stage.file.now stage.left stage.busy.now stage.bounds c.args.deep c.args.n some) c.argument_by.ensures

-- ---- the first of a list

pub variable_by-returns-then-is_empty : goal.variable_by-returns-then-is_empty
variable_by-returns-then-is_empty g t c =
    let stage = c.args.stage.now in
    let none = length-none (length c.args.bounds.now) c.is_empty.result c.is_empty.ensures c.if-is_empty.true in
    let made = c.in_ok-ty.ensures ∙ ap (Variable c.args.simple.now) c.in_ok-object.ensures in
    asks-as (variable-none stage.file.now stage.left stage.busy.now stage.bounds c.args.simple.now c.args.bounds.now none) (asks-return (ap (λ ty. Ok ty) made))

pub variable_by-returns-in_err-object : goal.variable_by-returns-in_err-object
variable_by-returns-in_err-object g t c = asks-stop (search rules)

pub variable_by-returns-in_err-ty : goal.variable_by-returns-in_err-ty
variable_by-returns-in_err-ty g t c = asks-stop (search rules)

pub variable_by-returns-in_err-bound : goal.variable_by-returns-in_err-bound
variable_by-returns-in_err-bound g t c =
    let stage = c.args.stage.now in
    let some = length-some (length c.args.bounds.now) c.is_empty.result c.is_empty.ensures c.if-is_empty.false in
    asks-as (variable-some stage.file.now stage.left stage.busy.now stage.bounds c.args.simple.now c.args.bounds.now _ some) (asks-refused _ c.in_err-bound.ensures (search rules))

pub variable_by-returns-in_err-ty-2 : goal.variable_by-returns-in_err-ty-2
variable_by-returns-in_err-ty-2 g t c =
    let stage = c.args.stage.now in
    let some = length-some (length c.args.bounds.now) c.is_empty.result c.is_empty.ensures c.if-is_empty.false in
    asks-as (variable-some stage.file.now stage.left stage.busy.now stage.bounds c.args.simple.now c.args.bounds.now _ some) (asks-then _ c.in_ok-bound.ensures (asks-stop (search rules)))

pub variable_by-returns : goal.variable_by-returns
variable_by-returns g t c =
    let stage = c.args.stage.now in
    let some = length-some (length c.args.bounds.now) c.is_empty.result c.is_empty.ensures c.if-is_empty.false in
    asks-as (variable-some stage.file.now stage.left stage.busy.now stage.bounds c.args.simple.now c.args.bounds.now _ some)
    (asks-then _ c.in_ok-bound.ensures (asks-return (ap (λ ty. Ok ty) c.in_ok-ty-2.ensures)))

pub class_along-returns-then-is_empty : goal.class_along-returns-then-is_empty
class_along-returns-then-is_empty g t c =
    let stage = c.args.stage.now in
    let none = length-none (length c.args.parts.now) c.is_empty.result c.is_empty.ensures c.if-is_empty.true in
    asks-as (along-none stage.file.now stage.left stage.busy.now stage.bounds c.args.place c.args.parts.now none) (asks-return refl)

pub class_along-returns-in_err-ty : goal.class_along-returns-in_err-ty
class_along-returns-in_err-ty g t c =
    let stage = c.args.stage.now in
    let some = length-some (length c.args.parts.now) c.is_empty.result c.is_empty.ensures c.if-is_empty.false in
    let asked = rw c.as_str.ensures at c.in_err-ty.ensures in
    asks-as (along-some stage.file.now stage.left stage.busy.now stage.bounds c.args.place c.args.parts.now c.index-parts-0.result some c.index-parts-0.is) (asks-refused _ asked (search rules))

pub class_along-returns : goal.class_along-returns
class_along-returns g t c =
    let stage = c.args.stage.now in
    let some = length-some (length c.args.parts.now) c.is_empty.result c.is_empty.ensures c.if-is_empty.false in
    let asked = rw c.as_str.ensures at c.in_ok-ty.ensures in
    asks-as (along-some stage.file.now stage.left stage.busy.now stage.bounds c.args.place c.args.parts.now c.index-parts-0.result some c.index-parts-0.is)
    (asks-then _ asked (asks-as (ap (resolution.members_along stage.file.now stage.left stage.busy.now stage.bounds (java_type c.in_ok-ty.ty)) (sym (rest-is c.args.parts.now))) c.members_along.ensures))

-- ---- simple names

pub simple_name-returns-in_err-_name : goal.simple_name-returns-in_err-_name
simple_name-returns-in_err-_name g t c = asks-stop (search rules)

pub simple_name-returns-in-Some : goal.simple_name-returns-in-Some
simple_name-returns-in-Some g t c =
    let stage = c.args.stage.now in
    let made = rw c.in-Some.is at c.in_ok-_name.ensures in
    asks-as (simple-named stage.file.now stage.left stage.busy.now stage.bounds c.args.place c.args.simple.now c.type_meant-found.result made.0 c.type_meant-found.ensures.value) c.found_or.ensures

pub simple_name-returns-in-None : goal.simple_name-returns-in-None
simple_name-returns-in-None g t c =
    let stage = c.args.stage.now in
    let unnamed = rw c.in-None.is at c.in_ok-_name.ensures in
    asks-as (simple-none stage.file.now stage.left stage.busy.now stage.bounds c.args.place c.args.simple.now unnamed) (asks-return refl)

pub inherited-returns-in_err-name : goal.inherited-returns-in_err-name
inherited-returns-in_err-name g t c = asks-stop (search rules)

pub inherited-returns-in-Some : goal.inherited-returns-in-Some
inherited-returns-in-Some g t c =
    let stage = c.args.stage.now in
    let made = rw c.in-Some.is at c.in_ok-name.ensures in
    asks-as (inherited-named stage.file.now stage.left stage.busy.now c.args.simple.now c.args.class c.class_text.result.now c.in-Some.name c.class_text.ensures made.0 made.1) c.first_member.ensures

pub inherited-returns-in-None : goal.inherited-returns-in-None
inherited-returns-in-None g t c =
    let stage = c.args.stage.now in
    let unnamed = rw c.in-None.is at c.in_ok-name.ensures in
    asks-as (inherited-none stage.file.now stage.left stage.busy.now c.args.simple.now c.args.class c.class_text.result.now c.class_text.ensures unnamed) (asks-return refl)

pub found_or-returns-in_err-hit : goal.found_or-returns-in_err-hit
found_or-returns-in_err-hit g t c = asks-refused _ c.in_err-hit.ensures (search rules)

pub found_or-returns-in-Some : goal.found_or-returns-in-Some
found_or-returns-in-Some g t c =
    let found = rw c.in-Some.is at c.in_ok-hit.ensures in
    asks-then _ found (asks-return refl)

pub found_or-returns-in-None : goal.found_or-returns-in-None
found_or-returns-in-None g t c =
    let missed = rw c.in-None.is at c.in_ok-hit.ensures in
    asks-then _ missed c.declared_or.ensures

pub member_type-returns-in_err-hit : goal.member_type-returns-in_err-hit
member_type-returns-in_err-hit g t c = asks-refused _ c.in_err-hit.ensures (search rules)

pub member_type-returns-in-Some : goal.member_type-returns-in-Some
member_type-returns-in-Some g t c =
    let found = rw c.in-Some.is at c.in_ok-hit.ensures in
    asks-then _ found (asks-return refl)

pub member_type-returns-in_err-ty-in-None : goal.member_type-returns-in_err-ty-in-None
member_type-returns-in_err-ty-in-None g t c =
    let missed = rw c.in-None.is at c.in_ok-hit.ensures in
    asks-then _ missed (asks-stop (search rules))

pub member_type-returns-in_ok-ty-in-None : goal.member_type-returns-in_ok-ty-in-None
member_type-returns-in_ok-ty-in-None g t c =
    let missed = rw c.in-None.is at c.in_ok-hit.ensures in
    asks-then _ missed (asks-return (ap (λ ty. Ok ty) c.in_ok-ty-in-None.ensures))

-- ---- type arguments and brackets

pub listed_arguments-returns-then-stage-ge-MOST_NESTED : goal.listed_arguments-returns-then-stage-ge-MOST_NESTED
listed_arguments-returns-then-stage-ge-MOST_NESTED g t c = asks-stop refl

pub listed_arguments-returns-in_err-types : goal.listed_arguments-returns-in_err-types
listed_arguments-returns-in_err-types g t c =
    let refused = rw (c.within_list-within.ensures.file, c.within_list-within.ensures.left, c.within_list-within.ensures.busy, c.within_list-within.ensures.bounds) at c.in_err-types.ensures in
    asks-refused _ refused (search rules)

pub listed_arguments-returns-in_err-arguments : goal.listed_arguments-returns-in_err-arguments
listed_arguments-returns-in_err-arguments g t c =
    let asked = rw (c.within_list-within.ensures.file, c.within_list-within.ensures.left, c.within_list-within.ensures.busy, c.within_list-within.ensures.bounds) at c.in_ok-types.ensures in
    asks-then _ asked (asks-stop (search rules))

pub listed_arguments-returns : goal.listed_arguments-returns
listed_arguments-returns g t c =
    let asked = rw (c.within_list-within.ensures.file, c.within_list-within.ensures.left, c.within_list-within.ensures.busy, c.within_list-within.ensures.bounds) at c.in_ok-types.ensures in
    asks-then _ asked (asks-return (ap (λ arguments. Ok arguments) c.in_ok-arguments.ensures))

pub type_by-returns-in_err-member : goal.type_by-returns-in_err-member
type_by-returns-in_err-member g t c =
    let refused = rw (c.bare.ensures.value, c.tree-tree.ensures) at c.in_err-member.ensures in
    asks-refused _ refused (search rules)

pub type_by-returns-in_err-ty : goal.type_by-returns-in_err-ty
type_by-returns-in_err-ty g t c =
    let asked = rw (c.bare.ensures.value, c.tree-tree.ensures) at c.in_ok-member.ensures in
    asks-then _ asked (asks-stop (search rules))

pub type_by-returns : goal.type_by-returns
type_by-returns g t c =
    let asked = rw (c.bare.ensures.value, c.tree-tree.ensures) at c.in_ok-member.ensures in
    let made = rw (c.brackets.ensures.value, c.tree-tree.ensures) at c.in_ok-ty.ensures in
    asks-then _ asked (asks-return (ap (λ ty. Ok ty) made))

-- ---- written types, one after the other

pub types_of-loop-n-init : goal.types_of-loop-n-init
types_of-loop-n-init g t c =
    let stage = c.args.stage.now in
    let f = resolution.type_written stage.file.now stage.left stage.busy.now stage.bounds c.args.around 0 in
    let nodes = c.args.nodes.now in
    let told = g.O.Oracle.tells c.args.oracle.now in
    subst (λ m. ComesTo (each f nodes) told m told) (each-gather f nodes ∙ ap (λ (types : List Ty). gather f (type_list types) nodes) (sym c.new-types.ensures)) comes-begin

pub argument_types-loop-n-init : goal.argument_types-loop-n-init
argument_types-loop-n-init g t c =
    let stage = c.args.stage.now in
    let f = resolution.argument stage.file.now stage.left stage.busy.now stage.bounds c.args.deep in
    let list = c.args.list.now in
    let told = g.O.Oracle.tells c.args.oracle.now in
    subst (λ m. ComesTo (each f list) told m told) (each-gather f list ∙ ap (λ (types : List Ty). gather f (type_list types) list) (sym c.new-types.ensures)) comes-begin

pub types_of-loop-n-preserved : goal.types_of-loop-n-preserved
types_of-loop-n-preserved g t c =
    let stage = c.args.stage.now in
    types-turn (resolution.type_written stage.file.now stage.left stage.busy.now stage.bounds c.args.around 0) c.loop-n.types c.push.new.self c.args.nodes.now c.loop-n.n-index _ c.in_ok-ty.ty
    c.loop-n-test.true c.in_ok-push.ensures.ok c.loop-n.invariant c.in_ok-ty.ensures

pub argument_types-loop-n-preserved : goal.argument_types-loop-n-preserved
argument_types-loop-n-preserved g t c =
    let stage = c.args.stage.now in
    types-turn (resolution.argument stage.file.now stage.left stage.busy.now stage.bounds c.args.deep) c.loop-n.types c.push.new.self c.args.list.now c.loop-n.n-index _ c.in_ok-ty.ty
    c.loop-n-test.true c.in_ok-push.ensures.ok c.loop-n.invariant c.in_ok-ty.ensures

-- ---- along supertypes

pub first_member-returns-in_err-walk : goal.first_member-returns-in_err-walk
first_member-returns-in_err-walk g t c = asks-stop (search rules)

pub first_member-loop-class-init : goal.first_member-loop-class-init
first_member-loop-class-init g t c =
    let stage = c.args.stage.now in
    let test = member_in (file_classes stage.file.now) (left_out c.args.own_counts c.args.class.now) c.args.simple.now in
    let supers = resolution.supers stage.file.now stage.left stage.busy.now in
    let told = g.O.Oracle.tells c.args.oracle.now in
    subst (λ m. ComesTo (resolution.first_member stage.file.now stage.left stage.busy.now c.args.own_counts c.args.class.now c.args.simple.now) told m told)
    (names-begin test supers c.args.class.now ∙ ap (λ (walk : NameStanding). to_come test supers 0 walk) (sym c.in_ok-walk.ensures)) comes-begin

pub first_member-returns-in_err-next : goal.first_member-returns-in_err-next
first_member-returns-in_err-next g t c = comes-ends c.loop-class.invariant (asks-stop (search rules))

pub first_member-returns-in_default : goal.first_member-returns-in_default
first_member-returns-in_default g t c =
    let stage = c.args.stage.now in
    let test = member_in (file_classes stage.file.now) (left_out c.args.own_counts c.args.class.now) c.args.simple.now in
    let supers = resolution.supers stage.file.now stage.left stage.busy.now in
    let below : c.loop-class._class < longest = rw longest_is c.loop-class-test.true in
    let gives = rw c.in_default.is at c.in_ok-next.ensures in
    comes-ends (names-end test supers c.loop-class._class c.loop-class.walk c.next_class.new.self below gives c.loop-class.invariant) (asks-settled refl)

pub first_member-returns-in_err-hit : goal.first_member-returns-in_err-hit
first_member-returns-in_err-hit g t c =
    let stage = c.args.stage.now in
    let test = member_in (file_classes stage.file.now) (left_out c.args.own_counts c.args.class.now) c.args.simple.now in
    let supers = resolution.supers stage.file.now stage.left stage.busy.now in
    let below : c.loop-class._class < longest = rw longest_is c.loop-class-test.true in
    let gives = rw c.in-Some.is at c.in_ok-next.ensures in
    let so_far = names-turn test supers c.loop-class._class c.loop-class.walk c.next_class.new.self c.in-Some.next below gives c.loop-class.invariant in
    comes-ends so_far (asks-refused _ c.in_err-hit.ensures (search rules))

pub first_member-returns-in-Some-hit : goal.first_member-returns-in-Some-hit
first_member-returns-in-Some-hit g t c =
    let stage = c.args.stage.now in
    let test = member_in (file_classes stage.file.now) (left_out c.args.own_counts c.args.class.now) c.args.simple.now in
    let supers = resolution.supers stage.file.now stage.left stage.busy.now in
    let below : c.loop-class._class < longest = rw longest_is c.loop-class-test.true in
    let gives = rw c.in-Some.is at c.in_ok-next.ensures in
    let so_far = names-turn test supers c.loop-class._class c.loop-class.walk c.next_class.new.self c.in-Some.next below gives c.loop-class.invariant in
    let found = rw c.in-Some-hit.is at c.in_ok-hit.ensures in
    comes-ends (comes-then _ so_far found) (asks-settled refl)

pub first_member-returns-in_err-more : goal.first_member-returns-in_err-more
first_member-returns-in_err-more g t c =
    let stage = c.args.stage.now in
    let test = member_in (file_classes stage.file.now) (left_out c.args.own_counts c.args.class.now) c.args.simple.now in
    let supers = resolution.supers stage.file.now stage.left stage.busy.now in
    let below : c.loop-class._class < longest = rw longest_is c.loop-class-test.true in
    let gives = rw c.in-Some.is at c.in_ok-next.ensures in
    let so_far = names-turn test supers c.loop-class._class c.loop-class.walk c.next_class.new.self c.in-Some.next below gives c.loop-class.invariant in
    let missed = rw c.in_default-hit.is at c.in_ok-hit.ensures in
    let behind = names-missed test supers c.loop-class._class c.next_class.new.self c.in-Some.next (comes-then _ so_far missed) in
    comes-ends behind (asks-refused _ c.in_err-more.ensures (search rules))

pub first_member-returns-in_err-put : goal.first_member-returns-in_err-put
first_member-returns-in_err-put g t c =
    let stage = c.args.stage.now in
    let test = member_in (file_classes stage.file.now) (left_out c.args.own_counts c.args.class.now) c.args.simple.now in
    let supers = resolution.supers stage.file.now stage.left stage.busy.now in
    let below : c.loop-class._class < longest = rw longest_is c.loop-class-test.true in
    let gives = rw c.in-Some.is at c.in_ok-next.ensures in
    let so_far = names-turn test supers c.loop-class._class c.loop-class.walk c.next_class.new.self c.in-Some.next below gives c.loop-class.invariant in
    let missed = rw c.in_default-hit.is at c.in_ok-hit.ensures in
    let behind = names-missed test supers c.loop-class._class c.next_class.new.self c.in-Some.next (comes-then _ so_far missed) in
    comes-ends (comes-then _ behind c.in_ok-more.ensures) (asks-stop (search rules))

pub first_member-loop-class-preserved : goal.first_member-loop-class-preserved
first_member-loop-class-preserved g t c =
    let stage = c.args.stage.now in
    let test = member_in (file_classes stage.file.now) (left_out c.args.own_counts c.args.class.now) c.args.simple.now in
    let supers = resolution.supers stage.file.now stage.left stage.busy.now in
    let below : c.loop-class._class < longest = rw longest_is c.loop-class-test.true in
    let gives = rw c.in-Some.is at c.in_ok-next.ensures in
    let so_far = names-turn test supers c.loop-class._class c.loop-class.walk c.next_class.new.self c.in-Some.next below gives c.loop-class.invariant in
    let missed = rw c.in_default-hit.is at c.in_ok-hit.ensures in
    let behind = names-missed test supers c.loop-class._class c.next_class.new.self c.in-Some.next (comes-then _ so_far missed) in
    rw c.in_ok-put.ensures (comes-then _ behind c.in_ok-more.ensures)

pub first_member-returns : goal.first_member-returns
first_member-returns g t c = comes-ends c.loop-class.invariant (asks-stop refl)

-- ---- classes around a place

pub first_inherited-loop-class-init : goal.first_inherited-loop-class-init
first_inherited-loop-class-init g t c = record { comes = comes-begin; inside = search rules }

pub first_inherited-returns-in_err-hit : goal.first_inherited-returns-in_err-hit
first_inherited-returns-in_err-hit g t c =
    let stage = c.args.stage.now in
    let f = resolution.inherited stage.file.now stage.left stage.busy.now c.args.simple.now in
    let given = searched-turn stage.file.now c.tree.result.now c.loop-class.inside c.in-Some.class c.args.found c.next_searched.result c.tree.ensures c.next_searched.ensures.value c.in-Some.is in
    let so_far = comes-as (ap (first_hit f) given) c.loop-class.invariant.comes in
    comes-ends so_far (asks-refused _ c.in_err-hit.ensures (search rules))

pub first_inherited-returns-in-Some-hit : goal.first_inherited-returns-in-Some-hit
first_inherited-returns-in-Some-hit g t c =
    let stage = c.args.stage.now in
    let f = resolution.inherited stage.file.now stage.left stage.busy.now c.args.simple.now in
    let given = searched-turn stage.file.now c.tree.result.now c.loop-class.inside c.in-Some.class c.args.found c.next_searched.result c.tree.ensures c.next_searched.ensures.value c.in-Some.is in
    let so_far = comes-as (ap (first_hit f) given) c.loop-class.invariant.comes in
    let found = rw c.in-Some-hit.is at c.in_ok-hit.ensures in
    comes-ends (comes-then _ so_far found) (asks-return refl)

pub first_inherited-loop-class-preserved : goal.first_inherited-loop-class-preserved
first_inherited-loop-class-preserved g t c =
    let stage = c.args.stage.now in
    let f = resolution.inherited stage.file.now stage.left stage.busy.now c.args.simple.now in
    let given = searched-turn stage.file.now c.tree.result.now c.loop-class.inside c.in-Some.class c.args.found c.next_searched.result c.tree.ensures c.next_searched.ensures.value c.in-Some.is in
    let before = rw c.in-Some.is at c.next_searched.ensures.before in
    let so_far = comes-as (ap (first_hit f) given) c.loop-class.invariant.comes in
    let missed = rw c.in_default-hit.is at c.in_ok-hit.ensures in
    record { comes = comes-then _ so_far missed; inside = omega (arith, before, c.loop-class.invariant.inside) }

pub first_inherited-returns : goal.first_inherited-returns
first_inherited-returns g t c =
    let stage = c.args.stage.now in
    let f = resolution.inherited stage.file.now stage.left stage.busy.now c.args.simple.now in
    let none = searched-end stage.file.now c.tree.result.now c.loop-class.inside c.args.found c.next_searched.result c.tree.ensures c.next_searched.ensures.value c.in_default.is in
    comes-ends (comes-as (ap (first_hit f) none) c.loop-class.invariant.comes) (asks-return refl)

-- ---- written types

pub member_of-returns-in-Class : goal.member_of-returns-in-Class
member_of-returns-in-Class g t c =
    let stage = c.args.stage.now in
    asks-as (ap (λ (ty : Ty). resolution.member_of stage.file.now stage.left stage.busy.now stage.bounds (java_type ty) c.args.simple.now) c.in-Class.is) c.member_type.ensures

pub class_type-returns : goal.class_type-returns
class_type-returns g t c = asks-then _ c.in_ok-ty.ensures c.with_arguments.ensures

pub type_written-returns-in_err-member : goal.type_written-returns-in_err-member
type_written-returns-in_err-member g t c =
    let stage = c.args.stage.now in
    let is : fits stage.file.now (c.args.around + c.args.behind) c.args.n ≡ true = search rules in
    asks-as (written-fits stage.file.now stage.left stage.busy.now stage.bounds c.args.around c.args.behind c.args.n 255 most_signs_is is) (asks-refused _ c.in_err-member.ensures (search rules))

pub type_written-returns-in_err-ty : goal.type_written-returns-in_err-ty
type_written-returns-in_err-ty g t c =
    let stage = c.args.stage.now in
    let is : fits stage.file.now (c.args.around + c.args.behind) c.args.n ≡ true = search rules in
    asks-as (written-fits stage.file.now stage.left stage.busy.now stage.bounds c.args.around c.args.behind c.args.n 255 most_signs_is is) (asks-then _ c.in_ok-member.ensures (asks-stop (search rules)))

pub type_written-returns : goal.type_written-returns
type_written-returns g t c =
    let stage = c.args.stage.now in
    let is : fits stage.file.now (c.args.around + c.args.behind) c.args.n ≡ true = search rules in
    asks-as (written-fits stage.file.now stage.left stage.busy.now stage.bounds c.args.around c.args.behind c.args.n 255 most_signs_is is)
    (asks-then _ c.in_ok-member.ensures (asks-return (ap (λ ty. Ok ty) c.in_ok-ty.ensures)))
