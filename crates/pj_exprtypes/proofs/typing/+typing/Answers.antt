use Rattle.std.proofs.Common.{rules, arith, ◌≡◌, ◌<◌, ◌≤◌, ◌+◌, ◌*◌, List, length, refl, sym, ap, subst, ◌∙◌}
use Rattle.std.specs.Prelude.{Ok}
use Rattle.std.specs.FinSet as set
use Rattle.pj_names.specs.Asking.{each}
use Rattle.pj_names.specs.ClassName.{NameSet, name_set}
use Rattle.pj_names.specs.Held.{IsHeld}
use Rattle.pj_names.specs.JavaType.{java_type, type_list}
use Rattle.pj_names.specs.Noting.{Notes, tells_noting}
use Rattle.pj_names.specs.declared.ty.Ty.{Ty}
use Rattle.pj_names.specs.Told.{Asks, seen}
use Rattle.pj_names.proofs.AskingLaws.{ComesTo, asks-refused, asks-return, asks-stop, asks-then, comes-begin}
use Rattle.pj_names.proofs.Held.{asks-late, done-apart, late-apart, noted-held, refused-apart}
use Rattle.pj_names.proofs.MeaningLaws.{each-gather, gather}
use Rattle.pj_names.proofs.NotingLaws.{asks-noted, notes-noted}
use Rattle.pj_file_oracle.proofs.Lists.{gather-turn}
use Rattle.pj_scopes.proofs.Turns.{asks-as}
use Rattle.pj_calls.specs.Nodes.{arguments_of, functions_of}
use Rattle.pj_exprtypes.specs.Operands.{operands, var_operands}
use Rattle.pj_exprtypes.specs.declared.held.Subject.{Subject}
use Rattle.pj_exprtypes.specs.Fits.{Fits, IsDeep}
use Rattle.pj_exprtypes.specs.Table.{meaning_of}
use Rattle.pj_exprtypes.proofs.Depth.{enough-at}
use Rattle.pj_exprtypes.proofs.Ranks.{rank}
use Rattle.pj_exprtypes.specs.TypeOf.{deep, earlier, typed, var_of}
use Rattle.pj_exprtypes.proofs.Steps.{earlier-var, typed-none, typed-some}
use Rattle.pj_exprtypes.proofs.Tables.{all-noting, keeps-more, keeps-on}
use Rattle.pj_exprtypes.proofs.typing.+typing.Goals as goal

-- ---- a node

pub typed-returns-then-left-eq0-clause-asks : goal.typed-returns-then-left-eq0-clause-asks
typed-returns-then-left-eq0-clause-asks g t c =
    let none : c.args.left ≡ 0 = omega arith in
    asks-as (typed-none c.args.file.now (earlier c.args.file.now c.args.before) c.args.left c.args.n none) (asks-return refl)

pub typed-once-requires : goal.typed-once-requires
typed-once-requires g t c =
    let less : 100000000 * c.args.before + 20 * c.args.left + 4 + 5 < t = omega (arith, c.decreases) in
    let deep : IsDeep c.args.file.now c.args.left c.args.before c.args.n = record {
      inside = c.requires.inside;
      some = omega arith;
      few = c.requires.left;
      enough = enough-at c.args.file.now c.tree.result.now c.args.before c.args.left c.args.n c.tree.ensures (c.is_to_hold.ensures c.if-is_to_hold.true);
    } in
    search rules

pub typed-returns-then-is_to_hold-clause-asks : goal.typed-returns-then-is_to_hold-clause-asks
typed-returns-then-is_to_hold-clause-asks g t c =
    asks-as (enough-at c.args.file.now c.tree.result.now c.args.before c.args.left c.args.n c.tree.ensures (c.is_to_hold.ensures c.if-is_to_hold.true)) c.once.ensures.asks

-- ---- by its operands

pub by_operands-returns-in_err-nodes-clause-asks : goal.by_operands-returns-in_err-nodes-clause-asks
by_operands-returns-in_err-nodes-clause-asks g t c = asks-stop (search rules)

pub by_operands-returns-in_err-operand_types-clause-asks : goal.by_operands-returns-in_err-operand_types-clause-asks
by_operands-returns-in_err-operand_types-clause-asks g t c =
    let file = c.args.file.now in
    let some : 0 < c.args.left = c.requires.some in
    let nodes : c.as_slice.result.now ≡ operands file c.args.n = search rules in
    let asked = rw nodes at c.in_err-operand_types.ensures.asks in
    asks-as (typed-some file (earlier file c.args.before) c.args.left c.args.n some) (asks-refused _ asked (search rules))

pub by_operands-returns-in_err-found-clause-asks : goal.by_operands-returns-in_err-found-clause-asks
by_operands-returns-in_err-found-clause-asks g t c =
    let file = c.args.file.now in
    let some : 0 < c.args.left = c.requires.some in
    let nodes : c.as_slice.result.now ≡ operands file c.args.n = search rules in
    let asked = rw nodes at c.in_ok-operand_types.ensures.asks in
    asks-as (typed-some file (earlier file c.args.before) c.args.left c.args.n some) (asks-then _ asked (asks-refused _ c.in_err-found.ensures.asks (search rules)))

pub by_operands-returns-in_err-found-clause-keeps : goal.by_operands-returns-in_err-found-clause-keeps
by_operands-returns-in_err-found-clause-keeps g t c = keeps-on c.args.file.now _ c.in_err-found.ensures.asks c.in_ok-operand_types.ensures.keeps

pub by_operands-returns-clause-asks : goal.by_operands-returns-clause-asks
by_operands-returns-clause-asks g t c =
    let file = c.args.file.now in
    let some : 0 < c.args.left = c.requires.some in
    let nodes : c.as_slice.result.now ≡ operands file c.args.n = search rules in
    let asked = rw nodes at c.in_ok-operand_types.ensures.asks in
    asks-as (typed-some file (earlier file c.args.before) c.args.left c.args.n some) (asks-then _ asked (asks-then _ c.in_ok-found.ensures.asks c.final_type.ensures.asks))

-- ---- a call by its arguments

pub passed_type-returns-in_err-nodes-clause-asks : goal.passed_type-returns-in_err-nodes-clause-asks
passed_type-returns-in_err-nodes-clause-asks g t c = asks-stop (search rules)

pub passed_type-returns-in_err-arguments-clause-asks : goal.passed_type-returns-in_err-arguments-clause-asks
passed_type-returns-in_err-arguments-clause-asks g t c =
    let nodes : c.as_slice.result.now ≡ arguments_of c.args.file.now c.args.n = search rules in
    let asked = rw nodes at c.in_err-arguments.ensures.asks in
    asks-refused _ asked (search rules)

pub passed_type-returns-in_err-functions-clause-asks : goal.passed_type-returns-in_err-functions-clause-asks
passed_type-returns-in_err-functions-clause-asks g t c =
    let nodes : c.as_slice.result.now ≡ arguments_of c.args.file.now c.args.n = search rules in
    let asked = rw nodes at c.in_ok-arguments.ensures.asks in
    asks-then _ asked (asks-stop (search rules))

pub passed_type-returns-clause-asks : goal.passed_type-returns-clause-asks
passed_type-returns-clause-asks g t c =
    let nodes : c.as_slice.result.now ≡ arguments_of c.args.file.now c.args.n = search rules in
    let asked = rw nodes at c.in_ok-arguments.ensures.asks in
    let places : c.in_ok-functions.functions ≡ functions_of c.args.file.now c.args.n = search rules in
    let chosen = rw places at c.result_among.ensures in
    asks-then _ asked chosen

pub passed_type-returns-clause-keeps : goal.passed_type-returns-clause-keeps
passed_type-returns-clause-keeps g t c = keeps-on c.args.file.now _ c.result_among.ensures c.in_ok-arguments.ensures.keeps

-- ---- nodes, one after the other

pub types_of-loop-n-init : goal.types_of-loop-n-init
types_of-loop-n-init g t c =
    let f = typed c.args.file.now (earlier c.args.file.now c.args.before) c.args.left in
    let nodes = c.args.nodes.now in
    let told = tells_noting c.args.oracle.now.inner.ghost_name c.args.oracle.now.noted.ghost_name c.args.oracle.now.noted.now (g.O.Oracle.tells c.args.oracle.now.inner.now) in
    record {
      comes = subst (λ m. ComesTo (each f nodes) told m told) (each-gather f nodes ∙ ap (λ (types : List Ty). gather f (type_list types) nodes) (sym c.new-found.ensures)) comes-begin;
      keeps = c.requires.keeps;
    }

pub types_of-loop-n-preserved : goal.types_of-loop-n-preserved
types_of-loop-n-preserved g t c =
    let f = typed c.args.file.now (earlier c.args.file.now c.args.before) c.args.left in
    record {
      comes = gather-turn f java_type c.loop-n.found c.push.new.self c.args.nodes.now c.loop-n.n-index _ c.in_ok-ty.ty c.loop-n-test.true c.in_ok-push.ensures.ok c.loop-n.invariant.comes c.in_ok-ty.ensures.asks;
      keeps = c.in_ok-ty.ensures.keeps;
    }

-- ---- a type that is held, or found

pub once-returns-in-Some-clause-asks : goal.once-returns-in-Some-clause-asks
once-returns-in-Some-clause-asks g t c =
    c.held.ensures (meaning_of c.args.file.now c.args.subject) (λ told. c.in-Some.ensures c.args.file.now _ (c.requires.keeps told))

pub once-returns-in-Some-clause-keeps : goal.once-returns-in-Some-clause-keeps
once-returns-in-Some-clause-keeps g t c =
    keeps-on c.args.file.now c.args.types.now.entries
    (c.held.ensures (meaning_of c.args.file.now c.args.subject) (λ told. c.in-Some.ensures c.args.file.now _ (c.requires.keeps told))) c.requires.keeps

pub found_once-returns-in_err-found-clause-asks : goal.found_once-returns-in_err-found-clause-asks
found_once-returns-in_err-found-clause-asks g t c =
    refused-apart _ _ _ (meaning_of c.args.file.now c.args.subject) c.in_err-found.ensures.asks (search rules)

pub found_once-returns-in_err-found-clause-keeps : goal.found_once-returns-in_err-found-clause-keeps
found_once-returns-in_err-found-clause-keeps g t c =
    λ is. all-noting c.args.file.now _ _ (c.in_err-found.ensures.keeps is)

pub found_once-returns-in_err-remember-clause-asks : goal.found_once-returns-in_err-remember-clause-asks
found_once-returns-in_err-remember-clause-asks g t c =
    late-apart _ _ (meaning_of c.args.file.now c.args.subject) c.in_ok-found.found.1 c.in_ok-found.ensures.asks (λ told. (c.in_ok-found.ensures.names told).names_are)
    c.in_err-remember.ensures.stays c.in_err-remember.ensures.within (search rules)

pub found_once-returns-in_err-remember-clause-keeps : goal.found_once-returns-in_err-remember-clause-keeps
found_once-returns-in_err-remember-clause-keeps g t c =
    let found = c.in_ok-found.found in
    λ is. all-noting c.args.file.now _ _
    (keeps-more c.args.file.now _ _ c.args.subject (java_type found.0) (name_set found.1) (c.in_err-remember.ensures.held c.args.file.now) c.in_ok-found.ensures.asks c.in_ok-found.ensures.names c.in_ok-found.ensures.keeps is)

pub found_once-returns-clause-asks : goal.found_once-returns-clause-asks
found_once-returns-clause-asks g t c =
    done-apart _ _ (meaning_of c.args.file.now c.args.subject) c.in_ok-found.found.1 c.in_ok-found.ensures.asks (λ told. (c.in_ok-found.ensures.names told).names_are)
    c.in_ok-remember.ensures.ok c.in_ok-remember.ensures.stays c.in_ok-remember.ensures.within (ap (λ ty. Ok ty) c.in_ok-remember.ensures.ty)

pub found_once-returns-clause-keeps : goal.found_once-returns-clause-keeps
found_once-returns-clause-keeps g t c =
    let found = c.in_ok-found.found in
    λ is. all-noting c.args.file.now _ _
    (keeps-more c.args.file.now _ _ c.args.subject (java_type found.0) (name_set found.1) (c.in_ok-remember.ensures.held c.args.file.now) c.in_ok-found.ensures.asks c.in_ok-found.ensures.names c.in_ok-found.ensures.keeps is)

-- ---- its names, noted apart

pub noted_apart-returns-in_err-names-clause-asks : goal.noted_apart-returns-in_err-names-clause-asks
noted_apart-returns-in_err-names-clause-asks g t c = asks-late c.in_ok-ty.ensures.asks (search rules)

pub noted_apart-returns-clause-names : goal.noted_apart-returns-clause-names
noted_apart-returns-clause-names g t c =
    let meaning = meaning_of c.args.file.now c.args.subject in
    let told = g.O.Oracle.tells c.args.oracle.now in
    let after = g.O.Oracle.tells c.noted_in.new.oracle in
    let ty = java_type c.in_ok-ty.ty in
    λ is.
    let notes : Notes meaning told.is_told told.world set.empty c.noted_in.new.noted (Ok ty) =
    subst (λ (s : NameSet). Notes meaning told.is_told told.world s c.noted_in.new.noted (Ok ty)) c.new-noted.ensures c.in_ok-ty.ensures.notes in
    subst (λ (s : NameSet). IsHeld told.world meaning ty s) (sym c.in_ok-names.ensures.members) (noted-held meaning told after ty c.noted_in.new.noted is c.in_ok-ty.ensures.asks notes)

pub noted_in-returns-clause-asks : goal.noted_in-returns-clause-asks
noted_in-returns-clause-asks g t c =
    let held = sym (ap (λ k. k.reference) c.subject_type.ensures.asks.same_kept) in
    let over = asks-noted _ _ _ _ _ _ (meaning_of c.args.file.now c.args.subject) _ _ c.subject_type.ensures.asks in
    let same : c.subject_type.new.oracle.inner.now ≡ c.oracle-1.given.0 = search rules in
    subst (λ v. Asks (meaning_of c.args.file.now c.args.subject) (g.O.Oracle.tells c.args.oracle.now) (g.O.Oracle.tells v) (seen java_type c.subject_type.result)) same over

pub noted_in-returns-clause-notes : goal.noted_in-returns-clause-notes
noted_in-returns-clause-notes g t c =
    let held = sym (ap (λ k. k.own) c.subject_type.ensures.asks.same_kept) in
    let over = notes-noted _ _ _ _ _ _ (meaning_of c.args.file.now c.args.subject) _ _ c.subject_type.ensures.asks in
    search rules

-- ---- by its subject

pub subject_type-var_type-requires : goal.subject_type-var_type-requires
subject_type-var_type-requires g t c =
    let same : rank c.args.subject c.args.left ≡ 100000000 * c.in-Var.id.0 + 90000000 = ap (λ (s : Subject). rank s c.args.left) c.in-Var.is in
    let less : 100000000 * c.in-Var.id.0 + 90000000 < t = omega (arith, c.decreases, same) in
    let inside : c.in-Var.id.0 < length c.args.file.now.nodes = subst (λ (s : Subject). Fits c.args.file.now c.args.left s) c.in-Var.is c.requires.fits in
    search rules

pub subject_type-by_operands-requires : goal.subject_type-by_operands-requires
subject_type-by_operands-requires g t c =
    let same : rank c.args.subject c.args.left ≡ 100000000 * c.in-Expression.before + 20 * c.args.left + 4 = ap (λ (s : Subject). rank s c.args.left) c.in-Expression.is in
    let less : 100000000 * c.in-Expression.before + 20 * c.args.left + 4 < t = omega (arith, c.decreases, same) in
    let deep : IsDeep c.args.file.now c.args.left c.in-Expression.before c.in-Expression.n = subst (λ (s : Subject). Fits c.args.file.now c.args.left s) c.in-Expression.is c.requires.fits in
    let inside : c.in-Expression.n.0 < length c.args.file.now.nodes = deep.inside in
    let some : 0 < c.args.left = deep.some in
    let few : c.args.left ≤ 2000001 = deep.few in
    search rules

pub subject_type-returns-in-Var-clause-asks : goal.subject_type-returns-in-Var-clause-asks
subject_type-returns-in-Var-clause-asks g t c = asks-as (ap (meaning_of c.args.file.now) c.in-Var.is) c.var_type.ensures.asks

pub subject_type-returns-in-Written-clause-asks : goal.subject_type-returns-in-Written-clause-asks
subject_type-returns-in-Written-clause-asks g t c = asks-as (ap (meaning_of c.args.file.now) c.in-Written.is) c.written_type.ensures

pub subject_type-returns-in-Written-clause-keeps : goal.subject_type-returns-in-Written-clause-keeps
subject_type-returns-in-Written-clause-keeps g t c = keeps-on c.args.file.now c.args.types.now.entries c.written_type.ensures c.requires.keeps

pub subject_type-returns-in-Expression-clause-asks : goal.subject_type-returns-in-Expression-clause-asks
subject_type-returns-in-Expression-clause-asks g t c =
    let deep = subst (λ (s : Subject). Fits c.args.file.now c.args.left s) c.in-Expression.is c.requires.fits in
    asks-as (ap (meaning_of c.args.file.now) c.in-Expression.is ∙ sym deep.enough) c.by_operands.ensures.asks

-- ---- a variable that is declared by `var`

pub var_type-returns-in_err-nodes-clause-asks : goal.var_type-returns-in_err-nodes-clause-asks
var_type-returns-in_err-nodes-clause-asks g t c = asks-stop (search rules)

pub var_type-returns-in_err-operand_types-clause-asks : goal.var_type-returns-in_err-operand_types-clause-asks
var_type-returns-in_err-operand_types-clause-asks g t c =
    let file = c.args.file.now in
    let far : c.len-left.result + 1 ≡ deep file = search rules in
    let nodes : c.as_slice.result.now ≡ var_operands file c.args.id = search rules in
    let asked = rw (nodes, far) at c.in_err-operand_types.ensures.asks in
    asks-as (earlier-var file c.args.id) (asks-refused _ asked (search rules))

pub var_type-returns-clause-asks : goal.var_type-returns-clause-asks
var_type-returns-clause-asks g t c =
    let file = c.args.file.now in
    let far : c.len-left.result + 1 ≡ deep file = search rules in
    let nodes : c.as_slice.result.now ≡ var_operands file c.args.id = search rules in
    let asked = rw (nodes, far) at c.in_ok-operand_types.ensures.asks in
    asks-as (earlier-var file c.args.id) (asks-then _ asked c.var_with.ensures)

pub var_type-returns-clause-keeps : goal.var_type-returns-clause-keeps
var_type-returns-clause-keeps g t c = keeps-on c.args.file.now _ c.var_with.ensures c.in_ok-operand_types.ensures.keeps
