-- The search by names is the search along the list of supertypes, for tests that look at names alone.
use Rattle.std.proofs.Common.{◌≡◌, ℕ, zero, suc, ◌-◌, Bool, true, false, List, [], ◌∷◌, ◌++◌, map, Option, Some, None, refl, ap, sym, subst, ◌∙◌, arith}
use Rattle.std.specs.Prelude.{◌&&◌, if◌then◌else◌, nat_eq}
use Rattle.std.specs.Cmp.Lexicographic.{pointwise}
use Rattle.std.specs.List.{list_all}
use Rattle.std.proofs.lemmas.List.{map-append}
use Rattle.pj_names.specs.declared.answer.Answer.{Answer}
use Rattle.pj_names.specs.declared.answer.Answer.TheVariants.{Found, Absent, Broken}
use Rattle.pj_names.specs.ClassName.{Name}
use Rattle.pj_names.specs.JavaType.{JavaType, Primitive, Void, Null, Class, Array, Variable, Unknown, Arguments, NoMore}
use Rattle.pj_names.specs.Asking.{Asking, Return, Unbounded, bind, has_name, hit_or, look_up, unvisited, walk}
use Rattle.pj_names.specs.Asking as asking
use Rattle.pj_names.proofs.MeaningLaws.{bind-bind}
use Rattle.pj_signatures.specs.Reading.{class_signature_of}
use Rattle.pj_signatures.specs.Signature as syntax
use Rattle.pj_signatures.specs.Signature.{TypeSignature, ClassSignature}
use Rattle.pj_signatures.specs.Spelled.{IsSpelled, SpellsClass}
use Rattle.pj_signatures.specs.Types.{ClassTypes, class_types, parameters_of, type_of}
use Rattle.pj_signatures.proofs.Exact.{class_exactly}
use Rattle.pj_types.specs.Along.{first_along}
use Rattle.pj_types.specs.DepthFirst.{visit}
use Rattle.pj_types.specs.NameSearch.{itself, names_of_known, direct_names, names_within, name_search}
use Rattle.pj_types.specs.Substitution.{substituted_arguments}
use Rattle.pj_types.specs.Supertypes.{Listed, class_name, classes_by, direct, first_listed, given_type, name_of, no_hit, of_answer, of_known, of_signature, on_listed, paired, by_arguments, search, search_within, supertypes_of, with_class, written}
use Rattle.pj_types.specs.Subtyping.{is_hit, is_named, is_on_list}
use Rattle.pj_types.proofs.DepthFirstLaws.{visits-walk}
use Rattle.pj_types.proofs.ListingLaws.{names-given}

-- ---- what a signature's supertypes are: classes, or what is not known

abbrev IsClass : JavaType → Type 0
IsClass (Primitive prim) = ⊥
IsClass Void = ⊥
IsClass Null = ⊥
IsClass (Class name arguments) = Unit {0}
IsClass (Array member) = ⊥
IsClass (Variable name bound) = ⊥
IsClass Unknown = Unit {0}

abbrev AreClasses : List JavaType → Type 0
AreClasses [] = Unit {0}
AreClasses (ty ∷ types) = IsClass ty × AreClasses types

named-class : (b : Bool) (name : Name) (arguments : Arguments) → IsClass (if b then Unknown else Class name arguments)
named-class true name arguments = tt
named-class false name arguments = tt

and_first : (a b : Bool) → (a && b) ≡ true → a ≡ true
and_first true b h = refl
and_first false b h = absurd cc

and_second : (a b : Bool) → (a && b) ≡ true → b ≡ true
and_second true b h = h
and_second false b h = absurd cc

class-type : (declared : List (List ℕ × JavaType)) (ty : TypeSignature) → syntax.is_class ty ≡ true → IsClass (type_of declared ty)
class-type declared (syntax.BaseType prim) is = absurd cc
class-type declared (syntax.ClassType path given suffixes) is = named-class _ _ _
class-type declared (syntax.TypeVariable name) is = absurd cc
class-type declared (syntax.ArrayType member) is = absurd cc

class-types : (declared : List (List ℕ × JavaType)) (open_signs : ℕ) (tys : List TypeSignature) → list_all (syntax.class_fits open_signs) tys ≡ true → AreClasses (map (type_of declared) tys)
class-types declared open_signs [] fit = tt
class-types declared open_signs (ty ∷ tys) fit =
    let one = and_first (syntax.class_fits open_signs ty) (list_all (syntax.class_fits open_signs) tys) fit in
    let others = and_second (syntax.class_fits open_signs ty) (list_all (syntax.class_fits open_signs) tys) fit in
    (class-type declared ty (and_first (syntax.is_class ty) (syntax.fits open_signs ty) one), class-types declared open_signs tys others)

abbrev HaveClasses : Option ClassTypes → Type 0
HaveClasses None = Unit {0}
HaveClasses (Some types) = AreClasses (types.superclass ∷ types.interfaces)

spelled-classes : (text : List ℕ) (found : Option ClassTypes) → IsSpelled (SpellsClass text) found → HaveClasses found
spelled-classes text None spelled = tt
spelled-classes text (Some types) spelled =
    let class : ClassSignature = spelled.0.0 in
    let params = parameters_of class.parameters in
    let above = and_second (syntax.parameters_fit 255 class.parameters) (syntax.class_fits 255 class.superclass && list_all (syntax.class_fits 255) class.interfaces) spelled.0.1 in
    let first = and_first (syntax.class_fits 255 class.superclass) (list_all (syntax.class_fits 255) class.interfaces) above in
    let others = and_second (syntax.class_fits 255 class.superclass) (list_all (syntax.class_fits 255) class.interfaces) above in
    let made : AreClasses ((class_types class).superclass ∷ (class_types class).interfaces) =
    (class-type params class.superclass (and_first (syntax.is_class class.superclass) (syntax.fits 255 class.superclass) first), class-types params 255 class.interfaces others) in
    subst (λ (t : ClassTypes). AreClasses (t.superclass ∷ t.interfaces)) spelled.0.3 made

-- ---- type arguments do not tell which classes they are

named-by : (found : Option (List (List ℕ × JavaType))) (name : Name) (own : Arguments) → (arguments : Arguments) × (by_arguments found (Class name own) ≡ Class name arguments)
named-by None name own = (NoMore, refl)
named-by (Some bindings) name own = (substituted_arguments bindings own, refl)

named-written : (parameters : List (List ℕ × JavaType)) (given : Option Arguments) (name : Name) (own : Arguments) → (arguments : Arguments) × (written parameters given (Class name own) ≡ Class name arguments)
named-written parameters None name own = (own, refl)
named-written parameters (Some arguments) name own = named-by (paired parameters arguments) name own

unknown-by : (found : Option (List (List ℕ × JavaType))) → by_arguments found Unknown ≡ Unknown
unknown-by None = refl
unknown-by (Some bindings) = refl

unknown-written : (parameters : List (List ℕ × JavaType)) (given : Option Arguments) → written parameters given Unknown ≡ Unknown
unknown-written parameters None = refl
unknown-written parameters (Some arguments) = unknown-by (paired parameters arguments)

one-name : (parameters : List (List ℕ × JavaType)) (given : Option Arguments) (ty : JavaType) → IsClass ty → (rest others : List Listed) → map name_of rest ≡ map name_of others
    → map name_of (with_class (written parameters given ty) rest) ≡ map name_of (with_class ty others)
one-name parameters given (Primitive prim) is rest others same = absurd is
one-name parameters given Void is rest others same = absurd is
one-name parameters given Null is rest others same = absurd is
one-name parameters given (Class name own) is rest others same =
    ap (λ (t : JavaType). map name_of (with_class t rest)) (named-written parameters given name own).1 ∙ ap (λ l. name ∷ l) same
one-name parameters given (Array member) is rest others same = absurd is
one-name parameters given (Variable name bound) is rest others same = absurd is
one-name parameters given Unknown is rest others same = ap (λ (t : JavaType). map name_of (with_class t rest)) (unknown-written parameters given) ∙ same

all-names : (parameters : List (List ℕ × JavaType)) (given : Option Arguments) (types : List JavaType) → AreClasses types
    → map name_of (classes_by (written parameters given) types) ≡ map name_of (classes_by (written parameters None) types)
all-names parameters given [] are = refl
all-names parameters given (ty ∷ types) are =
    one-name parameters given ty are.0 (classes_by (written parameters given) types) (classes_by (written parameters None) types) (all-names parameters given types are.1)

signature-names : (given : Option Arguments) (found : Option ClassTypes) → HaveClasses found → map name_of (of_signature given found) ≡ map name_of (of_signature None found)
signature-names given None have = refl
signature-names given (Some types) have = all-names types.params given (types.superclass ∷ types.interfaces) have

answer-names : (given : Option Arguments) (answer : Answer) → map name_of (of_answer given answer) ≡ map name_of (of_answer None answer)
answer-names given (Found class) =
    signature-names given (class_signature_of class.signature) (spelled-classes class.signature (class_signature_of class.signature) (class_exactly class.signature (class_signature_of class.signature) refl))
answer-names given Absent = refl
answer-names given (Broken broken) = refl

known-names : (given : Option Arguments) (known : Option Answer) → map name_of (of_known given known) ≡ names_of_known known
known-names given None = refl
known-names given (Some answer) = answer-names given answer

-- ---- the walk by names

map-itself : (names : List Name) → map itself names ≡ names
map-itself [] = refl
map-itself (x ∷ xs) = ap (λ l. x ∷ l) (map-itself xs)

left-names : (is_visited : Name → Bool) (xs : List Listed) → map name_of (unvisited name_of is_visited xs) ≡ unvisited itself is_visited (map name_of xs)
left-names is_visited [] = refl
left-names is_visited (x ∷ xs) =
    elim (is_visited x.name) as (λ b. map name_of (if b then unvisited name_of is_visited xs else x ∷ xs) ≡ (if b then unvisited itself is_visited (map name_of xs) else x.name ∷ map name_of xs)) [
      | true ↦ left-names is_visited xs
      | false ↦ refl
    ]

abbrev as_names : {B : Type 0} → Option B × List Listed → Option B × List Name
as_names outcome = (outcome.0, map name_of outcome.1)

module _ {B : Type 0} (test : JavaType → Asking (Option B)) (test_name : Name → Asking (Option B)) (alike : (class : Listed) → test (given_type class) ≡ test_name class.name) where
  abbrev goes : ℕ → List Listed → List Listed → Asking (Option B × List Listed)
  goes = walk name_of (on_listed test) direct

  abbrev names_go : ℕ → List Name → List Name → Asking (Option B × List Name)
  names_go = walk itself test_name direct_names

  abbrev goes_on : ℕ → List Listed → List Listed → Asking (Option B × List Listed)
  goes_on n found xs = asking.visit name_of (on_listed test) direct (λ more_found still. goes n more_found still) found xs

  abbrev names_go_on : ℕ → List Name → List Name → Asking (Option B × List Name)
  names_go_on n found xs = asking.visit itself test_name direct_names (λ more_found still. names_go n more_found still) found xs

  abbrev named : Asking (Option B × List Listed) → Asking (Option B × List Name)
  named outcome = bind outcome (λ o. Return (as_names o))

  next-names : (class : Listed) (after : List Listed → Asking (Option B × List Listed)) (after_names : List Name → Asking (Option B × List Name)) → ((more : List Listed) → named (after more) ≡ after_names (map name_of more))
      → named (bind (direct class) after) ≡ bind (direct_names class.name) after_names
  unfolding direct
  next-names class after after_names same =
      bind-bind (direct class) after (λ o. Return (as_names o))
      ∙ bind-bind (look_up class.name) (λ known. Return (of_known class.arguments known)) (λ more. named (after more))
      ∙ (λ i. bind (look_up class.name) (λ known. (same (of_known class.arguments known) ∙ ap after_names (known-names class.arguments known)) i))
      ∙ sym (bind-bind (look_up class.name) (λ known. Return (names_of_known known)) after_names)

  walk-names : (n : ℕ) (found xs : List Listed) → named (goes n found xs) ≡ names_go n (map name_of found) (map name_of xs)
  walk-names zero found xs = refl
  walk-names (suc n) found xs =
      at (λ more_found still. walk-names n more_found still) (unvisited name_of (has_name (map name_of found)) xs)
      ∙ ap (λ l. names_go_on n (map name_of found) l) (left-names (has_name (map name_of found)) xs ∙ ap (λ l. unvisited itself (has_name l) (map name_of xs)) (sym (map-itself (map name_of found))))
    where
      deeper : (x : Listed) (rest more : List Listed) → named (goes n (found ++ x ∷ []) (more ++ rest)) ≡ names_go n (map name_of (found ++ x ∷ [])) (map name_of (more ++ rest))
          → named (goes n (found ++ x ∷ []) (more ++ rest)) ≡ names_go n (map name_of found ++ x.name ∷ []) (map name_of more ++ map name_of rest)
      deeper x rest more further =
          further
          ∙ ap (λ l. names_go n l (map name_of (more ++ rest))) (map-append name_of found (x ∷ []))
          ∙ ap (λ l. names_go n (map name_of found ++ x.name ∷ []) l) (map-append name_of more rest)

      hits : (x : Listed) (rest : List Listed) → ((more : List Listed) → named (goes n (found ++ x ∷ []) (more ++ rest)) ≡ names_go n (map name_of (found ++ x ∷ [])) (map name_of (more ++ rest))) → (hit : Option B)
          → named (hit_or name_of (on_listed test) direct hit (found ++ x ∷ []) (bind (direct x) (λ more. goes n (found ++ x ∷ []) (more ++ rest))))
          ≡ hit_or itself test_name direct_names hit (map name_of found ++ x.name ∷ []) (bind (direct_names x.name) (λ more. names_go n (map name_of found ++ x.name ∷ []) (more ++ map name_of rest)))
      hits x rest further (Some h) = ap (λ l. let o : Asking (Option B × List Name) = Return (Some h, l) in o) (map-append name_of found (x ∷ []))
      hits x rest further None =
          next-names x (λ more. goes n (found ++ x ∷ []) (more ++ rest)) (λ more. names_go n (map name_of found ++ x.name ∷ []) (more ++ map name_of rest)) (λ more. deeper x rest more (further more))

      at : ((more_found still : List Listed) → named (goes n more_found still) ≡ names_go n (map name_of more_found) (map name_of still)) → (left : List Listed)
          → named (goes_on n found left) ≡ names_go_on n (map name_of found) (map name_of left)
      at further [] = refl
      at further (x ∷ rest) =
          bind-bind (on_listed test x) (λ hit. hit_or name_of (on_listed test) direct hit (found ++ x ∷ []) (bind (direct x) (λ more. goes n (found ++ x ∷ []) (more ++ rest)))) (λ o. Return (as_names o))
          ∙ (λ i. bind (alike x i) (λ hit. hits x rest (λ more. further (found ++ x ∷ []) (more ++ rest)) hit i))

  -- The search along the list, where its types are seen by their names, is the search by names.
  abbrev by_name : {C : Type 0} → (Option B × List Name → C) → Option B × List JavaType → C
  by_name view outcome = view (outcome.0, map class_name outcome.1)

  abbrev visited_from : ℕ → Name → Asking (Option B × List Listed)
  visited_from n name = visit name_of (on_listed test) direct n n [] (first_listed name)

  within-names : {C : Type 0} (view : Option B × List Name → C) (most : ℕ) (name : Name) → bind (search_within most test name) (λ o. Return (by_name view o)) ≡ bind (names_within most test_name name) (λ o. Return (view o))
  unfolding search_within
  within-names view most name =
      bind-bind (visited_from most name) (λ o. Return (o.0, map given_type o.1)) (λ o. Return (by_name view o))
      ∙ (λ i. bind (visited_from most name) (λ o. Return (view (o.0, names-given o.1 i))))
      ∙ sym (bind-bind (visited_from most name) (λ o. Return (as_names o)) (λ o. Return (view o)))
      ∙ ap (λ (m : Asking (Option B × List Name)). bind m (λ o. Return (view o)))
      (ap named (visits-walk name_of (on_listed test) direct most most [] (first_listed name) (omega arith))
      ∙ walk-names (most - 0) [] (first_listed name ∷ [])
      ∙ sym (visits-walk itself test_name direct_names most most [] name (omega arith)))

  pub search-names : {C : Type 0} (view : Option B × List Name → C) (name : Name) → bind (search test name) (λ o. Return (by_name view o)) ≡ bind (name_search test_name name) (λ o. Return (view o))
  search-names view name = λ i. Unbounded (λ most. within-names view most name i)

-- ---- what is defined along the list of supertypes

-- the class of a name is a hit
abbrev pub is_that : Name → Name → Asking (Option (Unit {0}))
is_that upper name = Return (if pointwise nat_eq name upper then Some tt else None)

-- no class is
abbrev pub no_class : Name → Asking (Option (Unit {0}))
no_class name = Return None

-- whether there was a hit, the names up to it, and the hit
abbrev pub was_hit : Option (Unit {0}) × List Name → Bool
was_hit outcome = is_hit outcome.0

abbrev pub names_found : Option (Unit {0}) × List Name → List Name
names_found outcome = outcome.1

abbrev pub hit_found : {B : Type 0} → Option B × List Name → Option B
hit_found outcome = outcome.0

pub on-list-names : (lower upper : Name) → is_on_list lower upper ≡ bind (name_search (is_that upper) lower) (λ o. Return (was_hit o))
unfolding is_on_list
on-list-names lower upper = search-names (is_named upper) (is_that upper) (λ class. refl) was_hit lower

pub supertypes-names : (name : Name) → supertypes_of name ≡ bind (name_search no_class name) (λ o. Return (names_found o))
supertypes-names name =
    bind-bind (search no_hit name) (λ o. Return o.1) (λ types. Return (map class_name types)) ∙ search-names no_hit no_class (λ class. refl) names_found name

pub first-names : {B : Type 0} (test : JavaType → Asking (Option B)) (test_name : Name → Asking (Option B)) (alike : (class : Listed) → test (given_type class) ≡ test_name class.name) (name : Name)
    → first_along test name ≡ bind (name_search test_name name) (λ o. Return (hit_found o))
first-names test test_name alike name = search-names test test_name alike hit_found name
