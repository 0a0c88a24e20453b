-- The meanings of names of types ask no class of the file. So over an oracle that answers the classes of the file by meanings of its own they are
-- what they are over the oracle beneath: where such meanings stand in the places of the names that are asked, nothing changes.
use Rattle.std.specs.Prelude.{◌≡◌, ℕ, zero, suc, ◌+◌, ◌||◌, Bool, true, false, not, refl, Option, None, Some, if◌then◌else◌, List, [], ◌∷◌, ◌++◌, is_some, map, codes, unwrap_or}
use Rattle.std.proofs.Common.{ap, sym, ◌∙◌}
use Rattle.std.specs.Option.{option_map, option_map_or}
use Rattle.pj_tree.specs.Tree.{Tree, kind_of}
use Rattle.pj_tree.specs.declared.kind.Kind.{Kind}
use Rattle.pj_tree.specs.declared.kind.Kind.TheVariants as k
use Rattle.pj_tree.specs.declared.node.Node.{Node}
use Rattle.pj_tree.specs.Kinds.{is_kind}
use Rattle.pj_tree.specs.Words.{words_of, has}
use Rattle.pj_names.specs.declared.answer.Answer.{Answer}
use Rattle.pj_names.specs.Asking.{Asking, Return, Ask, Unbounded, ask, bind, each, first_hit, or_else, hit_or as visit_hit}
use Rattle.pj_names.specs.ClassName.{Name, is_class_name, is_object}
use Rattle.pj_names.specs.Expand.{expand}
use Rattle.pj_names.specs.JavaType.{Arguments, Class, JavaType, Unknown, Variable, Void, Primitive, Array, Null}
use Rattle.pj_names.proofs.ExpandLaws.{expand-bind}
use Rattle.pj_names.proofs.MeaningLaws.{bind-Return}
use Rattle.pj_signatures.specs.Types.{arguments_of}
use Rattle.pj_symbols.specs.declared.class.Class.{Class as DeclaredClass}
use Rattle.pj_types.specs.DepthFirst.{in_turn, is_left_out, visit}
use Rattle.pj_types.specs.NameSearch.{itself}
use Rattle.pj_types.specs.Supertypes.{of_answer}
use Rattle.pj_declared.specs.declared.imports.ImportSort.TheVariants.{OfType, Static}
use Rattle.pj_declared.specs.declared.nearest.Declared.{Declared}
use Rattle.pj_declared.specs.Nearest.{single_import, type_meant}
use Rattle.pj_declared.specs.Rows.{names_type_parameter}
use Rattle.pj_written.specs.declared.written.Written.{Written}
use Rattle.pj_written.specs.Fits.{bare, brackets, fits, most_signs}
use Rattle.pj_written.specs.Headers.{all_bounds, bounds_of, class_text, implied_supertypes, written_supertypes}
use Rattle.pj_written.specs.Names.{with_dots}
use Rattle.pj_written.specs.Types.{arrays, as_argument, class_of_text, object_type, primitive_of}
use Rattle.pj_written.specs.Words.{below_child, last_child, same_text}
use Rattle.pj_written.specs.Written.{name_of_text, written_name}
use Rattle.pj_outer_names.specs.Around.{searched}
use Rattle.pj_outer_names.specs.Candidates.{as_type, asked_class, candidates, class_named, dotted_class, file_classes, first_candidate, found_class, is_known, node_named, there}
use Rattle.pj_outer_names.specs.Imports.{by_import, imported, imported_or, imported_text, imports_on_demand, in_package, in_package_or, name_in_package, on_demand, one_among, outside}
use Rattle.pj_outer_names.specs.Inherited.{class_names, first_member, inherited_member, listed_names, member_along, member_in, outside_supertypes}
use Rattle.pj_type_names.specs.Resolved as writing
use Rattle.pj_type_names.specs.TypeName as names
use Rattle.pj_type_names.specs.TypeName.{direct}

-- ---- the parts of a meaning

module _ (F : Name → Asking Answer) where
  returned : {A : Type 0} (v : A) → expand F (Return v) ≡ Return v
  unfolding expand
  returned v = refl

  deeper : {A : Type 0} (f g : ℕ → Asking A) → ((d : ℕ) → expand F (f d) ≡ g d) → expand F (Unbounded f) ≡ Unbounded g
  unfolding expand
  deeper f g same = λ i. Unbounded (λ d. same d i)

  asked : (name : Name) → expand F (ask name) ≡ F name
  unfolding expand
  asked name = bind-Return (F name)

  sequenced : {A B : Type 0} (m n : Asking A) (f g : A → Asking B) → expand F m ≡ n → ((v : A) → expand F (f v) ≡ g v) → expand F (bind m f) ≡ bind n g
  sequenced m n f g first rest = expand-bind F m f ∙ (λ i. bind (first i) (λ v. rest v i))

  either : {A : Type 0} (b : Bool) (m n x y : Asking A) → (b ≡ true → expand F m ≡ x) → (b ≡ false → expand F n ≡ y) → expand F (if b then m else n) ≡ (if b then x else y)
  either true m n x y first second = first refl
  either false m n x y first second = second refl

  in_each : {A B : Type 0} (f g : A → Asking B) → ((x : A) → expand F (f x) ≡ g x) → (xs : List A) → expand F (each f xs) ≡ each g xs
  in_each f g same [] = returned []
  in_each f g same (x ∷ xs) =
      sequenced (f x) (g x) (λ v. bind (each f xs) (λ vs. Return (v ∷ vs))) (λ v. bind (each g xs) (λ vs. Return (v ∷ vs))) (same x)
      (λ v. sequenced (each f xs) (each g xs) (λ vs. Return (v ∷ vs)) (λ vs. Return (v ∷ vs)) (in_each f g same xs) (λ vs. returned (v ∷ vs)))

  or_further : {A : Type 0} (hit : Option A) (m n : Asking (Option A)) → expand F m ≡ n → expand F (or_else hit m) ≡ or_else hit n
  or_further None m n same = same
  or_further (Some hit) m n same = returned (Some hit)

  in_first : {A B : Type 0} (f g : A → Asking (Option B)) → ((x : A) → expand F (f x) ≡ g x) → (xs : List A) → expand F (first_hit f xs) ≡ first_hit g xs
  in_first f g same [] = returned None
  in_first f g same (x ∷ xs) =
      sequenced (f x) (g x) (λ hit. or_else hit (first_hit f xs)) (λ hit. or_else hit (first_hit g xs)) (same x)
      (λ hit. or_further hit (first_hit f xs) (first_hit g xs) (in_first f g same xs))

  -- a recursion with visited names
  module _ {B : Type 0} (test : Name → Asking (Option B)) (next other : Name → Asking (List Name)) (most : ℕ)
      (same_test : (name : Name) → expand F (test name) ≡ test name) (same_next : (name : Name) → expand F (next name) ≡ other name) where
    on_visit : (hit : Option B) (found : List Name) (m n : Asking (Option B × List Name)) → expand F m ≡ n → expand F (visit_hit itself test next hit found m) ≡ visit_hit itself test other hit found n
    on_visit None found m n same = same
    on_visit (Some hit) found m n same = returned (Some hit, found)

    turns : (f g : List Name → Name → Asking (Option B × List Name)) → ((visited : List Name) (x : Name) → expand F (f visited x) ≡ g visited x)
        → (visited xs : List Name) → expand F (in_turn itself test next most f visited xs) ≡ in_turn itself test other most g visited xs
    turns f g same visited [] = returned (None, visited)
    turns f g same visited (x ∷ xs) =
        sequenced (f visited x) (g visited x) (λ outcome. visit_hit itself test next outcome.0 outcome.1 (in_turn itself test next most f outcome.1 xs))
        (λ outcome. visit_hit itself test other outcome.0 outcome.1 (in_turn itself test other most g outcome.1 xs)) (same visited x)
        (λ outcome. on_visit outcome.0 outcome.1 (in_turn itself test next most f outcome.1 xs) (in_turn itself test other most g outcome.1 xs) (turns f g same outcome.1 xs))

    visits : (depth : ℕ) (visited : List Name) (x : Name) → expand F (visit itself test next most depth visited x) ≡ visit itself test other most depth visited x
    visits zero visited x = returned (None, visited)
    visits (suc depth) visited x =
        either (is_left_out itself test next most visited x) (Return (None, visited))
        (bind (test x) (λ hit. visit_hit itself test next hit (visited ++ x ∷ []) (bind (next x) (λ more. in_turn itself test next most (visit itself test next most depth) (visited ++ x ∷ []) more))))
        (Return (None, visited))
        (bind (test x) (λ hit. visit_hit itself test other hit (visited ++ x ∷ []) (bind (other x) (λ more. in_turn itself test other most (visit itself test other most depth) (visited ++ x ∷ []) more))))
        (λ out. returned (None, visited))
        (λ new. sequenced (test x) (test x)
        (λ hit. visit_hit itself test next hit (visited ++ x ∷ []) (bind (next x) (λ more. in_turn itself test next most (visit itself test next most depth) (visited ++ x ∷ []) more)))
        (λ hit. visit_hit itself test other hit (visited ++ x ∷ []) (bind (other x) (λ more. in_turn itself test other most (visit itself test other most depth) (visited ++ x ∷ []) more)))
        (same_test x)
        (λ hit. on_visit hit (visited ++ x ∷ []) (bind (next x) (λ more. in_turn itself test next most (visit itself test next most depth) (visited ++ x ∷ []) more))
        (bind (other x) (λ more. in_turn itself test other most (visit itself test other most depth) (visited ++ x ∷ []) more))
        (sequenced (next x) (other x) (λ more. in_turn itself test next most (visit itself test next most depth) (visited ++ x ∷ []) more)
        (λ more. in_turn itself test other most (visit itself test other most depth) (visited ++ x ∷ []) more) (same_next x)
        (λ more. turns (visit itself test next most depth) (visit itself test other most depth) (visits depth) (visited ++ x ∷ []) more))))

-- ---- behind the scopes of a file

module _ (t : Tree) (classes : List DeclaredClass) (F : Name → Asking Answer) (others : (name : Name) → is_known classes name ≡ false → F name ≡ ask name) where
  outside_asked : {A : Type 0} (name : Name) (f : Answer → A) → is_known classes name ≡ false → expand F (bind (ask name) (λ answer. Return (f answer))) ≡ bind (ask name) (λ answer. Return (f answer))
  outside_asked name f unknown = sequenced F (ask name) (ask name) (λ answer. Return (f answer)) (λ answer. Return (f answer)) (asked F name ∙ others name unknown) (λ answer. returned F (f answer))

  found_same : (text : List ℕ) → expand F (found_class classes text) ≡ found_class classes text
  found_same text =
      either F (not (is_class_name text)) (Return None) (if is_known classes text then Return (Some text) else asked_class text) (Return None) (if is_known classes text then Return (Some text) else asked_class text)
      (λ none. returned F None)
      (λ named. either F (is_known classes text) (Return (Some text)) (asked_class text) (Return (Some text)) (asked_class text) (λ known. returned F (Some text)) (λ unknown. outside_asked text (there text) unknown))

  candidate_same : (text : List ℕ) → expand F (first_candidate classes text) ≡ first_candidate classes text
  candidate_same text = in_first F (found_class classes) (found_class classes) found_same (candidates text)

  dotted_same : (text : List ℕ) → expand F (dotted_class classes text) ≡ dotted_class classes text
  dotted_same text =
      either F (is_class_name text) (bind (first_candidate classes text) (λ found. Return (Some (unwrap_or found text)))) (Return None)
      (bind (first_candidate classes text) (λ found. Return (Some (unwrap_or found text)))) (Return None)
      (λ named. sequenced F (first_candidate classes text) (first_candidate classes text) (λ found. Return (Some (unwrap_or found text))) (λ found. Return (Some (unwrap_or found text)))
      (candidate_same text) (λ found. returned F (Some (unwrap_or found text))))
      (λ none. returned F None)

  imported_same : (import : Node) → expand F (imported t classes import) ≡ imported t classes import
  imported_same import =
      sequenced F (dotted_class classes (imported_text t import)) (dotted_class classes (imported_text t import)) (λ name. Return (as_type name)) (λ name. Return (as_type name))
      (dotted_same (imported_text t import)) (λ name. returned F (as_type name))

  on_demand_same : (simple : List ℕ) → expand F (on_demand t classes simple) ≡ on_demand t classes simple
  on_demand_same simple =
      sequenced F (each (by_import t classes simple) (imports_on_demand t)) (each (by_import t classes simple) (imports_on_demand t))
      (λ hits. bind (first_candidate classes (codes "java.lang." ++ simple)) (λ last. Return (one_among (hits ++ last ∷ []))))
      (λ hits. bind (first_candidate classes (codes "java.lang." ++ simple)) (λ last. Return (one_among (hits ++ last ∷ []))))
      (in_each F (by_import t classes simple) (by_import t classes simple) (λ import. candidate_same (imported_text t import ++ simple)) (imports_on_demand t))
      (λ hits. sequenced F (first_candidate classes (codes "java.lang." ++ simple)) (first_candidate classes (codes "java.lang." ++ simple))
      (λ last. Return (one_among (hits ++ last ∷ []))) (λ last. Return (one_among (hits ++ last ∷ []))) (candidate_same (codes "java.lang." ++ simple)) (λ last. returned F (one_among (hits ++ last ∷ []))))

  in_package_or_same : (simple : List ℕ) (found : Option Name) → expand F (in_package_or t classes simple found) ≡ in_package_or t classes simple found
  in_package_or_same simple None = on_demand_same simple
  in_package_or_same simple (Some name) = returned F _

  in_package_same : (simple : List ℕ) → expand F (in_package t classes simple) ≡ in_package t classes simple
  in_package_same simple =
      sequenced F (found_class classes (name_in_package t simple)) (found_class classes (name_in_package t simple)) (in_package_or t classes simple) (in_package_or t classes simple)
      (found_same (name_in_package t simple)) (in_package_or_same simple)

  imported_or_same : (import : Option Node) (rest : Asking JavaType) → expand F rest ≡ rest → expand F (imported_or t classes import rest) ≡ imported_or t classes import rest
  imported_or_same None rest same = same
  imported_or_same (Some import) rest same = imported_same import

  outside_same : (simple : List ℕ) → expand F (outside t classes simple) ≡ outside t classes simple
  outside_same simple =
      imported_or_same (single_import t OfType simple) (imported_or t classes (single_import t Static simple) (in_package t classes simple))
      (imported_or_same (single_import t Static simple) (in_package t classes simple) (in_package_same simple))

  supertypes_same : (name : Name) → is_known classes name ≡ false → expand F (outside_supertypes name) ≡ outside_supertypes name
  supertypes_same name unknown = outside_asked name (λ answer. listed_names (of_answer None answer)) unknown

  -- ---- by what the direct supertypes of a class are

  module _ (supers other : Name → Asking (List Name)) (same_supers : (name : Name) → expand F (supers name) ≡ other name) where
    member_in_same : (passed_over : Name → Bool) (simple : List ℕ) (class : Name) → expand F (member_in classes passed_over simple class) ≡ member_in classes passed_over simple class
    member_in_same passed_over simple class =
        either F (is_object class || passed_over class) (Return None) (found_class classes (class ++ 36 ∷ simple)) (Return None) (found_class classes (class ++ 36 ∷ simple))
        (λ passed. returned F None) (λ looked. found_same (class ++ 36 ∷ simple))

    first_member_same : (passed_over : Name → Bool) (class : Name) (simple : List ℕ) → expand F (first_member classes supers passed_over class simple) ≡ first_member classes other passed_over class simple
    first_member_same passed_over class simple =
        deeper F (λ most. bind (visit itself (member_in classes passed_over simple) supers most most [] class) (λ outcome. Return outcome.0))
        (λ most. bind (visit itself (member_in classes passed_over simple) other most most [] class) (λ outcome. Return outcome.0))
        (λ most. sequenced F (visit itself (member_in classes passed_over simple) supers most most [] class) (visit itself (member_in classes passed_over simple) other most most [] class)
        (λ outcome. Return outcome.0) (λ outcome. Return outcome.0)
        (visits F (member_in classes passed_over simple) supers other most (member_in_same passed_over simple) same_supers most [] class) (λ outcome. returned F outcome.0))

    member_same : (class : Name) (simple : List ℕ) → expand F (names.member t classes supers class simple) ≡ names.member t classes other class simple
    member_same class simple =
        sequenced F (member_along classes supers class simple) (member_along classes other class simple) (λ hit. Return (names.member_found class simple hit)) (λ hit. Return (names.member_found class simple hit))
        (first_member_same (λ name. false) class simple) (λ hit. returned F (names.member_found class simple hit))

    inherited_same : (simple : List ℕ) (class : Node) → expand F (names.inherited t classes supers simple class) ≡ names.inherited t classes other simple class
    inherited_same simple class =
        either F (is_class_name (class_text t class)) (inherited_member classes supers (class_text t class) simple) (Return None) (inherited_member classes other (class_text t class) simple) (Return None)
        (λ named. first_member_same (same_text (class_text t class)) (class_text t class) simple) (λ none. returned F None)

    hit_same : (hit : Option Name) (rest further : Asking JavaType) → expand F rest ≡ further → expand F (names.hit_or hit rest) ≡ names.hit_or hit further
    hit_same None rest further same = same
    hit_same (Some name) rest further same = returned F _

    module _ (bound within : Node → Asking JavaType) (same_bound : (n : Node) → expand F (bound n) ≡ within n) where
      variable_same : (simple : List ℕ) (among : List Node) → expand F (names.variable t classes supers bound simple among) ≡ names.variable t classes other within simple among
      variable_same simple [] = returned F _
      variable_same simple (first ∷ more) = sequenced F (bound first) (within first) (λ ty. Return (Variable simple ty)) (λ ty. Return (Variable simple ty)) (same_bound first) (λ ty. returned F (Variable simple ty))

      declared_same : (simple : List ℕ) (n : Node) → expand F (names.declared_type t classes supers bound simple n) ≡ names.declared_type t classes other within simple n
      declared_same simple n =
          either F (names_type_parameter t n) (names.variable t classes supers bound simple (bounds_of t n)) (Return (class_of_text (class_text t n))) (names.variable t classes other within simple (bounds_of t n))
          (Return (class_of_text (class_text t n))) (λ parameter. variable_same simple (bounds_of t n)) (λ class. returned F (class_of_text (class_text t n)))

      declared_or_same : (simple : List ℕ) (found : Option Declared) → expand F (names.declared_or t classes supers bound simple found) ≡ names.declared_or t classes other within simple found
      declared_or_same simple None = outside_same simple
      declared_or_same simple (Some declared) = declared_same simple declared.node

      found_or_same : (place : Node) (simple : List ℕ) (found : Option Declared) → expand F (names.found_or t classes supers bound place simple found) ≡ names.found_or t classes other within place simple found
      found_or_same place simple found =
          sequenced F (first_hit (names.inherited t classes supers simple) (searched t place found)) (first_hit (names.inherited t classes other simple) (searched t place found))
          (λ hit. names.hit_or hit (names.declared_or t classes supers bound simple found)) (λ hit. names.hit_or hit (names.declared_or t classes other within simple found))
          (in_first F (names.inherited t classes supers simple) (names.inherited t classes other simple) (inherited_same simple) (searched t place found))
          (λ hit. hit_same hit (names.declared_or t classes supers bound simple found) (names.declared_or t classes other within simple found) (declared_or_same simple found))

      simple_same : (place : Node) (simple : List ℕ) → expand F (names.simple_name t classes supers bound place simple) ≡ names.simple_name t classes other within place simple
      simple_same place simple =
          either F (is_class_name simple) (names.found_or t classes supers bound place simple (type_meant t simple place)) (Return Unknown) (names.found_or t classes other within place simple (type_meant t simple place))
          (Return Unknown) (λ named. found_or_same place simple (type_meant t simple place)) (λ none. returned F Unknown)

-- ---- types as they are written, by what simple names and member classes are

module _ (t : Tree) (classes : List DeclaredClass) (F : Name → Asking Answer) (others : (name : Name) → is_known classes name ≡ false → F name ≡ ask name)
    (simple simply : Node → List ℕ → Asking JavaType) (same_simple : (place : Node) (text : List ℕ) → expand F (simple place text) ≡ simply place text)
    (member other : Name → List ℕ → Asking JavaType) (same_member : (class : Name) (text : List ℕ) → expand F (member class text) ≡ other class text) where
  packaged_same : (parts : List (List ℕ)) → expand F (writing.packaged classes parts) ≡ writing.packaged classes parts
  packaged_same parts =
      sequenced F (dotted_class classes (with_dots parts)) (dotted_class classes (with_dots parts)) (λ found. Return (as_type found)) (λ found. Return (as_type found))
      (dotted_same t classes F others (with_dots parts)) (λ found. returned F (as_type found))

  member_of_same : (ty : JavaType) (name : List ℕ) → expand F (writing.member_of t classes simple member ty name) ≡ writing.member_of t classes simply other ty name
  member_of_same (Class outer arguments) name = same_member outer name
  member_of_same Unknown name = returned F Unknown
  member_of_same Void name = returned F Unknown
  member_of_same Null name = returned F Unknown
  member_of_same (Primitive p) name = returned F Unknown
  member_of_same (Array ty) name = returned F Unknown
  member_of_same (Variable text bound) name = returned F Unknown

  members_same : (ty : JavaType) (parts : List (List ℕ)) → expand F (writing.members_along t classes simple member ty parts) ≡ writing.members_along t classes simply other ty parts
  members_same ty [] = returned F ty
  members_same ty (part ∷ more) =
      sequenced F (writing.member_of t classes simple member ty part) (writing.member_of t classes simply other ty part) (λ next. writing.members_along t classes simple member next more)
      (λ next. writing.members_along t classes simply other next more) (member_of_same ty part) (λ next. members_same next more)

  along_same : (place : Node) (parts : List (List ℕ)) → expand F (writing.class_along t classes simple member place parts) ≡ writing.class_along t classes simply other place parts
  along_same place [] = returned F Unknown
  along_same place (first ∷ more) =
      sequenced F (simple place first) (simply place first) (λ ty. writing.members_along t classes simple member ty more) (λ ty. writing.members_along t classes simply other ty more)
      (same_simple place first) (λ ty. members_same ty more)

  class_of_same : (name : Written) → expand F (writing.class_of t classes simple member name) ≡ writing.class_of t classes simply other name
  class_of_same name =
      either F name.has_package (writing.packaged classes name.parts) (writing.class_along t classes simple member name.at name.parts) (writing.packaged classes name.parts)
      (writing.class_along t classes simply other name.at name.parts) (λ package_first. packaged_same name.parts) (λ none. along_same name.at name.parts)

  arguments_same : (argument meant : Node → Asking JavaType) → ((n : Node) → expand F (argument n) ≡ meant n) → (list : List Node) → expand F (writing.arguments_by argument list) ≡ writing.arguments_by meant list
  arguments_same argument meant same list =
      sequenced F (each argument list) (each meant list) (λ types. Return (arguments_of (map as_argument types))) (λ types. Return (arguments_of (map as_argument types)))
      (in_each F argument meant same list) (λ types. returned F (arguments_of (map as_argument types)))

  with_same : (argument meant : Node → Asking JavaType) → ((n : Node) → expand F (argument n) ≡ meant n) → (list : List Node) (ty : JavaType)
      → expand F (writing.with_arguments argument list ty) ≡ writing.with_arguments meant list ty
  with_same argument meant same list (Class name none) =
      sequenced F (writing.arguments_by argument list) (writing.arguments_by meant list) (λ arguments. Return (Class name arguments)) (λ arguments. Return (Class name arguments))
      (arguments_same argument meant same list) (λ arguments. returned F (Class name arguments))
  with_same argument meant same list Unknown = returned F Unknown
  with_same argument meant same list Void = returned F Void
  with_same argument meant same list Null = returned F Null
  with_same argument meant same list (Primitive p) = returned F (Primitive p)
  with_same argument meant same list (Array ty) = returned F (Array ty)
  with_same argument meant same list (Variable text bound) = returned F (Variable text bound)

  module _ (argument meant : Node → Asking JavaType) (same_argument : (n : Node) → expand F (argument n) ≡ meant n) where
    class_type_same : (n : Node) → expand F (writing.class_type t classes simple member argument n) ≡ writing.class_type t classes simply other meant n
    class_type_same n =
        sequenced F (writing.class_of t classes simple member (written_name t n)) (writing.class_of t classes simply other (written_name t n))
        (λ ty. writing.with_arguments argument (below_child t n k.TypeArguments) ty) (λ ty. writing.with_arguments meant (below_child t n k.TypeArguments) ty)
        (class_of_same (written_name t n)) (λ ty. with_same argument meant same_argument (below_child t n k.TypeArguments) ty)

    bare_same : (n : Node) (kind : Option Kind) → expand F (writing.bare_by t classes simple member argument n kind) ≡ writing.bare_by t classes simply other meant n kind
    bare_same n (Some k.PrimitiveType) = returned F (primitive_of (words_of t n))
    bare_same n (Some k.VoidType) = returned F Void
    bare_same n (Some k.ClassType) = class_type_same n
    bare_same n further = returned F Unknown

    type_by_same : (n : Node) → expand F (writing.type_by t classes simple member argument n) ≡ writing.type_by t classes simply other meant n
    type_by_same n =
        sequenced F (writing.bare_by t classes simple member argument (bare t n) (kind_of t (bare t n))) (writing.bare_by t classes simply other meant (bare t n) (kind_of t (bare t n)))
        (λ ty. Return (arrays (brackets t n) ty)) (λ ty. Return (arrays (brackets t n) ty)) (bare_same (bare t n) (kind_of t (bare t n))) (λ ty. returned F (arrays (brackets t n) ty))

    last_same : (last : Option Node) → expand F (option_map_or (writing.type_by t classes simple member argument) last (Return Unknown)) ≡ option_map_or (writing.type_by t classes simply other meant) last (Return Unknown)
    last_same None = returned F Unknown
    last_same (Some n) = type_by_same n

    argument_by_same : (n : Node) → expand F (writing.argument_by t classes simple member argument n) ≡ writing.argument_by t classes simply other meant n
    argument_by_same n =
        either F (is_kind t k.WildcardType n)
        (if has (codes "extends") (words_of t n) then option_map_or (writing.type_by t classes simple member argument) (last_child t n) (Return Unknown) else Return object_type)
        (writing.type_by t classes simple member argument n)
        (if has (codes "extends") (words_of t n) then option_map_or (writing.type_by t classes simply other meant) (last_child t n) (Return Unknown) else Return object_type)
        (writing.type_by t classes simply other meant n)
        (λ wildcard. either F (has (codes "extends") (words_of t n)) (option_map_or (writing.type_by t classes simple member argument) (last_child t n) (Return Unknown)) (Return object_type)
        (option_map_or (writing.type_by t classes simply other meant) (last_child t n) (Return Unknown)) (Return object_type) (λ bounded. last_same (last_child t n)) (λ free. returned F object_type))
        (λ plain. type_by_same n)

  argument_same : (deep : ℕ) (n : Node) → expand F (writing.argument_within t classes simple member deep n) ≡ writing.argument_within t classes simply other deep n
  argument_same zero n = returned F Unknown
  argument_same (suc deep) n = argument_by_same (writing.argument_within t classes simple member deep) (writing.argument_within t classes simply other deep) (argument_same deep) n

  written_same : (around behind : ℕ) (n : Node) → expand F (writing.type_written t classes simple member around behind n) ≡ writing.type_written t classes simply other around behind n
  written_same around behind n =
      either F (fits t (around + behind) n) (bind (writing.type_by t classes simple member (writing.argument_within t classes simple member most_signs) n) (λ ty. Return (arrays behind ty))) (Return Unknown)
      (bind (writing.type_by t classes simply other (writing.argument_within t classes simply other most_signs) n) (λ ty. Return (arrays behind ty))) (Return Unknown)
      (λ fitting. sequenced F (writing.type_by t classes simple member (writing.argument_within t classes simple member most_signs) n)
      (writing.type_by t classes simply other (writing.argument_within t classes simply other most_signs) n) (λ ty. Return (arrays behind ty)) (λ ty. Return (arrays behind ty))
      (type_by_same (writing.argument_within t classes simple member most_signs) (writing.argument_within t classes simply other most_signs) (argument_same most_signs) n) (λ ty. returned F (arrays behind ty)))
      (λ past. returned F Unknown)

-- ---- names and headers, by what the direct supertypes of a class are

module _ (t : Tree) (classes : List DeclaredClass) (F : Name → Asking Answer) (others : (name : Name) → is_known classes name ≡ false → F name ≡ ask name)
    (supers other : Name → Asking (List Name)) (same_supers : (name : Name) → expand F (supers name) ≡ other name) where
  bound_same : (bounds : ℕ) (n : Node) → expand F (names.bound_within t classes supers bounds n) ≡ names.bound_within t classes other bounds n
  bound_same zero n = returned F object_type
  bound_same (suc more) n =
      written_same t classes F others (names.simple_name t classes supers (names.bound_within t classes supers more)) (names.simple_name t classes other (names.bound_within t classes other more))
      (simple_same t classes F others supers other same_supers (names.bound_within t classes supers more) (names.bound_within t classes other more) (bound_same more))
      (names.member t classes supers) (names.member t classes other) (member_same t classes F others supers other same_supers) 1 0 n

  meant_same : (place : Node) (simple : List ℕ) → expand F (names.name_meant t classes supers place simple) ≡ names.name_meant t classes other place simple
  meant_same place simple = simple_same t classes F others supers other same_supers (names.bound_type t classes supers) (names.bound_type t classes other) (bound_same 1) place simple

  type_same : (behind : ℕ) (n : Node) → expand F (names.type_in t classes supers behind n) ≡ names.type_in t classes other behind n
  type_same behind n =
      written_same t classes F others (names.name_meant t classes supers) (names.name_meant t classes other) meant_same
      (names.member t classes supers) (names.member t classes other) (member_same t classes F others supers other same_supers) 0 behind n

  text_same : (place : Node) (text : List ℕ) → expand F (names.text_in t classes supers place text) ≡ names.text_in t classes other place text
  text_same place text =
      either F (is_class_name text) (writing.class_of t classes (names.name_meant t classes supers) (names.member t classes supers) (name_of_text place text)) (Return Unknown)
      (writing.class_of t classes (names.name_meant t classes other) (names.member t classes other) (name_of_text place text)) (Return Unknown)
      (λ named. class_of_same t classes F others (names.name_meant t classes supers) (names.name_meant t classes other) meant_same
      (names.member t classes supers) (names.member t classes other) (member_same t classes F others supers other same_supers) (name_of_text place text))
      (λ none. returned F Unknown)

  header_same : (class : Node) → expand F (names.header_supertypes t classes supers class) ≡ names.header_supertypes t classes other class
  header_same class =
      sequenced F (names.header_bounds t classes supers class) (names.header_bounds t classes other class) (λ bounds. names.header_names t classes supers class) (λ bounds. names.header_names t classes other class)
      (in_each F (names.bound_type t classes supers) (names.bound_type t classes other) (bound_same 1) (all_bounds t class))
      (λ bounds. sequenced F (names.header_types t classes supers class) (names.header_types t classes other class)
      (λ types. Return (implied_supertypes t class ++ class_names types)) (λ types. Return (implied_supertypes t class ++ class_names types))
      (in_each F (names.type_in t classes supers 0) (names.type_in t classes other 0) (type_same 0) (written_supertypes t class)) (λ types. returned F (implied_supertypes t class ++ class_names types)))

-- ---- the whole

module _ (t : Tree) (F : Name → Asking Answer) (others : (name : Name) → is_known (file_classes t) name ≡ false → F name ≡ ask name) where
  of_file_same : (left : ℕ) → ((busy : List ℕ) (name : Name) → expand F (names.direct t (file_classes t) left busy name) ≡ names.direct t (file_classes t) left busy name)
      → (busy : List ℕ) (class : Node) → expand F (names.supertypes_of_file t (file_classes t) (names.direct t (file_classes t) left) busy class) ≡ names.supertypes_of_file t (file_classes t) (names.direct t (file_classes t) left) busy class
  of_file_same left same busy class =
      let within = busy ++ class.0 ∷ [] in
      let deeper = names.direct t (file_classes t) left within in
      either F (names.is_busy busy class) (Return []) (names.header_supertypes t (file_classes t) deeper class) (Return []) (names.header_supertypes t (file_classes t) deeper class)
      (λ busy_now. returned F []) (λ entered. header_same t (file_classes t) F others deeper deeper (same within) class)

  by_class_same : (left : ℕ) → ((busy : List ℕ) (name : Name) → expand F (names.direct t (file_classes t) left busy name) ≡ names.direct t (file_classes t) left busy name)
      → (busy : List ℕ) (name : Name) (found : Option DeclaredClass) → is_object name ≡ false → class_named (file_classes t) name ≡ found
      → expand F (names.supertypes_by t (file_classes t) (names.direct t (file_classes t) left) busy name (option_map (λ (class : DeclaredClass). class.node) found))
      ≡ names.supertypes_by t (file_classes t) (names.direct t (file_classes t) left) busy name (option_map (λ (class : DeclaredClass). class.node) found)
  by_class_same left same busy name None plain is =
      supertypes_same t (file_classes t) F others name ((λ i. plain i || is_some (is i)))
  by_class_same left same busy name (Some class) plain is = of_file_same left same busy class.node

  direct_same : (left : ℕ) (busy : List ℕ) (name : Name) → expand F (names.direct t (file_classes t) left busy name) ≡ names.direct t (file_classes t) left busy name
  unfolding direct
  direct_same zero busy name = returned F []
  direct_same (suc left) busy name =
      either F (is_object name) (Return []) (names.supertypes_by t (file_classes t) (names.direct t (file_classes t) left) busy name (node_named (file_classes t) name))
      (Return []) (names.supertypes_by t (file_classes t) (names.direct t (file_classes t) left) busy name (node_named (file_classes t) name))
      (λ object. returned F []) (λ plain. by_class_same left (direct_same left) busy name (class_named (file_classes t) name) plain refl)

  supers_same : (busy : List ℕ) (name : Name) → expand F (names.supers_of t busy name) ≡ names.supers_of t busy name
  supers_same busy name = direct_same (names.enough t) busy name

  pub type_name-same : (place : Node) (text : List ℕ) → expand F (names.type_name t place text) ≡ names.type_name t place text
  type_name-same place text = text_same t (file_classes t) F others (names.supers_of t []) (names.supers_of t []) (supers_same []) place text

  pub written_type-same : (busy : List ℕ) (behind : ℕ) (n : Node) → expand F (names.written_type t busy behind n) ≡ names.written_type t busy behind n
  written_type-same busy behind n = type_same t (file_classes t) F others (names.supers_of t busy) (names.supers_of t busy) (supers_same busy) behind n

  pub written_bound-same : (busy : List ℕ) (n : Node) → expand F (names.written_bound t busy n) ≡ names.written_bound t busy n
  written_bound-same busy n = bound_same t (file_classes t) F others (names.supers_of t busy) (names.supers_of t busy) (supers_same busy) 1 n
