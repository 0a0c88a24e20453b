-- Types as they are written come to something, where simple names and member classes do.
use Rattle.std.specs.Prelude.{ℕ, zero, suc, ◌+◌, if◌then◌else◌, List, [], ◌∷◌, map, codes, Option, None, Some}
use Rattle.std.specs.Option.{option_map_or}
use Rattle.pj_names.specs.Asking.{Asking, Return}
use Rattle.pj_names.specs.ClassName.{Name}
use Rattle.pj_names.specs.JavaType.{JavaType, Class, Unknown}
use Rattle.pj_signatures.specs.Types.{arguments_of}
use Rattle.pj_symbols.specs.declared.class.Class.{Class as DeclaredClass}
use Rattle.pj_tree.specs.Kinds.{is_kind}
use Rattle.pj_tree.specs.Tree.{Tree, kind_of}
use Rattle.pj_tree.specs.Words.{has, words_of}
use Rattle.pj_tree.specs.declared.kind.Kind.{Kind}
use Rattle.pj_tree.specs.declared.kind.Kind.TheVariants as k
use Rattle.pj_tree.specs.declared.node.Node.{Node}
use Rattle.pj_written.specs.declared.written.Written.{Written}
use Rattle.pj_written.specs.Fits.{bare, brackets, fits, most_signs}
use Rattle.pj_written.specs.Names.{with_dots}
use Rattle.pj_written.specs.Types.{arrays, as_argument, object_type}
use Rattle.pj_written.specs.Words.{below_child, last_child}
use Rattle.pj_written.specs.Written.{written_name}
use Rattle.pj_outer_names.specs.Candidates.{as_type, dotted_class}
use Rattle.pj_type_names.specs.Resolved.{argument_by, argument_within, arguments_by, bare_by, class_along, class_of, class_type, member_of, members_along, packaged, type_by, type_written, with_arguments}
use Rattle.pj_settling.specs.Settling.{Settles, World}
use Rattle.pj_settling.proofs.Settled.{after, by_test, for_each, given, made_by}
use Rattle.pj_settled_names.proofs.Outside.{dotted_class_settles}

module _ {world : World} where
  packaged_settles : (classes : List DeclaredClass) (parts : List (List ℕ)) → Settles world (packaged classes parts)
  packaged_settles classes parts = made_by {m = dotted_class classes (with_dots parts)} as_type (dotted_class_settles classes (with_dots parts))

  module _ (argument : Node → Asking JavaType) (settle : (n : Node) → Settles world (argument n)) where
    arguments_settle : (list : List Node) → Settles world (arguments_by argument list)
    arguments_settle list = made_by (λ types. arguments_of (map as_argument types)) (for_each {m = argument} settle list)

    with_arguments_settles : (list : List Node) (ty : JavaType) → Settles world (with_arguments argument list ty)
    with_arguments_settles list (Class name none) = made_by {m = arguments_by argument list} (λ arguments. Class name arguments) (arguments_settle list)
    with_arguments_settles list other = given _

  or_unknown_settles : (m : Node → Asking JavaType) → ((n : Node) → Settles world (m n)) → (n : Option Node) → Settles world (option_map_or m n (Return Unknown))
  or_unknown_settles m h None = given Unknown
  or_unknown_settles m h (Some n) = h n

  module _ (t : Tree) (classes : List DeclaredClass) (simple : Node → List ℕ → Asking JavaType) (member : Name → List ℕ → Asking JavaType)
      (simple_settles : (place : Node) (text : List ℕ) → Settles world (simple place text)) (member_settles : (class : Name) (text : List ℕ) → Settles world (member class text)) where
    member_of_settles : (ty : JavaType) (name : List ℕ) → Settles world (member_of t classes simple member ty name)
    member_of_settles (Class outer arguments) name = member_settles outer name
    member_of_settles other name = given _

    members_along_settle : (ty : JavaType) (parts : List (List ℕ)) → Settles world (members_along t classes simple member ty parts)
    members_along_settle ty [] = given _
    members_along_settle ty (part ∷ more) = after (member_of_settles ty part) (λ next. members_along_settle next more)

    class_along_settles : (place : Node) (parts : List (List ℕ)) → Settles world (class_along t classes simple member place parts)
    class_along_settles place [] = given _
    class_along_settles place (first ∷ more) = after (simple_settles place first) (λ ty. members_along_settle ty more)

    pub class_of_settles : (name : Written) → Settles world (class_of t classes simple member name)
    class_of_settles name = by_test name.has_package (packaged_settles classes name.parts) (class_along_settles name.at name.parts)

    module _ (argument : Node → Asking JavaType) (settle : (n : Node) → Settles world (argument n)) where
      class_type_settles : (n : Node) → Settles world (class_type t classes simple member argument n)
      class_type_settles n = after (class_of_settles (written_name t n)) (λ ty. with_arguments_settles argument settle (below_child t n k.TypeArguments) ty)

      bare_settles : (n : Node) (kind : Option Kind) → Settles world (bare_by t classes simple member argument n kind)
      bare_settles n (Some k.PrimitiveType) = given _
      bare_settles n (Some k.VoidType) = given _
      bare_settles n (Some k.ClassType) = class_type_settles n
      bare_settles n other = given _

      type_settles : (n : Node) → Settles world (type_by t classes simple member argument n)
      type_settles n = made_by {m = bare_by t classes simple member argument (bare t n) (kind_of t (bare t n))} (arrays (brackets t n)) (bare_settles (bare t n) (kind_of t (bare t n)))

      argument_settles : (n : Node) → Settles world (argument_by t classes simple member argument n)
      argument_settles n =
          by_test (is_kind t k.WildcardType n)
          (by_test (has (codes "extends") (words_of t n)) (or_unknown_settles (type_by t classes simple member argument) type_settles (last_child t n)) (given object_type))
          (type_settles n)

    argument_within_settles : (deep : ℕ) (n : Node) → Settles world (argument_within t classes simple member deep n)
    argument_within_settles zero n = given _
    argument_within_settles (suc deep) n = argument_settles (argument_within t classes simple member deep) (argument_within_settles deep) n

    pub type_written_settles : (around behind : ℕ) (n : Node) → Settles world (type_written t classes simple member around behind n)
    type_written_settles around behind n =
        by_test (fits t (around + behind) n)
        (made_by {m = type_by t classes simple member (argument_within t classes simple member most_signs) n} (arrays behind)
        (type_settles (argument_within t classes simple member most_signs) (argument_within_settles most_signs) n)) (given _)
