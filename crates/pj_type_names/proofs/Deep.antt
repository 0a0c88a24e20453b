-- The number by which lists of type arguments in one another are counted is never reached by a type that fits: each list has one sign more around it.
use Rattle.std.specs.Prelude.{◌≡◌, ℕ, zero, suc, ◌+◌, ◌<◌, ◌≤◌, ◌==◌, ◌&&◌, ◌||◌, Bool, true, false, refl, Option, None, Some, if◌then◌else◌, List, [], ◌∷◌, length, map, codes, nat_le}
use Rattle.std.proofs.Common.{ap, sym, ◌∙◌, arith}
use Rattle.std.specs.List.{list_all}
use Rattle.std.specs.Option.{option_map_or}
use Rattle.std.proofs.lemmas.Bool.{leb-true, ne_eqb}
use Rattle.pj_tree.specs.Tree.{Tree, kind_of}
use Rattle.pj_tree.specs.declared.kind.Kind.{Kind}
use Rattle.pj_tree.specs.declared.kind.Kind.TheVariants as k
use Rattle.pj_tree.specs.declared.node.Node.{Node}
use Rattle.pj_tree.specs.Kinds.{is_kind}
use Rattle.pj_tree.specs.Words.{words_of, has}
use Rattle.pj_names.specs.Asking.{Asking, Return, bind, each}
use Rattle.pj_names.specs.ClassName.{Name}
use Rattle.pj_names.specs.JavaType.{Array, Class, JavaType, Null, Primitive, Unknown, Variable, Void}
use Rattle.pj_signatures.specs.Types.{arguments_of}
use Rattle.pj_symbols.specs.declared.class.Class.{Class as DeclaredClass}
use Rattle.pj_written.specs.Fits.{argument_by as argument_fits, bare, brackets, fits_within, listed_fit, most_signs}
use Rattle.pj_written.specs.Types.{arrays, as_argument, object_type}
use Rattle.pj_written.specs.Words.{below_child, last_child}
use Rattle.pj_written.specs.Written.{written_name}
use Rattle.pj_type_names.specs.Resolved as writing
use Rattle.pj_type_names.specs.Resolved.{ArgumentsEnd}

first_holds : (a b : Bool) → (a && b) ≡ true → a ≡ true
first_holds true b is = refl
first_holds false b is = is

second_holds : (a b : Bool) → (a && b) ≡ true → b ≡ true
second_holds true b is = is
second_holds false b is = absurd (cc)

or_second : (a b : Bool) → a ≡ false → (a || b) ≡ true → b ≡ true
or_second true b none is = absurd (cc)
or_second false b none is = is

-- what is said where a list has arguments
low_signs : (signs : ℕ) (n : Node) (ns : List Node) (rest : Bool) → ((length (n ∷ ns) == 0 || nat_le signs most_signs) && rest) ≡ true → signs ≤ most_signs
low_signs signs n ns rest fit =
    let some : (length (n ∷ ns) == 0) ≡ false = ne_eqb (length (n ∷ ns)) 0 (λ is. omega (arith, is)) in
    leb-true signs most_signs (or_second (length (n ∷ ns) == 0) (nat_le signs most_signs) some (first_holds (length (n ∷ ns) == 0 || nat_le signs most_signs) rest fit))

module _ (t : Tree) (classes : List DeclaredClass) (simple : Node → List ℕ → Asking JavaType) (member : Name → List ℕ → Asking JavaType) where
  abbrev argument : ℕ → Node → Asking JavaType
  argument deep n = writing.argument_within t classes simple member deep n

  abbrev typed : ℕ → Node → Asking JavaType
  typed deep n = writing.type_by t classes simple member (argument deep) n

  -- ---- by the types of a list of arguments

  with_same : (deep more : ℕ) (list : List Node) → each (argument deep) list ≡ each (argument more) list → (ty : JavaType)
      → writing.with_arguments (argument deep) list ty ≡ writing.with_arguments (argument more) list ty
  with_same deep more list same (Class name none) = λ i. bind (bind (same i) (λ types. Return (arguments_of (map as_argument types)))) (λ arguments. Return (Class name arguments))
  with_same deep more list same Unknown = refl
  with_same deep more list same Void = refl
  with_same deep more list same Null = refl
  with_same deep more list same (Primitive p) = refl
  with_same deep more list same (Array ty) = refl
  with_same deep more list same (Variable text bound) = refl

  bare_same : (deep more : ℕ) (n : Node) → each (argument deep) (below_child t n k.TypeArguments) ≡ each (argument more) (below_child t n k.TypeArguments) → (kind : Option Kind)
      → writing.bare_by t classes simple member (argument deep) n kind ≡ writing.bare_by t classes simple member (argument more) n kind
  bare_same deep more n same (Some k.ClassType) = λ i. bind (writing.class_of t classes simple member (written_name t n)) (λ ty. with_same deep more (below_child t n k.TypeArguments) same ty i)
  bare_same deep more n same further = refl

  type_same : (deep more : ℕ) (n : Node) → each (argument deep) (below_child t (bare t n) k.TypeArguments) ≡ each (argument more) (below_child t (bare t n) k.TypeArguments) → typed deep n ≡ typed more n
  type_same deep more n same = λ i. bind (bare_same deep more (bare t n) same (kind_of t (bare t n)) i) (λ ty. Return (arrays (brackets t n) ty))

  -- ---- of types that fit

  list_same : (deep more : ℕ) (fitting : Node → Bool) → ((n : Node) → fitting n ≡ true → argument deep n ≡ argument more n) → (list : List Node) → list_all fitting list ≡ true
      → each (argument deep) list ≡ each (argument more) list
  list_same deep more fitting same [] fit = refl
  list_same deep more fitting same (n ∷ ns) fit =
      let first = same n (first_holds (fitting n) (list_all fitting ns) fit) in
      let rest = list_same deep more fitting same ns (second_holds (fitting n) (list_all fitting ns) fit) in
      λ i. bind (first i) (λ value. bind (rest i) (λ values. Return (value ∷ values)))

  by_last : (deep more : ℕ) (fitting : Node → Bool) → ((n : Node) → fitting n ≡ true → typed deep n ≡ typed more n) → (last : Option Node) → option_map_or fitting last true ≡ true
      → option_map_or (typed deep) last (Return Unknown) ≡ option_map_or (typed more) last (Return Unknown)
  by_last deep more fitting same None fit = refl
  by_last deep more fitting same (Some n) fit = same n fit

  by_word : (deep more : ℕ) (fitting : Node → Bool) → ((n : Node) → fitting n ≡ true → typed deep n ≡ typed more n) → (bounded : Bool) (last : Option Node)
      → (if bounded then option_map_or fitting last true else true) ≡ true
      → (if bounded then option_map_or (typed deep) last (Return Unknown) else Return object_type) ≡ (if bounded then option_map_or (typed more) last (Return Unknown) else Return object_type)
  by_word deep more fitting same true last fit = by_last deep more fitting same last fit
  by_word deep more fitting same false last fit = refl

  by_kind : (deep more : ℕ) (fitting : Node → Bool) → ((n : Node) → fitting n ≡ true → typed deep n ≡ typed more n) → (n : Node) (wildcard bounded : Bool) (last : Option Node)
      → (if wildcard then (if bounded then option_map_or fitting last true else true) else fitting n) ≡ true
      → (if wildcard then (if bounded then option_map_or (typed deep) last (Return Unknown) else Return object_type) else typed deep n)
      ≡ (if wildcard then (if bounded then option_map_or (typed more) last (Return Unknown) else Return object_type) else typed more n)
  by_kind deep more fitting same n true bounded last fit = by_word deep more fitting same bounded last fit
  by_kind deep more fitting same n false bounded last fit = same n fit

  argument_same : (deep more : ℕ) (fitting : Node → Bool) → ((n : Node) → fitting n ≡ true → typed deep n ≡ typed more n) → (n : Node) → argument_fits t fitting n ≡ true → argument (suc deep) n ≡ argument (suc more) n
  argument_same deep more fitting same n fit = by_kind deep more fitting same n (is_kind t k.WildcardType n) (has (codes "extends") (words_of t n)) (last_child t n) fit

  -- a list that has arguments opens a sign more
  listed_same : (deep more around signs : ℕ) (fitting : Node → Bool) → around < signs → most_signs ≤ around + deep → most_signs ≤ around + more
      → ((d e : ℕ) → most_signs ≤ signs + d → most_signs ≤ signs + e → (n : Node) → fitting n ≡ true → typed d n ≡ typed e n)
      → (list : List Node) → listed_fit t signs (argument_fits t fitting) list ≡ true → each (argument deep) list ≡ each (argument more) list
  listed_same deep more around signs fitting further few less same [] fit = refl
  listed_same zero more around signs fitting further few less same (n ∷ ns) fit =
      let low = low_signs signs n ns (nat_le (length (n ∷ ns)) most_signs && list_all (argument_fits t fitting) (n ∷ ns)) fit in
      absurd (omega (arith, low, further, few))
  listed_same (suc deep) zero around signs fitting further few less same (n ∷ ns) fit =
      let low = low_signs signs n ns (nat_le (length (n ∷ ns)) most_signs && list_all (argument_fits t fitting) (n ∷ ns)) fit in
      absurd (omega (arith, low, further, less))
  listed_same (suc deep) (suc more) around signs fitting further few less same (n ∷ ns) fit =
      let all = second_holds (nat_le (length (n ∷ ns)) most_signs) (list_all (argument_fits t fitting) (n ∷ ns))
      (second_holds (length (n ∷ ns) == 0 || nat_le signs most_signs) (nat_le (length (n ∷ ns)) most_signs && list_all (argument_fits t fitting) (n ∷ ns)) fit) in
      list_same (suc deep) (suc more) (argument_fits t fitting) (argument_same deep more fitting (same deep more (omega (arith, few, further)) (omega (arith, less, further)))) (n ∷ ns) all

  type_ends : (levels deep more around : ℕ) (n : Node) → fits_within t levels around n ≡ true → most_signs ≤ around + deep → most_signs ≤ around + more → typed deep n ≡ typed more n
  type_ends zero deep more around n fit few less = absurd (cc)
  type_ends (suc levels) deep more around n fit few less =
      let signs = around + brackets t n + 1 in
      let list = below_child t (bare t n) k.TypeArguments in
      let listed = second_holds (nat_le (around + brackets t n) most_signs) (listed_fit t signs (argument_fits t (fits_within t levels signs)) list) fit in
      type_same deep more n
      (listed_same deep more around signs (fits_within t levels signs) (omega arith) few less (λ d e enough other m fitting. type_ends levels d e signs m fitting enough other) list listed)

  pub arguments-end : (around : ℕ) (n : Node) → ArgumentsEnd t classes simple member around n
  arguments-end around n = λ fit more far. type_ends (most_signs + 1) more most_signs around n fit (omega (arith, far)) (omega arith)
