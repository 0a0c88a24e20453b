-- The number that bounds how deep headers lead into one another is never reached: each header that is entered has one class less to go.
use Rattle.std.proofs.Common.{◌≡◌, ℕ, ◌<◌, ◌≤◌, ◌==◌, ◌||◌, zero, suc, ap, arith, Bool, true, false, cond, List, [], ◌∷◌, ◌++◌, length, Option, None, Some, inl, inr, refl, sym, ◌∙◌}
use Rattle.std.specs.Prelude.{find, nat_eq, if◌then◌else◌}
use Rattle.std.specs.Cmp.Lexicographic.{pointwise}
use Rattle.std.specs.Option.{option_map}
use Rattle.std.proofs.lemmas.Bool.{cases_Bool}
use Rattle.std.proofs.lemmas.Bool.Decides.{nat_tests}
use Rattle.pj_tree.specs.Tree.{Tree}
use Rattle.pj_tree.specs.declared.node.Node.{Node}
use Rattle.pj_names.specs.Asking.{Asking, Return}
use Rattle.pj_names.specs.ClassName.{Name, is_object}
use Rattle.pj_symbols.specs.declared.class.Class.{Class as DeclaredClass}
use Rattle.pj_outer_names.specs.Candidates.{class_named, file_classes, node_named}
use Rattle.pj_type_names.specs.TypeName.{HeadersEnd, direct, enough, header_supertypes, is_busy, supertypes_by}

-- ---- classes whose headers are being resolved

same_number : (n : ℕ) → (n == n) ≡ true
same_number n = grind (arith, nat_tests)

or_right : (a b : Bool) → b ≡ true → (a || b) ≡ true
or_right true b is = refl
or_right false b is = is

-- the class that is added
added : (busy : List ℕ) (n : Node) → is_busy (busy ++ n.0 ∷ []) n ≡ true
added [] n = ap (λ b. b || false) (same_number n.0)
added (m ∷ busy) n = or_right (m == n.0) (is_busy (busy ++ n.0 ∷ []) n) (added busy n)

-- and each that was there
stays : (busy : List ℕ) (k : ℕ) (n : Node) → is_busy busy n ≡ true → is_busy (busy ++ k ∷ []) n ≡ true
stays [] k n is = absurd (cc)
stays (m ∷ busy) k n is = elim (cases_Bool (m == n.0)) [
  | inl here ↦ ap (λ b. b || is_busy (busy ++ k ∷ []) n) here
  | inr other ↦ or_right (m == n.0) (is_busy (busy ++ k ∷ []) n) (stays busy k n (sym (ap (λ b. b || is_busy busy n) other) ∙ is))
]

-- ---- those that are left

-- how many classes have a header that is not being resolved
abbrev left_over : List ℕ → List DeclaredClass → ℕ
left_over busy [] = 0
left_over busy (class ∷ classes) = cond (is_busy busy class.node) (left_over busy classes) (suc (left_over busy classes))

cond_below : (b : Bool) (x y : ℕ) → x ≤ y → cond b x (suc x) ≤ suc y
cond_below true x y below = omega (arith, below)
cond_below false x y below = omega (arith, below)

left_few : (busy : List ℕ) (classes : List DeclaredClass) → left_over busy classes ≤ length classes
left_few busy [] = omega arith
left_few busy (class ∷ classes) = cond_below (is_busy busy class.node) (left_over busy classes) (length classes) (left_few busy classes)

one_fewer : (b more : Bool) (x y : ℕ) → (b ≡ true → more ≡ true) → x ≤ y → cond more x (suc x) ≤ cond b y (suc y)
one_fewer true true x y same below = below
one_fewer true false x y same below = absurd (let is : false ≡ true = same refl in cc)
one_fewer false more x y same below = cond_below more x y below

no_more : (busy : List ℕ) (k : ℕ) (classes : List DeclaredClass) → left_over (busy ++ k ∷ []) classes ≤ left_over busy classes
no_more busy k [] = omega arith
no_more busy k (class ∷ classes) =
    one_fewer (is_busy busy class.node) (is_busy (busy ++ k ∷ []) class.node) (left_over (busy ++ k ∷ []) classes) (left_over busy classes) (stays busy k class.node) (no_more busy k classes)

strictly : (b more : Bool) (x y : ℕ) → (b ≡ true → more ≡ true) → x < y → cond more x (suc x) < cond b y (suc y)
strictly true true x y same below = below
strictly true false x y same below = absurd (let is : false ≡ true = same refl in cc)
strictly false true x y same below = omega (arith, below)
strictly false false x y same below = omega (arith, below)

-- a class of the file that is entered is one less
entered : (busy : List ℕ) (p : DeclaredClass → Bool) (classes : List DeclaredClass) (class : DeclaredClass) → find p classes ≡ Some class → is_busy busy class.node ≡ false
    → left_over (busy ++ class.node.0 ∷ []) classes < left_over busy classes
entered busy p [] class is free = absurd (cc)
entered busy p (one ∷ classes) class is free = at (p one) is (λ further. entered busy p classes class further free)
  where
    at : (b : Bool) → cond b (Some one) (find p classes) ≡ Some class
        → (find p classes ≡ Some class → left_over (busy ++ class.node.0 ∷ []) classes < left_over busy classes)
        → left_over (busy ++ class.node.0 ∷ []) (one ∷ classes) < left_over busy (one ∷ classes)
    at true here deeper =
        let same : one ≡ class = cc in
        let was : is_busy busy one.node ≡ false = ap (λ (c : DeclaredClass). is_busy busy c.node) same ∙ free in
        let now : is_busy (busy ++ class.node.0 ∷ []) one.node ≡ true = ap (λ (c : DeclaredClass). is_busy (busy ++ class.node.0 ∷ []) c.node) same ∙ added busy class.node in
        let few = no_more busy class.node.0 classes in
        let before : left_over busy (one ∷ classes) ≡ suc (left_over busy classes) = ap (λ b. cond b (left_over busy classes) (suc (left_over busy classes))) was in
        let behind : left_over (busy ++ class.node.0 ∷ []) (one ∷ classes) ≡ left_over (busy ++ class.node.0 ∷ []) classes =
        ap (λ b. cond b (left_over (busy ++ class.node.0 ∷ []) classes) (suc (left_over (busy ++ class.node.0 ∷ []) classes))) now in
        omega (arith, few, before, behind)
    at false further deeper =
        strictly (is_busy busy one.node) (is_busy (busy ++ class.node.0 ∷ []) one.node) (left_over (busy ++ class.node.0 ∷ []) classes) (left_over busy classes)
        (stays busy class.node.0 one.node) (deeper further)

-- ---- headers

module _ (t : Tree) (classes : List DeclaredClass) where
  abbrev Alike : ℕ → ℕ → List ℕ → Type 0
  Alike left more busy = (name : Name) → direct t classes left busy name ≡ direct t classes more busy name

  by_header : (left more : ℕ) (busy : List ℕ) (class : Node) (b : Bool) → (b ≡ false → Alike left more (busy ++ class.0 ∷ []))
      → (if b then Return [] else header_supertypes t classes (direct t classes left (busy ++ class.0 ∷ [])) class)
      ≡ (if b then Return [] else header_supertypes t classes (direct t classes more (busy ++ class.0 ∷ [])) class)
  by_header left more busy class true same = refl
  by_header left more busy class false same = λ i. header_supertypes t classes (λ name. same refl name i) class

  by_class : (left more : ℕ) (busy : List ℕ) (name : Name) (found : Option DeclaredClass)
      → ((class : DeclaredClass) → found ≡ Some class → is_busy busy class.node ≡ false → Alike left more (busy ++ class.node.0 ∷ []))
      → supertypes_by t classes (direct t classes left) busy name (option_map (λ (class : DeclaredClass). class.node) found)
      ≡ supertypes_by t classes (direct t classes more) busy name (option_map (λ (class : DeclaredClass). class.node) found)
  by_class left more busy name None same = refl
  by_class left more busy name (Some class) same = by_header left more busy class.node (is_busy busy class.node) (same class refl)

  by_name : (b : Bool) (none one other : Asking (List Name)) → one ≡ other → (if b then none else one) ≡ (if b then none else other)
  by_name true none one other same = refl
  by_name false none one other same = same

  alike : (left more : ℕ) (busy : List ℕ) → left_over busy classes < left → left_over busy classes < more → Alike left more busy
  unfolding direct
  alike zero more busy few less = absurd (omega (arith, few))
  alike (suc left) zero busy few less = absurd (omega (arith, less))
  alike (suc left) (suc more) busy few less = λ name.
      by_name (is_object name) (Return []) (supertypes_by t classes (direct t classes left) busy name (node_named classes name)) (supertypes_by t classes (direct t classes more) busy name (node_named classes name))
      (by_class left more busy name (class_named classes name) (λ class is free.
      let fewer : left_over (busy ++ class.node.0 ∷ []) classes < left_over busy classes = entered busy (λ class. pointwise nat_eq class.name name) classes class is free in
      alike left more (busy ++ class.node.0 ∷ []) (omega (arith, fewer, few)) (omega (arith, fewer, less))))

pub headers-end : (t : Tree) (busy : List ℕ) (name : Name) → HeadersEnd t busy name
headers-end t busy name = λ more far.
    let few = left_few busy (file_classes t) in
    alike t (file_classes t) more (enough t) busy (omega (arith, few, far)) (omega (arith, few)) name
