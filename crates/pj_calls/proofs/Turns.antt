-- Classes around, and the turns of the loops over arguments and types.
use Rattle.std.specs.Prelude.{Bool, true, false, ◌==◌, None, Some, if◌then◌else◌}
use Rattle.std.proofs.Common.{◌≡◌, ℕ, ◌<◌, ◌≤◌, ◌+◌, List, [], ◌∷◌, ◌++◌, length, get_or, drop, ap, refl, sym, ◌∙◌, append-nil, append_assoc, arith}
use Rattle.std.proofs.Math.ListN.{drop_of_length-le}
use Rattle.std.proofs.lemmas.List.{map-append}
use Rattle.std.proofs.lemmas.Option.{slice_get-map}
use Rattle.pj_tree.specs.Tree.{Tree}
use Rattle.pj_tree.specs.declared.node.Node.{Node}
use Rattle.pj_names.specs.declared.ty.Ty.{Ty}
use Rattle.pj_names.specs.JavaType.{JavaType, java_type, type_list}
use Rattle.pj_names.specs.ClassName.{Name, is_class_name}
use Rattle.pj_names.specs.Asking.{Return}
use Rattle.pj_names.proofs.AskingLaws.{left_from}
use Rattle.pj_types.specs.declared.members.Method.{Method}
use Rattle.pj_types.specs.Members.{all_methods}
use Rattle.pj_types.specs.Conversions.{boxed}
use Rattle.pj_outer_names.specs.Around.{further_in}
use Rattle.pj_written.specs.Headers.{class_text}
use Rattle.pj_calls.specs.Candidates.{if_any, of_around, of_class}
use Rattle.pj_calls.specs.Nodes.{functions_from, is_function}
use Rattle.pj_calls.specs.Results.{is_variable, passed_for}

-- ---- candidates, where there are some

pub if-none : (receiver : JavaType) (methods : List Method) (b : Bool) → b ≡ (length methods == 0) → b ≡ true → None ≡ if_any receiver (all_methods methods)
if-none receiver [] b is none = refl
if-none receiver (method ∷ methods) b is none = absurd (grind (arith, is, none))

pub if-some : (receiver : JavaType) (methods : List Method) (b : Bool) → b ≡ (length methods == 0) → b ≡ false
    → Some (record { receiver = receiver; methods = all_methods methods }) ≡ if_any receiver (all_methods methods)
if-some receiver [] b is some = absurd (grind (arith, is, some))
if-some receiver (method ∷ methods) b is some = refl

pub ruleset if_any_cases = (if-none, if-some)

-- ---- classes around

-- all of them are searched where nothing was found before
pub all-around : (classes : List Node) → further_in None classes ≡ classes
all-around [] = refl
all-around (class ∷ further) = ap (λ rest. class ∷ rest) (all-around further)

-- the class around has a name
pub around-named : (t : Tree) (name : List ℕ) (class : Node) (own : Name) → is_class_name (class_text t class) ≡ true → own ≡ class_text t class → of_around t name class ≡ of_class name own
around-named t name class own named is =
    ap (λ b. if b then of_class name (class_text t class) else Return None) named ∙ ap (λ n. of_class name n) (sym is)

-- or has none
pub around-none : (t : Tree) (name : List ℕ) (class : Node) → is_class_name (class_text t class) ≡ false → of_around t name class ≡ Return None
around-none t name class none = ap (λ b. if b then of_class name (class_text t class) else Return None) none

-- ---- turns

left_at : {X : Type 0} (xs : List X) (i : ℕ) (x : X) → i < length xs → x ≡ get_or xs i x → drop i xs ≡ x ∷ drop (i + 1) xs
left_at xs i x h is = left_from xs i x h ∙ ap (λ y. y ∷ drop (i + 1) xs) (sym is)

push : {X : Type 0} (front : List X) (x : X) (rest : List X) → (front ++ x ∷ []) ++ rest ≡ front ++ x ∷ rest
push front x rest = append_assoc front (x ∷ []) rest

-- places of functions

pub place-left : (t : Tree) (places : List ℕ) (place : ℕ) (n : Node) (rest : List Node) → is_function t n ≡ false
    → places ++ functions_from t (place + 1) rest ≡ places ++ functions_from t place (n ∷ rest)
place-left t places place n rest none =
    sym (ap (λ b. places ++ (if b then place ∷ functions_from t (place + 1) rest else functions_from t (place + 1) rest)) none)

pub place-put : (t : Tree) (old new : List ℕ) (place number : ℕ) (n : Node) (rest : List Node) → is_function t n ≡ true → number ≡ place → new ≡ old ++ number ∷ []
    → new ++ functions_from t (place + 1) rest ≡ old ++ functions_from t place (n ∷ rest)
place-put t old new place number n rest is same put =
    ap (λ (l : List ℕ). l ++ functions_from t (place + 1) rest) (put ∙ ap (λ p. old ++ p ∷ []) same)
    ∙ push old place (functions_from t (place + 1) rest)
    ∙ sym (ap (λ b. old ++ (if b then place ∷ functions_from t (place + 1) rest else functions_from t (place + 1) rest)) is)

pub places-turn : (t : Tree) (old new : List ℕ) (arguments : List Node) (i : ℕ) (n : Node) (all : List ℕ) → i < length arguments → n ≡ get_or arguments i n
    → ((rest : List Node) → new ++ functions_from t (i + 1) rest ≡ old ++ functions_from t i (n ∷ rest))
    → old ++ functions_from t i (drop i arguments) ≡ all → new ++ functions_from t (i + 1) (drop (i + 1) arguments) ≡ all
places-turn t old new arguments i n all below is put so_far =
    put (drop (i + 1) arguments) ∙ sym (ap (λ (l : List Node). old ++ functions_from t i l) (left_at arguments i n below is)) ∙ so_far

-- arguments for the parameters that are just a variable

pub passed-left : (name : List ℕ) (old : List JavaType) (parameter argument : JavaType) (parameters arguments : List JavaType) → is_variable name parameter ≡ false
    → old ++ passed_for name parameters arguments ≡ old ++ passed_for name (parameter ∷ parameters) (argument ∷ arguments)
passed-left name old parameter argument parameters arguments none =
    sym (ap (λ b. old ++ (if b then boxed argument ∷ passed_for name parameters arguments else passed_for name parameters arguments)) none)

pub passed-put : (name : List ℕ) (old new : List Ty) (made : Ty) (parameter argument : JavaType) (parameters arguments : List JavaType) → is_variable name parameter ≡ true
    → java_type made ≡ boxed argument → new ≡ old ++ made ∷ []
    → type_list new ++ passed_for name parameters arguments ≡ type_list old ++ passed_for name (parameter ∷ parameters) (argument ∷ arguments)
passed-put name old new made parameter argument parameters arguments is same put =
    let rest = passed_for name parameters arguments in
    ap (λ (l : List Ty). type_list l ++ rest) put
    ∙ ap (λ l. l ++ rest) (map-append java_type old (made ∷ []) ∙ ap (λ ty. type_list old ++ ty ∷ []) same)
    ∙ push (type_list old) (boxed argument) rest
    ∙ sym (ap (λ b. type_list old ++ (if b then boxed argument ∷ rest else rest)) is)

pub passed-turn : (name : List ℕ) (old new : List JavaType) (parameters arguments : List Ty) (i : ℕ) (parameter argument : Ty) (all : List JavaType)
    → i < length parameters → parameter ≡ get_or parameters i parameter → i < length arguments → argument ≡ get_or arguments i argument
    → ((others more : List JavaType) → new ++ passed_for name others more ≡ old ++ passed_for name (java_type parameter ∷ others) (java_type argument ∷ more))
    → old ++ passed_for name (type_list (drop i parameters)) (type_list (drop i arguments)) ≡ all
    → new ++ passed_for name (type_list (drop (i + 1) parameters)) (type_list (drop (i + 1) arguments)) ≡ all
passed-turn name old new parameters arguments i parameter argument all below is inside there put so_far =
    put (type_list (drop (i + 1) parameters)) (type_list (drop (i + 1) arguments))
    ∙ sym (λ j. old ++ passed_for name (type_list (left_at parameters i parameter below is j)) (type_list (left_at arguments i argument inside there j)))
    ∙ so_far

passed-none : (name : List ℕ) (parameters : List JavaType) → passed_for name parameters [] ≡ []
passed-none name [] = refl
passed-none name (parameter ∷ parameters) = refl

-- where there are no arguments more
pub passed-past : (name : List ℕ) (old : List JavaType) (parameters arguments : List Ty) (i : ℕ) (all : List JavaType) → length arguments ≤ i
    → old ++ passed_for name (type_list (drop i parameters)) (type_list (drop i arguments)) ≡ all → old ≡ all
passed-past name old parameters arguments i all over so_far =
    sym (append-nil old)
    ∙ sym (ap (λ (l : List JavaType). old ++ l) (ap (λ (l : List Ty). passed_for name (type_list (drop i parameters)) (type_list l)) (drop_of_length-le arguments over) ∙ passed-none name (type_list (drop i parameters))))
    ∙ so_far

-- the method of a number
pub ruleset method_places = (slice_get-map)
