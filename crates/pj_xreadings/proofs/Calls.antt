-- The arguments of a call, from the last one on, and what stands behind a primary expression.
use Rattle.std.proofs.Common.{◌≡◌, ◌∙◌, ◌==◌, sym, ap, refl, ℕ, Bool, true, false, List, [], ◌∷◌, ◌++◌, map, drop, length, append_assoc}
use Rattle.std.proofs.Math.Seq.{drop-nil}
use Rattle.std.proofs.lemmas.Bool.{eqb-true}
use Rattle.std.proofs.lemmas.List.{length-map, nil_from_length}
use Rattle.pj_xexpressions.specs.declared.expr.Expr.{Expr}
use Rattle.pj_xexpressions.specs.Trees.{Tree, Filter, node, tree_of}
use Rattle.pj_xreadings.specs.Mentions.{Mention, Argument}
use Rattle.pj_xreadings.specs.Operands.{Arguments, arguments_in, in_roles, is_closed, judged, trees_of}
use Rattle.pj_xreadings.specs.Seen.{seen_given, seen_reading}
use Rattle.pj_xreadings.specs.Steps.{filtered}
use Rattle.pj_xreadings.specs.declared.operand.Reading.{Reading}
use Rattle.pj_xreadings.specs.declared.role.Role.{Role}

-- an argument before others is judged, whether they are judged or not
judged_before : (ended : Bool) (xs : List (ℕ × Reading)) (y : ℕ × Reading) (mention : Mention) → judged (seen_given ended (xs ++ y ∷ [])) mention ≡ judged (seen_given true xs) mention
judged_before ended [] y mention = refl
judged_before ended (x ∷ xs) y mention = refl

last_argument : (roles : List Role) (ended : Bool) (xs : List (ℕ × Reading)) (y : ℕ × Reading) →
    in_roles roles (seen_given ended (xs ++ y ∷ [])) ≡ in_roles roles (seen_given true xs) ++ in_roles (drop (length xs) roles) (seen_given ended (y ∷ []))
last_argument [] ended [] y = refl
last_argument (role ∷ roles) ended [] y = refl
last_argument [] ended (x ∷ xs) y =
    let own = (seen_reading x.1).names in
    ap (λ l. own ++ l) (last_argument [] ended xs y)
    ∙ ap (λ (r : List Role). own ++ (in_roles [] (seen_given true xs) ++ in_roles r (seen_given ended (y ∷ [])))) (drop-nil (length xs))
    ∙ sym (append_assoc own (in_roles [] (seen_given true xs)) (in_roles [] (seen_given ended (y ∷ []))))
last_argument (role ∷ roles) ended (x ∷ xs) y =
    let own = (seen_reading x.1).names in
    let here = Argument role (seen_reading x.1).written x.0 in
    let first = judged (seen_given true xs) here in
    let others = in_roles roles (seen_given true xs) in
    let last = in_roles (drop (length xs) roles) (seen_given ended (y ∷ [])) in
    ap (λ l. l ++ (own ++ in_roles roles (seen_given ended (xs ++ y ∷ [])))) (judged_before ended xs y here)
    ∙ ap (λ l. first ++ (own ++ l)) (last_argument roles ended xs y)
    ∙ ap (λ l. first ++ l) (sym (append_assoc own others last))
    ∙ sym (append_assoc first (own ++ others) last)

pub argument_moved : (roles : List Role) (ended : Bool) (xs : List (ℕ × Reading)) (y : ℕ × Reading) (behind : List Mention) →
    in_roles roles (seen_given true xs) ++ (in_roles (drop (length xs) roles) (seen_given ended (y ∷ [])) ++ behind) ≡ in_roles roles (seen_given ended (xs ++ y ∷ [])) ++ behind
argument_moved roles ended xs y behind =
    sym (append_assoc (in_roles roles (seen_given true xs)) (in_roles (drop (length xs) roles) (seen_given ended (y ∷ []))) behind)
    ∙ ap (λ l. l ++ behind) (sym (last_argument roles ended xs y))

pub no_arguments : (roles : List Role) (ended : Bool) → in_roles roles (seen_given ended []) ≡ []
no_arguments [] true = refl
no_arguments [] false = refl
no_arguments (role ∷ roles) true = refl
no_arguments (role ∷ roles) false = refl

-- the trees of arguments
pub trees_given : (closed : Bool) (list : List (ℕ × Reading)) → trees_of (arguments_in (seen_given closed list)) ≡ map (λ next. tree_of next.1.expr) list
trees_given true [] = refl
trees_given false [] = refl
trees_given true (x ∷ xs) = ap (λ l. tree_of x.1.expr ∷ l) (trees_given true xs)
trees_given false (x ∷ xs) = ap (λ l. tree_of x.1.expr ∷ l) (trees_given false xs)

pub closed_given : (closed : Bool) (list : List (ℕ × Reading)) → is_closed (seen_given closed list) ≡ closed
closed_given true [] = refl
closed_given false [] = refl
closed_given true (x ∷ xs) = closed_given true xs
closed_given false (x ∷ xs) = closed_given false xs

no_members : {A : Type 0} (x : A) (xs : List A) → (length (x ∷ xs) == 0) ≡ true → ⊥
no_members x xs h = let e : x ∷ xs ≡ [] = nil_from_length (x ∷ xs) (eqb-true _ _ h) in let z = e in cc

pub filtered_alone : (primary : Tree) (predicates : List Expr) → (length predicates == 0) ≡ true → primary ≡ filtered primary (map tree_of predicates)
filtered_alone primary [] h = refl
filtered_alone primary (x ∷ xs) h = absurd (no_members x xs h)

pub filtered_all : (primary : Tree) (predicates : List Expr) → (length predicates == 0) ≡ false → node Filter (primary ∷ map tree_of predicates) ≡ filtered primary (map tree_of predicates)
filtered_all primary [] h = absurd (let z = h in cc)
filtered_all primary (x ∷ xs) h = refl

-- how many arguments there are
pub given_count : (list : List Tree) (arguments : Arguments) → list ≡ trees_of (arguments_in arguments) → length list ≡ length (arguments_in arguments)
given_count list arguments is = ap length is ∙ length-map (arguments_in arguments) (λ a. a.tree)
