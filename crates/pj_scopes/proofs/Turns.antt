-- One meaning in the place of another, in a clause and at a point of a loop; and the meanings that these are wanted for.
use Rattle.std.proofs.Common.{◌≡◌, ℕ, ◌<◌, ◌+◌, List, [], ◌∷◌, length, get_or, drop, Option, None, Some, true, false, ap, subst, sym, ◌∙◌}
use Rattle.std.specs.Prelude.{Result, Err, MatchOption, if◌then◌else◌}
use Rattle.pj_tree.specs.Tree.{Tree}
use Rattle.pj_tree.specs.declared.node.Node.{Node}
use Rattle.pj_names.specs.declared.oracle.AskFault.{AskFault}
use Rattle.pj_names.specs.ClassName.{Name, is_class_name}
use Rattle.pj_names.specs.Asking.{Asking, Return, first_hit, or_else}
use Rattle.pj_names.proofs.AskingLaws.{ComesTo, asks-refused, comes-ends, left_from}
use Rattle.pj_names.specs.Told.{Asks, Told}
use Rattle.pj_members.specs.Fields.{find_field}
use Rattle.pj_declared.specs.declared.nearest.Declared.{Declared}
use Rattle.pj_outer_names.specs.Around.{classes_around, further_in, searched}
use Rattle.pj_written.specs.Headers.{class_text}
use Rattle.pj_scopes.specs.VariableName.{field_around}

pub asks-as : {K A : Type 0} {m n : Asking A} {t u : Told K} {r : Result A AskFault} → m ≡ n → Asks n t u r → Asks m t u r
asks-as {t = t} {u = u} {r = r} same asks = subst (λ m. Asks m t u r) (sym same) asks

pub comes-as : {K A : Type 0} {m n other : Asking A} {t u : Told K} → n ≡ other → ComesTo m t n u → ComesTo m t other u
comes-as {m = m} {t = t} {u = u} same comes = subst (λ n. ComesTo m t n u) same comes

-- the class around has a name
pub around-named : (t : Tree) (name : List ℕ) (class : Node) (own : Name) → is_class_name (class_text t class) ≡ true → own ≡ class_text t class → field_around t name class ≡ find_field own name
around-named t name class own named is =
    ap (λ b. if b then find_field (class_text t class) name else Return None) named ∙ ap (λ n. find_field n name) (sym is)

-- or has none
pub around-none : (t : Tree) (name : List ℕ) (class : Node) → is_class_name (class_text t class) ≡ false → field_around t name class ≡ Return None
around-none t name class none = ap (λ b. if b then find_field (class_text t class) name else Return None) none

-- one more class around that is searched
pub searched-turn : (t u : Tree) (place class : Node) (found : Option Declared) (next : Option Node) → u ≡ t
    → MatchOption next (further_in found (classes_around u place) ≡ []) (λ class. further_in found (classes_around u place) ≡ class ∷ further_in found (classes_around u class))
    → next ≡ Some class → searched t place found ≡ class ∷ searched t class found
searched-turn t u place class found next same given is =
    subst (λ (x : Tree). searched x place found ≡ class ∷ searched x class found) same
    (subst (λ (o : Option Node). MatchOption o (further_in found (classes_around u place) ≡ []) (λ class. further_in found (classes_around u place) ≡ class ∷ further_in found (classes_around u class))) is given)

-- or none
pub searched-end : (t u : Tree) (place : Node) (found : Option Declared) (next : Option Node) → u ≡ t
    → MatchOption next (further_in found (classes_around u place) ≡ []) (λ class. further_in found (classes_around u place) ≡ class ∷ further_in found (classes_around u class))
    → next ≡ None → searched t place found ≡ []
searched-end t u place found next same given is =
    subst (λ (x : Tree). searched x place found ≡ []) same
    (subst (λ (o : Option Node). MatchOption o (further_in found (classes_around u place) ≡ []) (λ class. further_in found (classes_around u place) ≡ class ∷ further_in found (classes_around u class))) is given)

-- a refusal at a member of a list that is gone through
pub refused-at : {K A B : Type 0} (test : A → Asking (Option B)) (xs : List A) (i : ℕ) (x : A) {m : Asking (Option B)} {t u last : Told K} {e : AskFault} {r : Result (Option B) AskFault} → i < length xs
    → ComesTo m t (first_hit test (drop i xs)) u → Asks (test (get_or xs i x)) u last (Err e) → r ≡ Err e → Asks m t last r
refused-at test xs i x {m = m} {t = t} {u = u} below so_far asked returned =
    comes-ends (subst (λ l. ComesTo m t (first_hit test l) u) (left_from xs i x below) so_far) (asks-refused (λ hit. or_else hit (first_hit test (drop (i + 1) xs))) asked returned)
