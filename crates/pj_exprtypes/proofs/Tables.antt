-- The table of held types, over an oracle and over one that notes its names.
use Rattle.std.proofs.Common.{◌≡◌, List, [], ◌∷◌, ◌++◌, IsTrue, ap, sym, subst, ◌∙◌}
use Rattle.std.proofs.lemmas.List.Elements.{All-cons, All-nil}
use Rattle.std.specs.Prelude.{Result}
use Rattle.std.specs.List.{All}
use Rattle.pj_tree.specs.Tree.{Tree}
use Rattle.pj_names.specs.declared.oracle.AskFault.{AskFault}
use Rattle.pj_names.specs.ClassName.{NameSet}
use Rattle.pj_names.specs.Asking.{Asking}
use Rattle.pj_names.specs.JavaType.{JavaType}
use Rattle.pj_names.specs.Held.{IsHeld}
use Rattle.pj_names.specs.Noting.{noting_world}
use Rattle.pj_names.specs.Told.{Asks, Told, Worlds}
use Rattle.pj_exprtypes.specs.declared.held.HeldType.{HeldType}
use Rattle.pj_exprtypes.specs.declared.held.Subject.{Subject}
use Rattle.pj_exprtypes.specs.Table.{Holds, Keeps, meaning_of}

pub held-noting : {A : Type 0} {w : Worlds} {m : Asking A} {v : A} {names : NameSet} → IsHeld w m v names → IsHeld (λ depth. noting_world (w depth)) m v names
held-noting h = record { value_is = h.value_is; names_are = h.names_are }

pub held-noted : {A : Type 0} {w : Worlds} {m : Asking A} {v : A} {names : NameSet} → IsHeld (λ depth. noting_world (w depth)) m v names → IsHeld w m v names
held-noted h = record { value_is = h.value_is; names_are = h.names_are }

pub all-noting : (t : Tree) (w : Worlds) (types : List HeldType) → All (Holds t w) types → All (Holds t (λ depth. noting_world (w depth))) types
all-noting t w types all = λ k d below. held-noting (all k d below)

pub all-noted : (t : Tree) (w : Worlds) (types : List HeldType) → All (Holds t (λ depth. noting_world (w depth))) types → All (Holds t w) types
all-noted t w types all = λ k d below. held-noted (all k d below)

-- what is held stays so in every call
pub keeps-on : {K A : Type 0} {m : Asking A} {told after : Told K} {r : Result A AskFault} (t : Tree) (types : List HeldType) → Asks m told after r → Keeps t told types → Keeps t after types
keeps-on {told = told} {after = after} t types h keeps = λ is. subst (λ w. All (Holds t w) types) (sym h.same_world) (keeps (sym h.same_told ∙ is))

-- what was found is held too
pub keeps-more : {K A : Type 0} {m : Asking A} {told after : Told K} {r : Result A AskFault} (t : Tree) (types more : List HeldType) (subject : Subject) (ty : JavaType) (names : NameSet)
    → ((worlds : Worlds) → IsHeld worlds (meaning_of t subject) ty names → All (Holds t worlds) types → All (Holds t worlds) more)
    → Asks m told after r → (IsTrue told.is_told → IsHeld told.world (meaning_of t subject) ty names) → Keeps t after types → Keeps t after more
keeps-more {told = told} {after = after} t types more subject ty names put h held keeps =
    λ is. put after.world (subst (λ (w : Worlds). IsHeld w (meaning_of t subject) ty names) (sym h.same_world) (held (sym h.same_told ∙ is))) (keeps is)

pub all-one : {X : Type 0} (P : X → Type 0) (old new : List X) (x : X) → old ≡ [] → new ≡ old ++ x ∷ [] → P x → All P new
all-one {X = X} P old new x none is one =
    let made : new ≡ x ∷ [] = is ∙ ap (λ (l : List X). l ++ x ∷ []) none in
    subst (λ (l : List X). All P l) (sym made) (All-cons P x [] one (All-nil P))
