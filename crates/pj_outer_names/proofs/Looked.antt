-- A class of which a member class is looked for.
use Rattle.std.proofs.Common.{◌≡◌, ◌++◌, ◌∙◌, ◌∷◌, ℕ, Bool, false, List, ap, sym}
use Rattle.std.specs.Prelude.{None, if◌then◌else◌, ◌||◌}
use Rattle.pj_names.specs.Asking.{Return}
use Rattle.pj_names.specs.ClassName.{Name, is_object}
use Rattle.pj_symbols.specs.declared.class.Class.{Class as DeclaredClass}
use Rattle.pj_outer_names.specs.Candidates.{found_class}
use Rattle.pj_outer_names.specs.Inherited.{member_in}

pub member-looked : (classes : List DeclaredClass) (is_left_out : Name → Bool) (simple class text : List ℕ) → (is_object class || is_left_out class) ≡ false → text ≡ class ++ 36 ∷ simple
    → found_class classes text ≡ member_in classes is_left_out simple class
member-looked classes is_left_out simple class text looked is =
    ap (λ x. found_class classes x) is ∙ ap (λ b. if b then Return None else found_class classes (class ++ 36 ∷ simple)) (sym looked)
