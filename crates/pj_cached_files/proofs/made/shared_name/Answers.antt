use Rattle.std.proofs.Common.{◌≡◌, ◌∙◌, ◌&&◌, Bool, true, List, ℕ, ap, subst, sym}
use Rattle.std.specs.Str.{is_utf8}
use Rattle.std.proofs.lemmas.Str.{is_utf8-from_IsUtf8}
use Rattle.pj_names.specs.ClassName.{is_class_name}
use Rattle.pj_cached_files.specs.Made.{IsClassText}
use Rattle.pj_cached_files.proofs.made.shared_name.Goals as goal

pub returns-clause-class : goal.returns-clause-class
returns-clause-class c =
    let text : is_utf8 c.args.name ≡ true = ap (λ (t : List ℕ). is_utf8 t) (sym c.as_str.ensures.value) ∙ is_utf8-from_IsUtf8 c.as_str.result.now c.as_str.utf8 in
    let both : (is_utf8 c.args.name && is_class_name c.args.name) ≡ true = ap (λ (b : Bool). b && is_class_name c.args.name) text ∙ c.as_str.ensures.is_name in
    subst (λ (n : List ℕ). IsClassText n) (sym c.in_ok-shared.ensures) both
