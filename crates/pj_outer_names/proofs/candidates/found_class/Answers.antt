use Rattle.std.proofs.Common.{rules, ◌≡◌, ap, false, ℕ, List, subst, sym, true, ◌∙◌}
use Rattle.std.specs.Prelude.{None, Some, if◌then◌else◌, not}
use Rattle.pj_names.specs.Asking.{Return}
use Rattle.pj_names.specs.ClassName.{is_class_name}
use Rattle.pj_names.specs.Told.{Asks}
use Rattle.pj_symbols.specs.declared.class.Class.{Class as DeclaredClass}
use Rattle.pj_outer_names.specs.Candidates.{asked_class, file_classes, found_class, is_known}
use Rattle.pj_outer_names.proofs.candidates.found_class.Goals as goal

-- a name that is not known is asked
asked : (classes : List DeclaredClass) (text name : List ℕ) → is_class_name text ≡ true → name ≡ text → is_known classes name ≡ false → found_class classes text ≡ asked_class name
asked classes text name named is unknown =
    ap (λ b. if not b then Return None else if is_known classes text then Return (Some text) else asked_class text) named
    ∙ ap (λ x. if is_known classes x then Return (Some x) else asked_class x) (sym is)
    ∙ ap (λ b. if b then Return (Some name) else asked_class name) unknown

pub returns : goal.returns
returns g c =
    let made = rw c.in-Some.is at c.in_ok-name.ensures in
    let unknown : is_known (file_classes c.args.file.now) c.in-Some.name ≡ false = search rules in
    subst (λ m. Asks m (g.O.Oracle.tells c.args.oracle.now) (g.O.Oracle.tells c.asked_class.new.oracle) c.asked_class.result)
    (sym (asked (file_classes c.args.file.now) c.args.text.now c.in-Some.name made.0 made.1 unknown)) c.asked_class.ensures
