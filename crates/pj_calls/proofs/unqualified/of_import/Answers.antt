use Rattle.std.proofs.Common.{rules, ◌≡◌, ◌∙◌, ap, refl, sym}
use Rattle.pj_names.proofs.AskingLaws.{asks-refused, asks-return, asks-then}
use Rattle.pj_outer_names.specs.Candidates.{dotted_class, file_classes}
use Rattle.pj_scopes.specs.StaticImports.{imported_class}
use Rattle.pj_scopes.proofs.Turns.{asks-as}
use Rattle.pj_calls.proofs.unqualified.of_import.Goals as goal

pub returns-in_err-class : goal.returns-in_err-class
returns-in_err-class g c =
    let text : c.as_str.result.now ≡ imported_class c.args.file.now c.args.import = c.as_str.ensures ∙ c.in_ok-text.ensures ∙ ap (λ t. imported_class t c.args.import) c.tree.ensures in
    let asked = asks-as (ap (λ x. dotted_class (file_classes c.args.file.now) x) (sym text)) c.in_err-class.ensures in
    asks-refused _ asked (search rules)

pub returns-in-Some : goal.returns-in-Some
returns-in-Some g c =
    let text : c.as_str.result.now ≡ imported_class c.args.file.now c.args.import = c.as_str.ensures ∙ c.in_ok-text.ensures ∙ ap (λ t. imported_class t c.args.import) c.tree.ensures in
    let asked = rw c.in-Some.is at c.in_ok-class.ensures in
    asks-then _ (asks-as (ap (λ x. dotted_class (file_classes c.args.file.now) x) (sym text)) asked) c.of_class.ensures

pub returns : goal.returns
returns g c =
    let text : c.as_str.result.now ≡ imported_class c.args.file.now c.args.import = c.as_str.ensures ∙ c.in_ok-text.ensures ∙ ap (λ t. imported_class t c.args.import) c.tree.ensures in
    let asked = rw c.in-None.is at c.in_ok-class.ensures in
    asks-then _ (asks-as (ap (λ x. dotted_class (file_classes c.args.file.now) x) (sym text)) asked) (asks-return refl)
