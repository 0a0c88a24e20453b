use Rattle.std.proofs.Common.{rules, ◌≡◌, ◌++◌, ◌∙◌, ◌∷◌, ℕ, List, false, ap, subst}
use Rattle.std.specs.Prelude.{◌||◌}
use Rattle.pj_names.specs.ClassName.{is_object}
use Rattle.pj_names.specs.Told.{Asks}
use Rattle.pj_outer_names.specs.Candidates.{file_classes}
use Rattle.pj_outer_names.specs.NameWalks.{left_out}
use Rattle.pj_outer_names.proofs.Looked.{member-looked}
use Rattle.pj_outer_names.proofs.member.member_in.Goals as goal

pub returns : goal.returns
returns g c =
    let class = c.args.next.now in
    let simple = c.args.simple.now in
    let looked : (is_object class || left_out c.args.own_counts c.args.class.now class) ≡ false = search rules in
    let text : c.as_str-2.result.now ≡ class ++ 36 ∷ simple = c.as_str-2.ensures ∙ c.in_ok-text.ensures ∙ ap (λ (name : List ℕ). name ++ 36 ∷ simple) c.as_str.ensures.value in
    subst (λ m. Asks m (g.O.Oracle.tells c.args.oracle.now) (g.O.Oracle.tells c.found_class.new.oracle) c.found_class.result)
    (member-looked (file_classes c.args.file.now) (left_out c.args.own_counts c.args.class.now) simple class c.as_str-2.result.now looked text) c.found_class.ensures
