use Rattle.std.proofs.Common.{rules, ◌≡◌, ◌++◌, ◌∷◌, [], Some, None, lit<, ap, append_assoc, sym, ◌∙◌}
use Rattle.std.proofs.lemmas.Str.Pattern.{split_once_first, split_parts}
use Rattle.std.proofs.lemmas.List.Splits.{slice_split_first}
use Rattle.std.specs.List.{slice_split}
use Rattle.pj_rule_texts.specs.Values.{is_comma}
use Rattle.pj_rule_texts.proofs.Steps.{members-start, split-none}
use Rattle.pj_rule_texts.proofs.members.members_of.Goals as goal

pub loop-member-init : goal.loop-member-init
loop-member-init c = record {
  text = search rules;
  parts = members-start c.args.text.now (sym c.is_empty.ensures ∙ c.if-is_empty.false)
      ∙ ap (λ m. m ++ slice_split is_comma c.args.text.now) (sym c.new-members.ensures);
}

pub loop-member-preserved : goal.loop-member-preserved
loop-member-preserved c =
    let left = c.loop-member.left.now in
    let at = split_once_first 44 left (Some (c.in-Some.member, c.in-Some.rest)) c.in-Some.ensures.cases (lit< tt) in
    let members = c.loop-member.members in
    let member = c.in-Some.member.now in
    let behind = slice_split is_comma c.in-Some.rest.now in
    let parts : slice_split is_comma left ≡ member ∷ behind = slice_split_first is_comma left 0 at.0 ∙ (λ k. sym at.1 k ∷ slice_split is_comma (sym at.2 k)) in
    let pushed : c.push.new.self ≡ members ++ member ∷ [] = c.in_ok-push.ensures.ok ∙ ap (λ t. members ++ t ∷ []) c.in_ok-from_str.ensures in
    record {
      text = search rules;
      parts = c.loop-member.invariant.parts ∙ ap (λ t. members ++ t) parts ∙ sym (append_assoc members (member ∷ []) behind) ∙ ap (λ t. t ++ behind) (sym pushed);
    }

pub returns : goal.returns
returns c =
    let left = c.loop-member.left.now in
    let members = c.loop-member.members in
    let none = split_parts 44 left None c.in_default.ensures.cases (lit< tt) in
    let pushed : c.push-2.new.self ≡ members ++ left ∷ [] = c.in_ok-push-2.ensures.ok ∙ ap (λ t. members ++ t ∷ []) c.in_ok-from_str-2.ensures in
    pushed ∙ sym (c.loop-member.invariant.parts ∙ ap (λ t. members ++ t) (split-none left none))
