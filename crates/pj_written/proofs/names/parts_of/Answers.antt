use Rattle.std.proofs.Common.{rules, ◌≡◌, ◌++◌, ◌∷◌, [], Some, None, lit<, ap, sym, ◌∙◌}
use Rattle.std.proofs.lemmas.Str.Pattern.{split_parts}
use Rattle.pj_names.specs.ClassName.{parts}
use Rattle.pj_written.proofs.Dots.{parts-one, parts-turn}
use Rattle.pj_written.proofs.names.parts_of.Goals as goal

pub loop-part-preserved : goal.loop-part-preserved
loop-part-preserved c =
    let left = c.loop-part.left.now in
    let part = c.in-Some.part.now in
    let cut = split_parts 46 left (Some (c.in-Some.part, c.in-Some.rest)) c.in-Some.ensures.cases (lit< tt) in
    let pushed : c.push.new.self ≡ c.loop-part.names ++ part ∷ [] = c.in_ok-push.ensures.ok ∙ ap (λ t. c.loop-part.names ++ t ∷ []) c.in_ok-from_str.ensures in
    record {
      text = search rules;
      cut = ap (λ ns. ns ++ parts c.in-Some.rest.now) pushed ∙ parts-turn c.loop-part.names left part c.in-Some.rest.now (parts c.args.text.now) cut.0 cut.1 c.loop-part.invariant.cut;
    }

pub returns : goal.returns
returns c =
    let left = c.loop-part.left.now in
    let none = split_parts 46 left None c.in_default.ensures.cases (lit< tt) in
    let pushed : c.push-2.new.self ≡ c.loop-part.names ++ left ∷ [] = c.in_ok-push-2.ensures.ok ∙ ap (λ t. c.loop-part.names ++ t ∷ []) c.in_ok-from_str-2.ensures in
    pushed ∙ ap (λ ps. c.loop-part.names ++ ps) (sym (parts-one left none)) ∙ c.loop-part.invariant.cut
