use Rattle.std.proofs.Common.{rules, ◌++◌, ◌∷◌, [], Some, None, lit<, ap, sym, ◌∙◌}
use Rattle.std.proofs.lemmas.Str.Pattern.{split_parts}
use Rattle.pj_written.specs.Spelling.{internal}
use Rattle.pj_written.proofs.Dots.{internal-one, internal-turn}
use Rattle.pj_written.proofs.spelling.put_internal.Goals as goal

pub loop-part-preserved : goal.loop-part-preserved
loop-part-preserved c =
    let left = c.loop-part.left.now in
    let part = c.in-Some.part.now in
    let text = c.loop-part.text in
    let cut = split_parts 46 left (Some (c.in-Some.part, c.in-Some.rest)) c.in-Some.ensures.cases (lit< tt) in
    let pushed = c.in_ok-push_str-2.ensures.ok ∙ ap (λ t. t ++ 47 ∷ []) c.in_ok-push_str.ensures.ok in
    record {
      left = search rules;
      made = ap (λ t. t ++ internal c.in-Some.rest.now) pushed ∙ internal-turn text left part c.in-Some.rest.now (c.args.text.now ++ internal c.args.name.now) cut.0 cut.1 c.loop-part.invariant.made;
    }

pub returns : goal.returns
returns c =
    let left = c.loop-part.left.now in
    let none = split_parts 46 left None c.in_default.ensures.cases (lit< tt) in
    c.in_ok-push_str-3.ensures.ok ∙ ap (λ t. c.loop-part.text ++ t) (sym (internal-one left none)) ∙ c.loop-part.invariant.made
