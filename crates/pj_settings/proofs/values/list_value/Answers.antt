use Rattle.std.proofs.Common.{rules, ◌≡◌, ◌∙◌, ◌++◌, ◌∷◌, [], Some, None, ap, append_assoc, sym}
use Rattle.std.proofs.lemmas.Str.Pattern.{split_parts}
use Rattle.std.specs.List.{list_any}
use Rattle.pj_settings.specs.Values.{cut_at, is_empty}
use Rattle.pj_settings.proofs.CutFacts.{cut_onto-last, cut_onto-piece}
use Rattle.pj_settings.proofs.JobFacts.{full-push, list_value-is}
use Rattle.pj_settings.proofs.values.list_value.Goals as goal

pub loop-piece-preserved : goal.loop-piece-preserved
loop-piece-preserved c =
    let held = c.loop-piece.invariant in
    let parts = split_parts c.args.mark c.loop-piece.left.now (Some (c.in-Some.piece, c.in-Some.rest)) c.in-Some.ensures.cases c.requires in
    let piece = c.in-Some.piece.now in
    let left = cut_at c.args.mark c.in-Some.rest.now in
    let pushed : c.push.new.self ≡ c.loop-piece.names ++ piece ∷ [] = c.in_ok-push.ensures.ok ∙ ap (λ t. c.loop-piece.names ++ t ∷ []) c.in_ok-from_str.ensures in
    record {
      text = search rules;
      cut = held.cut ∙ ap (λ t. c.loop-piece.names ++ cut_at c.args.mark t) parts.0
          ∙ ap (λ t. c.loop-piece.names ++ t) (cut_onto-piece c.args.mark [] piece c.in-Some.rest.now parts.1)
          ∙ sym (append_assoc c.loop-piece.names (piece ∷ []) left) ∙ ap (λ t. t ++ left) (sym pushed);
      full = ap (λ t. list_any is_empty t) pushed ∙ full-push c.loop-piece.names _ held.full (sym c.is_empty.ensures ∙ c.if-is_empty.false);
    }

pub returns : goal.returns
returns c =
    let held = c.loop-piece.invariant in
    let none = split_parts c.args.mark c.loop-piece.left.now None c.in_default.ensures.cases c.requires in
    let last = c.loop-piece.left.now in
    let pushed : c.push-2.new.self ≡ c.loop-piece.names ++ last ∷ [] = c.in_ok-push-2.ensures.ok ∙ ap (λ t. c.loop-piece.names ++ t ∷ []) c.in_ok-from_str-2.ensures in
    list_value-is c.args.mark c.args.option.now c.args.word.now c.push-2.new.self
    (held.cut ∙ ap (λ t. c.loop-piece.names ++ t) (cut_onto-last c.args.mark [] last none) ∙ sym pushed)
    (ap (λ t. list_any is_empty t) pushed ∙ full-push c.loop-piece.names _ held.full (sym c.is_empty-2.ensures ∙ c.if-is_empty-2.false))
