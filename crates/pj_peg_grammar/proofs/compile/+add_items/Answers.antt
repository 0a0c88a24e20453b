use Rattle.std.proofs.Common.{map, drop, length, ◌∙◌, ap, sym, subst, inl, inr, arith}
use Rattle.pj_peg_grammar.specs.Form.{form_of, maybe, ahead, not_ahead, seq, choice, seq_all, choice_all}
use Rattle.pj_peg_grammar.specs.Program.{forms_in, form_at}
use Rattle.pj_peg_grammar.specs.declared.program.Node.TheVariants.{Token, Any, Rule, Nothing, Never, Seq, Choice, Maybe, And, Not}
use Rattle.pj_peg_grammar.specs.WellFormed.{Repeats}
use Rattle.pj_peg_grammar.proofs.Forms.{form_token, form_any, form_rule, star_item, maybe_item, ahead_item, not_ahead_item, seq_end, choice_end, seq_back, choice_back}
use Rattle.pj_peg_grammar.proofs.Nodes.{adds_node, adds_same, adds_after, adds_star, adds_front, both_stand}
use Rattle.pj_peg_grammar.proofs.compile.+add_items.Goals as goal

pub add_choice-loop-left-init : goal.add_choice-loop-left-init
add_choice-loop-left-init t c = record {
  within = omega arith;
  adds = adds_same _ _ _ _ _ _ _ (choice_end c.args.parts.now (length c.args.parts.now) (omega arith))
      (adds_node _ _ _ Never _ c.requires tt c.in_ok-others.ensures.index c.in_ok-others.ensures.nodes);
}

pub add_choice-loop-left-preserved : goal.add_choice-loop-left-preserved
add_choice-loop-left-preserved t c =
    let (first, rest, first_lt, rest_lt) = both_stand _ _ _ _ _ _ _ _ _ _ c.loop-left.invariant.adds c.in_ok-first.ensures in
    record {
      within = let h = c.loop-left.invariant.within in omega arith;
      adds = adds_front _ _ _ _ _ _ _ _ _ _ _ _ (Choice c.in_ok-first.first c.loop-left.others) c.loop-left.invariant.adds c.in_ok-first.ensures (first_lt, rest_lt)
          c.in_ok-others-2.ensures.index c.in_ok-others-2.ensures.nodes _
          (choice_back c.args.parts.now c.loop-left.left c.index-parts-left.result c.loop-left-test.true c.loop-left.invariant.within c.index-parts-left.is
          ∙ ap (λ f. choice f (choice_all (map form_of (drop c.loop-left.left c.args.parts.now)))) (sym first)
          ∙ ap (λ f. choice (form_at (forms_in c.add_item.new.nodes.items) c.in_ok-first.first) f) (sym rest))
          (λ q h. subst (λ w. Repeats w q) (sym (choice_back c.args.parts.now c.loop-left.left c.index-parts-left.result c.loop-left-test.true c.loop-left.invariant.within c.index-parts-left.is)) (inr h))
          (λ q h. subst (λ w. Repeats w q) (sym (choice_back c.args.parts.now c.loop-left.left c.index-parts-left.result c.loop-left-test.true c.loop-left.invariant.within c.index-parts-left.is)) (inl h));
    }

pub add_item-returns-in_ok-add-in-Token : goal.add_item-returns-in_ok-add-in-Token
add_item-returns-in_ok-add-in-Token t c =
    adds_same _ _ _ _ _ _ _ (ap form_of c.in-Token.is ∙ form_token _)
    (adds_node _ _ _ (Token c.in-Token.kind) _ c.requires tt c.in_ok-add-in-Token.ensures.index c.in_ok-add-in-Token.ensures.nodes)

pub add_item-returns-in_ok-add-in-Any : goal.add_item-returns-in_ok-add-in-Any
add_item-returns-in_ok-add-in-Any t c =
    adds_same _ _ _ _ _ _ _ (ap form_of c.in-Any.is ∙ form_any)
    (adds_node _ _ _ Any _ c.requires tt c.in_ok-add-in-Any.ensures.index c.in_ok-add-in-Any.ensures.nodes)

pub add_item-returns-in_ok-add-in-Rule : goal.add_item-returns-in_ok-add-in-Rule
add_item-returns-in_ok-add-in-Rule t c =
    adds_same _ _ _ _ _ _ _ (ap form_of c.in-Rule.is ∙ form_rule _)
    (adds_node _ _ _ (Rule c.in-Rule.rule) _ c.requires tt c.in_ok-add-in-Rule.ensures.index c.in_ok-add-in-Rule.ensures.nodes)

pub add_item-returns-in_ok-add-in-Star : goal.add_item-returns-in_ok-add-in-Star
add_item-returns-in_ok-add-in-Star t c =
    adds_star _ _ _ _ _ _ _ c.len-star.result _ _ _ c.in_ok-part-in-Star.ensures (c.len-star.ensures ∙ c.add_item.new.stars.ok.0) c.in_ok-push-in-Star.ensures.items
    c.in_ok-add-in-Star.ensures.index c.in_ok-add-in-Star.ensures.nodes (star_item _ _ _ c.in-Star.is c.deref-in-Star.ensures)

pub add_item-returns-in_ok-add-in-Maybe : goal.add_item-returns-in_ok-add-in-Maybe
add_item-returns-in_ok-add-in-Maybe t c =
    adds_after _ _ _ _ _ _ _ _ _ (Maybe c.in_ok-part-in-Maybe.part) c.in_ok-part-in-Maybe.ensures c.in_ok-part-in-Maybe.ensures.there
    c.in_ok-add-in-Maybe.ensures.index c.in_ok-add-in-Maybe.ensures.nodes (maybe_item _ _ _ c.in-Maybe.is c.deref-in-Maybe.ensures ∙ ap maybe (sym c.in_ok-part-in-Maybe.ensures.stands))
    (λ q h. subst (λ w. Repeats w q) (sym (maybe_item _ _ _ c.in-Maybe.is c.deref-in-Maybe.ensures)) h)

pub add_item-returns-in_ok-add-in-And : goal.add_item-returns-in_ok-add-in-And
add_item-returns-in_ok-add-in-And t c =
    adds_after _ _ _ _ _ _ _ _ _ (And c.in_ok-part-in-And.part) c.in_ok-part-in-And.ensures c.in_ok-part-in-And.ensures.there
    c.in_ok-add-in-And.ensures.index c.in_ok-add-in-And.ensures.nodes (ahead_item _ _ _ c.in-And.is c.deref-in-And.ensures ∙ ap ahead (sym c.in_ok-part-in-And.ensures.stands))
    (λ q h. subst (λ w. Repeats w q) (sym (ahead_item _ _ _ c.in-And.is c.deref-in-And.ensures)) h)

pub add_item-returns-in_ok-add-in-Not : goal.add_item-returns-in_ok-add-in-Not
add_item-returns-in_ok-add-in-Not t c =
    adds_after _ _ _ _ _ _ _ _ _ (Not c.in_ok-part-in-Not.part) c.in_ok-part-in-Not.ensures c.in_ok-part-in-Not.ensures.there
    c.in_ok-add-in-Not.ensures.index c.in_ok-add-in-Not.ensures.nodes (not_ahead_item _ _ _ c.in-Not.is c.deref-in-Not.ensures ∙ ap not_ahead (sym c.in_ok-part-in-Not.ensures.stands))
    (λ q h. subst (λ w. Repeats w q) (sym (not_ahead_item _ _ _ c.in-Not.is c.deref-in-Not.ensures)) h)

pub add_sequence-loop-left-init : goal.add_sequence-loop-left-init
add_sequence-loop-left-init t c = record {
  within = omega arith;
  adds = adds_same _ _ _ _ _ _ _ (seq_end c.args.parts.now (length c.args.parts.now) (omega arith))
      (adds_node _ _ _ Nothing _ c.requires tt c.in_ok-rest.ensures.index c.in_ok-rest.ensures.nodes);
}

pub add_sequence-loop-left-preserved : goal.add_sequence-loop-left-preserved
add_sequence-loop-left-preserved t c =
    let (first, rest, first_lt, rest_lt) = both_stand _ _ _ _ _ _ _ _ _ _ c.loop-left.invariant.adds c.in_ok-first.ensures in
    record {
      within = let h = c.loop-left.invariant.within in omega arith;
      adds = adds_front _ _ _ _ _ _ _ _ _ _ _ _ (Seq c.in_ok-first.first c.loop-left.rest) c.loop-left.invariant.adds c.in_ok-first.ensures (first_lt, rest_lt)
          c.in_ok-rest-2.ensures.index c.in_ok-rest-2.ensures.nodes _
          (seq_back c.args.parts.now c.loop-left.left c.index-parts-left.result c.loop-left-test.true c.loop-left.invariant.within c.index-parts-left.is
          ∙ ap (λ f. seq f (seq_all (map form_of (drop c.loop-left.left c.args.parts.now)))) (sym first)
          ∙ ap (λ f. seq (form_at (forms_in c.add_item.new.nodes.items) c.in_ok-first.first) f) (sym rest))
          (λ q h. subst (λ w. Repeats w q) (sym (seq_back c.args.parts.now c.loop-left.left c.index-parts-left.result c.loop-left-test.true c.loop-left.invariant.within c.index-parts-left.is)) (inr h))
          (λ q h. subst (λ w. Repeats w q) (sym (seq_back c.args.parts.now c.loop-left.left c.index-parts-left.result c.loop-left-test.true c.loop-left.invariant.within c.index-parts-left.is)) (inl h));
    }
