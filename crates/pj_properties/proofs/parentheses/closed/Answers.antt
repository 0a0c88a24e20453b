use Rattle.std.proofs.Common.{◌≡◌, List, map, drop, ap, sym, ◌∙◌, arith, rules, true, false, nat_lt, not}
use Rattle.std.proofs.Math.Dec.{ltb}
use Rattle.std.specs.Prelude.{◌&&◌, nat_le}
use Rattle.std.specs.List.Sorted.{IsPartitionPoint}
use Rattle.std.proofs.lemmas.List.Sorted.{IsPartitionPoint-from_clause, IsPartitionedBy-ltb}
use Rattle.pj_lex.specs.declared.token.Token.{Token}
use Rattle.pj_grammar.specs.Words.{TokenSeen, seen}
use Rattle.pj_properties.specs.Parentheses.{run, is_right, behind}
use Rattle.pj_properties.proofs.Runs.{later_pass, rest_is}
use Rattle.pj_properties.proofs.parentheses.closed.Goals as goal

pub returns : goal.returns
returns c =
    let ts = c.args.tokens.now in
    let offset = c.args.span.to in
    let place = c.partition_point-place.result in
    let split : IsPartitionPoint (λ (t : Token). ltb t.span.from offset ≡ true) (λ (t : Token). ltb t.span.from offset ≡ false) ts place =
    IsPartitionPoint-from_clause (λ (t : Token). ltb t.span.from offset) _ _ c.partition_point-place.ensures.partitioned (IsPartitionedBy-ltb (λ (t : Token). t.span.from) ts offset c.requires.in_order) (λ a r q k. search rules) in
    let back : behind offset (map seen ts) ≡ map seen (drop place ts) =
    later_pass (λ (t : TokenSeen). not (nat_lt t.span.from offset)) ts place (λ k d h. ap not (split.0 k d (omega arith) h)) (λ k d low high. ap not (split.1 k d low high)) in
    c.closed_first.ensures
    ∙ ap (λ (x : List Token). run (λ t. is_right t.kind && nat_le t.span.to c.args.above.to) (map seen x)) (rest_is ts place)
    ∙ sym (ap (λ (x : List TokenSeen). run (λ t. is_right t.kind && nat_le t.span.to c.args.above.to) x) back)
