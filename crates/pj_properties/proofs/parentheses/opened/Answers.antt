use Rattle.std.proofs.Common.{◌≡◌, List, map, take, reverse, ap, sym, ◌∙◌, arith, rules, true, false, nat_lt}
use Rattle.std.proofs.Math.Dec.{ltb}
use Rattle.std.specs.Prelude.{◌&&◌, nat_le}
use Rattle.std.specs.List.Sorted.{IsPartitionPoint}
use Rattle.std.proofs.lemmas.List.Sorted.{IsPartitionPoint-from_clause, IsPartitionedBy-ltb}
use Rattle.pj_lex.specs.declared.token.Token.{Token}
use Rattle.pj_grammar.specs.Words.{TokenSeen, seen}
use Rattle.pj_properties.specs.Parentheses.{run, is_left, before}
use Rattle.pj_properties.proofs.Runs.{first_pass}
use Rattle.pj_properties.proofs.parentheses.opened.Goals as goal

pub returns-clause-value : goal.returns-clause-value
returns-clause-value c =
    let ts = c.args.tokens.now in
    let offset = c.args.span.from in
    let place = c.partition_point-place.result in
    let split : IsPartitionPoint (λ (t : Token). ltb t.span.from offset ≡ true) (λ (t : Token). ltb t.span.from offset ≡ false) ts place =
    IsPartitionPoint-from_clause (λ (t : Token). ltb t.span.from offset) _ _ c.partition_point-place.ensures.partitioned (IsPartitionedBy-ltb (λ (t : Token). t.span.from) ts offset c.requires.in_order) (λ a r q k. search rules) in
    let front : before offset (map seen ts) ≡ map seen (take place ts) =
    first_pass (λ (t : TokenSeen). nat_lt t.span.from offset) ts place (λ k d h. split.0 k d (omega arith) h) (λ k d low high. split.1 k d low high) in
    c.opened_last.ensures.value
    ∙ sym (ap (λ (x : List TokenSeen). run (λ t. is_left t.kind && nat_le c.args.above.from t.span.from) (reverse x)) front)
