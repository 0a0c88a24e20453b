use Rattle.std.proofs.Common.{◌≡◌, ◌+◌, ◌≤◌, map, drop}
use Rattle.std.specs.Prelude.{◌&&◌, nat_le}
use Rattle.pj_grammar.specs.Words.{seen}
use Rattle.pj_properties.specs.Parentheses.{run, is_right}
use Rattle.pj_properties.proofs.parentheses.closed_first.Given as goal

abbrev pub invariant-loop-token : goal.invariant-loop-token
invariant-loop-token l = record {
  counted : l.count + run (λ t. is_right t.kind && nat_le t.span.to l.to) (map seen (drop l.token-index l.tokens))
      ≡ run (λ t. is_right t.kind && nat_le t.span.to l.to) (map seen l.tokens);
  few : l.count ≤ l.token-index;
}
