use Rattle.std.proofs.Common.{◌≡◌, map, reverse, take, drop}
use Rattle.pj_peg_grammar.specs.Form.{form_of}
use Rattle.pj_grammar.proofs.decoder.take_parts.Given as goal

abbrev pub invariant-loop : goal.invariant-loop
invariant-loop l = record {
  taken : map form_of l.parts.items ≡ take l.counter (map form_of (reverse l.fn.stack.items));
  left : map form_of (reverse l.stack.items) ≡ drop l.counter (map form_of (reverse l.fn.stack.items));
}
