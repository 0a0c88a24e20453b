use Rattle.std.proofs.Common.{sym, ◌∙◌, ap}
use Rattle.pj_shape.specs.NameLists.{has_word}
use Rattle.pj_shape.proofs.Names.{has-insert, put_in}
use Rattle.pj_shape.proofs.declared.add_variable.Goals as goal

pub returns : goal.returns
returns c = record {
  value = λ name.
      ap (has_word name) c.in_ok-insert.ensures.keys ∙ has-insert (λ s. s.now) name c.args.names.now.keys c.word.result ∙
      put_in c.args.text.now c.args.tokens.now name c.word.result.now c.args.node.from _ (has_word name c.args.names.now.keys) (sym c.is_variable.ensures ∙ c.if-not-is_variable.false) c.word.ensures.value;
}
