-- Productions as they are kept.
use Rattle.pj_ll.specs.declared.grammar.Production.{Production}
use Rattle.pj_ll.specs.Grammar.{Entry}

abbrev pub entry_of : Production → Entry
entry_of x = record { rule = x.rule; symbols = x.symbols.items; on = x.on.items; at_end = x.at_end }
