use Rattle.std.proofs.Common.{subst, sym}
use Rattle.pj_symbols.specs.Symbols.{FileSymbols, FindsClasses}
use Rattle.pj_symbols.proofs.Below.{all_found}
use Rattle.pj_outer_names.proofs.file.File.new.Goals as goal

pub with_tables-requires-clause-finds : goal.with_tables-requires-clause-finds
with_tables-requires-clause-finds c = subst (λ (s : FileSymbols). FindsClasses c.args.tree.now s.classes) (sym c.requires.symbols) (all_found c.args.tree.now)
