use Rattle.std.proofs.Common.{◌≡◌, ◌%◌, ◌<◌, ◌∙◌, ℕ, Option, Some, None, IfNone, ap, arith, length, subst, sym}
use mathlib.Core.Option.{some, some-injective}
use lib.ListN.{get_elem?}
use Rattle.std.proofs.lemmas.Option.{IfSome_then}
use Rattle.atomic_table.proofs.Lists.{at_index}
use Rattle.pj_names.specs.ClassName.{Name}
use Rattle.pj_table.specs.Book.{Lacks}
use Rattle.pj_table.specs.Names.{part_of}
use Rattle.pj_table.specs.declared.part.Part.{Part}
use Rattle.pj_table.proofs.type_table.Closed.answer_of.Goals as goal

on_none : {X P Q : Type 0} (o : Option X) → (P → Q) → IfNone o P → IfNone o Q
on_none None f is = f is
on_none (Some x) f is = tt

pub returns-clause-some : goal.returns-clause-some
returns-clause-some c =
    let parts = c.args.self.now.parts.items in let name = c.args.name.now in let x = c.index.result.now in
    let below : c.part_of.result < length parts = omega (arith, c.requires.parts, c.part_of.ensures) in
    let at : get_elem? parts (part_of name) ≡ some x = subst (λ (k : ℕ). get_elem? parts k ≡ some x) c.part_of.ensures (at_index parts c.part_of.result x below c.index.ensures) in
    IfSome_then c.answer_of.result c.answer_of.ensures.some (λ answer has. (x, at, has))

pub returns-clause-none : goal.returns-clause-none
returns-clause-none c =
    let parts = c.args.self.now.parts.items in let name = c.args.name.now in let x = c.index.result.now in
    let below : c.part_of.result < length parts = omega (arith, c.requires.parts, c.part_of.ensures) in
    let at : get_elem? parts (part_of name) ≡ some x = subst (λ (k : ℕ). get_elem? parts k ≡ some x) c.part_of.ensures (at_index parts c.part_of.result x below c.index.ensures) in
    on_none c.answer_of.result (λ lacks y there. subst (λ (z : Part). Lacks z.entries.items name) (some-injective x y (sym at ∙ there)) lacks) c.answer_of.ensures.none
