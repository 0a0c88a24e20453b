use Rattle.std.proofs.Common.{◌≡◌, ap, arith}
use Rattle.atomic_table.proofs.Lists.{at_index}
use Rattle.pj_table.proofs.Books.{at_there, same_entry}
use Rattle.pj_table.specs.declared.view.Entry.{Entry}
use Rattle.pj_table.proofs.part.Part.answer_of.Goals as goal

pub index-requires : goal.index-requires
index-requires c = let b = c.in-Some.ensures.some in let a = at_there c.args.self.now.entries.items c.in-Some.at b.0 b.1 in let f = c.args.self.now.entries.ok in omega arith

pub returns-in-Some-clause-some : goal.returns-in-Some-clause-some
returns-in-Some-clause-some c =
    let es = c.args.self.now.entries.items in let there = c.in-Some.ensures.some in let at = c.in-Some.at in
    let read = at_index es at c.index.result.now (at_there es at there.0 there.1) c.index.ensures in
    let same : there.0 ≡ c.index.result.now = same_entry es at at there.0 c.index.result.now there.1 read (λ _. at) in
    (at, there.0, there.1, there.2, ap (λ (y : Entry). y.answer) same)
