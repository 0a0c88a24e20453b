use Rattle.std.proofs.Common.{◌≡◌, rules, sym}
use Rattle.std.specs.FinSet as set
use Rattle.pj_names.specs.declared.oracle.AskFault.TheVariants.{Failed}
use Rattle.pj_names.proofs.AskingLaws.{asks-stop}
use Rattle.pj_names.proofs.NotingLaws.{insert-there}
use Rattle.pj_table.proofs.OracleLaws.{asks-name-answer, asks-name-memory, asks-name-refused, count_more, held_found, held_on, held_put, new_is_held, read_is, within_put}
use Rattle.pj_table.proofs.door_oracle.DoorOracleOracle.ask.Goals as goal

pub returns-in_err-clone : goal.returns-in_err-clone
returns-in_err-clone g c = asks-stop (search rules)

pub returns-then-contains : goal.returns-then-contains
returns-then-contains g c = asks-stop (search rules)

pub returns-in_err-key : goal.returns-in_err-key
returns-in_err-key g c = asks-stop (search rules)

pub returns-in_err-copied : goal.returns-in_err-copied
returns-in_err-copied g c = asks-stop (search rules)

pub returns-in_err-insert : goal.returns-in_err-insert
returns-in_err-insert g c = rw c.in_err-insert.ensures.err (asks-stop (search rules))

pub returns-in-Some : goal.returns-in-Some
returns-in-Some g c =
    let s = c.args.self.now in let h = held_found _ s.asked s.answers.entries c.args.name.now c.in-Some.answer.now s.held (sym c.in-Some.ensures.value) in
    asks-name-answer {a = c.in-Some.answer.now.value} (search rules) (search rules) (search rules) (insert-there s.asked c.args.name.now (sym h.was_asked)) (search rules) h.is

pub returns-in-Err-Failed : goal.returns-in-Err-Failed
returns-in-Err-Failed g c = asks-name-refused {e = Failed} (search rules) (search rules) c.find.ensures.same_folders (search rules) (search rules)

pub returns-in-Err-Memory : goal.returns-in-Err-Memory
returns-in-Err-Memory g c = asks-name-memory (search rules) (search rules) c.find.ensures.same_folders (search rules) (search rules)

pub returns-in_err-answer : goal.returns-in_err-answer
returns-in_err-answer g c = asks-name-memory (search rules) (search rules) c.find.ensures.same_folders (search rules) (search rules)

pub returns-in_err-clone-2 : goal.returns-in_err-clone-2
returns-in_err-clone-2 g c = asks-name-memory (search rules) (search rules) c.find.ensures.same_folders (search rules) (search rules)

pub returns-in_err-insert-2 : goal.returns-in_err-insert-2
returns-in_err-insert-2 g c = asks-name-memory (search rules) (search rules) c.find.ensures.same_folders (search rules) (search rules)

pub returns : goal.returns
returns g c = asks-name-answer {a = c.in_ok-answer.answer.value} (search rules) (search rules) c.find.ensures.same_folders (search rules) (search rules) (read_is _ _ _ _ c.in-Ok.ensures.reading c.in_ok-answer.ensures)

pub invariant_of-self-in-Err-1 : goal.invariant_of-self-in-Err-1
invariant_of-self-in-Err-1 g c =
    let s = c.args.self.now in let put : c.insert.new.self ≡ set.insert s.asked c.args.name.now = search rules in record {
      held = held_on s.answers.entries c.find.ensures.same_folders (within_put c.args.name.now put) s.held;
      counted = count_more s.finds s.asked c.args.name.now put (search rules) s.counted c.find.ensures.counts_finds;
    }

pub invariant_of-self-in-Break-branch-5 : goal.invariant_of-self-in-Break-branch-5
invariant_of-self-in-Break-branch-5 g c =
    let s = c.args.self.now in let put : c.insert.new.self ≡ set.insert s.asked c.args.name.now = search rules in record {
      held = held_on s.answers.entries c.find.ensures.same_folders (within_put c.args.name.now put) s.held;
      counted = count_more s.finds s.asked c.args.name.now put (search rules) s.counted c.find.ensures.counts_finds;
    }

pub invariant_of-self-in-Break-branch-6 : goal.invariant_of-self-in-Break-branch-6
invariant_of-self-in-Break-branch-6 g c =
    let s = c.args.self.now in let put : c.insert.new.self ≡ set.insert s.asked c.args.name.now = search rules in record {
      held = held_on s.answers.entries c.find.ensures.same_folders (within_put c.args.name.now put) s.held;
      counted = count_more s.finds s.asked c.args.name.now put (search rules) s.counted c.find.ensures.counts_finds;
    }

pub invariant_of-self-2 : goal.invariant_of-self-2
invariant_of-self-2 g c =
    let s = c.args.self.now in let put : c.insert.new.self ≡ set.insert s.asked c.args.name.now = search rules in record {
      held = held_put s.answers.entries c.insert-2.new.self.entries c.args.name.now c.key.inside.text c.in_ok-clone-2.field-0 c.insert-2.result (search rules) (held_on s.answers.entries c.find.ensures.same_folders (within_put c.args.name.now put) s.held)
          (new_is_held s.asked c.find.ensures.same_folders put (search rules) (read_is _ _ _ _ c.in-Ok.ensures.reading c.in_ok-answer.ensures)) c.insert-2.ensures.entries c.insert-2.ensures.err;
      counted = count_more s.finds s.asked c.args.name.now put (search rules) s.counted c.find.ensures.counts_finds;
    }
