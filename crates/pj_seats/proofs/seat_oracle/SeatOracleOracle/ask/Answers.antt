use Rattle.std.proofs.Common.{◌≡◌, ◌∙◌, ◌+◌, ◌++◌, ◌∷◌, [], ℕ, List, ap, refl, rules, subst, sym, vec_len}
use Rattle.std.proofs.lemmas.Bool.{false≢true}
use Rattle.std.specs.declared.sync.Arc.{Arc}
use Rattle.std.specs.declared.alloc.Global.{Global}
use Rattle.std.specs.FinSet as set
use Rattle.pj_names.specs.ClassName.{Name, name_set}
use Rattle.pj_names.specs.declared.answer.Answer.{Answer}
use Rattle.pj_names.specs.declared.oracle.AskFault.TheVariants.{Memory}
use Rattle.pj_names.proofs.AskingLaws.{asks-stop, within-self}
use Rattle.pj_names.proofs.NotingLaws.{insert-there}
use Rattle.pj_table.specs.Held.{AreHeldAnswers}
use Rattle.pj_table.specs.Names.{part_of}
use Rattle.pj_table.specs.Seats.{view_of}
use Rattle.pj_table.proofs.OracleLaws.{asks-name-answer, asks-name-memory, held_found, held_on, held_put, new_is_held, within_put}
use Rattle.pj_seats.specs.Looks.{before_last}
use Rattle.pj_seats.proofs.Asks.{all_more, asks-name-not, keeps, names_more, not_asked, once_more, other_value, put_copy, right_answer}
use Rattle.pj_seats.proofs.Looks.{finds_more, looks_more, looks_stay, start_after_look, start_after_refusal}
use Rattle.pj_seats.proofs.seat_oracle.SeatOracleOracle.ask.Goals as goal

pub returns-in_err-clone : goal.returns-in_err-clone
returns-in_err-clone g c = asks-stop (search rules)

pub returns-in-Some : goal.returns-in-Some
returns-in-Some g c =
    let s = c.args.self.now in let asked = name_set s.names.items in let h = held_found _ asked s.answers.entries c.args.name.now c.in-Some.answer.now s.held (sym c.in-Some.ensures.value) in
    asks-name-answer {a = c.in-Some.answer.now.value} (search rules) (search rules) (search rules) (insert-there asked c.args.name.now (sym h.was_asked)) (search rules) h.is

pub returns-then-not-self : goal.returns-then-not-self
returns-then-not-self g c = asks-stop (search rules)

pub returns-in_err-key : goal.returns-in_err-key
returns-in_err-key g c = asks-stop (search rules)

pub returns-in_err-asked : goal.returns-in_err-asked
returns-in_err-asked g c = asks-stop (search rules)

pub returns-in_err-reserve : goal.returns-in_err-reserve
returns-in_err-reserve g c =
    let s = c.args.self.now in let v = view_of s.station.now.seat in
    asks-name-not {e = Memory} (search rules) (keeps s.station.ghost_name s.finds refl (ap (λ (k : ℕ). before_last k v) c.reserve.ensures.len)) refl (ap name_set c.reserve.ensures.items) refl

-- an ask without an answer
pub returns-in-Err : goal.returns-in-Err
returns-in-Err g c =
    let s = c.args.self.now in let t = c.ask_at in let w = view_of t.new.station.seat in
    asks-name-not {e = c.in-Err.fault} (search rules)
    (keeps s.station.ghost_name s.finds (λ i. (t.ensures.table.0 i, t.ensures.table.1 i))
    (ap (λ (k : ℕ). before_last k w) c.reserve.ensures.len ∙ start_after_refusal (vec_len s.names) (view_of s.station.now.seat) w c.in-Err.ensures.err))
    t.ensures.same_folders (ap name_set c.reserve.ensures.items)
    (other_value (Arc Answer Global) Answer (g.D.ClassFinder.faults s.station.now.door) (g.D.ClassFinder.faults t.new.station.door) c.in-Err.fault c.in-Err.ensures.faults)

-- an ask with an answer, which is held or not

pub returns-in_err-clone-2 : goal.returns-in_err-clone-2
returns-in_err-clone-2 g c =
    let s = c.args.self.now in let t = c.ask_at in let n = vec_len s.names in let name = c.args.name.now in let v = view_of s.station.now.seat in let w = view_of t.new.station.seat in let look = c.in-Ok.ensures.ok.1 in
    let put : c.push_reserved.new.self.items ≡ s.names.items ++ name ∷ [] = put_copy c.push_reserved.ensures.items c.reserve.ensures.items (search rules) in
    let long : vec_len c.push_reserved.new.self ≡ n + 1 = c.push_reserved.ensures.len ∙ ap (λ (k : ℕ). k + 1) c.reserve.ensures.len in
    asks-name-memory (search rules)
    (keeps s.station.ghost_name s.finds (λ i. (t.ensures.table.0 i, t.ensures.table.1 i)) (start_after_look n (vec_len c.push_reserved.new.self) (part_of name) name _ v w long look))
    t.ensures.same_folders (names_more s.names.items c.push_reserved.new.self.items name put) c.in-Ok.ensures.faults

pub returns-in_err-insert : goal.returns-in_err-insert
returns-in_err-insert g c =
    let s = c.args.self.now in let t = c.ask_at in let n = vec_len s.names in let name = c.args.name.now in let v = view_of s.station.now.seat in let w = view_of t.new.station.seat in let look = c.in-Ok.ensures.ok.1 in
    let put : c.push_reserved.new.self.items ≡ s.names.items ++ name ∷ [] = put_copy c.push_reserved.ensures.items c.reserve.ensures.items (search rules) in
    let long : vec_len c.push_reserved.new.self ≡ n + 1 = c.push_reserved.ensures.len ∙ ap (λ (k : ℕ). k + 1) c.reserve.ensures.len in
    asks-name-memory (search rules)
    (keeps s.station.ghost_name s.finds (λ i. (t.ensures.table.0 i, t.ensures.table.1 i)) (start_after_look n (vec_len c.push_reserved.new.self) (part_of name) name _ v w long look))
    t.ensures.same_folders (names_more s.names.items c.push_reserved.new.self.items name put) c.in-Ok.ensures.faults

pub returns : goal.returns
returns g c =
    let s = c.args.self.now in let t = c.ask_at in let n = vec_len s.names in let name = c.args.name.now in let v = view_of s.station.now.seat in let w = view_of t.new.station.seat in let look = c.in-Ok.ensures.ok.1 in
    let put : c.push_reserved.new.self.items ≡ s.names.items ++ name ∷ [] = put_copy c.push_reserved.ensures.items c.reserve.ensures.items (search rules) in
    let long : vec_len c.push_reserved.new.self ≡ n + 1 = c.push_reserved.ensures.len ∙ ap (λ (k : ℕ). k + 1) c.reserve.ensures.len in
    asks-name-answer {a = c.in-Ok.answer.value} (search rules)
    (keeps s.station.ghost_name s.finds (λ i. (t.ensures.table.0 i, t.ensures.table.1 i)) (start_after_look n (vec_len c.push_reserved.new.self) (part_of name) name _ v w long look))
    t.ensures.same_folders (names_more s.names.items c.push_reserved.new.self.items name put) c.in-Ok.ensures.faults
    (right_answer name c.in-Ok.answer.value s.same_world c.in-Ok.ensures.ok.0)

-- what holds of the oracle afterwards

pub invariant_of-self-in-Err-1 : goal.invariant_of-self-in-Err-1
invariant_of-self-in-Err-1 g c =
    let s = c.args.self.now in let t = c.ask_at in let n = vec_len s.names in let v = view_of s.station.now.seat in let w = view_of t.new.station.seat in let quiet = c.in-Err.ensures.err in let same = c.reserve.ensures.items in
    record {
      of_table = t.ensures.table.0 ∙ s.of_table;
      same_world = t.ensures.same_folders ∙ s.same_world ∙ sym quiet.1.1;
      looks = looks_stay n (vec_len c.reserve.new.self) s.names.items c.reserve.new.self.items v w c.reserve.ensures.len same quiet s.looks;
      once = ap (λ (l : List Name). set.len (name_set l)) same ∙ s.once ∙ sym c.reserve.ensures.len;
      held = subst (λ (l : List Name). AreHeldAnswers (g.D.ClassFinder.holds t.new.station.door) (name_set l) s.answers.entries) (sym same) (held_on s.answers.entries t.ensures.same_folders (within-self (name_set s.names.items)) s.held);
      all_held = λ is. absurd (false≢true is);
      counted = λ is. absurd (false≢true is);
    }

pub invariant_of-self-in-Break-branch-5 : goal.invariant_of-self-in-Break-branch-5
invariant_of-self-in-Break-branch-5 g c =
    let s = c.args.self.now in let t = c.ask_at in let n = vec_len s.names in let name = c.args.name.now in let v = view_of s.station.now.seat in let w = view_of t.new.station.seat in let look = c.in-Ok.ensures.ok.1 in
    let put : c.push_reserved.new.self.items ≡ s.names.items ++ name ∷ [] = put_copy c.push_reserved.ensures.items c.reserve.ensures.items (search rules) in
    let long : vec_len c.push_reserved.new.self ≡ n + 1 = c.push_reserved.ensures.len ∙ ap (λ (k : ℕ). k + 1) c.reserve.ensures.len in
    let more = names_more s.names.items c.push_reserved.new.self.items name put in
    let whole = s.all_held (search rules) in
    let absent = not_asked (name_set s.names.items) s.answers name whole (search rules) in
    record {
      of_table = t.ensures.table.0 ∙ s.of_table;
      same_world = t.ensures.same_folders ∙ s.same_world ∙ sym look.5.1;
      looks = looks_more n (vec_len c.push_reserved.new.self) name _ v w s.names.items c.push_reserved.new.self.items long put look s.looks;
      once = once_more n (vec_len c.push_reserved.new.self) (name_set s.names.items) (name_set c.push_reserved.new.self.items) name more absent s.once long;
      held = held_on s.answers.entries t.ensures.same_folders (within_put name more) s.held;
      all_held = λ is. absurd (false≢true is);
      counted = λ is. absurd (false≢true is);
    }

pub invariant_of-self-in-Break-branch-6 : goal.invariant_of-self-in-Break-branch-6
invariant_of-self-in-Break-branch-6 g c =
    let s = c.args.self.now in let t = c.ask_at in let n = vec_len s.names in let name = c.args.name.now in let v = view_of s.station.now.seat in let w = view_of t.new.station.seat in let look = c.in-Ok.ensures.ok.1 in
    let put : c.push_reserved.new.self.items ≡ s.names.items ++ name ∷ [] = put_copy c.push_reserved.ensures.items c.reserve.ensures.items (search rules) in
    let long : vec_len c.push_reserved.new.self ≡ n + 1 = c.push_reserved.ensures.len ∙ ap (λ (k : ℕ). k + 1) c.reserve.ensures.len in
    let more = names_more s.names.items c.push_reserved.new.self.items name put in
    let whole = s.all_held (search rules) in
    let absent = not_asked (name_set s.names.items) s.answers name whole (search rules) in
    record {
      of_table = t.ensures.table.0 ∙ s.of_table;
      same_world = t.ensures.same_folders ∙ s.same_world ∙ sym look.5.1;
      looks = looks_more n (vec_len c.push_reserved.new.self) name _ v w s.names.items c.push_reserved.new.self.items long put look s.looks;
      once = once_more n (vec_len c.push_reserved.new.self) (name_set s.names.items) (name_set c.push_reserved.new.self.items) name more absent s.once long;
      held = held_put s.answers.entries c.insert.new.self.entries name c.key.inside.text c.in_ok-clone-2.field-0 c.insert.result (search rules) (held_on s.answers.entries t.ensures.same_folders (within_put name more) s.held)
          (new_is_held (name_set s.names.items) t.ensures.same_folders more (search rules) (right_answer name c.in-Ok.answer.value s.same_world c.in-Ok.ensures.ok.0)) c.insert.ensures.entries c.insert.ensures.err;
      all_held = λ is. absurd (false≢true is);
      counted = λ is. absurd (false≢true is);
    }

pub invariant_of-self-2 : goal.invariant_of-self-2
invariant_of-self-2 g c =
    let s = c.args.self.now in let t = c.ask_at in let n = vec_len s.names in let name = c.args.name.now in let v = view_of s.station.now.seat in let w = view_of t.new.station.seat in let look = c.in-Ok.ensures.ok.1 in
    let put : c.push_reserved.new.self.items ≡ s.names.items ++ name ∷ [] = put_copy c.push_reserved.ensures.items c.reserve.ensures.items (search rules) in
    let long : vec_len c.push_reserved.new.self ≡ n + 1 = c.push_reserved.ensures.len ∙ ap (λ (k : ℕ). k + 1) c.reserve.ensures.len in
    let more = names_more s.names.items c.push_reserved.new.self.items name put in
    let whole = s.all_held (search rules) in
    let absent = not_asked (name_set s.names.items) s.answers name whole (search rules) in
    record {
      of_table = t.ensures.table.0 ∙ s.of_table;
      same_world = t.ensures.same_folders ∙ s.same_world ∙ sym look.5.1;
      looks = looks_more n (vec_len c.push_reserved.new.self) name _ v w s.names.items c.push_reserved.new.self.items long put look s.looks;
      once = once_more n (vec_len c.push_reserved.new.self) (name_set s.names.items) (name_set c.push_reserved.new.self.items) name more absent s.once long;
      held = held_put s.answers.entries c.insert.new.self.entries name c.key.inside.text c.in_ok-clone-2.field-0 c.insert.result (search rules) (held_on s.answers.entries t.ensures.same_folders (within_put name more) s.held)
          (new_is_held (name_set s.names.items) t.ensures.same_folders more (search rules) (right_answer name c.in-Ok.answer.value s.same_world c.in-Ok.ensures.ok.0)) c.insert.ensures.entries c.insert.ensures.err;
      all_held = λ is. all_more (name_set s.names.items) (name_set c.push_reserved.new.self.items) s.answers c.insert.new.self name c.key.inside.text c.in_ok-clone-2.field-0 more (search rules) whole c.in_ok-insert.ensures.updates;
      counted = λ is. finds_more s.finds (g.D.ClassFinder.finds s.station.now.door) (g.D.ClassFinder.finds t.new.station.door) n (vec_len c.push_reserved.new.self) (part_of name) name v w long look (s.counted (search rules));
    }
