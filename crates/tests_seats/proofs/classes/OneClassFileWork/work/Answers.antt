use Rattle.std.proofs.Common.{rules, ◌≡◌, ◌∙◌, ◌<◌, ◌≤◌, ℕ, zero, suc, List, [], ◌∷◌, arith, get_or, length, refl, subst}
use Rattle.std.specs.Prelude.{Result, Ok, Err, IfOk}
use Rattle.std.specs.declared.alloc.Global.{Global}
use Rattle.std.specs.declared.sync.Arc.{Arc}
use Rattle.pj_names.specs.Asking.{ask, value_of}
use Rattle.pj_names.specs.ClassName.{Name}
use Rattle.pj_names.specs.Told.{Worlds, longest, seen, shared_answer}
use Rattle.pj_names.specs.declared.answer.Answer.{Answer}
use Rattle.pj_names.specs.declared.oracle.AskFault.{AskFault}
use Rattle.tests_seats.proofs.classes.OneClassFileWork.work.Goals as goal

answers_so : (world : Worlds) (name : Name) (r : Result (Arc Answer Global) AskFault) → ((depth : ℕ) → longest ≤ depth → IfOk (seen shared_answer r) (λ value. value ≡ value_of depth (world depth).answer (ask name)))
    → IfOk r (λ answer. (depth : ℕ) → longest ≤ depth → answer.value ≡ (world depth).answer name)
answers_so world name (Ok answer) is = is
answers_so world name (Err fault) is = tt

-- which default stands behind a list says nothing of its members
same_member : {A : Type 0} (xs : List A) (i : ℕ) (d e : A) → i < length xs → get_or xs i d ≡ get_or xs i e
same_member [] i d e below = absurd (omega (arith, below))
same_member (x ∷ xs) zero d e below = refl
same_member (x ∷ xs) (suc i) d e below = same_member xs i d e (omega (arith, below))

pub returns-clause-comes : goal.returns-clause-comes
returns-clause-comes g c = λ told.
    let world = (g.O.Oracle.tells c.args.oracle.now).world in
    let name : c.index.result.now ≡ get_or c.args.self.now.names.items c.args.file [] = c.index.ensures ∙ same_member c.args.self.now.names.items c.args.file c.index.result.now [] (search rules) in
    subst (λ (n : Name). IfOk c.ask.result (λ answer. (depth : ℕ) → longest ≤ depth → answer.value ≡ (world depth).answer n)) name (answers_so world c.index.result.now c.ask.result (c.ask.ensures.value_is told))
