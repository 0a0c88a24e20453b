use Rattle.std.proofs.Common.{◌≡◌, ◌<◌, ℕ, ◌+◌, add-one, List, [], ◌∷◌, ◌++◌, drop, get_or, length, map, take, sym, ap, subst, ◌∙◌}
use Rattle.std.proofs.lemmas.List.{map-append}
use Rattle.std.proofs.Math.Seq.{take-suc}
use Rattle.pj_names.specs.declared.answer.Answer.{Answer}
use Rattle.pj_names.specs.ClassName.{Name}
use Rattle.pj_names.proofs.AskingLaws.{ComesTo, comes-then, left_from}
use Rattle.pj_left_cache.specs.Leaving.{answers_behind}
use Rattle.pj_left_cache.proofs.leaving.answers_for.Goals as goal

next_taken : (xs : List Name) (i : ℕ) (x : Name) → i < length xs → take (i + 1) xs ≡ take i xs ++ get_or xs i x ∷ []
next_taken xs i x below = rw (add-one) (take-suc xs i x below)

pub loop-name-preserved : goal.loop-name-preserved
loop-name-preserved g c =
    let names = c.args.names.now in
    let i = c.loop-name.name-index in
    let name = c.name-item.result in
    let front = c.loop-name.answers in
    let left : drop i names ≡ name ∷ drop (i + 1) names = left_from names i name c.loop-name-test.true ∙ ap (λ (n : List ℕ). n ∷ drop (i + 1) names) (sym c.name-item.is) in
    let so_far = subst (λ (l : List (List ℕ)). ComesTo (answers_behind [] names) (g.O.Oracle.tells c.args.oracle.now) (answers_behind front l) (g.O.Oracle.tells c.loop-name.oracle)) left c.loop-name.invariant.0 in
    let asked = rw c.as_name-name.ensures at c.in_ok-now.ensures in
    let next = comes-then (λ (now : Answer). answers_behind (front ++ (name, now) ∷ []) (drop (i + 1) names)) so_far asked in
    let put : c.in_ok-answers.answers ≡ front ++ (name, c.in_ok-now.now.value) ∷ [] = c.in_ok-answers.ensures ∙ ap (λ (n : Name). front ++ (n, c.in_ok-now.now.value) ∷ []) c.as_name-name.ensures in
    let first : map (λ (a : Name × Answer). a.0) c.in_ok-answers.answers ≡ map (λ (a : Name × Answer). a.0) front ++ name ∷ [] =
    ap (λ (l : List (Name × Answer)). map (λ (a : Name × Answer). a.0) l) put ∙ map-append (λ (a : Name × Answer). a.0) front ((name, c.in_ok-now.now.value) ∷ []) in
    let named : map (λ (a : Name × Answer). a.0) front ++ name ∷ [] ≡ take (i + 1) names =
    ap (λ (l : List Name). l ++ name ∷ []) c.loop-name.invariant.1
    ∙ ap (λ (n : List ℕ). take i names ++ n ∷ []) c.name-item.is ∙ sym (next_taken names i name c.loop-name-test.true) in
    (subst (λ (l : List (Name × Answer)). ComesTo (answers_behind [] names) (g.O.Oracle.tells c.args.oracle.now) (answers_behind l (drop (i + 1) names)) (g.O.Oracle.tells c.ask.new.self)) (sym put) next, first ∙ named)
