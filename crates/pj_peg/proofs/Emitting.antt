-- The steps that tasks emit.
use Rattle.std.proofs.Common.{◌≡◌, ℕ, zero, suc, ◌+◌, ◌<◌, ◌≤◌, List, [], ◌∷◌, ◌++◌, length, Option, Some, None, refl, sym, ◌∙◌, ap, subst, arith, append_assoc, length-append, get_or}
use Rattle.std.specs.Prelude.{reverse, slice_get, slice_set}
use Rattle.std.proofs.lemmas.List.{reverse-append}
use Rattle.std.proofs.lemmas.Option.{slice_get_within}
use Rattle.pj_peg_grammar.specs.declared.derivation.Step.{Step}
use Rattle.pj_peg.specs.declared.calls.Call.{Call}
use Rattle.pj_peg.specs.declared.runner.Task.{Task}
use Rattle.pj_peg.specs.declared.runner.Task.TheVariants.{Open, Close}
use Rattle.pj_peg_grammar.specs.Form.{Form, rule}
use Rattle.pj_peg_grammar.specs.Derivation.{Forest, no_tree, tree, append, count, steps_from, steps_of}
use Rattle.pj_peg_grammar.specs.Derives.{Outcome, Derives, To, rule_to, rule_fails}
use Rattle.pj_peg.specs.Ends.{AreCalls, Collects}
use Rattle.pj_peg.specs.Emit.{opens, opened, Opens, set_next}
use Rattle.pj_peg.proofs.Lists.{append_nil}

opens_push : (cs : List Call) (c : Call) (ts : List Task) → opens (cs ++ c ∷ []) ++ ts ≡ opens cs ++ Open c ∷ ts
opens_push [] c ts = refl
opens_push (x ∷ cs) c ts = ap (λ l. Open x ∷ l) (opens_push cs c ts)

pub stacked : (calls rest first : List Call) (c : Call) (stack stack' old : List Task) → calls ≡ rest ++ c ∷ [] → stack' ≡ stack ++ Open c ∷ [] →
    opens calls ++ reverse stack ≡ opens first ++ reverse old → opens rest ++ reverse stack' ≡ opens first ++ reverse old
stacked calls rest first c stack stack' old is more same =
    ap (λ l. opens rest ++ reverse l) more
    ∙ ap (λ l. opens rest ++ l) (reverse-append stack (Open c ∷ []))
    ∙ sym (opens_push rest c (reverse stack))
    ∙ ap (λ l. opens l ++ reverse stack) (sym is)
    ∙ same

pub inverted : (rules : List Form) (kinds : List ℕ) (r i j : ℕ) (e : Forest) → Derives rules kinds (rule r) i (To j e) →
    (f : Form) × (d : Forest) × (slice_get rules r ≡ Some f) × Derives rules kinds f i (To j d) × (e ≡ tree r i j d no_tree)
inverted rules kinds r i j e (rule_to {d} f h x) = (f, d, h, x, refl)

pub set_is : (steps : List Step) (n m : ℕ) (s : Step) → n < length steps → s ≡ get_or steps n s → slice_set steps n (record s { next = m }) ≡ set_next steps n m
set_is [] n m s lt is = absurd (omega arith)
set_is (x ∷ steps) zero m s lt is = ap (λ (t : Step). record t { next = m } ∷ steps) is
set_is (x ∷ steps) (suc n) m s lt is = ap (λ l. x ∷ l) (set_is steps n m s (omega arith) is)

to_place : {j k : ℕ} {d e : Forest} → To j d ≡ To k e → j ≡ k
to_place h = cc

to_steps : {j k : ℕ} {d e : Forest} → To j d ≡ To k e → d ≡ e
to_steps h = cc

steps_length : (n : ℕ) (d : Forest) → length (steps_from n d) ≡ count d
steps_length n no_tree = refl
steps_length n (tree r i j below after) =
    let a = steps_length (n + 1) below in
    let b = steps_length (n + 1 + count below) after in
    let c = length-append (steps_from (n + 1) below) (steps_from (n + 1 + count below) after) in
    omega arith

-- a rule has at most one outcome at a place
abbrev pub HaveOneOutcome : List Form → List ℕ → Type 0
HaveOneOutcome rules kinds = (r i : ℕ) (o p : Outcome) → Derives rules kinds (rule r) i o → Derives rules kinds (rule r) i p → o ≡ p

rule_within : (rules : List Form) (kinds : List ℕ) (r i : ℕ) (o : Outcome) → Derives rules kinds (rule r) i o → r < length rules
rule_within rules kinds r i _ (rule_to f h x) = slice_get_within rules r f h
rule_within rules kinds r i _ (rule_fails f h x) = slice_get_within rules r f h

-- where each rule that is there has exactly one outcome at each place
pub one_from : (rules : List Form) (kinds : List ℕ) →
    ((r i : ℕ) → r < length rules → (o : Outcome) × Derives rules kinds (rule r) i o × ((p : Outcome) → Derives rules kinds (rule r) i p → p ≡ o)) → HaveOneOutcome rules kinds
one_from rules kinds one r i o p x y =
    let (q, z, same) = one r i (rule_within rules kinds r i o x) in
    same o x ∙ sym (same p y)

module _ (rules : List Form) (kinds : List ℕ) where
  -- a call is opened
  pub opening : (one : HaveOneOutcome rules kinds) (c : Call) (f : Form) (steps steps' : List Step) (stack stack1 stack' : List Task) (calls0 calls : List Call) (n : ℕ) →
      slice_get rules c.rule ≡ Some f → (d : Forest) × Derives rules kinds (rule c.rule) c.from (To c.to d) →
      steps' ≡ steps ++ opened c ∷ [] → stack1 ≡ stack ++ Close n ∷ [] → n ≡ length steps → calls0 ≡ [] → (end : Option ℕ) → Collects rules kinds f c.from calls0 calls end →
      reverse stack' ≡ opens calls ++ reverse stack1 → Opens rules kinds c steps stack steps' stack'
  opening one c f steps steps' stack stack1 stack' calls0 calls n is (d, x) emitted closes len none (Some k) (cs, made, (inner, y, below)) todo =
      let whole = rule_to f is y in
      let to : k ≡ c.to = to_place (one c.rule c.from _ _ whole x) in
      record {
        emitted = emitted;
        below = cs;
        todo = todo
            ∙ ap (λ l. opens l ++ reverse stack1) (made ∙ ap (λ l. l ++ cs) none)
            ∙ ap (λ l. opens cs ++ reverse l) closes
            ∙ ap (λ l. opens cs ++ l) (reverse-append stack (Close n ∷ []))
            ∙ ap (λ m. opens cs ++ Close m ∷ reverse stack) len;
        inner = inner;
        inner_is = below;
        derives = subst (λ k. Derives rules kinds (rule c.rule) c.from (To k (tree c.rule c.from k inner no_tree))) to whole;
      }
  opening one c f steps steps' stack stack1 stack' calls0 calls n is (d, x) emitted closes len none None (cs, made, y) todo =
      absurd (let z = one c.rule c.from _ _ x (rule_fails f is y) in cc)

  -- the rest of the work makes these steps in the end
  abbrev pub Finishes : List Task → List Step → List Step → Type 0
  Finishes [] steps final = steps ≡ final
  Finishes (Open c ∷ ts) steps final =
      (c.from ≤ length kinds) × ((d : Forest) × Derives rules kinds (rule c.rule) c.from (To c.to d) × Finishes ts (steps ++ steps_from (length steps) d) final)
  Finishes (Close n ∷ ts) steps final = (n < length steps) × Finishes ts (set_next steps n (length steps)) final

  steps_append : (n : ℕ) (d e : Forest) → steps_from n (append d e) ≡ steps_from n d ++ steps_from (n + count d) e
  steps_append n no_tree e = ap (λ m. steps_from m e) (plus_none n)
    where
      plus_none : (k : ℕ) → k ≡ k + 0
      plus_none k = omega arith
  steps_append n (tree r i j below after) e =
      let at : n + 1 + count below + count after ≡ n + (1 + count below + count after) = omega arith in
      let s : Step = record { rule = r; from = i; to = j; next = n + 1 + count below } in
      ap (λ l. s ∷ (steps_from (n + 1) below ++ l)) (steps_append (n + 1 + count below) after e)
      ∙ ap (λ l. s ∷ l) (sym (append_assoc (steps_from (n + 1) below) (steps_from (n + 1 + count below) after) (steps_from (n + 1 + count below + count after) e)))
      ∙ ap (λ m. s ∷ ((steps_from (n + 1) below ++ steps_from (n + 1 + count below) after) ++ steps_from m e)) at

  opens_finish : (cs : List Call) (ts : List Task) (steps final : List Step) (d : Forest) → AreCalls rules kinds cs d →
      Finishes ts (steps ++ steps_from (length steps) d) final → Finishes (opens cs ++ ts) steps final
  opens_finish [] ts steps final d is fin =
      subst (λ l. Finishes ts l final) (ap (λ e. steps ++ steps_from (length steps) e) is ∙ sym (append_nil steps)) fin
  opens_finish (c ∷ cs) ts steps final d (e, rest, within, x, more, is) fin =
      let here = steps_from (length steps) e in
      let len : length (steps ++ here) ≡ length steps + count e = length-append steps here ∙ ap (λ m. length steps + m) (steps_length (length steps) e) in
      let same : steps ++ steps_from (length steps) d ≡ (steps ++ here) ++ steps_from (length (steps ++ here)) rest =
      ap (λ f. steps ++ steps_from (length steps) f) is
      ∙ ap (λ l. steps ++ l) (steps_append (length steps) e rest)
      ∙ sym (append_assoc steps here (steps_from (length steps + count e) rest))
      ∙ ap (λ m. (steps ++ here) ++ steps_from m rest) (sym len) in
      (within, (e, x, opens_finish cs ts (steps ++ here) final rest more (subst (λ l. Finishes ts l final) same fin)))

  set_behind : (steps rest : List Step) (s : Step) (m : ℕ) → set_next (steps ++ s ∷ rest) (length steps) m ≡ steps ++ (record s { next = m }) ∷ rest
  set_behind [] rest s m = refl
  set_behind (x ∷ steps) rest s m = ap (λ l. x ∷ l) (set_behind steps rest s m)

  -- the call on top is opened
  pub finish_open : (one : HaveOneOutcome rules kinds) (c : Call) (ts : List Task) (steps steps' final : List Step) (stack stack' : List Task) → reverse stack ≡ ts → Finishes (Open c ∷ ts) steps final →
      Opens rules kinds c steps stack steps' stack' → Finishes (reverse stack') steps' final
  finish_open one c ts steps steps' final stack stack' rest (within, (d, x, fin)) opens_it =
      let n = length steps in
      let inner = opens_it.inner in
      let d_is : d ≡ tree c.rule c.from c.to inner no_tree = to_steps (one c.rule c.from _ _ x opens_it.derives) in
      let base : List Step = steps ++ opened c ∷ [] in
      let base_len : length base ≡ n + 1 = length-append steps (opened c ∷ []) in
      let emitted : List Step = steps_from (n + 1) inner in
      let after : List Step = base ++ steps_from (length base) inner in
      let after_is : after ≡ steps ++ opened c ∷ emitted = ap (λ m. base ++ steps_from m inner) base_len ∙ append_assoc steps (opened c ∷ []) emitted in
      let after_len : length after ≡ n + 1 + count inner =
      length-append base (steps_from (length base) inner) ∙ ap (λ m. m + length (steps_from (length base) inner)) base_len ∙ ap (λ m. n + 1 + m) (steps_length (length base) inner) in
      let closed : set_next after n (length after) ≡ steps ++ steps_from n d =
      ap (λ m. set_next after n m) after_len
      ∙ ap (λ l. set_next l n (n + 1 + count inner)) after_is
      ∙ set_behind steps emitted (opened c) (n + 1 + count inner)
      ∙ ap (λ l. steps ++ (record { rule = c.rule; from = c.from; to = c.to; next = n + 1 + count inner }) ∷ l) (append_nil emitted)
      ∙ ap (λ f. steps ++ steps_from n f) (sym d_is) in
      let last : Finishes (Close n ∷ ts) after final = (omega arith, subst (λ l. Finishes ts l final) (sym closed) fin) in
      let all_of : Finishes (opens opens_it.below ++ Close n ∷ ts) base final = opens_finish opens_it.below (Close n ∷ ts) base final inner opens_it.inner_is last in
      subst (λ l. Finishes (reverse stack') l final) (sym opens_it.emitted)
      (subst (λ t. Finishes t base final) (ap (λ t. opens opens_it.below ++ Close n ∷ t) (sym rest) ∙ sym opens_it.todo) all_of)

  -- what is still to be emitted for the first call
  pub record Emits (first : Call) (steps : List Step) (todo : List Task) : Type 0 where
    pub finishes : (d : Forest) → Derives rules kinds (rule first.rule) first.from (To first.to d) → Finishes todo steps (steps_of d)

  pub emits_first : (first : Call) (steps : List Step) (stack stack' : List Task) → steps ≡ [] → stack ≡ [] → stack' ≡ stack ++ Open first ∷ [] → first.from ≤ length kinds → Emits first steps (reverse stack')
  emits_first first steps stack stack' none empty pushed within = subst (Emits first steps) (sym (ap reverse (pushed ∙ ap (λ l. l ++ Open first ∷ []) empty)))
      (subst (λ l. Emits first l (Open first ∷ [])) (sym none) (record { finishes = λ d x. (within, (d, x, refl)) }))

  on_top : (task : Task) (stack rest : List Task) → stack ≡ rest ++ task ∷ [] → reverse stack ≡ task ∷ reverse rest
  on_top task stack rest is = ap reverse is ∙ reverse-append rest (task ∷ [])

  pub emits_open : (one : HaveOneOutcome rules kinds) (first c : Call) (steps steps' : List Step) (stack rest stack' : List Task) → Emits first steps (reverse stack) → stack ≡ rest ++ Open c ∷ [] →
      Opens rules kinds c steps rest steps' stack' → Emits first steps' (reverse stack')
  emits_open one first c steps steps' stack rest stack' emits top opens_it = record {
    finishes = λ d x.
        finish_open one c (reverse rest) steps steps' (steps_of d) rest stack' refl (subst (λ t. Finishes t steps (steps_of d)) (on_top (Open c) stack rest top) (emits.finishes d x)) opens_it;
  }

  -- the call on top can be opened
  pub top_open : (first c : Call) (steps : List Step) (stack rest : List Task) (e : Forest) → Derives rules kinds (rule first.rule) first.from (To first.to e) → Emits first steps (reverse stack) → stack ≡ rest ++ Open c ∷ [] →
      (c.from ≤ length kinds) × ((d : Forest) × Derives rules kinds (rule c.rule) c.from (To c.to d))
  top_open first c steps stack rest e x emits top =
      let (within, (d, y, fin)) = subst (λ t. Finishes t steps (steps_of e)) (on_top (Open c) stack rest top) (emits.finishes e x) in
      (within, (d, y))

  pub top_close : (first : Call) (n : ℕ) (steps : List Step) (stack rest : List Task) (e : Forest) → Derives rules kinds (rule first.rule) first.from (To first.to e) → Emits first steps (reverse stack) → stack ≡ rest ++ Close n ∷ [] →
      n < length steps
  top_close first n steps stack rest e x emits top =
      let (lt, fin) = subst (λ t. Finishes t steps (steps_of e)) (on_top (Close n) stack rest top) (emits.finishes e x) in lt

  pub emits_close : (first : Call) (n : ℕ) (steps steps' : List Step) (stack rest : List Task) → Emits first steps (reverse stack) →
      stack ≡ rest ++ Close n ∷ [] → steps' ≡ set_next steps n (length steps) → Emits first steps' (reverse rest)
  emits_close first n steps steps' stack rest emits top is = record {
    finishes = λ d x.
        let (lt, fin) = subst (λ t. Finishes t steps (steps_of d)) (on_top (Close n) stack rest top) (emits.finishes d x) in
        subst (λ l. Finishes (reverse rest) l (steps_of d)) (sym is) fin;
  }

  pub length_set : (steps : List Step) (n m : ℕ) → length (set_next steps n m) ≡ length steps
  length_set [] n m = refl
  length_set (s ∷ steps) zero m = refl
  length_set (s ∷ steps) (suc n) m = ap suc (length_set steps n m)

  pub emits_end : (first : Call) (steps : List Step) (stack : List Task) → Emits first steps (reverse stack) → stack ≡ [] → (d : Forest) → Derives rules kinds (rule first.rule) first.from (To first.to d) → steps ≡ steps_of d
  emits_end first steps stack emits empty d x = subst (λ t. Finishes t steps (steps_of d)) (ap reverse empty) (emits.finishes d x)

  pub task_open : (one : HaveOneOutcome rules kinds) (first c : Call) (task : Task) (steps S steps' : List Step) (stack rest T stack' : List Task) → Emits first steps (reverse stack) → stack ≡ rest ++ task ∷ [] → task ≡ Open c →
      Opens rules kinds c steps rest S T → steps' ≡ S → stack' ≡ T → Emits first steps' (reverse stack')
  task_open one first c task steps S steps' stack rest T stack' emits top is opens_it s t =
      subst (λ l. Emits first l (reverse stack')) (sym s) (subst (λ l. Emits first S (reverse l)) (sym t)
      (emits_open one first c steps S stack rest T emits (top ∙ ap (λ k. rest ++ k ∷ []) is) opens_it))

  pub task_close : (first : Call) (n : ℕ) (task : Task) (steps S steps' : List Step) (stack rest T stack' : List Task) → Emits first steps (reverse stack) → stack ≡ rest ++ task ∷ [] → task ≡ Close n →
      S ≡ set_next steps n (length steps) → steps' ≡ S → stack' ≡ rest → Emits first steps' (reverse stack')
  task_close first n task steps S steps' stack rest T stack' emits top is set s t =
      subst (λ l. Emits first steps' (reverse l)) (sym t)
      (emits_close first n steps steps' stack rest emits (top ∙ ap (λ k. rest ++ k ∷ []) is) (s ∙ set))

  pub opened_length : (c : Call) (steps S steps' : List Step) (stack T : List Task) → Opens rules kinds c steps stack S T → steps' ≡ S → length steps' ≡ length steps + 1
  opened_length c steps S steps' stack T opens_it s = ap length (s ∙ opens_it.emitted) ∙ length-append steps (opened c ∷ [])

  pub closed_length : (n m : ℕ) (steps S steps' : List Step) → S ≡ set_next steps n m → steps' ≡ S → length steps' ≡ length steps
  closed_length n m steps S steps' set s = ap length (s ∙ set) ∙ length_set steps n m
