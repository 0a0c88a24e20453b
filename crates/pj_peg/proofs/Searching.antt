-- What a search keeps: answers that are true, and questions of what is there.
use Rattle.std.proofs.Common.{◌≡◌, ℕ, ◌+◌, ◌-◌, ◌^◌, ◌<◌, ◌≤◌, List, [], ◌∷◌, ◌++◌, length, Option, Some, None, refl, sym, ◌∙◌, subst, ap, arith, IsSome}
use Rattle.std.specs.Prelude.{slice_get, All}
use Rattle.std.proofs.Common.{add-one}
use Rattle.std.proofs.lemmas.List.Elements.{All-push}
use Rattle.std.proofs.lemmas.Option.{slice_get_within}
use Rattle.pj_peg.specs.declared.plan.Plan.{Plan}
use Rattle.pj_peg.specs.declared.plan.Memo.{Memo}
use Rattle.pj_peg.specs.declared.plan.Question.{Question}
use Rattle.pj_peg_grammar.specs.Form.{Form, star}
use Rattle.pj_peg_grammar.specs.Program.{form_at, forms_in, rules_of}
use Rattle.pj_peg.specs.Table.{cell_at, end_of_code, code_of_end}
use Rattle.pj_peg.specs.Ends.{Ends, IsSafe}
use Rattle.pj_peg.specs.Slots.{columns, column_form, ruled_out_end}
use Rattle.pj_peg.specs.Plan.{IsPlan, IsSound, IsAsked, slot_at}
use Rattle.pj_peg.proofs.Going.{ends_within}
use Rattle.pj_peg.proofs.Safe.{root_form, rule_safe, star_safe, rule_ends}
use Rattle.pj_peg.proofs.Columns.{slot_out, column_rule, column_star}
use Rattle.pj_peg.proofs.Known.{known_now}

code_back : (o : Option ℕ) → end_of_code (code_of_end o) ≡ o
code_back None = refl
code_back (Some e) = ap end_of_code (add-one e)

module _ (plan : Plan) (kinds : List ℕ) (is_p : IsPlan plan) where
  abbrev ColumnEnds : ℕ → ℕ → Option ℕ → Type 0
  ColumnEnds c i o = Ends (rules_of plan.program) kinds (column_form plan.program c) i o

  -- the answer of a column that is ruled out
  pub answered_out : (c i : ℕ) (o r : Option ℕ) → i ≤ length kinds → slot_at plan.slots.items kinds i c ≡ Some o → o ≡ None → r ≡ ruled_out_end plan.program c i →
      Ends (rules_of plan.program) kinds (column_form plan.program c) i r
  answered_out c i o r within at none is =
      subst (ColumnEnds c i) (sym is) (slot_out plan.program plan.slots.items kinds i is_p.slots_are c within (at ∙ ap Some none))

  pub cell_there : (memo : Memo) (c i s : ℕ) (o : Option ℕ) → IsSound plan kinds memo → i ≤ length kinds → slot_at plan.slots.items kinds i c ≡ Some o → o ≡ Some s → IsSome (cell_at memo.table i s)
  cell_there memo c i s o sound within at some = sound.table_is.there i c s within (at ∙ ap Some some)

  -- the answer that the table has
  pub answered_known : (memo : Memo) (c i s code : ℕ) (o k r : Option ℕ) → IsSound plan kinds memo → i ≤ length kinds → slot_at plan.slots.items kinds i c ≡ Some o → o ≡ Some s →
      cell_at memo.table i s ≡ Some k → k ≡ Some code → r ≡ end_of_code code → Ends (rules_of plan.program) kinds (column_form plan.program c) i r
  answered_known memo c i s code o k r sound within at some known has is =
      subst (ColumnEnds c i) (sym is) (sound.table_is.told i c s code within (at ∙ ap Some some) (known ∙ ap Some has))

  pub code_fits : (f : Form) (i n : ℕ) (o : Option ℕ) → i ≤ length kinds → length kinds ≤ 200000 → Ends (rules_of plan.program) kinds f i o → n ≡ code_of_end o → n + 1 < 2 ^ 32
  code_fits f i n (Some e) within small ends is = let high = (ends_within plan.program kinds f i e within ends).1 in omega arith
  code_fits f i n None within small ends is = omega arith

  -- an answer was put into the table
  pub sound_set : (old new : Memo) (c i s code : ℕ) (o e : Option ℕ) → IsSound plan kinds old → slot_at plan.slots.items kinds i c ≡ Some o → o ≡ Some s →
      code ≡ code_of_end e → Ends (rules_of plan.program) kinds (column_form plan.program c) i e →
      cell_at new.table i s ≡ Some (Some code) → ((j d : ℕ) → (j ≡ i → d ≡ s → ⊥) → cell_at new.table j d ≡ cell_at old.table j d) →
      new.given_up.items ≡ old.given_up.items → IsSound plan kinds new
  sound_set old new c i s code o e sound at some is ends here others same = record {
    table_is = known_now plan.program plan.slots.items kinds is_p.slots_are old.table new.table i c s code (at ∙ ap Some some) here others
        (subst (ColumnEnds c i) (sym (ap end_of_code is ∙ code_back e)) ends) sound.table_is;
    asked = subst (All (IsAsked plan.program kinds)) (sym same) sound.asked;
  }

  -- a question was given up
  pub sound_pushed : (old new : Memo) (q : Question) → IsSound plan kinds old → q.place ≤ length kinds → q.column < columns plan.program →
      new.table ≡ old.table → new.given_up.items ≡ old.given_up.items ++ q ∷ [] → IsSound plan kinds new
  sound_pushed old new q sound within column same is = record {
    table_is = let old_is = sound.table_is in record {
      there = λ i c s le at. subst (λ (t : List (List (Option ℕ))). IsSome (cell_at t i s)) (sym same) (old_is.there i c s le at);
      told = λ i c s code le at known. old_is.told i c s code le at (ap (λ (t : List (List (Option ℕ))). cell_at t i s) (sym same) ∙ known);
    };
    asked = subst (All (IsAsked plan.program kinds)) (sym is) (All-push (IsAsked plan.program kinds) old.given_up.items q sound.asked (within, column));
  }

  pub sound_same : (old new : Memo) → IsSound plan kinds old → new.table ≡ old.table → new.given_up.items ≡ old.given_up.items → IsSound plan kinds new
  sound_same old new sound same is = record {
    table_is = let old_is = sound.table_is in record {
      there = λ i c s le at. subst (λ (t : List (List (Option ℕ))). IsSome (cell_at t i s)) (sym same) (old_is.there i c s le at);
      told = λ i c s code le at known. old_is.told i c s code le at (ap (λ (t : List (List (Option ℕ))). cell_at t i s) (sym same) ∙ known);
    };
    asked = subst (All (IsAsked plan.program kinds)) (sym is) sound.asked;
  }

  -- a rule's column by its root
  pub root_safe : (c k : ℕ) → slice_get plan.program.roots.items c ≡ Some k → IsSafe plan.program (form_at (forms_in plan.program.nodes.items) k)
  root_safe c k at = rule_safe plan.program kinds c (form_at (forms_in plan.program.nodes.items) k) is_p.well_formed (root_form plan.program c k at)

  pub root_ends : (c k i : ℕ) (o : Option ℕ) → slice_get plan.program.roots.items c ≡ Some k → Ends (rules_of plan.program) kinds (form_at (forms_in plan.program.nodes.items) k) i o →
      Ends (rules_of plan.program) kinds (column_form plan.program c) i o
  root_ends c k i o at ends =
      subst (λ f. Ends (rules_of plan.program) kinds f i o) (sym (column_rule plan.program c (slice_get_within plan.program.roots.items c k at)))
      (rule_ends plan.program kinds c i (form_at (forms_in plan.program.nodes.items) k) o (root_form plan.program c k at) ends)

  -- a repetition's column by its part
  pub part_safe : (n a : ℕ) → slice_get plan.program.stars.items n ≡ Some a → IsSafe plan.program (star (form_at (forms_in plan.program.nodes.items) a))
  part_safe n a at = star_safe plan.program kinds n a is_p.program_is is_p.well_formed at

  pub part_ends : (c a i : ℕ) (o : Option ℕ) → length plan.program.roots.items ≤ c → slice_get plan.program.stars.items (c - length plan.program.roots.items) ≡ Some a →
      Ends (rules_of plan.program) kinds (star (form_at (forms_in plan.program.nodes.items) a)) i o → Ends (rules_of plan.program) kinds (column_form plan.program c) i o
  part_ends c a i o le at ends = subst (λ f. Ends (rules_of plan.program) kinds f i o) (sym (column_star plan.program c a le at)) ends

  pub part_starts : (c a i : ℕ) (o : Option ℕ) → length plan.program.roots.items ≤ c → slice_get plan.program.stars.items (c - length plan.program.roots.items) ≡ Some a →
      Ends (rules_of plan.program) kinds (column_form plan.program c) i o → Ends (rules_of plan.program) kinds (star (form_at (forms_in plan.program.nodes.items) a)) i o
  part_starts c a i o le at ends = subst (λ f. Ends (rules_of plan.program) kinds f i o) (column_star plan.program c a le at) ends
