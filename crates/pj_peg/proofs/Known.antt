-- Tables of answers, before and after an answer.
use Rattle.std.proofs.Common.{◌≡◌, ℕ, ◌<◌, ◌≤◌, List, length, Option, Some, None, sym, ◌∙◌, subst, ap, ⊎_elim, IsSome}
use Rattle.std.specs.Prelude.{slice_get}
use Rattle.std.proofs.lemmas.Bool.{cases_eq}
use Rattle.pj_peg_grammar.specs.declared.program.Program.{Program}
use Rattle.pj_peg.specs.declared.slots.KindSlots.{KindSlots}
use Rattle.pj_peg_grammar.specs.Program.{rules_of}
use Rattle.pj_peg.specs.Table.{cell_at, end_of_code}
use Rattle.pj_peg.specs.Ends.{Ends}
use Rattle.pj_peg.specs.Slots.{row_number, column_form, AreSlots}
use Rattle.pj_peg.specs.Plan.{slot_at, IsTrueTable}
use Rattle.pj_peg.proofs.Lists.{some_same, some_one}
use Rattle.pj_peg.proofs.Cells.{some_is}
use Rattle.pj_peg.proofs.Columns.{slot_one, slot_fits}

module _ (p : Program) (slots : List KindSlots) (kinds : List ℕ) (are : AreSlots p slots) where
  -- a table that knows nothing
  pub nothing_known : (table : List (List (Option ℕ))) →
      ((i s : ℕ) (row : KindSlots) → i ≤ length kinds → slice_get slots (row_number kinds i) ≡ Some row → s < row.width → cell_at table i s ≡ Some None) →
      IsTrueTable p slots kinds table
  nothing_known table unknown = record {
    there = λ i c s within at. some_is (cell_at table i s) None (is i c s within at);
    told = λ i c s code within at known. absurd (let z = some_one (sym (is i c s within at) ∙ known) in cc);
  }
    where
      is : (i c s : ℕ) → i ≤ length kinds → slot_at slots kinds i c ≡ Some (Some s) → cell_at table i s ≡ Some None
      is i c s within at = let (row, here, lt) = slot_fits p slots kinds i are c s at in unknown i s row within here lt

  -- a cell was given the code of its column's end
  pub known_now : (old new : List (List (Option ℕ))) (place column slot code : ℕ) → slot_at slots kinds place column ≡ Some (Some slot) →
      cell_at new place slot ≡ Some (Some code) → ((i c : ℕ) → (i ≡ place → c ≡ slot → ⊥) → cell_at new i c ≡ cell_at old i c) →
      Ends (rules_of p) kinds (column_form p column) place (end_of_code code) → IsTrueTable p slots kinds old → IsTrueTable p slots kinds new
  known_now old new place column slot code at here others ends old_is = record {
    there = λ i c s within has. ⊎_elim
        (λ (e : i ≡ place). ⊎_elim
        (λ (g : s ≡ slot). some_is (cell_at new i s) (Some code) (ap (λ n. cell_at new n s) e ∙ ap (cell_at new place) g ∙ here))
        (λ (g : s ≡ slot → ⊥). subst IsSome (sym (others i s (λ _. g))) (old_is.there i c s within has))
        (cases_eq s slot))
        (λ (e : i ≡ place → ⊥). subst IsSome (sym (others i s (λ h _. e h))) (old_is.there i c s within has))
        (cases_eq i place);
    told = λ i c s x within has known. ⊎_elim
        (λ (e : i ≡ place). ⊎_elim
        (λ (g : s ≡ slot). same i c s x e g has known)
        (λ (g : s ≡ slot → ⊥). old_is.told i c s x within has (sym (others i s (λ _. g)) ∙ known))
        (cases_eq s slot))
        (λ (e : i ≡ place → ⊥). old_is.told i c s x within has (sym (others i s (λ h _. e h)) ∙ known))
        (cases_eq i place);
  }
    where
      same : (i c s x : ℕ) → i ≡ place → s ≡ slot → slot_at slots kinds i c ≡ Some (Some s) → cell_at new i s ≡ Some (Some x) →
          Ends (rules_of p) kinds (column_form p c) i (end_of_code x)
      same i c s x e g has known =
          let code_is : code ≡ x = some_one (some_same (here) (sym (ap (λ n. cell_at new n s) e ∙ ap (cell_at new place) g) ∙ known)) in
          let column_is : column ≡ c = slot_one p slots kinds place are column c slot at (sym (ap (λ n. slot_at slots kinds n c) e) ∙ has ∙ ap (λ n. Some (Some n)) g) in
          subst (λ n. Ends (rules_of p) kinds (column_form p c) n (end_of_code x)) (sym e)
          (subst (λ n. Ends (rules_of p) kinds (column_form p c) place (end_of_code n)) code_is
          (subst (λ n. Ends (rules_of p) kinds (column_form p n) place (end_of_code code)) column_is ends))
