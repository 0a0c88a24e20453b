-- What columns stand for, and the slots that they have.
use Rattle.std.proofs.Common.{◌≡◌, ℕ, ◌+◌, ◌-◌, ◌<◌, ◌≤◌, ◌⊎◌, Bool, true, false, List, [], ◌∷◌, ◌++◌, length, Option, Some, None, refl, sym, ◌∙◌, subst, ap, inl, inr, ⊎_elim, arith}
use Rattle.std.specs.Prelude.{slice_get, nat_lt, if◌then◌else◌}
use Rattle.std.specs.Option.{option_and_then}
use Rattle.std.proofs.lemmas.List.{length_push}
use Rattle.std.proofs.lemmas.Option.{slice_get_within, get_or_from_slice_get}
use Rattle.pj_peg_grammar.specs.declared.program.Program.{Program}
use Rattle.pj_peg.specs.declared.slots.KindSlots.{KindSlots}
use Rattle.pj_peg_grammar.specs.Form.{rule, star}
use Rattle.pj_peg_grammar.specs.Derivation.{no_tree}
use Rattle.pj_peg_grammar.specs.Derives.{star_end, rule_fails}
use Rattle.pj_peg_grammar.specs.WellFormed.{IsWellFormed}
use Rattle.pj_peg_grammar.specs.Program.{IsProgram, form_at, forms_in, rules_of}
use Rattle.pj_peg.specs.Ends.{Ends}
use Rattle.pj_peg_grammar.specs.Firsts.{IsAlwaysRuledOut}
use Rattle.pj_peg.specs.Slots.{row_of, row_number, columns, star_part, column_form, ruled_out_end, IsOutAt, IsKindSlots, AreSlots}
use Rattle.pj_peg.specs.Plan.{slot_at}
use Rattle.pj_peg.proofs.Lists.{some_one, found, get_push_cases}
use Rattle.pj_peg.proofs.Safe.{root_form, rule_safe, star_safe, fails_ruled_out}
use Rattle.pj_peg.proofs.Going.{star_part_safe}

pub below : (a b : ℕ) → a < b → nat_lt a b ≡ true
below a b lt = of (nat_lt a b) refl
  where
    of : (t : Bool) → nat_lt a b ≡ t → nat_lt a b ≡ true
    of true e = e
    of false e = absurd (grind arith)

pub not_below : (a b : ℕ) → b ≤ a → nat_lt a b ≡ false
not_below a b le = of (nat_lt a b) refl
  where
    of : (t : Bool) → nat_lt a b ≡ t → nat_lt a b ≡ false
    of false e = e
    of true e = absurd (grind arith)

pub if_true : {A : Type 0} (b : Bool) (x y : A) → b ≡ true → (if b then x else y) ≡ x
if_true true x y e = refl
if_true false x y e = absurd (let z = e in cc)

pub if_false : {A : Type 0} (b : Bool) (x y : A) → b ≡ false → (if b then x else y) ≡ y
if_false false x y e = refl
if_false true x y e = absurd (let z = e in cc)

-- where the number of the slots is below 128, it is the kind of the token
pub kind_there : (kinds : List ℕ) (i kind : ℕ) → row_number kinds i ≡ kind → kind < 128 → slice_get kinds i ≡ Some kind
kind_there kinds i kind is lt = of (slice_get kinds i) refl
  where
    low : (k : ℕ) → row_of (Some k) ≡ kind → Some k ≡ Some kind
    low k e = of_test (nat_lt k 128) refl
      where
        of_test : (t : Bool) → nat_lt k 128 ≡ t → Some k ≡ Some kind
        of_test true h = ap Some (sym (if_true (nat_lt k 128) k 128 h) ∙ e)
        of_test false h = absurd (let z = sym (if_false (nat_lt k 128) k 128 h) ∙ e in omega arith)

    of : (o : Option ℕ) → slice_get kinds i ≡ o → slice_get kinds i ≡ Some kind
    of None e = absurd (let z = sym (ap row_of e) ∙ is in omega arith)
    of (Some k) e = e ∙ low k (sym (ap row_of e) ∙ is)

pub row_small : (kinds : List ℕ) (i : ℕ) → row_number kinds i < 129
row_small kinds i = of (slice_get kinds i)
  where
    of : (o : Option ℕ) → row_of o < 129
    of None = omega arith
    of (Some k) = of_test (nat_lt k 128) refl
      where
        of_test : (t : Bool) → nat_lt k 128 ≡ t → row_of (Some k) < 129
        of_test true h = let z = if_true (nat_lt k 128) k 128 h in let lt : k < 128 = grind arith in omega arith
        of_test false h = let z = if_false (nat_lt k 128) k 128 h in omega arith

module _ (p : Program) where
  pub column_rule : (r : ℕ) → r < length p.roots.items → column_form p r ≡ rule r
  column_rule r lt = if_true (nat_lt r (length p.roots.items)) (rule r) (star (star_part p r)) (below r (length p.roots.items) lt)

  pub out_rule : (r i : ℕ) → r < length p.roots.items → ruled_out_end p r i ≡ None
  out_rule r i lt = if_true (nat_lt r (length p.roots.items)) None (Some i) (below r (length p.roots.items) lt)

  pub out_star : (c i : ℕ) → length p.roots.items ≤ c → ruled_out_end p c i ≡ Some i
  out_star c i le = if_false (nat_lt c (length p.roots.items)) None (Some i) (not_below c (length p.roots.items) le)

  -- a column behind those of the rules is a repetition
  pub column_star : (c a : ℕ) → length p.roots.items ≤ c → slice_get p.stars.items (c - length p.roots.items) ≡ Some a → column_form p c ≡ star (form_at (forms_in p.nodes.items) a)
  column_star c a le at =
      if_false (nat_lt c (length p.roots.items)) (rule c) (star (star_part p c)) (not_below c (length p.roots.items) le)
      ∙ ap (λ n. star (form_at (forms_in p.nodes.items) n)) (get_or_from_slice_get p.stars.items (c - length p.roots.items) a 0 at)

  pub column_of_star : (n a : ℕ) → slice_get p.stars.items n ≡ Some a → column_form p (length p.roots.items + n) ≡ star (form_at (forms_in p.nodes.items) a)
  column_of_star n a at =
      let same : length p.roots.items + n - length p.roots.items ≡ n = omega arith in
      column_star (length p.roots.items + n) a (omega arith) (ap (slice_get p.stars.items) same ∙ at)

  module _ (kind : ℕ) (small : kind < 128) (is_p : IsProgram p) (well : IsWellFormed (rules_of p)) where
    pub rule_out_at : (r k : ℕ) → slice_get p.roots.items r ≡ Some k → IsAlwaysRuledOut (rules_of p) kind (form_at (forms_in p.nodes.items) k) → IsOutAt p kind r
    rule_out_at r k at out kinds i within is =
        let lt = slice_get_within p.roots.items r k at in
        let f = form_at (forms_in p.nodes.items) k in
        let root = root_form p r k at in
        let fails = fails_ruled_out p kinds f i well (rule_safe p kinds r f well root) (out kinds i (kind_there kinds i kind is small)) in
        subst (Ends (rules_of p) kinds (column_form p r) i) (sym (out_rule r i lt))
        (subst (λ g. Ends (rules_of p) kinds g i None) (sym (column_rule r lt)) (rule_fails f root fails))

    pub star_out_at : (c a : ℕ) → length p.roots.items ≤ c → slice_get p.stars.items (c - length p.roots.items) ≡ Some a → IsAlwaysRuledOut (rules_of p) kind (form_at (forms_in p.nodes.items) a) → IsOutAt p kind c
    star_out_at c a le at out kinds i within is =
        let f = form_at (forms_in p.nodes.items) a in
        let fails = fails_ruled_out p kinds f i well (star_part_safe p kinds f (star_safe p kinds (c - length p.roots.items) a is_p well at)) (out kinds i (kind_there kinds i kind is small)) in
        subst (Ends (rules_of p) kinds (column_form p c) i) (sym (out_star c i le))
        (subst (λ g. Ends (rules_of p) kinds g i (Some i)) (sym (column_star c a le at)) (no_tree, star_end fails))

-- the slots of the first columns
pub record AreSlotsSoFar (p : Program) (kind : ℕ) (slots : List (Option ℕ)) (width column : ℕ) : Type 0 where
  pub count : length slots ≡ column
  pub fits : (c s : ℕ) → slice_get slots c ≡ Some (Some s) → s < width
  pub one : (c d s : ℕ) → slice_get slots c ≡ Some (Some s) → slice_get slots d ≡ Some (Some s) → c ≡ d
  pub out : (c : ℕ) → slice_get slots c ≡ Some None → IsOutAt p kind c

pub slots_none : (p : Program) (kind : ℕ) (slots : List (Option ℕ)) → slots ≡ [] → AreSlotsSoFar p kind slots 0 0
slots_none p kind slots is = record {
  count = ap length is;
  fits = λ c s at. absurd (let z = sym (ap (λ l. slice_get l c) is) ∙ at in cc);
  one = λ c d s at _. absurd (let z = sym (ap (λ l. slice_get l c) is) ∙ at in cc);
  out = λ c at. absurd (let z = sym (ap (λ l. slice_get l c) is) ∙ at in cc);
}

module _ (p : Program) (kind : ℕ) (slots slots' : List (Option ℕ)) (width column : ℕ) (so_far : AreSlotsSoFar p kind slots width column) where
  pub slots_out : (o : Option ℕ) → o ≡ None → slots' ≡ slots ++ o ∷ [] → IsOutAt p kind column → AreSlotsSoFar p kind slots' width (column + 1)
  slots_out o none is out = record {
    count = ap length is ∙ length_push slots o ∙ ap (λ n. n + 1) so_far.count;
    fits = λ c s at. so_far.fits c s (earlier c s at);
    one = λ c d s at bt. so_far.one c d s (earlier c s at) (earlier d s bt);
    out = λ c at. ⊎_elim
        (λ (h : slice_get slots c ≡ Some None). so_far.out c h)
        (λ (h : (c ≡ length slots) × (o ≡ None)). subst (IsOutAt p kind) (sym (h.0 ∙ so_far.count)) out)
        (get_push_cases slots o c None (sym (ap (λ l. slice_get l c) is) ∙ at));
  }
    where
      earlier : (c s : ℕ) → slice_get slots' c ≡ Some (Some s) → slice_get slots c ≡ Some (Some s)
      earlier c s at = ⊎_elim
          (λ (h : slice_get slots c ≡ Some (Some s)). h)
          (λ (h : (c ≡ length slots) × (o ≡ Some s)). absurd (let z = sym none ∙ h.1 in cc))
          (get_push_cases slots o c (Some s) (sym (ap (λ l. slice_get l c) is) ∙ at))

  pub slots_more : (o : Option ℕ) → o ≡ Some width → slots' ≡ slots ++ o ∷ [] → AreSlotsSoFar p kind slots' (width + 1) (column + 1)
  slots_more o some is = record {
    count = ap length is ∙ length_push slots o ∙ ap (λ n. n + 1) so_far.count;
    fits = λ c s at. ⊎_elim
        (λ (h : slice_get slots c ≡ Some (Some s)). let lt = so_far.fits c s h in omega arith)
        (λ (h : (c ≡ length slots) × (s ≡ width)). let e = h.1 in omega arith)
        (cases c s at);
    one = λ c d s at bt. ⊎_elim
        (λ (h : slice_get slots c ≡ Some (Some s)). ⊎_elim
        (λ (g : slice_get slots d ≡ Some (Some s)). so_far.one c d s h g)
        (λ (g : (d ≡ length slots) × (s ≡ width)). let lt = so_far.fits c s h in let e = g.1 in absurd (omega arith))
        (cases d s bt))
        (λ (h : (c ≡ length slots) × (s ≡ width)). ⊎_elim
        (λ (g : slice_get slots d ≡ Some (Some s)). let lt = so_far.fits d s g in let e = h.1 in absurd (omega arith))
        (λ (g : (d ≡ length slots) × (s ≡ width)). h.0 ∙ sym g.0)
        (cases d s bt))
        (cases c s at);
    out = λ c at. ⊎_elim
        (λ (h : slice_get slots c ≡ Some None). so_far.out c h)
        (λ (h : (c ≡ length slots) × (o ≡ None)). absurd (let z = sym some ∙ h.1 in cc))
        (get_push_cases slots o c None (sym (ap (λ l. slice_get l c) is) ∙ at));
  }
    where
      cases : (c s : ℕ) → slice_get slots' c ≡ Some (Some s) → (slice_get slots c ≡ Some (Some s)) ⊎ ((c ≡ length slots) × (s ≡ width))
      cases c s at = ⊎_elim
          (λ (h : slice_get slots c ≡ Some (Some s)). inl h)
          (λ (h : (c ≡ length slots) × (o ≡ Some s)). inr (h.0, some_one (sym h.1 ∙ some)))
          (get_push_cases slots o c (Some s) (sym (ap (λ l. slice_get l c) is) ∙ at))

pub slots_all : (p : Program) (kind : ℕ) (row : KindSlots) (column : ℕ) → AreSlotsSoFar p kind row.slots.items row.width column → column ≡ columns p → IsKindSlots p kind row
slots_all p kind row column so_far is = record { count = so_far.count ∙ is; fits = so_far.fits; one = so_far.one; out = so_far.out }

-- the slots of the first kinds
pub record AreKindsSoFar (p : Program) (slots : List KindSlots) (kind : ℕ) : Type 0 where
  pub count : length slots ≡ kind
  pub each : (k : ℕ) (row : KindSlots) → slice_get slots k ≡ Some row → IsKindSlots p k row

pub kinds_none : (p : Program) (slots : List KindSlots) → slots ≡ [] → AreKindsSoFar p slots 0
kinds_none p slots is = record { count = ap length is; each = λ k row at. absurd (let z = sym (ap (λ l. slice_get l k) is) ∙ at in cc) }

pub kinds_more : (p : Program) (slots slots' : List KindSlots) (row : KindSlots) (kind : ℕ) → AreKindsSoFar p slots kind → IsKindSlots p kind row → slots' ≡ slots ++ row ∷ [] → AreKindsSoFar p slots' (kind + 1)
kinds_more p slots slots' row kind so_far new is = record {
  count = ap length is ∙ length_push slots row ∙ ap (λ n. n + 1) so_far.count;
  each = λ k x at. ⊎_elim
      (λ (h : slice_get slots k ≡ Some x). so_far.each k x h)
      (λ (h : (k ≡ length slots) × (row ≡ x)). subst (IsKindSlots p k) h.1 (subst (λ n. IsKindSlots p n row) (sym (h.0 ∙ so_far.count)) new))
      (get_push_cases slots row k x (sym (ap (λ l. slice_get l k) is) ∙ at));
}

pub kinds_all : (p : Program) (slots : List KindSlots) (kind : ℕ) → AreKindsSoFar p slots kind → kind ≡ 129 → AreSlots p slots
kinds_all p slots kind so_far is = record { count = so_far.count ∙ is; each = so_far.each }

-- the slots of a place
pub row_there : (p : Program) (slots : List KindSlots) (kinds : List ℕ) (i : ℕ) → AreSlots p slots → (row : KindSlots) × (slice_get slots (row_number kinds i) ≡ Some row)
row_there p slots kinds i are = let small = row_small kinds i in let count = are.count in found slots (row_number kinds i) (omega arith)

pub slot_in : (slots : List KindSlots) (kinds : List ℕ) (i c : ℕ) (row : KindSlots) → slice_get slots (row_number kinds i) ≡ Some row → slot_at slots kinds i c ≡ slice_get row.slots.items c
slot_in slots kinds i c row is = ap (option_and_then (λ (r : KindSlots). slice_get r.slots.items c)) is

module _ (p : Program) (slots : List KindSlots) (kinds : List ℕ) (i : ℕ) (are : AreSlots p slots) where
  -- no two columns have one slot at a place
  pub slot_one : (c d s : ℕ) → slot_at slots kinds i c ≡ Some (Some s) → slot_at slots kinds i d ≡ Some (Some s) → c ≡ d
  slot_one c d s at bt =
      let (row, is) = row_there p slots kinds i are in
      (are.each (row_number kinds i) row is).one c d s (sym (slot_in slots kinds i c row is) ∙ at) (sym (slot_in slots kinds i d row is) ∙ bt)

  pub slot_out : (c : ℕ) → i ≤ length kinds → slot_at slots kinds i c ≡ Some None → Ends (rules_of p) kinds (column_form p c) i (ruled_out_end p c i)
  slot_out c within at =
      let (row, is) = row_there p slots kinds i are in
      (are.each (row_number kinds i) row is).out c (sym (slot_in slots kinds i c row is) ∙ at) kinds i within refl

  pub slot_fits : (c s : ℕ) → slot_at slots kinds i c ≡ Some (Some s) → (row : KindSlots) × (slice_get slots (row_number kinds i) ≡ Some row) × (s < row.width)
  slot_fits c s at =
      let (row, is) = row_there p slots kinds i are in
      (row, is, (are.each (row_number kinds i) row is).fits c s (sym (slot_in slots kinds i c row is) ∙ at))
