-- The claim step keeps the rule.
use Rattle.std.proofs.Common.{◌≡◌, ℕ, suc, ◌+◌, ◌%◌, ◌^◌, ◌<◌, ◌≤◌, min, ◌==◌, cond, List, [], ◌∷◌, ◌++◌, map, length, get_or, set, sym, refl, ap, ◌∙◌, subst, arith, length-set, eq-eqb, ne_eqb, lt-ltb, le-ltb, get_or-set_other, get_or-set_same, true, false}
use Rattle.std.proofs.lemmas.List.{map-set}
use Rattle.std.proofs.Math.Nat.{mod-eq_of_lt}
use mathlib.Core.Logic.{dite}
use mathlib.Core.Option.{none}
use native.Mathlib.Decide.{ℕ_discrete, dec_le}
use lib.ListN.{get_elem?}
use Rattle.atomic_table.proofs.Lists.{set_again, at_map}
use Rattle.atomic_table.specs.Table.{State, Me, step, keeps, Allows}
use Rattle.pj_table.specs.Rule.{At, total, hand, PartKept, SeatKept, Kept, ClaimsKept, gone, claimed, once_below, mark, marks, numbers, ticket_word, serving_word, count_word}
use Rattle.pj_table.specs.Plays.{with_claim, with_end, claimed_one}
use Rattle.pj_table.proofs.Parts.{at_each, total_set, total_most}
use Rattle.pj_table.proofs.Allowed.{Three}
use Rattle.pj_table.specs.declared.view.Line.{Line}
use Rattle.pj_table.specs.declared.view.View.{View}
use Rattle.pj_table.specs.declared.part.Part.{Part}

module _ {A : Type 0} where
  pub total_append : (f : A → ℕ) (l m : List A) → total f (l ++ m) ≡ total f l + total f m
  total_append f [] m = omega arith
  total_append f (x ∷ xs) m = omega (arith, total_append f xs m)

  pub total_under : (f g : A → ℕ) (l : List A) → ((x : A) → f x ≤ g x) → total f l ≤ total g l
  total_under f g [] h = omega arith
  total_under f g (x ∷ xs) h = omega (arith, h x, total_under f g xs h)

-- over plain numbers, which omega reads
once_sum : (a b c d e f : ℕ) → a ≡ d → b ≡ e → c ≡ f → d ≡ e + f → a ≡ b + c
once_sum a b c d e f p q r s = omega arith

once_more : (x n : ℕ) → once_below x (n + 1) ≡ once_below x n + cond (n == x) 1 0
once_more x n = dite (ℕ_discrete n x)
    (λ e. once_sum _ _ _ 1 0 1 (ap (λ b. cond b 1 0) (lt-ltb x (n + 1) (omega arith))) (ap (λ b. cond b 1 0) (le-ltb x n (omega arith))) (ap (λ b. cond b 1 0) (eq-eqb n x e)) refl)
    (λ ne. dite (dec_le n x)
    (λ le. once_sum _ _ _ 0 0 0 (ap (λ b. cond b 1 0) (le-ltb x (n + 1) (omega arith))) (ap (λ b. cond b 1 0) (le-ltb x n le)) (ap (λ b. cond b 1 0) (ne_eqb n x ne)) refl)
    (λ gt. once_sum _ _ _ 1 1 0 (ap (λ b. cond b 1 0) (lt-ltb x (n + 1) (omega arith))) (ap (λ b. cond b 1 0) (lt-ltb x n (omega arith))) (ap (λ b. cond b 1 0) (ne_eqb n x ne)) refl))

mark_most : (l : Line) → mark l ≤ 1
mark_most l = elim l.past as (λ b. cond b 1 0 ≤ 1) [ true ↦ omega arith | false ↦ omega arith ]

-- a number never wraps: there are no more marks than numbers
module _ (files word : ℕ) (vs : List View) (c : ClaimsKept files word vs) (dead : (i : ℕ) (v : View) → At vs i v → v.live ≡ false → v ≡ gone) where
  marks_under : (v : View) → (v.live ≡ false → v ≡ gone) → marks v ≤ numbers v
  marks_under v d = elim v.live as (λ b. (b ≡ false → v ≡ gone) → marks v ≤ cond b (1 + length v.joined) 0) [
    | true ↦ (λ _. let a = mark_most v.own in let b = total_most mark v.joined mark_most in omega arith)
    | false ↦ (λ d. let e : marks v ≡ 0 = ap marks (d refl) in omega arith)
  ] d

all_under : (vs : List View) → ((i : ℕ) (v : View) → At vs i v → v.live ≡ false → v ≡ gone) → ((v : View) → (v.live ≡ false → v ≡ gone) → marks v ≤ numbers v) → total marks vs ≤ total numbers vs
all_under [] d h = omega arith
all_under (v ∷ vs) d h = omega (arith, h v (d 0 v refl), all_under vs (λ i w at. d (suc i) w at) h)

pub below_wrap : (files word : ℕ) (vs : List View) → ClaimsKept files word vs → ((i : ℕ) (v : View) → At vs i v → v.live ≡ false → v ≡ gone) → length vs < 2 ^ 32 → word + 1 < 2 ^ 64
below_wrap files word vs c dead few = let a = all_under vs dead (marks_under files word vs c dead) in let b = c.most in let d = c.counted in let e = c.few in omega arith

module _ (k : ℕ) (s : State Part View) (o : Kept k s) (id : ℕ) (v w : View) (me : At s.views id v) (alive : v.live ≡ true) where
  -- a step on the claim word, which changes the claims and the mark of the seat's own line
  claims_lift : (new : ℕ) → w.live ≡ true → ((q : ℕ) → hand q v ≡ hand q w) → (SeatKept o.world k (length s.views) o.owner id v → SeatKept o.world k (length s.views) o.owner id w) → ClaimsKept k new (set s.views id w)
      → Kept k (record { words = set s.words 0 new; homes = s.homes; views = set s.views id w })
  claims_lift new live unseen seat claims = record {
    world = o.world;
    owner = o.owner;
    wide = length-set s.words 0 new ∙ o.wide;
    few = let f = o.few in omega (arith, length-set s.views id w);
    parts = λ q below. let still : map (hand q) (set s.views id w) ≡ map (hand q) s.views = map-set (hand q) s.views id w ∙ ap (set (map (hand q) s.views) id) (sym (unseen q)) ∙ set_again (map (hand q) s.views) id (hand q v) (at_map (hand q) s.views id v me) in
        subst (Three o.world (set s.words 0 new) q (get_elem? s.homes q)) (sym still)
        (subst (λ (z : ℕ × ℕ × ℕ). PartKept o.world z.0 z.1 z.2 (get_elem? s.homes q) (map (hand q) s.views))
        (λ j. (sym (get_or-set_other s.words 0 (ticket_word q) new 0 (λ e. omega arith)) j, sym (get_or-set_other s.words 0 (serving_word q) new 0 (λ e. omega arith)) j, sym (get_or-set_other s.words 0 (count_word q) new 0 (λ e. omega arith)) j))
        (o.parts q below));
    seats = at_each (λ j x. x.live ≡ true → SeatKept o.world k (length (set s.views id w)) o.owner j x) s.views id w
        (λ _. subst (λ (n : ℕ). SeatKept o.world k n o.owner id w) (sym (length-set s.views id w)) (seat (o.seats id v me alive)))
        (λ j x ne at is. subst (λ (n : ℕ). SeatKept o.world k n o.owner j x) (sym (length-set s.views id w)) (o.seats j x at is));
    spent = at_each (λ j x. x.live ≡ false → x ≡ gone) s.views id w (λ dead. cc (live, dead)) (λ j x ne at is. o.spent j x at is);
    claims = subst (λ (n : ℕ). ClaimsKept k n (set s.views id w)) (sym (get_or-set_same s.words 0 new 0 (let e = o.wide in omega arith))) claims;
  }

pub claim_allowed : (k : ℕ) (n id : ℕ) (m : Me Part View) → m.0.live ≡ true → m.0.own.past ≡ false → Allows (Kept k) n id m 0 (λ x. (x + 1) % 2 ^ 64) (claimed_one (step n 0 1 0 none) m)
claim_allowed k n id m alive fresh s o slots at _ =
    let x : ℕ = get_or s.words 0 0 in let v : View = m.0 in let c = o.claims in let seat = o.seats id v at alive in
    let fits : (x + 1) % 2 ^ 64 ≡ x + 1 = mod-eq_of_lt (below_wrap k x s.views c o.spent o.few) in
    let files = seat.same_files in
    let unmarked : mark v.own ≡ 0 = ap (λ b. cond b 1 0) fresh in
    dite (dec_le (x + 1) k)
    (λ more. let w : View = with_claim x v in (
      w,
      keeps,
      tt,
      subst (λ (z : ℕ). Kept k (record { words = set s.words 0 z; homes = s.homes; views = set s.views id w })) (sym fits)
          (claims_lift k s o id v w at alive (x + 1) alive (λ q. refl) (λ o. record { same_world = o.same_world; same_files = o.same_files; opener = o.opener; own = o.own; owned = o.owned; joined = o.joined })
          record {
            few = c.few;
            once = λ y. let t = total_set (claimed y) s.views id v w at in let a = total_append (λ (n : ℕ). cond (n == y) 1 0) v.own.claims (x ∷ []) in
                let b : once_below y (min x k) ≡ once_below y x = ap (once_below y) (omega arith) in let d : once_below y (min (x + 1) k) ≡ once_below y (x + 1) = ap (once_below y) (omega arith) in
                omega (arith, c.once y, once_more y x);
            most = omega arith;
            ended = let t = total_set marks s.views id v w at in λ h. (let e = c.ended (omega arith) in omega arith);
            counted = let t = total_set numbers s.views id v w at in let d = c.counted in omega (arith, length-set s.views id w);
          }),
      (λ zero-word. ((λ below. refl), (λ above. absurd (omega arith)))),
    ))
    (λ none-left. let w : View = with_end v in (
      w,
      keeps,
      tt,
      subst (λ (z : ℕ). Kept k (record { words = set s.words 0 z; homes = s.homes; views = set s.views id w })) (sym fits)
          (claims_lift k s o id v w at alive (x + 1) alive (λ q. refl) (λ o. record { same_world = o.same_world; same_files = o.same_files; opener = o.opener; own = o.own; owned = o.owned; joined = o.joined })
          record {
            few = c.few;
            once = λ y. let t = total_set (claimed y) s.views id v w at in
                let b : once_below y (min x k) ≡ once_below y k = ap (once_below y) (omega arith) in let d : once_below y (min (x + 1) k) ≡ once_below y k = ap (once_below y) (omega arith) in
                omega (arith, c.once y);
            ended = λ h. omega arith;
            most = let t = total_set marks s.views id v w at in let e = c.most in omega arith;
            counted = let t = total_set numbers s.views id v w at in let d = c.counted in omega (arith, length-set s.views id w);
          }),
      (λ zero-word. ((λ below. absurd (omega arith)), (λ above. refl))),
    ))
