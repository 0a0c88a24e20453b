-- Seats that are split and joined keep the rule.
use Rattle.std.proofs.Common.{◌≡◌, ℕ, zero, suc, ◌+◌, ◌^◌, ◌<◌, ◌≤◌, ◌≢◌, ◌==◌, cond, List, [], ◌∷◌, ◌++◌, map, length, set, sym, refl, ap, ◌∙◌, subst, inl, inr, ⊎_elim, arith, length-set, eq-eqb, ne_eqb, length-append, true, false}
use Rattle.std.proofs.lemmas.List.{map-set, map-append, length-map}
use mathlib.Core.Option.{Option, some, some-injective, some-ne-none}
use lib.ListN.{get_elem?}
use Rattle.atomic_table.proofs.Lists.{set_else, set_again, at_map, at_longer}
use Rattle.atomic_table.specs.Table.{Splits, Joins}
use Rattle.pj_table.specs.Book.{IsTold}
use Rattle.pj_table.specs.Rule.{Hand, Tale, At, waits, tale, hand, PartKept, SeatKept, Kept, gone, claimed, line_claims, mark, marks, numbers}
use Rattle.pj_table.specs.Plays.{with_number_given, new_view, united}
use Rattle.pj_table.proofs.Books.{at_snoc_is}
use Rattle.pj_table.proofs.Parts.{at_each, at_below, total_set, waits_not}
use Rattle.pj_table.proofs.Claims.{total_append}
use Rattle.pj_table.proofs.Allowed.{Three, hand_away}
use Rattle.pj_table.specs.Worlds.{World}
use Rattle.pj_table.specs.declared.view.Line.{Line}
use Rattle.pj_table.specs.declared.view.View.{View}
use Rattle.pj_table.specs.declared.part.Part.{Part}

module _ {A : Type 0} where
  at_plus : (P : ℕ → A → Type 0) (l : List A) (g : A) → P (length l) g → ((j : ℕ) (x : A) → At l j x → P j x) → (j : ℕ) (x : A) → At (l ++ g ∷ []) j x → P j x
  at_plus P l g here there j x at = ⊎_elim (λ t. there j x t) (λ t. subst (λ (y : A). P j y) t.1 (subst (λ (k : ℕ). P k g) (sym t.0) here)) (at_snoc_is l g x j at)

  pub at_either : (P : A → Type 0) (l m : List A) → ((j : ℕ) (x : A) → At l j x → P x) → ((j : ℕ) (x : A) → At m j x → P x) → (j : ℕ) (x : A) → At (l ++ m) j x → P x
  at_either P [] m f g j x at = g j x at
  at_either P (y ∷ ys) m f g zero x at = f 0 x at
  at_either P (y ∷ ys) m f g (suc j) x at = at_either P ys m (λ j x at. f (suc j) x at) g j x at

  pub at_cons : (P : A → Type 0) (y : A) (ys : List A) → P y → ((j : ℕ) (x : A) → At ys j x → P x) → (j : ℕ) (x : A) → At (y ∷ ys) j x → P x
  at_cons P y ys f g zero x at = subst P (some-injective y x at) f
  at_cons P y ys f g (suc j) x at = g j x at

-- a new hand, of the next number
adds : (world : World) (t v c : ℕ) (slot : Option (Option Part)) (hs : List Hand) (h : Hand) → h.phase ≡ 0 → h.own ≡ record { number = length hs; asked = [] } → h.joined ≡ []
    → PartKept world t v c slot hs → PartKept world t v c slot (hs ++ h ∷ [])
adds world t v c slot hs h idle own joined o = record {
  served = o.served;
  drawn = o.drawn;
  es = o.es;
  ls = o.ls;
  tickets = o.tickets;
  serving = o.serving;
  waiting = let a = total_append waits hs (h ∷ []) in let b = waits_not h idle in let w = o.waiting in omega arith;
  range = at_plus (λ j x. 0 < x.phase → (o.served ≤ x.ticket) × (x.ticket < o.drawn)) hs h (λ p. absurd (omega arith)) o.range;
  apart = λ i j x y atx aty. at_plus (λ i x. (j : ℕ) (y : Hand) → At (hs ++ h ∷ []) j y → 0 < x.phase → 0 < y.phase → x.ticket ≡ y.ticket → i ≡ j) hs h
      (λ j y at p q e. absurd (omega arith))
      (λ i x at. at_plus (λ j y. 0 < x.phase → 0 < y.phase → x.ticket ≡ y.ticket → i ≡ j) hs h (λ p q e. absurd (omega arith)) (λ j y at' p q e. o.apart i j x y at at' p q e)) i x atx j y aty;
  turn = at_plus (λ j x. 1 < x.phase → (x.ticket ≡ o.served) × (x.entries ≡ o.es) × (x.looks ≡ o.ls)) hs h (λ p. absurd (omega arith)) o.turn;
  slot_is = ⊎_elim (λ q. inl (q.0, q.1, q.2, q.3, at_plus (λ j x. x.phase ≤ 1) hs h (omega arith) q.4)) (λ q. inr (q.0, q.1, at_longer hs (h ∷ []) q.0 q.1 q.2, q.3, q.4)) o.slot_is;
  count = o.count;
  good = o.good;
  mine = at_plus (λ j x. IsTold o.es o.ls x.own.number x.own.asked) hs h
      (subst (λ (w : Tale). IsTold o.es o.ls w.number w.asked) (sym own) record { same = o.fresh (length hs) (omega arith); named = λ k a at. absurd (some-ne-none a (sym at)) }) o.mine;
  others = λ i k x w at atk. at_plus (λ i x. (k : ℕ) (w : Tale) → At x.joined k w → IsTold o.es o.ls w.number w.asked) hs h
      (subst (λ (ws : List Tale). (k : ℕ) (w : Tale) → At ws k w → IsTold o.es o.ls w.number w.asked) (sym joined) (λ k w at. absurd (some-ne-none w (sym at)))) (λ i x at k w atk. o.others i k x w at atk) i x at k w atk;
  fresh = λ n le. o.fresh n (let a = length-append hs (h ∷ []) in omega arith);
}

-- a hand with no ticket, in the place of another
rests : (world : World) (t v c : ℕ) (slot : Option (Option Part)) (hs : List Hand) (i : ℕ) (h g : Hand) → At hs i h → h.phase ≡ 0 → g.phase ≡ 0
    → (o : PartKept world t v c slot hs) → IsTold o.es o.ls g.own.number g.own.asked → ((k : ℕ) (w : Tale) → At g.joined k w → IsTold o.es o.ls w.number w.asked)
    → (r : PartKept world t v c slot (set hs i g)) × (r.es ≡ o.es) × (r.ls ≡ o.ls)
rests world t v c slot hs i h g me idle idle' o own joined = (
  record {
    served = o.served;
    drawn = o.drawn;
    es = o.es;
    ls = o.ls;
    tickets = o.tickets;
    serving = o.serving;
    waiting = let a = total_set waits hs i h g me in let b = waits_not h idle in let d = waits_not g idle' in let w = o.waiting in omega arith;
    range = at_each (λ j x. 0 < x.phase → (o.served ≤ x.ticket) × (x.ticket < o.drawn)) hs i g (λ p. absurd (omega arith)) (λ j x ne at. o.range j x at);
    apart = λ j k x y atx aty. at_each (λ j x. (k : ℕ) (y : Hand) → At (set hs i g) k y → 0 < x.phase → 0 < y.phase → x.ticket ≡ y.ticket → j ≡ k) hs i g
        (λ k y at p q e. absurd (omega arith))
        (λ j x ne at. at_each (λ k y. 0 < x.phase → 0 < y.phase → x.ticket ≡ y.ticket → j ≡ k) hs i g (λ p q e. absurd (omega arith)) (λ k y ne' at' p q e. o.apart j k x y at at' p q e)) j x atx k y aty;
    turn = at_each (λ j x. 1 < x.phase → (x.ticket ≡ o.served) × (x.entries ≡ o.es) × (x.looks ≡ o.ls)) hs i g (λ p. absurd (omega arith)) (λ j x ne at. o.turn j x at);
    slot_is = ⊎_elim (λ q. inl (q.0, q.1, q.2, q.3, at_each (λ j x. x.phase ≤ 1) hs i g (omega arith) (λ j x ne at. q.4 j x at)))
        (λ q. inr (q.0, q.1, set_else hs i q.0 g (λ e. let same : some h ≡ some q.1 = sym me ∙ ap (get_elem? hs) (sym e) ∙ q.2 in let r : h.phase ≡ q.1.phase = ap (λ (y : Hand). y.phase) (some-injective h q.1 same) in let n = q.3 in omega arith) ∙ q.2, q.3, q.4)) o.slot_is;
    count = o.count;
    good = o.good;
    mine = at_each (λ j x. IsTold o.es o.ls x.own.number x.own.asked) hs i g own (λ j x ne at. o.mine j x at);
    others = λ j k x w at atk. at_each (λ j x. (k : ℕ) (w : Tale) → At x.joined k w → IsTold o.es o.ls w.number w.asked) hs i g joined (λ j x ne at k w atk. o.others j k x w at atk) j x at k w atk;
    fresh = λ n le. o.fresh n (omega (arith, length-set hs i g));
  },
  (λ _. o.es),
  (λ _. o.ls),
)

pub split_allowed : (k : ℕ) (id : ℕ) (v : View) → v.live ≡ true → v.own.number ≡ 0 → v.given + 1 < 2 ^ 32 → Splits (Kept k) id v (with_number_given v) (new_view v)
split_allowed k id v alive opening room s o at =
    let seat = o.seats id v at alive in let first : id ≡ 0 = sym seat.own ∙ opening in let count : v.given ≡ length s.views = seat.opener first in
    let w : View = with_number_given v in let new : View = new_view v in let vs : List View = set s.views id w in
    let long : length vs ≡ length s.views = length-set s.views id w in
    let longer : length (vs ++ new ∷ []) ≡ length s.views + 1 = length-append vs (new ∷ []) ∙ ap (λ (n : ℕ). n + 1) long in
    let owner : ℕ → ℕ = λ n. cond (n == length s.views) (length s.views) (o.owner n) in
    let older : (n : ℕ) → n < length s.views → owner n ≡ o.owner n = λ n below. ap (λ b. cond b (length s.views) (o.owner n)) (ne_eqb n (length s.views) (λ e. omega arith)) in
    let kept : (j : ℕ) (x y : View) → j < length s.views → SeatKept o.world k (length s.views) o.owner j x → x.world ≡ y.world → x.files ≡ y.files → x.own ≡ y.own → x.joined ≡ y.joined → (j ≡ 0 → y.given ≡ length s.views + 1) → SeatKept o.world k (length s.views + 1) owner j y =
    λ j x y below r world files own joined given. record {
      same_world = sym world ∙ r.same_world;
      same_files = sym files ∙ r.same_files;
      opener = given;
      own = sym (ap (λ (l : Line). l.number) own) ∙ r.own;
      owned = older j below ∙ r.owned;
      joined = subst (λ (ls : List Line). (i : ℕ) (l : Line) → At ls i l → (owner l.number ≡ j) × (l.number < length s.views + 1) × (l.number ≢ j)) joined (λ i l at. let q = r.joined i l at in (older l.number q.1 ∙ q.0, (let b = q.1 in omega arith), q.2));
    } in
    let c = o.claims in record {
      world = o.world;
      owner = owner;
      wide = o.wide;
      few = omega arith;
      parts = λ q below. subst (Three o.world s.words q (get_elem? s.homes q))
          (ap (λ (hs : List Hand). hs ++ hand q new ∷ []) (sym (map-set (hand q) s.views id w ∙ set_again (map (hand q) s.views) id (hand q v) (at_map (hand q) s.views id v at))) ∙ sym (map-append (hand q) vs (new ∷ [])))
          (adds o.world _ _ _ (get_elem? s.homes q) (map (hand q) s.views) (hand q new)
          (ap (λ (y : Hand). y.phase) (hand_away q new (λ e. omega arith))) (λ j. record { number = (count ∙ sym (length-map s.views (hand q))) j; asked = [] }) refl (o.parts q below));
      seats = subst (λ (n : ℕ). (j : ℕ) (x : View) → At (vs ++ new ∷ []) j x → x.live ≡ true → SeatKept o.world k n owner j x) (sym longer)
          (at_plus (λ j x. x.live ≡ true → SeatKept o.world k (length s.views + 1) owner j x) vs new
          (λ _. subst (λ (n : ℕ). SeatKept o.world k (length s.views + 1) owner n new) (sym long) record {
            same_world = seat.same_world;
            same_files = seat.same_files;
            opener = λ e. absurd (let b = at_below s.views id v at in omega arith);
            own = count;
            owned = ap (λ b. cond b (length s.views) (o.owner (length s.views))) (eq-eqb (length s.views) (length s.views) refl);
            joined = λ j l at. absurd (some-ne-none l (sym at));
          })
          (at_each (λ j x. x.live ≡ true → SeatKept o.world k (length s.views + 1) owner j x) s.views id w
          (λ _. kept id v w (at_below s.views id v at) seat refl refl refl refl (λ _. omega arith))
          (λ j x ne at' is. kept j x x (at_below s.views j x at') (o.seats j x at' is) refl refl refl refl (λ zero-j. absurd (ne (omega arith))))));
      spent = at_plus (λ j x. x.live ≡ false → x ≡ gone) vs new (λ is. cc is) (at_each (λ j x. x.live ≡ false → x ≡ gone) s.views id w (λ is. cc (is, alive)) (λ j x ne at is. o.spent j x at is));
      claims = record {
        few = c.few;
        once = λ x. let a = total_append (claimed x) vs (new ∷ []) in let b = total_set (claimed x) s.views id v w at in omega (arith, c.once x);
        most = let a = total_append marks vs (new ∷ []) in let b = total_set marks s.views id v w at in let d = c.most in omega arith;
        ended = let a = total_append marks vs (new ∷ []) in let b = total_set marks s.views id v w at in λ h. c.ended (omega arith);
        counted = let a = total_append numbers vs (new ∷ []) in let b = total_set numbers s.views id v w at in let d = c.counted in omega arith;
      };
    }

tales : (world : World) (t v c : ℕ) (slot : Option (Option Part)) (hs : List Hand) (i j : ℕ) (h g h' g' : Hand) → At hs i h → At hs j g → j ≢ i
    → h.phase ≡ 0 → g.phase ≡ 0 → h'.phase ≡ 0 → g'.phase ≡ 0 → h'.own ≡ h.own → h'.joined ≡ h.joined ++ g.own ∷ g.joined → g'.own ≡ record { number = 2 ^ 32; asked = [] } → g'.joined ≡ [] → length hs < 2 ^ 32
    → PartKept world t v c slot hs → PartKept world t v c slot (set (set hs i h') j g')
tales world t v c slot hs i j h g h' g' ath atg ne hi gi hi' gi' own joined none-own none-joined few o =
    let first = rests world t v c slot hs i h h' ath hi hi' o (subst (λ (w : Tale). IsTold o.es o.ls w.number w.asked) (sym own) (o.mine i h ath))
    (subst (λ (ws : List Tale). (k : ℕ) (w : Tale) → At ws k w → IsTold o.es o.ls w.number w.asked) (sym joined)
    (at_either (λ w. IsTold o.es o.ls w.number w.asked) h.joined (g.own ∷ g.joined) (λ k w at. o.others i k h w ath at) (at_cons (λ w. IsTold o.es o.ls w.number w.asked) g.own g.joined (o.mine j g atg) (λ k w at. o.others j k g w atg at)))) in
    (rests world t v c slot (set hs i h') j g g' (set_else hs i j h' ne ∙ atg) gi gi' first.0
    (subst (λ (w : Tale). IsTold first.0.es first.0.ls w.number w.asked) (sym none-own) record { same = first.0.fresh (2 ^ 32) (omega (arith, length-set hs i h')); named = λ k a at. absurd (some-ne-none a (sym at)) })
    (subst (λ (ws : List Tale). (k : ℕ) (w : Tale) → At ws k w → IsTold first.0.es first.0.ls w.number w.asked) (sym none-joined) (λ k w at. absurd (some-ne-none w (sym at))))).0

pub join_allowed : (k : ℕ) (id : ℕ) (v : View) (other : ℕ) (w : View) → v.live ≡ true → w.live ≡ true → v.at ≡ 0 → w.at ≡ 0 → Joins (Kept k) id v other w (united v w) gone
join_allowed k id v other w alive alive' idle idle' s o at apart at' =
    let both : View = united v w in let vs : List View = set s.views id both in let new : List View = set vs other gone in
    let there : At s.views other w = sym (set_else s.views id other both apart) ∙ at' in
    let seat = o.seats id v at alive in let seat' = o.seats other w there alive' in
    let long : length new ≡ length s.views = length-set vs other gone ∙ length-set s.views id both in
    let owner : ℕ → ℕ = λ n. cond (o.owner n == other) id (o.owner n) in
    let moved : (n : ℕ) → o.owner n ≡ other → owner n ≡ id = λ n e. ap (λ b. cond b id (o.owner n)) (eq-eqb (o.owner n) other e) in
    let stays : (n j : ℕ) → o.owner n ≡ j → j ≢ other → owner n ≡ j = λ n j e ne. ap (λ b. cond b id (o.owner n)) (ne_eqb (o.owner n) other (λ d. ne (sym e ∙ d))) ∙ e in
    let c = o.claims in record {
      world = o.world;
      owner = owner;
      wide = o.wide;
      few = let f = o.few in omega arith;
      parts = λ q below. subst (Three o.world s.words q (get_elem? s.homes q))
          (sym (map-set (hand q) vs other gone ∙ ap (λ (hs : List Hand). set hs other (hand q gone)) (map-set (hand q) s.views id both)))
          (tales o.world _ _ _ (get_elem? s.homes q) (map (hand q) s.views) id other (hand q v) (hand q w) (hand q both) (hand q gone) (at_map (hand q) s.views id v at) (at_map (hand q) s.views other w there) apart
          (ap (λ (y : Hand). y.phase) (hand_away q v (λ e. omega arith))) (ap (λ (y : Hand). y.phase) (hand_away q w (λ e. omega arith)))
          (ap (λ (y : Hand). y.phase) (hand_away q both (λ e. omega arith))) (ap (λ (y : Hand). y.phase) (hand_away q gone (λ e. omega arith)))
          refl (map-append (tale q) v.joined (w.own ∷ w.joined)) refl refl (let f = o.few in omega (arith, length-map s.views (hand q))) (o.parts q below));
      seats = subst (λ (n : ℕ). (j : ℕ) (x : View) → At new j x → x.live ≡ true → SeatKept o.world k n owner j x) (sym long)
          (at_each (λ j x. x.live ≡ true → SeatKept o.world k (length s.views) owner j x) vs other gone (λ is. absurd (cc is))
          (λ j x away atx. at_each (λ j x. j ≢ other → x.live ≡ true → SeatKept o.world k (length s.views) owner j x) s.views id both
          (λ _ _. record {
            same_world = seat.same_world;
            same_files = seat.same_files;
            opener = seat.opener;
            own = seat.own;
            owned = stays id id seat.owned (λ e. apart (sym e));
            joined = at_either (λ l. (owner l.number ≡ id) × (l.number < length s.views) × (l.number ≢ id)) v.joined (w.own ∷ w.joined)
                (λ i l at. let q = seat.joined i l at in (stays l.number id q.0 (λ e. apart (sym e)), q.1, q.2))
                (at_cons (λ l. (owner l.number ≡ id) × (l.number < length s.views) × (l.number ≢ id)) w.own w.joined
                (moved w.own.number (ap o.owner seat'.own ∙ seat'.owned), (let b = at_below s.views other w there in let e = seat'.own in omega arith), (λ e. apart (sym seat'.own ∙ e)))
                (λ i l at. let q = seat'.joined i l at in (moved l.number q.0, q.1, (λ e. apart (sym q.0 ∙ ap o.owner e ∙ seat.owned)))));
          })
          (λ j x ne atx away is. let r = o.seats j x atx is in record {
            same_world = r.same_world;
            same_files = r.same_files;
            opener = r.opener;
            own = r.own;
            owned = stays j j r.owned away;
            joined = λ i l at. let q = r.joined i l at in (stays l.number j q.0 away, q.1, q.2);
          }) j x atx away));
      spent = at_each (λ j x. x.live ≡ false → x ≡ gone) vs other gone (λ _. refl) (λ j x ne. at_each (λ j x. x.live ≡ false → x ≡ gone) s.views id both (λ is. cc (is, alive)) (λ j x ne at is. o.spent j x at is) j x);
      claims = record {
        few = c.few;
        once = λ x. let a = total_set (claimed x) s.views id v both at in let b = total_set (claimed x) vs other w gone at' in let d = total_append (line_claims x) v.joined (w.own ∷ w.joined) in omega (arith, c.once x);
        most = let a = total_set marks s.views id v both at in let b = total_set marks vs other w gone at' in let d = total_append mark v.joined (w.own ∷ w.joined) in let e = c.most in omega arith;
        ended = let a = total_set marks s.views id v both at in let b = total_set marks vs other w gone at' in let d = total_append mark v.joined (w.own ∷ w.joined) in λ h. c.ended (omega arith);
        counted = let a = total_set numbers s.views id v both at in let b = total_set numbers vs other w gone at' in let d = length-append v.joined (w.own ∷ w.joined) in let e = c.counted in
            let p : numbers v ≡ 1 + length v.joined = ap (λ b. cond b (1 + length v.joined) 0) alive in let q : numbers w ≡ 1 + length w.joined = ap (λ b. cond b (1 + length w.joined) 0) alive' in let r : numbers both ≡ 1 + length both.joined = ap (λ b. cond b (1 + length both.joined) 0) alive in omega arith;
      };
    }
