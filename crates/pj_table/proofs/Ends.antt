-- The first state meets the rule, and what the last one shows.
use Rattle.std.proofs.Common.{◌≡◌, ℕ, zero, suc, ◌+◌, ◌*◌, ◌^◌, ◌<◌, ◌≤◌, ◌≢◌, min, cond, List, [], ◌∷◌, map, length, get_or, sym, refl, ap, ◌∙◌, subst, inl, ⊎_elim, arith, le-ltb, true, false}
use Rattle.std.proofs.lemmas.List.{length-map}
use Rattle.std.specs.Prelude.{None}
use mathlib.Core.Logic.{dite}
use mathlib.Core.Option.{Option, some, some-injective, some-ne-none}
use native.Mathlib.Decide.{ℕ_discrete}
use lib.ListN.{get_elem?}
use Rattle.atomic_table.proofs.Lists.{at_map}
use Rattle.atomic_table.specs.Table.{State, opening}
use Rattle.pj_table.specs.Book.{IsSound, IsTold, looks_of}
use Rattle.pj_table.specs.Rule.{Hand, Tale, At, total, tale, hand, PartKept, SeatKept, Kept, gone, opened, claimed, once_below, marks, ticket_word, serving_word, count_word, HasAll, Shows}
use Rattle.pj_table.proofs.Books.{at_unmap}
use Rattle.pj_table.proofs.Parts.{at_below, waits_not}
use Rattle.pj_table.proofs.Allowed.{hand_away, live_or_gone}
use Rattle.pj_table.specs.Worlds.{World}
use Rattle.pj_table.specs.declared.view.Entry.{Entry}
use Rattle.pj_table.specs.declared.view.Look.{Look}
use Rattle.pj_table.specs.declared.view.Line.{Line}
use Rattle.pj_table.specs.declared.view.View.{View}
use Rattle.pj_table.specs.declared.part.Part.{Part}

pub at_first : {A : Type 0} (P : ℕ → A → Type 0) (y : A) → P 0 y → (j : ℕ) (x : A) → At (y ∷ []) j x → P j x
at_first P y h zero x at = subst (P 0) (some-injective y x at) h
at_first P y h (suc j) x at = absurd (some-ne-none x (sym at))

some_at : (xs : List Part) (p : ℕ) → p < length xs → (x : Part) × (get_elem? xs p ≡ some x)
some_at [] p h = absurd (omega arith)
some_at (x ∷ xs) zero h = (x, refl)
some_at (x ∷ xs) (suc p) h = some_at xs p (omega arith)

no_tickets : (world : World) (x : Part) (h : Hand) → x.entries.items ≡ [] → x.looks.items ≡ [] → h.phase ≡ 0 → h.own ≡ record { number = 0; asked = [] } → h.joined ≡ [] → PartKept world 0 0 0 (some (some x)) (h ∷ [])
no_tickets world x h es ls idle own joined = record {
  served = 0;
  drawn = 0;
  es = [];
  ls = [];
  tickets = refl;
  serving = refl;
  waiting = let a = waits_not h idle in omega arith;
  range = at_first (λ j y. 0 < y.phase → (0 ≤ y.ticket) × (y.ticket < 0)) h (λ p. absurd (omega arith));
  apart = λ i j y z aty atz. at_first (λ i y. (j : ℕ) (z : Hand) → At (h ∷ []) j z → 0 < y.phase → 0 < z.phase → y.ticket ≡ z.ticket → i ≡ j) h (λ j z at p. absurd (omega arith)) i y aty j z atz;
  turn = at_first (λ j y. 1 < y.phase → (y.ticket ≡ 0) × (y.entries ≡ []) × (y.looks ≡ [])) h (λ p. absurd (omega arith));
  slot_is = inl (x, refl, es, ls, at_first (λ j y. y.phase ≤ 1) h (omega arith));
  count = refl;
  good = record { legal = tt; filled = refl; answers = λ k e at. absurd (some-ne-none e (sym at)); apart = λ j k d e at. absurd (some-ne-none d (sym at)) };
  mine = at_first (λ j y. IsTold [] [] y.own.number y.own.asked) h (subst (λ (w : Tale). IsTold [] [] w.number w.asked) (sym own) record { same = refl; named = λ k a at. absurd (some-ne-none a (sym at)) });
  others = λ i k y w at atk. at_first (λ i y. (k : ℕ) (w : Tale) → At y.joined k w → IsTold [] [] w.number w.asked) h (subst (λ (ws : List Tale). (k : ℕ) (w : Tale) → At ws k w → IsTold [] [] w.number w.asked) (sym joined) (λ k w at. absurd (some-ne-none w (sym at)))) i y at k w atk;
  fresh = λ n le. refl;
}

pub starts : (k : ℕ) (ws : List ℕ) (xs : List Part) → length ws ≡ 1 + 3 * length xs → ((i : ℕ) → get_or ws i 0 ≡ 0) → ((p : ℕ) (x : Part) → At xs p x → (x.entries.items ≡ []) × (x.looks.items ≡ [])) → k < 2 ^ 32 → Kept k (opening ws xs (opened k))
starts k ws xs wide zeros blank few = record {
  world = None;
  owner = λ n. n;
  wide = wide ∙ ap (λ (n : ℕ). 1 + 3 * n) (sym (length-map xs (λ (x : Part). some x)));
  few = omega arith;
  parts = λ p below. let inside : p < length xs = (let e = length-map xs (λ (x : Part). some x) in omega arith) in let x = some_at xs p inside in let b = blank p x.0 x.1 in
      subst (λ (z : ℕ × ℕ × ℕ). PartKept None z.0 z.1 z.2 (get_elem? (map some xs) p) (hand p (opened k) ∷ [])) (λ j. (sym (zeros (ticket_word p)) j, sym (zeros (serving_word p)) j, sym (zeros (count_word p)) j))
      (subst (λ (slot : Option (Option Part)). PartKept None 0 0 0 slot (hand p (opened k) ∷ [])) (sym (at_map some xs p x.0 x.1))
      (no_tickets None x.0 (hand p (opened k)) b.0 b.1 (ap (λ (y : Hand). y.phase) (hand_away p (opened k) (λ e. omega arith))) refl refl));
  seats = at_first (λ i v. v.live ≡ true → SeatKept None k 1 (λ n. n) i v) (opened k) (λ _. record { same_world = refl; same_files = refl; opener = λ _. refl; own = refl; owned = refl; joined = λ j l at. absurd (some-ne-none l (sym at)) });
  spent = at_first (λ i v. v.live ≡ false → v ≡ gone) (opened k) (λ is. cc is);
  claims = record {
    few = few;
    once = λ x. sym (ap (once_below x) (let w : ℕ = get_or ws 0 0 in let z : w ≡ 0 = zeros 0 in let e : min w k ≡ 0 = omega arith in e) ∙ ap (λ b. cond b 1 0) (le-ltb x 0 (omega arith)));
    most = let z = zeros 0 in omega arith;
    counted = refl;
    ended = λ h. absurd (omega arith);
  };
}

module _ (k : ℕ) (s : State Part View) (o : Kept k s) (id : ℕ) (v : View) (at : At s.views id v) (alive : v.live ≡ true) (idle : v.at ≡ 0) (opening' : v.own.number ≡ 0) (all : HasAll v) where
  seat : SeatKept o.world k (length s.views) o.owner id v
  seat = o.seats id v at alive

  first : id ≡ 0
  first = sym seat.own ∙ opening'

  -- every other view is spent
  others_gone : (j : ℕ) (u : View) → At s.views j u → j ≢ id → u ≡ gone
  others_gone j u atu ne = live_or_gone u
      (λ is. let r = o.seats j u atu is in let b = at_below s.views j u atu in let f = first in let g = seat.opener first in let has = all j (omega arith) (omega arith) in let q = seat.joined has.0 has.1 has.2 in
      absurd (ne (sym r.owned ∙ ap o.owner (sym has.3) ∙ q.0)))
      (o.spent j u atu)

  idle_hand : (p j : ℕ) (h : Hand) → At (map (hand p) s.views) j h → h.phase ≡ 0
  idle_hand p j h ath = let u = at_unmap (hand p) s.views j h ath in ap (λ (y : Hand). y.phase) (sym u.2) ∙ ap (λ (y : Hand). y.phase) (hand_away p u.0
      (dite (ℕ_discrete j id) (λ e w. let same : u.0 ≡ v = some-injective u.0 v (sym u.1 ∙ ap (get_elem? s.views) e ∙ at) in let a = ap (λ (y : View). y.at) same in omega arith)
      (λ ne w. let a = ap (λ (y : View). y.at) (others_gone j u.0 u.1 ne) in omega arith)))

  pub shows : (p : ℕ) → p < length s.homes → (x : Part) × (get_elem? s.homes p ≡ some (some x)) × Shows v p x
  shows p below = let part = o.parts p below in ⊎_elim
      (λ q. let es = q.2 in let ls = q.3 in
      let T : List Entry × List Look → Type 0 = λ z. IsSound o.world z.0 z.1 × IsTold z.0 z.1 v.own.number (tale p v.own).asked × ((j : ℕ) (l : Line) → At v.joined j l → IsTold z.0 z.1 l.number (tale p l).asked) × ((n : ℕ) → v.given ≤ n → looks_of n z.1 ≡ []) in
      let all' : T (part.es, part.ls) = (part.good, part.mine id (hand p v) (at_map (hand p) s.views id v at), (λ j l atl. part.others id j (hand p v) (tale p l) (at_map (hand p) s.views id v at) (at_map (tale p) v.joined j l atl)), (λ n le. part.fresh n (let g = seat.opener first in let f = length-map s.views (hand p) in omega arith))) in
      let t : T (q.0.entries.items, q.0.looks.items) = subst T (λ i. (sym es i, sym ls i)) all' in
      (q.0, q.1, record { good = subst (λ (w : World). IsSound w q.0.entries.items q.0.looks.items) (sym seat.same_world) t.0; own = t.1; joined = t.2; others = t.3 }))
      (λ q. let e = idle_hand p q.0 q.1 q.2 in let n = q.3 in absurd (omega arith))
      part.slot_is

total_none : (f : View → ℕ) (vs : List View) → f gone ≡ 0 → ((j : ℕ) (u : View) → At vs j u → u ≡ gone) → total f vs ≡ 0
total_none f [] z h = refl
total_none f (u ∷ us) z h = let e : f u ≡ 0 = ap f (h 0 u refl) ∙ z in omega (arith, total_none f us z (λ j w at. h (suc j) w at))

total_one : (f : View → ℕ) (vs : List View) (i : ℕ) (v : View) → f gone ≡ 0 → At vs i v → ((j : ℕ) (u : View) → At vs j u → j ≢ i → u ≡ gone) → total f vs ≡ f v
total_one f [] i v z at h = absurd (some-ne-none v (sym at))
total_one f (u ∷ us) zero v z at h = let e : total f us ≡ 0 = total_none f us z (λ j w atw. h (suc j) w atw (λ e. omega arith)) in omega (arith, ap f (some-injective u v at))
total_one f (u ∷ us) (suc i) v z at h = let e : f u ≡ 0 = ap f (h 0 u refl (λ e. omega arith)) ∙ z in omega (arith, total_one f us i v z at (λ j w atw ne. h (suc j) w atw (λ e. ne (omega arith))))

-- the claims of the view are the numbers below the claim word and the files, and all files where it has a mark
pub all_claimed : (k : ℕ) (s : State Part View) (o : Kept k s) (id : ℕ) (v : View) (at : At s.views id v) (alive : v.live ≡ true) (idle : v.at ≡ 0) (opening' : v.own.number ≡ 0) (all : HasAll v) → 0 < marks v → (x : ℕ) → claimed x v ≡ once_below x v.files
all_claimed k s o id v at alive idle opening' all marked x = let gone' = others_gone k s o id v at alive idle opening' all in let c = o.claims in
    let m = total_one marks s.views id v refl at gone' in let e = c.ended (omega arith) in let files = (o.seats id v at alive).same_files in
    sym (total_one (claimed x) s.views id v refl at gone') ∙ c.once x ∙ ap (once_below x) (let w : ℕ = get_or s.words 0 0 in omega arith)
