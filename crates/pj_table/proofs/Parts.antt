-- Each step on one part keeps what the rule says of it, over the words, the slot and the hands as plain data.
use Rattle.std.proofs.Common.{◌≡◌, ℕ, zero, suc, ◌+◌, ◌%◌, ◌^◌, ◌<◌, ◌≤◌, ◌≢◌, eqb, cond, List, [], ◌∷◌, ◌++◌, length, set, sym, refl, ap, ◌∙◌, subst, inl, inr, ⊎_elim, arith, length-set, eq-eqb, ne_eqb, length-append, true, false}
use Rattle.std.proofs.Math.Nat.{mod-add-mod, mod-eq_of_lt}
use mathlib.Core.Logic.{dite}
use mathlib.Core.Option.{Option, none, some, some-injective, some-ne-none}
use native.Mathlib.Decide.{dec_le}
use lib.ListN.{get_elem?}
use Rattle.atomic_table.proofs.Lists.{at_set, set_here, set_else, one_turn}
use Rattle.pj_table.specs.Book.{IsTold, Grows, looks_of, look_of}
use Rattle.pj_table.proofs.Books.{told_here, told_else, none_else}
use Rattle.pj_table.specs.Rule.{Hand, Tale, At, waits, total, PartKept}
use Rattle.pj_table.specs.Worlds.{World}
use Rattle.pj_table.specs.declared.view.Entry.{Entry}
use Rattle.pj_table.specs.declared.view.Look.{Look}
use Rattle.pj_table.specs.declared.view.Asked.{Asked}
use Rattle.pj_table.specs.declared.part.Part.{Part}

module _ {A : Type 0} where
  pub total_set : (f : A → ℕ) (l : List A) (j : ℕ) (v w : A) → At l j v → total f (set l j w) + f v ≡ total f l + f w
  total_set f [] j v w e = absurd (some-ne-none v (sym e))
  total_set f (x ∷ xs) zero v w e = omega (arith, ap f (some-injective x v e))
  total_set f (x ∷ xs) (suc j) v w e = omega (arith, total_set f xs j v w e)

  pub total_most : (f : A → ℕ) (l : List A) → ((x : A) → f x ≤ 1) → total f l ≤ length l
  total_most f [] h = omega arith
  total_most f (x ∷ xs) h = omega (arith, total_most f xs h, h x)

  pub at_below : (l : List A) (j : ℕ) (v : A) → At l j v → j < length l
  at_below [] j v e = absurd (some-ne-none v (sym e))
  at_below (x ∷ xs) zero v e = omega arith
  at_below (x ∷ xs) (suc j) v e = omega (arith, at_below xs j v e)

  -- what holds of each place after a write
  pub at_each : (P : ℕ → A → Type 0) (l : List A) (i : ℕ) (g : A) → P i g → ((j : ℕ) (x : A) → j ≢ i → At l j x → P j x) → (j : ℕ) (x : A) → At (set l i g) j x → P j x
  at_each P l i g here there j x at = ⊎_elim (λ t. subst (λ (y : A). P j y) t.1 (subst (λ (k : ℕ). P k g) (sym t.0) here)) (λ t. there j x t.0 t.1) (at_set l i j g x at)

pub waits_most : (h : Hand) → waits h ≤ 1
waits_most h = elim (eqb h.phase 0) as (λ b. cond b 0 1 ≤ 1) [ true ↦ omega arith | false ↦ omega arith ]

pub waits_not : (h : Hand) → h.phase ≡ 0 → waits h ≡ 0
waits_not h e = ap (λ b. cond b 0 1) (eq-eqb h.phase 0 e)

pub waits_one : (h : Hand) → 0 < h.phase → waits h ≡ 1
waits_one h p = ap (λ b. cond b 0 1) (ne_eqb h.phase 0 (λ e. omega arith))

module _ (world : World) (t v c : ℕ) (slot : Option (Option Part)) (hs : List Hand) (o : PartKept world t v c slot hs) (i : ℕ) (h g : Hand) where
  still_apart : (0 < g.phase → (k : ℕ) (y : Hand) → k ≢ i → At hs k y → 0 < y.phase → g.ticket ≢ y.ticket)
      → (j k : ℕ) (x y : Hand) → At (set hs i g) j x → At (set hs i g) k y → 0 < x.phase → 0 < y.phase → x.ticket ≡ y.ticket → j ≡ k
  still_apart new j k x y atx aty = at_each (λ j x. (k : ℕ) (y : Hand) → At (set hs i g) k y → 0 < x.phase → 0 < y.phase → x.ticket ≡ y.ticket → j ≡ k) hs i g
      (at_each (λ k y. 0 < g.phase → 0 < y.phase → g.ticket ≡ y.ticket → i ≡ k) hs i g (λ p q e. refl) (λ k y ne at p q e. absurd (new p k y ne at q e)))
      (λ j x ne at. at_each (λ k y. 0 < x.phase → 0 < y.phase → x.ticket ≡ y.ticket → j ≡ k) hs i g (λ p q e. absurd (new q j x ne at p (sym e))) (λ k y ne' at' p q e. o.apart j k x y at at' p q e))
      j x atx k y aty

module _ (world : World) (t v c : ℕ) (slot : Option (Option Part)) (hs : List Hand) (o : PartKept world t v c slot hs) (i : ℕ) (h g : Hand) (me : At hs i h) (own : h.own ≡ g.own) (joined : h.joined ≡ g.joined) where
  -- the lists stay, where the history does
  still_mine : (j : ℕ) (x : Hand) → At (set hs i g) j x → IsTold o.es o.ls x.own.number x.own.asked
  still_mine = at_each (λ j x. IsTold o.es o.ls x.own.number x.own.asked) hs i g (subst (λ (w : Tale). IsTold o.es o.ls w.number w.asked) own (o.mine i h me)) (λ j x ne at. o.mine j x at)

  still_others : (j k : ℕ) (x : Hand) (w : Tale) → At (set hs i g) j x → At x.joined k w → IsTold o.es o.ls w.number w.asked
  still_others j k x w at = at_each (λ j x. (k : ℕ) (w : Tale) → At x.joined k w → IsTold o.es o.ls w.number w.asked) hs i g
      (subst (λ (ws : List Tale). (k : ℕ) (w : Tale) → At ws k w → IsTold o.es o.ls w.number w.asked) joined (λ k w. o.others i k h w me))
      (λ j x ne at k w. o.others j k x w at) j x at k w

  still_fresh : (n : ℕ) → length (set hs i g) ≤ n → looks_of n o.ls ≡ []
  still_fresh n le = o.fresh n (omega (arith, length-set hs i g))

  -- a view at its turn is the one with the ticket that is served
  only : 0 < h.phase → h.ticket ≡ o.served → (j : ℕ) (x : Hand) → At hs j x → 1 < x.phase → j ≡ i
  only p e j x at q = o.apart j i x h at me (omega arith) p ((o.turn j x at q).0 ∙ sym e)

  pub draws : h.phase ≡ 0 → g.phase ≡ 1 → g.ticket ≡ o.drawn → PartKept world ((t + 1) % 2 ^ 64) v c slot (set hs i g)
  draws idle waits' ticket = record {
    served = o.served;
    drawn = o.drawn + 1;
    es = o.es;
    ls = o.ls;
    tickets = ap (λ (n : ℕ). (n + 1) % 2 ^ 64) o.tickets ∙ mod-add-mod o.drawn (2 ^ 64) 1;
    serving = o.serving;
    waiting = let a = total_set waits hs i h g me in let b = waits_not h idle in let d = waits_one g (omega arith) in let w = o.waiting in omega arith;
    range = at_each (λ j x. 0 < x.phase → (o.served ≤ x.ticket) × (x.ticket < o.drawn + 1)) hs i g (λ p. let w = o.waiting in (omega arith, omega arith)) (λ j x ne at p. let r = o.range j x at p in (r.0, omega arith));
    apart = still_apart world t v c slot hs o i h g (λ p k y ne at q e. let r = o.range k y at q in omega arith);
    turn = at_each (λ j x. 1 < x.phase → (x.ticket ≡ o.served) × (x.entries ≡ o.es) × (x.looks ≡ o.ls)) hs i g (λ p. absurd (omega arith)) (λ j x ne at p. o.turn j x at p);
    slot_is = ⊎_elim (λ q. inl (q.0, q.1, q.2, q.3, at_each (λ j x. x.phase ≤ 1) hs i g (omega arith) (λ j x ne at. q.4 j x at)))
        (λ q. inr (q.0, q.1, set_else hs i q.0 g (λ e. let same : some h ≡ some q.1 = sym me ∙ ap (get_elem? hs) (sym e) ∙ q.2 in let r : h.phase ≡ q.1.phase = ap (λ (y : Hand). y.phase) (some-injective h q.1 same) in let n = q.3 in omega arith) ∙ q.2, q.3, q.4)) o.slot_is;
    count = o.count;
    good = o.good;
    mine = still_mine;
    others = still_others;
    fresh = still_fresh;
  }

  pub turns : h.phase ≡ 1 → g.phase ≡ 2 → h.ticket ≡ g.ticket → g.entries ≡ o.es → g.looks ≡ o.ls → h.ticket ≡ o.served → PartKept world t v c (some none) (set hs i g)
  turns waited turn ticket es ls is = record {
    served = o.served;
    drawn = o.drawn;
    es = o.es;
    ls = o.ls;
    tickets = o.tickets;
    serving = o.serving;
    waiting = let a = total_set waits hs i h g me in let b = waits_one h (omega arith) in let d = waits_one g (omega arith) in let w = o.waiting in omega arith;
    range = at_each (λ j x. 0 < x.phase → (o.served ≤ x.ticket) × (x.ticket < o.drawn)) hs i g (λ p. let r = o.range i h me (omega arith) in (omega arith, omega arith)) (λ j x ne at p. o.range j x at p);
    apart = still_apart world t v c slot hs o i h g (λ p k y ne at q e. ne (o.apart k i y h at me q (omega arith) (sym e ∙ sym ticket)));
    turn = at_each (λ j x. 1 < x.phase → (x.ticket ≡ o.served) × (x.entries ≡ o.es) × (x.looks ≡ o.ls)) hs i g (λ p. (sym ticket ∙ is, es, ls)) (λ j x ne at p. o.turn j x at p);
    slot_is = inr (i, g, set_here hs i g (at_below hs i h me), omega arith, refl);
    count = o.count;
    good = o.good;
    mine = still_mine;
    others = still_others;
    fresh = still_fresh;
  }

  -- the slot is at home for whom the ticket is served and who waits
  pub at_home : h.phase ≡ 1 → h.ticket ≡ o.served → (x : Part) × (slot ≡ some (some x)) × (x.entries.items ≡ o.es) × (x.looks.items ≡ o.ls)
  at_home waited is = ⊎_elim (λ q. (q.0, q.1, q.2, q.3))
      (λ q. let same : some q.1 ≡ some h = sym q.2 ∙ ap (get_elem? hs) (only (omega arith) is q.0 q.1 q.2 q.3) ∙ me in let r : q.1.phase ≡ h.phase = ap (λ (y : Hand). y.phase) (some-injective q.1 h same) in let n = q.3 in absurd (omega arith)) o.slot_is

  pub ticket_is : length hs < 2 ^ 32 → 0 < h.phase → v ≡ h.ticket % 2 ^ 64 → h.ticket ≡ o.served
  ticket_is few p e = let r = o.range i h me p in let w = o.waiting in let m = total_most waits hs waits_most in sym (one_turn o.served h.ticket (2 ^ 64) r.0 (omega arith) (sym o.serving ∙ e))

  pub serves : (x : Part) → 1 < h.phase → g.phase ≡ 0 → x.entries.items ≡ h.entries → x.looks.items ≡ h.looks → PartKept world t ((v + 1) % 2 ^ 64) c (some (some x)) (set hs i g)
  serves x turn idle es ls = let here = o.turn i h me turn in record {
    served = o.served + 1;
    drawn = o.drawn;
    es = o.es;
    ls = o.ls;
    tickets = o.tickets;
    serving = ap (λ (n : ℕ). (n + 1) % 2 ^ 64) o.serving ∙ mod-add-mod o.served (2 ^ 64) 1;
    waiting = let a = total_set waits hs i h g me in let b = waits_one h (omega arith) in let d = waits_not g idle in let w = o.waiting in omega arith;
    range = at_each (λ j x. 0 < x.phase → (o.served + 1 ≤ x.ticket) × (x.ticket < o.drawn)) hs i g (λ p. absurd (omega arith))
        (λ j x ne at p. let r = o.range j x at p in (dite (dec_le (o.served + 1) x.ticket) (λ y. y) (λ n. absurd (ne (o.apart j i x h at me p (omega arith) (omega arith)))), r.1));
    apart = still_apart world t v c slot hs o i h g (λ p k y ne at q e. omega arith);
    turn = at_each (λ j x. 1 < x.phase → (x.ticket ≡ o.served + 1) × (x.entries ≡ o.es) × (x.looks ≡ o.ls)) hs i g (λ p. absurd (omega arith)) (λ j x ne at p. absurd (ne (only (omega arith) here.0 j x at p)));
    slot_is = inl (x, refl, es ∙ here.1, ls ∙ here.2, at_each (λ j x. x.phase ≤ 1) hs i g (omega arith) (λ j x ne at. dite (dec_le x.phase 1) (λ y. y) (λ n. absurd (ne (only (omega arith) here.0 j x at (omega arith))))));
    count = o.count;
    good = o.good;
    mine = still_mine;
    others = still_others;
    fresh = still_fresh;
  }

module _ (world : World) (t v c : ℕ) (slot : Option (Option Part)) (hs : List Hand) (o : PartKept world t v c slot hs) (i : ℕ) (h g : Hand) (me : At hs i h) (a : Asked) where
  pub enters : h.phase ≡ 2 → g.phase ≡ 3 → h.ticket ≡ g.ticket → Grows world h.own.number h.entries h.looks a g.entries g.looks
      → g.own.number ≡ h.own.number → g.own.asked ≡ h.own.asked ++ a ∷ [] → h.joined ≡ g.joined
      → h.own.number < length hs → length g.looks < 2 ^ 64
      → ((j : ℕ) (x : Hand) → j ≢ i → At hs j x → x.own.number ≢ h.own.number)
      → ((j k : ℕ) (x : Hand) (w : Tale) → At hs j x → At x.joined k w → w.number ≢ h.own.number)
      → PartKept world t v ((c + 1) % 2 ^ 64) slot (set hs i g)
  enters turn after ticket grows number asked joined given fits mine others = let here = o.turn i h me (omega arith) in
      let grown : Grows world h.own.number o.es o.ls a g.entries g.looks = subst (λ (z : List Entry × List Look). Grows world h.own.number z.0 z.1 a g.entries g.looks) (λ k. (here.1 k, here.2 k)) grows in
      let only : (j : ℕ) (x : Hand) → At hs j x → 1 < x.phase → j ≡ i = λ j x at q. o.apart j i x h at me (omega arith) (omega arith) ((o.turn j x at q).0 ∙ sym here.0) in
      let long : length g.looks ≡ length o.ls + 1 = ap length grown.look ∙ length-append o.ls (look_of h.own.number a ∷ []) in record {
        served = o.served;
        drawn = o.drawn;
        es = g.entries;
        ls = g.looks;
        tickets = o.tickets;
        serving = o.serving;
        waiting = let b = total_set waits hs i h g me in let d = waits_one h (omega arith) in let e = waits_one g (omega arith) in let w = o.waiting in omega arith;
        range = at_each (λ j x. 0 < x.phase → (o.served ≤ x.ticket) × (x.ticket < o.drawn)) hs i g (λ p. let r = o.range i h me (omega arith) in (omega arith, omega arith)) (λ j x ne at p. o.range j x at p);
        apart = still_apart world t v c slot hs o i h g (λ p k y ne at q e. ne (o.apart k i y h at me q (omega arith) (sym e ∙ sym ticket)));
        turn = at_each (λ j x. 1 < x.phase → (x.ticket ≡ o.served) × (x.entries ≡ g.entries) × (x.looks ≡ g.looks)) hs i g (λ p. (sym ticket ∙ here.0, refl, refl)) (λ j x ne at p. absurd (ne (only j x at p)));
        slot_is = ⊎_elim (λ q. let n = q.4 i h me in absurd (omega arith)) (λ q. inr (i, g, set_here hs i g (at_below hs i h me), omega arith, q.4)) o.slot_is;
        count = let e : c ≡ length o.ls = o.count in ap (λ (n : ℕ). (n + 1) % 2 ^ 64) e ∙ ap (λ (n : ℕ). n % 2 ^ 64) (sym long) ∙ mod-eq_of_lt fits;
        good = grown.good;
        mine = at_each (λ j x. IsTold g.entries g.looks x.own.number x.own.asked) hs i g
            (let new = told_here world h.own.number o.es o.ls a g.entries g.looks grown h.own.asked (o.mine i h me) in subst (λ (z : ℕ × List Asked). IsTold g.entries g.looks z.0 z.1) (λ k. (sym number k, sym asked k)) new)
            (λ j x ne at. told_else world h.own.number o.es o.ls a g.entries g.looks grown x.own.number x.own.asked (mine j x ne at) (o.mine j x at));
        others = λ j k x w at atk. at_each (λ j x. (k : ℕ) (w : Tale) → At x.joined k w → IsTold g.entries g.looks w.number w.asked) hs i g
            (λ k w atk. let old : At h.joined k w = subst (λ (ws : List Tale). At ws k w) (sym joined) atk in told_else world h.own.number o.es o.ls a g.entries g.looks grown w.number w.asked (others i k h w me old) (o.others i k h w me old))
            (λ j x ne at k w atk. told_else world h.own.number o.es o.ls a g.entries g.looks grown w.number w.asked (others j k x w at atk) (o.others j k x w at atk)) j x at k w atk;
        fresh = λ n le. none_else world h.own.number o.es o.ls a g.entries g.looks grown n (λ e. let b = length-set hs i g in omega arith) (o.fresh n (omega (arith, length-set hs i g)));
      }
