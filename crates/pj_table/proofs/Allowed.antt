-- Each step keeps the rule of the whole table.
use Rattle.std.proofs.Common.{◌≡◌, ℕ, ◌+◌, ◌*◌, ◌%◌, ◌^◌, ◌<◌, ◌≤◌, ◌≢◌, ◌⊎◌, ◌==◌, cond, List, [], ◌∷◌, ◌++◌, map, length, get_or, set, sym, refl, ap, ◌∙◌, subst, inl, inr, ⊎_elim, arith, length-set, eq-eqb, ne_eqb, get_or-set_other, get_or-set_same, Bool, true, false}
use lib.Seq.{set-get_or}
use Rattle.std.proofs.lemmas.List.{map-set, length-map, append-nil}
use Rattle.std.proofs.lemmas.List.Elements.{filter-append}
use mathlib.Core.Logic.{dite}
use mathlib.Core.Option.{Option, none, some, some-ne-none}
use native.Mathlib.Decide.{ℕ_discrete}
use lib.ListN.{get_elem?}
use Rattle.atomic_table.proofs.Lists.{set_here, set_else, set_again, at_map}
use Rattle.atomic_table.specs.Table.{State, Me, step, Act, keeps, takes, gives, Valid, carried_after, stepped, Allows, rest}
use Rattle.pj_table.specs.Book.{IsSound, Grows}
use Rattle.pj_table.specs.Rule.{Hand, Tale, At, total, tale, masked, hand, PartKept, SeatKept, Kept, ClaimsKept, gone, claimed, line_claims, times, mark, marks, numbers, ticket_word, serving_word, count_word}
use Rattle.pj_table.specs.Plays.{drew, loaded, entered, served, waiting, turning, entering, idle, with_asked, Turns}
use Rattle.pj_table.proofs.Parts.{draws, turns, at_home, ticket_is, serves, enters, at_each, at_below, total_set}
use Rattle.pj_table.proofs.Books.{at_unmap, one_asked}
use Rattle.pj_table.specs.Worlds.{World}
use Rattle.pj_table.specs.declared.view.Entry.{Entry}
use Rattle.pj_table.specs.declared.view.Look.{Look}
use Rattle.pj_table.specs.declared.view.Asked.{Asked}
use Rattle.pj_table.specs.declared.view.Line.{Line}
use Rattle.pj_table.specs.declared.view.View.{View}
use Rattle.pj_table.specs.declared.part.Part.{Part}

-- what a step on a part leaves of a view
record Same (v w : View) : Type 0 where
  world : v.world ≡ w.world
  files : v.files ≡ w.files
  given : v.given ≡ w.given
  own : v.own.number ≡ w.own.number
  joined : v.joined ≡ w.joined
  live : v.live ≡ w.live
  claims : v.own.claims ≡ w.own.claims
  past : v.own.past ≡ w.own.past

same_seat : (world : World) (k count : ℕ) (owner : ℕ → ℕ) (i : ℕ) (v w : View) → Same v w → SeatKept world k count owner i v → SeatKept world k count owner i w
same_seat world k count owner i v w same o = record {
  same_world = sym same.world ∙ o.same_world;
  same_files = sym same.files ∙ o.same_files;
  opener = λ e. sym same.given ∙ o.opener e;
  own = sym same.own ∙ o.own;
  owned = o.owned;
  joined = subst (λ (ls : List Line). (j : ℕ) (l : Line) → At ls j l → (owner l.number ≡ i) × (l.number < count) × (l.number ≢ i)) same.joined o.joined;
}

abbrev pub Three : World → List ℕ → ℕ → Option (Option Part) → List Hand → Type 0
Three world ws q slot hs = PartKept world (get_or ws (ticket_word q) 0) (get_or ws (serving_word q) 0) (get_or ws (count_word q) 0) slot hs

module _ (k : ℕ) (s : State Part View) (o : Kept k s) (id : ℕ) (v w : View) (me : At s.views id v) (same : Same v w) where
  same_claims : ClaimsKept k (get_or s.words 0 0) (set s.views id w)
  same_claims = let c = o.claims in record {
    few = c.few;
    once = λ x. let e : claimed x v ≡ claimed x w = (λ j. times x (same.claims j) + total (line_claims x) (same.joined j)) in omega (arith, total_set (claimed x) s.views id v w me, c.once x);
    most = let e : marks v ≡ marks w = (λ j. cond (same.past j) 1 0 + total mark (same.joined j)) in let t = total_set marks s.views id v w me in let m = c.most in omega arith;
    ended = let e : marks v ≡ marks w = (λ j. cond (same.past j) 1 0 + total mark (same.joined j)) in let t = total_set marks s.views id v w me in λ h. c.ended (omega arith);
    counted = let e : numbers v ≡ numbers w = (λ j. cond (same.live j) (1 + length (same.joined j)) 0) in let t = total_set numbers s.views id v w me in let m = c.counted in let l = length-set s.views id w in omega arith;
  }

  lifts : v.live ≡ true → (p i new : ℕ) (homes : List (Option Part)) → 1 + 3 * p ≤ i → i ≤ 3 + 3 * p → length homes ≡ length s.homes
      → ((q : ℕ) → q ≢ p → get_elem? homes q ≡ get_elem? s.homes q) → ((q : ℕ) → q ≢ p → hand q v ≡ hand q w)
      → (p < length s.homes → Three o.world (set s.words i new) p (get_elem? homes p) (set (map (hand p) s.views) id (hand p w)))
      → Kept k (record { words = set s.words i new; homes = homes; views = set s.views id w })
  lifts alive p i new homes lo hi long elsewhere unseen here =
      let away_ticket : (q : ℕ) → q ≢ p → ticket_word q ≢ i = λ q ne e. ne (omega arith) in
      let away_serving : (q : ℕ) → q ≢ p → serving_word q ≢ i = λ q ne e. ne (omega arith) in
      let away_count : (q : ℕ) → q ≢ p → count_word q ≢ i = λ q ne e. ne (omega arith) in record {
        owner = o.owner;
        world = o.world;
        wide = length-set s.words i new ∙ o.wide ∙ ap (λ (n : ℕ). 1 + 3 * n) (sym long);
        few = let f = o.few in omega (arith, length-set s.views id w);
        parts = λ q below. let below' : q < length s.homes = omega arith in dite (ℕ_discrete q p)
            (λ e. subst (λ (r : ℕ). Three o.world (set s.words i new) r (get_elem? homes r) (map (hand r) (set s.views id w))) (sym e)
            (subst (Three o.world (set s.words i new) p (get_elem? homes p)) (sym (map-set (hand p) s.views id w)) (here (omega arith))))
            (λ ne. let still : map (hand q) (set s.views id w) ≡ map (hand q) s.views = map-set (hand q) s.views id w ∙ ap (set (map (hand q) s.views) id) (sym (unseen q ne)) ∙ set_again (map (hand q) s.views) id (hand q v) (at_map (hand q) s.views id v me) in
            subst (Three o.world (set s.words i new) q (get_elem? homes q)) (sym still)
            (subst (λ (slot : Option (Option Part)). Three o.world (set s.words i new) q slot (map (hand q) s.views)) (sym (elsewhere q ne))
            (subst (λ (z : ℕ × ℕ × ℕ). PartKept o.world z.0 z.1 z.2 (get_elem? s.homes q) (map (hand q) s.views))
            (λ j. (sym (get_or-set_other s.words i (ticket_word q) new 0 (away_ticket q ne)) j, sym (get_or-set_other s.words i (serving_word q) new 0 (away_serving q ne)) j, sym (get_or-set_other s.words i (count_word q) new 0 (away_count q ne)) j))
            (o.parts q below'))));
        seats = at_each (λ j x. x.live ≡ true → SeatKept o.world k (length (set s.views id w)) o.owner j x) s.views id w
            (λ _. subst (λ (n : ℕ). SeatKept o.world k n o.owner id w) (sym (length-set s.views id w)) (same_seat o.world k (length s.views) o.owner id v w same (o.seats id v me alive)))
            (λ j x ne at is. subst (λ (n : ℕ). SeatKept o.world k n o.owner j x) (sym (length-set s.views id w)) (o.seats j x at is));
        spent = at_each (λ j x. x.live ≡ false → x ≡ gone) s.views id w (λ dead. cc (alive, same.live, dead)) (λ j x ne at is. o.spent j x at is);
        claims = subst (λ (n : ℕ). ClaimsKept k n (set s.views id w)) (sym (get_or-set_other s.words i 0 new 0 (λ e. omega arith))) same_claims;
      }

hand_here : (p : ℕ) (v : View) → v.at ≡ p + 1 → hand p v ≡ masked true p v
hand_here p v e = ap (λ b. masked b p v) (eq-eqb v.at (p + 1) e)

pub hand_away : (p : ℕ) (v : View) → v.at ≢ p + 1 → hand p v ≡ masked false p v
hand_away p v n = ap (λ b. masked b p v) (ne_eqb v.at (p + 1) n)

-- the words of a part after a write to one of them
module _ (world : World) (ws : List ℕ) (p new : ℕ) (slot : Option (Option Part)) (hs : List Hand) (wide : 3 + 3 * p < length ws) where
  at_ticket : PartKept world new (get_or ws (serving_word p) 0) (get_or ws (count_word p) 0) slot hs → Three world (set ws (ticket_word p) new) p slot hs
  at_ticket o = subst (λ (z : ℕ × ℕ × ℕ). PartKept world z.0 z.1 z.2 slot hs)
      (λ j. (sym (get_or-set_same ws (ticket_word p) new 0 (omega arith)) j, sym (get_or-set_other ws (ticket_word p) (serving_word p) new 0 (λ e. omega arith)) j, sym (get_or-set_other ws (ticket_word p) (count_word p) new 0 (λ e. omega arith)) j)) o

  at_serving : PartKept world (get_or ws (ticket_word p) 0) new (get_or ws (count_word p) 0) slot hs → Three world (set ws (serving_word p) new) p slot hs
  at_serving o = subst (λ (z : ℕ × ℕ × ℕ). PartKept world z.0 z.1 z.2 slot hs)
      (λ j. (sym (get_or-set_other ws (serving_word p) (ticket_word p) new 0 (λ e. omega arith)) j, sym (get_or-set_same ws (serving_word p) new 0 (omega arith)) j, sym (get_or-set_other ws (serving_word p) (count_word p) new 0 (λ e. omega arith)) j)) o

  at_count : PartKept world (get_or ws (ticket_word p) 0) (get_or ws (serving_word p) 0) new slot hs → Three world (set ws (count_word p) new) p slot hs
  at_count o = subst (λ (z : ℕ × ℕ × ℕ). PartKept world z.0 z.1 z.2 slot hs)
      (λ j. (sym (get_or-set_other ws (count_word p) (ticket_word p) new 0 (λ e. omega arith)) j, sym (get_or-set_other ws (count_word p) (serving_word p) new 0 (λ e. omega arith)) j, sym (get_or-set_same ws (count_word p) new 0 (omega arith)) j)) o

same_still : (v w : View) → v.world ≡ w.world → v.files ≡ w.files → v.given ≡ w.given → v.own.number ≡ w.own.number → v.joined ≡ w.joined → v.live ≡ w.live → v.own.claims ≡ w.own.claims → v.own.past ≡ w.own.past → Same v w
same_still v w a b c d e f g h = record { world = a; files = b; given = c; own = d; joined = e; live = f; claims = g; past = h }

pub draw_allowed : (k : ℕ) (n id : ℕ) (m : Me Part View) (p : ℕ) → p < n → m.0.live ≡ true → m.0.at ≡ 0 → Allows (Kept k) n id m (ticket_word p) (λ x. (x + 1) % 2 ^ 64) (drew (step n (ticket_word p) 1 0 none) m)
draw_allowed k n id m p below alive is-idle s o slots at _ =
    let inside : p < length s.homes = omega arith in let wide : 3 + 3 * p < length s.words = (let e = o.wide in omega arith) in
    let kept = o.parts p inside in let v : View = m.0 in let w : View = waiting p kept.drawn v in
    let away : v.at ≢ p + 1 = λ e. omega arith in
    let new : ℕ = (get_or s.words (ticket_word p) 0 + 1) % 2 ^ 64 in (
      w,
      keeps,
      tt,
      lifts k s o id v w at (same_still v w refl refl refl refl refl refl refl refl) alive p (ticket_word p) new s.homes (omega arith) (omega arith) refl (λ q ne. refl)
          (λ q ne. hand_away q v (λ e. omega arith) ∙ sym (hand_away q w (λ e. ne (omega arith))))
          (λ _. at_ticket o.world s.words p new (get_elem? s.homes p) (set (map (hand p) s.views) id (hand p w)) wide
          (draws o.world (get_or s.words (ticket_word p) 0) (get_or s.words (serving_word p) 0) (get_or s.words (count_word p) 0) (get_elem? s.homes p) (map (hand p) s.views) kept id (hand p v) (hand p w) (at_map (hand p) s.views id v at) refl refl
          (ap (λ (y : Hand). y.phase) (hand_away p v away)) (ap (λ (y : Hand). y.phase) (hand_here p w refl)) (ap (λ (y : Hand). y.ticket) (hand_here p w refl)))),
      (λ q e. let same : p ≡ q = omega arith in (kept.drawn, kept.tickets, ap (λ (r : ℕ). (waiting r kept.drawn v, m.1)) same)),
    )

abbrev Goes : ℕ → State Part View → ℕ → ℕ → Me Part View → ℕ → (ℕ → Me Part View → Type 0) → Type 0
Goes k s i id m new then = (w : View) × (a : Act Part) × Valid s.homes m.1 a × Kept k (stepped s i new id m.1 w a) × then (get_or s.words i 0) (w, carried_after m.1 a)

module _ (k : ℕ) (s : State Part View) (o : Kept k s) (id : ℕ) (m : Me Part View) (at : At s.views id m.0) (p : ℕ) (inside : p < length s.homes) (alive : m.0.live ≡ true) (here : m.0.at ≡ p + 1) where
  wide : 3 + 3 * p < length s.words
  wide = let e = o.wide in omega arith

  kept : Three o.world s.words p (get_elem? s.homes p) (map (hand p) s.views)
  kept = o.parts p inside

  at_hand : At (map (hand p) s.views) id (hand p m.0)
  at_hand = at_map (hand p) s.views id m.0 at

  phase_is : (hand p m.0).phase ≡ m.0.phase
  phase_is = ap (λ (y : Hand). y.phase) (hand_here p m.0 here)

  ticket_same : (hand p m.0).ticket ≡ m.0.ticket
  ticket_same = ap (λ (y : Hand). y.ticket) (hand_here p m.0 here)

  unseen : (w : View) → (w.at ≡ p + 1) ⊎ (w.at ≡ 0) → m.0.own ≡ w.own → m.0.joined ≡ w.joined → (q : ℕ) → q ≢ p → hand q m.0 ≡ hand q w
  unseen w there own joined q ne = hand_away q m.0 (λ e. ne (omega arith)) ∙ (λ j. record { phase = 0; ticket = 0; entries = []; looks = []; own = tale q (own j); joined = map (tale q) (joined j) })
      ∙ sym (hand_away q w (⊎_elim (λ t e. ne (omega arith)) (λ t e. omega arith) there))

  turn_goes : m.0.phase ≡ 1 → get_or s.words (serving_word p) 0 ≡ m.0.ticket % 2 ^ 64 → Goes k s (serving_word p) id m (get_or s.words (serving_word p) 0) (λ n w. Turns p m w)
  turn_goes waited now =
      let few : length (map (hand p) s.views) < 2 ^ 32 = (let f = o.few in omega (arith, length-map s.views (hand p))) in
      let wait : (hand p m.0).phase ≡ 1 = phase_is ∙ waited in
      let t : ℕ = get_or s.words (ticket_word p) 0 in let v : ℕ = get_or s.words (serving_word p) 0 in let c : ℕ = get_or s.words (count_word p) 0 in let hs : List Hand = map (hand p) s.views in
      let is : (hand p m.0).ticket ≡ kept.served = ticket_is o.world t v c (get_elem? s.homes p) hs kept id (hand p m.0) (hand p m.0) at_hand refl refl few (omega arith) (now ∙ ap (λ (n : ℕ). n % 2 ^ 64) (sym ticket_same)) in
      let home = at_home o.world t v c (get_elem? s.homes p) hs kept id (hand p m.0) (hand p m.0) at_hand refl refl wait is in
      let x : Part = home.0 in let w : View = turning x.entries.items x.looks.items m.0 in
      let whole = hand_here p w here in (
        w,
        takes p x,
        home.1,
        lifts k s o id m.0 w at (same_still m.0 w refl refl refl refl refl refl refl refl) alive p (serving_word p) v (set s.homes p none) (omega arith) (omega arith) (length-set s.homes p none) (λ q ne. set_else s.homes p q none ne)
            (unseen w (inl here) refl refl)
            (λ _. at_serving o.world s.words p v (get_elem? (set s.homes p none) p) (set hs id (hand p w)) wide
            (subst (λ (slot : Option (Option Part)). PartKept o.world t v c slot (set hs id (hand p w))) (sym (set_here s.homes p none inside))
            (turns o.world t v c (get_elem? s.homes p) hs kept id (hand p m.0) (hand p w) at_hand refl refl wait
            (ap (λ (y : Hand). y.phase) whole) (ticket_same ∙ sym (ap (λ (y : Hand). y.ticket) whole)) (ap (λ (y : Hand). y.entries) whole ∙ home.2) (ap (λ (y : Hand). y.looks) whole ∙ home.3) is))),
        (x, refl, subst (λ (z : List Entry). IsSound m.0.world z x.looks.items) (sym home.2) (subst (λ (z : List Look). IsSound m.0.world kept.es z) (sym home.3) (subst (λ (z : World). IsSound z kept.es kept.ls) (sym (o.seats id m.0 at alive).same_world) kept.good))),
      )

  -- a load that tells nothing
  stay_goes : (i : ℕ) → 1 + 3 * p ≤ i → i ≤ 3 + 3 * p → Goes k s i id m (get_or s.words i 0) (λ n w. w ≡ m)
  stay_goes i lo hi = (
    m.0,
    keeps,
    tt,
    subst (λ (ws : List ℕ). Kept k (record { words = ws; homes = s.homes; views = set s.views id m.0 })) (sym (set-get_or s.words i 0))
        (subst (λ (vs : List View). Kept k (record { words = s.words; homes = s.homes; views = vs })) (sym (set_again s.views id m.0 at)) o),
    refl,
  )

  serve_goes : (x : Part) → m.1 ≡ (p, x) ∷ [] → 1 < m.0.phase → x.entries.items ≡ m.0.entries → x.looks.items ≡ m.0.looks
      → Goes k s (serving_word p) id m ((get_or s.words (serving_word p) 0 + 1) % 2 ^ 64) (λ n w. w ≡ (idle m.0, rest m.1))
  serve_goes x has turn es ls =
      let t : ℕ = get_or s.words (ticket_word p) 0 in let v : ℕ = get_or s.words (serving_word p) 0 in let c : ℕ = get_or s.words (count_word p) 0 in let hs : List Hand = map (hand p) s.views in
      let w : View = idle m.0 in let whole = hand_here p m.0 here in let none-now = hand_away p w (λ e. omega arith) in let turn' : 1 < (hand p m.0).phase = (let e = phase_is in omega arith) in
      let new : ℕ = (v + 1) % 2 ^ 64 in (
        w,
        gives,
        tt,
        subst (λ (l : List (ℕ × Part)). Kept k (stepped s (serving_word p) new id l w gives)) (sym has)
            (lifts k s o id m.0 w at (same_still m.0 w refl refl refl refl refl refl refl refl) alive p (serving_word p) new (set s.homes p (some x)) (omega arith) (omega arith) (length-set s.homes p (some x)) (λ q ne. set_else s.homes p q (some x) ne)
            (unseen w (inr refl) refl refl)
            (λ _. at_serving o.world s.words p new (get_elem? (set s.homes p (some x)) p) (set hs id (hand p w)) wide
            (subst (λ (slot : Option (Option Part)). PartKept o.world t new c slot (set hs id (hand p w))) (sym (set_here s.homes p (some x) inside))
            (serves o.world t v c (get_elem? s.homes p) hs kept id (hand p m.0) (hand p w) at_hand refl refl x turn' (ap (λ (y : Hand). y.phase) none-now)
            (es ∙ sym (ap (λ (y : Hand). y.entries) whole)) (ls ∙ sym (ap (λ (y : Hand). y.looks) whole)))))),
        refl,
      )

pub turn_allowed : (k : ℕ) (n id : ℕ) (m : Me Part View) (p : ℕ) → p < n → m.0.live ≡ true → m.0.at ≡ p + 1 → m.0.phase ≡ 1 → Allows (Kept k) n id m (serving_word p) (λ x. x) (loaded (step n (serving_word p) 0 0 none) m)
turn_allowed k n id m p below alive here waited s o slots at _ = let inside : p < length s.homes = omega arith in
    dite (ℕ_discrete (get_or s.words (serving_word p) 0) (m.0.ticket % 2 ^ 64))
    (λ e. let g = turn_goes k s o id m at p inside alive here waited e in (g.0, g.1, g.2, g.3, λ q same. ((λ _. let eq : p ≡ q = omega arith in subst (λ (r : ℕ). Turns r m (g.0, carried_after m.1 g.1)) eq g.4), (λ ne. absurd (ne e)))))
    (λ ne. let g = stay_goes k s o id m at p inside alive here (serving_word p) (omega arith) (omega arith) in (g.0, g.1, g.2, g.3, λ q same. ((λ e. absurd (ne e)), (λ _. g.4))))

pub serve_allowed : (k : ℕ) (n id : ℕ) (m : Me Part View) (p : ℕ) (x : Part) → p < n → m.0.live ≡ true → m.0.at ≡ p + 1 → m.1 ≡ (p, x) ∷ [] → 1 < m.0.phase → x.entries.items ≡ m.0.entries → x.looks.items ≡ m.0.looks
    → Allows (Kept k) n id m (serving_word p) (λ y. (y + 1) % 2 ^ 64) (served (step n (serving_word p) 1 0 none) m)
serve_allowed k n id m p x below alive here has turn es ls s o slots at _ = serve_goes k s o id m at p (omega arith) alive here x has turn es ls

pub live_or_gone : {C : Type 0} (v : View) → (v.live ≡ true → C) → (v.live ≡ false → C) → C
live_or_gone {C} v on off = elim v.live as (λ b. (b ≡ true → C) → (b ≡ false → C) → C) [ true ↦ (λ y n. y refl) | false ↦ (λ y n. n refl) ] on off

module _ (k : ℕ) (s : State Part View) (o : Kept k s) (id : ℕ) (v : View) (at : At s.views id v) (alive : v.live ≡ true) (p : ℕ) where
  me : SeatKept o.world k (length s.views) o.owner id v
  me = o.seats id v at alive

  not_mine : (j : ℕ) (x : Hand) → j ≢ id → At (map (hand p) s.views) j x → x.own.number ≢ (hand p v).own.number
  not_mine j x ne there e = let u = at_unmap (hand p) s.views j x there in let n = ap (λ (y : Hand). y.own.number) u.2 in let b = at_below s.views id v at in let f = o.few in let mine = me.own in
      live_or_gone u.0 (λ is. let own = (o.seats j u.0 u.1 is).own in ne (omega arith)) (λ is. let g = ap (λ (y : View). y.own.number) (o.spent j u.0 u.1 is) in omega arith)

  not_joined : (j q : ℕ) (x : Hand) (w : Tale) → At (map (hand p) s.views) j x → At x.joined q w → w.number ≢ (hand p v).own.number
  not_joined j q x w there in_list e = let u = at_unmap (hand p) s.views j x there in
      let l = at_unmap (tale p) u.0.joined q w (subst (λ (ws : List Tale). At ws q w) (ap (λ (y : Hand). y.joined) (sym u.2)) in_list) in
      let is : l.0.number ≡ id = ap (λ (y : Tale). y.number) l.2 ∙ e ∙ me.own in
      live_or_gone u.0 (λ live. let ok = (o.seats j u.0 u.1 live).joined q l.0 l.1 in ok.2 (is ∙ sym me.owned ∙ ap o.owner (sym is) ∙ ok.0))
      (λ dead. some-ne-none l.0 (sym l.1 ∙ ap (λ (y : View). get_elem? y.joined q) (o.spent j u.0 u.1 dead)))

  number_below : (hand p v).own.number < length (map (hand p) s.views)
  number_below = let b = at_below s.views id v at in let e = me.own in let f = length-map s.views (hand p) in omega arith

asked_after : (p : ℕ) (a : Asked) (l : Line) → a.part ≡ p → (tale p (with_asked a l)).asked ≡ (tale p l).asked ++ a ∷ []
asked_after p a l e = filter-append (λ (y : Asked). y.part == p) l.asked (a ∷ []) ∙ ap (λ (b : Bool). (tale p l).asked ++ cond b (a ∷ []) []) (eq-eqb a.part p e)

asked_else : (q : ℕ) (a : Asked) (l : Line) → a.part ≢ q → (tale q (with_asked a l)) ≡ tale q l
asked_else q a l ne = ap (λ (z : List Asked). record { number = l.number; asked = z })
    (filter-append (λ (y : Asked). y.part == q) l.asked (a ∷ []) ∙ ap (λ (b : Bool). (tale q l).asked ++ cond b (a ∷ []) []) (ne_eqb a.part q ne) ∙ append-nil (tale q l).asked)

pub enter_allowed : (k : ℕ) (n id : ℕ) (m : Me Part View) (p : ℕ) (x : Part) (a : Asked) → p < n → m.0.live ≡ true → m.0.at ≡ p + 1 → m.1 ≡ (p, x) ∷ [] → m.0.phase ≡ 2 → a.part ≡ p
    → Grows m.0.world m.0.own.number m.0.entries m.0.looks a x.entries.items x.looks.items → length x.looks.items < 2 ^ 64
    → Allows (Kept k) n id m (count_word p) (λ y. (y + 1) % 2 ^ 64) (entered (step n (count_word p) 1 0 none) m)
enter_allowed k n id m p x a below alive here has turn part grew fits s o slots at _ =
    let inside : p < length s.homes = omega arith in
    let v : View = m.0 in let w : View = entering a x.entries.items x.looks.items v in
    let t : ℕ = get_or s.words (ticket_word p) 0 in let sv : ℕ = get_or s.words (serving_word p) 0 in let c : ℕ = get_or s.words (count_word p) 0 in let hs : List Hand = map (hand p) s.views in
    let new : ℕ = (c + 1) % 2 ^ 64 in
    let before = hand_here p v here in let whole = hand_here p w here in
    let grows = subst (λ (z : World). Grows z v.own.number v.entries v.looks a x.entries.items x.looks.items) (o.seats id v at alive).same_world grew in (
      w,
      keeps,
      tt,
      lifts k s o id v w at (same_still v w refl refl refl refl refl refl refl refl) alive p (count_word p) new s.homes (omega arith) (omega arith) refl (λ q ne. refl)
          (λ q ne. hand_away q v (λ e. ne (omega arith)) ∙ (λ j. record { phase = 0; ticket = 0; entries = []; looks = []; own = sym (asked_else q a v.own (λ e. ne (sym e ∙ part))) j; joined = map (tale q) v.joined }) ∙ sym (hand_away q w (λ e. ne (omega arith))))
          (λ _. at_count o.world s.words p new (get_elem? s.homes p) (set hs id (hand p w)) (wide k s o id m at p inside alive here)
          (enters o.world t sv c (get_elem? s.homes p) hs (o.parts p inside) id (hand p v) (hand p w) (at_map (hand p) s.views id v at) a
          (ap (λ (y : Hand). y.phase) before ∙ turn) (ap (λ (y : Hand). y.phase) whole) (ap (λ (y : Hand). y.ticket) before ∙ sym (ap (λ (y : Hand). y.ticket) whole))
          (subst (λ (z : (List Entry × List Look) × (List Entry × List Look)). Grows o.world v.own.number z.0.0 z.0.1 a z.1.0 z.1.1)
          (λ j. ((sym (ap (λ (y : Hand). y.entries) before) j, sym (ap (λ (y : Hand). y.looks) before) j), (sym (ap (λ (y : Hand). y.entries) whole) j, sym (ap (λ (y : Hand). y.looks) whole) j))) grows)
          refl (asked_after p a v.own part) refl (number_below k s o id v at alive p) (subst (λ (z : List Look). length z < 2 ^ 64) (sym (ap (λ (y : Hand). y.looks) whole)) fits)
          (not_mine k s o id v at alive p) (not_joined k s o id v at alive p))),
      (λ q y b word held is grown.
          let same : x ≡ y = ap (λ (l : List (ℕ × Part)). (get_or l 0 (p, x)).1) (sym has ∙ held) in
          let grown' = subst (λ (z : Part). Grows v.world v.own.number v.entries v.looks b z.entries.items z.looks.items) (sym same) grown in
          let one : a ≡ b = one_asked v.world v.own.number v.entries v.looks a b x.entries.items x.looks.items grew grown' (let e : p ≡ q = omega arith in part ∙ e ∙ sym is) in
          λ j. (entering (one j) (same j).entries.items (same j).looks.items v, m.1)),
    )
