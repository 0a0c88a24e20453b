-- The opening seat of a new table tells the rule its world.
use Rattle.std.proofs.Common.{◌≡◌, ℕ, ◌<◌, ◌==◌, cond, List, [], ◌∷◌, map, filter, length, set, sym, refl, ap, ◌∙◌, subst, arith, length-set, eq-eqb, Bool, true, false}
use Rattle.std.proofs.lemmas.List.{map-set, length-map}
use lib.Seq.{set-get_or}
use mathlib.Core.Logic.{dite}
use mathlib.Core.Option.{Option, some-injective, some-ne-none}
use native.Mathlib.Decide.{ℕ_discrete}
use lib.ListN.{get_elem?}
use Rattle.atomic_table.proofs.Lists.{set_again, at_map}
use Rattle.atomic_table.specs.Table.{Me, keeps, Allows}
use Rattle.pj_table.specs.Book.{looks_of, look_of, fills}
use Rattle.pj_table.specs.Rule.{Hand, At, hand, PartKept, SeatKept, Kept, gone, claimed, marks, numbers}
use Rattle.pj_table.specs.Plays.{with_world}
use Rattle.pj_table.proofs.Parts.{at_each, at_below, total_set}
use Rattle.pj_table.proofs.Allowed.{Three}
use Rattle.pj_table.specs.Worlds.{World}
use Rattle.pj_table.specs.declared.view.Entry.{Entry}
use Rattle.pj_table.specs.declared.view.Look.{Look}
use Rattle.pj_table.specs.declared.view.Asked.{Asked}
use Rattle.pj_table.specs.declared.view.View.{View}
use Rattle.pj_table.specs.declared.part.Part.{Part}

no_looks : (ls : List Look) → ((n : ℕ) → looks_of n ls ≡ []) → ls ≡ []
no_looks [] h = refl
no_looks (l ∷ ls) h = let e = sym (ap (λ (b : Bool). cond b (l ∷ looks_of l.seat ls) (looks_of l.seat ls)) (eq-eqb l.seat l.seat refl)) ∙ h l.seat in absurd (cc e)

no_items : {A : Type 0} (l : List A) → length l ≡ 0 → l ≡ []
no_items [] e = refl
no_items (x ∷ xs) e = absurd (omega arith)

reworlds : (old new : World) (t v c : ℕ) (slot : Option (Option Part)) (hs : List Hand) → length hs ≡ 1 → ((h : Hand) → At hs 0 h → (h.own.number ≡ 0) × (h.own.asked ≡ [])) → (0 < length hs → (h : Hand) × At hs 0 h)
    → PartKept old t v c slot hs → PartKept new t v c slot hs
reworlds old new t v c slot hs one fresh some_hand o =
    let h = some_hand (omega arith) in let f = fresh h.0 h.1 in let m = o.mine 0 h.0 h.1 in
    let none-looked : o.ls ≡ [] = no_looks o.ls (λ n. dite (ℕ_discrete n 0) (λ e. ap (λ (i : ℕ). looks_of i o.ls) (e ∙ sym f.0) ∙ m.same ∙ ap (λ (l : List Asked). map (look_of h.0.own.number) l) f.1) (λ ne. o.fresh n (omega arith))) in
    let none-filled : o.es ≡ [] = no_items o.es (sym o.good.filled ∙ ap (fills 0) none-looked) in
    record {
      served = o.served;
      drawn = o.drawn;
      es = o.es;
      ls = o.ls;
      tickets = o.tickets;
      serving = o.serving;
      waiting = o.waiting;
      range = o.range;
      apart = o.apart;
      turn = o.turn;
      slot_is = o.slot_is;
      count = o.count;
      good = record { legal = o.good.legal; filled = o.good.filled; answers = λ k e at. absurd (some-ne-none e (sym (ap (λ (es : List Entry). get_elem? es k) (sym none-filled) ∙ at))); apart = o.good.apart };
      mine = o.mine;
      others = o.others;
      fresh = o.fresh;
    }

at_zero : {A : Type 0} (l : List A) → 0 < length l → (x : A) × At l 0 x
at_zero [] h = absurd (omega arith)
at_zero (x ∷ xs) h = (x, refl)

-- the Play is a parameter of the caller's: M n w is to hold of what was found and of the seat that was told
pub told_allowed : (k : ℕ) (n id : ℕ) (m : Me Part View) (world : World) → m.0.live ≡ true → m.0.own.number ≡ 0 → m.0.own.asked ≡ [] → m.0.given ≡ 1 → Allows (Kept k) n id m 0 (λ x. x) (λ _ w. w ≡ (with_world world m.0, m.1))
told_allowed k n id m world alive opening fresh given s o slots at _ =
    let v : View = m.0 in let w : View = with_world world v in let seat = o.seats id v at alive in let first : id ≡ 0 = sym seat.own ∙ opening in let one : length s.views ≡ 1 = sym (seat.opener first) ∙ given in
    let vs : List View = set s.views id w in let c = o.claims in
    let here : (j : ℕ) (x : View) → At s.views j x → j ≡ id = λ j x atx. let b = at_below s.views j x atx in omega arith in (
      w,
      keeps,
      tt,
      subst (λ (ws : List ℕ). Kept k (record { words = ws; homes = s.homes; views = vs })) (sym (set-get_or s.words 0 0)) record {
        world = world;
        owner = o.owner;
        wide = o.wide;
        few = let f = o.few in omega (arith, length-set s.views id w);
        parts = λ q below. let hs : List Hand = map (hand q) s.views in
            subst (Three world s.words q (get_elem? s.homes q)) (sym (map-set (hand q) s.views id w ∙ set_again hs id (hand q v) (at_map (hand q) s.views id v at)))
            (reworlds o.world world _ _ _ (get_elem? s.homes q) hs (length-map s.views (hand q) ∙ one)
            (λ h ath. let same : hand q v ≡ h = some-injective (hand q v) h (sym (at_map (hand q) s.views id v at) ∙ ap (get_elem? hs) first ∙ ath) in
            (ap (λ (y : Hand). y.own.number) (sym same) ∙ opening, ap (λ (y : Hand). y.own.asked) (sym same) ∙ ap (filter (λ (a : Asked). a.part == q)) fresh))
            (at_zero hs) (o.parts q below));
        seats = at_each (λ j x. x.live ≡ true → SeatKept world k (length vs) o.owner j x) s.views id w
            (λ _. subst (λ (i : ℕ). SeatKept world k i o.owner id w) (sym (length-set s.views id w)) record { same_world = refl; same_files = seat.same_files; opener = seat.opener; own = seat.own; owned = seat.owned; joined = seat.joined })
            (λ j x ne atx. absurd (ne (here j x atx)));
        spent = at_each (λ j x. x.live ≡ false → x ≡ gone) s.views id w (λ is. cc (is, alive)) (λ j x ne atx. absurd (ne (here j x atx)));
        claims = record {
          few = c.few;
          once = λ x. omega (arith, total_set (claimed x) s.views id v w at, c.once x);
          most = let t = total_set marks s.views id v w at in let e = c.most in omega arith;
          counted = let t = total_set numbers s.views id v w at in let e = c.counted in let l = length-set s.views id w in omega arith;
          ended = let t = total_set marks s.views id v w at in λ h. c.ended (omega arith);
        };
      },
      refl,
    )
