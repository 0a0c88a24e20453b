-- At the end each entry stands in the part of its name.
use Rattle.std.proofs.Common.{◌≡◌, ℕ, zero, suc, ◌+◌, ◌<◌, ◌≤◌, ◌==◌, cond, List, [], ◌∷◌, filter, sym, refl, ap, ◌∙◌, arith, eq-eqb, eqb-true, Bool, true, false, MatchBool}
use mathlib.Core.Logic.{dite}
use mathlib.Core.Option.{some-injective, some-ne-none}
use native.Mathlib.Decide.{ℕ_discrete, dec_le}
use lib.ListN.{get_elem?}
use Rattle.pj_table.specs.Names.{part_of}
use Rattle.pj_table.specs.Book.{IsTold, look_of, IsLegal, fills}
use Rattle.pj_table.specs.Rule.{At, tale, HasAll, Shows}
use Rattle.pj_table.specs.Placed.{AtHome, Placed}
use Rattle.pj_table.proofs.Books.{at_unmap, same_entry, at_there}
use Rattle.pj_table.specs.declared.view.Entry.{Entry}
use Rattle.pj_table.specs.declared.view.Look.{Look}
use Rattle.pj_table.specs.declared.view.Asked.{Asked}
use Rattle.pj_table.specs.declared.view.Line.{Line}
use Rattle.pj_table.specs.declared.view.View.{View}
use Rattle.pj_table.specs.declared.part.Part.{Part}

abbrev Found : List Look → ℕ → Type 0
Found ls k = (j : ℕ) × (l : Look) × At ls j l × (l.place ≡ k)

-- each place below the number of fills was filled
fill_found : (ls : List Look) (n k : ℕ) → n ≤ k → k < fills n ls → IsLegal n ls → Found ls k
fill_found [] n k lo hi legal = absurd (omega arith)
fill_found (l ∷ ls) n k lo hi legal =
    let on : Found ls k → Found (l ∷ ls) k = λ t. (suc t.0, t.1, t.2, t.3) in
    let step : (b : Bool) → MatchBool b (l.place ≡ n) (l.place < n) → IsLegal (cond b (n + 1) n) ls → k < fills (cond b (n + 1) n) ls → Found (l ∷ ls) k =
    λ b. elim b as (λ b. MatchBool b (l.place ≡ n) (l.place < n) → IsLegal (cond b (n + 1) n) ls → k < fills (cond b (n + 1) n) ls → Found (l ∷ ls) k) [
      | true ↦ (λ fits rest below. dite (ℕ_discrete n k) (λ e. (0, l, refl, fits ∙ e)) (λ ne. on (fill_found ls (n + 1) k (omega arith) below rest)))
      | false ↦ (λ fits rest below. on (fill_found ls n k lo below rest))
    ] in
    step l.fill legal.0 legal.1 hi

module _ {A : Type 0} where
  kept_at : (f : A → Bool) (l : List A) (j : ℕ) (a : A) → At l j a → f a ≡ true → (i : ℕ) × At (filter f l) i a
  kept_at f [] j a at is = absurd (some-ne-none a (sym at))
  kept_at f (x ∷ xs) zero a at is = let e : f x ≡ true = ap f (some-injective x a at) ∙ is in (0, ap (λ b. get_elem? (cond b (x ∷ filter f xs) (filter f xs)) 0) e ∙ at)
  kept_at f (x ∷ xs) (suc j) a at is = let r = kept_at f xs j a at is in
      elim (f x) as (λ b. (i : ℕ) × At (cond b (x ∷ filter f xs) (filter f xs)) i a) [ true ↦ (suc r.0, r.1) | false ↦ r ]

  came_from : (f : A → Bool) (l : List A) (i : ℕ) (a : A) → At (filter f l) i a → (j : ℕ) × At l j a × (f a ≡ true)
  came_from f [] i a at = absurd (some-ne-none a (sym at))
  came_from f (x ∷ xs) i a at =
      let on : (i : ℕ) → At (filter f xs) i a → (j : ℕ) × At (x ∷ xs) j a × (f a ≡ true) = λ i at. let r = came_from f xs i a at in (suc r.0, r.1, r.2) in
      let step : (b : Bool) → f x ≡ b → (i : ℕ) → At (cond b (x ∷ filter f xs) (filter f xs)) i a → (j : ℕ) × At (x ∷ xs) j a × (f a ≡ true) =
      λ b. elim b as (λ b. f x ≡ b → (i : ℕ) → At (cond b (x ∷ filter f xs) (filter f xs)) i a → (j : ℕ) × At (x ∷ xs) j a × (f a ≡ true)) [
        | true ↦ (λ e i. elim i as (λ i. At (x ∷ filter f xs) i a → (j : ℕ) × At (x ∷ xs) j a × (f a ≡ true)) [ zero ↦ (λ at. (0, at, ap f (sym (some-injective x a at)) ∙ e)) | suc i ↦ (λ at. on i at) ])
        | false ↦ (λ e i at. on i at)
      ] in
      step (f x) refl i at

-- a look of the list's number, at a place, tells the part of the name there
by_line : (es : List Entry) (ls : List Look) (p : ℕ) (line : Line) → IsTold es ls line.number (tale p line).asked → AtHome line → (j : ℕ) (l : Look) → At ls j l → l.seat ≡ line.number → (k : ℕ) (e : Entry) → l.place ≡ k → At es k e → part_of e.name ≡ p
by_line es ls p line told home j l at is k e place ate =
    let r = kept_at (λ (y : Look). y.seat == line.number) ls j l at (eq-eqb l.seat line.number is) in
    let u = at_unmap (look_of line.number) (tale p line).asked r.0 l (ap (λ (z : List Look). get_elem? z r.0) (sym told.same) ∙ r.1) in
    let a = u.0 in let here : a.place ≡ k = ap (λ (y : Look). y.place) u.2 ∙ place in
    let n = told.named r.0 a u.1 in let same : n.0 ≡ e = same_entry es a.place k n.0 e n.1 ate here in
    let w = came_from (λ (y : Asked). y.part == p) line.asked r.0 a u.1 in
    ap part_of (ap (λ (y : Entry). y.name) (sym same) ∙ n.2) ∙ sym (home w.0 a w.1) ∙ eqb-true a.part p w.2

pub lies : (v : View) (p : ℕ) (x : Part) → v.own.number ≡ 0 → HasAll v → Placed v → Shows v p x → (k : ℕ) (e : Entry) → At x.entries.items k e → part_of e.name ≡ p
lies v p x opening all placed shows k e at =
    let below = at_there x.entries.items k e at in let filled = shows.good.filled in
    let t = fill_found x.looks.items 0 k (omega arith) (omega arith) shows.good.legal in let l = t.1 in
    dite (ℕ_discrete l.seat 0) (λ z. by_line x.entries.items x.looks.items p v.own shows.own placed.0 t.0 l t.2 (z ∙ sym opening) k e t.3 at)
    (λ ne. dite (dec_le v.given l.seat)
    (λ late. let r = kept_at (λ (y : Look). y.seat == l.seat) x.looks.items t.0 l t.2 (eq-eqb l.seat l.seat refl) in absurd (some-ne-none l (sym (ap (λ (z : List Look). get_elem? z r.0) (sym (shows.others l.seat late)) ∙ r.1))))
    (λ early. let has = all l.seat (omega arith) (omega arith) in by_line x.entries.items x.looks.items p has.1 (shows.joined has.0 has.1 has.2) (placed.1 has.0 has.1 has.2) t.0 l t.2 (sym has.3) k e t.3 at))
