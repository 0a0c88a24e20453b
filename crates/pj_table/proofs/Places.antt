-- Names stay where they lie.
use Rattle.std.proofs.Common.{◌≡◌, ℕ, ◌∷◌, List, Bool, sym, ap, ◌∙◌, subst, ⊎_elim, Result, Ok, Err, IfOk, IfErr}
use mathlib.Core.Option.{some}
use lib.ListN.{get_elem?}
use Rattle.pj_names.specs.ClassName.{Name}
use Rattle.pj_table.specs.Names.{part_of}
use Rattle.pj_table.specs.Placed.{AtHome, Placed}
use Rattle.pj_table.specs.Plays.{with_asked, AddsLook, AddsNothing, united}
use Rattle.pj_table.proofs.Books.{at_snoc_is}
use Rattle.pj_table.proofs.Seats.{at_either, at_cons}
use Rattle.pj_table.specs.declared.view.Asked.{Asked}
use Rattle.pj_table.specs.declared.view.Line.{Line}
use Rattle.pj_table.specs.declared.view.View.{View}

pub plus_home : (a : Asked) (l : Line) → a.part ≡ part_of a.name → AtHome l → AtHome (with_asked a l)
plus_home a l h all k b at = ⊎_elim (λ t. all k b t) (λ t. subst (λ (y : Asked). y.part ≡ part_of y.name) t.1 h) (at_snoc_is l.asked a b k at)

pub asks_placed : (v w : View) (name : Name) (finds : Bool → Type 0) → Placed v → AddsLook v w (part_of name) name finds → Placed w
asks_placed v w name finds p t = (subst AtHome (sym t.4) (plus_home t.0 v.own (t.1 ∙ ap part_of (sym t.2)) p.0), subst (λ (ls : List Line). (j : ℕ) (l : Line) → get_elem? ls j ≡ some l → AtHome l) (sym t.5.4) p.1)

pub refuses_placed : (v w : View) → Placed v → AddsNothing v w → Placed w
refuses_placed v w p t = (subst AtHome (sym t.0) p.0, subst (λ (ls : List Line). (j : ℕ) (l : Line) → get_elem? ls j ≡ some l → AtHome l) (sym t.1.4) p.1)

pub unites_placed : (v w : View) → Placed v → Placed w → Placed (united v w)
unites_placed v w p q = (p.0, at_either AtHome v.joined (w.own ∷ w.joined) p.1 (at_cons AtHome w.own w.joined q.0 q.1))

pub settled : {A E : Type 0} (r : Result A E) (P : A → Type 0) (Q : E → Type 0) (C : Type 0) → IfOk r P → IfErr r Q → ((a : A) → P a → C) → ((e : E) → Q e → C) → C
settled (Ok a) P Q C p q f g = f a p
settled (Err e) P Q C p q f g = g e q
