-- A history that grows by one look.
use Rattle.std.proofs.Common.{◌≡◌, ℕ, zero, suc, ◌<◌, ◌≢◌, ◌⊎◌, ◌==◌, cond, List, [], ◌∷◌, ◌++◌, map, length, sym, refl, ap, ◌∙◌, subst, inl, inr, ⊎_elim, arith, eq-eqb, ne_eqb, length-append, Bool, true, false, Result, Ok, Err, IfOk, get_or, set, take}
use Rattle.std.proofs.lemmas.List.{map-append, append-nil}
use Rattle.std.proofs.lemmas.List.Elements.{filter-append}
use mathlib.Core.Option.{some, some-injective, some-ne-none}
use lib.ListN.{get_elem?}
use Rattle.atomic_table.proofs.Lists.{at_longer, at_last}
use Rattle.pj_table.specs.Book.{IsSound, IsTold, Grows, looks_of, look_of, IsLegal, fills, next, Fits}
use Rattle.pj_names.specs.ClassName.{Name}
use Rattle.pj_table.specs.Worlds.{World, IsAnswer}
use Rattle.pj_table.specs.declared.view.Entry.{Entry}
use Rattle.std.specs.Arc.{arc_value}
use Rattle.std.specs.declared.sync.Arc.{Arc}
use Rattle.std.specs.declared.alloc.Global.{Global}
use Rattle.pj_names.specs.declared.answer.Answer.{Answer}
use Rattle.pj_table.specs.declared.view.Look.{Look}
use Rattle.pj_table.specs.declared.view.Asked.{Asked}

legal_snoc : (n : ℕ) (ls : List Look) (l : Look) → IsLegal n ls → Fits (fills n ls) l → IsLegal n (ls ++ l ∷ [])
legal_snoc n [] l h fits = (fits, tt)
legal_snoc n (x ∷ xs) l h fits = (h.0, legal_snoc (next n x) xs l h.1 fits)

fills_snoc : (n : ℕ) (ls : List Look) (l : Look) → fills n (ls ++ l ∷ []) ≡ next (fills n ls) l
fills_snoc n [] l = refl
fills_snoc n (x ∷ xs) l = fills_snoc (next n x) xs l

module _ {A : Type 0} where
  pub at_snoc_is : (l : List A) (a b : A) (j : ℕ) → get_elem? (l ++ a ∷ []) j ≡ some b → (get_elem? l j ≡ some b) ⊎ ((j ≡ length l) × (a ≡ b))
  at_snoc_is [] a b zero e = inr (refl, some-injective a b e)
  at_snoc_is [] a b (suc j) e = absurd (some-ne-none b (sym e))
  at_snoc_is (x ∷ xs) a b zero e = inl e
  at_snoc_is (x ∷ xs) a b (suc j) e = ⊎_elim (λ t. inl t) (λ t. let n : j ≡ length xs = t.0 in inr (omega arith, t.1)) (at_snoc_is xs a b j e)

  pub at_there : (l : List A) (j : ℕ) (v : A) → get_elem? l j ≡ some v → j < length l
  at_there [] j v e = absurd (some-ne-none v (sym e))
  at_there (x ∷ xs) zero v e = omega arith
  at_there (x ∷ xs) (suc j) v e = omega (arith, at_there xs j v e)

looks_here : (n : ℕ) (ls : List Look) (l : Look) → l.seat ≡ n → looks_of n (ls ++ l ∷ []) ≡ looks_of n ls ++ l ∷ []
looks_here n ls l e = filter-append (λ (y : Look). y.seat == n) ls (l ∷ []) ∙ ap (λ (b : Bool). looks_of n ls ++ cond b (l ∷ []) []) (eq-eqb l.seat n e)

looks_else : (n : ℕ) (ls : List Look) (l : Look) → l.seat ≢ n → looks_of n (ls ++ l ∷ []) ≡ looks_of n ls
looks_else n ls l e = filter-append (λ (y : Look). y.seat == n) ls (l ∷ []) ∙ ap (λ (b : Bool). looks_of n ls ++ cond b (l ∷ []) []) (ne_eqb l.seat n e) ∙ append-nil (looks_of n ls)

module _ (world : World) (number : ℕ) (es : List Entry) (ls : List Look) (name : Name) (place part : ℕ) where
  pub hits : IsSound world es ls → (e : Entry) → get_elem? es place ≡ some e → e.name ≡ name
      → Grows world number es ls (record { part = part; place = place; fill = false; name = name }) es (ls ++ record { seat = number; place = place; fill = false } ∷ [])
  hits good e at is = let l : Look = record { seat = number; place = place; fill = false } in let f : fills 0 ls ≡ length es = good.filled in record {
    look = refl;
    kept = λ k d h. h;
    named = (e, at, is);
    good = record {
      legal = legal_snoc 0 ls l good.legal (let b = at_there es place e at in omega arith);
      filled = fills_snoc 0 ls l ∙ f;
      answers = good.answers;
      apart = good.apart;
    };
  }

  pub grows : IsSound world es ls → (answer : Arc Answer Global) → IsAnswer world name (arc_value answer) → ((k : ℕ) (e : Entry) → get_elem? es k ≡ some e → e.name ≢ name) → place ≡ length es
      → Grows world number es ls (record { part = part; place = place; fill = true; name = name }) (es ++ record { name = name; answer = answer } ∷ []) (ls ++ record { seat = number; place = place; fill = true } ∷ [])
  grows good answer is absent here = let l : Look = record { seat = number; place = place; fill = true } in let e : Entry = record { name = name; answer = answer } in let f : fills 0 ls ≡ length es = good.filled in record {
    look = refl;
    kept = λ k d h. at_longer es (e ∷ []) k d h;
    named = (e, at_last es e place (sym here), refl);
    good = record {
      legal = legal_snoc 0 ls l good.legal (here ∙ sym f);
      filled = fills_snoc 0 ls l ∙ omega (arith, length-append es (e ∷ []));
      answers = λ k d at. ⊎_elim (λ t. good.answers k d t) (λ t. subst (λ (y : Entry). IsAnswer world y.name (arc_value y.answer)) t.1 is) (at_snoc_is es e d k at);
      apart = λ j k d d' atj atk same. ⊎_elim
          (λ t. ⊎_elim (λ u. good.apart j k d d' t u same) (λ u. absurd (absent j d t (same ∙ sym (ap (λ (y : Entry). y.name) u.1)))) (at_snoc_is es e d' k atk))
          (λ t. ⊎_elim (λ u. absurd (absent k d' u (sym same ∙ sym (ap (λ (y : Entry). y.name) t.1)))) (λ u. t.0 ∙ sym u.0) (at_snoc_is es e d' k atk))
          (at_snoc_is es e d j atj);
    };
  }

-- what was told of another number, or of this one with the look
module _ (world : World) (number : ℕ) (es : List Entry) (ls : List Look) (a : Asked) (es' : List Entry) (ls' : List Look) (g : Grows world number es ls a es' ls') where
  pub told_else : (n : ℕ) (asked : List Asked) → n ≢ number → IsTold es ls n asked → IsTold es' ls' n asked
  told_else n asked ne t = record {
    same = ap (looks_of n) g.look ∙ looks_else n ls (look_of number a) (λ e. ne (sym e)) ∙ t.same;
    named = λ k b at. let u = t.named k b at in (u.0, g.kept b.place u.0 u.1, u.2);
  }

  pub told_here : (asked : List Asked) → IsTold es ls number asked → IsTold es' ls' number (asked ++ a ∷ [])
  told_here asked t = record {
    same = ap (looks_of number) g.look ∙ looks_here number ls (look_of number a) refl ∙ ap (λ (z : List Look). z ++ look_of number a ∷ []) t.same ∙ sym (map-append (look_of number) asked (a ∷ []));
    named = λ k b at. ⊎_elim (λ h. let u = t.named k b h in (u.0, g.kept b.place u.0 u.1, u.2)) (λ h. subst (λ (y : Asked). (e : Entry) × (get_elem? es' y.place ≡ some e) × (e.name ≡ y.name)) h.1 g.named) (at_snoc_is asked a b k at);
  }

  pub none_else : (n : ℕ) → n ≢ number → looks_of n ls ≡ [] → looks_of n ls' ≡ []
  none_else n ne h = ap (looks_of n) g.look ∙ looks_else n ls (look_of number a) (λ e. ne (sym e)) ∙ h

module _ {A : Type 0} where
  snoc_same : (l : List A) (x y : A) → l ++ x ∷ [] ≡ l ++ y ∷ [] → x ≡ y
  snoc_same [] x y e = cc
  snoc_same (z ∷ zs) x y e = snoc_same zs x y (cc)

  pub at_unmap : {B : Type 0} (f : A → B) (l : List A) (i : ℕ) (b : B) → get_elem? (map f l) i ≡ some b → (a : A) × (get_elem? l i ≡ some a) × (f a ≡ b)
  at_unmap f [] i b e = absurd (some-ne-none b (sym e))
  at_unmap f (x ∷ xs) zero b e = (x, refl, some-injective (f x) b e)
  at_unmap f (x ∷ xs) (suc i) b e = at_unmap f xs i b e

-- the part that grew tells what was asked
pub one_asked : (world : World) (number : ℕ) (es : List Entry) (ls : List Look) (a b : Asked) (es' : List Entry) (ls' : List Look) → Grows world number es ls a es' ls' → Grows world number es ls b es' ls' → a.part ≡ b.part → a ≡ b
one_asked world number es ls a b es' ls' g h part =
    let l : look_of number a ≡ look_of number b = snoc_same ls (look_of number a) (look_of number b) (sym g.look ∙ h.look) in
    let place : a.place ≡ b.place = ap (λ (y : Look). y.place) l in let fill : a.fill ≡ b.fill = ap (λ (y : Look). y.fill) l in
    let e : some g.named.0 ≡ some h.named.0 = sym g.named.1 ∙ ap (get_elem? es') place ∙ h.named.1 in
    let name : a.name ≡ b.name = sym g.named.2 ∙ ap (λ (y : Entry). y.name) (some-injective g.named.0 h.named.0 e) ∙ h.named.2 in
    λ k. record { part = part k; place = place k; fill = fill k; name = name k }

pub same_entry : (es : List Entry) (j k : ℕ) (d e : Entry) → get_elem? es j ≡ some d → get_elem? es k ≡ some e → j ≡ k → d ≡ e
same_entry es j k d e atj atk same = some-injective d e (sym atj ∙ ap (get_elem? es) same ∙ atk)

-- the new lists, as they were built
pub grown : (world : World) (number : ℕ) (es : List Entry) (ls : List Look) (a : Asked) (es' es'' : List Entry) (ls' ls'' : List Look) → Grows world number es ls a es' ls' → es'' ≡ es' → ls'' ≡ ls' → Grows world number es ls a es'' ls''
grown world number es ls a es' es'' ls' ls'' g e l = subst (λ (z : List Entry × List Look). Grows world number es ls a z.0 z.1) (λ j. (sym e j, sym l j)) g

pub if_ok : {A E : Type 0} (P Q : A → Type 0) (r : Result A E) → ((a : A) → P a → Q a) → IfOk r P → IfOk r Q
if_ok P Q (Ok a) f h = f a h
if_ok P Q (Err e) f h = tt

pub unset : (l : List Bool) (i : ℕ) → get_or (set l i false) i false ≡ false
unset [] zero = refl
unset [] (suc i) = refl
unset (b ∷ bs) zero = refl
unset (b ∷ bs) (suc i) = unset bs i

module _ {A : Type 0} where
  pub take_at : (l : List A) (i : ℕ) (x : A) → get_elem? l i ≡ some x → take (suc i) l ≡ take i l ++ x ∷ []
  take_at [] i x e = absurd (some-ne-none x (sym e))
  take_at (y ∷ ys) zero x e = cc
  take_at (y ∷ ys) (suc i) x e = let r = take_at ys i x e in ap (λ (l : List A). y ∷ l) r

pub zeros_more : (l : List ℕ) → ((i : ℕ) → get_or l i 0 ≡ 0) → (i : ℕ) → get_or (l ++ 0 ∷ []) i 0 ≡ 0
zeros_more [] h zero = refl
zeros_more [] h (suc i) = refl
zeros_more (x ∷ xs) h zero = h 0
zeros_more (x ∷ xs) h (suc i) = zeros_more xs (λ j. h (suc j)) i
