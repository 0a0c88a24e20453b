-- The nodes of the rules.
use Rattle.std.proofs.Common.{◌≡◌, ℕ, suc, ◌+◌, ◌<◌, List, [], ◌∷◌, ◌++◌, length, map, Some, refl, sym, ◌∙◌, subst, ap, ⊎_elim, arith, take, get_or}
use Rattle.std.specs.Prelude.{slice_get}
use Rattle.std.proofs.lemmas.List.{map_more}
use Rattle.pj_peg_grammar.specs.declared.program.Node.{Node}
use Rattle.pj_peg_grammar.specs.declared.item.Item.{Item}
use Rattle.pj_peg_grammar.specs.Form.{Form, form_of}
use Rattle.pj_peg_grammar.specs.Program.{form_at, forms_in, AreNodes, AddsForm}
use Rattle.pj_peg_grammar.proofs.Lists.{get_append, get_push, get_push_cases}
use Rattle.pj_peg_grammar.specs.WellFormed.{Repeats}

-- roots were added for these forms
pub record AddsRoots (nodes : List Node) (stars roots : List ℕ) (forms : List Form) : Type 0 where
  pub nodes_are : AreNodes nodes stars
  pub there : (r k : ℕ) → slice_get roots r ≡ Some k → k < length nodes
  pub roots_are : map (form_at (forms_in nodes)) roots ≡ forms
  pub used : (n a : ℕ) → slice_get stars n ≡ Some a →
      (r : ℕ) × (k : ℕ) × (slice_get roots r ≡ Some k) × Repeats (form_at (forms_in nodes) k) (form_at (forms_in nodes) a)

map_same : (f g : ℕ → Form) (ks : List ℕ) → ((r k : ℕ) → slice_get ks r ≡ Some k → f k ≡ g k) → map f ks ≡ map g ks
map_same f g [] h = refl
map_same f g (k ∷ ks) h = ap (λ x. x ∷ map f ks) (h 0 k refl) ∙ ap (λ xs. g k ∷ xs) (map_same f g ks (λ r. h (suc r)))

map_push : (f : ℕ → Form) (ks : List ℕ) (k : ℕ) → map f (ks ++ k ∷ []) ≡ map f ks ++ f k ∷ []
map_push f [] k = refl
map_push f (x ∷ ks) k = ap (λ l. f x ∷ l) (map_push f ks k)

pub no_roots : (nodes : List Node) (stars roots : List ℕ) → nodes ≡ [] → stars ≡ [] → roots ≡ [] → AddsRoots nodes stars roots []
no_roots nodes stars roots p q r = record {
  nodes_are = record {
    parts = λ k n is. absurd (let z = ap (λ l. slice_get l k) (sym p) ∙ is in cc);
    star_parts = λ i a is. absurd (let z = ap (λ l. slice_get l i) (sym q) ∙ is in cc);
  };
  there = λ i k is. absurd (let z = ap (λ l. slice_get l i) (sym r) ∙ is in cc);
  roots_are = ap (map (form_at (forms_in nodes))) r;
  used = λ i a is. absurd (let z = ap (λ l. slice_get l i) (sym q) ∙ is in cc);
}

pub adds_root : (old new : List Node) (s t roots roots' : List ℕ) (forms : List Form) (root : ℕ) (f : Form) → AddsRoots old s roots forms →
    AddsForm old new s t root f → roots' ≡ roots ++ root ∷ [] → AddsRoots new t roots' (forms ++ f ∷ [])
adds_root old new s t roots roots' forms root f h k is = subst (λ l. AddsRoots new t l (forms ++ f ∷ [])) (sym is) (record {
  nodes_are = k.extends.nodes_are;
  there = λ r i at. let longer = k.extends.longer in ⊎_elim
      (λ (e : slice_get roots r ≡ Some i). let lt = h.there r i e in omega arith)
      (λ (e : (r ≡ length roots) × (root ≡ i)). let lt = k.there in let same = e.1 in omega arith)
      (get_push_cases roots root r i at);
  roots_are = map_push (form_at (forms_in new)) roots root
      ∙ ap (λ l. l ++ form_at (forms_in new) root ∷ []) (map_same _ _ roots (λ r i at. k.extends.keeps i (h.there r i at)) ∙ h.roots_are)
      ∙ ap (λ g. forms ++ g ∷ []) k.stands;
  used = λ n a e. ⊎_elim
      (λ (x : slice_get s n ≡ Some a).
      let (r, i, at, y) = h.used n a x in (
        r,
        i,
        get_append roots (root ∷ []) r i at,
        subst (λ w. Repeats w (form_at (forms_in new) a)) (sym (k.extends.keeps i (h.there r i at)))
            (subst (Repeats (form_at (forms_in old) i)) (sym (k.extends.keeps a (h.nodes_are.star_parts n a x))) y),
      ))
      (λ (x : Repeats f (form_at (forms_in new) a)).
      (length roots, root, get_push roots root, subst (λ w. Repeats w (form_at (forms_in new) a)) (sym k.stands) x))
      (k.used n a e);
})

pub rules_more : (rules : List Item) (i : ℕ) (x : Item) → i < length rules → x ≡ get_or rules i x →
    map form_of (take i rules) ++ form_of x ∷ [] ≡ map form_of (take (i + 1) rules)
rules_more rules i x lt is = ap (λ y. map form_of (take i rules) ++ form_of y ∷ []) is ∙ sym (map_more form_of rules i x lt)
