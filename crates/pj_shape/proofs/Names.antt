-- The names of variables as a set of texts.
use Rattle.std.proofs.Common.{◌≡◌, ℕ, ◌+◌, Bool, true, false, List, [], ◌∷◌, drop, Some, slice_get, refl, sym, ◌∙◌, ap}
use Rattle.std.specs.Prelude.{◌||◌, nat_eq, if◌then◌else◌}
use Rattle.std.specs.List.{list_any}
use Rattle.std.specs.Ordering.{nat_cmp, match_ordering, is_eq}
use Rattle.std.specs.declared.cmp.Ordering.{Ordering}
use Rattle.std.specs.declared.cmp.Ordering.TheVariants.{Less, Equal, Greater}
use Rattle.std.specs.Cmp.Lexicographic.{pointwise, slice_cmp, texts_ties, nat_list_eq_equiv}
use Rattle.std.specs.BTreeSet.{insert_key}
use Rattle.std.proofs.lemmas.Map.Lookups.{exact_bytes}
use Rattle.pj_tree.specs.declared.node.Span.{Span}
use Rattle.pj_shape.specs.declared.made.Made.{Made}
use Rattle.pj_shape.specs.Kinds.{is_variable_id}
use Rattle.pj_shape.specs.Marks.{variables_in}
use Rattle.pj_shape.specs.NameLists.{has_place}
use Rattle.pj_shape.specs.Words.{word_at}
use Rattle.pj_shape.proofs.Ranges.{drop_front}

any_same : {A : Type 0} (p q : A → Bool) → ((x : A) → p x ≡ q x) → (xs : List A) → list_any p xs ≡ list_any q xs
any_same p q same [] = refl
any_same p q same (x ∷ xs) = ap (λ b. b || list_any p xs) (same x) ∙ ap (λ b. q x || b) (any_same p q same xs)

or_twice : (a b : Bool) → (a || b) ≡ (a || (a || b))
or_twice true b = refl
or_twice false b = refl

or_swap : (a b c : Bool) → (b || (a || c)) ≡ (a || (b || c))
or_swap true true c = refl
or_swap true false c = refl
or_swap false true c = refl
or_swap false false c = refl

module _ {K : Type 0} (text : K → List ℕ) where
  abbrev pub order : K → K → Ordering
  order a b = slice_cmp nat_cmp (text a) (text b)

  abbrev pub has : List ℕ → List K → Bool
  has name ks = list_any (λ k. pointwise nat_eq (text k) name) ks

  -- the set has a name once it is put in
  pub has-insert : (name : List ℕ) (ks : List K) (k : K) → has name (insert_key order ks k) ≡ (pointwise nat_eq (text k) name || has name ks)
  has-insert name [] k = refl
  has-insert name (x ∷ xs) k = go (order k x) refl (has-insert name xs k)
    where
      go : (o : Ordering) → order k x ≡ o → has name (insert_key order xs k) ≡ (pointwise nat_eq (text k) name || has name xs) →
          has name (match_ordering o (k ∷ x ∷ xs) (x ∷ xs) (x ∷ insert_key order xs k)) ≡ (pointwise nat_eq (text k) name || has name (x ∷ xs))
      go Less e h = refl
      go Equal e h =
          let same : text x ≡ text k = sym (exact_bytes (text k) (text x) e) in
          or_twice (pointwise nat_eq (text x) name) (has name xs) ∙ ap (λ t. pointwise nat_eq t name || (pointwise nat_eq (text x) name || has name xs)) same
      go Greater e h =
          ap (λ b. pointwise nat_eq (text x) name || b) h ∙ or_swap (pointwise nat_eq (text k) name) (pointwise nat_eq (text x) name) (has name xs)

  -- a look-up by the order
  pub has-found : (name : List ℕ) (ks : List K) → list_any (λ k. is_eq (slice_cmp nat_cmp name (text k))) ks ≡ has name ks
  has-found name ks =
      any_same (λ k. is_eq (slice_cmp nat_cmp name (text k))) (λ k. pointwise nat_eq (text k) name)
      (λ k. sym (texts_ties name (text k)) ∙ nat_list_eq_equiv.symm name (text k)) ks

or_false : (a : Bool) → (a || false) ≡ a
or_false true = refl
or_false false = refl

or_move : (p o r : Bool) → ((p || o) || r) ≡ (o || (p || r))
or_move true true r = refl
or_move true false r = refl
or_move false true r = refl
or_move false false r = refl

-- a name that was put in
pub put_in : (text : List ℕ) (spans : List Span) (name word : List ℕ) (v : ℕ) (b h : Bool) → b ≡ true → word ≡ word_at text spans v →
    (pointwise nat_eq word name || h) ≡ (has_place text spans name (if b then v ∷ [] else []) || h)
put_in text spans name word v true h e is = ap (λ w. pointwise nat_eq w name || h) is ∙ ap (λ b. b || h) (sym (or_false (pointwise nat_eq (word_at text spans v) name)))
put_in text spans name word v false h e is = absurd cc

-- a node that is no variable
pub left_out : (text : List ℕ) (spans : List Span) (name : List ℕ) (v : ℕ) (b h : Bool) → b ≡ false → h ≡ (has_place text spans name (if b then v ∷ [] else []) || h)
left_out text spans name v true h e = absurd cc
left_out text spans name v false h e = refl

-- one node more
pub one_more_node : (text : List ℕ) (spans : List Span) (name : List ℕ) (nodes : List Made) (k : ℕ) (n : Made) (old new total : Bool) → slice_get nodes k ≡ Some n →
    new ≡ (has_place text spans name (variables_in (n ∷ [])) || old) → (old || has_place text spans name (variables_in (drop k nodes))) ≡ total →
    (new || has_place text spans name (variables_in (drop (k + 1) nodes))) ≡ total
one_more_node text spans name nodes k n old new total at e h =
    ap (λ b. b || has_place text spans name (variables_in (drop (k + 1) nodes))) e ∙
    or_move (has_place text spans name (variables_in (n ∷ []))) old (has_place text spans name (variables_in (drop (k + 1) nodes))) ∙
    ap (λ b. old || b) (sym (split (is_variable_id n.kind))) ∙
    ap (λ l. old || has_place text spans name (variables_in l)) (sym (drop_front nodes k n at)) ∙ h
  where
    split : (b : Bool) → has_place text spans name (if b then n.from ∷ variables_in (drop (k + 1) nodes) else variables_in (drop (k + 1) nodes)) ≡
        (has_place text spans name (if b then n.from ∷ [] else []) || has_place text spans name (variables_in (drop (k + 1) nodes)))
    split true = ap (λ b. b || has_place text spans name (variables_in (drop (k + 1) nodes))) (sym (or_false (pointwise nat_eq (word_at text spans n.from) name)))
    split false = refl
