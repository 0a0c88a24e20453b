-- Nodes that are added, and what they stand for.
use Rattle.std.proofs.Common.{◌≡◌, ℕ, zero, suc, ◌+◌, ◌<◌, List, [], ◌∷◌, ◌++◌, length, Some, refl, sym, ◌∙◌, subst, ap, inl, inr, ⊎_elim, arith, append_assoc, length-append}
use Rattle.std.specs.Prelude.{slice_get}
use Rattle.std.proofs.lemmas.List.{get_or_append_left, get_or_push}
use Rattle.pj_peg_grammar.specs.declared.program.Node.{Node}
use Rattle.pj_peg_grammar.specs.declared.program.Node.TheVariants.{Token, Any, Rule, Nothing, Never, Seq, Choice, Star, Maybe, And, Not}
use Rattle.pj_peg_grammar.specs.Form.{Form, star, seq, choice, maybe, ahead, not_ahead, never}
use Rattle.pj_peg_grammar.specs.WellFormed.{Repeats}
use Rattle.pj_peg_grammar.specs.Program.{form_at, node_form, forms_after, forms_in, PartsBelow, AreNodes, Extends, AddsForm}
use Rattle.pj_peg_grammar.proofs.Lists.{get_append, get_push, get_push_cases, some_one}

after_push : (forms : List Form) (ns : List Node) (n : Node) →
    forms_after forms (ns ++ n ∷ []) ≡ forms_after forms ns ++ node_form (forms_after forms ns) n ∷ []
after_push forms [] n = refl
after_push forms (m ∷ ns) n = after_push (forms ++ node_form forms m ∷ []) ns n

pub forms_in-push : (ns : List Node) (n : Node) → forms_in (ns ++ n ∷ []) ≡ forms_in ns ++ node_form (forms_in ns) n ∷ []
unfolding forms_in
forms_in-push ns n = after_push [] ns n

after_length : (forms : List Form) (ns : List Node) → length (forms_after forms ns) ≡ length forms + length ns
after_length forms [] = omega arith
after_length forms (n ∷ ns) = omega (arith, after_length (forms ++ node_form forms n ∷ []) ns, length-append forms (node_form forms n ∷ []))

pub length-forms_in : (ns : List Node) → length (forms_in ns) ≡ length ns
unfolding forms_in
length-forms_in ns = omega (arith, after_length [] ns)

pub form_before : (ns : List Node) (n : Node) (k : ℕ) → k < length ns → form_at (forms_in (ns ++ n ∷ [])) k ≡ form_at (forms_in ns) k
form_before ns n k lt =
    let len = length-forms_in ns in
    ap (λ fs. form_at fs k) (forms_in-push ns n) ∙ get_or_append_left (forms_in ns) (node_form (forms_in ns) n ∷ []) never k (omega arith)

pub form_last : (ns : List Node) (n : Node) → form_at (forms_in (ns ++ n ∷ [])) (length ns) ≡ node_form (forms_in ns) n
form_last ns n = ap (λ fs. form_at fs (length ns)) (forms_in-push ns n) ∙ get_or_push (forms_in ns) (node_form (forms_in ns) n) never (length ns) (length-forms_in ns)

parts_same : (stars : List ℕ) (k : ℕ) (n m : Node) → n ≡ m → PartsBelow stars k n → PartsBelow stars k m
parts_same stars k n m e h = subst (PartsBelow stars k) e h

nodes_push : (ns : List Node) (stars : List ℕ) (n : Node) → AreNodes ns stars → PartsBelow stars (length ns) n → AreNodes (ns ++ n ∷ []) stars
nodes_push ns stars n are below = record {
  parts = λ k m is. ⊎_elim
      (λ (h : slice_get ns k ≡ Some m). are.parts k m h)
      (λ (h : (k ≡ length ns) × (n ≡ m)). subst (λ i. PartsBelow stars i m) (sym h.0) (parts_same stars (length ns) n m h.1 below))
      (get_push_cases ns n k m is);
  star_parts = λ i a is. let lt = are.star_parts i a is in omega (arith, length-append ns (n ∷ []));
}

-- one node more
pub adds_node : (old new : List Node) (stars : List ℕ) (n : Node) (index : ℕ) → AreNodes old stars → PartsBelow stars (length old) n →
    index ≡ length old → new ≡ old ++ n ∷ [] → AddsForm old new stars stars index (node_form (forms_in old) n)
adds_node old new stars n index are below at is = subst (λ ns. AddsForm old ns stars stars index (node_form (forms_in old) n)) (sym is) (record {
  extends = record {
    nodes_are = nodes_push old stars n are below;
    longer = omega (arith, length-append old (n ∷ []));
    keeps = form_before old n;
  };
  there = omega (arith, length-append old (n ∷ []));
  stands = ap (form_at (forms_in (old ++ n ∷ []))) at ∙ form_last old n;
  used = λ i a h. inl h;
})

pub adds_same : (old new : List Node) (stars stars' : List ℕ) (index : ℕ) (f g : Form) → g ≡ f → AddsForm old new stars stars' index f → AddsForm old new stars stars' index g
adds_same old new stars stars' index f g e h = subst (AddsForm old new stars stars' index) (sym e) h

pub extends_on : (old mid new : List Node) (s t : List ℕ) → Extends old mid s → Extends mid new t → Extends old new t
extends_on old mid new s t g h = record {
  nodes_are = h.nodes_are;
  longer = let a = g.longer in let b = h.longer in omega arith;
  keeps = λ k lt. let a = g.longer in let mid_lt : k < length mid = omega arith in h.keeps k mid_lt ∙ g.keeps k lt;
}

-- the repetitions of a part are those of the whole
used_up : (f whole : Form) (old new : List Node) (stars : List ℕ) (n a : ℕ) → Extends old new stars → a < length old → ((q : Form) → Repeats f q → Repeats whole q) →
    Repeats f (form_at (forms_in old) a) → Repeats whole (form_at (forms_in new) a)
used_up f whole old new stars n a x lt up h = subst (Repeats whole) (sym (x.keeps a lt)) (up _ h)

-- a node after those of its part
pub adds_after : (old mid new : List Node) (stars stars' : List ℕ) (part index : ℕ) (f g : Form) (n : Node) → AddsForm old mid stars stars' part f →
    PartsBelow stars' (length mid) n → index ≡ length mid → new ≡ mid ++ n ∷ [] → g ≡ node_form (forms_in mid) n → ((q : Form) → Repeats f q → Repeats g q) →
    AddsForm old new stars stars' index g
adds_after old mid new stars stars' part index f g n h below at is same up =
    let k = adds_node mid new stars' n index h.extends.nodes_are below at is in
    record {
      extends = extends_on old mid new stars' stars' h.extends k.extends;
      there = k.there;
      stands = k.stands ∙ sym same;
      used = λ i a e. ⊎_elim
          (λ (x : slice_get stars i ≡ Some a). inl x)
          (λ (x : Repeats f (form_at (forms_in mid) a)). inr (used_up f g mid new stars' i a k.extends (h.extends.nodes_are.star_parts i a e) up x))
          (h.used i a e);
    }

-- one more part of a repetition
pub nodes_star : (ns : List Node) (stars : List ℕ) (a : ℕ) → AreNodes ns stars → a < length ns → AreNodes ns (stars ++ a ∷ [])
nodes_star ns stars a are lt = record {
  parts = λ k n is. more k n (are.parts k n is);
  star_parts = λ i b is. ⊎_elim
      (λ (h : slice_get stars i ≡ Some b). are.star_parts i b h)
      (λ (h : (i ≡ length stars) × (a ≡ b)). let e = h.1 in omega arith)
      (get_push_cases stars a i b is);
}
  where
    more : (k : ℕ) (n : Node) → PartsBelow stars k n → PartsBelow (stars ++ a ∷ []) k n
    more k (Token c) h = h
    more k Any h = h
    more k (Rule r) h = h
    more k Nothing h = h
    more k Never h = h
    more k (Seq x y) h = h
    more k (Choice x y) h = h
    more k (Star x n) h = (h.0, get_append stars (a ∷ []) n x h.1)
    more k (Maybe x) h = h
    more k (And x) h = h
    more k (Not x) h = h

-- the part, its place among the repetitions, and the node
pub adds_star : (old mid new : List Node) (stars stars' stars'' : List ℕ) (part n index : ℕ) (f g : Form) → AddsForm old mid stars stars' part f →
    n ≡ length stars' → stars'' ≡ stars' ++ part ∷ [] → index ≡ length mid → new ≡ mid ++ Star part n ∷ [] → g ≡ star f → AddsForm old new stars stars'' index g
adds_star old mid new stars stars' stars'' part n index f g h len more at is same =
    let there = h.there in
    let stars_are : AreNodes mid stars'' = subst (AreNodes mid) (sym more) (nodes_star mid stars' part h.extends.nodes_are there) in
    let star_is : slice_get stars'' n ≡ Some part = ap (λ l. slice_get l n) more ∙ ap (slice_get (stars' ++ part ∷ [])) len ∙ get_push stars' part in
    let k = adds_node mid new stars'' (Star part n) index stars_are (there, star_is) at is in
    record {
      extends = record {
        nodes_are = k.extends.nodes_are;
        longer = let a = h.extends.longer in let b = k.extends.longer in omega arith;
        keeps = λ i lt. let a = h.extends.longer in let mid_lt : i < length mid = omega arith in k.extends.keeps i mid_lt ∙ h.extends.keeps i lt;
      };
      there = k.there;
      stands = k.stands ∙ ap star h.stands ∙ sym same;
      used = λ i a e. ⊎_elim
          (λ (x : slice_get stars' i ≡ Some a). ⊎_elim
          (λ (y : slice_get stars i ≡ Some a). inl y)
          (λ (y : Repeats f (form_at (forms_in mid) a)). inr (subst (λ w. Repeats w (form_at (forms_in new) a)) (sym same)
          (inr (used_up f f mid new stars'' i a k.extends (h.extends.nodes_are.star_parts i a x) (λ q z. z) y))))
          (h.used i a x))
          (λ (x : (i ≡ length stars') × (part ≡ a)). inr (subst (λ w. Repeats w (form_at (forms_in new) a)) (sym same)
          (inl (ap (form_at (forms_in new)) (sym x.1) ∙ k.extends.keeps part there ∙ h.stands))))
          (get_push_cases stars' part i a (ap (λ l. slice_get l i) (sym more) ∙ e));
    }

-- a first part in front of what is there already
pub adds_front : (old mid next new : List Node) (r s t : List ℕ) (rest first index : ℕ) (f g : Form) (n : Node) → AddsForm old mid r s rest g → AddsForm mid next s t first f →
    PartsBelow t (length next) n → index ≡ length next → new ≡ next ++ n ∷ [] → (whole : Form) → whole ≡ node_form (forms_in next) n →
    ((q : Form) → Repeats g q → Repeats whole q) → ((q : Form) → Repeats f q → Repeats whole q) →
    AddsForm old new r t index whole
adds_front old mid next new r s t rest first index f g n h k below at is whole same up_rest up_first =
    let l = adds_node next new t n index k.extends.nodes_are below at is in
    record {
      extends = extends_on old mid new s t h.extends (extends_on mid next new t t k.extends l.extends);
      there = l.there;
      stands = l.stands ∙ sym same;
      used = λ i a e. ⊎_elim
          (λ (x : slice_get s i ≡ Some a). ⊎_elim
          (λ (y : slice_get r i ≡ Some a). inl y)
          (λ (y : Repeats g (form_at (forms_in mid) a)). inr (used_up g whole mid new t i a (extends_on mid next new t t k.extends l.extends) (h.extends.nodes_are.star_parts i a x) up_rest y))
          (h.used i a x))
          (λ (x : Repeats f (form_at (forms_in next) a)). inr (used_up f whole next new t i a l.extends (k.extends.nodes_are.star_parts i a e) up_first x))
          (k.used i a e);
    }

-- the two parts of a sequence or a choice still stand for what they stood for
pub both_stand : (old mid next : List Node) (r s t : List ℕ) (rest first : ℕ) (f g : Form) → AddsForm old mid r s rest g → AddsForm mid next s t first f →
    (form_at (forms_in next) first ≡ f) × (form_at (forms_in next) rest ≡ g) × (first < length next) × (rest < length next)
both_stand old mid next r s t rest first f g h k =
    let lt = h.there in let longer = k.extends.longer in
    (k.stands, (k.extends.keeps rest lt ∙ h.stands), k.there, omega arith)

pub forms_in-nil : forms_in [] ≡ []
unfolding forms_in
forms_in-nil = refl

after_append : (forms : List Form) (xs ys : List Node) → forms_after forms (xs ++ ys) ≡ forms_after (forms_after forms xs) ys
after_append forms [] ys = refl
after_append forms (x ∷ xs) ys = after_append (forms ++ node_form forms x ∷ []) xs ys

after_keeps : (forms : List Form) (ns : List Node) (k : ℕ) → k < length forms → form_at (forms_after forms ns) k ≡ form_at forms k
after_keeps forms [] k lt = refl
after_keeps forms (n ∷ ns) k lt =
    after_keeps (forms ++ node_form forms n ∷ []) ns k (omega (arith, length-append forms (node_form forms n ∷ [])))
    ∙ get_or_append_left forms (node_form forms n ∷ []) never k lt

forms_keep : (xs ys : List Node) (k : ℕ) → k < length xs → form_at (forms_in (xs ++ ys)) k ≡ form_at (forms_in xs) k
unfolding forms_in
forms_keep xs ys k lt = ap (λ fs. form_at fs k) (after_append [] xs ys) ∙ after_keeps (forms_after [] xs) ys k (let h = after_length [] xs in omega arith)

split_at : (xs : List Node) (k : ℕ) (n : Node) → slice_get xs k ≡ Some n → (us : List Node) × (vs : List Node) × (length us ≡ k) × (xs ≡ us ++ n ∷ vs)
split_at [] k n is = absurd (let z = is in cc)
split_at (x ∷ xs) zero n is = ([], xs, refl, ap (λ y. y ∷ xs) (some_one is))
split_at (x ∷ xs) (suc k) n is =
    let (us, vs, len, same) = split_at xs k n is in
    (x ∷ us, vs, ap suc len, ap (λ l. x ∷ l) same)

same_parts : (fs gs : List Form) (stars : List ℕ) (k : ℕ) (n : Node) → PartsBelow stars k n → ((a : ℕ) → a < k → form_at fs a ≡ form_at gs a) → node_form fs n ≡ node_form gs n
same_parts fs gs stars k (Token c) below h = refl
same_parts fs gs stars k Any below h = refl
same_parts fs gs stars k (Rule r) below h = refl
same_parts fs gs stars k Nothing below h = refl
same_parts fs gs stars k Never below h = refl
same_parts fs gs stars k (Seq a b) below h = ap (λ x. seq x (form_at fs b)) (h a below.0) ∙ ap (λ x. seq (form_at gs a) x) (h b below.1)
same_parts fs gs stars k (Choice a b) below h = ap (λ x. choice x (form_at fs b)) (h a below.0) ∙ ap (λ x. choice (form_at gs a) x) (h b below.1)
same_parts fs gs stars k (Star a n) below h = ap star (h a below.0)
same_parts fs gs stars k (Maybe a) below h = ap maybe (h a below)
same_parts fs gs stars k (And a) below h = ap ahead (h a below)
same_parts fs gs stars k (Not a) below h = ap not_ahead (h a below)

-- what a node stands for, by what its parts stand for
pub node_at : (nodes : List Node) (stars : List ℕ) (k : ℕ) (n : Node) → AreNodes nodes stars → slice_get nodes k ≡ Some n → form_at (forms_in nodes) k ≡ node_form (forms_in nodes) n
node_at nodes stars k n are is =
    let (us, vs, len, same) = split_at nodes k n is in
    let whole : nodes ≡ (us ++ n ∷ []) ++ vs = same ∙ sym (append_assoc us (n ∷ []) vs) in
    let pushed = length-append us (n ∷ []) in
    ap (λ l. form_at (forms_in l) k) whole
    ∙ forms_keep (us ++ n ∷ []) vs k (omega arith)
    ∙ ap (form_at (forms_in (us ++ n ∷ []))) (sym len)
    ∙ form_last us n
    ∙ same_parts (forms_in us) (forms_in nodes) stars k n (are.parts k n is)
    (λ a lt. sym (forms_keep us (n ∷ vs) a (omega arith)) ∙ ap (λ l. form_at (forms_in l) a) (sym same))
