-- Texts that are put at the end one after the other, and the text of a cache by its parts.
use Rattle.std.proofs.Common.{◌≡◌, ℕ, ◌+◌, List, [], ◌∷◌, ◌++◌, length, map, take, get_or, refl, sym, ap, subst, ◌∙◌, ◌<◌, ◌^◌, append_assoc, arith}
use Rattle.std.specs.Prelude.{codes}
use Rattle.std.specs.List.{flat_map, AllByRecursion}
use Rattle.std.proofs.lemmas.List.{length-map, take_more, flat_map_more}
use Rattle.std.proofs.lemmas.List.Elements.{All-from_recursion, recursion_from_All}
use Rattle.std.proofs.lemmas.List.Concat.{flat_map-cons}
use Rattle.pj_names.specs.declared.answer.Answer.{Answer}
use Rattle.pj_cache.specs.declared.cache.Entry.{Entry}
use Rattle.pj_cache.specs.declared.cache.Cache.{Cache}
use Rattle.pj_cache_format.specs.FormatTwo.{keys_of}
use Rattle.pj_cache_format.specs.Fitting.{AllFit, FitsNamed}
use Rattle.pj_cache_format.specs.Texts.{number, string, counted, answer_text}
use Rattle.pj_cache_format.specs.TextTwo.{entry_text, cache_text}

pub three_put : (o first second third a b c : List ℕ) → first ≡ o ++ a → second ≡ first ++ b → third ≡ second ++ c → third ≡ o ++ (a ++ (b ++ c))
three_put o first second third a b c one two three =
    three ∙ ap (λ (l : List ℕ). l ++ c) (two ∙ ap (λ (l : List ℕ). l ++ b) one) ∙ append_assoc (o ++ a) b c ∙ append_assoc o a (b ++ c)

-- one more member of a list that is put, each behind the other and all behind a front

pub one_more_at : {A : Type 0} (f : A → List ℕ) (xs : List A) (i : ℕ) (d : A) (o front out new : List ℕ) → i < length xs → out ≡ o ++ (front ++ flat_map f (take i xs)) → new ≡ out ++ f (get_or xs i d) → new ≡ o ++ (front ++ flat_map f (take (i + 1) xs))
one_more_at {A} f xs i d o front out new lt so_far more =
    more ∙ ap (λ (l : List ℕ). l ++ f (get_or xs i d)) so_far ∙ append_assoc o (front ++ flat_map f (take i xs)) (f (get_or xs i d))
    ∙ ap (λ (l : List ℕ). o ++ l) (flat_map_more f front (take i xs) (get_or xs i d) ∙ ap (λ (t : List A). front ++ flat_map f t) (sym (take_more xs i d lt)))

pub one_more : {A : Type 0} (f : A → List ℕ) (xs : List A) (i : ℕ) (x : A) (o front out new : List ℕ) → i < length xs → x ≡ get_or xs i x → out ≡ o ++ (front ++ flat_map f (take i xs)) → new ≡ out ++ f x → new ≡ o ++ (front ++ flat_map f (take (i + 1) xs))
one_more {A} f xs i x o front out new lt is so_far more = one_more_at f xs i x o front out new lt so_far (more ∙ ap (λ (y : A). out ++ f y) is)

pub firsts : {A B C : Type 0} (f : A → B) (g : A → C) (l : List A) → map (λ (p : B × C). p.0) (map (λ (a : A). (f a, g a)) l) ≡ map f l
firsts f g [] = refl
firsts {A} {B} f g (x ∷ xs) = ap (λ (t : List B). f x ∷ t) (firsts f g xs)

flat_pairs : {A B : Type 0} (h : B → List ℕ) (g : A → B) (l : List A) → flat_map h (map g l) ≡ flat_map (λ (a : A). h (g a)) l
flat_pairs h g [] = refl
flat_pairs {A} h g (x ∷ xs) = flat_map-cons h (g x) (map g xs) ∙ ap (λ (t : List ℕ). h (g x) ++ t) (flat_pairs h g xs) ∙ sym (flat_map-cons (λ (a : A). h (g a)) x xs)

pub counted_pairs : {A B : Type 0} (h : B → List ℕ) (g : A → B) (l : List A) → counted h (map g l) ≡ counted (λ (a : A). h (g a)) l
counted_pairs h g l =
    let long : length (map g l) ≡ length l = length-map l g in
    let texts = flat_pairs h g l in
    λ i. number (long i) ++ texts i

pub cache_written : {A : Type 0} (f : A → List ℕ) (g : A → Answer) (c : Cache) (keys : List (List ℕ)) (pairs : List A) (es : List Entry) → keys ≡ keys_of es → map (λ (a : A). (f a, g a)) pairs ≡ c.answers → es ≡ c.entries
    → string (codes "java-17") ++ (counted string keys ++ (counted (λ (a : A). answer_text (f a, g a)) pairs ++ counted (entry_text keys (map f pairs)) es)) ≡ cache_text c
cache_written {A} f g c keys pairs es k a e =
    let pair : A → List ℕ × Answer = λ (x : A). (f x, g x) in
    let names : map f pairs ≡ map (λ (p : List ℕ × Answer). p.0) c.answers = sym (firsts f g pairs) ∙ ap (map (λ (p : List ℕ × Answer). p.0)) a in
    let texts : counted (λ (x : A). answer_text (f x, g x)) pairs ≡ counted answer_text c.answers = sym (counted_pairs answer_text pair pairs) ∙ ap (counted answer_text) a in
    let all_keys : keys ≡ keys_of c.entries = k ∙ ap keys_of e in
    λ i. string (codes "java-17") ++ (counted string (all_keys i) ++ (texts i ++ counted (entry_text (all_keys i) (names i)) (e i)))

-- names with their answers fit, however these are kept
named_each : {A : Type 0} (f : A → List ℕ) (g : A → Answer) (xs : List A) → AllByRecursion (λ (a : A). FitsNamed (f a, g a)) xs → AllByRecursion FitsNamed (map (λ (a : A). (f a, g a)) xs)
named_each f g [] h = tt
named_each f g (x ∷ xs) h = (h.0, named_each f g xs h.1)

pub named_fit : {A : Type 0} (f : A → List ℕ) (g : A → Answer) (pairs : List A) (list : List (List ℕ × Answer)) → map (λ (a : A). (f a, g a)) pairs ≡ list → AllFit (λ (a : A). FitsNamed (f a, g a)) pairs → AllFit FitsNamed list
named_fit {A} f g pairs list e h =
    let seen : List (List ℕ × Answer) = map (λ (a : A). (f a, g a)) pairs in
    let pair : A → List ℕ × Answer = λ (a : A). (f a, g a) in
    let room : length seen < 2 ^ 32 = omega (arith, length-map pairs pair, h.0) in
    let fits : AllFit FitsNamed seen = (room, All-from_recursion FitsNamed seen (named_each f g pairs (recursion_from_All (λ (a : A). FitsNamed (f a, g a)) pairs h.1))) in
    subst (λ (l : List (List ℕ × Answer)). AllFit FitsNamed l) e fits
