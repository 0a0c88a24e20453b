-- The bytes of keys by their parts.
use Rattle.std.proofs.Common.{◌≡◌, ℕ, zero, suc, ◌+◌, ◌<◌, Result, Ok, Err, List, [], ◌∷◌, ◌++◌, length, take, get_or, refl, sym, ap, ◌∙◌, append_assoc, arith}
use Rattle.std.specs.Prelude.{IfOk, flat_map}
use Rattle.std.specs.Fmt.{decimal}
use Rattle.std.proofs.lemmas.List.{append-nil, take_more, flat_map_more}
use Rattle.std.proofs.lemmas.List.Concat.{flat_map-append, flat_map-cons}
use Rattle.pj_rule_texts.specs.Values.{Text}
use Rattle.pj_rule_texts.specs.declared.properties.Property.{Property}
use Rattle.pj_rule_sets.specs.Rules.{EffectiveRule}
use Rattle.pj_rule_keys.specs.Keys.{property_texts, list_texts, rule_texts, spelled}

abbrev pub all_spelled : List Text → List ℕ
all_spelled texts = flat_map spelled texts

abbrev pub property_bytes : Property → List ℕ
property_bytes p = spelled p.name ++ (spelled p.kind ++ spelled p.value)

cons_bytes : (t : Text) (ts : List Text) → all_spelled (t ∷ ts) ≡ spelled t ++ all_spelled ts
cons_bytes t ts = flat_map-cons spelled t ts

property_is : (p : Property) → all_spelled (property_texts p) ≡ property_bytes p
property_is p =
    cons_bytes p.name (p.kind ∷ p.value ∷ [])
    ∙ ap (λ (l : List ℕ). spelled p.name ++ l) (cons_bytes p.kind (p.value ∷ []) ∙ ap (λ (l : List ℕ). spelled p.kind ++ l) (cons_bytes p.value [] ∙ append-nil (spelled p.value)))

-- texts of members, one member after the other
pub each_bytes : {A : Type 0} (texts : A → List Text) (bytes : A → List ℕ) → ((a : A) → all_spelled (texts a) ≡ bytes a) → (xs : List A) → all_spelled (flat_map texts xs) ≡ flat_map bytes xs
each_bytes texts bytes is [] = refl
each_bytes texts bytes is (a ∷ xs) =
    ap all_spelled (flat_map-cons texts a xs) ∙ flat_map-append spelled (texts a) (flat_map texts xs)
    ∙ (λ i. is a i ++ each_bytes texts bytes is xs i) ∙ sym (flat_map-cons bytes a xs)

lists_bytes : (a b c : List Text) → all_spelled (a ++ (b ++ c)) ≡ all_spelled a ++ (all_spelled b ++ all_spelled c)
lists_bytes a b c = flat_map-append spelled a (b ++ c) ∙ ap (λ (l : List ℕ). all_spelled a ++ l) (flat_map-append spelled b c)

-- a list behind the number of its members
abbrev pub text_list_bytes : List Text → List ℕ
text_list_bytes texts = spelled (decimal (length texts)) ++ all_spelled texts

abbrev pub property_list_bytes : List Property → List ℕ
property_list_bytes ps = spelled (decimal (length ps)) ++ flat_map property_bytes ps

list_bytes : (r : EffectiveRule) → all_spelled (list_texts r) ≡ property_list_bytes r.properties ++ (text_list_bytes r.exclude ++ text_list_bytes r.include)
list_bytes r =
    let properties = cons_bytes (decimal (length r.properties)) (flat_map property_texts r.properties) ∙ ap (λ (l : List ℕ). spelled (decimal (length r.properties)) ++ l) (each_bytes property_texts property_bytes property_is r.properties) in
    let exclude = cons_bytes (decimal (length r.exclude)) r.exclude in
    let include = cons_bytes (decimal (length r.include)) r.include in
    lists_bytes (decimal (length r.properties) ∷ flat_map property_texts r.properties) (decimal (length r.exclude) ∷ r.exclude) (decimal (length r.include) ∷ r.include)
    ∙ (λ i. properties i ++ (exclude i ++ include i))

five_apart : (a b c d e t : List ℕ) → (a ++ (b ++ c)) ++ ((d ++ e) ++ t) ≡ a ++ (b ++ (c ++ (d ++ (e ++ t))))
five_apart a b c d e t = simp append_assoc

front_bytes : (a b c d e : Text) (ts : List Text) → all_spelled (a ∷ b ∷ c ∷ d ∷ e ∷ ts) ≡ (spelled a ++ (spelled b ++ spelled c)) ++ ((spelled d ++ spelled e) ++ all_spelled ts)
front_bytes a b c d e ts =
    let from_d = cons_bytes d (e ∷ ts) ∙ ap (λ (l : List ℕ). spelled d ++ l) (cons_bytes e ts) in
    let from_c = cons_bytes c (d ∷ e ∷ ts) ∙ ap (λ (l : List ℕ). spelled c ++ l) from_d in
    let from_b = cons_bytes b (c ∷ d ∷ e ∷ ts) ∙ ap (λ (l : List ℕ). spelled b ++ l) from_c in
    let from_a = cons_bytes a (b ∷ c ∷ d ∷ e ∷ ts) ∙ ap (λ (l : List ℕ). spelled a ++ l) from_b in
    from_a ∙ sym (five_apart (spelled a) (spelled b) (spelled c) (spelled d) (spelled e) (all_spelled ts))

-- what is put of a rule, one part after the other
pub rule_bytes : (r : EffectiveRule) → (spelled r.row.name ++ (spelled r.row.rule_set ++ spelled r.row.message)) ++ ((spelled (decimal r.row.priority) ++ spelled r.xpath) ++ (property_list_bytes r.properties ++ (text_list_bytes r.exclude ++ text_list_bytes r.include))) ≡ all_spelled (rule_texts r)
rule_bytes r =
    sym (front_bytes r.row.name r.row.rule_set r.row.message (decimal r.row.priority) r.xpath (list_texts r)
    ∙ ap (λ (l : List ℕ). (spelled r.row.name ++ (spelled r.row.rule_set ++ spelled r.row.message)) ++ ((spelled (decimal r.row.priority) ++ spelled r.xpath) ++ l)) (list_bytes r))

abbrev pub top_bytes : EffectiveRule → List ℕ
top_bytes r = spelled (decimal r.top) ++ all_spelled (rule_texts r)

pub rules_bytes : (rules : List EffectiveRule) → flat_map top_bytes rules ≡ all_spelled (flat_map (λ (r : EffectiveRule). decimal r.top ∷ rule_texts r) rules)
rules_bytes rules = sym (each_bytes (λ (r : EffectiveRule). decimal r.top ∷ rule_texts r) top_bytes (λ r. cons_bytes (decimal r.top) (rule_texts r)) rules)

-- ---- parts that are put one behind the other

pub one_more : {A : Type 0} (f : A → List ℕ) (xs : List A) (i : ℕ) (x : A) (o out new : List ℕ) → i < length xs → x ≡ get_or xs i x → out ≡ o ++ flat_map f (take i xs) → new ≡ out ++ f x → new ≡ o ++ flat_map f (take (i + 1) xs)
one_more {A} f xs i x o out new lt is so_far more =
    more ∙ ap (λ (y : A). out ++ f y) is ∙ ap (λ (l : List ℕ). l ++ f (get_or xs i x)) so_far ∙ append_assoc o (flat_map f (take i xs)) (f (get_or xs i x))
    ∙ ap (λ (l : List ℕ). o ++ l) (flat_map_more f [] (take i xs) (get_or xs i x) ∙ ap (flat_map f) (sym (take_more xs i x lt)))

five_are : (o a b c d e : List ℕ) → ((((o ++ a) ++ b) ++ c) ++ d) ++ e ≡ o ++ (a ++ (b ++ (c ++ (d ++ e))))
five_are o a b c d e = simp append_assoc

pub five_put : (o p q r s t a b c d e : List ℕ) → p ≡ o ++ a → q ≡ p ++ b → r ≡ q ++ c → s ≡ r ++ d → t ≡ s ++ e → t ≡ o ++ (a ++ (b ++ (c ++ (d ++ e))))
five_put o p q r s t a b c d e one two three four five =
    five ∙ ap (λ (l : List ℕ). l ++ e) (four ∙ ap (λ (l : List ℕ). l ++ d) (three ∙ ap (λ (l : List ℕ). l ++ c) (two ∙ ap (λ (l : List ℕ). l ++ b) one))) ∙ five_are o a b c d e

pub two_put : (o p q a b : List ℕ) → p ≡ o ++ a → q ≡ p ++ b → q ≡ o ++ (a ++ b)
two_put o p q a b one two = two ∙ ap (λ (l : List ℕ). l ++ b) one ∙ append_assoc o a b

pub three_put : (o p q r a b c : List ℕ) → p ≡ o ++ a → q ≡ p ++ b → r ≡ q ++ c → r ≡ o ++ (a ++ (b ++ c))
three_put o p q r a b c one two three = three ∙ ap (λ (l : List ℕ). l ++ c) (two_put o p q a b one two) ∙ append_assoc o (a ++ b) c ∙ ap (λ (l : List ℕ). o ++ l) (append_assoc a b c)

pub pair_bytes : (a b : Text) (ts : List Text) → spelled a ++ (spelled b ++ all_spelled ts) ≡ all_spelled (a ∷ b ∷ ts)
pair_bytes a b ts = sym (cons_bytes a (b ∷ ts) ∙ ap (λ (l : List ℕ). spelled a ++ l) (cons_bytes b ts))

-- ---- the rule of a number

pub at_any : {A : Type 0} (xs : List A) (i : ℕ) (d e : A) → i < length xs → get_or xs i d ≡ get_or xs i e
at_any [] i d e lt = absurd (omega (arith, lt))
at_any (x ∷ xs) zero d e lt = refl
at_any (x ∷ xs) (suc i) d e lt = at_any xs i d e (omega (arith, lt))

pub ok_as : {A E : Type 0} (P Q : A → Type 0) → ((x : A) → P x → Q x) → (r : Result A E) → IfOk r P → IfOk r Q
ok_as P Q then (Ok x) h = then x h
ok_as P Q then (Err e) h = tt
