-- A key tells its texts, and these tell the rules.
use Rattle.std.proofs.Common.{◌≡◌, ℕ, ◌<◌, ◌^◌, List, [], ◌∷◌, ◌++◌, length, take, drop, refl, sym, ap, ◌∙◌, append_assoc, arith}
use Rattle.std.specs.Prelude.{flat_map, codes}
use Rattle.std.specs.List.{AllByRecursion}
use Rattle.std.specs.Int.{w32, to_be_bytes, from_be_bytes}
use Rattle.std.specs.Fmt.{decimal}
use Rattle.std.proofs.lemmas.Nat.{from_be_bytes-to_be_bytes_4}
use Rattle.std.proofs.lemmas.Fmt.{decimal_injective, length-decimal-le}
use Rattle.std.proofs.lemmas.List.{take_at, drop_at, length-append, append-nil}
use Rattle.std.proofs.lemmas.List.Elements.{recursion_from_All}
use Rattle.std.proofs.lemmas.List.Concat.{flat_map-cons}
use Rattle.pj_names.specs.declared.rule_row.RuleRow.{RuleRow}
use Rattle.pj_rule_texts.specs.Values.{Text}
use Rattle.pj_rule_texts.specs.declared.properties.Property.{Property}
use Rattle.pj_rule_sets.specs.Rules.{EffectiveRule}
use Rattle.pj_rule_keys.specs.Keys.{property_texts, list_texts, rule_texts, key_texts, list_key_texts, spelled, key_of, list_key_of, HasRoom, FitsProperty, FitsKey, FitsTopKey, FitListKey, IsSameRule}

-- ---- texts behind the numbers of their bytes

same_text : (a b : Text) (x y : List ℕ) → HasRoom a → HasRoom b → spelled a ++ x ≡ spelled b ++ y → (a ≡ b) × (x ≡ y)
same_text a b x y fa fb e =
    let na = to_be_bytes w32 (length a) in
    let nb = to_be_bytes w32 (length b) in
    let whole : na ++ (a ++ x) ≡ nb ++ (b ++ y) = sym (append_assoc na a x) ∙ e ∙ append_assoc nb b y in
    let front : na ≡ nb = sym (take_at na (a ++ x) 4 refl) ∙ ap (take 4) whole ∙ take_at nb (b ++ y) 4 refl in
    let behind : a ++ x ≡ b ++ y = sym (drop_at na (a ++ x) 4 refl) ∙ ap (drop 4) whole ∙ drop_at nb (b ++ y) 4 refl in
    let long : length a ≡ length b = sym (from_be_bytes-to_be_bytes_4 (length a) fa) ∙ ap (from_be_bytes w32) front ∙ from_be_bytes-to_be_bytes_4 (length b) fb in
    (sym (take_at a x (length b) long) ∙ ap (take (length b)) behind ∙ take_at b y (length b) refl, sym (drop_at a x (length b) long) ∙ ap (drop (length b)) behind ∙ drop_at b y (length b) refl)

none_spelled : (b : Text) (y : List ℕ) → [] ≡ spelled b ++ y → ⊥
none_spelled b y e =
    let long : 0 ≡ length (spelled b ++ y) = ap length e in
    omega (arith, long, length-append (spelled b) y, length-append (to_be_bytes w32 (length b)) b)

same_texts : (xs ys : List Text) → AllByRecursion HasRoom xs → AllByRecursion HasRoom ys → flat_map spelled xs ≡ flat_map spelled ys → xs ≡ ys
same_texts [] [] fx fy e = refl
same_texts [] (y ∷ ys) fx fy e = absurd (none_spelled y (flat_map spelled ys) (e ∙ flat_map-cons spelled y ys))
same_texts (x ∷ xs) [] fx fy e = absurd (none_spelled x (flat_map spelled xs) (sym e ∙ flat_map-cons spelled x xs))
same_texts (x ∷ xs) (y ∷ ys) fx fy e =
    let both = same_text x y (flat_map spelled xs) (flat_map spelled ys) fx.0 fy.0 (sym (flat_map-cons spelled x xs) ∙ e ∙ flat_map-cons spelled y ys) in
    let rest = same_texts xs ys fx.1 fy.1 both.1 in
    λ i. both.0 i ∷ rest i

-- ---- members of lists, with what stands behind them

two : (a b : Text) (x y : List Text) → a ∷ x ≡ b ∷ y → (a ≡ b) × (x ≡ y)
two a b x y e = (cc, cc)

list_one : (xs ys x y : List Text) → length xs ≡ length ys → xs ++ x ≡ ys ++ y → (xs ≡ ys) × (x ≡ y)
list_one xs ys x y long e =
    (sym (take_at xs x (length ys) long) ∙ ap (take (length ys)) e ∙ take_at ys y (length ys) refl, sym (drop_at xs x (length ys) long) ∙ ap (drop (length ys)) e ∙ drop_at ys y (length ys) refl)

property_one : (p q : Property) → p.name ≡ q.name → p.kind ≡ q.kind → p.value ≡ q.value → p ≡ q
property_one p q n k v = λ i. record { name = n i; kind = k i; value = v i }

-- one member of a list by its texts
cons_apart : {A : Type 0} (f : A → List Text) (a : A) (xs : List A) (x : List Text) → flat_map f (a ∷ xs) ++ x ≡ f a ++ (flat_map f xs ++ x)
cons_apart f a xs x = ap (λ (l : List Text). l ++ x) (flat_map-cons f a xs) ∙ append_assoc (f a) (flat_map f xs) x

properties_one : (ps qs : List Property) (x y : List Text) → length ps ≡ length qs → flat_map property_texts ps ++ x ≡ flat_map property_texts qs ++ y → (ps ≡ qs) × (x ≡ y)
properties_one [] [] x y long e = (refl, e)
properties_one [] (q ∷ qs) x y long e = absurd (omega (arith, long))
properties_one (p ∷ ps) [] x y long e = absurd (omega (arith, long))
properties_one (p ∷ ps) (q ∷ qs) x y long e =
    let left : List Text = flat_map property_texts ps ++ x in
    let right : List Text = flat_map property_texts qs ++ y in
    let one : property_texts p ++ left ≡ property_texts q ++ right = sym (cons_apart property_texts p ps x) ∙ e ∙ cons_apart property_texts q qs y in
    let names = two p.name q.name (p.kind ∷ p.value ∷ left) (q.kind ∷ q.value ∷ right) one in
    let kinds = two p.kind q.kind (p.value ∷ left) (q.value ∷ right) names.1 in
    let values = two p.value q.value left right kinds.1 in
    let rest = properties_one ps qs x y (omega (arith, long)) values.1 in
    let first = property_one p q names.0 kinds.0 values.0 in
    (λ i. first i ∷ rest.0 i, rest.1)

-- ---- the texts of keys have room

number_room : (n : ℕ) → n < 2 ^ 64 → HasRoom (decimal n)
number_room n small = omega (arith, length-decimal-le 20 n (omega arith) (omega (arith, small)) small)

both_room : (xs ys : List Text) → AllByRecursion HasRoom xs → AllByRecursion HasRoom ys → AllByRecursion HasRoom (xs ++ ys)
both_room [] ys fx fy = fy
both_room (x ∷ xs) ys fx fy = (fx.0, both_room xs ys fx.1 fy)

properties_room : (ps : List Property) → AllByRecursion FitsProperty ps → AllByRecursion HasRoom (flat_map property_texts ps)
properties_room [] f = tt
properties_room (p ∷ ps) f = (f.0.0, (f.0.1, (f.0.2, properties_room ps f.1)))

rule_room : (r : EffectiveRule) → FitsKey r → AllByRecursion HasRoom (rule_texts r)
rule_room r f =
    let properties : List Text = flat_map property_texts r.properties in
    let includes : AllByRecursion HasRoom (decimal (length r.include) ∷ r.include) = (number_room (length r.include) f.include_count, recursion_from_All HasRoom r.include f.include) in
    let excludes : AllByRecursion HasRoom (decimal (length r.exclude) ∷ r.exclude) = (number_room (length r.exclude) f.exclude_count, recursion_from_All HasRoom r.exclude f.exclude) in
    let firsts : AllByRecursion HasRoom (decimal (length r.properties) ∷ properties) = (number_room (length r.properties) f.property_count, properties_room r.properties (recursion_from_All FitsProperty r.properties f.properties)) in
    let patterns = both_room (decimal (length r.exclude) ∷ r.exclude) (decimal (length r.include) ∷ r.include) excludes includes in
    let lists = both_room (decimal (length r.properties) ∷ properties) ((decimal (length r.exclude) ∷ r.exclude) ++ (decimal (length r.include) ∷ r.include)) firsts patterns in
    (f.name, (f.rule_set, (f.message, (number_room r.row.priority f.priority, (f.xpath, lists)))))

key_room : (marker : Text) (r : EffectiveRule) → HasRoom marker → FitsKey r → AllByRecursion HasRoom (key_texts marker r)
key_room marker r m f =
    let language : HasRoom (codes "java-17") = omega arith in
    (language, (m, rule_room r f))

abbrev top_texts : EffectiveRule → List Text
top_texts r = decimal r.top ∷ rule_texts r

rules_room : (rules : List EffectiveRule) → AllByRecursion FitsTopKey rules → AllByRecursion HasRoom (flat_map top_texts rules)
rules_room [] f = tt
rules_room (r ∷ rs) f = both_room (top_texts r) (flat_map top_texts rs) (number_room r.top f.0.0, rule_room r f.0.1) (rules_room rs f.1)

list_key_room : (marker : Text) (rules : List EffectiveRule) → HasRoom marker → FitListKey rules → AllByRecursion HasRoom (list_key_texts marker rules)
list_key_room marker rules m f = (m, (number_room (length rules) f.0, rules_room rules (recursion_from_All FitsTopKey rules f.1)))

-- ---- one rule by its texts, with what stands behind them

row_one : (a b : RuleRow) → a.name ≡ b.name → a.rule_set ≡ b.rule_set → a.message ≡ b.message → a.priority ≡ b.priority → a ≡ b
row_one a b n s m p = λ i. record { name = n i; message = m i; priority = p i; rule_set = s i }

lists_apart : (n k j : Text) (ps ex inc x : List Text) → ((n ∷ ps) ++ ((k ∷ ex) ++ (j ∷ inc))) ++ x ≡ n ∷ (ps ++ (k ∷ (ex ++ (j ∷ (inc ++ x)))))
lists_apart n k j ps ex inc x = append_assoc (n ∷ ps) ((k ∷ ex) ++ (j ∷ inc)) x ∙ ap (λ (l : List Text). n ∷ (ps ++ l)) (append_assoc (k ∷ ex) (j ∷ inc) x)

record SameLists (first second : EffectiveRule) (x y : List Text) : Type 0 where
  properties : first.properties ≡ second.properties
  exclude : first.exclude ≡ second.exclude
  include : first.include ≡ second.include
  rest : x ≡ y

lists_one : (a b : EffectiveRule) (x y : List Text) → FitsKey a → FitsKey b → list_texts a ++ x ≡ list_texts b ++ y → SameLists a b x y
lists_one a b x y f g e =
    let apart_a = lists_apart (decimal (length a.properties)) (decimal (length a.exclude)) (decimal (length a.include)) (flat_map property_texts a.properties) a.exclude a.include x in
    let apart_b = lists_apart (decimal (length b.properties)) (decimal (length b.exclude)) (decimal (length b.include)) (flat_map property_texts b.properties) b.exclude b.include y in
    let includes_a : List Text = decimal (length a.include) ∷ (a.include ++ x) in
    let includes_b : List Text = decimal (length b.include) ∷ (b.include ++ y) in
    let excludes_a : List Text = decimal (length a.exclude) ∷ (a.exclude ++ includes_a) in
    let excludes_b : List Text = decimal (length b.exclude) ∷ (b.exclude ++ includes_b) in
    let counts = two (decimal (length a.properties)) (decimal (length b.properties)) (flat_map property_texts a.properties ++ excludes_a) (flat_map property_texts b.properties ++ excludes_b) (sym apart_a ∙ e ∙ apart_b) in
    let properties = properties_one a.properties b.properties excludes_a excludes_b (decimal_injective (length a.properties) (length b.properties) f.property_count g.property_count counts.0) counts.1 in
    let next = two (decimal (length a.exclude)) (decimal (length b.exclude)) (a.exclude ++ includes_a) (b.exclude ++ includes_b) properties.1 in
    let exclude = list_one a.exclude b.exclude includes_a includes_b (decimal_injective (length a.exclude) (length b.exclude) f.exclude_count g.exclude_count next.0) next.1 in
    let last = two (decimal (length a.include)) (decimal (length b.include)) (a.include ++ x) (b.include ++ y) exclude.1 in
    let include = list_one a.include b.include x y (decimal_injective (length a.include) (length b.include) f.include_count g.include_count last.0) last.1 in
    record { properties = properties.0; exclude = exclude.0; include = include.0; rest = include.1 }

record SameTexts (first second : EffectiveRule) (x y : List Text) : Type 0 where
  same : IsSameRule first second
  rest : x ≡ y

rule_one : (a b : EffectiveRule) (x y : List Text) → FitsKey a → FitsKey b → rule_texts a ++ x ≡ rule_texts b ++ y → SameTexts a b x y
rule_one a b x y f g e =
    let lists_a : List Text = list_texts a ++ x in
    let lists_b : List Text = list_texts b ++ y in
    let name = two a.row.name b.row.name (a.row.rule_set ∷ a.row.message ∷ decimal a.row.priority ∷ a.xpath ∷ lists_a) (b.row.rule_set ∷ b.row.message ∷ decimal b.row.priority ∷ b.xpath ∷ lists_b) e in
    let rule_set = two a.row.rule_set b.row.rule_set (a.row.message ∷ decimal a.row.priority ∷ a.xpath ∷ lists_a) (b.row.message ∷ decimal b.row.priority ∷ b.xpath ∷ lists_b) name.1 in
    let message = two a.row.message b.row.message (decimal a.row.priority ∷ a.xpath ∷ lists_a) (decimal b.row.priority ∷ b.xpath ∷ lists_b) rule_set.1 in
    let priority = two (decimal a.row.priority) (decimal b.row.priority) (a.xpath ∷ lists_a) (b.xpath ∷ lists_b) message.1 in
    let xpath = two a.xpath b.xpath lists_a lists_b priority.1 in
    let lists = lists_one a b x y f g xpath.1 in
    record {
      same = record {
        row = row_one a.row b.row name.0 rule_set.0 message.0 (decimal_injective a.row.priority b.row.priority f.priority g.priority priority.0);
        xpath = xpath.0;
        properties = lists.properties;
        exclude = lists.exclude;
        include = lists.include;
      };
      rest = lists.rest;
    }

-- ---- the laws

pub keys_tell : (marker other : Text) (first second : EffectiveRule) → HasRoom marker → HasRoom other → FitsKey first → FitsKey second → key_of marker first ≡ key_of other second → (marker ≡ other) × IsSameRule first second
keys_tell marker other first second m n f g e =
    let all : key_texts marker first ≡ key_texts other second = same_texts (key_texts marker first) (key_texts other second) (key_room marker first m f) (key_room other second n g) e in
    let language = two (codes "java-17") (codes "java-17") (marker ∷ rule_texts first) (other ∷ rule_texts second) all in
    let markers = two marker other (rule_texts first) (rule_texts second) language.1 in
    let rules = rule_one first second [] [] f g (append-nil (rule_texts first) ∙ markers.1 ∙ sym (append-nil (rule_texts second))) in
    (markers.0, rules.same)

whole_rule : (a b : EffectiveRule) → a.top ≡ b.top → IsSameRule a b → a ≡ b
whole_rule a b t s = λ i. record { top = t i; row = s.row i; xpath = s.xpath i; properties = s.properties i; exclude = s.exclude i; include = s.include i }

rules_one : (xs bs : List EffectiveRule) → AllByRecursion FitsTopKey xs → AllByRecursion FitsTopKey bs → length xs ≡ length bs → flat_map top_texts xs ++ [] ≡ flat_map top_texts bs ++ [] → xs ≡ bs
rules_one [] [] f g long e = refl
rules_one [] (b ∷ bs) f g long e = absurd (omega (arith, long))
rules_one (a ∷ xs) [] f g long e = absurd (omega (arith, long))
rules_one (a ∷ xs) (b ∷ bs) f g long e =
    let rest_a : List Text = flat_map top_texts xs ++ [] in
    let rest_b : List Text = flat_map top_texts bs ++ [] in
    let one : top_texts a ++ rest_a ≡ top_texts b ++ rest_b = sym (cons_apart top_texts a xs []) ∙ e ∙ cons_apart top_texts b bs [] in
    let tops = two (decimal a.top) (decimal b.top) (rule_texts a ++ rest_a) (rule_texts b ++ rest_b) one in
    let rule = rule_one a b rest_a rest_b f.0.1 g.0.1 tops.1 in
    let others = rules_one xs bs f.1 g.1 (omega (arith, long)) rule.rest in
    let first = whole_rule a b (decimal_injective a.top b.top f.0.0 g.0.0 tops.0) rule.same in
    λ i. first i ∷ others i

pub list_keys_tell : (marker other : Text) (rules others : List EffectiveRule) → HasRoom marker → HasRoom other → FitListKey rules → FitListKey others → list_key_of marker rules ≡ list_key_of other others → (marker ≡ other) × (rules ≡ others)
list_keys_tell marker other rules others m n f g e =
    let all : list_key_texts marker rules ≡ list_key_texts other others = same_texts (list_key_texts marker rules) (list_key_texts other others) (list_key_room marker rules m f) (list_key_room other others n g) e in
    let markers = two marker other (decimal (length rules) ∷ flat_map top_texts rules) (decimal (length others) ∷ flat_map top_texts others) all in
    let counts = two (decimal (length rules)) (decimal (length others)) (flat_map top_texts rules) (flat_map top_texts others) markers.1 in
    let long = decimal_injective (length rules) (length others) f.0 g.0 counts.0 in
    (markers.0, rules_one rules others (recursion_from_All FitsTopKey rules f.1) (recursion_from_All FitsTopKey others g.1) long (append-nil (flat_map top_texts rules) ∙ counts.1 ∙ sym (append-nil (flat_map top_texts others))))
