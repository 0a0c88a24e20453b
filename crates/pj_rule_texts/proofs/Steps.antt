-- Small steps: texts and lists, one member further.
use Rattle.std.proofs.Common.{◌≢◌, ◌≤◌, true≢false, ne_eqb, ◌≡◌, ℕ, suc, ◌+◌, ◌<◌, Bool, true, false, cond, eqb, List, [], ◌∷◌, ◌++◌, length, drop, take, get_or, map, Option, Some, None, refl, sym, ap, ◌∙◌, arith, append-nil, append_assoc}
use Rattle.std.specs.List.{cons_option, filter_map, onto_first, slice_split}
use Rattle.std.specs.Option.{option_map}
use Rattle.std.specs.Map.{lookup}
use Rattle.std.specs.Cmp.Lexicographic.{pointwise}
use Rattle.std.proofs.Common.{nat_eq}
use Rattle.indexmap.specs.IndexMap.{insert_entry}
use Rattle.pj_rule_texts.specs.Rules.{kind_of, put_properties, put_property}
use Rattle.std.proofs.Common.{ℤ}
use Rattle.std.proofs.lemmas.List.{at_drop_more, drop_all, map-append, take_more}
use Rattle.pj_markup.specs.Elements.{row_at}
use Rattle.pj_markup.specs.declared.element.Element.{Element}
use Rattle.pj_markup.specs.declared.element.Row.{Row}
use Rattle.pj_xvalue.specs.Items.{ItemValue, Integer}
use Rattle.pj_rule_texts.specs.Values.{integer_of, integers_of, is_comma, members_of, with_integer}
use Rattle.pj_rule_texts.specs.Written.{first_text, is_named}
use Rattle.pj_rule_texts.specs.Tables.{properties_of, property_of}
use Rattle.pj_rule_texts.specs.declared.properties.Property.{Property}

-- one member more
behind : {B : Type 0} (o : Option B) (more rest : List B) → cons_option o more ++ rest ≡ cons_option o (more ++ rest)
behind None more rest = refl
behind (Some y) more rest = refl

pub filter_map-append : {A B : Type 0} (f : A → Option B) (xs : List A) (x : A) → filter_map f xs ++ cons_option (f x) [] ≡ filter_map f (xs ++ x ∷ [])
filter_map-append f [] x = refl
filter_map-append f (y ∷ ys) x = behind (f y) (filter_map f ys) (cons_option (f x) []) ∙ ap (cons_option (f y)) (filter_map-append f ys x)

pub filter_map-turn : {B : Type 0} (f : Row → Option B) (rows : List Row) (elements : List Element) (i : ℕ) (d : Element) (made new : List B) →
    made ≡ filter_map f (map (λ x. row_at rows x.number) (take i elements)) → new ≡ made ++ cons_option (f (row_at rows (get_or elements i d).number)) [] →
    i < length elements → new ≡ filter_map f (map (λ x. row_at rows x.number) (take (i + 1) elements))
filter_map-turn f rows elements i d made new was pushed lt =
    let row = λ (x : Element). row_at rows x.number in
    let e = get_or elements i d in
    pushed ∙ ap (λ m. m ++ cons_option (f (row e)) []) was ∙ filter_map-append f (map row (take i elements)) (row e)
    ∙ ap (filter_map f) (sym (map-append row (take i elements) (e ∷ []))) ∙ ap (λ xs. filter_map f (map row xs)) (sym (take_more elements i d lt))

pub put_properties-push : (before properties : List Property) (p : Property) → put_property (put_properties before properties) p ≡ put_properties before (properties ++ p ∷ [])
put_properties-push before [] p = refl
put_properties-push before (q ∷ properties) p = put_properties-push (put_property before q) properties p

pub put_properties-turn : (properties : List Property) (i : ℕ) (p : Property) (table new : List Property) → table ≡ put_properties [] (take i properties) →
    new ≡ put_property table p → i < length properties → p ≡ get_or properties i p → new ≡ put_properties [] (take (i + 1) properties)
put_properties-turn properties i p table new was put lt is =
    put ∙ ap (λ t. put_property t p) was ∙ put_properties-push [] (take i properties) p
    ∙ ap (put_properties []) (ap (λ x. take i properties ++ x ∷ []) is ∙ sym (take_more properties i p lt))

-- the entries of a map, as properties

cond_map : {A B : Type 0} (f : A → B) (b : Bool) (x : A) (y : Option A) (z : Option B) → z ≡ option_map f y → cond b (Some (f x)) z ≡ option_map f (cond b (Some x) y)
cond_map f true x y z e = refl
cond_map f false x y z e = e

pub kind_of-lookup : (name : List ℕ) (es : List (List ℕ × (List ℕ × List ℕ))) → kind_of (properties_of es) name ≡ option_map (λ v. v.0) (lookup (pointwise nat_eq name) es)
kind_of-lookup name [] = refl
kind_of-lookup name (e ∷ es) = cond_map (λ v. v.0) (pointwise nat_eq name e.0) e.1 (lookup (pointwise nat_eq name) es) (kind_of (properties_of es) name) (kind_of-lookup name es)

cond_put : {A B : Type 0} (f : A → B) (b : Bool) (x : A) (xs ys : List A) (zs : List B) → map f ys ≡ zs → (e : A) →
    map f (cond b (x ∷ xs) (e ∷ ys)) ≡ cond b (f x ∷ map f xs) (f e ∷ zs)
cond_put f true x xs ys zs h e = refl
cond_put f false x xs ys zs h e = ap (λ t. f e ∷ t) h

pub put-insert : (name kind value : List ℕ) (es : List (List ℕ × (List ℕ × List ℕ))) →
    properties_of (insert_entry (pointwise nat_eq) es name (kind, value)) ≡ put_property (properties_of es) (record { name = name; kind = kind; value = value })
put-insert name kind value [] = refl
put-insert name kind value (e ∷ es) = cond_put property_of (pointwise nat_eq name e.0) (e.0, (kind, value)) es
    (insert_entry (pointwise nat_eq) es name (kind, value)) _ (put-insert name kind value es) e

-- ---- integers

abbrev pub integers_behind : List ItemValue → List (List ℕ) → Option (List ItemValue)
integers_behind done members = option_map (λ rest. done ++ rest) (integers_of members)

regroup : (done : List ItemValue) (z : ItemValue) (o : Option (List ItemValue)) →
    option_map (λ rest. done ++ rest) (option_map (λ rest. z ∷ rest) o) ≡ option_map (λ rest. (done ++ z ∷ []) ++ rest) o
regroup done z None = refl
regroup done z (Some rest) = ap Some (sym (append_assoc done (z ∷ []) rest))

pub integers_all : (members : List (List ℕ)) → integers_behind [] members ≡ integers_of members
integers_all members = same (integers_of members)
  where
    same : (o : Option (List ItemValue)) → option_map (λ rest. rest) o ≡ o
    same None = refl
    same (Some rest) = refl

pub integers_end : (done : List ItemValue) → integers_behind done [] ≡ Some done
integers_end done = ap Some (append-nil done)

pub integers_past : (done : List ItemValue) (members : List (List ℕ)) (i : ℕ) → length members ≤ i → integers_behind done (drop i members) ≡ Some done
integers_past done members i past = ap (integers_behind done) (drop_all i members past) ∙ integers_end done

at_member : (done : List ItemValue) (members : List (List ℕ)) (i : ℕ) (m : List ℕ) → i < length members → m ≡ get_or members i m →
    integers_behind done (drop i members) ≡ integers_behind done (m ∷ drop (i + 1) members)
at_member done members i m lt is = at_drop_more (integers_behind done) members i m lt ∙ ap (λ x. integers_behind done (x ∷ drop (i + 1) members)) (sym is)

pub integers_more : (done : List ItemValue) (members : List (List ℕ)) (i : ℕ) (m : List ℕ) (z : ℤ) → i < length members → m ≡ get_or members i m → integer_of 31 m ≡ Some z →
    integers_behind done (drop i members) ≡ integers_behind (done ++ Integer z ∷ []) (drop (i + 1) members)
integers_more done members i m z lt is e = at_member done members i m lt is
    ∙ ap (λ o. option_map (λ rest. done ++ rest) (with_integer o (integers_of (drop (i + 1) members)))) e
    ∙ regroup done (Integer z) (integers_of (drop (i + 1) members))

pub integers_none : (done : List ItemValue) (members : List (List ℕ)) (i : ℕ) (m : List ℕ) → i < length members → m ≡ get_or members i m → integer_of 31 m ≡ None →
    integers_behind done (drop i members) ≡ None
integers_none done members i m lt is e = at_member done members i m lt is
    ∙ ap (λ o. option_map (λ rest. done ++ rest) (with_integer o (integers_of (drop (i + 1) members)))) e

-- ---- the first text of a name

first_text-here : (name : List ℕ) (e : Row) (rest : List Row) → is_named name e ≡ true → first_text name (e ∷ rest) ≡ Some e.text
first_text-here name e rest h = rw h refl

first_text-later : (name : List ℕ) (e : Row) (rest : List Row) → is_named name e ≡ false → first_text name (e ∷ rest) ≡ first_text name rest
first_text-later name e rest h = rw h refl

abbrev pub first_in : List Row → List ℕ → List Element → Option (List ℕ)
first_in rows name elements = first_text name (map (λ e. row_at rows e.number) elements)

pub first_here : (rows : List Row) (name : List ℕ) (elements : List Element) (i : ℕ) (e : Element) → i < length elements → e ≡ get_or elements i e →
    is_named name (row_at rows e.number) ≡ true → first_in rows name (drop i elements) ≡ Some (row_at rows e.number).text
first_here rows name elements i e lt is h = at_drop_more (first_in rows name) elements i e lt ∙ ap (λ x. first_in rows name (x ∷ drop (i + 1) elements)) (sym is)
    ∙ first_text-here name (row_at rows e.number) _ h

pub first_later : (rows : List Row) (name : List ℕ) (elements : List Element) (i : ℕ) (e : Element) → i < length elements → e ≡ get_or elements i e →
    is_named name (row_at rows e.number) ≡ false → first_in rows name (drop i elements) ≡ first_in rows name (drop (i + 1) elements)
first_later rows name elements i e lt is h = at_drop_more (first_in rows name) elements i e lt ∙ ap (λ x. first_in rows name (x ∷ drop (i + 1) elements)) (sym is)
    ∙ first_text-later name (row_at rows e.number) _ h

-- ---- members of lists

pub members-start : (text : List ℕ) → eqb (length text) 0 ≡ false → members_of text ≡ slice_split is_comma text
members-start [] h = absurd (true≢false h)
members-start (c ∷ cs) h = refl

pub split-none : (text : List ℕ) → ((i : ℕ) → i < length text → get_or text i 0 ≢ 44) → slice_split is_comma text ≡ text ∷ []
split-none [] none = refl
split-none (c ∷ cs) none = rw (ne_eqb c 44 (none 0 (omega arith))) (ap (onto_first c) (split-none cs (λ i h. none (suc i) (omega arith))))
