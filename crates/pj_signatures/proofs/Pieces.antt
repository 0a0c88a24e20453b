-- Names with solidi between, read from the left, and as names of classes.
use Rattle.std.proofs.Common.{◌≡◌, ◌++◌, ℕ, Bool, true, false, List, [], ◌∷◌, refl, sym, ◌∙◌, arith, append_assoc}
use Rattle.std.specs.Prelude.{◌&&◌, ◌==◌, not}
use Rattle.std.specs.List.{list_all}
use Rattle.std.proofs.lemmas.Bool.Decides.{nat_tests}
use Rattle.pj_names.specs.ClassName.{parts, is_name_byte, is_unqualified, is_class_name}
use Rattle.pj_signatures.specs.Names.{is_none_of, is_name, pieces, are_names, unqualified_signs, identifier_signs, is_identifier, is_path, is_internal_name, as_dot, dotted}

-- whether the pieces are good, the first of which has begun
abbrev pub after_begin : List ℕ → List (List ℕ) → Bool
after_begin signs [] = true
after_begin signs (piece ∷ rest) = list_all (is_none_of signs) piece && list_all (is_name signs) rest

-- what is left spells the rest of names, of which one has begun or not
abbrev pub names_from : List ℕ → Bool → List ℕ → Bool
names_from signs true bs = after_begin signs (pieces bs)
names_from signs false bs = are_names signs bs

-- whether parts are good, the first of which has begun
abbrev pub after_part : List (List ℕ) → Bool
after_part [] = true
after_part (part ∷ rest) = list_all is_name_byte part && list_all is_unqualified rest

-- what is left spells the rest of a class's name, whose part has begun or not
abbrev pub class_from : Bool → List ℕ → Bool
class_from true bs = after_part (parts bs)
class_from false bs = is_class_name bs

pub both_left : (a b : Bool) → (a && b) ≡ true → a ≡ true
both_left true b h = refl
both_left false b h = absurd cc

pub both_right : (a b : Bool) → (a && b) ≡ true → b ≡ true
both_right true b h = h
both_right false b h = absurd cc

pub both : (a b : Bool) → a ≡ true → b ≡ true → (a && b) ≡ true
both true b h k = k
both false b h k = absurd cc

and_assoc : (a b c : Bool) → ((a && b) && c) ≡ (a && (b && c))
and_assoc true b c = refl
and_assoc false b c = refl

pub piece_begins : (signs : List ℕ) (b : ℕ) (begun : Bool) (ps : List (List ℕ)) (bs : List ℕ) → pieces bs ≡ ps → (b == 47) ≡ false → names_from signs begun (b ∷ bs) ≡ (is_none_of signs b && names_from signs true bs)
piece_begins signs b true [] bs e is = rw (is, e) (and_assoc (is_none_of signs b) true true)
piece_begins signs b true (p ∷ ps) bs e is = rw (is, e) (and_assoc (is_none_of signs b) _ _)
piece_begins signs b false [] bs e is = rw (is, e) (and_assoc (is_none_of signs b) true true)
piece_begins signs b false (p ∷ ps) bs e is = rw (is, e) (and_assoc (is_none_of signs b) _ _)

part_begins : (b : ℕ) (begun : Bool) (ps : List (List ℕ)) (bs : List ℕ) → parts bs ≡ ps → (b == 46) ≡ false → class_from begun (b ∷ bs) ≡ (is_name_byte b && class_from true bs)
part_begins b true [] bs e is = rw (is, e) (and_assoc (is_name_byte b) true true)
part_begins b true (p ∷ ps) bs e is = rw (is, e) (and_assoc (is_name_byte b) _ _)
part_begins b false [] bs e is = rw (is, e) (and_assoc (is_name_byte b) true true)
part_begins b false (p ∷ ps) bs e is = rw (is, e) (and_assoc (is_name_byte b) _ _)

-- signs that leave none of the bytes that a class's name cannot have in a part
pub Leaves : List ℕ → Type 0
Leaves signs = (b : ℕ) → is_none_of signs b ≡ true → (is_name_byte b ≡ true) × ((b == 46) ≡ false)

-- names with solidi between are a class's name, once dots stand there
pub dotted_from : (signs : List ℕ) → Leaves signs → (text : List ℕ) (begun : Bool) → names_from signs begun text ≡ true → class_from begun (dotted text) ≡ true
unfolding Leaves
dotted_from signs leaves [] true h = refl
dotted_from signs leaves [] false h = absurd cc
dotted_from signs leaves (b ∷ bs) begun h = at (b == 47) refl (dotted_from signs leaves bs true) (dotted_from signs leaves bs false)
  where
    first : (begun : Bool) → (b == 47) ≡ true → names_from signs begun (b ∷ bs) ≡ true → (names_from signs false bs ≡ true → class_from false (dotted bs) ≡ true) → class_from begun (dotted (b ∷ bs)) ≡ true
    first true is k more = rw is (more (rw is at k))
    first false is k more = absurd (let no : false ≡ true = rw is at k in cc)

    at : (test : Bool) → (b == 47) ≡ test → (names_from signs true bs ≡ true → class_from true (dotted bs) ≡ true) → (names_from signs false bs ≡ true → class_from false (dotted bs) ≡ true) → class_from begun (dotted (b ∷ bs)) ≡ true
    at true is on off = first begun is h off
    at false is on off =
        let k : (is_none_of signs b && names_from signs true bs) ≡ true = sym (piece_begins signs b begun (pieces bs) bs refl is) ∙ h in
        let good = leaves b (both_left (is_none_of signs b) (names_from signs true bs) k) in
        let same : as_dot b ≡ b = rw is refl in
        rw same (part_begins b begun (parts (dotted bs)) (dotted bs) refl good.1 ∙ both (is_name_byte b) (class_from true (dotted bs)) good.0 (on (both_right (is_none_of signs b) (names_from signs true bs) k)))

-- what may be put at the end of a class's name
abbrev pub is_plain : ℕ → Bool
is_plain b = is_name_byte b && not (b == 46)

not_dot : (b : ℕ) → not (b == 46) ≡ true → (b == 46) ≡ false
not_dot b h = at (b == 46) h
  where
    at : (test : Bool) → not test ≡ true → test ≡ false
    at true k = absurd cc
    at false k = refl

plain_from : (more : List ℕ) → list_all is_plain more ≡ true → class_from true more ≡ true
plain_from [] k = refl
plain_from (b ∷ bs) k =
    let plain = both_left (is_plain b) (list_all is_plain bs) k in
    let rest = plain_from bs (both_right (is_plain b) (list_all is_plain bs) k) in
    part_begins b true (parts bs) bs refl (not_dot b (both_right (is_name_byte b) (not (b == 46)) plain))
    ∙ both (is_name_byte b) (class_from true bs) (both_left (is_name_byte b) (not (b == 46)) plain) rest

pub class_from_more : (name more : List ℕ) (begun : Bool) → class_from begun name ≡ true → list_all is_plain more ≡ true → class_from begun (name ++ more) ≡ true
class_from_more [] more true h k = plain_from more k
class_from_more [] more false h k = absurd cc
class_from_more (b ∷ bs) more begun h k = at (b == 46) refl (λ e. class_from_more bs more true e k) (λ e. class_from_more bs more false e k)
  where
    dot : (begun : Bool) → (b == 46) ≡ true → class_from begun (b ∷ bs) ≡ true → (class_from false bs ≡ true → class_from false (bs ++ more) ≡ true) → class_from begun (b ∷ (bs ++ more)) ≡ true
    dot true is e on = rw is (on (rw is at e))
    dot false is e on = absurd (let no : false ≡ true = rw is at e in cc)

    at : (test : Bool) → (b == 46) ≡ test → (class_from true bs ≡ true → class_from true (bs ++ more) ≡ true) → (class_from false bs ≡ true → class_from false (bs ++ more) ≡ true) → class_from begun (b ∷ (bs ++ more)) ≡ true
    at true is on off = dot begun is h off
    at false is on off =
        let e : (is_name_byte b && class_from true bs) ≡ true = sym (part_begins b begun (parts bs) bs refl is) ∙ h in
        part_begins b begun (parts (bs ++ more)) (bs ++ more) refl is
        ∙ both (is_name_byte b) (class_from true (bs ++ more)) (both_left (is_name_byte b) (class_from true bs) e) (on (both_right (is_name_byte b) (class_from true bs) e))

pub unqualified_leaves : Leaves unqualified_signs
unfolding Leaves
unqualified_leaves b h = (grind (arith, nat_tests), grind (arith, nat_tests))

pub identifier_leaves : Leaves identifier_signs
unfolding Leaves
identifier_leaves b h = (grind (arith, nat_tests), grind (arith, nat_tests))

pub path_is_class : (path : List ℕ) → is_path path ≡ true → is_class_name (dotted path) ≡ true
path_is_class path h = dotted_from identifier_signs identifier_leaves path false h

pub internal_is_class : (name : List ℕ) → is_internal_name name ≡ true → is_class_name (dotted name) ≡ true
internal_is_class name h = dotted_from unqualified_signs unqualified_leaves name false h

identifier_is_plain : (bs : List ℕ) → list_all (is_none_of identifier_signs) bs ≡ true → list_all is_plain bs ≡ true
unfolding Leaves
identifier_is_plain [] h = refl
identifier_is_plain (b ∷ bs) h =
    let good = identifier_leaves b (both_left (is_none_of identifier_signs b) (list_all (is_none_of identifier_signs) bs) h) in
    both (is_plain b) (list_all is_plain bs) (both (is_name_byte b) (not (b == 46)) good.0 (rw good.1 refl))
    (identifier_is_plain bs (both_right (is_none_of identifier_signs b) (list_all (is_none_of identifier_signs) bs) h))

pub identifier_all : (name : List ℕ) → is_identifier name ≡ true → list_all (is_none_of identifier_signs) name ≡ true
identifier_all [] h = absurd cc
identifier_all (b ∷ bs) h = h

pub member_is_class : (name with_dollar whole member : List ℕ) → with_dollar ≡ name ++ 36 ∷ [] → whole ≡ with_dollar ++ member → is_class_name name ≡ true → is_identifier member ≡ true → is_class_name whole ≡ true
member_is_class name with_dollar whole member e k h identifier =
    rw (k, e, append_assoc name (36 ∷ []) member) (class_from_more name (36 ∷ member) false h (identifier_is_plain member (identifier_all member identifier)))
