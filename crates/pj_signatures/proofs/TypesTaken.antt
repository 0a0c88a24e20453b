-- What is read as a type is spelled by a good signature.
use Rattle.std.proofs.Common.{◌≡◌, ◌++◌, ℕ, zero, suc, inl, inr, Bool, true, false, List, [], ◌∷◌, length, ap, refl, sym, ◌∙◌, subst}
use Rattle.std.specs.Prelude.{◌&&◌, ◌==◌, Option, Some, None, nat_lt, nat_le, cond}
use Rattle.std.specs.List.{list_all}
use Rattle.std.proofs.lemmas.Bool.{eqb-true}
use Rattle.pj_names.specs.declared.ty.PrimitiveType.{PrimitiveType}
use Rattle.pj_names.specs.declared.ty.PrimitiveType.TheVariants.{Boolean, Byte, Short, Int, Long, Char, Float, Double}
use Rattle.pj_signatures.specs.Names.{is_identifier, is_path}
use Rattle.pj_signatures.specs.Signature.{TypeSignature, BaseType, ClassType, TypeVariable, ArrayType, NoArguments, TypeArgument, Anything, Exactly, Extends, Super, letter, count, is_reference, spelled, spelled_arguments, spelled_argument, spelled_suffixes, spelled_each, fits, arguments_fit, further_fit, argument_fits, suffixes_fit}
use Rattle.pj_signatures.specs.Types.{Making, made, made_arguments, made_argument, made_suffixes}
use Rattle.pj_signatures.specs.Reading.{behind, begins, next, one, many, put, not_at, begins_reference, reference_by, primitive_of, primitive_at, with_rest, identifier_at, path_at, may_open, argument_at, listed_at, arguments_at, suffix_at, extended, class_at, variable_at, inside, type_at}
use Rattle.pj_signatures.proofs.Pieces.{both}
use Rattle.pj_signatures.proofs.Spellings.{pair_from, next_from, behind_from, expect_from, identifier_taken, path_taken}
use Rattle.pj_signatures.proofs.Repeated.{put_each, IsTaken, many_takes}
use Rattle.pj_signatures.proofs.TypesAgain.{from_list, from_parts, spelled_part, part_fits, further_is_from, fits_from, parts_are_from, parts_fit_from, reference_from, at_most_255, made_count, arguments_are_from, parts_made_from, made_part, Chosen, chosen}

-- the letter of a primitive type
letter_from : (b : ℕ) (prim : PrimitiveType) → primitive_of b ≡ Some prim → b ≡ letter prim
letter_from b prim e = at (b == 66) refl e
  where
    last : (test : Bool) → (b == 90) ≡ test → cond test (Some Boolean) None ≡ Some prim → b ≡ letter prim
    last true is k = let same : b ≡ 90 = eqb-true b 90 is in let p : Boolean ≡ prim = cc in rw (← p) same
    last false is k = absurd cc

    short : (test : Bool) → (b == 83) ≡ test → cond test (Some Short) (cond (b == 90) (Some Boolean) None) ≡ Some prim → b ≡ letter prim
    short true is k = let same : b ≡ 83 = eqb-true b 83 is in let p : Short ≡ prim = cc in rw (← p) same
    short false is k = last (b == 90) refl k

    long : (test : Bool) → (b == 74) ≡ test → cond test (Some Long) (cond (b == 83) (Some Short) (cond (b == 90) (Some Boolean) None)) ≡ Some prim → b ≡ letter prim
    long true is k = let same : b ≡ 74 = eqb-true b 74 is in let p : Long ≡ prim = cc in rw (← p) same
    long false is k = short (b == 83) refl k

    int : (test : Bool) → (b == 73) ≡ test → cond test (Some Int) (cond (b == 74) (Some Long) (cond (b == 83) (Some Short) (cond (b == 90) (Some Boolean) None))) ≡ Some prim → b ≡ letter prim
    int true is k = let same : b ≡ 73 = eqb-true b 73 is in let p : Int ≡ prim = cc in rw (← p) same
    int false is k = long (b == 74) refl k

    float : (test : Bool) → (b == 70) ≡ test → cond test (Some Float) (cond (b == 73) (Some Int) (cond (b == 74) (Some Long) (cond (b == 83) (Some Short) (cond (b == 90) (Some Boolean) None)))) ≡ Some prim → b ≡ letter prim
    float true is k = let same : b ≡ 70 = eqb-true b 70 is in let p : Float ≡ prim = cc in rw (← p) same
    float false is k = int (b == 73) refl k

    double : (test : Bool) → (b == 68) ≡ test → cond test (Some Double) (cond (b == 70) (Some Float) (cond (b == 73) (Some Int) (cond (b == 74) (Some Long) (cond (b == 83) (Some Short) (cond (b == 90) (Some Boolean) None))))) ≡ Some prim → b ≡ letter prim
    double true is k = let same : b ≡ 68 = eqb-true b 68 is in let p : Double ≡ prim = cc in rw (← p) same
    double false is k = float (b == 70) refl k

    char : (test : Bool) → (b == 67) ≡ test → cond test (Some Char) (cond (b == 68) (Some Double) (cond (b == 70) (Some Float) (cond (b == 73) (Some Int) (cond (b == 74) (Some Long) (cond (b == 83) (Some Short) (cond (b == 90) (Some Boolean) None)))))) ≡ Some prim → b ≡ letter prim
    char true is k = let same : b ≡ 67 = eqb-true b 67 is in let p : Char ≡ prim = cc in rw (← p) same
    char false is k = double (b == 68) refl k

    at : (test : Bool) → (b == 66) ≡ test → cond test (Some Byte) (cond (b == 67) (Some Char) (cond (b == 68) (Some Double) (cond (b == 70) (Some Float) (cond (b == 73) (Some Int) (cond (b == 74) (Some Long) (cond (b == 83) (Some Short) (cond (b == 90) (Some Boolean) None))))))) ≡ Some prim → b ≡ letter prim
    at true is k = let same : b ≡ 66 = eqb-true b 66 is in let p : Byte ≡ prim = cc in rw (← p) same
    at false is k = char (b == 67) refl k

with_rest_from : {A : Type 0} (after : List ℕ) (found : Option A) (value : A) (rest : List ℕ) → with_rest after found ≡ Some (value, rest) → (found ≡ Some value) × (after ≡ rest)
with_rest_from after None value rest e = absurd cc
with_rest_from {A} after (Some x) value rest e =
    let same = pair_from {A = A} (x, after) (value, rest) e in
    (ap (λ (v : A). let o : Option A = Some v in o) same.0, same.1)

pub primitive_taken : (text : List ℕ) (prim : PrimitiveType) (rest : List ℕ) → primitive_at text ≡ Some (prim, rest) → text ≡ letter prim ∷ rest
primitive_taken [] prim rest e = absurd cc
primitive_taken (b ∷ bs) prim rest e =
    let parts = with_rest_from bs (primitive_of b) prim rest e in
    let first = letter_from b prim parts.0 in
    let second = parts.1 in
    cc

pub if_from : {C : Type 0} (test : Bool) (found : Option C) (all : C) → cond test found None ≡ Some all → (test ≡ true) × (found ≡ Some all)
if_from true found all e = (refl, e)
if_from false found all e = absurd cc

module _ {A B S P : Type 0} (make : Making A B S P) where
  abbrev inner : ℕ → List ℕ → Option (A × List ℕ)
  inner n = inside make n

  -- a type is spelled by a signature that fits
  abbrev pub TypeTaken : (TypeSignature → Bool) → List ℕ → A → List ℕ → Type 0
  TypeTaken = IsTaken spelled (made make)

  abbrev ArgumentTaken : ℕ → List ℕ → B → List ℕ → Type 0
  ArgumentTaken n = IsTaken spelled_argument (made_argument make) (argument_fits n)

  abbrev ArgumentsTaken : ℕ → List ℕ → List B → List ℕ → Type 0
  ArgumentsTaken n = IsTaken spelled_arguments (made_arguments make) (arguments_fit n)

  abbrev PartTaken : ℕ → List ℕ → List ℕ × List B → List ℕ → Type 0
  PartTaken n = IsTaken spelled_part (made_part make) (part_fits n)

  -- every reading inside an open sign is of a type that fits
  InsideTaken : ℕ → Type 0
  InsideTaken n = (text : List ℕ) (value : A) (rest : List ℕ) → type_at make n text ≡ Some (value, rest) → TypeTaken (fits n) text value rest

  reference_taken : (n : ℕ) → InsideTaken n → (text : List ℕ) (value : A) (rest : List ℕ) → reference_by (inner (suc n)) text ≡ Some (value, rest)
      → TypeTaken (λ ty. is_reference ty && fits n ty) text value rest
  unfolding inside InsideTaken
  reference_taken n takes text value rest e =
      let test = if_from (begins_reference text) (inner (suc n) text) (value, rest) e in
      let taken = takes text value rest test.1 in
      let reference = reference_from taken.from rest (ap begins_reference (sym taken.text_is) ∙ test.0) in
      record { from = taken.from; is_good = both (is_reference taken.from) (fits n taken.from) reference taken.is_good; text_is = taken.text_is; value_is = taken.value_is }

  argument_taken : (n : ℕ) → InsideTaken n → (text : List ℕ) (value : B) (rest : List ℕ) → argument_at make (inner (suc n)) text ≡ Some (value, rest) → ArgumentTaken n text value rest
  unfolding Chosen
  argument_taken n takes text value rest e =
      elim (chosen (behind 42 text) _ _ _ e) [
        | inl p ↦
            let both_is : (make.anything, p.0) ≡ (value, rest) = cc in
            record { from = Anything; is_good = refl; text_is = behind_from 42 text p.0 p.1 ∙ ap (λ (q : B × List ℕ). 42 ∷ q.1) both_is; value_is = sym (ap (λ (q : B × List ℕ). q.0) both_is) }
        | inr q ↦ elim (chosen (behind 43 text) _ _ _ q.1) [
          | inl p ↦
              let f = next_from (reference_by (inner (suc n)) p.0) _ _ p.2 in
              let taken = reference_taken n takes p.0 f.value f.rest f.is_found in
              let both_is : (make.extends f.value, f.rest) ≡ (value, rest) = cc in
              record {
                from = Extends taken.from;
                is_good = taken.is_good;
                text_is = behind_from 43 text p.0 p.1 ∙ ap (λ (t : List ℕ). 43 ∷ t) taken.text_is ∙ ap (λ (r : B × List ℕ). 43 ∷ spelled taken.from r.1) both_is;
                value_is = sym (ap (λ (r : B × List ℕ). r.0) both_is) ∙ ap make.extends taken.value_is;
              }
          | inr q ↦ elim (chosen (behind 45 text) _ _ _ q.1) [
            | inl p ↦
                let f = next_from (reference_by (inner (suc n)) p.0) _ _ p.2 in
                let taken = reference_taken n takes p.0 f.value f.rest f.is_found in
                let both_is : (make.above f.value, f.rest) ≡ (value, rest) = cc in
                record {
                  from = Super taken.from;
                  is_good = taken.is_good;
                  text_is = behind_from 45 text p.0 p.1 ∙ ap (λ (t : List ℕ). 45 ∷ t) taken.text_is ∙ ap (λ (r : B × List ℕ). 45 ∷ spelled taken.from r.1) both_is;
                  value_is = sym (ap (λ (r : B × List ℕ). r.0) both_is) ∙ ap make.above taken.value_is;
                }
            | inr q ↦
                let f = next_from (reference_by (inner (suc n)) text) _ _ q.1 in
                let taken = reference_taken n takes text f.value f.rest f.is_found in
                let both_is : (make.exactly f.value, f.rest) ≡ (value, rest) = cc in
                record {
                  from = Exactly taken.from;
                  is_good = taken.is_good;
                  text_is = taken.text_is ∙ ap (λ (r : B × List ℕ). spelled taken.from r.1) both_is;
                  value_is = sym (ap (λ (r : B × List ℕ). r.0) both_is) ∙ ap make.exactly taken.value_is;
                }
          ]
        ]
      ]

  -- a list that was read has a first member, and at most 254 behind it
  listed_from : (n : ℕ) (text : List ℕ) (value : List B) (rest : List ℕ) (list : List TypeArgument) → list_all (argument_fits n) list ≡ true
      → value ≡ made_arguments make (from_list list) → (nat_lt 0 (length value) && nat_le (length value) 255) ≡ true
      → text ≡ 60 ∷ spelled_each spelled_argument list (62 ∷ rest) → ArgumentsTaken (suc n) text value rest
  listed_from n text value rest [] good value_is test text_is =
      absurd (let none : false ≡ true = subst (λ (v : List B). (nat_lt 0 (length v) && nat_le (length v) 255) ≡ true) value_is test in cc)
  listed_from n text value rest (first ∷ more) good value_is test text_is =
      let few = at_most_255 (length (made_arguments make (from_list more))) (subst (λ (v : List B). (nat_lt 0 (length v) && nat_le (length v) 255) ≡ true) value_is test) in
      record {
        from = from_list (first ∷ more);
        is_good = both (argument_fits n first && further_fit n (from_list more)) (nat_le (count (from_list more)) 254) (fits_from n (first ∷ more) ∙ good)
            (ap (λ (k : ℕ). nat_le k 254) (sym (made_count make (from_list more))) ∙ few);
        text_is = text_is ∙ ap (λ (t : List ℕ). 60 ∷ spelled_argument first t) (sym (further_is_from more (62 ∷ rest)));
        value_is = value_is;
      }

  listed_taken : (n : ℕ) → InsideTaken n → (text listed : List ℕ) (value : List B) (rest : List ℕ) → text ≡ 60 ∷ listed → listed_at make (inner (suc n)) listed ≡ Some (value, rest) → ArgumentsTaken (suc n) text value rest
  listed_taken n takes text listed value rest opens e =
      let f = next_from (many (not_at 62) (argument_at make (inner (suc n))) put [] listed) _ _ e in
      let taken = many_takes (not_at 62) (argument_at make (inner (suc n))) put spelled_argument (made_argument make) (argument_fits n) (argument_taken n takes) [] listed f.value f.rest f.is_found in
      let x = expect_from 62 f.rest _ _ f.follows in
      let test = if_from (nat_lt 0 (length f.value) && nat_le (length f.value) 255) (Some (f.value, x.rest)) (value, rest) x.follows in
      let both_is : (f.value, x.rest) ≡ (value, rest) = cc in
      let value_is : value ≡ f.value = sym (ap (λ (r : List B × List ℕ). r.0) both_is) in
      let rest_is : x.rest ≡ rest = ap (λ (r : List B × List ℕ). r.1) both_is in
      listed_from n text value rest taken.from taken.are_good
      (value_is ∙ taken.state_is ∙ put_each (made_argument make) [] taken.from ∙ arguments_are_from make taken.from)
      (ap (λ (v : List B). nat_lt 0 (length v) && nat_le (length v) 255) value_is ∙ test.0)
      (opens ∙ ap (λ (t : List ℕ). 60 ∷ t) (taken.text_is ∙ ap (λ (r : List ℕ). spelled_each spelled_argument taken.from r) (x.text_is ∙ ap (λ (r : List ℕ). 62 ∷ r) rest_is)))

  -- what is read where a sign may be open, or where none may
  abbrev Above : ℕ → Type 0
  Above zero = Unit {0}
  Above (suc n) = InsideTaken n

  arguments_taken : (n : ℕ) → Above n → (text : List ℕ) (value : List B) (rest : List ℕ) → arguments_at make n (inner n) text ≡ Some (value, rest) → ArgumentsTaken n text value rest
  unfolding Chosen
  arguments_taken n takes text value rest e =
      elim (chosen (behind 60 text) _ _ _ e) [
        | inl p ↦ opened n takes p.0 (behind_from 60 text p.0 p.1) p.2
        | inr q ↦
            let both_is : ([], text) ≡ (value, rest) = cc in
            record { from = NoArguments; is_good = refl; text_is = ap (λ (r : List B × List ℕ). r.1) both_is; value_is = sym (ap (λ (r : List B × List ℕ). r.0) both_is) }
      ]
    where
      opened : (n : ℕ) → Above n → (listed : List ℕ) → text ≡ 60 ∷ listed → cond (may_open n) (listed_at make (inner n) listed) None ≡ Some (value, rest) → ArgumentsTaken n text value rest
      opened zero takes listed opens k = absurd cc
      opened (suc n) takes listed opens k = listed_taken n takes text listed value rest opens k

  part_taken : (n : ℕ) → Above n → (text : List ℕ) (value : List ℕ × List B) (rest : List ℕ) → suffix_at make n (inner n) text ≡ Some (value, rest) → PartTaken n text value rest
  part_taken n takes text value rest e =
      let x = expect_from 46 text _ _ e in
      let f = next_from (identifier_at x.rest) _ _ x.follows in
      let name = identifier_taken x.rest f.value f.rest f.is_found in
      let g = next_from (arguments_at make n (inner n) f.rest) _ _ f.follows in
      let arguments = arguments_taken n takes f.rest g.value g.rest g.is_found in
      let both_is : ((f.value, g.value), g.rest) ≡ (value, rest) = cc in
      let value_is : value ≡ (f.value, g.value) = sym (ap (λ (r : (List ℕ × List B) × List ℕ). r.0) both_is) in
      let rest_is : g.rest ≡ rest = ap (λ (r : (List ℕ × List B) × List ℕ). r.1) both_is in
      record {
        from = (f.value, arguments.from);
        is_good = both (is_identifier f.value) (arguments_fit n arguments.from) name.0 arguments.is_good;
        text_is = x.text_is ∙ ap (λ (t : List ℕ). 46 ∷ t) (name.1 ∙ ap (λ (t : List ℕ). f.value ++ t) (arguments.text_is ∙ ap (λ (r : List ℕ). spelled_arguments arguments.from r) rest_is));
        value_is = value_is ∙ ap (λ (v : List B). (f.value, v)) arguments.value_is;
      }

  class_taken : (n : ℕ) → Above n → (text after : List ℕ) (value : A) (rest : List ℕ) → text ≡ 76 ∷ after → class_at make n (inner n) after ≡ Some (value, rest) → TypeTaken (fits n) text value rest
  class_taken n takes text after value rest starts e =
      let f = next_from (path_at after) _ _ e in
      let path = path_taken after f.value f.rest f.is_found in
      let g = next_from (arguments_at make n (inner n) f.rest) _ _ f.follows in
      let arguments = arguments_taken n takes f.rest g.value g.rest g.is_found in
      let h = next_from (many (begins 46) (suffix_at make n (inner n)) (extended make) (make.outer f.value g.value) g.rest) _ _ g.follows in
      let parts = many_takes (begins 46) (suffix_at make n (inner n)) (extended make) spelled_part (made_part make) (part_fits n) (part_taken n takes) (make.outer f.value g.value) g.rest h.value h.rest h.is_found in
      let x = expect_from 59 h.rest _ _ h.follows in
      let both_is : (make.whole h.value, x.rest) ≡ (value, rest) = cc in
      let value_is : value ≡ make.whole h.value = sym (ap (λ (r : A × List ℕ). r.0) both_is) in
      let rest_is : x.rest ≡ rest = ap (λ (r : A × List ℕ). r.1) both_is in
      let suffixes = from_parts parts.from in
      let parts_text : g.rest ≡ spelled_suffixes suffixes (59 ∷ rest) = parts.text_is ∙ ap (λ (r : List ℕ). spelled_each spelled_part parts.from r) (x.text_is ∙ ap (λ (r : List ℕ). 59 ∷ r) rest_is) ∙ sym (parts_are_from parts.from (59 ∷ rest)) in
      record {
        from = ClassType f.value arguments.from suffixes;
        is_good = both (is_path f.value) (arguments_fit n arguments.from && suffixes_fit n suffixes) path.0 (both (arguments_fit n arguments.from) (suffixes_fit n suffixes) arguments.is_good (parts_fit_from n parts.from parts.are_good));
        text_is = starts ∙ ap (λ (t : List ℕ). 76 ∷ t) (path.1 ∙ ap (λ (t : List ℕ). f.value ++ t) (arguments.text_is ∙ ap (λ (r : List ℕ). spelled_arguments arguments.from r) parts_text));
        value_is = value_is ∙ ap make.whole (parts.state_is ∙ parts_made_from make parts.from (make.outer f.value g.value) ∙ ap (λ (v : List B). made_suffixes make suffixes (make.outer f.value v)) arguments.value_is);
      }

  variable_taken : (n : ℕ) (text after : List ℕ) (value : A) (rest : List ℕ) → text ≡ 84 ∷ after → variable_at make after ≡ Some (value, rest) → TypeTaken (fits n) text value rest
  variable_taken n text after value rest starts e =
      let f = next_from (identifier_at after) _ _ e in
      let name = identifier_taken after f.value f.rest f.is_found in
      let x = expect_from 59 f.rest _ _ f.follows in
      let both_is : (make.variable f.value, x.rest) ≡ (value, rest) = cc in
      let rest_is : x.rest ≡ rest = ap (λ (r : A × List ℕ). r.1) both_is in
      record {
        from = TypeVariable f.value;
        is_good = name.0;
        text_is = starts ∙ ap (λ (t : List ℕ). 84 ∷ t) (name.1 ∙ ap (λ (t : List ℕ). f.value ++ t) (x.text_is ∙ ap (λ (r : List ℕ). 59 ∷ r) rest_is));
        value_is = sym (ap (λ (r : A × List ℕ). r.0) both_is);
      }

  array_taken : (n : ℕ) → Above n → (text after : List ℕ) (value : A) (rest : List ℕ) → text ≡ 91 ∷ after → next (inner n after) (λ member rest. one (make.array member) rest) ≡ Some (value, rest) → TypeTaken (fits n) text value rest
  unfolding inside InsideTaken
  array_taken zero takes text after value rest starts e = absurd cc
  array_taken (suc n) takes text after value rest starts e =
      let f = next_from (type_at make n after) (λ member rest. let o : Option (A × List ℕ) = one (make.array member) rest in o) (value, rest) e in
      let taken = takes after f.value f.rest f.is_found in
      let both_is : (make.array f.value, f.rest) ≡ (value, rest) = cc in
      let rest_is : f.rest ≡ rest = ap (λ (r : A × List ℕ). r.1) both_is in
      record {
        from = ArrayType taken.from;
        is_good = taken.is_good;
        text_is = starts ∙ ap (λ (t : List ℕ). 91 ∷ t) (taken.text_is ∙ ap (λ (r : List ℕ). spelled taken.from r) rest_is);
        value_is = sym (ap (λ (r : A × List ℕ). r.0) both_is) ∙ ap make.array taken.value_is;
      }

  primitive_from : (n : ℕ) (text : List ℕ) (value : A) (rest : List ℕ) → next (primitive_at text) (λ prim after. one (make.primitive prim) after) ≡ Some (value, rest) → TypeTaken (fits n) text value rest
  primitive_from n text value rest e =
      let f = next_from (primitive_at text) _ _ e in
      let both_is : (make.primitive f.value, f.rest) ≡ (value, rest) = cc in
      let rest_is : f.rest ≡ rest = ap (λ (r : A × List ℕ). r.1) both_is in
      record {
        from = BaseType f.value;
        is_good = refl;
        text_is = primitive_taken text f.value f.rest f.is_found ∙ ap (λ (r : List ℕ). letter f.value ∷ r) rest_is;
        value_is = sym (ap (λ (r : A × List ℕ). r.0) both_is);
      }

  type_taken : (n : ℕ) → Above n → (text : List ℕ) (value : A) (rest : List ℕ) → type_at make n text ≡ Some (value, rest) → TypeTaken (fits n) text value rest
  unfolding Chosen
  type_taken n takes text value rest e =
      elim (chosen (behind 76 text) _ _ _ e) [
        | inl p ↦ class_taken n takes text p.0 value rest (behind_from 76 text p.0 p.1) p.2
        | inr q ↦ elim (chosen (behind 84 text) _ _ _ q.1) [
          | inl p ↦ variable_taken n text p.0 value rest (behind_from 84 text p.0 p.1) p.2
          | inr q ↦ elim (chosen (behind 91 text) _ _ _ q.1) [
            | inl p ↦ array_taken n takes text p.0 value rest (behind_from 91 text p.0 p.1) p.2
            | inr q ↦ primitive_from n text value rest q.1
          ]
        ]
      ]

  -- What is read is spelled by a good signature.
  pub taken : (n : ℕ) (text : List ℕ) (value : A) (rest : List ℕ) → type_at make n text ≡ Some (value, rest) → TypeTaken (fits n) text value rest
  unfolding InsideTaken
  taken n = type_taken n (above n)
    where
      above : (n : ℕ) → Above n
      above zero = tt
      above (suc n) = λ text value rest e. type_taken n (above n) text value rest e

  pub reference_is_taken : (n : ℕ) (text : List ℕ) (value : A) (rest : List ℕ) → reference_by (inside make (suc n)) text ≡ Some (value, rest)
      → IsTaken spelled (made make) (λ ty. is_reference ty && fits n ty) text value rest
  unfolding InsideTaken
  reference_is_taken n = reference_taken n (taken n)
