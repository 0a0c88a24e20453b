-- Descriptors: what is spelled is read again, and what is read is spelled.
use Rattle.std.proofs.Common.{◌≡◌, ◌++◌, ◌<◌, ℕ, zero, suc, inl, inr, Bool, true, false, List, [], ◌∷◌, length, map, ap, refl, sym, ◌∙◌, arith, length-append}
use Rattle.std.specs.Prelude.{◌&&◌, ◌==◌, Option, Some, None, not}
use Rattle.std.specs.List.{list_all}
use Rattle.std.proofs.lemmas.Bool.{eqb-true}
use Rattle.std.proofs.lemmas.Bool.Decides.{nat_tests}
use Rattle.pj_names.specs.declared.ty.PrimitiveType.TheVariants.{Boolean, Byte, Short, Int, Long, Char, Float, Double}
use Rattle.pj_names.specs.JavaType.{JavaType, Primitive, Void, Array, NoMore}
use Rattle.pj_signatures.specs.Names.{is_none_of, unqualified_signs, is_internal_name, dotted}
use Rattle.pj_signatures.specs.Signature.{letter, spelled_each, option_fits}
use Rattle.pj_signatures.specs.Types.{class_named}
use Rattle.pj_signatures.specs.Descriptor.{FieldType, BaseType, ObjectType, ArrayType, MethodDescriptor, spelled, fits, type_of, spelled_result, spelled_method, method_fits, result_of}
use Rattle.pj_signatures.specs.Reading.{behind, begins, run, past_run, next, one, many, put, not_at, primitive_at, object_at, array_at, field_at, return_at, method_descriptor_at}
use Rattle.pj_signatures.proofs.Runs.{run_parts}
use Rattle.pj_signatures.proofs.Pieces.{names_from, both_left, both_right, both, piece_begins}
use Rattle.pj_signatures.proofs.Spellings.{next_to, next_from, behind_from, expect_from}
use Rattle.pj_signatures.proofs.Repeated.{IsReadAgain, put_each, many_again, IsTaken, many_takes}
use Rattle.pj_signatures.proofs.TypesAgain.{Chosen, chosen}
use Rattle.pj_signatures.proofs.TypesTaken.{primitive_taken, if_from}
use Rattle.pj_signatures.proofs.ParametersAgain.{each_from}

-- no name in internal form has a semicolon

keeps : (b : ℕ) → is_none_of unqualified_signs b ≡ true → is_none_of (59 ∷ []) b ≡ true
keeps b h = grind (arith, nat_tests)

internal_from : (name : List ℕ) (begun : Bool) → names_from unqualified_signs begun name ≡ true → list_all (is_none_of (59 ∷ [])) name ≡ true
internal_from [] begun h = refl
internal_from (b ∷ bs) begun h = at (b == 47) refl (internal_from bs true) (internal_from bs false)
  where
    solidus : (begun : Bool) → (b == 47) ≡ true → names_from unqualified_signs begun (b ∷ bs) ≡ true → names_from unqualified_signs false bs ≡ true
    solidus true is k = rw is at k
    solidus false is k = absurd (let no : false ≡ true = rw is at k in cc)

    at : (test : Bool) → (b == 47) ≡ test → (names_from unqualified_signs true bs ≡ true → list_all (is_none_of (59 ∷ [])) bs ≡ true) → (names_from unqualified_signs false bs ≡ true → list_all (is_none_of (59 ∷ [])) bs ≡ true)
        → list_all (is_none_of (59 ∷ [])) (b ∷ bs) ≡ true
    at true is on off =
        let same : b ≡ 47 = eqb-true b 47 is in
        both (is_none_of (59 ∷ []) b) (list_all (is_none_of (59 ∷ [])) bs) (rw same refl) (off (solidus begun is h))
    at false is on off =
        let k : (is_none_of unqualified_signs b && names_from unqualified_signs true bs) ≡ true = sym (piece_begins unqualified_signs b begun _ bs refl is) ∙ h in
        both (is_none_of (59 ∷ []) b) (list_all (is_none_of (59 ∷ [])) bs) (keeps b (both_left (is_none_of unqualified_signs b) (names_from unqualified_signs true bs) k))
        (on (both_right (is_none_of unqualified_signs b) (names_from unqualified_signs true bs) k))

run_again : (name rest : List ℕ) → list_all (is_none_of (59 ∷ [])) name ≡ true → (run (59 ∷ []) (name ++ 59 ∷ rest) ≡ name) × (past_run (59 ∷ []) (name ++ 59 ∷ rest) ≡ 59 ∷ rest)
run_again [] rest h = (refl, refl)
run_again (b ∷ bs) rest h =
    let here = both_left (is_none_of (59 ∷ []) b) (list_all (is_none_of (59 ∷ [])) bs) h in
    let more = run_again bs rest (both_right (is_none_of (59 ∷ []) b) (list_all (is_none_of (59 ∷ [])) bs) h) in
    (rw here (ap (λ (r : List ℕ). b ∷ r) more.0), rw here more.1)

object_again : (name rest : List ℕ) → is_internal_name name ≡ true → object_at (name ++ 59 ∷ rest) ≡ Some (class_named (dotted name) NoMore, rest)
object_again name rest h = let r = run_again name rest (internal_from name false h) in rw (r.1, r.0, h) refl

-- What is spelled is read again.
pub field_again : (field : FieldType) (n : ℕ) → fits n field ≡ true → (rest : List ℕ) → field_at n (spelled field rest) ≡ Some (type_of field, rest)
unfolding array_at
field_again (BaseType Boolean) n h rest = refl
field_again (BaseType Byte) n h rest = refl
field_again (BaseType Short) n h rest = refl
field_again (BaseType Int) n h rest = refl
field_again (BaseType Long) n h rest = refl
field_again (BaseType Char) n h rest = refl
field_again (BaseType Float) n h rest = refl
field_again (BaseType Double) n h rest = refl
field_again (ObjectType name) n h rest = object_again name rest h
field_again (ArrayType component) zero h rest = absurd cc
field_again (ArrayType component) (suc n) h rest = next_to _ (field_again component n h rest) refl

longer : (field : FieldType) (rest : List ℕ) → length rest < length (spelled field rest)
longer (BaseType prim) rest = omega arith
longer (ObjectType name) rest = let l = length-append name (59 ∷ rest) in omega (arith, l)
longer (ArrayType component) rest = let m = longer component rest in omega (arith, m)

starts : (field : FieldType) (rest : List ℕ) → (behind 86 (spelled field rest) ≡ None) × (begins 41 (spelled field rest) ≡ false)
starts (BaseType Boolean) rest = (refl, refl)
starts (BaseType Byte) rest = (refl, refl)
starts (BaseType Short) rest = (refl, refl)
starts (BaseType Int) rest = (refl, refl)
starts (BaseType Long) rest = (refl, refl)
starts (BaseType Char) rest = (refl, refl)
starts (BaseType Float) rest = (refl, refl)
starts (BaseType Double) rest = (refl, refl)
starts (ObjectType name) rest = (refl, refl)
starts (ArrayType component) rest = (refl, refl)

parameter_again : (n : ℕ) (field : FieldType) → fits n field ≡ true → IsReadAgain (not_at 41) (λ text. true) (field_at n) spelled type_of field
parameter_again n field good = record {
  goes = λ rest k. ap not (starts field rest).1;
  reads = λ rest k. field_again field n good rest;
  longer = longer field;
  good_again = λ rest k. refl;
}

return_again : (n : ℕ) (returned : Option FieldType) → option_fits (fits n) returned ≡ true → (rest : List ℕ) → return_at n (spelled_result returned rest) ≡ Some (result_of returned, rest)
return_again n None h rest = refl
return_again n (Some ty) h rest = rw (starts ty rest).0 (field_again ty n h rest)

pub method_again : (n : ℕ) (method : MethodDescriptor) → method_fits n method ≡ true → method_descriptor_at n (spelled_method method) ≡ Some ((map type_of method.parameters, result_of method.returned), [])
method_again n method h =
    let parameters = both_left (list_all (fits n) method.parameters) (option_fits (fits n) method.returned) h in
    let returned = both_right (list_all (fits n) method.parameters) (option_fits (fits n) method.returned) h in
    let each = each_from (IsReadAgain (not_at 41) (λ text. true) (field_at n) spelled type_of) (fits n) (parameter_again n) method.parameters parameters in
    let tail = spelled_result method.returned [] in
    next_to _ (many_again (not_at 41) (λ text. true) (field_at n) put spelled type_of method.parameters each [] (41 ∷ tail) refl refl
    ∙ ap (λ (v : List JavaType). let o : Option (List JavaType × List ℕ) = Some (v, 41 ∷ tail) in o) (put_each type_of [] method.parameters))
    (next_to _ (return_again n method.returned returned []) refl)

-- What is read is spelled by a good descriptor.

abbrev pub FieldTaken : ℕ → List ℕ → JavaType → List ℕ → Type 0
FieldTaken n = IsTaken spelled type_of (fits n)

object_taken : (n : ℕ) (text after : List ℕ) (value : JavaType) (rest : List ℕ) → text ≡ 76 ∷ after → object_at after ≡ Some (value, rest) → FieldTaken n text value rest
object_taken n text after value rest opens e =
    let x = expect_from 59 (past_run (59 ∷ []) after) _ _ e in
    let name = run (59 ∷ []) after in
    let test = if_from (is_internal_name name) (Some (class_named (dotted name) NoMore, x.rest)) (value, rest) x.follows in
    let both_is : (class_named (dotted name) NoMore, x.rest) ≡ (value, rest) = cc in
    let rest_is : x.rest ≡ rest = ap (λ (r : JavaType × List ℕ). r.1) both_is in
    record {
      from = ObjectType name;
      is_good = test.0;
      text_is = opens ∙ ap (λ (t : List ℕ). 76 ∷ t) (sym (run_parts (59 ∷ []) after) ∙ ap (λ (t : List ℕ). name ++ t) (x.text_is ∙ ap (λ (r : List ℕ). 59 ∷ r) rest_is));
      value_is = sym (ap (λ (r : JavaType × List ℕ). r.0) both_is);
    }

primitive_from : (n : ℕ) (text : List ℕ) (value : JavaType) (rest : List ℕ) → next (primitive_at text) (λ prim after. one (Primitive prim) after) ≡ Some (value, rest) → FieldTaken n text value rest
primitive_from n text value rest e =
    let f = next_from (primitive_at text) _ _ e in
    let both_is : (Primitive f.value, f.rest) ≡ (value, rest) = cc in
    let rest_is : f.rest ≡ rest = ap (λ (r : JavaType × List ℕ). r.1) both_is in
    record {
      from = BaseType f.value;
      is_good = refl;
      text_is = primitive_taken text f.value f.rest f.is_found ∙ ap (λ (r : List ℕ). letter f.value ∷ r) rest_is;
      value_is = sym (ap (λ (r : JavaType × List ℕ). r.0) both_is);
    }

-- a field's type, once arrays are
taken_by : (n : ℕ) → ((text after : List ℕ) (value : JavaType) (rest : List ℕ) → text ≡ 91 ∷ after → array_at n after ≡ Some (value, rest) → FieldTaken n text value rest)
    → (text : List ℕ) (value : JavaType) (rest : List ℕ) → field_at n text ≡ Some (value, rest) → FieldTaken n text value rest
unfolding Chosen
taken_by n arrays text value rest e =
    elim (chosen (behind 76 text) _ _ _ e) [
      | inl p ↦ object_taken n text p.0 value rest (behind_from 76 text p.0 p.1) p.2
      | inr q ↦ elim (chosen (behind 91 text) _ _ _ q.1) [
        | inl p ↦ arrays text p.0 value rest (behind_from 91 text p.0 p.1) p.2
        | inr q ↦ primitive_from n text value rest q.1
      ]
    ]

array_taken : (n : ℕ) (text after : List ℕ) (value : JavaType) (rest : List ℕ) → text ≡ 91 ∷ after → array_at n after ≡ Some (value, rest) → FieldTaken n text value rest
unfolding array_at
array_taken zero text after value rest opens e = absurd cc
array_taken (suc n) text after value rest opens e =
    let f = next_from (field_at n after) (λ component rest. let o : Option (JavaType × List ℕ) = one (Array component) rest in o) (value, rest) e in
    let t = taken_by n (array_taken n) after f.value f.rest f.is_found in
    let both_is : (Array f.value, f.rest) ≡ (value, rest) = cc in
    let rest_is : f.rest ≡ rest = ap (λ (r : JavaType × List ℕ). r.1) both_is in
    record {
      from = ArrayType t.from;
      is_good = t.is_good;
      text_is = opens ∙ ap (λ (x : List ℕ). 91 ∷ x) (t.text_is ∙ ap (λ (r : List ℕ). spelled t.from r) rest_is);
      value_is = sym (ap (λ (r : JavaType × List ℕ). r.0) both_is) ∙ ap Array t.value_is;
    }

pub field_taken : (n : ℕ) (text : List ℕ) (value : JavaType) (rest : List ℕ) → field_at n text ≡ Some (value, rest) → FieldTaken n text value rest
field_taken n = taken_by n (array_taken n)

return_taken : (n : ℕ) (text : List ℕ) (value : JavaType) (rest : List ℕ) → return_at n text ≡ Some (value, rest) → IsTaken spelled_result result_of (option_fits (fits n)) text value rest
unfolding Chosen
return_taken n text value rest e =
    elim (chosen (behind 86 text) _ _ _ e) [
      | inl p ↦
          let both_is : (Void, p.0) ≡ (value, rest) = cc in
          record { from = None; is_good = refl; text_is = behind_from 86 text p.0 p.1 ∙ ap (λ (r : JavaType × List ℕ). 86 ∷ r.1) both_is; value_is = sym (ap (λ (r : JavaType × List ℕ). r.0) both_is) }
      | inr q ↦ let t = field_taken n text value rest q.1 in record { from = Some t.from; is_good = t.is_good; text_is = t.text_is; value_is = t.value_is }
    ]

pub record MethodTaken (n : ℕ) (text : List ℕ) (value : List JavaType × JavaType) (rest : List ℕ) : Type 0 where
  pub from : MethodDescriptor
  pub is_good : method_fits n from ≡ true
  pub text_is : text ≡ 40 ∷ spelled_each spelled from.parameters (41 ∷ spelled_result from.returned rest)
  pub value_is : value ≡ (map type_of from.parameters, result_of from.returned)

pub method_taken : (n : ℕ) (text : List ℕ) (value : List JavaType × JavaType) (rest : List ℕ) → method_descriptor_at n text ≡ Some (value, rest) → MethodTaken n text value rest
method_taken n text value rest e =
    let x = expect_from 40 text _ _ e in
    let f = next_from (many (not_at 41) (field_at n) put [] x.rest) _ _ x.follows in
    let all = many_takes (not_at 41) (field_at n) put spelled type_of (fits n) (field_taken n) [] x.rest f.value f.rest f.is_found in
    let y = expect_from 41 f.rest _ _ f.follows in
    let g = next_from (return_at n y.rest) _ _ y.follows in
    let returned = return_taken n y.rest g.value g.rest g.is_found in
    let both_is : ((f.value, g.value), g.rest) ≡ (value, rest) = cc in
    let rest_is : g.rest ≡ rest = ap (λ (r : (List JavaType × JavaType) × List ℕ). r.1) both_is in
    record {
      from = record { parameters = all.from; returned = returned.from };
      is_good = both (list_all (fits n) all.from) (option_fits (fits n) returned.from) all.are_good returned.is_good;
      text_is = x.text_is ∙ ap (λ (t : List ℕ). 40 ∷ t) (all.text_is ∙ ap (λ (r : List ℕ). spelled_each spelled all.from r) (y.text_is ∙ ap (λ (r : List ℕ). 41 ∷ r) (returned.text_is ∙ ap (λ (r : List ℕ). spelled_result returned.from r) rest_is)));
      value_is = sym (ap (λ (r : (List JavaType × JavaType) × List ℕ). r.0) both_is) ∙ ap (λ (v : List JavaType). (v, g.value)) (all.state_is ∙ put_each type_of [] all.from) ∙ ap (λ (v : JavaType). (map type_of all.from, v)) returned.value_is;
    }
