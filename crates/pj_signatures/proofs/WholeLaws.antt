-- Whole signatures of classes and methods: what is spelled is read again, and what is read is spelled.
use Rattle.std.proofs.Common.{◌≡◌, ℕ, inl, inr, Bool, true, false, List, [], ◌∷◌, map, ap, refl, sym, ◌∙◌, arith}
use Rattle.std.specs.Prelude.{◌&&◌, Option, Some, None, not, cond}
use Rattle.std.specs.List.{list_all}
use Rattle.pj_names.specs.declared.ty.PrimitiveType.TheVariants.{Boolean, Byte, Short, Int, Long, Char, Float, Double}
use Rattle.pj_signatures.specs.Signature.{TypeSignature, BaseType, ClassType, TypeVariable, ArrayType, TypeParameter, ClassSignature, MethodSignature, is_class, is_thrown, spelled, spelled_each, spelled_parameters, spelled_thrown, spelled_result, spelled_class, spelled_method, fits, class_fits, thrown_fits, option_fits, parameter_fits, parameters_fit, class_signature_fits, method_signature_fits}
use Rattle.pj_signatures.specs.Types.{Making, made, made_option, made_parameter}
use Rattle.pj_signatures.specs.Spelled.{most_open}
use Rattle.pj_signatures.specs.Reading.{behind, begins, many, put, not_at, not_empty, inside, type_at, parameters_at, class_type_at, thrown_at, result_at, supertypes_at, arguments_of_method_at, types_at, class_signature_at, method_signature_at}
use Rattle.pj_signatures.proofs.Pieces.{both_left, both_right, both}
use Rattle.pj_signatures.proofs.Spellings.{next_to, next_from, behind_from, expect_from, longer}
use Rattle.pj_signatures.proofs.Repeated.{IsReadAgain, put_each, many_again, IsTaken, many_takes}
use Rattle.pj_signatures.proofs.TypesAgain.{again, Chosen, chosen}
use Rattle.pj_signatures.proofs.TypesTaken.{taken, if_from}
use Rattle.pj_signatures.proofs.ParametersAgain.{each_from, parameters_again}
use Rattle.pj_signatures.proofs.ParametersTaken.{parameters_taken}

class_starts : (sig : TypeSignature) (rest : List ℕ) → is_class sig ≡ true → (begins 76 (spelled sig rest) ≡ true) × (begins 60 (spelled sig rest) ≡ false)
class_starts (BaseType prim) rest h = absurd cc
class_starts (ClassType _ _ _) rest h = (refl, refl)
class_starts (TypeVariable name) rest h = absurd cc
class_starts (ArrayType member) rest h = absurd cc

class_from : (sig : TypeSignature) (rest : List ℕ) → begins 76 (spelled sig rest) ≡ true → is_class sig ≡ true
class_from (BaseType Boolean) rest h = absurd cc
class_from (BaseType Byte) rest h = absurd cc
class_from (BaseType Short) rest h = absurd cc
class_from (BaseType Int) rest h = absurd cc
class_from (BaseType Long) rest h = absurd cc
class_from (BaseType Char) rest h = absurd cc
class_from (BaseType Float) rest h = absurd cc
class_from (BaseType Double) rest h = absurd cc
class_from (ClassType _ _ _) rest h = refl
class_from (TypeVariable name) rest h = absurd cc
class_from (ArrayType member) rest h = absurd cc

thrown_starts : (sig : TypeSignature) (rest : List ℕ) → is_thrown sig ≡ true → cond (begins 76 (spelled sig rest)) true (begins 84 (spelled sig rest)) ≡ true
thrown_starts (BaseType prim) rest h = absurd cc
thrown_starts (ClassType _ _ _) rest h = refl
thrown_starts (TypeVariable name) rest h = refl
thrown_starts (ArrayType member) rest h = absurd cc

thrown_from : (sig : TypeSignature) (rest : List ℕ) → cond (begins 76 (spelled sig rest)) true (begins 84 (spelled sig rest)) ≡ true → is_thrown sig ≡ true
thrown_from (BaseType Boolean) rest h = absurd cc
thrown_from (BaseType Byte) rest h = absurd cc
thrown_from (BaseType Short) rest h = absurd cc
thrown_from (BaseType Int) rest h = absurd cc
thrown_from (BaseType Long) rest h = absurd cc
thrown_from (BaseType Char) rest h = absurd cc
thrown_from (BaseType Float) rest h = absurd cc
thrown_from (BaseType Double) rest h = absurd cc
thrown_from (ClassType _ _ _) rest h = refl
thrown_from (TypeVariable name) rest h = refl
thrown_from (ArrayType member) rest h = absurd cc

-- no type begins as `V`, or as the end of the parameters
starts_no_void : (sig : TypeSignature) (rest : List ℕ) → (behind 86 (spelled sig rest) ≡ None) × (begins 41 (spelled sig rest) ≡ false)
starts_no_void (BaseType Boolean) rest = (refl, refl)
starts_no_void (BaseType Byte) rest = (refl, refl)
starts_no_void (BaseType Short) rest = (refl, refl)
starts_no_void (BaseType Int) rest = (refl, refl)
starts_no_void (BaseType Long) rest = (refl, refl)
starts_no_void (BaseType Char) rest = (refl, refl)
starts_no_void (BaseType Float) rest = (refl, refl)
starts_no_void (BaseType Double) rest = (refl, refl)
starts_no_void (ClassType _ _ _) rest = (refl, refl)
starts_no_void (TypeVariable name) rest = (refl, refl)
starts_no_void (ArrayType member) rest = (refl, refl)

empty_from : (rest : List ℕ) → not_empty rest ≡ false → rest ≡ []
empty_from [] h = refl
empty_from (b ∷ bs) h = absurd cc

there : (b : Bool) (text : List ℕ) → not_at 41 text ≡ b → not_at 41 text ≡ b
there b text h = h

not_empty_from : (sign : ℕ) (text : List ℕ) → begins sign text ≡ true → not_empty text ≡ true
not_empty_from sign [] h = absurd cc
not_empty_from sign (b ∷ bs) h = refl

-- the bound on type parameters, whose angle bracket is an open sign
parameters_fit_is : (parameters : List TypeParameter) → parameters_fit most_open parameters ≡ list_all (parameter_fits 254) parameters
parameters_fit_is [] = refl
parameters_fit_is (first ∷ rest) = refl

module _ {A B S P : Type 0} (make : Making A B S P) (n : ℕ) where
  abbrev OneAgain : (List ℕ → Option (A × List ℕ)) → (TypeSignature → List ℕ → List ℕ) → TypeSignature → Type 0
  OneAgain item spells = IsReadAgain not_empty (λ text. true) item spells (made make)

  class_type_again : (sig : TypeSignature) → class_fits n sig ≡ true → OneAgain (class_type_at make n) spelled sig
  class_type_again sig h =
      let is = both_left (is_class sig) (fits n sig) h in
      let good = both_right (is_class sig) (fits n sig) h in
      record {
        goes = λ rest k. not_empty_from 76 (spelled sig rest) (class_starts sig rest is).0;
        reads = λ rest k. rw (class_starts sig rest is).0 (again make sig n good rest);
        longer = longer sig;
        good_again = λ rest k. refl;
      }

  thrown_again : (sig : TypeSignature) → thrown_fits n sig ≡ true → OneAgain (thrown_at make n) spelled_thrown sig
  thrown_again sig h =
      let is = both_left (is_thrown sig) (fits n sig) h in
      let good = both_right (is_thrown sig) (fits n sig) h in
      record {
        goes = λ rest k. refl;
        reads = λ rest k. rw (thrown_starts sig rest is) (again make sig n good rest);
        longer = λ rest. let l = longer sig rest in omega (arith, l);
        good_again = λ rest k. refl;
      }

  argument_type_again : (sig : TypeSignature) → fits n sig ≡ true → IsReadAgain (not_at 41) (λ text. true) (type_at make n) spelled (made make) sig
  argument_type_again sig good = record {
    goes = λ rest k. ap not (starts_no_void sig rest).1;
    reads = λ rest k. again make sig n good rest;
    longer = longer sig;
    good_again = λ rest k. refl;
  }

  supertypes_again : (superclass : TypeSignature) (interfaces : List TypeSignature) → class_fits n superclass ≡ true → list_all (class_fits n) interfaces ≡ true
      → supertypes_at make n (spelled superclass (spelled_each spelled interfaces [])) ≡ Some ((made make superclass, map (made make) interfaces), [])
  supertypes_again superclass interfaces first others =
      let each = each_from (OneAgain (class_type_at make n) spelled) (class_fits n) class_type_again interfaces others in
      next_to _ ((class_type_again superclass first).reads (spelled_each spelled interfaces []) refl)
      (next_to _ (many_again not_empty (λ text. true) (class_type_at make n) put spelled (made make) interfaces each [] [] refl refl
      ∙ ap (λ (v : List A). let o : Option (List A × List ℕ) = Some (v, []) in o) (put_each (made make) [] interfaces))
      refl)

  result_again : (returned : Option TypeSignature) (rest : List ℕ) → option_fits (fits n) returned ≡ true → result_at make n (spelled_result returned rest) ≡ Some (made_option make returned, rest)
  result_again None rest h = refl
  result_again (Some ty) rest h = rw (starts_no_void ty rest).0 (next_to _ (again make ty n h rest) refl)

  arguments_of_again : (arguments : List TypeSignature) (rest : List ℕ) → list_all (fits n) arguments ≡ true
      → arguments_of_method_at make n (40 ∷ spelled_each spelled arguments (41 ∷ rest)) ≡ Some (map (made make) arguments, rest)
  arguments_of_again arguments rest h =
      let each = each_from (IsReadAgain (not_at 41) (λ text. true) (type_at make n) spelled (made make)) (fits n) argument_type_again arguments h in
      next_to _ (many_again (not_at 41) (λ text. true) (type_at make n) put spelled (made make) arguments each [] (41 ∷ rest) refl refl
      ∙ ap (λ (v : List A). let o : Option (List A × List ℕ) = Some (v, 41 ∷ rest) in o) (put_each (made make) [] arguments))
      refl

  types_again : (arguments : List TypeSignature) (returned : Option TypeSignature) (thrown : List TypeSignature)
      → list_all (fits n) arguments ≡ true → option_fits (fits n) returned ≡ true → list_all (thrown_fits n) thrown ≡ true
      → types_at make n (40 ∷ spelled_each spelled arguments (41 ∷ spelled_result returned (spelled_each spelled_thrown thrown [])))
      ≡ Some ((map (made make) arguments, made_option make returned, map (made make) thrown), [])
  types_again arguments returned thrown arguments_good returned_good thrown_good =
      let each = each_from (OneAgain (thrown_at make n) spelled_thrown) (thrown_fits n) thrown_again thrown thrown_good in
      next_to _ (arguments_of_again arguments (spelled_result returned (spelled_each spelled_thrown thrown [])) arguments_good)
      (next_to _ (result_again returned (spelled_each spelled_thrown thrown []) returned_good)
      (next_to _ (many_again not_empty (λ text. true) (thrown_at make n) put spelled_thrown (made make) thrown each [] [] refl refl
      ∙ ap (λ (v : List A). let o : Option (List A × List ℕ) = Some (v, []) in o) (put_each (made make) [] thrown))
      refl))

  class_type_taken : (text : List ℕ) (value : A) (rest : List ℕ) → class_type_at make n text ≡ Some (value, rest) → IsTaken spelled (made make) (class_fits n) text value rest
  class_type_taken text value rest e =
      let test = if_from (begins 76 text) (type_at make n text) (value, rest) e in
      let t = taken make n text value rest test.1 in
      let is = class_from t.from rest (ap (begins 76) (sym t.text_is) ∙ test.0) in
      record { from = t.from; is_good = both (is_class t.from) (fits n t.from) is t.is_good; text_is = t.text_is; value_is = t.value_is }

  thrown_taken : (text : List ℕ) (value : A) (rest : List ℕ) → thrown_at make n text ≡ Some (value, rest) → IsTaken spelled_thrown (made make) (thrown_fits n) text value rest
  thrown_taken text value rest e =
      let x = expect_from 94 text _ _ e in
      let test = if_from (cond (begins 76 x.rest) true (begins 84 x.rest)) (type_at make n x.rest) (value, rest) x.follows in
      let t = taken make n x.rest value rest test.1 in
      let is = thrown_from t.from rest (ap (λ (r : List ℕ). cond (begins 76 r) true (begins 84 r)) (sym t.text_is) ∙ test.0) in
      record { from = t.from; is_good = both (is_thrown t.from) (fits n t.from) is t.is_good; text_is = x.text_is ∙ ap (λ (r : List ℕ). 94 ∷ r) t.text_is; value_is = t.value_is }

  pub record SupertypesTaken (text : List ℕ) (value : A × List A) (rest : List ℕ) : Type 0 where
    pub superclass : TypeSignature
    pub interfaces : List TypeSignature
    pub first_good : class_fits n superclass ≡ true
    pub others_good : list_all (class_fits n) interfaces ≡ true
    pub text_is : text ≡ spelled superclass (spelled_each spelled interfaces [])
    pub value_is : value ≡ (made make superclass, map (made make) interfaces)
    pub rest_is : rest ≡ []

  supertypes_taken : (text : List ℕ) (value : A × List A) (rest : List ℕ) → supertypes_at make n text ≡ Some (value, rest) → SupertypesTaken text value rest
  supertypes_taken text value rest e =
      let f = next_from (class_type_at make n text) _ _ e in
      let first = class_type_taken text f.value f.rest f.is_found in
      let g = next_from (many not_empty (class_type_at make n) put [] f.rest) _ _ f.follows in
      let others = many_takes not_empty (class_type_at make n) put spelled (made make) (class_fits n) class_type_taken [] f.rest g.value g.rest g.is_found in
      let others_are = others.state_is ∙ put_each (made make) [] others.from in
      let end = empty_from g.rest others.stops in
      let both_is : ((f.value, g.value), g.rest) ≡ (value, rest) = cc in
      record {
        superclass = first.from;
        interfaces = others.from;
        first_good = first.is_good;
        others_good = others.are_good;
        text_is = first.text_is ∙ ap (spelled first.from) (others.text_is ∙ ap (spelled_each spelled others.from) end);
        value_is = sym (ap (λ (r : (A × List A) × List ℕ). r.0) both_is) ∙ ap (λ (a : A). (a, g.value)) first.value_is ∙ ap (λ (l : List A). (made make first.from, l)) others_are;
        rest_is = sym (ap (λ (r : (A × List A) × List ℕ). r.1) both_is) ∙ end;
      }

  result_taken : (text : List ℕ) (value : Option A) (rest : List ℕ) → result_at make n text ≡ Some (value, rest) → IsTaken spelled_result (made_option make) (option_fits (fits n)) text value rest
  unfolding Chosen
  result_taken text value rest e =
      elim (chosen (behind 86 text) _ _ _ e) [
        | inl p ↦
            let both_is : (None, p.0) ≡ (value, rest) = cc in
            record { from = None; is_good = refl; text_is = behind_from 86 text p.0 p.1 ∙ ap (λ (r : Option A × List ℕ). 86 ∷ r.1) both_is; value_is = sym (ap (λ (r : Option A × List ℕ). r.0) both_is) }
        | inr q ↦
            let f = next_from (type_at make n text) _ _ q.1 in
            let t = taken make n text f.value f.rest f.is_found in
            let both_is : (Some f.value, f.rest) ≡ (value, rest) = cc in
            record {
              from = Some t.from;
              is_good = t.is_good;
              text_is = t.text_is ∙ ap (λ (r : Option A × List ℕ). spelled t.from r.1) both_is;
              value_is = sym (ap (λ (r : Option A × List ℕ). r.0) both_is) ∙ ap (λ (v : A). let o : Option A = Some v in o) t.value_is;
            }
      ]

  pub record ArgumentsTaken (text : List ℕ) (value : List A) (rest : List ℕ) : Type 0 where
    pub from : List TypeSignature
    pub are_good : list_all (fits n) from ≡ true
    pub text_is : text ≡ 40 ∷ spelled_each spelled from (41 ∷ rest)
    pub value_is : value ≡ map (made make) from

  arguments_of_taken : (text : List ℕ) (value : List A) (rest : List ℕ) → arguments_of_method_at make n text ≡ Some (value, rest) → ArgumentsTaken text value rest
  arguments_of_taken text value rest e =
      let x = expect_from 40 text _ _ e in
      let f = next_from (many (not_at 41) (type_at make n) put [] x.rest) _ _ x.follows in
      let all = many_takes (not_at 41) (type_at make n) put spelled (made make) (fits n) (λ text value rest k. let t = taken make n text value rest k in t) [] x.rest f.value f.rest f.is_found in
      let y = expect_from 41 f.rest _ _ f.follows in
      let both_is : (f.value, y.rest) ≡ (value, rest) = cc in
      record {
        from = all.from;
        are_good = all.are_good;
        text_is = x.text_is ∙ ap (λ (t : List ℕ). 40 ∷ t) (all.text_is ∙ ap (spelled_each spelled all.from) (y.text_is ∙ ap (λ (r : List A × List ℕ). 41 ∷ r.1) both_is));
        value_is = sym (ap (λ (r : List A × List ℕ). r.0) both_is) ∙ all.state_is ∙ put_each (made make) [] all.from;
      }

  pub record TypesTaken (text : List ℕ) (value : List A × Option A × List A) (rest : List ℕ) : Type 0 where
    pub arguments : List TypeSignature
    pub returned : Option TypeSignature
    pub thrown : List TypeSignature
    pub arguments_good : list_all (fits n) arguments ≡ true
    pub returned_good : option_fits (fits n) returned ≡ true
    pub thrown_good : list_all (thrown_fits n) thrown ≡ true
    pub text_is : text ≡ 40 ∷ spelled_each spelled arguments (41 ∷ spelled_result returned (spelled_each spelled_thrown thrown []))
    pub value_is : value ≡ (map (made make) arguments, made_option make returned, map (made make) thrown)
    pub rest_is : rest ≡ []

  types_taken : (text : List ℕ) (value : List A × Option A × List A) (rest : List ℕ) → types_at make n text ≡ Some (value, rest) → TypesTaken text value rest
  types_taken text value rest e =
      let f = next_from (arguments_of_method_at make n text) _ _ e in
      let arguments = arguments_of_taken text f.value f.rest f.is_found in
      let g = next_from (result_at make n f.rest) _ _ f.follows in
      let returned = result_taken f.rest g.value g.rest g.is_found in
      let h = next_from (many not_empty (thrown_at make n) put [] g.rest) _ _ g.follows in
      let thrown = many_takes not_empty (thrown_at make n) put spelled_thrown (made make) (thrown_fits n) thrown_taken [] g.rest h.value h.rest h.is_found in
      let thrown_are = thrown.state_is ∙ put_each (made make) [] thrown.from in
      let end = empty_from h.rest thrown.stops in
      let both_is : ((f.value, g.value, h.value), h.rest) ≡ (value, rest) = cc in
      record {
        arguments = arguments.from;
        returned = returned.from;
        thrown = thrown.from;
        arguments_good = arguments.are_good;
        returned_good = returned.is_good;
        thrown_good = thrown.are_good;
        text_is = arguments.text_is ∙ ap (λ (r : List ℕ). 40 ∷ spelled_each spelled arguments.from (41 ∷ r)) (returned.text_is ∙ ap (spelled_result returned.from) (thrown.text_is ∙ ap (spelled_each spelled_thrown thrown.from) end));
        value_is = sym (ap (λ (r : (List A × Option A × List A) × List ℕ). r.0) both_is)
            ∙ ap (λ (v : List A). (v, g.value, h.value)) arguments.value_is ∙ ap (λ (v : Option A). (map (made make) arguments.from, v, h.value)) returned.value_is
            ∙ ap (λ (v : List A). (map (made make) arguments.from, made_option make returned.from, v)) thrown_are;
        rest_is = sym (ap (λ (r : (List A × Option A × List A) × List ℕ). r.1) both_is) ∙ end;
      }

-- Whole signatures.
module _ {A B S P : Type 0} (bounds : Making A B S P) (under : List P → Making A B S P) where
  abbrev pub class_made : ClassSignature → List P × A × List A
  class_made class =
      let params = map (made_parameter bounds) class.parameters in
      (params, made (under params) class.superclass, map (made (under params)) class.interfaces)

  abbrev pub method_made : MethodSignature → List P × List A × Option A × List A
  method_made method =
      let params = map (made_parameter bounds) method.parameters in
      (params, map (made (under params)) method.arguments, made_option (under params) method.returned, map (made (under params)) method.thrown)

  pub class_again : (class : ClassSignature) → class_signature_fits most_open class ≡ true → class_signature_at bounds under most_open (spelled_class class) ≡ Some (class_made class, [])
  class_again class h =
      let params = map (made_parameter bounds) class.parameters in
      let first = both_left (parameters_fit most_open class.parameters) (class_fits most_open class.superclass && list_all (class_fits most_open) class.interfaces) h in
      let others = both_right (parameters_fit most_open class.parameters) (class_fits most_open class.superclass && list_all (class_fits most_open) class.interfaces) h in
      let superclass = both_left (class_fits most_open class.superclass) (list_all (class_fits most_open) class.interfaces) others in
      let is = both_left (is_class class.superclass) (fits most_open class.superclass) superclass in
      let tail = spelled class.superclass (spelled_each spelled class.interfaces []) in
      next_to _ (parameters_again bounds 254 class.parameters tail (sym (parameters_fit_is class.parameters) ∙ first) (class_starts class.superclass (spelled_each spelled class.interfaces []) is).1)
      (next_to _ (supertypes_again (under params) most_open class.superclass class.interfaces superclass (both_right (class_fits most_open class.superclass) (list_all (class_fits most_open) class.interfaces) others)) refl)

  pub method_again : (method : MethodSignature) → method_signature_fits most_open method ≡ true → method_signature_at bounds under most_open (spelled_method method) ≡ Some (method_made method, [])
  method_again method h =
      let params = map (made_parameter bounds) method.parameters in
      let front = both_left (parameters_fit most_open method.parameters && list_all (fits most_open) method.arguments) (option_fits (fits most_open) method.returned && list_all (thrown_fits most_open) method.thrown) h in
      let back = both_right (parameters_fit most_open method.parameters && list_all (fits most_open) method.arguments) (option_fits (fits most_open) method.returned && list_all (thrown_fits most_open) method.thrown) h in
      let first = both_left (parameters_fit most_open method.parameters) (list_all (fits most_open) method.arguments) front in
      let tail = 40 ∷ spelled_each spelled method.arguments (41 ∷ spelled_result method.returned (spelled_each spelled_thrown method.thrown [])) in
      next_to _ (parameters_again bounds 254 method.parameters tail (sym (parameters_fit_is method.parameters) ∙ first) refl)
      (next_to _ (types_again (under params) most_open method.arguments method.returned method.thrown (both_right (parameters_fit most_open method.parameters) (list_all (fits most_open) method.arguments) front)
      (both_left (option_fits (fits most_open) method.returned) (list_all (thrown_fits most_open) method.thrown) back) (both_right (option_fits (fits most_open) method.returned) (list_all (thrown_fits most_open) method.thrown) back))
      refl)

  pub record ClassTaken (text : List ℕ) (value : List P × A × List A) : Type 0 where
    pub from : ClassSignature
    pub is_good : class_signature_fits most_open from ≡ true
    pub text_is : text ≡ spelled_class from
    pub value_is : value ≡ class_made from

  pub class_taken : (text : List ℕ) (value : List P × A × List A) (rest : List ℕ) → class_signature_at bounds under most_open text ≡ Some (value, rest) → ClassTaken text value
  class_taken text value rest e =
      let f = next_from (parameters_at bounds (inside bounds most_open) text) _ _ e in
      let params = parameters_taken bounds 254 text f.value f.rest f.is_found in
      let g = next_from (supertypes_at (under f.value) most_open f.rest) _ _ f.follows in
      let above = supertypes_taken (under f.value) most_open f.rest g.value g.rest g.is_found in
      let both_is : ((f.value, g.value.0, g.value.1), g.rest) ≡ (value, rest) = cc in
      let from : ClassSignature = record { parameters = params.from; superclass = above.superclass; interfaces = above.interfaces } in
      record {
        from = from;
        is_good = both (parameters_fit most_open params.from) (class_fits most_open above.superclass && list_all (class_fits most_open) above.interfaces)
            (parameters_fit_is params.from ∙ params.is_good)
            (both (class_fits most_open above.superclass) (list_all (class_fits most_open) above.interfaces) above.first_good above.others_good);
        text_is = params.text_is ∙ ap (spelled_parameters params.from) above.text_is;
        value_is = sym (ap (λ (r : (List P × A × List A) × List ℕ). r.0) both_is)
            ∙ ap (λ (v : A × List A). (f.value, v.0, v.1)) above.value_is
            ∙ ap (λ (p : List P). (p, made (under p) above.superclass, map (made (under p)) above.interfaces)) params.value_is;
      }

  pub record MethodTaken (text : List ℕ) (value : List P × List A × Option A × List A) : Type 0 where
    pub from : MethodSignature
    pub is_good : method_signature_fits most_open from ≡ true
    pub text_is : text ≡ spelled_method from
    pub value_is : value ≡ method_made from

  pub method_taken : (text : List ℕ) (value : List P × List A × Option A × List A) (rest : List ℕ) → method_signature_at bounds under most_open text ≡ Some (value, rest) → MethodTaken text value
  method_taken text value rest e =
      let f = next_from (parameters_at bounds (inside bounds most_open) text) _ _ e in
      let params = parameters_taken bounds 254 text f.value f.rest f.is_found in
      let g = next_from (types_at (under f.value) most_open f.rest) _ _ f.follows in
      let types = types_taken (under f.value) most_open f.rest g.value g.rest g.is_found in
      let both_is : ((f.value, g.value.0, g.value.1, g.value.2), g.rest) ≡ (value, rest) = cc in
      let from : MethodSignature = record { parameters = params.from; arguments = types.arguments; returned = types.returned; thrown = types.thrown } in
      record {
        from = from;
        is_good = both (parameters_fit most_open params.from && list_all (fits most_open) types.arguments) (option_fits (fits most_open) types.returned && list_all (thrown_fits most_open) types.thrown)
            (both (parameters_fit most_open params.from) (list_all (fits most_open) types.arguments) (parameters_fit_is params.from ∙ params.is_good) types.arguments_good)
            (both (option_fits (fits most_open) types.returned) (list_all (thrown_fits most_open) types.thrown) types.returned_good types.thrown_good);
        text_is = params.text_is ∙ ap (spelled_parameters params.from) types.text_is;
        value_is = sym (ap (λ (r : (List P × List A × Option A × List A) × List ℕ). r.0) both_is)
            ∙ ap (λ (v : List A × Option A × List A). (f.value, v.0, v.1, v.2)) types.value_is
            ∙ ap (λ (p : List P). (p, map (made (under p)) types.arguments, made_option (under p) types.returned, map (made (under p)) types.thrown)) params.value_is;
      }
