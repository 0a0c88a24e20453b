-- Type parameters: what is spelled is read again.
use Rattle.std.proofs.Common.{◌≡◌, ◌++◌, ◌<◌, ◌≤◌, ℕ, suc, Bool, true, false, List, [], ◌∷◌, length, map, ap, refl, ◌∙◌, arith, length-append}
use Rattle.std.specs.Prelude.{◌&&◌, ◌==◌, Option, Some, None, nat_lt, not, cond}
use Rattle.std.specs.List.{list_all}
use Rattle.std.proofs.lemmas.Bool.Decides.{nat_tests}
use Rattle.pj_signatures.specs.Names.{is_none_of, identifier_signs, is_identifier, is_path}
use Rattle.pj_signatures.specs.Signature.{TypeSignature, BaseType, ClassType, TypeVariable, ArrayType, TypeArguments, NoArguments, Argument, Suffixes, NoSuffix, Suffix, TypeParameter, is_reference, spelled, spelled_arguments, spelled_suffixes, spelled_each, spelled_option, spelled_bound, spelled_parameter, spelled_parameters, fits, arguments_fit, suffixes_fit, reference_fits, option_fits, parameter_fits}
use Rattle.pj_signatures.specs.Types.{Making, made, made_option, made_parameter}
use Rattle.pj_signatures.specs.Reading.{begins, past_run, end_signs, put, not_at, begins_reference, class_bound_at, interface_bound_at, parameter_at, parameters_at, inside}
use Rattle.pj_signatures.proofs.Pieces.{both_left, both_right}
use Rattle.pj_signatures.proofs.Spellings.{next_to, behind_none, past_again, identifier_keeps, path_keeps, identifier_again, longer}
use Rattle.pj_signatures.proofs.Repeated.{Each, IsReadAgain, put_each, many_again}
use Rattle.pj_signatures.proofs.TypesAgain.{reference_starts, reference_again, again, ends_arguments, ends_suffixes}

-- what holds of each member that fits, of each of a list that fit
pub each_from : {W : Type 0} (Holds : W → Type 0) (fits : W → Bool) → ((w : W) → fits w ≡ true → Holds w) → (ws : List W) → list_all fits ws ≡ true → Each Holds ws
each_from Holds fits holds [] h = tt
each_from Holds fits holds (w ∷ ws) h = (holds w (both_left (fits w) (list_all fits ws) h), each_from Holds fits holds ws (both_right (fits w) (list_all fits ws) h))

-- what may stand behind a type parameter
abbrev pub ends_parameter : List ℕ → Bool
ends_parameter rest = not (begins 58 rest) && not (begins_reference rest && not (begins 58 (past_run end_signs rest)))

not_true : (b : Bool) → not b ≡ true → b ≡ false
not_true true h = absurd cc
not_true false h = refl

tail_no_colon : (arguments : TypeArguments) (suffixes : Suffixes) (rest : List ℕ) → begins 58 (spelled_arguments arguments (spelled_suffixes suffixes (59 ∷ rest))) ≡ false
tail_no_colon NoArguments NoSuffix rest = refl
tail_no_colon NoArguments (Suffix _ _ _) rest = refl
tail_no_colon (Argument first more) suffixes rest = refl

-- no bound looks like the name of the next type parameter
no_colon : (n : ℕ) (sig : TypeSignature) (rest : List ℕ) → fits n sig ≡ true → is_reference sig ≡ true → begins 58 (past_run end_signs (spelled sig rest)) ≡ false
no_colon n (BaseType prim) rest h reference = absurd cc
no_colon n (ClassType path arguments suffixes) rest h reference =
    let tail = spelled_arguments arguments (spelled_suffixes suffixes (59 ∷ rest)) in
    let good = both_left (is_path path) (arguments_fit n arguments && suffixes_fit n suffixes) h in
    ap (begins 58) (past_again path tail (path_keeps path good) (ends_arguments arguments (spelled_suffixes suffixes (59 ∷ rest)) (ends_suffixes suffixes rest))) ∙ tail_no_colon arguments suffixes rest
no_colon n (TypeVariable name) rest h reference = ap (begins 58) (past_again name (59 ∷ rest) (identifier_keeps name h) refl)
no_colon n (ArrayType member) rest h reference = refl

name_not_at : (name tail : List ℕ) → is_identifier name ≡ true → (begins 62 (name ++ tail) ≡ false) × (begins 58 (name ++ tail) ≡ false)
name_not_at [] tail h = absurd cc
name_not_at (b ∷ bs) tail h = let good = both_left (is_none_of identifier_signs b) (list_all (is_none_of identifier_signs) bs) h in (not_62 b good, not_58 b good)
  where
    not_62 : (b : ℕ) → is_none_of identifier_signs b ≡ true → (b == 62) ≡ false
    not_62 b k = grind (arith, nat_tests)

    not_58 : (b : ℕ) → is_none_of identifier_signs b ≡ true → (b == 58) ≡ false
    not_58 b k = grind (arith, nat_tests)

bounds_longer : (bounds : List TypeSignature) (rest : List ℕ) → length rest ≤ length (spelled_each spelled_bound bounds rest)
bounds_longer [] rest = omega arith
bounds_longer (bound ∷ more) rest =
    let b = longer bound (spelled_each spelled_bound more rest) in
    let m = bounds_longer more rest in
    omega (arith, b, m)

option_longer : (bound : Option TypeSignature) (rest : List ℕ) → length rest ≤ length (spelled_option spelled bound rest)
option_longer None rest = omega arith
option_longer (Some bound) rest = let b = longer bound rest in omega (arith, b)

pub parameter_longer : (parameter : TypeParameter) (rest : List ℕ) → length rest < length (spelled_parameter parameter rest)
parameter_longer parameter rest =
    let bounds = spelled_each spelled_bound parameter.interface_bounds rest in
    let b = bounds_longer parameter.interface_bounds rest in
    let o = option_longer parameter.class_bound bounds in
    let l = length-append parameter.name (58 ∷ spelled_option spelled parameter.class_bound bounds) in
    omega (arith, b, o, l)

bounds_end : (bounds : List TypeSignature) (rest : List ℕ) → ends_parameter rest ≡ true
    → (begins_reference (spelled_each spelled_bound bounds rest) && not (begins 58 (past_run end_signs (spelled_each spelled_bound bounds rest)))) ≡ false
bounds_end [] rest h = not_true (begins_reference rest && not (begins 58 (past_run end_signs rest))) (both_right (not (begins 58 rest)) (not (begins_reference rest && not (begins 58 (past_run end_signs rest)))) h)
bounds_end (bound ∷ more) rest h = refl

and_false : (a : Bool) → (a && false) ≡ false
and_false true = refl
and_false false = refl

module _ {A B S P : Type 0} (make : Making A B S P) where
  abbrev bound_by : ℕ → List ℕ → Option (A × List ℕ)
  bound_by n = inside make (suc n)

  bound_again : (n : ℕ) (bound : TypeSignature) → reference_fits n bound ≡ true → IsReadAgain (begins 58) (λ text. true) (interface_bound_at make (bound_by n)) spelled_bound (made make) bound
  bound_again n bound h =
      let reference = both_left (is_reference bound) (fits n bound) h in
      let good = both_right (is_reference bound) (fits n bound) h in
      record {
        goes = λ rest k. refl;
        reads = λ rest k. reference_again make n bound rest reference (again make bound n good rest);
        longer = λ rest. let l = longer bound rest in omega (arith, l);
        good_again = λ rest k. refl;
      }

  class_bound_again : (n : ℕ) (bound : Option TypeSignature) (tail : List ℕ) → option_fits (reference_fits n) bound ≡ true
      → (begins_reference tail && not (begins 58 (past_run end_signs tail))) ≡ false
      → class_bound_at make (bound_by n) (spelled_option spelled bound tail) ≡ Some (made_option make bound, tail)
  unfolding inside
  class_bound_again n None tail h none = rw none refl
  class_bound_again n (Some bound) tail h none =
      let reference = both_left (is_reference bound) (fits n bound) h in
      let good = both_right (is_reference bound) (fits n bound) h in
      rw (reference_starts bound tail reference, no_colon n bound tail good reference) (next_to _ (again make bound n good tail) refl)

  pub parameter_again : (n : ℕ) (parameter : TypeParameter) → parameter_fits n parameter ≡ true
      → IsReadAgain (not_at 62) ends_parameter (parameter_at make (bound_by n)) spelled_parameter (made_parameter make) parameter
  parameter_again n parameter h =
      let name = both_left (is_identifier parameter.name) (option_fits (reference_fits n) parameter.class_bound && list_all (reference_fits n) parameter.interface_bounds) h in
      let others = both_right (is_identifier parameter.name) (option_fits (reference_fits n) parameter.class_bound && list_all (reference_fits n) parameter.interface_bounds) h in
      let class_good = both_left (option_fits (reference_fits n) parameter.class_bound) (list_all (reference_fits n) parameter.interface_bounds) others in
      let bounds_good = both_right (option_fits (reference_fits n) parameter.class_bound) (list_all (reference_fits n) parameter.interface_bounds) others in
      let each = each_from (IsReadAgain (begins 58) (λ text. true) (interface_bound_at make (bound_by n)) spelled_bound (made make)) (reference_fits n) (bound_again n) parameter.interface_bounds bounds_good in
      record {
        goes = λ rest k. ap not (name_not_at parameter.name (58 ∷ spelled_option spelled parameter.class_bound (spelled_each spelled_bound parameter.interface_bounds rest)) name).0;
        reads = λ rest k.
            let bounds = spelled_each spelled_bound parameter.interface_bounds rest in
            let no_more = not_true (begins 58 rest) (both_left (not (begins 58 rest)) (not (begins_reference rest && not (begins 58 (past_run end_signs rest)))) k) in
            next_to _ (identifier_again parameter.name (58 ∷ spelled_option spelled parameter.class_bound bounds) name refl)
            (next_to _ (class_bound_again n parameter.class_bound bounds class_good (bounds_end parameter.interface_bounds rest k))
            (next_to _ (many_again (begins 58) (λ text. true) (interface_bound_at make (bound_by n)) put spelled_bound (made make) parameter.interface_bounds each [] rest refl no_more
            ∙ ap (λ (v : List A). let o : Option (List A × List ℕ) = Some (v, rest) in o) (put_each (made make) [] parameter.interface_bounds))
            refl));
        longer = parameter_longer parameter;
        good_again = λ rest k.
            let tail = spelled_option spelled parameter.class_bound (spelled_each spelled_bound parameter.interface_bounds rest) in
            let first = (name_not_at parameter.name (58 ∷ tail) name).1 in
            let past = past_again parameter.name (58 ∷ tail) (identifier_keeps parameter.name name) refl in
            rw (first, past, and_false (begins_reference (parameter.name ++ 58 ∷ tail))) refl;
      }

  some_parameters : (k : ℕ) → nat_lt 0 (suc k) ≡ true
  some_parameters k = grind (arith, nat_tests)

  pub parameters_again : (n : ℕ) (parameters : List TypeParameter) (rest : List ℕ) → list_all (parameter_fits n) parameters ≡ true → begins 60 rest ≡ false
      → parameters_at make (bound_by n) (spelled_parameters parameters rest) ≡ Some (map (made_parameter make) parameters, rest)
  parameters_again n [] rest h stops = rw (behind_none 60 rest stops) refl
  parameters_again n (first ∷ more) rest h stops =
      let all = first ∷ more in
      let each = each_from (IsReadAgain (not_at 62) ends_parameter (parameter_at make (bound_by n)) spelled_parameter (made_parameter make)) (parameter_fits n) (parameter_again n) all h in
      next_to _ (many_again (not_at 62) ends_parameter (parameter_at make (bound_by n)) put spelled_parameter (made_parameter make) all each [] (62 ∷ rest) refl refl
      ∙ ap (λ (v : List P). let o : Option (List P × List ℕ) = Some (v, 62 ∷ rest) in o) (put_each (made_parameter make) [] all))
      (ap (λ (b : Bool). let o : Option (List P × List ℕ) = cond b (Some (map (made_parameter make) all, rest)) None in o) (some_parameters (length (map (made_parameter make) more))))
