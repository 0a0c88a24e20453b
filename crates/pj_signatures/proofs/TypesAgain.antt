-- The reading of types is the spelling of types: what is spelled is read again, and what is read is spelled.
use Rattle.std.proofs.Common.{◌≡◌, ◌++◌, ℕ, zero, suc, ◌⊎◌, inl, inr, Bool, true, false, List, [], ◌∷◌, length, map, ap, refl, ◌∙◌, arith, length-append}
use Rattle.std.specs.Prelude.{◌&&◌, ◌||◌, ◌==◌, Option, Some, None, nat_lt, nat_le, not, cond}
use Rattle.std.specs.List.{list_all}
use Rattle.std.proofs.lemmas.Bool.Decides.{nat_tests}
use Rattle.pj_names.specs.declared.ty.PrimitiveType.TheVariants.{Boolean, Byte, Short, Int, Long, Char, Float, Double}
use Rattle.pj_signatures.specs.Names.{is_identifier, is_path}
use Rattle.pj_signatures.specs.Signature.{TypeSignature, BaseType, ClassType, TypeVariable, ArrayType, TypeArguments, NoArguments, Argument, TypeArgument, Anything, Exactly, Extends, Super, Suffixes, NoSuffix, Suffix, count, is_reference, spelled, spelled_arguments, spelled_further, spelled_argument, spelled_suffixes, spelled_each, fits, arguments_fit, further_fit, argument_fits, suffixes_fit}
use Rattle.pj_signatures.specs.Types.{Making, made, made_arguments, made_argument, made_suffixes}
use Rattle.pj_signatures.specs.Reading.{begins, if_behind, next, one, many, put, not_at, begins_reference, reference_by, argument_at, listed_at, arguments_at, suffix_at, extended, inside, type_at}
use Rattle.pj_signatures.proofs.Pieces.{both_left, both_right, both}
use Rattle.pj_signatures.proofs.Spellings.{next_to, behind_none, ends_name, identifier_again, path_again, arguments_longer, argument_longer}
use Rattle.pj_signatures.proofs.Repeated.{Each, IsReadAgain, folded, many_again, put_each}

-- Lists of the syntax as lists.

abbrev pub list_of : TypeArguments → List TypeArgument
list_of NoArguments = []
list_of (Argument first rest) = first ∷ list_of rest

abbrev pub from_list : List TypeArgument → TypeArguments
from_list [] = NoArguments
from_list (first ∷ rest) = Argument first (from_list rest)

abbrev pub parts_of : Suffixes → List (List ℕ × TypeArguments)
parts_of NoSuffix = []
parts_of (Suffix name arguments rest) = (name, arguments) ∷ parts_of rest

abbrev pub from_parts : List (List ℕ × TypeArguments) → Suffixes
from_parts [] = NoSuffix
from_parts (part ∷ rest) = Suffix part.0 part.1 (from_parts rest)

abbrev pub spelled_part : List ℕ × TypeArguments → List ℕ → List ℕ
spelled_part part rest = 46 ∷ (part.0 ++ spelled_arguments part.1 rest)

abbrev pub part_fits : ℕ → List ℕ × TypeArguments → Bool
part_fits n part = is_identifier part.0 && arguments_fit n part.1

further_is : (arguments : TypeArguments) (rest : List ℕ) → spelled_further arguments rest ≡ spelled_each spelled_argument (list_of arguments) rest
further_is NoArguments rest = refl
further_is (Argument first more) rest = ap (spelled_argument first) (further_is more rest)

pub further_is_from : (list : List TypeArgument) (rest : List ℕ) → spelled_further (from_list list) rest ≡ spelled_each spelled_argument list rest
further_is_from [] rest = refl
further_is_from (first ∷ more) rest = ap (spelled_argument first) (further_is_from more rest)

pub fits_from : (n : ℕ) (list : List TypeArgument) → further_fit n (from_list list) ≡ list_all (argument_fits n) list
fits_from n [] = refl
fits_from n (first ∷ more) = ap (λ (b : Bool). argument_fits n first && b) (fits_from n more)

pub count_from : (list : List TypeArgument) → count (from_list list) ≡ length list
count_from [] = refl
count_from (first ∷ more) = ap suc (count_from more)

count_is : (arguments : TypeArguments) → length (list_of arguments) ≡ count arguments
count_is NoArguments = refl
count_is (Argument first more) = ap suc (count_is more)

parts_are : (suffixes : Suffixes) (rest : List ℕ) → spelled_suffixes suffixes rest ≡ spelled_each spelled_part (parts_of suffixes) rest
parts_are NoSuffix rest = refl
parts_are (Suffix name arguments more) rest = ap (λ (r : List ℕ). 46 ∷ (name ++ spelled_arguments arguments r)) (parts_are more rest)

pub parts_are_from : (parts : List (List ℕ × TypeArguments)) (rest : List ℕ) → spelled_suffixes (from_parts parts) rest ≡ spelled_each spelled_part parts rest
parts_are_from [] rest = refl
parts_are_from (part ∷ more) rest = ap (λ (r : List ℕ). 46 ∷ (part.0 ++ spelled_arguments part.1 r)) (parts_are_from more rest)

and_assoc : (a b c : Bool) → ((a && b) && c) ≡ (a && (b && c))
and_assoc true b c = refl
and_assoc false b c = refl

pub parts_fit_from : (n : ℕ) (parts : List (List ℕ × TypeArguments)) → list_all (part_fits n) parts ≡ true → suffixes_fit n (from_parts parts) ≡ true
parts_fit_from n [] h = refl
parts_fit_from n (part ∷ more) h =
    let here = both_left (part_fits n part) (list_all (part_fits n) more) h in
    both (is_identifier part.0) (arguments_fit n part.1 && suffixes_fit n (from_parts more)) (both_left (is_identifier part.0) (arguments_fit n part.1) here)
    (both (arguments_fit n part.1) (suffixes_fit n (from_parts more)) (both_right (is_identifier part.0) (arguments_fit n part.1) here)
    (parts_fit_from n more (both_right (part_fits n part) (list_all (part_fits n) more) h)))

-- What ends a name or a list of type arguments.

pub ends_suffixes : (suffixes : Suffixes) (rest : List ℕ) → ends_name (spelled_suffixes suffixes (59 ∷ rest)) ≡ true
ends_suffixes NoSuffix rest = refl
ends_suffixes (Suffix _ _ _) rest = refl

pub ends_arguments : (arguments : TypeArguments) (rest : List ℕ) → ends_name rest ≡ true → ends_name (spelled_arguments arguments rest) ≡ true
ends_arguments NoArguments rest h = h
ends_arguments (Argument first more) rest h = refl

-- what may stand behind a member class: another one, or the end of the class type
abbrev pub ends_part : List ℕ → Bool
ends_part [] = false
ends_part (b ∷ bs) = b == 46 || b == 59

-- a type argument begins with no angle bracket that closes
pub starts_type : (sig : TypeSignature) (rest : List ℕ) → begins 62 (spelled sig rest) ≡ false
starts_type (BaseType Boolean) rest = refl
starts_type (BaseType Byte) rest = refl
starts_type (BaseType Short) rest = refl
starts_type (BaseType Int) rest = refl
starts_type (BaseType Long) rest = refl
starts_type (BaseType Char) rest = refl
starts_type (BaseType Float) rest = refl
starts_type (BaseType Double) rest = refl
starts_type (ClassType _ _ _) rest = refl
starts_type (TypeVariable name) rest = refl
starts_type (ArrayType member) rest = refl

starts_argument : (argument : TypeArgument) (rest : List ℕ) → begins 62 (spelled_argument argument rest) ≡ false
starts_argument Anything rest = refl
starts_argument (Exactly ty) rest = starts_type ty rest
starts_argument (Extends ty) rest = refl
starts_argument (Super ty) rest = refl

pub reference_starts : (sig : TypeSignature) (rest : List ℕ) → is_reference sig ≡ true → begins_reference (spelled sig rest) ≡ true
reference_starts (BaseType prim) rest h = absurd cc
reference_starts (ClassType _ _ _) rest h = refl
reference_starts (TypeVariable name) rest h = refl
reference_starts (ArrayType member) rest h = refl

-- a text that begins as a reference type does is one's
pub reference_from : (sig : TypeSignature) (rest : List ℕ) → begins_reference (spelled sig rest) ≡ true → is_reference sig ≡ true
reference_from (BaseType Boolean) rest h = absurd cc
reference_from (BaseType Byte) rest h = absurd cc
reference_from (BaseType Short) rest h = absurd cc
reference_from (BaseType Int) rest h = absurd cc
reference_from (BaseType Long) rest h = absurd cc
reference_from (BaseType Char) rest h = absurd cc
reference_from (BaseType Float) rest h = absurd cc
reference_from (BaseType Double) rest h = absurd cc
reference_from (ClassType _ _ _) rest h = refl
reference_from (TypeVariable name) rest h = refl
reference_from (ArrayType member) rest h = refl

pub part_ends_name : (rest : List ℕ) → ends_part rest ≡ true → ends_name rest ≡ true
part_ends_name [] h = refl
part_ends_name (b ∷ bs) h = grind (arith, nat_tests)

part_not_open : (rest : List ℕ) → ends_part rest ≡ true → begins 60 rest ≡ false
part_not_open [] h = refl
part_not_open (b ∷ bs) h = grind (arith, nat_tests)

suffixes_not_open : (suffixes : Suffixes) (rest : List ℕ) → begins 60 (spelled_suffixes suffixes (59 ∷ rest)) ≡ false
suffixes_not_open NoSuffix rest = refl
suffixes_not_open (Suffix _ _ _) rest = refl

few_enough : (k : ℕ) → nat_le k 254 ≡ true → (nat_lt 0 (suc k) && nat_le (suc k) 255) ≡ true
few_enough k h = grind (arith, nat_tests)

pub at_most_255 : (k : ℕ) → (nat_lt 0 (suc k) && nat_le (suc k) 255) ≡ true → nat_le k 254 ≡ true
at_most_255 k h = grind (arith, nat_tests)

-- what is read is one of two
unfoldable pub Chosen : {C : Type 0} → Option (List ℕ) → (List ℕ → Option C) → Option C → C → Type 0
Chosen found more other all = ((rest : List ℕ) × (found ≡ Some rest) × (more rest ≡ Some all)) ⊎ ((found ≡ None) × (other ≡ Some all))

pub chosen : {C : Type 0} (found : Option (List ℕ)) (more : List ℕ → Option C) (other : Option C) (all : C) → if_behind found more other ≡ Some all → Chosen found more other all
unfolding Chosen
chosen None more other all e = inr (refl, e)
chosen (Some rest) more other all e = inl (rest, refl, e)

module _ {A B S P : Type 0} (make : Making A B S P) where
  abbrev inner : ℕ → List ℕ → Option (A × List ℕ)
  inner n = inside make n

  -- how the members of the two lists are read
  abbrev pub ArgumentAgain : ℕ → TypeArgument → Type 0
  ArgumentAgain n = IsReadAgain (not_at 62) (λ text. true) (argument_at make (inner (suc n))) spelled_argument (made_argument make)

  abbrev pub made_part : List ℕ × TypeArguments → List ℕ × List B
  made_part part = (part.0, made_arguments make part.1)

  abbrev pub PartAgain : ℕ → List ℕ × TypeArguments → Type 0
  PartAgain n = IsReadAgain (begins 46) ends_part (suffix_at make n (inner n)) spelled_part made_part

  arguments_are : (arguments : TypeArguments) → map (made_argument make) (list_of arguments) ≡ made_arguments make arguments
  arguments_are NoArguments = refl
  arguments_are (Argument first more) = ap (λ (r : List B). made_argument make first ∷ r) (arguments_are more)

  pub arguments_are_from : (list : List TypeArgument) → map (made_argument make) list ≡ made_arguments make (from_list list)
  arguments_are_from [] = refl
  arguments_are_from (first ∷ more) = ap (λ (r : List B). made_argument make first ∷ r) (arguments_are_from more)

  pub made_count : (arguments : TypeArguments) → length (made_arguments make arguments) ≡ count arguments
  made_count NoArguments = refl
  made_count (Argument first more) = ap suc (made_count more)

  parts_made : (suffixes : Suffixes) (so_far : S) → folded (extended make) made_part so_far (parts_of suffixes) ≡ made_suffixes make suffixes so_far
  parts_made NoSuffix so_far = refl
  parts_made (Suffix name arguments more) so_far = parts_made more (make.member so_far name (made_arguments make arguments))

  pub parts_made_from : (parts : List (List ℕ × TypeArguments)) (so_far : S) → folded (extended make) made_part so_far parts ≡ made_suffixes make (from_parts parts) so_far
  parts_made_from [] so_far = refl
  parts_made_from (part ∷ more) so_far = parts_made_from more (make.member so_far part.0 (made_arguments make part.1))

  -- a list of type arguments is read again, once each is
  list_again : (n : ℕ) (first : TypeArgument) (more : TypeArguments) (rest : List ℕ) → nat_le (count more) 254 ≡ true → Each (ArgumentAgain n) (list_of (Argument first more))
      → listed_at make (inner (suc n)) (spelled_argument first (spelled_further more (62 ∷ rest))) ≡ Some (made_arguments make (Argument first more), rest)
  list_again n first more rest few each =
      let all = list_of (Argument first more) in
      let text_is : spelled_argument first (spelled_further more (62 ∷ rest)) ≡ spelled_each spelled_argument all (62 ∷ rest) = ap (spelled_argument first) (further_is more (62 ∷ rest)) in
      let read = many_again (not_at 62) (λ text. true) (argument_at make (inner (suc n))) put spelled_argument (made_argument make) all each [] (62 ∷ rest) refl refl in
      let values : folded put (made_argument make) [] all ≡ made_arguments make (Argument first more) = put_each (made_argument make) [] all ∙ arguments_are (Argument first more) in
      let enough : (nat_lt 0 (suc (length (made_arguments make more))) && nat_le (suc (length (made_arguments make more))) 255) ≡ true = few_enough (length (made_arguments make more)) (rw (made_count more) few) in
      next_to _ (ap (λ (t : List ℕ). many (not_at 62) (argument_at make (inner (suc n))) put [] t) text_is ∙ read ∙ ap (λ (v : List B). let o : Option (List B × List ℕ) = Some (v, 62 ∷ rest) in o) values)
      (ap (λ (b : Bool). let o : Option (List B × List ℕ) = cond b (Some (made_arguments make (Argument first more), rest)) None in o) enough)

  -- a class type is read again, once its type arguments and its member classes are
  class_again : (n : ℕ) (path : List ℕ) (arguments : TypeArguments) (suffixes : Suffixes) (rest : List ℕ) → is_path path ≡ true
      → ((rest : List ℕ) → begins 60 rest ≡ false → arguments_at make n (inner n) (spelled_arguments arguments rest) ≡ Some (made_arguments make arguments, rest))
      → Each (PartAgain n) (parts_of suffixes)
      → type_at make n (spelled (ClassType path arguments suffixes) rest) ≡ Some (made make (ClassType path arguments suffixes), rest)
  class_again n path arguments suffixes rest good arguments_good each =
      let tail = spelled_suffixes suffixes (59 ∷ rest) in
      let start = make.outer path (made_arguments make arguments) in
      let read = many_again (begins 46) ends_part (suffix_at make n (inner n)) (extended make) spelled_part made_part (parts_of suffixes) each start (59 ∷ rest) refl refl in
      next_to _ (path_again path (spelled_arguments arguments tail) good (ends_arguments arguments tail (ends_suffixes suffixes rest)))
      (next_to _ (arguments_good tail (suffixes_not_open suffixes rest))
      (next_to _ (ap (λ (t : List ℕ). many (begins 46) (suffix_at make n (inner n)) (extended make) start t) (parts_are suffixes (59 ∷ rest)) ∙ read ∙ ap (λ (v : S). let o : Option (S × List ℕ) = Some (v, 59 ∷ rest) in o) (parts_made suffixes start))
      refl))

  pub reference_again : (n : ℕ) (ty : TypeSignature) (rest : List ℕ) → is_reference ty ≡ true → type_at make n (spelled ty rest) ≡ Some (made make ty, rest)
      → reference_by (inner (suc n)) (spelled ty rest) ≡ Some (made make ty, rest)
  unfolding inside
  reference_again n ty rest reference read = rw (reference_starts ty rest reference) read

  exactly_again : (n : ℕ) (ty : TypeSignature) (rest : List ℕ) → is_reference ty ≡ true
      → argument_at make (inner (suc n)) (spelled ty rest) ≡ next (reference_by (inner (suc n)) (spelled ty rest)) (λ made behind. one (make.exactly made) behind)
  exactly_again n (BaseType prim) rest h = absurd cc
  exactly_again n (ClassType _ _ _) rest h = refl
  exactly_again n (TypeVariable name) rest h = refl
  exactly_again n (ArrayType member) rest h = refl

  part_again : (n : ℕ) (name : List ℕ) (arguments : TypeArguments) → is_identifier name ≡ true
      → ((rest : List ℕ) → begins 60 rest ≡ false → arguments_at make n (inner n) (spelled_arguments arguments rest) ≡ Some (made_arguments make arguments, rest))
      → PartAgain n (name, arguments)
  part_again n name arguments good arguments_good = record {
    goes = λ rest h. refl;
    reads = λ rest h. next_to _ (identifier_again name (spelled_arguments arguments rest) good (ends_arguments arguments rest (part_ends_name rest h))) (next_to _ (arguments_good rest (part_not_open rest h)) refl);
    longer = λ rest.
        let a = arguments_longer arguments rest in
        let l = length-append name (spelled_arguments arguments rest) in
        omega (arith, a, l);
    good_again = λ rest h. refl;
  }

  -- What is spelled is read again.
  mutual
    unfolding inside

    pub again : (sig : TypeSignature) (n : ℕ) → fits n sig ≡ true → (rest : List ℕ) → type_at make n (spelled sig rest) ≡ Some (made make sig, rest)
    again (BaseType Boolean) n h rest = refl
    again (BaseType Byte) n h rest = refl
    again (BaseType Short) n h rest = refl
    again (BaseType Int) n h rest = refl
    again (BaseType Long) n h rest = refl
    again (BaseType Char) n h rest = refl
    again (BaseType Float) n h rest = refl
    again (BaseType Double) n h rest = refl
    again (ClassType path arguments suffixes) n h rest =
        let others = both_right (is_path path) (arguments_fit n arguments && suffixes_fit n suffixes) h in
        class_again n path arguments suffixes rest (both_left (is_path path) (arguments_fit n arguments && suffixes_fit n suffixes) h)
        (arguments_again arguments n (both_left (arguments_fit n arguments) (suffixes_fit n suffixes) others))
        (parts_again suffixes n (both_right (arguments_fit n arguments) (suffixes_fit n suffixes) others))
    again (TypeVariable name) n h rest = next_to _ (identifier_again name (59 ∷ rest) h refl) refl
    again (ArrayType member) zero h rest = absurd cc
    again (ArrayType member) (suc n) h rest = next_to _ (again member n h rest) refl

    arguments_again : (arguments : TypeArguments) (n : ℕ) → arguments_fit n arguments ≡ true → (rest : List ℕ) → begins 60 rest ≡ false
        → arguments_at make n (inner n) (spelled_arguments arguments rest) ≡ Some (made_arguments make arguments, rest)
    arguments_again NoArguments n h rest stops = rw (behind_none 60 rest stops) refl
    arguments_again (Argument first more) zero h rest stops = absurd cc
    arguments_again (Argument first more) (suc n) h rest stops =
        let members = both_left (argument_fits n first && further_fit n more) (nat_le (count more) 254) h in
        list_again n first more rest (both_right (argument_fits n first && further_fit n more) (nat_le (count more) 254) h)
        (argument_again first n (both_left (argument_fits n first) (further_fit n more) members), further_again more n (both_right (argument_fits n first) (further_fit n more) members))

    further_again : (arguments : TypeArguments) (n : ℕ) → further_fit n arguments ≡ true → Each (ArgumentAgain n) (list_of arguments)
    further_again NoArguments n h = tt
    further_again (Argument first more) n h =
        (argument_again first n (both_left (argument_fits n first) (further_fit n more) h), further_again more n (both_right (argument_fits n first) (further_fit n more) h))

    argument_again : (argument : TypeArgument) (n : ℕ) → argument_fits n argument ≡ true → ArgumentAgain n argument
    argument_again Anything n h = record { goes = λ rest k. refl; reads = λ rest k. refl; longer = argument_longer Anything; good_again = λ rest k. refl }
    argument_again (Exactly ty) n h =
        let reference = both_left (is_reference ty) (fits n ty) h in
        let read = again ty n (both_right (is_reference ty) (fits n ty) h) in
        record {
          goes = λ rest k. ap not (starts_type ty rest);
          reads = λ rest k. exactly_again n ty rest reference ∙ next_to _ (reference_again n ty rest reference (read rest)) refl;
          longer = argument_longer (Exactly ty);
          good_again = λ rest k. refl;
        }
    argument_again (Extends ty) n h =
        let reference = both_left (is_reference ty) (fits n ty) h in
        let read = again ty n (both_right (is_reference ty) (fits n ty) h) in
        record {
          goes = λ rest k. refl;
          reads = λ rest k. next_to _ (reference_again n ty rest reference (read rest)) refl;
          longer = argument_longer (Extends ty);
          good_again = λ rest k. refl;
        }
    argument_again (Super ty) n h =
        let reference = both_left (is_reference ty) (fits n ty) h in
        let read = again ty n (both_right (is_reference ty) (fits n ty) h) in
        record {
          goes = λ rest k. refl;
          reads = λ rest k. next_to _ (reference_again n ty rest reference (read rest)) refl;
          longer = argument_longer (Super ty);
          good_again = λ rest k. refl;
        }

    parts_again : (suffixes : Suffixes) (n : ℕ) → suffixes_fit n suffixes ≡ true → Each (PartAgain n) (parts_of suffixes)
    parts_again NoSuffix n h = tt
    parts_again (Suffix name arguments more) n h =
        let others = both_right (is_identifier name) (arguments_fit n arguments && suffixes_fit n more) h in (
          part_again n name arguments (both_left (is_identifier name) (arguments_fit n arguments && suffixes_fit n more) h) (arguments_again arguments n (both_left (arguments_fit n arguments) (suffixes_fit n more) others)),
          parts_again more n (both_right (arguments_fit n arguments) (suffixes_fit n more) others),
        )
