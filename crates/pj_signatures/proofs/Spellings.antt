-- Names and signs, read again and taken.
use Rattle.std.proofs.Common.{◌≡◌, ◌++◌, ◌<◌, ◌≤◌, ℕ, Bool, true, false, List, [], ◌∷◌, length, ap, refl, sym, ◌∙◌, arith, length-append}
use Rattle.std.specs.Prelude.{◌&&◌, ◌==◌, Option, Some, None, not, cond}
use Rattle.std.specs.List.{list_all}
use Rattle.std.proofs.lemmas.Bool.{eqb-true}
use Rattle.std.proofs.lemmas.Bool.Decides.{nat_tests}
use Rattle.pj_signatures.specs.Names.{is_none_of, identifier_signs, is_identifier, is_path}
use Rattle.pj_signatures.specs.Signature.{TypeSignature, BaseType, ClassType, TypeVariable, ArrayType, TypeArguments, NoArguments, Argument, TypeArgument, Anything, Exactly, Extends, Super, Suffixes, NoSuffix, Suffix, spelled, spelled_arguments, spelled_further, spelled_argument, spelled_suffixes}
use Rattle.pj_signatures.specs.Reading.{behind, begins, run, past_run, end_signs, if_behind, next, expect, identifier_at, path_at}
use Rattle.pj_signatures.proofs.Runs.{run_parts}
use Rattle.pj_signatures.proofs.Pieces.{names_from, both_left, both_right, both, piece_begins, identifier_all}

-- the parts of a reading that is known
pub pair_from : {A : Type 0} (p q : A × List ℕ) → Some p ≡ Some q → (p.0 ≡ q.0) × (p.1 ≡ q.1)
pair_from {A} p q e = let same : p ≡ q = cc in (ap (λ (r : A × List ℕ). r.0) same, ap (λ (r : A × List ℕ). r.1) same)

-- what follows a reading that is known
pub next_to : {A C : Type 0} {found : Option (A × List ℕ)} (more : A → List ℕ → Option C) {value : A} {rest : List ℕ} {all : Option C}
    → found ≡ Some (value, rest) → more value rest ≡ all → next found more ≡ all
next_to more e h = ap (λ o. next o more) e ∙ h

-- a reading that was followed
pub record Followed (A C : Type 0) (found : Option (A × List ℕ)) (more : A → List ℕ → Option C) (all : C) : Type 0 where
  pub value : A
  pub rest : List ℕ
  pub is_found : found ≡ Some (value, rest)
  pub follows : more value rest ≡ Some all

pub next_from : {A C : Type 0} (found : Option (A × List ℕ)) (more : A → List ℕ → Option C) (all : C) → next found more ≡ Some all → Followed A C found more all
next_from None more all e = absurd cc
next_from (Some pair) more all e = record { value = pair.0; rest = pair.1; is_found = refl; follows = e }

pub behind_none : (sign : ℕ) (text : List ℕ) → begins sign text ≡ false → behind sign text ≡ None
behind_none sign [] h = refl
behind_none sign (b ∷ bs) h = rw h refl

pub behind_from : (sign : ℕ) (text rest : List ℕ) → behind sign text ≡ Some rest → text ≡ sign ∷ rest
behind_from sign [] rest e = absurd cc
behind_from sign (b ∷ bs) rest e = at (b == sign) refl e
  where
    at : (test : Bool) → (b == sign) ≡ test → cond test (Some bs) None ≡ Some rest → b ∷ bs ≡ sign ∷ rest
    at true is k = let same : b ≡ sign = eqb-true b sign is in cc
    at false is k = absurd cc

-- a sign that had to stand there
pub record Expected (C : Type 0) (sign : ℕ) (text : List ℕ) (more : List ℕ → Option C) (all : C) : Type 0 where
  pub rest : List ℕ
  pub text_is : text ≡ sign ∷ rest
  pub follows : more rest ≡ Some all

pub expect_from : {C : Type 0} (sign : ℕ) (text : List ℕ) (more : List ℕ → Option C) (all : C) → expect sign text more ≡ Some all → Expected C sign text more all
expect_from {C} sign text more all e = at (behind sign text) refl e
  where
    at : (found : Option (List ℕ)) → behind sign text ≡ found → if_behind found more None ≡ Some all → Expected C sign text more all
    at None is k = absurd cc
    at (Some rest) is k = record { rest = rest; text_is = behind_from sign text rest is; follows = k }

-- a text that ends a name
abbrev pub ends_name : List ℕ → Bool
ends_name [] = true
ends_name (b ∷ bs) = not (is_none_of end_signs b)

ends_run : (tail : List ℕ) → ends_name tail ≡ true → (run end_signs tail ≡ []) × (past_run end_signs tail ≡ tail)
ends_run [] h = (refl, refl)
ends_run (b ∷ bs) h = at (is_none_of end_signs b) refl h
  where
    at : (test : Bool) → is_none_of end_signs b ≡ test → not test ≡ true → (run end_signs (b ∷ bs) ≡ []) × (past_run end_signs (b ∷ bs) ≡ b ∷ bs)
    at true is k = absurd cc
    at false is k = (rw is refl, rw is refl)

run_again : (name tail : List ℕ) → list_all (is_none_of end_signs) name ≡ true → ends_name tail ≡ true → run end_signs (name ++ tail) ≡ name
run_again [] tail h k = (ends_run tail k).0
run_again (b ∷ bs) tail h k =
    rw (both_left (is_none_of end_signs b) (list_all (is_none_of end_signs) bs) h) (ap (λ (r : List ℕ). b ∷ r) (run_again bs tail (both_right (is_none_of end_signs b) (list_all (is_none_of end_signs) bs) h) k))

pub past_again : (name tail : List ℕ) → list_all (is_none_of end_signs) name ≡ true → ends_name tail ≡ true → past_run end_signs (name ++ tail) ≡ tail
past_again [] tail h k = (ends_run tail k).1
past_again (b ∷ bs) tail h k =
    rw (both_left (is_none_of end_signs b) (list_all (is_none_of end_signs) bs) h) (past_again bs tail (both_right (is_none_of end_signs b) (list_all (is_none_of end_signs) bs) h) k)

keeps : (b : ℕ) → is_none_of identifier_signs b ≡ true → is_none_of end_signs b ≡ true
keeps b h = grind (arith, nat_tests)

all_keep : (bs : List ℕ) → list_all (is_none_of identifier_signs) bs ≡ true → list_all (is_none_of end_signs) bs ≡ true
all_keep [] h = refl
all_keep (b ∷ bs) h =
    both (is_none_of end_signs b) (list_all (is_none_of end_signs) bs) (keeps b (both_left (is_none_of identifier_signs b) (list_all (is_none_of identifier_signs) bs) h))
    (all_keep bs (both_right (is_none_of identifier_signs b) (list_all (is_none_of identifier_signs) bs) h))

pub identifier_keeps : (name : List ℕ) → is_identifier name ≡ true → list_all (is_none_of end_signs) name ≡ true
identifier_keeps name h = all_keep name (identifier_all name h)

path_from : (path : List ℕ) (begun : Bool) → names_from identifier_signs begun path ≡ true → list_all (is_none_of end_signs) path ≡ true
path_from [] begun h = refl
path_from (b ∷ bs) begun h = at (b == 47) refl (path_from bs true) (path_from bs false)
  where
    solidus : (begun : Bool) → (b == 47) ≡ true → names_from identifier_signs begun (b ∷ bs) ≡ true → names_from identifier_signs false bs ≡ true
    solidus true is k = rw is at k
    solidus false is k = absurd (let no : false ≡ true = rw is at k in cc)

    at : (test : Bool) → (b == 47) ≡ test → (names_from identifier_signs true bs ≡ true → list_all (is_none_of end_signs) bs ≡ true) → (names_from identifier_signs false bs ≡ true → list_all (is_none_of end_signs) bs ≡ true)
        → list_all (is_none_of end_signs) (b ∷ bs) ≡ true
    at true is on off =
        let same : b ≡ 47 = eqb-true b 47 is in
        both (is_none_of end_signs b) (list_all (is_none_of end_signs) bs) (rw same refl) (off (solidus begun is h))
    at false is on off =
        let k : (is_none_of identifier_signs b && names_from identifier_signs true bs) ≡ true = sym (piece_begins identifier_signs b begun _ bs refl is) ∙ h in
        both (is_none_of end_signs b) (list_all (is_none_of end_signs) bs) (keeps b (both_left (is_none_of identifier_signs b) (names_from identifier_signs true bs) k))
        (on (both_right (is_none_of identifier_signs b) (names_from identifier_signs true bs) k))

pub path_keeps : (path : List ℕ) → is_path path ≡ true → list_all (is_none_of end_signs) path ≡ true
path_keeps path h = path_from path false h

pub identifier_again : (name tail : List ℕ) → is_identifier name ≡ true → ends_name tail ≡ true → identifier_at (name ++ tail) ≡ Some (name, tail)
identifier_again name tail h k = rw (run_again name tail (identifier_keeps name h) k, past_again name tail (identifier_keeps name h) k, h) refl

pub path_again : (path tail : List ℕ) → is_path path ≡ true → ends_name tail ≡ true → path_at (path ++ tail) ≡ Some (path, tail)
path_again path tail h k = rw (run_again path tail (path_keeps path h) k, past_again path tail (path_keeps path h) k, h) refl

pub identifier_taken : (text name rest : List ℕ) → identifier_at text ≡ Some (name, rest) → (is_identifier name ≡ true) × (text ≡ name ++ rest)
identifier_taken text name rest e = at (is_identifier (run end_signs text)) refl e
  where
    at : (test : Bool) → is_identifier (run end_signs text) ≡ test → cond {A = Option (List ℕ × List ℕ)} test (Some (run end_signs text, past_run end_signs text)) None ≡ Some (name, rest) → (is_identifier name ≡ true) × (text ≡ name ++ rest)
    at true is k =
        let same = pair_from {A = List ℕ} (run end_signs text, past_run end_signs text) (name, rest) k in
        let first : run end_signs text ≡ name = same.0 in
        let second : past_run end_signs text ≡ rest = same.1 in
        (rw (← first) is, rw (← first, ← second) (sym (run_parts end_signs text)))
    at false is k = absurd cc

pub path_taken : (text path rest : List ℕ) → path_at text ≡ Some (path, rest) → (is_path path ≡ true) × (text ≡ path ++ rest)
path_taken text path rest e = at (is_path (run end_signs text)) refl e
  where
    at : (test : Bool) → is_path (run end_signs text) ≡ test → cond {A = Option (List ℕ × List ℕ)} test (Some (run end_signs text, past_run end_signs text)) None ≡ Some (path, rest) → (is_path path ≡ true) × (text ≡ path ++ rest)
    at true is k =
        let same = pair_from {A = List ℕ} (run end_signs text, past_run end_signs text) (path, rest) k in
        let first : run end_signs text ≡ path = same.0 in
        let second : past_run end_signs text ≡ rest = same.1 in
        (rw (← first) is, rw (← first, ← second) (sym (run_parts end_signs text)))
    at false is k = absurd cc

-- Each spelling takes a byte at least, or none where nothing need be written.
mutual
  pub longer : (sig : TypeSignature) (rest : List ℕ) → length rest < length (spelled sig rest)
  longer (BaseType prim) rest = omega arith
  longer (ClassType path arguments suffixes) rest =
      let tail = spelled_suffixes suffixes (59 ∷ rest) in
      let a = arguments_longer arguments tail in
      let s = suffixes_longer suffixes (59 ∷ rest) in
      let l = length-append path (spelled_arguments arguments tail) in
      omega (arith, a, s, l)
  longer (TypeVariable name) rest = let l = length-append name (59 ∷ rest) in omega (arith, l)
  longer (ArrayType member) rest = let m = longer member rest in omega (arith, m)

  pub arguments_longer : (arguments : TypeArguments) (rest : List ℕ) → length rest ≤ length (spelled_arguments arguments rest)
  arguments_longer NoArguments rest = omega arith
  arguments_longer (Argument first more) rest =
      let f = argument_longer first (spelled_further more (62 ∷ rest)) in
      let m = further_longer more (62 ∷ rest) in
      omega (arith, f, m)

  further_longer : (arguments : TypeArguments) (rest : List ℕ) → length rest ≤ length (spelled_further arguments rest)
  further_longer NoArguments rest = omega arith
  further_longer (Argument first more) rest =
      let f = argument_longer first (spelled_further more rest) in
      let m = further_longer more rest in
      omega (arith, f, m)

  pub argument_longer : (argument : TypeArgument) (rest : List ℕ) → length rest < length (spelled_argument argument rest)
  argument_longer Anything rest = omega arith
  argument_longer (Exactly ty) rest = longer ty rest
  argument_longer (Extends ty) rest = let m = longer ty rest in omega (arith, m)
  argument_longer (Super ty) rest = let m = longer ty rest in omega (arith, m)

  pub suffixes_longer : (suffixes : Suffixes) (rest : List ℕ) → length rest ≤ length (spelled_suffixes suffixes rest)
  suffixes_longer NoSuffix rest = omega arith
  suffixes_longer (Suffix name arguments more) rest =
      let tail = spelled_suffixes more rest in
      let a = arguments_longer arguments tail in
      let s = suffixes_longer more rest in
      let l = length-append name (spelled_arguments arguments tail) in
      omega (arith, a, s, l)
