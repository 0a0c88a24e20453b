-- A walk gives the list of supertypes, step by step.
use Rattle.std.specs.Prelude.{◌≡◌, ℕ, zero, suc, ◌-◌, ◌≤◌, Bool, true, false, if◌then◌else◌, List, [], ◌∷◌, ◌++◌, map, Option, Some, None, refl, take}
use Rattle.std.proofs.Common.{sym, ◌∙◌, ap, arith, append-nil, append_assoc}
use Rattle.std.proofs.lemmas.List.{map-append}
use Rattle.pj_names.specs.declared.answer.Answer.{Answer}
use Rattle.pj_names.specs.ClassName.{Name, is_object}
use Rattle.pj_names.specs.JavaType.{JavaType}
use Rattle.pj_names.specs.Asking.{Asking, Return, ask, bind, walk, value_of, names_of}
use Rattle.pj_names.specs.Asking as asking
use Rattle.pj_names.proofs.MeaningLaws.{bind-bind, value_of-bind, names_of-bind}
use Rattle.pj_types.proofs.DepthFirstLaws.{visits-walk}
use Rattle.pj_types.specs.WalkAnswers.{and_more, answers}
use Rattle.pj_types.specs.Supertypes.{Listed, first_listed, given_type, name_of, on_listed, direct, search_within, no_hit, supertypes_within, Standing, begin, after_last, last_asked, given_next, of_known, still_left, step}

-- What is still to come of a search from where the walk stands, where at most so many more classes are visited.
unfoldable pub onward : {B : Type 0} → (JavaType → Asking (Option B)) → ℕ → Standing → Asking (Option B × List Listed)
onward test n standing = bind (after_last standing.given) (λ more. walk name_of (on_listed test) direct n standing.given (more ++ standing.to_visit))

-- nothing follows a hit
abbrev pub unless_hit : {B : Type 0} → Option B → Standing → Asking (Option B × List Listed) → Asking (Option B × List Listed)
unless_hit (Some hit) standing rest = Return (Some hit, standing.given)
unless_hit None standing rest = rest

-- what follows a step: nothing at the end of the list, and else the test of the class that was given
abbrev pub tested : {B : Type 0} → (JavaType → Asking (Option B)) → ℕ → Option JavaType → Standing → Asking (Option B × List Listed)
tested test n None standing = Return (None, standing.given)
tested test n (Some ty) standing = bind (test ty) (λ hit. unless_hit hit standing (onward test n standing))

after_last-is : (given : List Listed) (class : Listed) → after_last (given ++ class ∷ []) ≡ direct class
after_last-is [] class = refl
after_last-is (x ∷ []) class = refl
after_last-is (x ∷ (y ∷ ys)) class = after_last-is (y ∷ ys) class

-- A search goes on by steps of a walk.
pub onward-step : {B : Type 0} (test : JavaType → Asking (Option B)) (n : ℕ) (standing : Standing)
    → onward test (suc n) standing ≡ bind (step standing) (λ o. tested test n o.0 o.1)
unfolding onward step
onward-step {B = B} test n standing =
    (λ i. bind (after_last standing.given) (λ more. at (still_left standing.given (more ++ standing.to_visit)) i))
    ∙ sym (bind-bind (after_last standing.given) (λ more. Return (given_next standing (still_left standing.given (more ++ standing.to_visit)))) (λ o. tested test n o.0 o.1))
  where
    hits : (class : Listed) (rest : List Listed) (hit : Option B)
        → asking.hit_or name_of (on_listed test) direct hit (standing.given ++ class ∷ []) (bind (direct class) (λ more. walk name_of (on_listed test) direct n (standing.given ++ class ∷ []) (more ++ rest)))
        ≡ unless_hit hit (record { given = standing.given ++ class ∷ []; to_visit = rest }) (onward test n (record { given = standing.given ++ class ∷ []; to_visit = rest }))
    hits class rest (Some h) = refl
    hits class rest None = ap (λ m. bind m (λ more. walk name_of (on_listed test) direct n (standing.given ++ class ∷ []) (more ++ rest))) (sym (after_last-is standing.given class))

    at : (left : List Listed)
        → asking.visit name_of (on_listed test) direct (λ more_found still. walk name_of (on_listed test) direct n more_found still) standing.given left
        ≡ tested test n (given_next standing left).0 (given_next standing left).1
    at [] = refl
    at (class ∷ rest) = λ i. bind (test (given_type class)) (λ hit. hits class rest hit i)

abbrev pub as_types : {B : Type 0} → Option B × List Listed → Option B × List JavaType
as_types outcome = (outcome.0, map given_type outcome.1)

-- The search is what is to come where a walk begins.
pub search-onward : {B : Type 0} (most : ℕ) (test : JavaType → Asking (Option B)) (name : Name)
    → search_within most test name ≡ bind (onward test most (begin name)) (λ o. Return (as_types o))
unfolding search_within onward
search-onward most test name =
    let all : most - 0 ≡ most = omega arith in
    ap (λ m. bind m (λ o. Return (as_types o)))
    (visits-walk name_of (on_listed test) direct most most [] (first_listed name) (omega arith)
    ∙ (λ i. walk name_of (on_listed test) direct (all i) [] (first_listed name ∷ [])))

-- The first answers of a walk.

module _ (d : ℕ) (w : Name → Answer) where
  abbrev next_of : Standing → Option JavaType × Standing
  next_of standing = given_next standing (still_left standing.given (value_of d w (after_last standing.given) ++ standing.to_visit))

  step-value : (standing : Standing) → value_of d w (step standing) ≡ next_of standing
  unfolding step
  step-value standing = value_of-bind d w (after_last standing.given) (λ more. Return (given_next standing (still_left standing.given (more ++ standing.to_visit))))

  answers-suc : (n : ℕ) (standing : Standing) → value_of d w (answers (suc n) standing) ≡ value_of d w (and_more (answers n) (next_of standing).0 (next_of standing).1)
  answers-suc n standing = value_of-bind d w (step standing) (λ o. and_more (answers n) o.0 o.1) ∙ ap (λ (o : Option JavaType × Standing). value_of d w (and_more (answers n) o.0 o.1)) (step-value standing)

  onward-suc : (n : ℕ) (standing : Standing) → value_of d w (onward no_hit (suc n) standing) ≡ value_of d w (tested no_hit n (next_of standing).0 (next_of standing).1)
  onward-suc n standing =
      ap (λ m. value_of d w m) (onward-step no_hit n standing)
      ∙ value_of-bind d w (step standing) (λ o. tested no_hit n o.0 o.1)
      ∙ ap (λ (o : Option JavaType × Standing). value_of d w (tested no_hit n o.0 o.1)) (step-value standing)

  more-value : (more : Standing → Asking (List JavaType)) (ty : JavaType) (standing : Standing) → value_of d w (and_more more (Some ty) standing) ≡ ty ∷ value_of d w (more standing)
  more-value more ty standing = value_of-bind d w (more standing) (λ types. Return (ty ∷ types))

  -- what a search without hits comes to is what was given, and then all answers
  onward-answers : (n : ℕ) (standing : Standing) → map given_type (value_of d w (onward no_hit n standing)).1 ≡ map given_type standing.given ++ value_of d w (answers n standing)
  unfolding onward
  onward-answers zero standing =
      ap (λ (o : Option (Unit {0}) × List Listed). map given_type o.1) (value_of-bind d w (after_last standing.given) (λ more. Return (None, standing.given)))
      ∙ sym (append-nil (map given_type standing.given))
  onward-answers (suc n) standing =
      ap (λ (o : Option (Unit {0}) × List Listed). map given_type o.1) (onward-suc n standing)
      ∙ at (still_left standing.given (value_of d w (after_last standing.given) ++ standing.to_visit)) (λ further. onward-answers n further)
      ∙ ap (λ l. map given_type standing.given ++ l) (sym (answers-suc n standing))
    where
      at : (left : List Listed) → ((further : Standing) → map given_type (value_of d w (onward no_hit n further)).1 ≡ map given_type further.given ++ value_of d w (answers n further))
          → map given_type (value_of d w (tested no_hit n (given_next standing left).0 (given_next standing left).1)).1
          ≡ map given_type standing.given ++ value_of d w (and_more (answers n) (given_next standing left).0 (given_next standing left).1)
      at [] further = sym (append-nil (map given_type standing.given))
      at (class ∷ rest) further =
          further (record { given = standing.given ++ class ∷ []; to_visit = rest })
          ∙ ap (λ l. l ++ value_of d w (answers n (record { given = standing.given ++ class ∷ []; to_visit = rest }))) (map-append given_type standing.given (class ∷ []))
          ∙ append_assoc (map given_type standing.given) (given_type class ∷ []) (value_of d w (answers n (record { given = standing.given ++ class ∷ []; to_visit = rest })))
          ∙ ap (λ l. map given_type standing.given ++ l) (sym (more-value (answers n) (given_type class) (record { given = standing.given ++ class ∷ []; to_visit = rest })))

  -- fewer answers are the first ones
  answers-take : (n m : ℕ) (standing : Standing) → n ≤ m → value_of d w (answers n standing) ≡ take n (value_of d w (answers m standing))
  answers-take zero m standing h = refl
  answers-take (suc n) zero standing h = absurd (omega arith)
  answers-take (suc n) (suc m) standing h =
      answers-suc n standing
      ∙ at (next_of standing).0 (next_of standing).1 (answers-take n m (next_of standing).1 (omega arith))
      ∙ ap (λ l. take (suc n) l) (sym (answers-suc m standing))
    where
      at : (next : Option JavaType) (further : Standing) → value_of d w (answers n further) ≡ take n (value_of d w (answers m further))
          → value_of d w (and_more (answers n) next further) ≡ take (suc n) (value_of d w (and_more (answers m) next further))
      at None further same = refl
      at (Some ty) further same = more-value (answers n) ty further ∙ ap (λ l. ty ∷ l) same ∙ ap (λ l. take (suc n) l) (sym (more-value (answers m) ty further))

  -- The first answers of a walk are the first members of the list.
  pub answers-prefix : (n most : ℕ) (name : Name) → n ≤ most → value_of d w (answers n (begin name)) ≡ take n (value_of d w (supertypes_within most name))
  answers-prefix n most name h =
      answers-take n most (begin name) h
      ∙ ap (λ l. take n l) (sym (
      value_of-bind d w (search_within most no_hit name) (λ outcome. Return outcome.1)
      ∙ ap (λ (m : Asking (Option (Unit {0}) × List JavaType)). (value_of d w m).1) (search-onward most no_hit name)
      ∙ ap (λ (o : Option (Unit {0}) × List JavaType). o.1) (value_of-bind d w (onward no_hit most (begin name)) (λ o. Return (as_types o)))
      ∙ onward-answers most (begin name)))

-- A step asks the class given last and nothing else.
pub step-asks : (d : ℕ) (w : Name → Answer) (standing : Standing) → names_of d w (step standing) ≡ last_asked standing.given
unfolding step direct
step-asks d w standing =
    names_of-bind d w (after_last standing.given) (λ more. Return (given_next standing (still_left standing.given (more ++ standing.to_visit))))
    ∙ append-nil (names_of d w (after_last standing.given)) ∙ last standing.given
  where
    own : (class : Listed) (b : Bool)
        → names_of d w (bind (let m : Asking (Option Answer) = (if b then Return None else bind (ask class.name) (λ answer. Return (Some answer))) in m) (λ known. Return (of_known class.arguments known)))
        ≡ (if b then [] else class.name ∷ [])
    own class true = refl
    own class false = refl

    one : (class : Listed) → names_of d w (direct class) ≡ (if is_object class.name then [] else class.name ∷ [])
    one class = own class (is_object class.name)

    last : (given : List Listed) → names_of d w (after_last given) ≡ last_asked given
    last [] = refl
    last (class ∷ []) = one class
    last (class ∷ (second ∷ more)) = last (second ∷ more)
