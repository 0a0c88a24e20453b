-- In a world that names finitely many classes each class has its list of supertypes.
use Rattle.std.specs.Prelude.{◌≡◌, ℕ, zero, suc, ◌<◌, ◌≤◌, Bool, true, false, ◌||◌, if◌then◌else◌, List, [], ◌∷◌, ◌++◌, map, Option, Some, None, nat_eq, refl}
use Rattle.std.proofs.Common.{sym, ◌∙◌, ap, subst, arith}
use Rattle.std.specs.Cmp.Lexicographic.{pointwise, nat_list_eq_equiv, same_text}
use Rattle.std.proofs.lemmas.List.{map-append}
use Rattle.std.proofs.lemmas.List.Folds.{list_any-append}
use Rattle.pj_names.specs.declared.answer.Answer.{Answer}
use Rattle.pj_names.specs.ClassName.{Name, is_object}
use Rattle.pj_names.specs.JavaType.{JavaType}
use Rattle.pj_names.specs.Asking.{has_name}
use Rattle.pj_names.specs.Meaning.{found_in}
use Rattle.pj_names.specs.AnswerList.{list_world, or_absent}
use Rattle.pj_types.specs.Supertypes.{Listed, first_listed, given_type, name_of, of_known}
use Rattle.pj_types.specs.Listing.{LeadTo, none, skipped, visited_now, AreSupertypes, direct_in}

-- whether a name has an answer on a list
abbrev has_answer : List (Name × Answer) → Name → Bool
has_answer [] name = false
has_answer (pair ∷ rest) name = if pointwise nat_eq pair.0 name then true else has_answer rest name

-- how many of the answers are for names that are not among these
abbrev remaining : List (Name × Answer) → List Name → ℕ
remaining [] names = 0
remaining (pair ∷ rest) names = if has_name names pair.0 then remaining rest names else suc (remaining rest names)

-- with more names no more remain
fewer : (answers : List (Name × Answer)) (names more : List Name) → ((q : Name) → has_name names q ≡ true → has_name more q ≡ true) → remaining answers more ≤ remaining answers names
fewer [] names more keeps = omega arith
fewer (pair ∷ rest) names more keeps = at (has_name names pair.0) (has_name more pair.0) (keeps pair.0) (fewer rest names more keeps)
  where
    at : (before after : Bool) → (before ≡ true → after ≡ true) → remaining rest more ≤ remaining rest names
        → (let n : ℕ = (if after then remaining rest more else suc (remaining rest more)) in n) ≤ (if before then remaining rest names else suc (remaining rest names))
    at true true keep h = h
    at true false keep h = absurd (cc (keep refl))
    at false true keep h = omega (arith, h)
    at false false keep h = omega (arith, h)

-- with one of the answers' names fewer remain
fewer_by : (answers : List (Name × Answer)) (names more : List Name) (name : Name) → has_answer answers name ≡ true → has_name names name ≡ false → has_name more name ≡ true
    → ((q : Name) → has_name names q ≡ true → has_name more q ≡ true) → remaining answers more < remaining answers names
fewer_by [] names more name there new now keeps = absurd (cc there)
fewer_by (pair ∷ rest) names more name there new now keeps = at (pointwise nat_eq pair.0 name) refl (λ found. fewer_by rest names more name found new now keeps) there
  where
    here : (before after : Bool) → before ≡ false → after ≡ true
        → (let n : ℕ = (if after then remaining rest more else suc (remaining rest more)) in n) < (if before then remaining rest names else suc (remaining rest names))
    here true after fresh seen = absurd (cc fresh)
    here false false fresh seen = absurd (cc seen)
    here false true fresh seen = omega (arith, fewer rest names more keeps)

    later : (before after : Bool) → (before ≡ true → after ≡ true) → remaining rest more < remaining rest names
        → (let n : ℕ = (if after then remaining rest more else suc (remaining rest more)) in n) < (if before then remaining rest names else suc (remaining rest names))
    later true true keep h = h
    later true false keep h = absurd (cc (keep refl))
    later false true keep h = omega (arith, h)
    later false false keep h = omega (arith, h)

    at : (b : Bool) → pointwise nat_eq pair.0 name ≡ b → (has_answer rest name ≡ true → remaining rest more < remaining rest names) → (if b then true else has_answer rest name) ≡ true
        → remaining (pair ∷ rest) more < remaining (pair ∷ rest) names
    at true same onward found =
        let is : pair.0 ≡ name = same_text pair.0 name (sym same) in
        here (has_name names pair.0) (has_name more pair.0) (ap (λ q. has_name names q) is ∙ new) (ap (λ q. has_name more q) is ∙ now)
    at false other onward found = later (has_name names pair.0) (has_name more pair.0) (keeps pair.0) (onward found)

-- a name without an answer is absent
no_answer : (answers : List (Name × Answer)) (name : Name) → has_answer answers name ≡ false → found_in answers name ≡ None
no_answer [] name unknown = refl
no_answer (pair ∷ rest) name unknown = at (pointwise nat_eq pair.0 name) (λ unknown. no_answer rest name unknown) unknown
  where
    at : (b : Bool) → (has_answer rest name ≡ false → found_in rest name ≡ None) → (if b then true else has_answer rest name) ≡ false → (let o : Option Answer = (if b then Some pair.1 else found_in rest name) in o) ≡ None
    at true onward unknown = absurd (cc unknown)
    at false onward unknown = onward unknown

left_or : (a b : Bool) → a ≡ true → (a || b) ≡ true
left_or true b h = refl
left_or false b h = absurd (cc h)

right_or : (a b : Bool) → b ≡ true → (a || b) ≡ true
right_or true b h = refl
right_or false b h = h

-- names put behind others
behind : (xs ys : List Listed) (q : Name) → has_name (map name_of (xs ++ ys)) q ≡ (has_name (map name_of xs) q || has_name (map name_of ys) q)
behind xs ys q = ap (λ l. has_name l q) (map-append name_of xs ys) ∙ list_any-append (λ member. pointwise nat_eq member q) (map name_of xs) (map name_of ys)

module _ (answers : List (Name × Answer)) where
  abbrev world : Name → Answer
  world = (list_world answers).answer

  -- a class without an answer has no supertypes
  no_supertypes : (class : Listed) → has_answer answers class.name ≡ false → direct_in world class ≡ []
  no_supertypes class unknown =
      ap (λ o. of_known class.arguments (if is_object class.name then None else Some (or_absent o))) (no_answer answers class.name unknown) ∙ at (is_object class.name)
    where
      at : (b : Bool) → of_known class.arguments (if b then None else Some (or_absent None)) ≡ []
      at true = refl
      at false = refl

  -- no name is forgotten
  keeps : (visited xs list : List Listed) → LeadTo world visited xs list → (q : Name) → has_name (map name_of visited) q ≡ true → has_name (map name_of list) q ≡ true
  keeps visited xs list none q h = h
  keeps visited (class ∷ rest) list (skipped was leads) q h = keeps visited rest list leads q h
  keeps visited (class ∷ rest) list (visited_now {below = below} new here leads) q h =
      keeps below rest list leads q (keeps (visited ++ class ∷ []) (direct_in world class) below here q (behind visited (class ∷ []) q ∙ left_or (has_name (map name_of visited) q) _ h))

  abbrev Leads : List Listed → List Listed → Type 0
  Leads visited xs = (list : List Listed) × LeadTo world visited xs list

  -- one class after the other, where it is known what those lead to that leave fewer answers
  in_turn : (n : ℕ) → ((visited xs : List Listed) → remaining answers (map name_of visited) < n → Leads visited xs) → (xs visited : List Listed) → remaining answers (map name_of visited) ≤ n → Leads visited xs
  in_turn n deeper [] visited h = (visited, none)
  in_turn n deeper (x ∷ xs) visited h = at (has_name (map name_of visited) x.name) refl (λ further h. in_turn n deeper xs further h)
    where
      put : List Listed
      put = visited ++ x ∷ []

      kept : (q : Name) → has_name (map name_of visited) q ≡ true → has_name (map name_of put) q ≡ true
      kept q was = behind visited (x ∷ []) q ∙ left_or (has_name (map name_of visited) q) _ was

      there : has_name (map name_of put) x.name ≡ true
      there = behind visited (x ∷ []) x.name ∙ right_or (has_name (map name_of visited) x.name) _ (left_or (pointwise nat_eq x.name x.name) false (nat_list_eq_equiv.refl x.name))

      beneath : has_name (map name_of visited) x.name ≡ false → (b : Bool) → has_answer answers x.name ≡ b → Leads put (direct_in world x)
      beneath new true known =
          let less = fewer_by answers (map name_of visited) (map name_of put) x.name known new there kept in
          deeper put (direct_in world x) (omega (arith, less, h))
      beneath new false unknown = (put, subst (λ l. LeadTo world put l put) (sym (no_supertypes x unknown)) none)

      at : (b : Bool) → has_name (map name_of visited) x.name ≡ b → ((further : List Listed) → remaining answers (map name_of further) ≤ n → Leads further xs) → Leads visited (x ∷ xs)
      at true was onward = let rest = onward visited h in (rest.0, skipped was rest.1)
      at false new onward =
          let below = beneath new (has_answer answers x.name) refl in
          let left = fewer answers (map name_of visited) (map name_of below.0) (λ q was. keeps put (direct_in world x) below.0 below.1 q (kept q was)) in
          let rest = onward below.0 (omega (arith, left, h)) in
          (rest.0, visited_now new below.1 rest.1)

  leads : (n : ℕ) (visited xs : List Listed) → remaining answers (map name_of visited) ≤ n → Leads visited xs
  leads zero visited xs h = in_turn zero (λ v ys less. absurd (omega (arith, less))) xs visited h
  leads (suc n) visited xs h = in_turn (suc n) (λ v ys less. leads n v ys (omega (arith, less))) xs visited h

  pub list-there : (name : Name) → (types : List JavaType) × AreSupertypes (list_world answers).answer name types
  list-there name =
      let found = leads (remaining answers []) [] (first_listed name ∷ []) (omega arith) in
      (map given_type found.0, (found.0, found.1, refl))
