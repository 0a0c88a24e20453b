-- How many of some names were not visited.
use Rattle.std.specs.Prelude.{◌≡◌, ℕ, suc, ◌<◌, ◌≤◌, Bool, true, false, ◌||◌, if◌then◌else◌, List, [], ◌∷◌, ◌++◌, map, nat_eq, refl}
use Rattle.std.proofs.Common.{sym, ◌∙◌, ap, arith}
use Rattle.std.specs.Cmp.Lexicographic.{pointwise, nat_list_eq_equiv, same_text}
use Rattle.std.proofs.lemmas.List.{map-append}
use Rattle.std.proofs.lemmas.List.Folds.{list_any-append}
use Rattle.pj_names.specs.ClassName.{Name}
use Rattle.pj_names.specs.Asking.{has_name}

abbrev pub remaining : List Name → List Name → ℕ
remaining [] visited = 0
remaining (name ∷ names) visited = if has_name visited name then remaining names visited else suc (remaining names visited)

-- the visited names are among more names
abbrev pub Keeps : List Name → List Name → Type 0
Keeps visited more = (name : Name) → has_name visited name ≡ true → has_name more name ≡ true

-- with more names no more remain
pub fewer : (names visited more : List Name) → Keeps visited more → remaining names more ≤ remaining names visited
fewer [] visited more keeps = omega arith
fewer (name ∷ rest) visited more keeps = at (has_name visited name) (has_name more name) (keeps name) (fewer rest visited more keeps)
  where
    at : (before after : Bool) → (before ≡ true → after ≡ true) → remaining rest more ≤ remaining rest visited
        → (let n : ℕ = (if after then remaining rest more else suc (remaining rest more)) in n) ≤ (if before then remaining rest visited else suc (remaining rest visited))
    at true true keep h = h
    at true false keep h = absurd (cc (keep refl))
    at false true keep h = omega (arith, h)
    at false false keep h = omega (arith, h)

-- with one of the names fewer remain
pub fewer_by : (names visited more : List Name) (name : Name) → has_name names name ≡ true → has_name visited name ≡ false → has_name more name ≡ true → Keeps visited more → remaining names more < remaining names visited
fewer_by [] visited more name there new now keeps = absurd (cc there)
fewer_by (first ∷ rest) visited more name there new now keeps = at (pointwise nat_eq first name) refl (λ found. fewer_by rest visited more name found new now keeps) there
  where
    here : (before after : Bool) → before ≡ false → after ≡ true → (let n : ℕ = (if after then remaining rest more else suc (remaining rest more)) in n) < (if before then remaining rest visited else suc (remaining rest visited))
    here true after fresh seen = absurd (cc fresh)
    here false false fresh seen = absurd (cc seen)
    here false true fresh seen = omega (arith, fewer rest visited more keeps)

    later : (before after : Bool) → (before ≡ true → after ≡ true) → remaining rest more < remaining rest visited
        → (let n : ℕ = (if after then remaining rest more else suc (remaining rest more)) in n) < (if before then remaining rest visited else suc (remaining rest visited))
    later true true keep h = h
    later true false keep h = absurd (cc (keep refl))
    later false true keep h = omega (arith, h)
    later false false keep h = omega (arith, h)

    at : (b : Bool) → pointwise nat_eq first name ≡ b → (has_name rest name ≡ true → remaining rest more < remaining rest visited) → (b || has_name rest name) ≡ true
        → remaining (first ∷ rest) more < remaining (first ∷ rest) visited
    at true same onward found =
        let is : first ≡ name = same_text first name (sym same) in
        here (has_name visited first) (has_name more first) (ap (λ q. has_name visited q) is ∙ new) (ap (λ q. has_name more q) is ∙ now)
    at false other onward found = later (has_name visited first) (has_name more first) (keeps first) (onward found)

left_or : (a b : Bool) → a ≡ true → (a || b) ≡ true
left_or true b h = refl
left_or false b h = absurd (cc h)

right_or : (a b : Bool) → b ≡ true → (a || b) ≡ true
right_or true b h = refl
right_or false b h = h

-- names put behind others
pub has-append : (xs ys : List Name) (name : Name) → has_name (xs ++ ys) name ≡ (has_name xs name || has_name ys name)
has-append xs ys name = list_any-append (λ member. pointwise nat_eq member name) xs ys

pub keeps-append : (xs ys : List Name) → Keeps xs (xs ++ ys)
keeps-append xs ys name was = has-append xs ys name ∙ left_or (has_name xs name) (has_name ys name) was

module _ {A : Type 0} (name_of : A → Name) where
  behind : (xs : List A) (x : A) (name : Name) → has_name (map name_of (xs ++ x ∷ [])) name ≡ (has_name (map name_of xs) name || has_name (name_of x ∷ []) name)
  behind xs x name = ap (λ l. has_name l name) (map-append name_of xs (x ∷ [])) ∙ has-append (map name_of xs) (name_of x ∷ []) name

  -- with an item more, no name is forgotten
  pub keeps-more : (xs : List A) (x : A) → Keeps (map name_of xs) (map name_of (xs ++ x ∷ []))
  keeps-more xs x name was = behind xs x name ∙ left_or (has_name (map name_of xs) name) _ was

  -- and its name is there
  pub has-more : (xs : List A) (x : A) → has_name (map name_of (xs ++ x ∷ [])) (name_of x) ≡ true
  has-more xs x = behind xs x (name_of x) ∙ right_or (has_name (map name_of xs) (name_of x)) _ (left_or (pointwise nat_eq (name_of x) (name_of x)) false (nat_list_eq_equiv.refl (name_of x)))
