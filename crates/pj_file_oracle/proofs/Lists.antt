-- The first of a list of types, and what is gathered in a loop: types as they are seen, and members, one child of the body after the other.
use Rattle.std.proofs.Common.{◌≡◌, ℕ, ◌+◌, ◌<◌, List, [], ◌∷◌, ◌++◌, Some, None, refl, sym, subst, ap, ◌∙◌, append_assoc, append-nil, drop, get_or, length, map}
use Rattle.std.proofs.lemmas.List.{map-append}
use Rattle.std.specs.Prelude.{Ok}
use Rattle.std.specs.List.{slice_get}
use Rattle.pj_names.specs.JavaType.{JavaType, java_type, type_list}
use Rattle.pj_names.specs.declared.ty.Ty.{Ty}
use Rattle.pj_names.specs.Asking.{Asking, Return, bind, each}
use Rattle.pj_names.proofs.AskingLaws.{ComesTo, comes-then, left_from}
use Rattle.pj_names.proofs.MeaningLaws.{bind-bind, gather}
use Rattle.pj_names.specs.Told.{Asks, Told}
use Rattle.pj_file_oracle.specs.declared.members.MemberLists.{MemberLists}
use Rattle.pj_file_oracle.specs.Members.{all_members, both_lists, no_members}
use Rattle.pj_file_oracle.specs.Supertypes.{first_or}

-- ---- the first of some types

pub first-some : (implied : JavaType) (above : List Ty) (ty : Ty) → slice_get above 0 ≡ Some ty → first_or implied (type_list above) ≡ java_type ty
first-some implied [] ty is = absurd (cc)
first-some implied (x ∷ xs) ty is = let same : x ≡ ty = cc in ap java_type same

pub first-none : (implied : JavaType) (above : List Ty) → slice_get above 0 ≡ None → first_or implied (type_list above) ≡ implied
first-none implied [] is = refl
first-none implied (x ∷ xs) is = absurd (cc)

pub ruleset first_steps = (first-some, first-none)

-- ---- values that are gathered, as they are seen

pub gather-turn : {K A B C : Type 0} {m : Asking (List B)} {t u w : Told K} (f : A → Asking B) (view : C → B) (front new : List C) (xs : List A) (i : ℕ) (d : A) (v : C)
    → i < length xs → new ≡ front ++ v ∷ [] → ComesTo m t (gather f (map view front) (drop i xs)) u → Asks (f (get_or xs i d)) u w (Ok (view v))
    → ComesTo m t (gather f (map view new) (drop (i + 1) xs)) w
gather-turn {A = A} {B = B} {m = m} {t = t} {u = u} {w = w} f view front new xs i d v below grown so_far asked =
    let here = subst (λ (l : List A). ComesTo m t (gather f (map view front) l) u) (left_from xs i d below) so_far in
    let further = comes-then {n = f (get_or xs i d)} (λ (value : B). gather f (map view front ++ value ∷ []) (drop (i + 1) xs)) here asked in
    subst (λ (l : List B). ComesTo m t (gather f l (drop (i + 1) xs)) w) (sym (ap (map view) grown ∙ map-append view front (v ∷ []))) further

-- ---- members

both-assoc : (first second third : MemberLists) → both_lists first (both_lists second third) ≡ both_lists (both_lists first second) third
both-assoc first second third = λ i. record {
  fields = sym (append_assoc first.fields second.fields third.fields) i;
  methods = sym (append_assoc first.methods second.methods third.methods) i;
}

both-none : (front : MemberLists) → both_lists front no_members ≡ front
both-none front = λ i. record { fields = append-nil front.fields i; methods = append-nil front.methods i }

module _ {A : Type 0} (f : A → Asking MemberLists) where
  -- those that the rest declares, behind those gathered so far
  abbrev pub behind : MemberLists → List A → Asking MemberLists
  behind front [] = Return front
  behind front (x ∷ xs) = bind (f x) (λ lists. behind (both_lists front lists) xs)

  all_behind : (front : MemberLists) (xs : List A) → bind (each f xs) (λ lists. Return (both_lists front (all_members lists))) ≡ behind front xs
  all_behind front [] = ap (λ members. Return members) (both-none front)
  all_behind front (x ∷ xs) =
      bind-bind (f x) (λ v. bind (each f xs) (λ vs. Return (v ∷ vs))) (λ lists. Return (both_lists front (all_members lists)))
      ∙ (λ i. bind (f x) (λ v. (bind-bind (each f xs) (λ vs. Return (v ∷ vs)) (λ lists. Return (both_lists front (all_members lists)))
      ∙ (λ j. bind (each f xs) (λ vs. Return (both-assoc front v (all_members vs) j)))
      ∙ all_behind (both_lists front v) xs) i))

  pub members-begin : (xs : List A) → bind (each f xs) (λ lists. Return (all_members lists)) ≡ behind no_members xs
  members-begin xs = all_behind no_members xs

-- one child more
pub behind-turn : {K A : Type 0} {m : Asking MemberLists} {t u w : Told K} (f : A → Asking MemberLists) (front new more : MemberLists) (xs : List A) (i : ℕ) (d : A)
    → i < length xs → new ≡ both_lists front more → ComesTo m t (behind f front (drop i xs)) u → Asks (f (get_or xs i d)) u w (Ok more)
    → ComesTo m t (behind f new (drop (i + 1) xs)) w
behind-turn {A = A} {m = m} {t = t} {u = u} {w = w} f front new more xs i d below grown so_far asked =
    let here = subst (λ (l : List A). ComesTo m t (behind f front l) u) (left_from xs i d below) so_far in
    let further = comes-then {n = f (get_or xs i d)} (λ (lists : MemberLists). behind f (both_lists front lists) (drop (i + 1) xs)) here asked in
    subst (λ (lists : MemberLists). ComesTo m t (behind f lists (drop (i + 1) xs)) w) (sym grown) further
