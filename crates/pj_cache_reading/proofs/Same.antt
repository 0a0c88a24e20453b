-- Answers with their names, however they are kept.
use Rattle.std.proofs.Common.{◌≡◌, ℕ, Bool, true, false, not, List, [], ◌∷◌, ◌++◌, map, refl, sym, ap, ◌∙◌}
use Rattle.std.proofs.lemmas.List.{map_push}
use Rattle.pj_names.specs.declared.answer.Answer.{Answer}
use Rattle.pj_cache_format.proofs.Written.{firsts}

pub not_false : (b : Bool) → not b ≡ false → b ≡ true
not_false true e = refl
not_false false e = absurd cc

-- answers with their names, however these are kept, and one more
abbrev pub pairs : {A : Type 0} → (A → List ℕ) → (A → Answer) → List A → List (List ℕ × Answer)
pairs {A} f g xs = map (λ (a : A). (f a, g a)) xs

pub pairs_push : {A : Type 0} (f : A → List ℕ) (g : A → Answer) (xs : List A) (x : A) → pairs f g (xs ++ x ∷ []) ≡ pairs f g xs ++ (f x, g x) ∷ []
pairs_push {A} f g xs x = let pair : A → List ℕ × Answer = λ (a : A). (f a, g a) in map_push pair xs x

-- the names of answers, however these are kept
pub names_seen : {A : Type 0} (f : A → List ℕ) (g : A → Answer) (pairs : List A) (answers : List (List ℕ × Answer)) → map (λ (a : A). (f a, g a)) pairs ≡ answers → map f pairs ≡ map (λ a. a.0) answers
names_seen f g pairs answers e = sym (firsts f g pairs) ∙ ap (λ (l : List (List ℕ × Answer)). map (λ a. a.0) l) e
