-- Lists of which the first member stands last.
use Rattle.std.proofs.Common.{◌≡◌, ◌∙◌, List, [], ◌∷◌, ◌++◌, map, ap}
use Rattle.std.specs.Prelude.{reverse}
use Rattle.std.proofs.lemmas.List.{reverse-append, map-append}

pub pushed : {A B : Type 0} (f : A → B) (xs : List A) (x : A) → map f (reverse (xs ++ x ∷ [])) ≡ f x ∷ map f (reverse xs)
pushed f xs x = ap (map f) (reverse-append xs (x ∷ []))

pub joined : {A B : Type 0} (f : A → B) (xs ys : List A) → map f (reverse (xs ++ ys)) ≡ map f (reverse ys) ++ map f (reverse xs)
joined f xs ys = ap (map f) (reverse-append xs ys) ∙ map-append f (reverse ys) (reverse xs)
