-- The rows of one more file, and lists of borrowed rows.
use Rattle.std.proofs.Common.{◌≡◌, ◌∙◌, ◌+◌, ◌++◌, ◌∷◌, ◌<◌, [], ℕ, List, add-one, ap, append-nil, flat_map, get_or, length, map, refl, take}
use Rattle.std.proofs.Math.Seq.{take-suc}
use Rattle.std.proofs.lemmas.Grind.{flat_map-append}
use Rattle.pj_reports.specs.Shown.{Bytes, PathError, errors, errors_of}
use Rattle.pj_reports.specs.declared.rows.FileRows.{FileRows}

pub flat_map-map : {A B C : Type 0} (f : B → List C) (g : A → B) (xs : List A) → flat_map f (map g xs) ≡ flat_map (λ x. f (g x)) xs
flat_map-map f g [] = refl
flat_map-map f g (x ∷ xs) = ap (λ t. f (g x) ++ t) (flat_map-map f g xs)

-- what is written of the errors, with those of one more file
pub errors-next : (text : PathError → Bytes) (files : List (Bytes × FileRows)) (i : ℕ) (file : Bytes × FileRows) → i < length files → get_or files i file ≡ file
    → flat_map text (errors (take (i + 1) files)) ≡ flat_map text (errors (take i files)) ++ flat_map text (errors_of file.0 file.1)
errors-next text files i file lt at =
    let of : Bytes × FileRows → List PathError = λ f. errors_of f.0 f.1 in
    let taken : take (i + 1) files ≡ take i files ++ file ∷ [] = rw add-one (take-suc files i file lt ∙ ap (λ x. take i files ++ x ∷ []) at) in
    ap (λ fs. flat_map text (flat_map of fs)) taken
    ∙ ap (flat_map text) (flat_map-append of (take i files) (file ∷ []) ∙ ap (λ t. flat_map of (take i files) ++ t) (append-nil (of file)))
    ∙ flat_map-append text (flat_map of (take i files)) (of file)
