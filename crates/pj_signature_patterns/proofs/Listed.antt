-- What is asked of parameters, read one after another.
use Rattle.std.proofs.Common.{◌≡◌, ℕ, List, [], ◌∷◌, ◌++◌, ap, refl, sym, ◌∙◌, append_assoc}
use Rattle.std.specs.Prelude.{◌==◌, Option, Some, None}
use Rattle.std.specs.List.{slice_split}
use Rattle.pj_signature_patterns.specs.declared.pattern.TypePattern.{TypePattern}
use Rattle.pj_signature_patterns.specs.Cuts.{cut}
use Rattle.pj_signature_patterns.specs.Reading.{read_type, read_types, with_type}
use Rattle.pj_signature_patterns.proofs.Cutting.{split_cut, split_whole}

-- the pieces of a text between its commas
abbrev pub pieces : List ℕ → List (List ℕ)
pieces text = slice_split (λ c. c == 44) text

-- what was read, in front of what is to come
abbrev pub types_behind : List TypePattern → Option (List TypePattern) → Option (List TypePattern)
types_behind before None = None
types_behind before (Some rest) = Some (before ++ rest)

one_more : (before : List TypePattern) (ty : TypePattern) (rest : Option (List TypePattern)) → types_behind before (with_type (Some ty) rest) ≡ types_behind (before ++ ty ∷ []) rest
one_more before ty None = refl
one_more before ty (Some rest) = ap (λ (t : List TypePattern). let o : Option (List TypePattern) = Some t in o) (sym (append_assoc before (ty ∷ []) rest))

none_more : (before : List TypePattern) (rest : Option (List TypePattern)) → types_behind before (with_type None rest) ≡ None
none_more before rest = refl

pub begins : (types : List TypePattern) (found : Option (List TypePattern)) → types ≡ [] → found ≡ types_behind types found
begins types None empty = refl
begins types (Some rest) empty = ap (λ (t : List TypePattern). let o : Option (List TypePattern) = Some (t ++ rest) in o) (sym empty)

-- a piece that is read, with others behind it
pub turns : (all : Option (List TypePattern)) (before : List TypePattern) (left piece rest : List ℕ) (ty : TypePattern) (now : List TypePattern)
    → all ≡ types_behind before (read_types (pieces left)) → cut 44 left ≡ Some (piece, rest) → Some ty ≡ read_type piece → now ≡ before ++ ty ∷ [] → all ≡ types_behind now (read_types (pieces rest))
turns all before left piece rest ty now is was read pushed =
    is
    ∙ ap (λ p. types_behind before (read_types p)) (split_cut 44 left piece rest was)
    ∙ ap (λ o. types_behind before (with_type o (read_types (pieces rest)))) (sym read)
    ∙ one_more before ty (read_types (pieces rest))
    ∙ ap (λ t. types_behind t (read_types (pieces rest))) (sym pushed)

-- a piece that is none
pub fails : (all : Option (List TypePattern)) (before : List TypePattern) (left piece rest : List ℕ)
    → all ≡ types_behind before (read_types (pieces left)) → cut 44 left ≡ Some (piece, rest) → None ≡ read_type piece → None ≡ all
fails all before left piece rest is was read =
    sym (is
    ∙ ap (λ p. types_behind before (read_types p)) (split_cut 44 left piece rest was)
    ∙ ap (λ o. types_behind before (with_type o (read_types (pieces rest)))) (sym read))

-- the last piece
pub ends : (all : Option (List TypePattern)) (before : List TypePattern) (left : List ℕ) (ty : TypePattern) (now : List TypePattern)
    → all ≡ types_behind before (read_types (pieces left)) → cut 44 left ≡ None → Some ty ≡ read_type left → now ≡ before ++ ty ∷ [] → Some now ≡ all
ends all before left ty now is was read pushed =
    sym (is
    ∙ ap (λ p. types_behind before (read_types p)) (split_whole 44 left was)
    ∙ ap (λ o. types_behind before (with_type o (Some []))) (sym read)
    ∙ ap (λ (t : List TypePattern). let o : Option (List TypePattern) = Some t in o) (sym pushed))

pub ends_none : (all : Option (List TypePattern)) (before : List TypePattern) (left : List ℕ)
    → all ≡ types_behind before (read_types (pieces left)) → cut 44 left ≡ None → None ≡ read_type left → None ≡ all
ends_none all before left is was read =
    sym (is
    ∙ ap (λ p. types_behind before (read_types p)) (split_whole 44 left was)
    ∙ ap (λ o. types_behind before (with_type o (Some []))) (sym read))
