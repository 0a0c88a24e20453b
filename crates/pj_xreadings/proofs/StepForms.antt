-- Steps and paths, of which expressions in a row are parts.
use Rattle.std.proofs.Common.{◌≡◌, ◌∙◌, ◌==◌, ap, refl, false, List, [], ◌∷◌, ◌++◌, map, length}
use Rattle.pj_xexpressions.specs.Trees.{Tree, Filter, Path, node}
use Rattle.pj_xreadings.specs.Mentions.{Mention}
use Rattle.pj_xreadings.specs.Operands.{Operand, filtered, names_of, other, path, trees_of}
use Rattle.pj_xreadings.specs.Seen.{seen_reading}
use Rattle.pj_xreadings.specs.declared.operand.Reading.{Reading}

pub other_alike : (t u : Tree) (m n : List Mention) → t ≡ u → m ≡ n → other t m ≡ other u n
other_alike t u m n same_tree same_names = ap (λ x. other x m) same_tree ∙ ap (λ x. other u x) same_names

pub path_all : (steps : List Reading) → (length steps ≡ 1 → ⊥) → other (node Path (trees_of (map seen_reading steps))) (names_of (map seen_reading steps)) ≡ path (map seen_reading steps)
path_all [] h = refl
path_all (x ∷ []) h = absurd (h refl)
path_all (x ∷ y ∷ more) h = refl

pub filter_all :
    (primary : Operand) (predicates : List Reading) → (length predicates == 0) ≡ false
    → other (node Filter (primary.tree ∷ trees_of (map seen_reading predicates))) (primary.names ++ names_of (map seen_reading predicates)) ≡ filtered primary (map seen_reading predicates)
filter_all primary [] h = absurd (let z = h in cc)
filter_all primary (x ∷ more) h = refl
