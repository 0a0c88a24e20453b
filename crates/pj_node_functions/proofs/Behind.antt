-- What stands behind the last solidus of a path.
use Rattle.std.proofs.Common.{◌≡◌, ℕ, ◌<◌, ◌≤◌, ◌-◌, ◌+◌, List, length, drop, get_or, None, Some, not, eqb, sym, ap, ◌∙◌, arith, eq-eqb, ne_eqb, lit<, length-drop, get_or-drop}
use Rattle.std.specs.List.{suffix_len}
use Rattle.std.specs.Str.Pattern.{RFindsChar}
use Rattle.std.proofs.lemmas.List.Sums.{suffix_len_is}
use Rattle.std.proofs.lemmas.Str.{len_utf8_ascii}
use Rattle.std.proofs.lemmas.Str.Pattern.{NoCharPasses-char}
use Rattle.pj_node_functions.specs.Files.{file_name}

pub behind-none : (path : List ℕ) → RFindsChar 47 path None → path ≡ file_name path
behind-none path none =
    let tail : suffix_len (λ b. not (eqb b 47)) path ≡ length path - 0 =
    suffix_len_is (λ b. not (eqb b 47)) path 0 0 (omega arith) (λ k from below. ap not (ne_eqb (get_or path k 0) 47 (NoCharPasses-char 47 path k none (lit< tt) below))) (λ some. absurd (omega arith)) in
    let all : length path - (length path - 0) ≡ 0 = omega arith in
    sym (ap (λ n. drop (length path - n) path) tail ∙ ap (λ n. drop n path) all)

pub behind-some : (path last : List ℕ) (i j : ℕ) → RFindsChar 47 path (Some (i, j)) → last ≡ drop j path → length last + j ≡ length path → last ≡ file_name path
behind-some path last i j found is fits =
    let next : j ≡ i + 1 = omega (arith, found.1.ends, len_utf8_ascii 47 (lit< tt)) in
    let at : get_or path (j - 1) 0 ≡ 47 = let here : j - 1 ≡ i = omega arith in ap (λ k. get_or path k 0) here ∙ found.1.byte (lit< tt) in
    let later : (k : ℕ) → j ≤ k → k < length path → get_or path k 0 ≡ 47 → ⊥ = λ k from below is.
    let back : j + (k - j) ≡ k = omega arith in
    NoCharPasses-char 47 (drop j path) (k - j) found.0 (lit< tt) (omega (arith, length-drop j path)) (get_or-drop j path (k - j) 0 ∙ ap (λ n. get_or path n 0) back ∙ is) in
    let tail : suffix_len (λ b. not (eqb b 47)) path ≡ length path - j =
    suffix_len_is (λ b. not (eqb b 47)) path j 0 (omega arith) (λ k from below. ap not (ne_eqb (get_or path k 0) 47 (later k from below))) (λ some. ap not (eq-eqb (get_or path (j - 1) 0) 47 at)) in
    let left : length path - (length path - j) ≡ j = omega arith in
    is ∙ sym (ap (λ n. drop (length path - n) path) tail ∙ ap (λ n. drop n path) left)
