-- The stack's symbols as they stand in memory, the next one last.
use Rattle.std.proofs.Common.{◌≡◌, ◌+◌, ◌≤◌, List, [], ◌∷◌, ◌++◌, length, refl, ◌∙◌, ap, arith, reverse}
use Rattle.std.proofs.lemmas.List.{reverse-append}
use Rattle.pj_ll.specs.declared.grammar.Symbol.{Symbol}
use Rattle.pj_ll.specs.declared.grammar.Symbol.TheVariants.{Terminal, Rule, LeftOut, Close}
use Rattle.pj_ll.specs.Grammar.{closes}

pub closes-append : (xs ys : List Symbol) → closes (xs ++ ys) ≡ closes xs + closes ys
closes-append [] ys = omega arith
closes-append (Terminal t ∷ xs) ys = closes-append xs ys
closes-append (LeftOut t ∷ xs) ys = closes-append xs ys
closes-append (Rule n ∷ xs) ys = closes-append xs ys
closes-append (Close ∷ xs) ys = let e = closes-append xs ys in omega arith

pub closes-cons : (x : Symbol) (xs : List Symbol) → closes (x ∷ xs) ≡ closes (x ∷ []) + closes xs
closes-cons x xs = closes-append (x ∷ []) xs

pub closes-reverse : (xs : List Symbol) → closes (reverse xs) ≡ closes xs
closes-reverse [] = refl
closes-reverse (x ∷ xs) =
    let split : closes (reverse (x ∷ xs)) ≡ closes (reverse xs) + closes (x ∷ []) =
    ap closes (reverse-append (x ∷ []) xs) ∙ closes-append (reverse xs) (x ∷ []) in
    let rest = closes-reverse xs in
    let front = closes-cons x xs in
    omega arith

pub closes_few : (xs : List Symbol) → closes xs ≤ length xs
closes_few [] = omega arith
closes_few (Terminal t ∷ xs) = let h = closes_few xs in omega arith
closes_few (LeftOut t ∷ xs) = let h = closes_few xs in omega arith
closes_few (Rule n ∷ xs) = let h = closes_few xs in omega arith
closes_few (Close ∷ xs) = let h = closes_few xs in omega arith

pub reverse-push : (xs : List Symbol) (x : Symbol) → reverse (xs ++ x ∷ []) ≡ x ∷ reverse xs
reverse-push xs x = reverse-append xs (x ∷ [])
