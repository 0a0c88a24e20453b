-- Whether white space or comments stand before a token, of the tokens as the code has them.
use Rattle.std.proofs.Common.{◌≡◌, ℕ, zero, suc, ◌+◌, ◌-◌, ◌<◌, ◌≤◌, false, List, length, map, get_or, Option, Some, refl, sym, ap, ◌∙◌, arith}
use Rattle.std.specs.Prelude.{slice_get}
use Rattle.std.specs.Option.{option_map}
use Rattle.std.proofs.lemmas.Bool.{le-ltb}
use Rattle.std.proofs.lemmas.List.{length-map}
use Rattle.std.proofs.lemmas.Option.{slice_get-map, slice_get-get_or, get_or_from_slice_get}
use Rattle.pj_xtokens.specs.Answer.{lexed_of}
use Rattle.pj_xtokens.specs.Size.{size}
use Rattle.pj_xtokens.specs.Tokens.{Lexed}
use Rattle.pj_xtokens.specs.declared.token.Token.{Token}
use Rattle.pj_xgrammar.specs.Standing.{are_apart, stands_apart}
use Rattle.pj_xderive.proofs.Outcomes.{mapped_at, no_token_there}

-- a token does not stand behind itself
not_behind_itself : (x : Lexed) → are_apart (Some x) (Some x) ≡ false
not_behind_itself x = le-ltb (x.from + size x.text) x.from (omega arith)

pub apart_at : (tokens : List Token) (place : ℕ) (d x : Token) → place < length tokens → x ≡ get_or tokens place x →
    are_apart (Some (lexed_of (get_or tokens (place - 1) d))) (Some (lexed_of x)) ≡ stands_apart (map lexed_of tokens) place
apart_at tokens zero d x within is =
    let there : slice_get tokens zero ≡ Some x = slice_get-get_or tokens zero x within ∙ ap Some (sym is) in
    let none : zero - 1 ≡ zero = omega arith in
    let same : get_or tokens (zero - 1) d ≡ x = ap (λ (n : ℕ). get_or tokens n d) none ∙ get_or_from_slice_get tokens zero x d there in
    ap (λ (y : Token). are_apart (Some (lexed_of y)) (Some (lexed_of x))) same ∙ not_behind_itself (lexed_of x)
apart_at tokens (suc j) d x within is =
    let back : suc j - 1 ≡ j = omega arith in
    let first : slice_get (map lexed_of tokens) j ≡ Some (lexed_of (get_or tokens j d)) = slice_get-map lexed_of tokens j ∙ ap (option_map lexed_of) (slice_get-get_or tokens j d (omega arith)) in
    let second : slice_get (map lexed_of tokens) (suc j) ≡ Some (lexed_of x) = mapped_at lexed_of tokens (suc j) x within is in
    ap (λ (n : ℕ). are_apart (Some (lexed_of (get_or tokens n d))) (Some (lexed_of x))) back
    ∙ ap (λ (o : Option Lexed). are_apart o (Some (lexed_of x))) (sym first)
    ∙ ap (λ (o : Option Lexed). are_apart (slice_get (map lexed_of tokens) j) o) (sym second)

pub none_apart : (tokens : List Token) (place : ℕ) → length tokens ≤ place → false ≡ stands_apart (map lexed_of tokens) place
none_apart tokens zero past = refl
none_apart tokens (suc j) past =
    let count : length (map lexed_of tokens) ≡ length tokens = length-map tokens lexed_of in
    sym (ap (are_apart (slice_get (map lexed_of tokens) j)) (no_token_there (map lexed_of tokens) (suc j) (omega arith)))
