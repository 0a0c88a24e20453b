-- Tokens that are taken are not cut off.
use Rattle.std.proofs.Common.{◌≡◌, ℕ, List, ◌∷◌, length, refl, sym, ◌∙◌, ap, arith}
use Rattle.pj_ll.specs.declared.grammar.Symbol.{Symbol}
use Rattle.pj_xtokens.specs.First.{behind_first}
use Rattle.pj_xtokens.specs.Tokens.{Lexed}
use Rattle.pj_xmeaning.specs.Reach.{Reach, All, UpTo, Plain, Deep, Outside, IsCut, IsBefore, IsBehindLeftOut, Within}
use Rattle.pj_xmeaning.specs.Reads.{Takes, token, cut}

-- a token that may be taken is not cut off
pub before_cut : (reach : Reach) (depth : ℕ) (tokens : List Lexed) → Within reach depth tokens → IsBefore reach tokens
before_cut All depth tokens within c = c
before_cut (UpTo ending left) depth tokens within c = within.0 c

-- nothing is read behind a construct that is left out
pub cut_behind : (reach : Reach) (tokens : List Lexed) → IsBehindLeftOut reach tokens → IsCut reach tokens
cut_behind All tokens is = is
cut_behind (UpTo Plain left) tokens is = absurd is
cut_behind (UpTo Deep left) tokens is = absurd is
cut_behind (UpTo Outside left) tokens is = is

-- its first token is read
pub begins_before : (reach : Reach) (x : Lexed) (tokens : List Lexed) → IsBehindLeftOut reach tokens → IsBefore reach (x ∷ tokens)
begins_before All x tokens is c = is
begins_before (UpTo Plain left) x tokens is c = is
begins_before (UpTo Deep left) x tokens is c = is
begins_before (UpTo Outside left) x tokens is c = let same = ap length (c ∙ sym is) in absurd (omega arith)

-- what stands behind a token that is taken
pub behind_taken : {reach : Reach} {depth : ℕ} {s : Symbol} {xs ys : List Lexed} → IsBefore reach xs → Takes reach depth s xs ys → behind_first xs ≡ ys
behind_taken before (token is within) = refl
behind_taken before (cut c) = absurd (before c)
