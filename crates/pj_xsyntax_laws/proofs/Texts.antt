-- Texts whose tokens are the same words spell the same.
use Rattle.std.proofs.Common.{◌≡◌, ℕ, false, List, [], ◌∷◌, refl, ap, subst}
use Rattle.pj_xtokens.specs.Size.{size}
use Rattle.pj_xtokens.specs.Tokens.{Lexed, Tokens, lexed}
use Rattle.pj_xtokens.specs.declared.token.End.TheVariants as ends
use Rattle.pj_xgrammar.specs.Terminals.{first_behind, begins_step}
use Rattle.pj_xgrammar.specs.declared.terminal.Behind.TheVariants as b
use Rattle.pj_xexpressions.specs.Trees.{Tree}
use Rattle.pj_xparse.specs.Spells.{Spells}
use Rattle.pj_xsyntax_laws.specs.Abbreviations.{WrittenOut, done, kept}
use Rattle.pj_xsyntax_laws.specs.Spaced.{Word, word, words_of}
use Rattle.pj_xsyntax_laws.proofs.Expanding.{TokensAreOne, written_out_spells}

-- ---- the same tokens but for their offsets

begins_alike : (ts us : List Lexed) → words_of ts ≡ words_of us → begins_step (first_behind b.End ts) ≡ begins_step (first_behind b.End us)
begins_alike [] [] e = refl
begins_alike [] (u ∷ us) e = absurd (cc)
begins_alike (t ∷ ts) [] e = absurd (cc)
begins_alike (t ∷ ts) (u ∷ us) e =
    let first : word t.kind t.text ≡ word u.kind u.text = cc in
    ap (λ (w : Word). begins_step (first_behind b.End (lexed w.kind w.text 0 ∷ []))) first

alike : (ts us : List Lexed) → words_of ts ≡ words_of us → WrittenOut false [] ts us
alike [] [] e = done
alike [] (u ∷ us) e = absurd (cc)
alike (t ∷ ts) [] e = absurd (cc)
alike (t ∷ ts) (u ∷ us) e =
    let first : word t.kind t.text ≡ word u.kind u.text = cc in
    let rest : words_of ts ≡ words_of us = cc in
    subst (λ (x : Lexed). WrittenOut false [] (t ∷ ts) (x ∷ us)) (ap (λ (w : Word). lexed w.kind w.text u.from) first) (kept u.from (λ s. begins_alike ts us rest) (alike ts us rest))

-- ---- expressions

pub same_words : TokensAreOne → (variables : List (List ℕ)) (text other : List ℕ) (tokens others : List Lexed) (tree : Tree) → Tokens (size text) text tokens (ends.Text (size text))
    → Tokens (size other) other others (ends.Text (size other)) → words_of tokens ≡ words_of others → Spells variables text tree → Spells variables other tree
same_words one_tokens variables text other tokens others tree read read_other e = written_out_spells one_tokens variables text other tokens others tree read read_other (alike tokens others e)
