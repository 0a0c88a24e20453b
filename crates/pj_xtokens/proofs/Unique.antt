-- Two readings of a text agree, and their tokens are slices of it.
use Rattle.std.proofs.Common.{◌≡◌, ℕ, ◌+◌, ◌≤◌, ◌⊎◌, inl, inr, true, false, List, [], ◌∷◌, ◌++◌, length, Some, sym, refl, ap, ◌∙◌, subst, arith, append_assoc}
use Rattle.std.specs.Prelude.{IsTrue, IsFalse}
use Rattle.std.proofs.lemmas.List.{append_cancel_left}
use Rattle.std.proofs.lemmas.Bool.{both_ways}
use Rattle.pj_xtokens.specs.Gaps.{Past, opens}
use Rattle.pj_xtokens.specs.Rules.{Spells}
use Rattle.pj_xtokens.specs.Scanning.{kind_of}
use Rattle.pj_xtokens.specs.Size.{size}
use Rattle.pj_xtokens.specs.Tokens.{IsLongest, IsUnspelled, is_joined, Lexed, lexed, Tokens, ended, token, joined, unspelled, IsSlice, AreSlices}
use Rattle.pj_xtokens.specs.declared.token.TokenKind.{TokenKind}
use Rattle.pj_xtokens.specs.declared.token.End.{End}
use Rattle.pj_xtokens.specs.declared.token.End.TheVariants as ends
use Rattle.pj_xtokens.proofs.Ends.{size-append}
use Rattle.pj_xtokens.proofs.Gapped.{past_one, solid_end}
use Rattle.pj_xtokens.proofs.Reading.{past_behind}
use Rattle.pj_xtokens.proofs.Scanned.{one_kind, spelled_length}

-- prefixes of one text that are as long are the same
same_prefix : (v w t u : List ℕ) → v ++ t ≡ w ++ u → length v ≡ length w → v ≡ w
same_prefix [] [] t u e n = refl
same_prefix [] (d ∷ w) t u e n = absurd (omega (arith, n))
same_prefix (c ∷ v) [] t u e n = absurd (omega (arith, n))
same_prefix (c ∷ v) (d ∷ w) t u e n =
    let heads : c ≡ d = cc in
    let tails : v ++ t ≡ w ++ u = cc in
    let m : length v ≡ length w = omega (arith, n) in
    (λ i. heads i ∷ same_prefix v w t u tails m i)

-- what stands at the front of a body: a token with its word and what stands behind it
record Front (body : List ℕ) : Type 0 where
  k : TokenKind
  w : List ℕ
  behind : List ℕ
  plain : IsFalse (opens body)
  split : body ≡ w ++ behind
  longest : IsLongest body k w

front_words : (body : List ℕ) (f g : Front body) → f.w ≡ g.w
front_words body f g =
    let a : length g.w ≤ length f.w = f.longest.none_longer g.k g.w g.behind g.split g.longest.spells in
    let b : length f.w ≤ length g.w = g.longest.none_longer f.k f.w f.behind f.split f.longest.spells in
    same_prefix f.w g.w f.behind g.behind (sym f.split ∙ g.split) (omega (arith, a, b))

front_behinds : (body : List ℕ) (f g : Front body) → f.behind ≡ g.behind
front_behinds body f g =
    append_cancel_left f.w f.behind g.behind (sym f.split ∙ g.split ∙ ap (λ (z : List ℕ). z ++ g.behind) (sym (front_words body f g)))

no_front : (body : List ℕ) → Front body → IsTrue (opens body) ⊎ IsUnspelled body → ⊥
no_front body f (inl o) = both_ways (opens body) f.plain o
no_front body f (inr u) = u f.k f.w f.behind f.split f.longest.spells

nothing_short : (v b : List ℕ) → v ++ b ≡ [] → length v ≤ 0
nothing_short [] b e = omega arith
nothing_short (c ∷ v) b e = absurd (cc)

moved : (body other : List ℕ) → body ≡ other → Front body → Front other
moved body other e f = subst Front e f

offsets : (from to total : ℕ) (a b : List ℕ) → a ≡ b → from + size a ≡ total → to + size b ≡ total → from ≡ to
offsets from to total a b e f g = let s : size a ≡ size b = ap size e in omega (arith, s, f, g)

-- what two readings have in common
pub record Same (ls ms : List Lexed) (e f : End) : Type 0 where
  pub tokens : ls ≡ ms
  pub ends : e ≡ f

same_more : (k j : TokenKind) (v w : List ℕ) (x y : ℕ) (ls ms : List Lexed) (e f : End) → k ≡ j → v ≡ w → x ≡ y → Same ls ms e f
    → Same (lexed k v x ∷ ls) (lexed j w y ∷ ms) e f
same_more k j v w x y ls ms e f a b c s = record { tokens = λ i. lexed (a i) (b i) (c i) ∷ s.tokens i; ends = s.ends }

-- where the scanner's states tell what each token is
module _ (told : (k : TokenKind) (w : List ℕ) → Spells k w → kind_of w ≡ Some k) where
  front_kinds : (body : List ℕ) (f g : Front body) → f.k ≡ g.k
  front_kinds body f g =
      one_kind told g.w f.k g.k (subst (λ z. Spells f.k z) (front_words body f g) f.longest.spells) g.longest.spells

  front_full : (body : List ℕ) → Front body → body ≡ [] → ⊥
  front_full body f e =
      let n = spelled_length told f.k f.w f.longest.spells in
      let m : length f.w ≤ 0 = nothing_short f.w f.behind (sym f.split ∙ e) in
      omega (arith, n, m)

  -- the same front at the same body
  module _ (body other : List ℕ) (k j : TokenKind) (v b w d : List ℕ) (bodies : body ≡ other)
      (p : IsFalse (opens body)) (s : body ≡ v ++ b) (l : IsLongest body k v) (q : IsFalse (opens other)) (t : other ≡ w ++ d) (m : IsLongest other j w) where
    abbrev here_front : Front other
    here_front = record { k = k; w = v; behind = b; plain = subst (λ x. IsFalse (opens x)) bodies p; split = sym bodies ∙ s; longest = subst (λ x. IsLongest x k v) bodies l }

    abbrev there_front : Front other
    there_front = record { k = j; w = w; behind = d; plain = q; split = t; longest = m }

    same_kind : k ≡ j
    same_kind = front_kinds other here_front there_front

    same_word : v ≡ w
    same_word = front_words other here_front there_front

    same_behind : b ≡ d
    same_behind = front_behinds other here_front there_front

  pub tokens_same : (total : ℕ) (t u : List ℕ) (ls ms : List Lexed) (e f : End) → Tokens total t ls e → Tokens total u ms f → t ≡ u → Same ls ms e f
  tokens_same total _ _ _ _ _ _ (ended t p) (ended u q) x = record { tokens = refl; ends = refl }
  tokens_same total _ _ _ _ _ _ (ended t p) (token u body w b k from more f q s o h l y j rest) x =
      absurd (front_full body (record { k = k; w = w; behind = b; plain = o; split = h; longest = l }) (sym (past_one t [] p solid_end body (subst (λ z. Past z body) (sym x) q) s)))
  tokens_same total _ _ _ _ _ _ (ended t p) (joined u body w b k from to q s o h l y j g) x =
      absurd (front_full body (record { k = k; w = w; behind = b; plain = o; split = h; longest = l }) (sym (past_one t [] p solid_end body (subst (λ z. Past z body) (sym x) q) s)))
  tokens_same total _ _ _ _ _ _ (ended t p) (unspelled c u r from q s n y) x =
      let z : [] ≡ c ∷ r = past_one t [] p solid_end (c ∷ r) (subst (λ z. Past z (c ∷ r)) (sym x) q) s in absurd (cc)
  tokens_same total _ _ _ _ _ _ (token u body w b k from more f q s o h l y j rest) (ended t p) x =
      absurd (front_full body (record { k = k; w = w; behind = b; plain = o; split = h; longest = l }) (past_one u body q s [] (subst (λ z. Past z []) (sym x) p) solid_end))
  tokens_same total _ _ _ _ _ _ (token u body w b k from more f q s o h l y j rest) (token u' body' w' b' k' from' more' f' q' s' o' h' l' y' j' rest') x =
      let bodies : body ≡ body' = past_one u body q s body' (subst (λ z. Past z body') (sym x) q') s' in
      let behinds = same_behind body body' k k' w b w' b' bodies o h l o' h' l' in
      same_more k k' w w' from from' more more' f f' (same_kind body body' k k' w b w' b' bodies o h l o' h' l') (same_word body body' k k' w b w' b' bodies o h l o' h' l')
      (offsets from from' total body body' bodies y y') (tokens_same total b b' more more' f f' rest rest' behinds)
  tokens_same total _ _ _ _ _ _ (token u body w b k from more f q s o h l y j rest) (joined u' body' w' b' k' from' to' q' s' o' h' l' y' j' g') x =
      let bodies : body ≡ body' = past_one u body q s body' (subst (λ z. Past z body') (sym x) q') s' in
      let behinds = same_behind body body' k k' w b w' b' bodies o h l o' h' l' in
      let kinds = same_kind body body' k k' w b w' b' bodies o h l o' h' l' in
      absurd (both_ways (is_joined k' b') (subst (λ z. is_joined z b' ≡ false) kinds (subst (λ z. is_joined k z ≡ false) behinds j)) j')
  tokens_same total _ _ _ _ _ _ (token u body w b k from more f q s o h l y j rest) (unspelled c u' r from' q' s' n' y') x =
      let bodies : body ≡ c ∷ r = past_one u body q s (c ∷ r) (subst (λ z. Past z (c ∷ r)) (sym x) q') s' in
      absurd (no_front (c ∷ r) (moved body (c ∷ r) bodies (record { k = k; w = w; behind = b; plain = o; split = h; longest = l })) n')
  tokens_same total _ _ _ _ _ _ (joined u body w b k from to q s o h l y j g) (ended t p) x =
      absurd (front_full body (record { k = k; w = w; behind = b; plain = o; split = h; longest = l }) (past_one u body q s [] (subst (λ z. Past z []) (sym x) p) solid_end))
  tokens_same total _ _ _ _ _ _ (joined u body w b k from to q s o h l y j g) (token u' body' w' b' k' from' more' f' q' s' o' h' l' y' j' rest') x =
      let bodies : body ≡ body' = past_one u body q s body' (subst (λ z. Past z body') (sym x) q') s' in
      let behinds = same_behind body body' k k' w b w' b' bodies o h l o' h' l' in
      let kinds = same_kind body body' k k' w b w' b' bodies o h l o' h' l' in
      absurd (both_ways (is_joined k' b') j' (subst (λ z. is_joined z b' ≡ true) kinds (subst (λ z. is_joined k z ≡ true) behinds j)))
  tokens_same total _ _ _ _ _ _ (joined u body w b k from to q s o h l y j g) (joined u' body' w' b' k' from' to' q' s' o' h' l' y' j' g') x =
      let bodies : body ≡ body' = past_one u body q s body' (subst (λ z. Past z body') (sym x) q') s' in
      let behinds = same_behind body body' k k' w b w' b' bodies o h l o' h' l' in
      same_more k k' w w' from from' [] [] (ends.Fault to) (ends.Fault to') (same_kind body body' k k' w b w' b' bodies o h l o' h' l') (same_word body body' k k' w b w' b' bodies o h l o' h' l')
      (offsets from from' total body body' bodies y y') (record { tokens = refl; ends = ap ends.Fault (offsets to to' total b b' behinds g g') })
  tokens_same total _ _ _ _ _ _ (joined u body w b k from to q s o h l y j g) (unspelled c u' r from' q' s' n' y') x =
      let bodies : body ≡ c ∷ r = past_one u body q s (c ∷ r) (subst (λ z. Past z (c ∷ r)) (sym x) q') s' in
      absurd (no_front (c ∷ r) (moved body (c ∷ r) bodies (record { k = k; w = w; behind = b; plain = o; split = h; longest = l })) n')
  tokens_same total _ _ _ _ _ _ (unspelled c u r from q s n y) (ended t p) x =
      let z : c ∷ r ≡ [] = past_one u (c ∷ r) q s [] (subst (λ z. Past z []) (sym x) p) solid_end in absurd (cc)
  tokens_same total _ _ _ _ _ _ (unspelled c u r from q s n y) (token u' body' w' b' k' from' more' f' q' s' o' h' l' y' j' rest') x =
      let bodies : c ∷ r ≡ body' = past_one u (c ∷ r) q s body' (subst (λ z. Past z body') (sym x) q') s' in
      absurd (no_front (c ∷ r) (moved body' (c ∷ r) (sym bodies) (record { k = k'; w = w'; behind = b'; plain = o'; split = h'; longest = l' })) n)
  tokens_same total _ _ _ _ _ _ (unspelled c u r from q s n y) (joined u' body' w' b' k' from' to' q' s' o' h' l' y' j' g') x =
      let bodies : c ∷ r ≡ body' = past_one u (c ∷ r) q s body' (subst (λ z. Past z body') (sym x) q') s' in
      absurd (no_front (c ∷ r) (moved body' (c ∷ r) (sym bodies) (record { k = k'; w = w'; behind = b'; plain = o'; split = h'; longest = l' })) n)
  tokens_same total _ _ _ _ _ _ (unspelled c u r from q s n y) (unspelled c' u' r' from' q' s' n' y') x =
      let bodies : c ∷ r ≡ c' ∷ r' = past_one u (c ∷ r) q s (c' ∷ r') (subst (λ z. Past z (c' ∷ r')) (sym x) q') s' in
      record { tokens = refl; ends = ap ends.Fault (offsets from from' total (c ∷ r) (c' ∷ r') bodies y y') }

-- a token is a slice of the whole text, behind a front whose bytes are counted
slice_of : (total from : ℕ) (whole front text body word behind : List ℕ) (k : TokenKind) → total ≡ size whole → whole ≡ front ++ text → Past text body → body ≡ word ++ behind → from + size body ≡ total
    → IsSlice whole (lexed k word from) × ((next : List ℕ) × (whole ≡ next ++ behind))
slice_of total from whole front text body word behind k n e p s f =
    let gap = past_behind text body p in
    let all : whole ≡ (front ++ gap.0) ++ body = e ∙ ap (λ (x : List ℕ). front ++ x) gap.1 ∙ sym (append_assoc front gap.0 body) in
    let split : whole ≡ (front ++ gap.0) ++ (word ++ behind) = all ∙ ap (λ (x : List ℕ). (front ++ gap.0) ++ x) s in
    let count : size whole ≡ size (front ++ gap.0) + size body = ap size all ∙ size-append (front ++ gap.0) body in
    let at : from ≡ size (front ++ gap.0) = omega (arith, n, f, count) in
    ((front ++ gap.0, (behind, split, at)), ((front ++ gap.0) ++ word, split ∙ sym (append_assoc (front ++ gap.0) word behind)))

pub slices : (total : ℕ) (whole text : List ℕ) (ls : List Lexed) (e : End) → total ≡ size whole → Tokens total text ls e → (front : List ℕ) → whole ≡ front ++ text → AreSlices whole ls
slices total whole _ _ _ n (ended t p) front h = tt
slices total whole _ _ _ n (token t body w b k from more e p s o d l f j rest) front h =
    let here = slice_of total from whole front t body w b k n h p d f in
    (here.0, slices total whole b more e n rest here.1.0 here.1.1)
slices total whole _ _ _ n (joined t body w b k from to p s o d l f j g) front h = ((slice_of total from whole front t body w b k n h p d f).0, tt)
slices total whole _ _ _ n (unspelled c t r from p s u f) front h = tt
