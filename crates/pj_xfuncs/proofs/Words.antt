-- The words of a text, joined character by character.
use Rattle.std.proofs.Common.{◌≡◌, ◌∙◌, ℕ, Bool, true, false, List, [], ◌∷◌, ◌++◌, refl, sym, ap}
use Rattle.std.specs.List.{filter, slice_split, onto_first, join_with_byte}
use Rattle.std.proofs.lemmas.List.{append-nil}
use Rattle.pj_xfuncs.specs.declared.spaces.Between.TheVariants.{Start, Word, Spaces}
use Rattle.pj_xfuncs.specs.Spaces.{joined_from}
use Rattle.pj_xfuncs.specs.Strings.{Characters, is_space, is_word, words}

-- some words with a space before each
abbrev spaced : List Characters → Characters
spaced [] = []
spaced (word ∷ rest) = 32 ∷ join_with_byte 32 (word ∷ rest)

join-cons : (word : Characters) (rest : List Characters) → join_with_byte 32 (word ∷ rest) ≡ word ++ spaced rest
join-cons word [] = sym (append-nil word)
join-cons word (next ∷ rest) = refl

abbrev head : List Characters → Characters
head [] = []
head (part ∷ parts) = part

abbrev tail : List Characters → List Characters
tail [] = []
tail (part ∷ parts) = parts

onto : (c : ℕ) (parts : List Characters) → onto_first c parts ≡ (c ∷ head parts) ∷ tail parts
onto c [] = refl
onto c (part ∷ parts) = refl

record AllJoined (cs : Characters) : Type 0 where
  start : joined_from Start cs ≡ join_with_byte 32 (words cs)
  word : joined_from Word cs ≡ head (slice_split is_space cs) ++ spaced (filter is_word (tail (slice_split is_space cs)))
  spaces : joined_from Spaces cs ≡ spaced (words cs)

all_joined : (cs : Characters) → AllJoined cs
all_joined [] = record { start = refl; word = refl; spaces = refl }
all_joined (c ∷ cs) = go (all_joined cs) (is_space c) refl
  where
    go : AllJoined cs → (b : Bool) → is_space c ≡ b → AllJoined (c ∷ cs)
    go ih true e = record { start = rw e ih.start; word = rw e ih.spaces; spaces = rw e ih.spaces }
    go ih false e = record {
      start = rw (e, onto c (slice_split is_space cs)) (ap (λ (t : Characters). c ∷ t) ih.word ∙ sym (join-cons (c ∷ head (slice_split is_space cs)) (filter is_word (tail (slice_split is_space cs)))));
      word = rw (e, onto c (slice_split is_space cs)) (ap (λ (t : Characters). c ∷ t) ih.word);
      spaces = rw (e, onto c (slice_split is_space cs)) (ap (λ (t : Characters). 32 ∷ c ∷ t) ih.word ∙ ap (λ (t : Characters). 32 ∷ t) (sym (join-cons (c ∷ head (slice_split is_space cs)) (filter is_word (tail (slice_split is_space cs))))));
    }

pub joined-words : (cs : Characters) → joined_from Start cs ≡ join_with_byte 32 (words cs)
joined-words cs = (all_joined cs).start
