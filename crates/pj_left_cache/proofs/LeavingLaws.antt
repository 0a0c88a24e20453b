-- The cache that is left, in a world.
use Rattle.std.proofs.Common.{◌≡◌, ℕ, List, [], ◌∷◌, ◌++◌, map, refl, sym, ap, ◌∙◌}
use Rattle.std.proofs.lemmas.List.{append-nil}
use Rattle.pj_names.specs.declared.answer.Answer.{Answer}
use Rattle.pj_names.specs.ClassName.{Name}
use Rattle.pj_names.specs.Asking.{Return, Ask, each, value_of, names_of as names_asked}
use Rattle.pj_names.proofs.MeaningLaws.{each-gather, gather, names_of-bind, value_of-bind}
use Rattle.pj_cache.specs.declared.cache.Entry.{Entry}
use Rattle.pj_cache.specs.declared.cache.Cache.{Cache}
use Rattle.pj_cache_format.specs.FormatTwo.{names_of}
use Rattle.pj_left_cache.specs.Leaving.{answered, answers_behind, left_cache}

abbrev Pairs : Type 0
Pairs = List (Name × Answer)

behind_is : (front : Pairs) (names : List Name) → answers_behind front names ≡ gather answered front names
behind_is front [] = refl
behind_is front (n ∷ ns) = λ i. Ask n (λ now. behind_is (front ++ (n, now) ∷ []) ns i)

-- answers one behind the other are those of each name
pub answers_are : (names : List Name) → answers_behind [] names ≡ each answered names
answers_are names = behind_is [] names ∙ sym (each-gather answered names)

abbrev pub cache_of : List Entry → Pairs → Cache
cache_of entries answers = record { answers = answers; entries = entries }

module _ (depth : ℕ) (world : Name → Answer) where
  abbrev worlds : List Name → Pairs
  worlds names = map (λ (name : Name). (name, world name)) names

  each_value : (names : List Name) → value_of depth world (each answered names) ≡ worlds names
  each_value [] = refl
  each_value (n ∷ ns) =
      value_of-bind depth world (each answered ns) (λ (more : Pairs). Return ((n, world n) ∷ more)) ∙ ap (λ (l : Pairs). (n, world n) ∷ l) (each_value ns)

  each_names : (names : List Name) → names_asked depth world (each answered names) ≡ names
  each_names [] = refl
  each_names (n ∷ ns) =
      ap (λ (l : List Name). n ∷ l) (names_of-bind depth world (each answered ns) (λ (more : Pairs). Return ((n, world n) ∷ more)) ∙ append-nil (names_asked depth world (each answered ns)) ∙ each_names ns)

  pub left_value : (entries : List Entry) → value_of depth world (left_cache entries) ≡ record { answers = worlds (names_of entries); entries = entries }
  left_value entries =
      value_of-bind depth world (each answered (names_of entries)) (λ (answers : Pairs). Return (cache_of entries answers)) ∙ ap (cache_of entries) (each_value (names_of entries))

  pub left_names : (entries : List Entry) → names_asked depth world (left_cache entries) ≡ names_of entries
  left_names entries =
      names_of-bind depth world (each answered (names_of entries)) (λ (answers : Pairs). Return (cache_of entries answers))
      ∙ append-nil (names_asked depth world (each answered (names_of entries)))
      ∙ each_names (names_of entries)
