-- What format 1 says of the key, of order and of names in a cache: who makes a cache sees to it.
use Rattle.std.specs.Prelude.{◌≡◌, ℕ, true, List, map, Option, Some, None}
use Rattle.pj_format.specs.Fields.{Chain}
use Rattle.pj_names.specs.ClassName.{Name}
use Rattle.pj_cache.specs.declared.old.OldEntry.{OldEntry}
use Rattle.pj_cache.specs.declared.old.OldCache.{OldCache}
use Rattle.pj_cache.specs.Places.{place_in}
use Rattle.pj_cache_format.specs.Judges.{is_path_behind}
use Rattle.pj_cache_format.specs.Ordered.{IsAnswerInOrder, IsNameInOrder}
use Rattle.pj_old_format.specs.ListKeys.{IsListKey}
use Rattle.pj_old_format.specs.FormatOne.{old_names_of}

-- names of answers, by strictly ascending places among them
abbrev pub AreNamesInOrder : List Name → List Name → Type 0
AreNamesInOrder names list = Chain (IsNameInOrder names) (λ before name. Some (place_in names name)) None list

-- an entry behind the path of another one
abbrev pub IsOldEntryInOrder : List Name → Option (List ℕ) → OldEntry → Type 0
IsOldEntryInOrder names before e = (is_path_behind before e.path ≡ true) × AreNamesInOrder names e.names

-- The cache keeps what the format says of the key, of order and of names.
pub record IsOldInOrder (c : OldCache) : Type 0 where
  pub rules : IsListKey c.rules
  pub answers : Chain IsAnswerInOrder (λ before a. Some a.0) None c.answers
  pub entries : Chain (IsOldEntryInOrder (map (λ a. a.0) c.answers)) (λ before e. Some e.path) None c.entries
  -- the answers are just those for the names that entries have
  pub named : old_names_of c.entries ≡ map (λ a. a.0) c.answers
