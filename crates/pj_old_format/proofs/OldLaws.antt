-- Laws of entries and caches of format 1: their bytes are their text.
use Rattle.std.proofs.Common.{◌≡◌, ℕ, true, List, [], ◌++◌, Option, Some, None, refl, sym, ap}
use Rattle.std.specs.List.Sorted.{IsStrictlySortedBy}
use Rattle.std.proofs.lemmas.List.{append-nil}
use Rattle.pj_format.specs.Format.{Format, Done, ◌>>=◌}
use Rattle.pj_format.specs.Fields.{u32, sized, sized_as, several_from, Chain}
use Rattle.pj_format.proofs.Parts.{IsText, IsOpen, open_then, from_open, text_then, text_next, text_as, text_made, made_open}
use Rattle.pj_names.specs.declared.answer.Answer.{Answer}
use Rattle.pj_names.specs.ClassName.{Name}
use Rattle.pj_reports.specs.declared.rows.FileRows.{FileRows}
use Rattle.pj_cache.specs.declared.old.OldEntry.{OldEntry}
use Rattle.pj_cache.specs.declared.old.OldCache.{OldCache}
use Rattle.pj_cache.specs.Places.{byte_order, place_in}
use Rattle.pj_cache_format.specs.Judges.{passing, when, is_path_behind}
use Rattle.pj_cache_format.specs.Answers.{answer_list}
use Rattle.pj_cache_format.specs.FormatTwo.{name_list}
use Rattle.pj_cache_format.specs.Texts.{number, string, counted, answer_text}
use Rattle.pj_cache_format.specs.Fitting.{HasRoom}
use Rattle.pj_cache_format.proofs.Whole.{AreAnswers}
use Rattle.pj_cache_format.proofs.WholeTwo.{AreNames}
use Rattle.pj_cache_format.proofs.AnswerLaws.{string_text, u32_law, sized_law, counted_from, answer_list_law}
use Rattle.pj_cache_format.proofs.ResultLaws.{name_list_law}
use Rattle.pj_cache_format.proofs.CacheLaws.{named, names_sorted, name_list_open, when_text}
use Rattle.pj_old_format.specs.ListKeys.{list_key, IsListKey}
use Rattle.pj_old_format.specs.FormatOne.{file_rows, old_entry, old_entry_list, are_old_named, old_cache}
use Rattle.pj_old_format.specs.TextOne.{file_rows_text, old_entry_text, old_cache_text}
use Rattle.pj_old_format.proofs.WholeOne.{AreFileRows, IsOldEntryBehind, IsOldWhole}
use Rattle.pj_old_format.proofs.KeyLaws.{list_key_law}
use Rattle.pj_old_format.proofs.RowLaws.{file_rows_law}

-- ---- entries

abbrev EntryRead : Type 0
EntryRead = OldEntry × Option (List ℕ)

abbrev entry_made : List ℕ → List ℕ → List Name → FileRows → EntryRead
entry_made path bytes asked rows = (record { path = path; bytes = bytes; names = asked; rows = rows }, Some path)

abbrev names_on : List ℕ → List ℕ → List Name → Format EntryRead
names_on path bytes asked = file_rows >>= λ rows. Done (entry_made path bytes asked rows)

abbrev names_text : List Name → List Name → List ℕ
names_text names list = counted (λ (n : Name). number (place_in names n)) list

rows_law : (path bytes : List ℕ) (asked : List Name) → IsText (names_on path bytes asked) (λ y. file_rows_text y.0.rows) (λ y. AreFileRows y.0.rows × (y ≡ entry_made path bytes asked y.0.rows))
rows_law path bytes asked = text_made file_rows (entry_made path bytes asked) (λ y. y.0.rows) file_rows_text AreFileRows (λ rows g. refl) file_rows_law

module _ (names : List Name) (sorted : IsStrictlySortedBy byte_order names) where
  asked_law : (path bytes : List ℕ) → IsText (name_list names >>= names_on path bytes) (λ y. names_text names y.0.names ++ file_rows_text y.0.rows) (λ y. AreNames names y.0.names × (AreFileRows y.0.rows × (y ≡ entry_made path bytes y.0.names y.0.rows)))
  asked_law path bytes =
      text_next (name_list names) (names_on path bytes) (names_text names) (AreNames names) (λ y. file_rows_text y.0.rows) (λ asked y. AreFileRows y.0.rows × (y ≡ entry_made path bytes asked y.0.rows)) (λ y. y.0.names)
      (name_list_law names sorted) (rows_law path bytes) (λ asked y g h. ap (λ (z : EntryRead). z.0.names) h.1)

  bytes_law : (path : List ℕ) → IsText (sized >>= λ bytes. name_list names >>= names_on path bytes) (λ y. string y.0.bytes ++ (names_text names y.0.names ++ file_rows_text y.0.rows)) (λ y. HasRoom y.0.bytes × (AreNames names y.0.names × (AreFileRows y.0.rows × (y ≡ entry_made path y.0.bytes y.0.names y.0.rows))))
  bytes_law path =
      text_next sized (λ bytes. name_list names >>= names_on path bytes) string HasRoom (λ y. names_text names y.0.names ++ file_rows_text y.0.rows) (λ bytes y. AreNames names y.0.names × (AreFileRows y.0.rows × (y ≡ entry_made path bytes y.0.names y.0.rows))) (λ y. y.0.bytes)
      sized_law (asked_law path) (λ bytes y g h. ap (λ (z : EntryRead). z.0.bytes) h.1.1)

  entry_law : (before : Option (List ℕ)) → IsText (old_entry names before) (λ y. old_entry_text names y.0) (λ y. IsOldEntryBehind names before y.0 × (y.1 ≡ Some y.0.path))
  unfolding old_entry
  entry_law before =
      text_as (sized_as (passing (is_path_behind before)) >>= λ path. sized >>= λ bytes. name_list names >>= names_on path bytes) (λ y. old_entry_text names y.0) (λ y. old_entry_text names y.0)
      (λ y. (HasRoom y.0.path × (is_path_behind before y.0.path ≡ true)) × (HasRoom y.0.bytes × (AreNames names y.0.names × (AreFileRows y.0.rows × (y ≡ entry_made y.0.path y.0.bytes y.0.names y.0.rows))))) (λ y. IsOldEntryBehind names before y.0 × (y.1 ≡ Some y.0.path))
      (text_next (sized_as (passing (is_path_behind before))) (λ path. sized >>= λ bytes. name_list names >>= names_on path bytes) string (λ s. HasRoom s × (is_path_behind before s ≡ true)) (λ y. string y.0.bytes ++ (names_text names y.0.names ++ file_rows_text y.0.rows))
      (λ path y. HasRoom y.0.bytes × (AreNames names y.0.names × (AreFileRows y.0.rows × (y ≡ entry_made path y.0.bytes y.0.names y.0.rows)))) (λ y. y.0.path) (string_text (is_path_behind before)) bytes_law (λ path y g h. ap (λ (z : EntryRead). z.0.path) h.1.1.1))
      (λ y h. ((((h.0.0, h.0.1), h.1.0, h.1.1.0, h.1.1.1.0), ap (λ (z : EntryRead). z.1) h.1.1.1.1), refl))
      (λ y h. (((h.0.0.0, h.0.0.1), (h.0.1, (h.0.2, (h.0.3, ap (λ (o : Option (List ℕ)). let z : EntryRead = (y.0, o) in z) h.1)))), refl))

  entry_list_law : IsText (old_entry_list names) (counted (old_entry_text names)) (λ list. HasRoom list × Chain (IsOldEntryBehind names) (λ before e. Some e.path) None list)
  unfolding old_entry_list
  entry_list_law = counted_from (old_entry names) (old_entry_text names) (IsOldEntryBehind names) (λ before e. Some e.path) None entry_law

-- ---- what may stand behind entries

entry_open : (names : List Name) (before : Option (List ℕ)) → IsOpen (old_entry names before)
unfolding old_entry
entry_open names before =
    open_then (sized_as (passing (is_path_behind before))) (λ path. sized >>= λ bytes. name_list names >>= names_on path bytes) (string_text (is_path_behind before)).is_open
    (λ path. open_then sized (λ bytes. name_list names >>= names_on path bytes) sized_law.is_open
    (λ bytes. open_then (name_list names) (names_on path bytes) (name_list_open names)
    (λ asked. made_open file_rows (entry_made path bytes asked) file_rows_law.is_open)))

entry_list_open : (names : List Name) → IsOpen (old_entry_list names)
unfolding old_entry_list
entry_list_open names = open_then u32 (λ count. several_from (old_entry names) count None) u32_law.is_open (λ count. from_open (old_entry names) count None (entry_open names))

-- ---- caches

abbrev cache_made : List ℕ → List (Name × Answer) → List OldEntry → OldCache
cache_made key answers entries = record { rules = key; answers = answers; entries = entries }

abbrev AreEntries : List (Name × Answer) → List OldEntry → Type 0
AreEntries answers list = HasRoom list × Chain (IsOldEntryBehind (named answers)) (λ before e. Some e.path) None list

abbrev end_format : List ℕ → List (Name × Answer) → List OldEntry → Format OldCache
end_format key answers entries = when (are_old_named answers entries) (cache_made key answers entries)

abbrev IsEnd : List ℕ → List (Name × Answer) → OldCache → Type 0
IsEnd key answers y = (are_old_named answers y.entries ≡ true) × (y ≡ cache_made key answers y.entries)

abbrev entries_text : List (Name × Answer) → List OldEntry → List ℕ
entries_text answers entries = counted (old_entry_text (named answers)) entries

entries_law : (key : List ℕ) (answers : List (Name × Answer)) → AreAnswers answers → IsText (old_entry_list (named answers) >>= end_format key answers) (λ y. entries_text answers y.entries ++ []) (λ y. AreEntries answers y.entries × IsEnd key answers y)
entries_law key answers a =
    text_next (old_entry_list (named answers)) (end_format key answers) (counted (old_entry_text (named answers))) (AreEntries answers) (λ y. []) (λ entries y. (are_old_named answers entries ≡ true) × (y ≡ cache_made key answers entries)) (λ y. y.entries)
    (entry_list_law (named answers) (names_sorted answers a)) (λ entries. when_text (are_old_named answers entries) (cache_made key answers entries)) (λ entries y g h. ap (λ (z : OldCache). z.entries) h.1)

entries_open : (key : List ℕ) (answers : List (Name × Answer)) → IsOpen (old_entry_list (named answers) >>= end_format key answers)
entries_open key answers = open_then (old_entry_list (named answers)) (end_format key answers) (entry_list_open (named answers)) (λ entries. (when_text (are_old_named answers entries) (cache_made key answers entries)).is_open)

-- the same by what a cache has
abbrev rest_text : OldCache → List ℕ
rest_text y = entries_text y.answers y.entries ++ []

abbrev Rest : List ℕ → List (Name × Answer) → OldCache → Type 0
Rest key answers y = AreEntries answers y.entries × IsEnd key answers y

same_text : (key : List ℕ) (answers : List (Name × Answer)) (y : OldCache) → IsEnd key answers y → entries_text answers y.entries ++ [] ≡ rest_text y
same_text key answers y h = ap (λ (a : List (Name × Answer)). entries_text a y.entries ++ []) (sym (ap (λ (z : OldCache). z.answers) h.1))

rest_law : (key : List ℕ) (answers : List (Name × Answer)) → AreAnswers answers → IsText (old_entry_list (named answers) >>= end_format key answers) rest_text (Rest key answers)
rest_law key answers a =
    text_as (old_entry_list (named answers) >>= end_format key answers) (λ y. entries_text answers y.entries ++ []) rest_text (Rest key answers) (Rest key answers) (entries_law key answers a)
    (λ y h. (h, same_text key answers y h.1)) (λ y h. (h, same_text key answers y h.1))

abbrev behind_key : List ℕ → Format OldCache
behind_key key = answer_list >>= λ answers. old_entry_list (named answers) >>= end_format key answers

answers_law : (key : List ℕ) → IsText (behind_key key) (λ y. counted answer_text y.answers ++ rest_text y) (λ y. AreAnswers y.answers × Rest key y.answers y)
answers_law key =
    text_then answer_list (λ answers. old_entry_list (named answers) >>= end_format key answers) (counted answer_text) AreAnswers rest_text (λ answers y. Rest key answers y) (λ y. y.answers)
    answer_list_law (rest_law key) (entries_open key) (λ answers y g h. ap (λ (z : OldCache). z.answers) h.1.1)

abbrev IsRead : OldCache → Type 0
IsRead y = IsListKey y.rules × (AreAnswers y.answers × Rest y.rules y.answers y)

read_from : (y : OldCache) → IsRead y → IsOldWhole y
read_from y h = record { rules = h.0; answers = h.1.0; room = h.1.1.0.0; entries = h.1.1.0.1; named = h.1.1.1.0 }

read_to : (y : OldCache) → IsOldWhole y → IsRead y
read_to y h = (h.rules, (h.answers, ((h.room, h.entries), (h.named, refl))))

whole_text : (y : OldCache) → y.rules ++ (counted answer_text y.answers ++ rest_text y) ≡ old_cache_text y
whole_text y = ap (λ (l : List ℕ). y.rules ++ (counted answer_text y.answers ++ l)) (append-nil (entries_text y.answers y.entries))

pub old_cache_law : IsText old_cache old_cache_text IsOldWhole
unfolding old_cache
old_cache_law =
    text_as (list_key >>= behind_key) (λ y. y.rules ++ (counted answer_text y.answers ++ rest_text y)) old_cache_text IsRead IsOldWhole
    (text_next list_key behind_key (λ (bytes : List ℕ). bytes) IsListKey (λ y. counted answer_text y.answers ++ rest_text y) (λ key y. AreAnswers y.answers × Rest key y.answers y) (λ y. y.rules)
    list_key_law answers_law (λ key y g h. ap (λ (z : OldCache). z.rules) h.1.1.1))
    (λ y h. (read_from y h, whole_text y)) (λ y h. (read_to y h, whole_text y))
