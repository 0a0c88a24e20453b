-- Laws of whole caches of format 2: their bytes are their text.
use Rattle.std.proofs.Common.{◌≡◌, ℕ, Bool, true, false, List, [], ◌∷◌, ◌++◌, length, map, Option, Some, None, refl, sym, ap, arith}
use Rattle.std.specs.Prelude.{codes, nat_eq}
use Rattle.std.specs.List.Sorted.{IsStrictlySortedBy}
use Rattle.std.specs.Cmp.Lexicographic.{pointwise, bytes_decides}
use Rattle.std.proofs.lemmas.List.{append-nil}
use Rattle.pj_format.specs.Format.{Format, Done, ◌>>=◌, Spells}
use Rattle.pj_format.specs.Fields.{u32, u32_as, sized, sized_as, several_from, each, Chain}
use Rattle.pj_format.proofs.Parts.{IsText, IsOpen, open_then, from_open, each_open, text_then, text_next, text_as, made_open, done_text}
use Rattle.pj_names.specs.declared.answer.Answer.{Answer}
use Rattle.pj_names.specs.ClassName.{Name, is_class_name}
use Rattle.std.specs.Str.{is_utf8}
use Rattle.pj_reports.specs.declared.ruled.Head.{Head}
use Rattle.pj_cache.specs.declared.cache.Entry.{Entry}
use Rattle.pj_cache.specs.declared.cache.Cache.{Cache}
use Rattle.pj_cache.specs.Places.{byte_order}
use Rattle.pj_cache_format.specs.Judges.{is_behind, passing, when, fault_here, is_path_behind, is_language}
use Rattle.pj_cache_format.specs.Answers.{answer_list}
use Rattle.pj_cache_format.specs.FormatTwo.{key_list, key_places, is_name_place, name_at, name_list, key_rows, result as result_format, head, is_result_count, result_list, entry, entry_list, keys_of, names_of, is_same_list, are_named, cache}
use Rattle.pj_cache_format.specs.Texts.{string, counted, answer_text}
use Rattle.pj_cache_format.specs.TextTwo.{entry_text, cache_text}
use Rattle.pj_cache_format.proofs.Whole.{IsAnswerBehind, AreAnswers}
use Rattle.pj_cache_format.proofs.WholeTwo.{IsKeyBehind, AreKeys, IsEntryBehind, IsWhole}
use Rattle.pj_cache_format.proofs.Order.{AreBehind, behind_sorted}
use Rattle.pj_cache_format.proofs.AnswerLaws.{number_text, string_text, u32_law, sized_law, both_true, answer_list_law}
use Rattle.pj_cache_format.proofs.ResultLaws.{key_list_law, key_places_law, name_made, key_rows_law}
use Rattle.pj_cache_format.proofs.EntryLaws.{ResultState, result_made, head_law, entry_made, entry_list_law}
use Rattle.pj_cache_format.specs.Fitting.{HasRoom}

-- ---- order

keys_behind : (before : Option (List ℕ)) (ks : List (List ℕ)) → Chain IsKeyBehind (λ b k. Some k) before ks → AreBehind before ks
keys_behind before [] h = tt
keys_behind before (k ∷ ks) h = (h.0.1, keys_behind (Some k) ks h.1)

keys_sorted : (ks : List (List ℕ)) → AreKeys ks → IsStrictlySortedBy byte_order ks
keys_sorted ks h = behind_sorted None ks (keys_behind None ks h.1)

abbrev pub named : List (Name × Answer) → List Name
named list = map (λ a. a.0) list

answers_behind : (before : Option Name) (list : List (Name × Answer)) → Chain IsAnswerBehind (λ b a. Some a.0) before list → AreBehind before (named list)
answers_behind before [] h = tt
answers_behind before (a ∷ rest) h =
    let two = both_true (is_utf8 a.0) _ h.0.1 in
    let three = both_true (is_class_name a.0) (is_behind byte_order before a.0) two.1 in
    (three.1, answers_behind (Some a.0) rest h.1)

pub names_sorted : (list : List (Name × Answer)) → AreAnswers list → IsStrictlySortedBy byte_order (named list)
names_sorted list h = behind_sorted None (named list) (answers_behind None list h.1)

-- ---- what may stand behind entries

name_at_open : (names : List Name) (before : Option ℕ) → IsOpen (name_at names before)
unfolding name_at
name_at_open names before = made_open (u32_as (passing (is_name_place (length names) before))) (name_made names) (number_text (is_name_place (length names) before)).is_open

pub name_list_open : (names : List Name) → IsOpen (name_list names)
unfolding name_list
name_list_open names = open_then u32 (λ count. several_from (name_at names) count None) u32_law.is_open (λ count. from_open (name_at names) count None (name_at_open names))

result_open : (keys : List (List ℕ)) (names : List Name) (state : ResultState) → IsOpen (result_format keys names state)
unfolding result_format
result_open keys names state =
    open_then (key_places (length keys) state.1 state.0) (λ places. name_list names >>= λ asked. each (key_rows keys) places >>= λ group. Done (result_made state places asked group)) (key_places_law (length keys) state.1 state.0).is_open
    (λ places. open_then (name_list names) (λ asked. each (key_rows keys) places >>= λ group. Done (result_made state places asked group)) (name_list_open names)
    (λ asked. made_open (each (key_rows keys) places) (result_made state places asked) (each_open (key_rows keys) places (λ p. (key_rows_law keys p).is_open))))

result_list_open : (keys : List (List ℕ)) (names : List Name) (h : Head) → IsOpen (result_list keys names h)
unfolding result_list
result_list_open keys names h = open_then (u32_as (passing (is_result_count h))) (λ count. several_from (result_format keys names) count (None, [])) (number_text (is_result_count h)).is_open (λ count. from_open (result_format keys names) count (None, []) (result_open keys names))

entry_open : (keys : List (List ℕ)) (names : List Name) (before : Option (List ℕ)) → IsOpen (entry keys names before)
unfolding entry
entry_open keys names before =
    open_then (sized_as (passing (is_path_behind before))) (λ path. sized >>= λ bytes. head >>= λ h. result_list keys names h >>= λ results. Done (entry_made path bytes h results)) (string_text (is_path_behind before)).is_open
    (λ path. open_then sized (λ bytes. head >>= λ h. result_list keys names h >>= λ results. Done (entry_made path bytes h results)) sized_law.is_open
    (λ bytes. open_then head (λ h. result_list keys names h >>= λ results. Done (entry_made path bytes h results)) head_law.is_open
    (λ h. made_open (result_list keys names h) (entry_made path bytes h) (result_list_open keys names h))))

entry_list_open : (keys : List (List ℕ)) (names : List Name) → IsOpen (entry_list keys names)
unfolding entry_list
entry_list_open keys names = open_then u32 (λ count. several_from (entry keys names) count None) u32_law.is_open (λ count. from_open (entry keys names) count None (entry_open keys names))

-- ---- the end

no_text : {A : Type 0} (x : A) → IsText (fault_here {A = A}) (λ y. []) (λ y. (false ≡ true) × (y ≡ x))
unfolding fault_here Spells IsOpen
no_text x = record {
  is_open = λ y. tt;
  takes = λ part y fits h. let none = h.holds.1 in absurd cc;
  again = λ y fits. let none = fits.0 in absurd cc;
}

pub when_text : {A : Type 0} (b : Bool) (x : A) → IsText (when b x) (λ y. []) (λ y. (b ≡ true) × (y ≡ x))
unfolding when
when_text true x = done_text x (λ y. []) (λ y. (true ≡ true) × (y ≡ x)) refl (refl, refl) (λ y h. h.1)
when_text false x = no_text x

-- ---- equal lists of byte strings

same_bytes : (a b : List ℕ) → pointwise nat_eq a b ≡ true → a ≡ b
same_bytes a b e = (bytes_decides a b).0 e

pub same_lists : (xs ys : List (List ℕ)) → is_same_list xs ys ≡ true → xs ≡ ys
same_lists [] [] e = refl
same_lists [] (y ∷ ys) e = absurd cc
same_lists (x ∷ xs) [] e = absurd cc
same_lists (x ∷ xs) (y ∷ ys) e =
    let both = both_true (pointwise nat_eq x y) (is_same_list xs ys) e in
    let one = same_bytes x y both.0 in
    let others = same_lists xs ys both.1 in
    λ i. one i ∷ others i

-- ---- caches

abbrev cache_made : List (Name × Answer) → List Entry → Cache
cache_made answers entries = record { answers = answers; entries = entries }

abbrev AreEntries : List (List ℕ) → List (Name × Answer) → List Entry → Type 0
AreEntries keys answers list = HasRoom list × Chain (IsEntryBehind keys (named answers)) (λ before e. Some e.path) None list

abbrev IsEnd : List (List ℕ) → List (Name × Answer) → Cache → Type 0
IsEnd keys answers y = (are_named keys answers y.entries ≡ true) × (y ≡ cache_made answers y.entries)

abbrev end_format : List (List ℕ) → List (Name × Answer) → List Entry → Format Cache
end_format keys answers entries = when (are_named keys answers entries) (cache_made answers entries)

abbrev entries_text : List (List ℕ) → List (Name × Answer) → List Entry → List ℕ
entries_text keys answers entries = counted (entry_text keys (named answers)) entries

entries_law : (keys : List (List ℕ)) (answers : List (Name × Answer)) → AreKeys keys → AreAnswers answers → IsText (entry_list keys (named answers) >>= end_format keys answers) (λ y. entries_text keys answers y.entries ++ []) (λ y. AreEntries keys answers y.entries × IsEnd keys answers y)
entries_law keys answers k a =
    text_next (entry_list keys (named answers)) (end_format keys answers) (counted (entry_text keys (named answers))) (AreEntries keys answers) (λ y. []) (λ entries y. (are_named keys answers entries ≡ true) × (y ≡ cache_made answers entries)) (λ y. y.entries)
    (entry_list_law keys (named answers) (keys_sorted keys k) (names_sorted answers a)) (λ entries. when_text (are_named keys answers entries) (cache_made answers entries)) (λ entries y g h. ap (λ (z : Cache). z.entries) h.1)

entries_open : (keys : List (List ℕ)) (answers : List (Name × Answer)) → IsOpen (entry_list keys (named answers) >>= end_format keys answers)
entries_open keys answers = open_then (entry_list keys (named answers)) (end_format keys answers) (entry_list_open keys (named answers)) (λ entries. (when_text (are_named keys answers entries) (cache_made answers entries)).is_open)

-- the same by what a cache has
abbrev rest_text : Cache → List ℕ
rest_text y = entries_text (keys_of y.entries) y.answers y.entries ++ []

same_text : (keys : List (List ℕ)) (answers : List (Name × Answer)) (y : Cache) → IsEnd keys answers y → entries_text keys answers y.entries ++ [] ≡ rest_text y
same_text keys answers y h =
    let both = both_true (is_same_list keys (keys_of y.entries)) (is_same_list (named answers) (names_of y.entries)) h.0 in
    let k : keys ≡ keys_of y.entries = same_lists keys (keys_of y.entries) both.0 in
    let a : answers ≡ y.answers = sym (ap (λ (z : Cache). z.answers) h.1) in
    λ i. entries_text (k i) (a i) y.entries ++ []

abbrev Rest : List (List ℕ) → List (Name × Answer) → Cache → Type 0
Rest keys answers y = AreEntries keys answers y.entries × IsEnd keys answers y

rest_law : (keys : List (List ℕ)) (answers : List (Name × Answer)) → AreKeys keys → AreAnswers answers → IsText (entry_list keys (named answers) >>= end_format keys answers) rest_text (Rest keys answers)
rest_law keys answers k a =
    text_as (entry_list keys (named answers) >>= end_format keys answers) (λ y. entries_text keys answers y.entries ++ []) rest_text (Rest keys answers) (Rest keys answers) (entries_law keys answers k a)
    (λ y h. (h, same_text keys answers y h.1)) (λ y h. (h, same_text keys answers y h.1))

answers_law : (keys : List (List ℕ)) → AreKeys keys → IsText (answer_list >>= λ answers. entry_list keys (named answers) >>= end_format keys answers) (λ y. counted answer_text y.answers ++ rest_text y) (λ y. AreAnswers y.answers × Rest keys y.answers y)
answers_law keys k =
    text_then answer_list (λ answers. entry_list keys (named answers) >>= end_format keys answers) (counted answer_text) AreAnswers rest_text (λ answers y. Rest keys answers y) (λ y. y.answers)
    answer_list_law (λ answers a. rest_law keys answers k a) (entries_open keys) (λ answers y g h. ap (λ (z : Cache). z.answers) h.1.1)

abbrev Keyed : List (List ℕ) → Cache → Type 0
Keyed keys y = AreAnswers y.answers × Rest keys y.answers y

keyed_back : (keys : List (List ℕ)) (y : Cache) → Keyed keys y → keys_of y.entries ≡ keys
keyed_back keys y h =
    let both = both_true (is_same_list keys (keys_of y.entries)) (is_same_list (named y.answers) (names_of y.entries)) h.1.1.0 in
    sym (same_lists keys (keys_of y.entries) both.0)

abbrev behind_keys : List (List ℕ) → Format Cache
behind_keys keys = answer_list >>= λ answers. entry_list keys (named answers) >>= end_format keys answers

keys_law : IsText (key_list >>= behind_keys) (λ y. counted string (keys_of y.entries) ++ (counted answer_text y.answers ++ rest_text y)) (λ y. AreKeys (keys_of y.entries) × Keyed (keys_of y.entries) y)
keys_law =
    text_then key_list behind_keys (counted string) AreKeys (λ y. counted answer_text y.answers ++ rest_text y) Keyed (λ y. keys_of y.entries)
    key_list_law answers_law (λ keys. open_then answer_list (λ answers. entry_list keys (named answers) >>= end_format keys answers) answer_list_law.is_open (entries_open keys)) (λ keys y g h. keyed_back keys y h)

abbrev language : List ℕ
language = codes "java-17"

abbrev IsRead : Cache → Type 0
IsRead y = (HasRoom language × (is_language language ≡ true)) × (AreKeys (keys_of y.entries) × Keyed (keys_of y.entries) y)

read_from : (y : Cache) → IsRead y → IsWhole y
read_from y h = record { keys = h.1.0; answers = h.1.1.0; room = h.1.1.1.0.0; entries = h.1.1.1.0.1; named = h.1.1.1.1.0 }

read_to : (y : Cache) → IsWhole y → IsRead y
read_to y h = ((omega arith, refl), (h.keys, (h.answers, ((h.room, h.entries), (h.named, refl)))))

whole_text : (y : Cache) → string language ++ (counted string (keys_of y.entries) ++ (counted answer_text y.answers ++ rest_text y)) ≡ cache_text y
whole_text y = ap (λ (l : List ℕ). string language ++ (counted string (keys_of y.entries) ++ (counted answer_text y.answers ++ l))) (append-nil (entries_text (keys_of y.entries) y.answers y.entries))

pub cache_law : IsText cache cache_text IsWhole
unfolding cache
cache_law =
    text_as (sized_as (passing is_language) >>= λ l. key_list >>= behind_keys) (λ y. string language ++ (counted string (keys_of y.entries) ++ (counted answer_text y.answers ++ rest_text y))) cache_text IsRead IsWhole
    (text_next (sized_as (passing is_language)) (λ l. key_list >>= behind_keys) string (λ s. HasRoom s × (is_language s ≡ true)) (λ y. counted string (keys_of y.entries) ++ (counted answer_text y.answers ++ rest_text y)) (λ l y. AreKeys (keys_of y.entries) × Keyed (keys_of y.entries) y) (λ y. language)
    (string_text is_language) (λ l. keys_law) (λ l y g h. sym (same_bytes l language g.1)))
    (λ y h. (read_from y h, whole_text y)) (λ y h. (read_to y h, whole_text y))
