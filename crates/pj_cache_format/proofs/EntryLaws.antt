-- Laws of results, entries and caches of format 2: their bytes are their text.
use Rattle.std.proofs.Common.{◌≡◌, ℕ, ◌<◌, ◌^◌, Bool, true, false, ◌||◌, cond, ltb, eqb, List, [], ◌∷◌, ◌++◌, length, map, Option, Some, None, refl, sym, ap, subst, ◌∙◌, arith}
use Rattle.std.specs.List.{flat_map}
use Rattle.std.specs.List.Sorted.{IsStrictlySortedBy}
use Rattle.std.proofs.lemmas.Str.{is_utf8-from_IsUtf8}
use Rattle.std.proofs.lemmas.Bool.{ltb-true, eqb-true, eqb-false}
use Rattle.std.proofs.lemmas.List.{length-map}
use Rattle.std.proofs.lemmas.List.Concat.{flat_map-cons}
use Rattle.pj_format.specs.Format.{Format, Done, ◌>>=◌}
use Rattle.pj_format.specs.Fields.{u8_as, u32_as, sized, sized_as, several_from, each, Chain, Along}
use Rattle.pj_format.proofs.Parts.{IsText, IsOpen, open_then, text_then, text_next, text_as, text_made, cond_open, done_text, from_text, each_text}
use Rattle.pj_names.specs.ClassName.{Name}
use Rattle.pj_reports.specs.declared.ruled.Head.{Head}
use Rattle.pj_reports.specs.declared.ruled.Head.TheVariants as heads
use Rattle.pj_cache.specs.declared.cache.KeyRows.{KeyRows}
use Rattle.pj_cache.specs.declared.cache.CachedResult.{CachedResult}
use Rattle.pj_cache.specs.declared.cache.Entry.{Entry}
use Rattle.pj_cache.specs.Places.{byte_order, place_in}
use Rattle.pj_cache_format.specs.Judges.{passing, text, is_path_behind}
use Rattle.pj_cache_format.specs.FormatTwo.{is_key_place, key_places, name_list, key_rows, first_of, with_places, result as result_format, is_empty, is_head_tag, head_message, head_behind, head, is_result_count, result_list, entry, entry_list}
use Rattle.pj_cache_format.specs.Texts.{number, string, counted}
use Rattle.pj_cache_format.specs.TextTwo.{rows_text, result_text, package_of, head_tag, head_content, head_text, entry_text}
use Rattle.pj_cache_format.proofs.WholeTwo.{AreKeyPlaces, AreKeyRows, AreNames, IsResultBehind, AreResults, IsEntryBehind}
use Rattle.pj_cache.proofs.Places.{place_of_member}
use Rattle.pj_cache_format.proofs.AnswerLaws.{tag_text, number_text, string_text, text_text, sized_law, counted_from, both_true}
use Rattle.pj_cache_format.proofs.ResultLaws.{key_places_law, name_list_law, key_rows_law}
use Rattle.pj_cache_format.specs.Fitting.{FitsHead, FitsText, HasRoom}
use Rattle.pj_cache_format.specs.Ordered.{places_of, result_step}

-- ---- results

abbrev pub ResultState : Type 0
ResultState = Option ℕ × List ℕ

abbrev pub ResultRead : Type 0
ResultRead = CachedResult × ResultState

abbrev pub result_made : ResultState → List ℕ → List Name → List KeyRows → ResultRead
result_made state places asked group = (record { group = group; names = asked }, (first_of places, with_places state.1 places))

-- the keys at some places have these places
placed_keys : (keys : List (List ℕ)) → IsStrictlySortedBy byte_order keys → (count : ℕ) → count ≡ length keys → (used : List ℕ) (before : Option ℕ) (places : List ℕ) (group : List KeyRows)
    → Chain (λ b p. (p < 2 ^ 32) × (is_key_place count used b p ≡ true)) (λ b p. Some p) before places → Along (AreKeyRows keys) places group → map (λ (k : KeyRows). place_in keys k.key) group ≡ places
placed_keys keys sorted count is used before [] [] chain along = refl
placed_keys keys sorted count is used before [] (k ∷ ks) chain along = absurd along
placed_keys keys sorted count is used before (p ∷ ps) [] chain along = absurd along
placed_keys keys sorted count is used before (p ∷ ps) (k ∷ ks) chain along =
    let there : p < count = ltb-true p count (both_true (ltb p count) _ chain.0.1).0 in
    let one : place_in keys k.key ≡ p = ap (place_in keys) (sym along.0.0) ∙ place_of_member keys p sorted (omega (arith, there, is)) in
    let others = placed_keys keys sorted count is used (Some p) ps ks chain.1 along.1 in
    λ i. one i ∷ others i

counted_places : (keys : List (List ℕ)) (group : List KeyRows) → counted number (map (λ (k : KeyRows). place_in keys k.key) group) ≡ counted (λ (k : KeyRows). number (place_in keys k.key)) group
counted_places keys group =
    let long : length (map (λ (k : KeyRows). place_in keys k.key) group) ≡ length group = length-map group (λ (k : KeyRows). place_in keys k.key) in
    let texts : flat_map number (map (λ (k : KeyRows). place_in keys k.key) group) ≡ flat_map (λ (k : KeyRows). number (place_in keys k.key)) group = each_place group in
    λ i. number (long i) ++ texts i
  where
    each_place : (ks : List KeyRows) → flat_map number (map (λ (k : KeyRows). place_in keys k.key) ks) ≡ flat_map (λ (k : KeyRows). number (place_in keys k.key)) ks
    each_place [] = refl
    each_place (k ∷ ks) = flat_map-cons number (place_in keys k.key) (map (λ (k : KeyRows). place_in keys k.key) ks) ∙ ap (λ (l : List ℕ). number (place_in keys k.key) ++ l) (each_place ks) ∙ sym (flat_map-cons (λ (k : KeyRows). number (place_in keys k.key)) k ks)

abbrev group_text : List KeyRows → List ℕ
group_text group = flat_map (λ (k : KeyRows). rows_text k.rows) group

abbrev names_text : List Name → List Name → List ℕ
names_text names list = counted (λ (n : Name). number (place_in names n)) list

module _ (keys : List (List ℕ)) (names : List Name) (keys_sorted : IsStrictlySortedBy byte_order keys) (names_sorted : IsStrictlySortedBy byte_order names) where
  group_law : (state : ResultState) (places : List ℕ) (asked : List Name) → IsText (each (key_rows keys) places >>= λ group. Done (result_made state places asked group)) (λ y. group_text y.0.group) (λ y. Along (AreKeyRows keys) places y.0.group × (y ≡ result_made state places asked y.0.group))
  group_law state places asked = text_made (each (key_rows keys) places) (result_made state places asked) (λ y. y.0.group) group_text (Along (AreKeyRows keys) places) (λ group g. refl) (each_text (key_rows keys) (λ k. rows_text k.rows) (AreKeyRows keys) (key_rows_law keys) places)

  asked_law : (state : ResultState) (places : List ℕ) → IsText (name_list names >>= λ asked. each (key_rows keys) places >>= λ group. Done (result_made state places asked group)) (λ y. names_text names y.0.names ++ group_text y.0.group)
      (λ y. AreNames names y.0.names × (Along (AreKeyRows keys) places y.0.group × (y ≡ result_made state places y.0.names y.0.group)))
  asked_law state places = text_next (name_list names) (λ asked. each (key_rows keys) places >>= λ group. Done (result_made state places asked group)) (names_text names) (AreNames names) (λ y. group_text y.0.group) (λ asked y. Along (AreKeyRows keys) places y.0.group × (y ≡ result_made state places asked y.0.group)) (λ y. y.0.names)
      (name_list_law names names_sorted) (group_law state places) (λ asked y g h. ap (λ (z : ResultRead). z.0.names) h.1)

  abbrev Reads : ResultState → ResultRead → Type 0
  Reads state y = AreKeyPlaces (length keys) state.1 state.0 (places_of keys y.0) × (AreNames names y.0.names × (Along (AreKeyRows keys) (places_of keys y.0) y.0.group × (y ≡ result_made state (places_of keys y.0) y.0.names y.0.group)))

  reads_from : (state : ResultState) (y : ResultRead) → Reads state y → IsResultBehind keys names state y.0 × (y.1 ≡ result_step keys state y.0)
  reads_from state y h = ((h.0, h.1.0, h.1.1.0), ap (λ (z : ResultRead). z.1) h.1.1.1)

  reads_to : (state : ResultState) (y : ResultRead) → IsResultBehind keys names state y.0 × (y.1 ≡ result_step keys state y.0) → Reads state y
  reads_to state y h = (h.0.0, (h.0.1, (h.0.2, ap (λ (s : ResultState). let z : ResultRead = (y.0, s) in z) h.1)))

  texts : (r : CachedResult) → counted number (places_of keys r) ++ (names_text names r.names ++ group_text r.group) ≡ result_text keys names r
  texts r = ap (λ (l : List ℕ). l ++ (names_text names r.names ++ group_text r.group)) (counted_places keys r.group)

  result_law : (state : ResultState) → IsText (result_format keys names state) (λ y. result_text keys names y.0) (λ y. IsResultBehind keys names state y.0 × (y.1 ≡ result_step keys state y.0))
  unfolding result_format
  result_law state =
      text_as (key_places (length keys) state.1 state.0 >>= λ places. name_list names >>= λ asked. each (key_rows keys) places >>= λ group. Done (result_made state places asked group))
      (λ y. counted number (places_of keys y.0) ++ (names_text names y.0.names ++ group_text y.0.group)) (λ y. result_text keys names y.0) (Reads state) (λ y. IsResultBehind keys names state y.0 × (y.1 ≡ result_step keys state y.0))
      (text_next (key_places (length keys) state.1 state.0) (λ places. name_list names >>= λ asked. each (key_rows keys) places >>= λ group. Done (result_made state places asked group)) (counted number) (AreKeyPlaces (length keys) state.1 state.0) (λ y. names_text names y.0.names ++ group_text y.0.group)
      (λ places y. AreNames names y.0.names × (Along (AreKeyRows keys) places y.0.group × (y ≡ result_made state places y.0.names y.0.group))) (λ y. places_of keys y.0)
      (key_places_law (length keys) state.1 state.0) (asked_law state) (λ places y g h. placed_keys keys keys_sorted (length keys) refl state.1 state.0 places y.0.group g.2 h.1.0))
      (λ y h. (reads_from state y h, texts y.0)) (λ y h. (reads_to state y h, texts y.0))

-- ---- heads

abbrev head_message_in : Head → List ℕ
head_message_in (heads.Package package_name) = []
head_message_in (heads.Message message) = message

abbrev Heads : List ℕ → ℕ → Head → Type 0
Heads package_name tag y = (head_tag y ≡ tag) × ((package_of y ≡ package_name) × FitsHead y)

head_message_from : (y : Head) → FitsText (head_message_in y) × (y ≡ heads.Message (head_message_in y)) → Heads [] 1 y × (string (head_message_in y) ≡ head_content y)
head_message_from (heads.Package package_name) h = absurd cc
head_message_from (heads.Message message) h = ((refl, (refl, h.0)), refl)

head_message_to : (y : Head) → Heads [] 1 y → (FitsText (head_message_in y) × (y ≡ heads.Message (head_message_in y))) × (string (head_message_in y) ≡ head_content y)
head_message_to (heads.Package package_name) h = absurd (omega (arith, h.0))
head_message_to (heads.Message message) h = ((h.1.1, refl), refl)

head_message_law : IsText head_message head_content (Heads [] 1)
unfolding head_message
head_message_law =
    text_as (text >>= λ message. Done (heads.Message message)) (λ y. string (head_message_in y)) head_content (λ y. FitsText (head_message_in y) × (y ≡ heads.Message (head_message_in y))) (Heads [] 1)
    (text_made text (λ message. heads.Message message) head_message_in string FitsText (λ message g. refl) text_text) head_message_from head_message_to

package_one : (package_name : List ℕ) (y : Head) → Heads package_name 0 y → y ≡ heads.Package package_name
package_one package_name (heads.Package p) h = ap (λ (l : List ℕ). heads.Package l) h.1.0
package_one package_name (heads.Message message) h = absurd (omega (arith, h.0))

empty_is : (l : List ℕ) → is_empty l ≡ true → l ≡ []
empty_is [] e = refl
empty_is (b ∷ bs) e = absurd cc

or_false : (a b : Bool) → a ≡ false → (a || b) ≡ true → b ≡ true
or_false true b is e = absurd cc
or_false false b is e = e

head_cases : (package_name : List ℕ) (tag : ℕ) (a : Bool) → eqb tag 0 ≡ a → tag < 2 → (eqb tag 0 || is_empty package_name) ≡ true → FitsText package_name → IsText (cond a (Done (heads.Package package_name)) head_message) head_content (Heads package_name tag)
head_cases package_name tag true e high test fits =
    subst (λ (n : ℕ). IsText (Done (heads.Package package_name)) head_content (Heads package_name n)) (sym (eqb-true tag 0 e)) (done_text (heads.Package package_name) head_content (Heads package_name 0) refl (refl, (refl, fits)) (package_one package_name))
head_cases package_name tag false e high test fits =
    let is : tag ≡ 1 = omega (arith, eqb-false tag 0 e, high) in
    let none : package_name ≡ [] = empty_is package_name (or_false (eqb tag 0) (is_empty package_name) e test) in
    subst (λ (n : ℕ). IsText head_message head_content (Heads package_name n)) (sym is) (subst (λ (l : List ℕ). IsText head_message head_content (Heads l 1)) (sym none) head_message_law)

head_behind_law : (package_name : List ℕ) (tag : ℕ) → is_head_tag package_name tag ≡ true → FitsText package_name → IsText (head_behind package_name tag) head_content (Heads package_name tag)
head_behind_law package_name tag test fits =
    let both = both_true (ltb tag 2) (eqb tag 0 || is_empty package_name) test in
    head_cases package_name tag (eqb tag 0) refl (ltb-true tag 2 both.0) both.1 fits

head_behind_open : (package_name : List ℕ) (tag : ℕ) → IsOpen (head_behind package_name tag)
unfolding IsOpen
head_behind_open package_name tag = cond_open (eqb tag 0) (Done (heads.Package package_name)) head_message tt head_message_law.is_open

head_fits : (y : Head) → FitsHead y → FitsText (package_of y) × ((head_tag y < 256) × (is_head_tag (package_of y) (head_tag y) ≡ true))
head_fits (heads.Package package_name) h = (h, (omega arith, refl))
head_fits (heads.Message message) h = ((omega arith, is_utf8-from_IsUtf8 [] ([], (refl, refl))), (omega arith, refl))

abbrev Tagged : List ℕ → Head → Type 0
Tagged package_name y = ((head_tag y < 256) × (is_head_tag package_name (head_tag y) ≡ true)) × Heads package_name (head_tag y) y

head_tagged : (package_name : List ℕ) → FitsText package_name → IsText (u8_as (passing (is_head_tag package_name)) >>= λ tag. head_behind package_name tag) (λ y. head_tag y ∷ [] ++ head_content y) (Tagged package_name)
head_tagged package_name fits =
    text_then (u8_as (passing (is_head_tag package_name))) (λ tag. head_behind package_name tag) (λ n. n ∷ []) (λ n. (n < 256) × (is_head_tag package_name n ≡ true)) head_content (λ tag y. Heads package_name tag y) head_tag
    (tag_text (is_head_tag package_name)) (λ tag p. head_behind_law package_name tag p.1 fits) (head_behind_open package_name) (λ tag y g h. h.0)

pub head_law : IsText head head_text FitsHead
unfolding head
head_law =
    text_as (text >>= λ package_name. u8_as (passing (is_head_tag package_name)) >>= λ tag. head_behind package_name tag) (λ y. string (package_of y) ++ (head_tag y ∷ [] ++ head_content y)) head_text (λ y. FitsText (package_of y) × Tagged (package_of y) y) FitsHead
    (text_then text (λ package_name. u8_as (passing (is_head_tag package_name)) >>= λ tag. head_behind package_name tag) string FitsText (λ y. head_tag y ∷ [] ++ head_content y) (λ package_name y. Tagged package_name y) package_of
    text_text head_tagged (λ package_name. open_then (u8_as (passing (is_head_tag package_name))) (λ tag. head_behind package_name tag) (tag_text (is_head_tag package_name)).is_open (head_behind_open package_name)) (λ package_name y g h. h.1.1.0))
    (λ y h. (h.1.1.1.1, refl)) (λ y h. let fits = head_fits y h in ((fits.0, (fits.1, (refl, (refl, h)))), refl))

-- ---- entries

nothing_counted : (results : List CachedResult) → eqb (length results) 0 ≡ true → results ≡ []
nothing_counted [] e = refl
nothing_counted (r ∷ rs) e = absurd (omega (arith, eqb-true (length (r ∷ rs)) 0 e))

abbrev pub EntryRead : Type 0
EntryRead = Entry × Option (List ℕ)

abbrev pub entry_made : List ℕ → List ℕ → Head → List CachedResult → EntryRead
entry_made path bytes h results = (record { path = path; bytes = bytes; head = h; results = results }, Some path)

module _ (keys : List (List ℕ)) (names : List Name) (keys_sorted : IsStrictlySortedBy byte_order keys) (names_sorted : IsStrictlySortedBy byte_order names) where
  abbrev Listed : Head → List CachedResult → Type 0
  Listed h results = ((length results < 2 ^ 32) × (is_result_count h (length results) ≡ true)) × ((length results ≡ length results) × Chain (IsResultBehind keys names) (result_step keys) (None, []) results)

  listed_from : (h : Head) (results : List CachedResult) → Listed h results → AreResults keys names h results
  listed_from (heads.Package package_name) results l = (l.0.0, l.1.1)
  listed_from (heads.Message message) results l = nothing_counted results l.0.1

  listed_to : (h : Head) (results : List CachedResult) → AreResults keys names h results → Listed h results
  listed_to (heads.Package package_name) results l = ((l.0, refl), (refl, l.1))
  listed_to (heads.Message message) results l = subst (λ (rs : List CachedResult). Listed (heads.Message message) rs) (sym l) ((omega arith, refl), (refl, tt))

  result_list_law : (h : Head) → IsText (result_list keys names h) (counted (result_text keys names)) (AreResults keys names h)
  unfolding result_list
  result_list_law h =
      text_as (u32_as (passing (is_result_count h)) >>= λ count. several_from (result_format keys names) count (None, [])) (counted (result_text keys names)) (counted (result_text keys names)) (Listed h) (AreResults keys names h)
      (text_next (u32_as (passing (is_result_count h))) (λ count. several_from (result_format keys names) count (None, [])) number (λ n. (n < 2 ^ 32) × (is_result_count h n ≡ true)) (flat_map (result_text keys names)) (λ n results. (length results ≡ n) × Chain (IsResultBehind keys names) (result_step keys) (None, []) results) length
      (number_text (is_result_count h))
      (λ n. from_text (result_format keys names) (result_text keys names) (IsResultBehind keys names) (result_step keys) (result_law keys names keys_sorted names_sorted) n (None, []))
      (λ n results g l. l.0))
      (λ results l. (listed_from h results l, refl)) (λ results l. (listed_to h results l, refl))

  results_law : (path bytes : List ℕ) (h : Head) → IsText (result_list keys names h >>= λ results. Done (entry_made path bytes h results)) (λ y. counted (result_text keys names) y.0.results) (λ y. AreResults keys names h y.0.results × (y ≡ entry_made path bytes h y.0.results))
  results_law path bytes h = text_made (result_list keys names h) (entry_made path bytes h) (λ y. y.0.results) (counted (result_text keys names)) (AreResults keys names h) (λ results g. refl) (result_list_law h)

  abbrev head_on : List ℕ → List ℕ → Head → Format EntryRead
  head_on path bytes h = result_list keys names h >>= λ results. Done (entry_made path bytes h results)

  heads_law : (path bytes : List ℕ) → IsText (head >>= head_on path bytes) (λ y. head_text y.0.head ++ counted (result_text keys names) y.0.results) (λ y. FitsHead y.0.head × (AreResults keys names y.0.head y.0.results × (y ≡ entry_made path bytes y.0.head y.0.results)))
  heads_law path bytes = text_next head (head_on path bytes) head_text FitsHead (λ y. counted (result_text keys names) y.0.results) (λ h y. AreResults keys names h y.0.results × (y ≡ entry_made path bytes h y.0.results)) (λ y. y.0.head) head_law (results_law path bytes) (λ h y g l. ap (λ (z : EntryRead). z.0.head) l.1)

  bytes_law : (path : List ℕ) → IsText (sized >>= λ bytes. head >>= head_on path bytes) (λ y. string y.0.bytes ++ (head_text y.0.head ++ counted (result_text keys names) y.0.results)) (λ y. HasRoom y.0.bytes × (FitsHead y.0.head × (AreResults keys names y.0.head y.0.results × (y ≡ entry_made path y.0.bytes y.0.head y.0.results))))
  bytes_law path = text_next sized (λ bytes. head >>= head_on path bytes) string HasRoom (λ y. head_text y.0.head ++ counted (result_text keys names) y.0.results) (λ bytes y. FitsHead y.0.head × (AreResults keys names y.0.head y.0.results × (y ≡ entry_made path bytes y.0.head y.0.results))) (λ y. y.0.bytes) sized_law (heads_law path) (λ bytes y g l. ap (λ (z : EntryRead). z.0.bytes) l.1.1)

  entry_law : (before : Option (List ℕ)) → IsText (entry keys names before) (λ y. entry_text keys names y.0) (λ y. IsEntryBehind keys names before y.0 × (y.1 ≡ Some y.0.path))
  unfolding entry
  entry_law before =
      text_as (sized_as (passing (is_path_behind before)) >>= λ path. sized >>= λ bytes. head >>= head_on path bytes) (λ y. entry_text keys names y.0) (λ y. entry_text keys names y.0)
      (λ y. (HasRoom y.0.path × (is_path_behind before y.0.path ≡ true)) × (HasRoom y.0.bytes × (FitsHead y.0.head × (AreResults keys names y.0.head y.0.results × (y ≡ entry_made y.0.path y.0.bytes y.0.head y.0.results))))) (λ y. IsEntryBehind keys names before y.0 × (y.1 ≡ Some y.0.path))
      (text_next (sized_as (passing (is_path_behind before))) (λ path. sized >>= λ bytes. head >>= head_on path bytes) string (λ s. HasRoom s × (is_path_behind before s ≡ true)) (λ y. string y.0.bytes ++ (head_text y.0.head ++ counted (result_text keys names) y.0.results))
      (λ path y. HasRoom y.0.bytes × (FitsHead y.0.head × (AreResults keys names y.0.head y.0.results × (y ≡ entry_made path y.0.bytes y.0.head y.0.results)))) (λ y. y.0.path) (string_text (is_path_behind before)) bytes_law (λ path y g l. ap (λ (z : EntryRead). z.0.path) l.1.1.1))
      (λ y h. ((((h.0.0, h.0.1), h.1.0, h.1.1.0, h.1.1.1.0), ap (λ (z : EntryRead). z.1) h.1.1.1.1), refl))
      (λ y h. (((h.0.0.0, h.0.0.1), (h.0.1, (h.0.2, (h.0.3, ap (λ (o : Option (List ℕ)). let z : EntryRead = (y.0, o) in z) h.1)))), refl))

  pub entry_list_law : IsText (entry_list keys names) (counted (entry_text keys names)) (λ list. HasRoom list × Chain (IsEntryBehind keys names) (λ before e. Some e.path) None list)
  unfolding entry_list
  entry_list_law = counted_from (entry keys names) (entry_text keys names) (IsEntryBehind keys names) (λ before e. Some e.path) None entry_law
