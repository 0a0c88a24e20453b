-- Format 2 of caches: results by file and rule.
use Rattle.std.specs.Prelude.{ℕ, Bool, true, false, not, ◌==◌, ◌&&◌, ◌||◌, List, [], ◌∷◌, length, map, flat_map, nat_eq, nat_lt, Option, Some, None, Result, Ok, Err, slice_get, cond, if◌then◌else◌}
use Rattle.std.specs.List.{list_any}
use Rattle.std.specs.BTreeSet.{insert_key}
use Rattle.std.specs.BTreeMap.{is_at}
use Rattle.std.specs.Cmp.Lexicographic.{pointwise}
use Rattle.std.specs.Ordering.{nat_cmp}
use Rattle.pj_format.specs.Format.{Format, Done, ◌>>=◌}
use Rattle.pj_format.specs.Fields.{u8_as, u32, u32_as, sized, sized_as, several_from, each}
use Rattle.pj_names.specs.declared.answer.Answer.{Answer}
use Rattle.pj_names.specs.ClassName.{Name}
use Rattle.pj_reports.specs.declared.rows.Reason.{Reason}
use Rattle.pj_reports.specs.declared.rows.Reason.TheVariants as reasons
use Rattle.pj_tree.specs.declared.node.Place.{Place}
use Rattle.pj_reports.specs.declared.ruled.Head.{Head}
use Rattle.pj_reports.specs.declared.ruled.Head.TheVariants as heads
use Rattle.pj_reports.specs.declared.ruled.Ruled.{Ruled}
use Rattle.pj_reports.specs.declared.ruled.Ruled.TheVariants as ruled
use Rattle.pj_reports.specs.declared.ruled.Spot.{Spot}
use Rattle.pj_cache.specs.declared.cache.KeyRows.{KeyRows}
use Rattle.pj_cache.specs.declared.cache.CachedResult.{CachedResult}
use Rattle.pj_cache.specs.declared.cache.Entry.{Entry}
use Rattle.pj_cache.specs.declared.cache.Cache.{Cache}
use Rattle.pj_cache.specs.Places.{byte_order, member_at}
use Rattle.pj_cache_format.specs.Judges.{is_behind, passing, when, text, is_path_behind, is_language, is_below}
use Rattle.pj_cache_format.specs.Answers.{answer_list}

-- Keys of rules.

-- a key behind another one
unfoldable pub key : Option (List ℕ) → Format (List ℕ × Option (List ℕ))
key before = do
  bytes ← sized_as (passing (is_behind byte_order before))
  Done (bytes, Some bytes)

-- the keys by strictly ascending bytes
unfoldable pub key_list : Format (List (List ℕ))
key_list = u32 >>= λ count. several_from key count None

-- What a rule comes to.

-- byte 0, reported; 1 to 4, why it is not
abbrev pub reason_of : ℕ → Result (Option Reason) ℕ
reason_of n =
    if n == 0 then Ok None
    else if n == 1 then Ok (Some reasons.Annotation)
    else if n == 2 then Ok (Some reasons.Comment)
    else if n == 3 then Ok (Some reasons.Regex)
    else if n == 4 then Ok (Some reasons.XPath)
    else Err 1

-- a line and a column
unfoldable pub place : Format Place
place = do
  line ← u32
  column ← u32
  Done (record { line = line; column = column })

-- a node behind another one, and the places of its first and of its last character
unfoldable pub spot : Option ℕ → Format (Spot × Option ℕ)
spot before = do
  node ← u32_as (passing (is_behind nat_cmp before))
  begin ← place
  end ← place
  reason ← u8_as reason_of
  Done (record { node = node; begin = begin; end = end; reason = reason }, Some node)

unfoldable pub spot_list : Format (List Spot)
spot_list = u32 >>= λ count. several_from spot count None

unfoldable pub spots : Format Ruled
spots = do
  all ← spot_list
  Done (ruled.Spots all)

unfoldable pub rule_message : Format Ruled
rule_message = do
  message ← text
  Done (ruled.Message message)

-- byte 0, the nodes; byte 1, a message
abbrev pub rows_behind : ℕ → Format Ruled
rows_behind tag = cond (tag == 0) spots rule_message

unfoldable pub rows : Format Ruled
rows = u8_as (passing (is_below 2)) >>= λ tag. rows_behind tag

-- Results, by the places of their keys and names.

-- whether a place is among some places
abbrev pub has : List ℕ → ℕ → Bool
has places place = list_any (is_at (nat_cmp place)) places

-- places in their order, with some more of them
abbrev pub with_places : List ℕ → List ℕ → List ℕ
with_places held [] = held
with_places held (p ∷ ps) = with_places (insert_key nat_cmp held p) ps

-- one of so many keys, behind the one before it in its result, or else behind the first one of the result before; no earlier
-- result of the entry has it
abbrev pub is_key_place : ℕ → List ℕ → Option ℕ → ℕ → Bool
is_key_place count used before place = nat_lt place count && (is_behind nat_cmp before place && not (has used place))

unfoldable pub key_place : ℕ → List ℕ → Option ℕ → Format (ℕ × Option ℕ)
key_place count used before = do
  place ← u32_as (passing (is_key_place count used before))
  Done (place, Some place)

-- one of so many names, behind the one before it
abbrev pub is_name_place : ℕ → Option ℕ → ℕ → Bool
is_name_place count before place = nat_lt place count && is_behind nat_cmp before place

unfoldable pub name_at : List Name → Option ℕ → Format (Name × Option ℕ)
name_at names before = do
  place ← u32_as (passing (is_name_place (length names) before))
  Done (member_at names place, Some place)

unfoldable pub name_list : List Name → Format (List Name)
name_list names = u32 >>= λ count. several_from (name_at names) count None

-- the rows of the key at a place
unfoldable pub key_rows : List (List ℕ) → ℕ → Format KeyRows
key_rows keys place = do
  rows ← rows
  Done (record { key = member_at keys place; rows = rows })

abbrev pub first_of : List ℕ → Option ℕ
first_of places = slice_get places 0

-- the places of the keys of a result, one at least
unfoldable pub key_places : ℕ → List ℕ → Option ℕ → Format (List ℕ)
key_places key_count used before = u32_as (passing (nat_lt 0)) >>= λ count. several_from (key_place key_count used) count before

-- A result, behind the first key of another one, in an entry whose earlier results have the keys at some places; and the same
-- for the next one.
unfoldable pub result : List (List ℕ) → List Name → Option ℕ × List ℕ → Format (CachedResult × (Option ℕ × List ℕ))
result keys names state = do
  places ← key_places (length keys) state.1 state.0
  asked ← name_list names
  group ← each (key_rows keys) places
  Done (record { group = group; names = asked }, (first_of places, with_places state.1 places))

-- Entries.

abbrev pub is_empty : List ℕ → Bool
is_empty [] = true
is_empty (b ∷ bs) = false

-- byte 0, or byte 1 behind an empty package
abbrev pub is_head_tag : List ℕ → ℕ → Bool
is_head_tag package_name tag = nat_lt tag 2 && (tag == 0 || is_empty package_name)

unfoldable pub head_message : Format Head
head_message = do
  message ← text
  Done (heads.Message message)

abbrev pub head_behind : List ℕ → ℕ → Format Head
head_behind package_name tag = cond (tag == 0) (Done (heads.Package package_name)) head_message

-- a package, and where it is empty a message in its place
unfoldable pub head : Format Head
head = do
  package_name ← text
  tag ← u8_as (passing (is_head_tag package_name))
  head_behind package_name tag

-- a file without a tree has no results
abbrev pub is_result_count : Head → ℕ → Bool
is_result_count (heads.Package package_name) count = true
is_result_count (heads.Message message) count = count == 0

unfoldable pub result_list : List (List ℕ) → List Name → Head → Format (List CachedResult)
result_list keys names head = u32_as (passing (is_result_count head)) >>= λ count. several_from (result keys names) count (None, [])

-- an entry behind the path of another one
unfoldable pub entry : List (List ℕ) → List Name → Option (List ℕ) → Format (Entry × Option (List ℕ))
entry keys names before = do
  path ← sized_as (passing (is_path_behind before))
  bytes ← sized
  head ← head
  results ← result_list keys names head
  Done (record { path = path; bytes = bytes; head = head; results = results }, Some path)

-- the entries by strictly ascending path
unfoldable pub entry_list : List (List ℕ) → List Name → Format (List Entry)
entry_list keys names = u32 >>= λ count. several_from (entry keys names) count None

-- What the entries name.

-- byte strings in their order, each once, with some more of them
abbrev pub with_more : List (List ℕ) → List (List ℕ) → List (List ℕ)
with_more held [] = held
with_more held (x ∷ xs) = with_more (insert_key byte_order held x) xs

-- byte strings in their order, each once
abbrev pub in_order : List (List ℕ) → List (List ℕ)
in_order list = with_more [] list

abbrev pub results_of : List Entry → List CachedResult
results_of entries = flat_map (λ e. e.results) entries

-- the keys that the entries have
abbrev pub keys_of : List Entry → List (List ℕ)
keys_of entries = in_order (flat_map (λ r. map (λ k. k.key) r.group) (results_of entries))

-- the classes that they name
abbrev pub names_of : List Entry → List Name
names_of entries = in_order (flat_map (λ r. r.names) (results_of entries))

abbrev pub is_same_list : List (List ℕ) → List (List ℕ) → Bool
is_same_list = pointwise (pointwise nat_eq)

-- whether each key and each answer is named by some result
abbrev pub are_named : List (List ℕ) → List (Name × Answer) → List Entry → Bool
are_named keys answers entries = is_same_list keys (keys_of entries) && is_same_list (map (λ a. a.0) answers) (names_of entries)

-- all behind the number of the format
unfoldable pub cache : Format Cache
cache = do
  language ← sized_as (passing is_language)
  keys ← key_list
  answers ← answer_list
  entries ← entry_list keys (map (λ a. a.0) answers)
  when (are_named keys answers entries) (record { answers = answers; entries = entries })
