-- What a cache of format 1 becomes in format 2.
use Rattle.std.specs.Prelude.{ℕ, ◌+◌, Bool, true, false, List, [], ◌∷◌, map, flat_map, nat_eq, is_some, Option, Some, None, if◌then◌else◌}
use Rattle.std.specs.Cmp.Lexicographic.{pointwise}
use Rattle.std.specs.BTreeMap.{insert_entry, is_at}
use Rattle.std.specs.Map.{lookup}
use Rattle.pj_names.specs.declared.answer.Answer.{Answer}
use Rattle.pj_names.specs.ClassName.{Name}
use Rattle.pj_reports.specs.declared.rows.FileRows.{FileRows}
use Rattle.pj_reports.specs.declared.ruled.Head.{Head}
use Rattle.pj_reports.specs.declared.ruled.Head.TheVariants as heads
use Rattle.pj_cache.specs.Places.{byte_order}
use Rattle.pj_cache.specs.Found.{first_named}
use Rattle.pj_cache.specs.declared.cache.KeyRows.{KeyRows}
use Rattle.pj_cache.specs.declared.cache.CachedResult.{CachedResult}
use Rattle.pj_cache.specs.declared.cache.Entry.{Entry}
use Rattle.pj_cache.specs.declared.cache.Cache.{Cache}
use Rattle.pj_cache.specs.declared.old.OldEntry.{OldEntry}
use Rattle.pj_cache.specs.declared.old.OldCache.{OldCache}
use Rattle.pj_cache_format.specs.FormatTwo.{names_of}
use Rattle.pj_carry.specs.Form.{lone_message, are_of_rules}
use Rattle.pj_carry.specs.Rows.{rows_of}

abbrev pub Key : Type 0
Key = List ℕ

-- ---- keys of rules

-- a key with the number of its first rule
abbrev pub First : Type 0
First = Key × ℕ

-- with the key of another rule, unless it is there
abbrev pub with_rule : List First → Key → ℕ → List First
with_rule held key rule = if is_some (lookup (is_at (byte_order key)) held) then held else insert_entry byte_order held key rule

-- with the keys of rules, the first of which has this number
abbrev pub with_rules : List First → ℕ → List Key → List First
with_rules held rule [] = held
with_rules held rule (key ∷ keys) = with_rules (with_rule held key rule) (rule + 1) keys

-- the keys of rules in their order, each once, with the number of its first rule
abbrev pub first_rules : List Key → List First
first_rules keys = with_rules [] 0 keys

-- ---- entries

-- what the rows of a file say of the rules of a key
abbrev pub key_rows : FileRows → First → KeyRows
key_rows r first = record { key = first.0; rows = rows_of r first.1 }

-- one result for all keys, and none without rules
abbrev pub results_of : List First → FileRows → List Name → List CachedResult
results_of [] r names = []
results_of (first ∷ more) r names = record { group = map (key_rows r) (first ∷ more); names = names } ∷ []

abbrev pub entry_with : OldEntry → Head → List CachedResult → Entry
entry_with e head results = record { path = e.path; bytes = e.bytes; head = head; results = results }

-- the entry of a file: where it has no tree, its message; else a result, where its rows are those of rules; and else none
abbrev pub entry_by : List First → OldEntry → Option (List ℕ) → Bool → Option Entry
entry_by firsts e (Some message) of_rules = Some (entry_with e (heads.Message message) [])
entry_by firsts e None true = Some (entry_with e (heads.Package e.rows.«package») (results_of firsts e.rows e.names))
entry_by firsts e None false = None

abbrev pub carried_entry : List First → OldEntry → Option Entry
carried_entry firsts e = entry_by firsts e (lone_message e.rows) (are_of_rules e.rows)

abbrev pub listed : {A : Type 0} → Option A → List A
listed None = []
listed (Some x) = x ∷ []

abbrev pub carried_entries : List First → List OldEntry → List Entry
carried_entries firsts entries = flat_map (λ (e : OldEntry). listed (carried_entry firsts e)) entries

-- ---- the cache

-- the answers for names, where there are some
abbrev pub answers_for : List (Name × Answer) → List Name → List (Name × Answer)
answers_for answers names = flat_map (λ (name : Name). listed (first_named (λ (a : Name × Answer). a.0) answers name)) names

abbrev pub cache_of : List (Name × Answer) → List Entry → Cache
cache_of answers entries = record { answers = answers_for answers (names_of entries); entries = entries }

-- Of rules with another key it is the cache without entries.
abbrev pub carried : OldCache → List ℕ → List Key → Cache
carried old key keys =
    if pointwise nat_eq old.rules key then cache_of old.answers (carried_entries (first_rules keys) old.entries) else record { answers = []; entries = [] }
