-- Which caches have a text in format 2: order and room at once, field by field, as they are read.
use Rattle.std.specs.Prelude.{◌≡◌, ◌<◌, ◌^◌, ℕ, true, List, [], length, map, Option, Some, None}
use Rattle.std.specs.Ordering.{nat_cmp}
use Rattle.pj_format.specs.Fields.{Chain, Along}
use Rattle.pj_names.specs.ClassName.{Name}
use Rattle.pj_reports.specs.declared.ruled.Head.{Head}
use Rattle.pj_reports.specs.declared.ruled.Head.TheVariants as heads
use Rattle.pj_reports.specs.declared.ruled.Ruled.{Ruled}
use Rattle.pj_reports.specs.declared.ruled.Ruled.TheVariants as ruled
use Rattle.pj_reports.specs.declared.ruled.Spot.{Spot}
use Rattle.pj_cache.specs.declared.cache.KeyRows.{KeyRows}
use Rattle.pj_cache.specs.declared.cache.CachedResult.{CachedResult}
use Rattle.pj_cache.specs.declared.cache.Entry.{Entry}
use Rattle.pj_cache.specs.declared.cache.Cache.{Cache}
use Rattle.pj_cache.specs.Places.{byte_order, member_at}
use Rattle.pj_cache_format.specs.Judges.{is_behind, is_path_behind}
use Rattle.pj_cache_format.proofs.Whole.{AreAnswers}
use Rattle.pj_cache_format.specs.FormatTwo.{is_key_place, is_name_place, keys_of, are_named}
use Rattle.pj_cache.specs.Places.{place_in}
use Rattle.pj_cache_format.specs.Fitting.{FitsHead, FitsPlace, FitsText, HasRoom}
use Rattle.pj_cache_format.specs.Ordered.{places_of, result_step}

-- Results.

abbrev pub IsSpotBehind : Option ℕ → Spot → Type 0
IsSpotBehind before s = (s.node < 2 ^ 32) × (is_behind nat_cmp before s.node ≡ true) × FitsPlace s.begin × FitsPlace s.end

abbrev pub AreRows : Ruled → Type 0
AreRows (ruled.Spots spots) = HasRoom spots × Chain IsSpotBehind (λ before s. Some s.node) None spots
AreRows (ruled.Message message) = FitsText message

abbrev pub IsKeyBehind : Option (List ℕ) → List ℕ → Type 0
IsKeyBehind before key = HasRoom key × (is_behind byte_order before key ≡ true)

abbrev pub AreKeys : List (List ℕ) → Type 0
AreKeys keys = HasRoom keys × Chain IsKeyBehind (λ before key. Some key) None keys

-- some places of keys, in a result behind the first key of another one
abbrev pub AreKeyPlaces : ℕ → List ℕ → Option ℕ → List ℕ → Type 0
AreKeyPlaces count used before places = HasRoom places × (0 < length places) × Chain (λ before place. (place < 2 ^ 32) × (is_key_place count used before place ≡ true)) (λ before place. Some place) before places

-- the rows of the key at a place
abbrev pub AreKeyRows : List (List ℕ) → ℕ → KeyRows → Type 0
AreKeyRows keys place k = (member_at keys place ≡ k.key) × AreRows k.rows

-- one of the names, behind the place of another one
abbrev pub IsNameBehind : List Name → Option ℕ → Name → Type 0
IsNameBehind names before name = (place_in names name < 2 ^ 32) × (is_name_place (length names) before (place_in names name) ≡ true) × (member_at names (place_in names name) ≡ name)

abbrev pub AreNames : List Name → List Name → Type 0
AreNames names list = HasRoom list × Chain (IsNameBehind names) (λ before name. Some (place_in names name)) None list

-- a result behind the first key of another one, in an entry whose earlier results have the keys at some places
abbrev pub IsResultBehind : List (List ℕ) → List Name → Option ℕ × List ℕ → CachedResult → Type 0
IsResultBehind keys names state r = AreKeyPlaces (length keys) state.1 state.0 (places_of keys r) × AreNames names r.names × Along (AreKeyRows keys) (places_of keys r) r.group

-- Entries.

abbrev pub AreResults : List (List ℕ) → List Name → Head → List CachedResult → Type 0
AreResults keys names (heads.Package package_name) results = HasRoom results × Chain (IsResultBehind keys names) (result_step keys) (None, []) results
AreResults keys names (heads.Message message) results = results ≡ []

abbrev pub IsEntryBehind : List (List ℕ) → List Name → Option (List ℕ) → Entry → Type 0
IsEntryBehind keys names before e = (HasRoom e.path × (is_path_behind before e.path ≡ true)) × HasRoom e.bytes × FitsHead e.head × AreResults keys names e.head e.results

-- A cache that has a text.
pub record IsWhole (c : Cache) : Type 0 where
  pub keys : AreKeys (keys_of c.entries)
  pub answers : AreAnswers c.answers
  pub room : HasRoom c.entries
  pub entries : Chain (IsEntryBehind (keys_of c.entries) (map (λ a. a.0) c.answers)) (λ before e. Some e.path) None c.entries
  pub named : are_named (keys_of c.entries) c.answers c.entries ≡ true
