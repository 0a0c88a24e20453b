-- Which caches fit the fields of a text: numbers, texts and counts. What has the types of a cache fits, but for lists of more
-- members than four bytes tell.
use Rattle.std.specs.Prelude.{◌≡◌, ◌<◌, ◌^◌, ℕ, true, List, length}
use Rattle.std.specs.List.{All}
use Rattle.std.specs.Str.{is_utf8}
use Rattle.pj_names.specs.declared.answer.Answer.{Answer}
use Rattle.pj_names.specs.declared.answer.Answer.TheVariants as answers
use Rattle.pj_names.specs.declared.answer.Broken.{Broken}
use Rattle.pj_names.specs.declared.answer.Broken.TheVariants as broken
use Rattle.pj_names.specs.declared.answer.ClassInfo.{ClassInfo}
use Rattle.pj_names.specs.declared.answer.Member.{Member}
use Rattle.pj_names.specs.ClassName.{Name}
use Rattle.pj_tree.specs.declared.node.Place.{Place}
use Rattle.pj_reports.specs.declared.ruled.Head.{Head}
use Rattle.pj_reports.specs.declared.ruled.Head.TheVariants as heads
use Rattle.pj_reports.specs.declared.ruled.Ruled.{Ruled}
use Rattle.pj_reports.specs.declared.ruled.Ruled.TheVariants as ruled
use Rattle.pj_reports.specs.declared.ruled.Spot.{Spot}
use Rattle.pj_cache.specs.declared.cache.KeyRows.{KeyRows}
use Rattle.pj_cache.specs.declared.cache.CachedResult.{CachedResult}
use Rattle.pj_cache.specs.declared.cache.Entry.{Entry}
use Rattle.pj_cache.specs.declared.cache.Cache.{Cache}
use Rattle.pj_cache_format.specs.FormatTwo.{keys_of}

-- Lists and texts.

-- four bytes tell how many members it has
abbrev pub HasRoom : {A : Type 0} → List A → Type 0
HasRoom list = length list < 2 ^ 32

abbrev pub FitsText : List ℕ → Type 0
FitsText text = HasRoom text × (is_utf8 text ≡ true)

-- a list with room, each of whose members fits
abbrev pub AllFit : {A : Type 0} → (A → Type 0) → List A → Type 0
AllFit Fits list = HasRoom list × All Fits list

-- Answers.

abbrev pub FitsMember : Member → Type 0
FitsMember m = (m.flags < 2 ^ 16) × FitsText m.name × FitsText m.signature

abbrev pub FitsClass : ClassInfo → Type 0
FitsClass c = (c.flags < 2 ^ 16) × FitsText c.signature × AllFit FitsMember c.fields × AllFit FitsMember c.methods

abbrev pub FitsBroken : Broken → Type 0
FitsBroken (broken.Class f) = (f.kind < 256) × (f.offset < 2 ^ 32)
FitsBroken broken.OtherName = Unit {0}
FitsBroken broken.TooLong = Unit {0}

abbrev pub FitsAnswer : Answer → Type 0
FitsAnswer answers.Absent = Unit {0}
FitsAnswer (answers.Found class) = FitsClass class
FitsAnswer (answers.Broken what) = FitsBroken what

-- a name with its answer
abbrev pub FitsNamed : Name × Answer → Type 0
FitsNamed a = HasRoom a.0 × FitsAnswer a.1

-- Results.

abbrev pub FitsPlace : Place → Type 0
FitsPlace p = (p.line < 2 ^ 32) × (p.column < 2 ^ 32)

abbrev pub FitsSpot : Spot → Type 0
FitsSpot s = (s.node < 2 ^ 32) × FitsPlace s.begin × FitsPlace s.end

abbrev pub FitsRows : Ruled → Type 0
FitsRows (ruled.Spots spots) = AllFit FitsSpot spots
FitsRows (ruled.Message message) = FitsText message

abbrev pub FitsKeyRows : KeyRows → Type 0
FitsKeyRows k = FitsRows k.rows

abbrev pub FitsResult : CachedResult → Type 0
FitsResult r = AllFit FitsKeyRows r.group × HasRoom r.names

-- Entries.

abbrev pub FitsHead : Head → Type 0
FitsHead (heads.Package package_name) = FitsText package_name
FitsHead (heads.Message message) = FitsText message

abbrev pub FitsEntry : Entry → Type 0
FitsEntry e = HasRoom e.path × HasRoom e.bytes × FitsHead e.head × AllFit FitsResult e.results

-- Each number, text and count of the cache fits its field.
pub record FitsFields (c : Cache) : Type 0 where
  pub keys : AllFit (λ (key : List ℕ). HasRoom key) (keys_of c.entries)
  pub answers : AllFit FitsNamed c.answers
  pub entries : AllFit FitsEntry c.entries
