-- The text of a cache in format 2.
use Rattle.std.specs.Prelude.{ℕ, ◌++◌, ◌∷◌, [], List, codes, map, flat_map, Option, Some, None}
use Rattle.pj_names.specs.ClassName.{Name}
use Rattle.pj_tree.specs.declared.node.Place.{Place}
use Rattle.pj_reports.specs.declared.rows.Reason.{Reason}
use Rattle.pj_reports.specs.declared.rows.Reason.TheVariants as reasons
use Rattle.pj_reports.specs.declared.ruled.Head.{Head}
use Rattle.pj_reports.specs.declared.ruled.Head.TheVariants as heads
use Rattle.pj_reports.specs.declared.ruled.Ruled.{Ruled}
use Rattle.pj_reports.specs.declared.ruled.Ruled.TheVariants as ruled
use Rattle.pj_reports.specs.declared.ruled.Spot.{Spot}
use Rattle.pj_cache.specs.declared.cache.KeyRows.{KeyRows}
use Rattle.pj_cache.specs.declared.cache.CachedResult.{CachedResult}
use Rattle.pj_cache.specs.declared.cache.Entry.{Entry}
use Rattle.pj_cache.specs.declared.cache.Cache.{Cache}
use Rattle.pj_cache.specs.Places.{place_in}
use Rattle.pj_cache_format.specs.Texts.{number, string, counted, answer_text}
use Rattle.pj_cache_format.specs.FormatTwo.{keys_of}

-- Results.

abbrev pub reason_byte : Option Reason → ℕ
reason_byte None = 0
reason_byte (Some reasons.Annotation) = 1
reason_byte (Some reasons.Comment) = 2
reason_byte (Some reasons.Regex) = 3
reason_byte (Some reasons.XPath) = 4

abbrev pub place_text : Place → List ℕ
place_text p = number p.line ++ number p.column

abbrev pub spot_text : Spot → List ℕ
spot_text s = number s.node ++ (place_text s.begin ++ (place_text s.end ++ reason_byte s.reason ∷ []))

-- what a rule comes to: its tag, and what stands behind it
abbrev pub rows_tag : Ruled → ℕ
rows_tag (ruled.Spots spots) = 0
rows_tag (ruled.Message message) = 1

abbrev pub rows_content : Ruled → List ℕ
rows_content (ruled.Spots spots) = counted spot_text spots
rows_content (ruled.Message message) = string message

abbrev pub rows_text : Ruled → List ℕ
rows_text r = rows_tag r ∷ rows_content r

abbrev pub result_text : List (List ℕ) → List Name → CachedResult → List ℕ
result_text keys names r =
    counted (λ (k : KeyRows). number (place_in keys k.key)) r.group
    ++ (counted (λ (n : Name). number (place_in names n)) r.names
    ++ flat_map (λ (k : KeyRows). rows_text k.rows) r.group)

-- Entries.

-- what a file is: its package, its tag, and what stands behind it
abbrev pub package_of : Head → List ℕ
package_of (heads.Package package_name) = package_name
package_of (heads.Message message) = []

abbrev pub head_tag : Head → ℕ
head_tag (heads.Package package_name) = 0
head_tag (heads.Message message) = 1

abbrev pub head_content : Head → List ℕ
head_content (heads.Package package_name) = []
head_content (heads.Message message) = string message

abbrev pub head_text : Head → List ℕ
head_text h = string (package_of h) ++ head_tag h ∷ head_content h

abbrev pub entry_text : List (List ℕ) → List Name → Entry → List ℕ
entry_text keys names e = string e.path ++ (string e.bytes ++ (head_text e.head ++ counted (result_text keys names) e.results))

-- all behind the number of the format
abbrev pub cache_text : Cache → List ℕ
cache_text c =
    string (codes "java-17")
    ++ (counted string (keys_of c.entries)
    ++ (counted answer_text c.answers
    ++ counted (entry_text (keys_of c.entries) (map (λ a. a.0) c.answers)) c.entries))
