-- The list of sources: of all paths that the items list, those of source files, each once, in order.
use Rattle.std.specs.Prelude.{⊤, ◌≡◌, ◌↔◌, Bool, IsTrue, List, [], Contains, All, filter, find, count_by, flat_map, Option, None, Some, is_none, unwrap_or}
use Rattle.std.specs.List.Sorted.{IsStrictlySortedBy}
use Rattle.pj_outside.specs.Files.{Files, Bytes, is_at_or_below, listed_at}
use Rattle.pj_sources.specs.Paths.{is_source, is_module_info, path_listed, byte_order}
use Rattle.pj_sources.specs.declared.listing.Listing.{Listing}
use Rattle.pj_sources.specs.declared.refused.ListRefused.{ListRefused}
use Rattle.pj_sources.specs.declared.refused.ListRefused.TheVariants.{Failed, Missing, Memory}

-- the paths that an item lists: the one that it is, and those below it
abbrev pub listed_by : Files → Bytes → List Bytes
listed_by files item = unwrap_or (listed_at files (path_listed item)) []

-- there is none
abbrev pub is_missing : Files → Bytes → Bool
is_missing files item = is_none (listed_at files (path_listed item))

-- the paths that the items list, each as often as it is listed
abbrev pub listed : Files → List Bytes → List Bytes
listed files items = flat_map (listed_by files) items

-- the first item that lists nothing
abbrev pub first_missing : Files → List Bytes → Option Bytes
first_missing files items = find (is_missing files) items

-- The second list has the members of the first, each once, in the order of their bytes.
pub record IsInOrder (paths ordered : List Bytes) : Type 0 where
  pub ascending : IsStrictlySortedBy byte_order ordered
  pub members : (path : Bytes) → Contains ordered path ↔ Contains paths path

-- The path is of a source file, and it is the one that an item lists, or one below it.
pub record IsSourceOf (items : List Bytes) (path : Bytes) : Type 0 where
  pub source : IsTrue (is_source path)
  pub item : Bytes
  pub is_item : Contains items item
  pub at_or_below : IsTrue (is_at_or_below (path_listed item) path)

-- The paths are all such.
abbrev pub AreSourcesOf : List Bytes → List Bytes → Type 0
AreSourcesOf items paths = All (IsSourceOf items) paths

-- what the items list, where each lists something
pub record IsListing (files : Files) (items : List Bytes) (listing : Listing) : Type 0 where
  pub there : first_missing files items ≡ None
  pub paths : IsInOrder (filter is_source (listed files items)) listing.paths
  pub skipped : listing.skipped ≡ count_by is_module_info (listed files items)

-- What a refusal says of the files and the items.
abbrev pub SaysNoListing : Files → List Bytes → ListRefused → Type 0
SaysNoListing files items Failed = ⊤
SaysNoListing files items (Missing item) = first_missing files items ≡ Some item
SaysNoListing files items Memory = ⊤

-- What it says where nothing is known of the files: the item is one of them.
abbrev pub IsOfItems : List Bytes → ListRefused → Type 0
IsOfItems items Failed = ⊤
IsOfItems items (Missing item) = Contains items item
IsOfItems items Memory = ⊤

-- ---- for the private clauses

-- the same, of one item
abbrev pub SaysNoItem : Files → Bytes → ListRefused → Type 0
SaysNoItem files item Failed = ⊤
SaysNoItem files item (Missing written) = (written ≡ item) × IsTrue (is_missing files item)
SaysNoItem files item Memory = ⊤

abbrev pub IsOfItem : Bytes → ListRefused → Type 0
IsOfItem item Failed = ⊤
IsOfItem item (Missing written) = written ≡ item
IsOfItem item Memory = ⊤

-- The paths are all the one that the item lists, or below it.
abbrev pub AreListedBy : Bytes → List Bytes → Type 0
AreListedBy item paths = All (λ path. IsTrue (is_at_or_below (path_listed item) path)) paths

-- the sources before they are in order
pub record IsUnordered (files : Files) (items : List Bytes) (listing : Listing) : Type 0 where
  pub there : first_missing files items ≡ None
  pub paths : listing.paths ≡ filter is_source (listed files items)
  pub skipped : listing.skipped ≡ count_by is_module_info (listed files items)
