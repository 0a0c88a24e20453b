-- What holds of every listing and every reading.
use Rattle.std.specs.Prelude.{◌≡◌, ◌≢◌, ◌⊎◌, List, None, Some}
use Rattle.pj_outside.specs.Files.{Files, Bytes}
use Rattle.pj_sources.specs.Listing.{IsListing, first_missing}
use Rattle.pj_sources.specs.Reading.{AreRead, IsRefused}
use Rattle.pj_sources.specs.declared.listing.Listing.{Listing}
use Rattle.pj_sources.specs.declared.refused.ReadRefused.{ReadRefused}

-- There is one listing at most.
abbrev pub OneListing : Type 0
OneListing = (files : Files) (items : List Bytes) (a b : Listing) → IsListing files items a → IsListing files items b → a ≡ b

-- There is one where no item is missing.
abbrev pub SomeListing : Type 0
SomeListing = (files : Files) (items : List Bytes) → first_missing files items ≡ None → (listing : Listing) × IsListing files items listing

-- There is none where an item is missing.
abbrev pub ListingIsNotMissing : Type 0
ListingIsNotMissing = (files : Files) (items : List Bytes) (listing : Listing) (item : Bytes) → IsListing files items listing → first_missing files items ≢ Some item

-- There is one reading at most.
abbrev pub OneReading : Type 0
OneReading = (files : Files) (paths : List Bytes) (a b : Files) → AreRead files paths a → AreRead files paths b → a ≡ b

-- There is one first refusal at most.
abbrev pub OneRefusal : Type 0
OneRefusal = (files : Files) (paths : List Bytes) (a b : ReadRefused) → IsRefused files paths a → IsRefused files paths b → a ≡ b

-- Files of paths are read, or there is a first refusal.
abbrev pub SomeOutcome : Type 0
SomeOutcome = (files : Files) (paths : List Bytes) → ((read : Files) × AreRead files paths read) ⊎ ((refused : ReadRefused) × IsRefused files paths refused)

-- Files that are read have none.
abbrev pub ReadIsNotRefused : Type 0
ReadIsNotRefused = (files : Files) (paths : List Bytes) (read : Files) (refused : ReadRefused) → AreRead files paths read → IsRefused files paths refused → ⊥
