-- The rule of the table. Word 0 is the claim word, and the part p has the words ticket_word p, serving_word p and count_word p, and the slot p.
use Rattle.std.specs.Prelude.{◌≡◌, ℕ, ◌+◌, ◌*◌, ◌%◌, ◌^◌, ◌<◌, ◌≤◌, List, [], ◌∷◌, map, filter, length, slice_index, cond, ◌==◌, nat_lt, min, Bool, true, false, ◌⊎◌, ◌≢◌}
use Rattle.std.specs.Prelude.{None}
use mathlib.Core.Option.{Option, some, none}
use lib.ListN.{get_elem?}
use Rattle.atomic_table.specs.Table.{State}
use Rattle.pj_table.specs.Book.{IsSound, IsTold, looks_of}
use Rattle.pj_table.specs.Worlds.{World}
use Rattle.pj_table.specs.declared.view.Entry.{Entry}
use Rattle.pj_table.specs.declared.view.Look.{Look}
use Rattle.pj_table.specs.declared.view.Asked.{Asked}
use Rattle.pj_table.specs.declared.view.Line.{Line}
use Rattle.pj_table.specs.declared.view.View.{View}
use Rattle.pj_table.specs.declared.part.Part.{Part}

abbrev pub ticket_word : ℕ → ℕ
ticket_word p = 1 + 3 * p

abbrev pub serving_word : ℕ → ℕ
serving_word p = 2 + 3 * p

abbrev pub count_word : ℕ → ℕ
count_word p = 3 + 3 * p

-- what a view says of one part, and of one seat number on it
pub record Tale : Type 0 where
  pub number : ℕ
  pub asked : List Asked

pub record Hand : Type 0 where
  pub phase : ℕ
  pub ticket : ℕ
  pub entries : List Entry
  pub looks : List Look
  pub own : Tale
  pub joined : List Tale

abbrev pub tale : ℕ → Line → Tale
tale p l = record { number = l.number; asked = filter (λ (a : Asked). a.part == p) l.asked }

abbrev pub masked : Bool → ℕ → View → Hand
masked here p v = record { phase = cond here v.phase 0; ticket = cond here v.ticket 0; entries = cond here v.entries []; looks = cond here v.looks []; own = tale p v.own; joined = map (tale p) v.joined }

abbrev pub hand : ℕ → View → Hand
hand p v = masked (v.at == p + 1) p v

abbrev pub waits : Hand → ℕ
waits h = cond (h.phase == 0) 0 1

abbrev pub total : {A : Type 0} → (A → ℕ) → List A → ℕ
total f [] = 0
total f (x ∷ xs) = f x + total f xs

abbrev pub At : {A : Type 0} → List A → ℕ → A → Type 0
At xs i x = get_elem? xs i ≡ some x

-- one part: its three words, its slot, and what the views say of it. The numbers served and drawn have no bound
pub record PartKept (world : World) (t v c : ℕ) (slot : Option (Option Part)) (hs : List Hand) : Type 0 where
  pub served : ℕ
  pub drawn : ℕ
  pub es : List Entry
  pub ls : List Look
  pub tickets : t ≡ drawn % 2 ^ 64
  pub serving : v ≡ served % 2 ^ 64
  pub waiting : total waits hs + served ≡ drawn
  pub range : (i : ℕ) (h : Hand) → At hs i h → 0 < h.phase → (served ≤ h.ticket) × (h.ticket < drawn)
  pub apart : (i j : ℕ) (h g : Hand) → At hs i h → At hs j g → 0 < h.phase → 0 < g.phase → h.ticket ≡ g.ticket → i ≡ j
  pub turn : (i : ℕ) (h : Hand) → At hs i h → 1 < h.phase → (h.ticket ≡ served) × (h.entries ≡ es) × (h.looks ≡ ls)
  -- the slot is at home and no view is at its turn, or it is out with the view at its turn
  pub slot_is : ((x : Part) × (slot ≡ some (some x)) × (x.entries.items ≡ es) × (x.looks.items ≡ ls) × ((i : ℕ) (h : Hand) → At hs i h → h.phase ≤ 1))
      ⊎ ((i : ℕ) × (h : Hand) × At hs i h × (1 < h.phase) × (slot ≡ some none))
  pub count : c ≡ length ls
  pub good : IsSound world es ls
  pub mine : (i : ℕ) (h : Hand) → At hs i h → IsTold es ls h.own.number h.own.asked
  pub others : (i k : ℕ) (h : Hand) (x : Tale) → At hs i h → At h.joined k x → IsTold es ls x.number x.asked
  pub fresh : (n : ℕ) → length hs ≤ n → looks_of n ls ≡ []

abbrev pub no_line : ℕ → Line
no_line n = record { number = n; past = false; claims = []; asked = [] }

abbrev pub newcomer : World → ℕ → ℕ → ℕ → View
newcomer world files n given = record { live = true; world = world; files = files; given = given; own = no_line n; joined = []; at = 0; phase = 0; ticket = 0; entries = []; looks = [] }

abbrev pub opened : ℕ → View
opened files = newcomer None files 0 1

-- what a seat leaves that was joined into another. No seat has its number
abbrev pub gone : View
gone = record (newcomer None 0 (2 ^ 32) 0) { live = false }

abbrev pub times : ℕ → List ℕ → ℕ
times x ns = total (λ (n : ℕ). cond (n == x) 1 0) ns

abbrev pub once_below : ℕ → ℕ → ℕ
once_below x n = cond (nat_lt x n) 1 0

abbrev pub line_claims : ℕ → Line → ℕ
line_claims x l = times x l.claims

abbrev pub claimed : ℕ → View → ℕ
claimed x v = line_claims x v.own + total (line_claims x) v.joined

abbrev pub mark : Line → ℕ
mark l = cond l.past 1 0

abbrev pub marks : View → ℕ
marks v = mark v.own + total mark v.joined

abbrev pub numbers : View → ℕ
numbers v = cond v.live (1 + length v.joined) 0

-- each number below the claim word and the number of files is in one view's claims, once, and no other number is
pub record ClaimsKept (files word : ℕ) (vs : List View) : Type 0 where
  pub few : files < 2 ^ 32
  pub once : (x : ℕ) → total (claimed x) vs ≡ once_below x (min word files)
  pub most : word ≤ files + total marks vs
  pub counted : total numbers vs ≡ length vs
  -- who is past the end saw that all files were claimed
  pub ended : 0 < total marks vs → files ≤ word

-- a live view's own number is its seat's, and no other view has it; owner says which view has a number
pub record SeatKept (world : World) (files count : ℕ) (owner : ℕ → ℕ) (i : ℕ) (v : View) : Type 0 where
  pub same_world : v.world ≡ world
  pub same_files : v.files ≡ files
  pub opener : i ≡ 0 → v.given ≡ count
  pub own : v.own.number ≡ i
  pub owned : owner i ≡ i
  pub joined : (j : ℕ) (l : Line) → At v.joined j l → (owner l.number ≡ i) × (l.number < count) × (l.number ≢ i)

pub record Kept (files : ℕ) (s : State Part View) : Type 0 where
  -- that of all views but the spent ones
  pub world : World
  pub owner : ℕ → ℕ
  pub wide : length s.words ≡ 1 + 3 * length s.homes
  pub few : length s.views < 2 ^ 32
  pub parts : (p : ℕ) → p < length s.homes → PartKept world (slice_index s.words (ticket_word p)) (slice_index s.words (serving_word p)) (slice_index s.words (count_word p)) (get_elem? s.homes p) (map (hand p) s.views)
  pub seats : (i : ℕ) (v : View) → At s.views i v → v.live ≡ true → SeatKept world files (length s.views) owner i v
  pub spent : (i : ℕ) (v : View) → At s.views i v → v.live ≡ false → v ≡ gone
  pub claims : ClaimsKept files (slice_index s.words 0) s.views

-- the view has all numbers that were given
abbrev pub HasAll : View → Type 0
HasAll v = (n : ℕ) → 0 < n → n < v.given → (j : ℕ) × (l : Line) × At v.joined j l × (l.number ≡ n)

-- what a part shows at the end: one legal history with the world's answers, in which the looks of each number are those of its list
pub record Shows (v : View) (p : ℕ) (x : Part) : Type 0 where
  pub good : IsSound v.world x.entries.items x.looks.items
  pub own : IsTold x.entries.items x.looks.items v.own.number (tale p v.own).asked
  pub joined : (j : ℕ) (l : Line) → At v.joined j l → IsTold x.entries.items x.looks.items l.number (tale p l).asked
  pub others : (n : ℕ) → v.given ≤ n → looks_of n x.looks.items ≡ []
