-- What each step tells: of the step, the seat before, the number found and the seat after.
use Rattle.std.specs.Prelude.{◌≡◌, ◌≢◌, ℕ, ◌+◌, ◌%◌, ◌^◌, ◌<◌, ◌≤◌, ◌*◌, List, [], ◌∷◌, ◌++◌, length, Bool, true}
use Rattle.atomic_table.specs.Table.{Me, Step, rest}
use Rattle.atomic_table.specs.Seated.{TableId}
use Rattle.pj_names.specs.ClassName.{Name}
use Rattle.pj_table.specs.Book.{IsSound, Grows}
use Rattle.pj_table.specs.Rule.{ticket_word, serving_word, count_word, newcomer}
use Rattle.pj_table.specs.Worlds.{World}
use Rattle.pj_table.specs.declared.view.Entry.{Entry}
use Rattle.pj_table.specs.declared.view.Look.{Look}
use Rattle.pj_table.specs.declared.view.Asked.{Asked}
use Rattle.pj_table.specs.declared.view.Line.{Line}
use Rattle.pj_table.specs.declared.view.View.{View}
use Rattle.pj_table.specs.declared.part.Part.{Part}

abbrev pub Play : Type 1
Play = Step Part → Me Part View → ℕ → Me Part View → Type 0

abbrev pub waiting : ℕ → ℕ → View → View
waiting p t v = record v { at = p + 1; phase = 1; ticket = t }

abbrev pub turning : List Entry → List Look → View → View
turning es ls v = record v { phase = 2; entries = es; looks = ls }

abbrev pub with_asked : Asked → Line → Line
with_asked a l = record l { asked = l.asked ++ a ∷ [] }

abbrev pub entering : Asked → List Entry → List Look → View → View
entering a es ls v = record v { phase = 3; entries = es; looks = ls; own = with_asked a v.own }

abbrev pub idle : View → View
idle v = record v { at = 0 }

abbrev pub with_claim : ℕ → View → View
with_claim n v = record v { own = record v.own { claims = v.own.claims ++ n ∷ [] } }

abbrev pub with_end : View → View
with_end v = record v { own = record v.own { past = true } }

-- a number below the files is the seat's, and past them it is marked
abbrev pub claimed_one : Play
claimed_one s m n w = s.word ≡ 0 → (n < m.0.files → w ≡ (with_claim n m.0, m.1)) × (m.0.files ≤ n → w ≡ (with_end m.0, m.1))

-- the seat has the next ticket of the part
abbrev pub drew : Play
drew s m n w = (p : ℕ) → s.word ≡ ticket_word p → (t : ℕ) × (n ≡ t % 2 ^ 64) × (w ≡ (waiting p t m.0, m.1))

-- where the word found is its ticket, the seat has the part
abbrev pub Turns : ℕ → Me Part View → Me Part View → Type 0
Turns p m w = (x : Part) × (w ≡ (turning x.entries.items x.looks.items m.0, (p, x) ∷ m.1)) × IsSound m.0.world x.entries.items x.looks.items

abbrev pub loaded : Play
loaded s m n w = (p : ℕ) → s.word ≡ serving_word p → (n ≡ m.0.ticket % 2 ^ 64 → Turns p m w) × (n ≢ m.0.ticket % 2 ^ 64 → w ≡ m)

-- the look of the part stands in the seat's list
abbrev pub entered : Play
entered s m n w = (p : ℕ) (x : Part) (a : Asked) → s.word ≡ count_word p → m.1 ≡ (p, x) ∷ [] → a.part ≡ p → Grows m.0.world m.0.own.number m.0.entries m.0.looks a x.entries.items x.looks.items
    → w ≡ (entering a x.entries.items x.looks.items m.0, m.1)

abbrev pub served : Play
served s m n w = w ≡ (idle m.0, rest m.1)

-- the ask as the caller is told: one entry with the name at the end of its seat's list, and all else of the view as it was
abbrev pub Rests : View → View → Type 0
Rests before after = (after.live ≡ before.live) × (after.world ≡ before.world) × (after.files ≡ before.files) × (after.given ≡ before.given) × (after.joined ≡ before.joined)

abbrev pub AddsLook : View → View → ℕ → Name → (Bool → Type 0) → Type 0
AddsLook before after part name finds = (a : Asked) × (a.part ≡ part) × (a.name ≡ name) × finds a.fill × (after.own ≡ with_asked a before.own) × Rests before after

-- a refused ask leaves all that counts
abbrev pub AddsNothing : View → View → Type 0
AddsNothing before after = (after.own ≡ before.own) × Rests before after

-- a part of this table, of the right shape
abbrev pub Shaped : TableId → Type 0
Shaped z = (z.words ≡ 1 + 3 * z.slots) × (z.slots ≤ 64)

-- the seat has the part, which is what the view found
abbrev pub Holds : ℕ → Me Part View → Type 0
Holds p m = (x : Part) × (m.1 ≡ (p, x) ∷ []) × (x.entries.items ≡ m.0.entries) × (x.looks.items ≡ m.0.looks)

-- the seat has the part, which grew by one look of the name
abbrev pub Grew : ℕ → Me Part View → Name → (Bool → Type 0) → Type 0
Grew p m name finds = (x : Part) × (a : Asked) × (m.1 ≡ (p, x) ∷ []) × (a.part ≡ p) × (a.name ≡ name) × finds a.fill
    × Grows m.0.world m.0.own.number m.0.entries m.0.looks a x.entries.items x.looks.items × (length x.looks.items < 2 ^ 64)

-- the opening seat counts one more, and the new seat has the count before as its number
abbrev pub with_number_given : View → View
with_number_given v = record v { given = v.given + 1 }

abbrev pub new_view : View → View
new_view v = newcomer v.world v.files v.given 0

abbrev pub united : View → View → View
united v w = record v { joined = v.joined ++ w.own ∷ w.joined }

-- the first seat of a new table learns the world
abbrev pub with_world : World → View → View
with_world world v = record v { world = world }
