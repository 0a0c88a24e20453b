-- Laws of the parts of format 2: their bytes are their text.
use Rattle.std.proofs.Common.{◌≡◌, ℕ, ◌<◌, ◌^◌, Bool, true, false, cond, ltb, eqb, List, [], ◌∷◌, ◌++◌, length, Option, Some, None, Result, Ok, Err, refl, sym, ap, subst, ◌∙◌, arith}
use Rattle.std.specs.List.{flat_map}
use Rattle.std.specs.List.Sorted.{IsStrictlySortedBy}
use Rattle.std.specs.Ordering.{nat_cmp}
use Rattle.std.proofs.lemmas.Bool.{ltb-true, eqb-true, eqb-false, lt-ltb}
use Rattle.pj_format.specs.Format.{Done, ◌>>=◌}
use Rattle.pj_format.specs.Fields.{u8_as, u32, u32_as, sized_as, several_from, Chain}
use Rattle.pj_format.proofs.Parts.{IsText, text_then, text_next, text_as, text_made, cond_open, u8_text, from_text}
use Rattle.pj_names.specs.ClassName.{Name}
use Rattle.pj_tree.specs.declared.node.Place.{Place}
use Rattle.pj_reports.specs.declared.rows.Reason.{Reason}
use Rattle.pj_reports.specs.declared.rows.Reason.TheVariants as reasons
use Rattle.pj_reports.specs.declared.ruled.Ruled.{Ruled}
use Rattle.pj_reports.specs.declared.ruled.Ruled.TheVariants as ruled
use Rattle.pj_reports.specs.declared.ruled.Spot.{Spot}
use Rattle.pj_cache.specs.declared.cache.KeyRows.{KeyRows}
use Rattle.pj_cache.specs.Places.{byte_order, place_in, member_at}
use Rattle.pj_cache_format.specs.Judges.{is_behind, passing, text, is_below}
use Rattle.pj_cache_format.specs.FormatTwo.{key, key_list, reason_of, place, spot, spot_list, spots, rule_message, rows_behind, rows, is_key_place, key_place, key_places, is_name_place, name_at, name_list, key_rows}
use Rattle.pj_cache_format.specs.Texts.{number, string, counted}
use Rattle.pj_cache_format.specs.TextTwo.{reason_byte, place_text, spot_text, rows_tag, rows_content, rows_text}
use Rattle.pj_cache_format.proofs.WholeTwo.{IsSpotBehind, AreRows, IsKeyBehind, AreKeys, AreKeyPlaces, AreKeyRows, IsNameBehind, AreNames}
use Rattle.pj_cache.proofs.Places.{place_of_member}
use Rattle.pj_cache_format.proofs.AnswerLaws.{tag_text, number_text, string_text, text_text, u32_law, counted_from, both_true}
use Rattle.pj_cache_format.specs.Fitting.{FitsPlace, FitsText, HasRoom}

-- ---- rows

step : (n k : ℕ) (v r : Option Reason) (rest : Result (Option Reason) ℕ) (b : Bool) → eqb n k ≡ b → k ≡ reason_byte v → (rest ≡ Ok r → (n ≡ reason_byte r) × Unit {0}) → cond b (Ok v) rest ≡ Ok r → (n ≡ reason_byte r) × Unit {0}
step n k v r rest true is tag more e =
    let same : v ≡ r = cc in
    (eqb-true n k is ∙ tag ∙ ap reason_byte same, tt)
step n k v r rest false is tag more e = more e

abbrev four : ℕ → Result (Option Reason) ℕ
four n = cond (eqb n 4) (Ok (Some reasons.XPath)) (Err 1)

abbrev three : ℕ → Result (Option Reason) ℕ
three n = cond (eqb n 3) (Ok (Some reasons.Regex)) (four n)

abbrev two : ℕ → Result (Option Reason) ℕ
two n = cond (eqb n 2) (Ok (Some reasons.Comment)) (three n)

abbrev one : ℕ → Result (Option Reason) ℕ
one n = cond (eqb n 1) (Ok (Some reasons.Annotation)) (two n)

reason_read : (n : ℕ) (r : Option Reason) → reason_of n ≡ Ok r → (n ≡ reason_byte r) × Unit {0}
reason_read n r e =
    step n 0 None r (one n) (eqb n 0) refl refl
    (step n 1 (Some reasons.Annotation) r (two n) (eqb n 1) refl refl
    (step n 2 (Some reasons.Comment) r (three n) (eqb n 2) refl refl
    (step n 3 (Some reasons.Regex) r (four n) (eqb n 3) refl refl
    (step n 4 (Some reasons.XPath) r (Err 1) (eqb n 4) refl refl (λ h. absurd cc))))) e

reason_again : (r : Option Reason) → Unit {0} → reason_of (reason_byte r) ≡ Ok r
reason_again None h = refl
reason_again (Some reasons.Annotation) h = refl
reason_again (Some reasons.Comment) h = refl
reason_again (Some reasons.Regex) h = refl
reason_again (Some reasons.XPath) h = refl

pub reason_below : (r : Option Reason) → reason_byte r < 256
reason_below None = omega arith
reason_below (Some reasons.Annotation) = omega arith
reason_below (Some reasons.Comment) = omega arith
reason_below (Some reasons.Regex) = omega arith
reason_below (Some reasons.XPath) = omega arith

pub reason_law : IsText (u8_as reason_of) (λ (r : Option Reason). reason_byte r ∷ []) (λ (r : Option Reason). (reason_byte r < 256) × Unit {0})
reason_law = u8_text reason_byte (λ r. Unit {0}) reason_of reason_read reason_again

pub place_law : IsText place place_text FitsPlace
unfolding place
place_law =
    text_as ((u32) >>= λ line. (u32) >>= λ column. Done (let made : Place = record { line = line; column = column } in made)) (λ y. (number) ((λ (z : Place). z.line) y) ++ ((number) ((λ (z : Place). z.column) y))) (place_text) (λ y. ((λ (n : ℕ). n < 2 ^ 32) ((λ (z : Place). z.line) y)) × ((λ (line : ℕ). ((λ (n : ℕ). n < 2 ^ 32) ((λ (z : Place). z.column) y)) × (y ≡ (λ (column : ℕ). let made : Place = record { line = line; column = column } in made) ((λ (z : Place). z.column) y))) ((λ (z : Place). z.line) y))) (FitsPlace)
    (text_next (u32) (λ line. (u32) >>= λ column. Done (let made : Place = record { line = line; column = column } in made)) (number) (λ (n : ℕ). n < 2 ^ 32) (λ y. (number) ((λ (z : Place). z.column) y)) (λ line y. ((λ (n : ℕ). n < 2 ^ 32) ((λ (z : Place). z.column) y)) × (y ≡ (λ (column : ℕ). let made : Place = record { line = line; column = column } in made) ((λ (z : Place). z.column) y))) (λ (z : Place). z.line)
    (u32_law)
    (λ line. text_made (u32) (λ column. let made : Place = record { line = line; column = column } in made) (λ (z : Place). z.column) (number) (λ (n : ℕ). n < 2 ^ 32) (λ column g. refl) (u32_law))
    (λ line y g h. ap (λ (z : Place). z.line) h.1))
    (λ y h. ((h.0, h.1.0), refl))
    (λ y h. ((h.0, (h.1, refl)), refl))

abbrev SpotRead : Type 0
SpotRead = Spot × Option ℕ

abbrev spot_made : ℕ → Place → Place → Option Reason → SpotRead
spot_made node begin end reason = (record { node = node; begin = begin; end = end; reason = reason }, Some node)

pub spot_law : (before : Option ℕ) → IsText (spot before) (λ y. spot_text y.0) (λ y. IsSpotBehind before y.0 × (y.1 ≡ Some y.0.node))
unfolding spot
spot_law before =
    text_as ((u32_as (passing (is_behind nat_cmp before))) >>= λ node. (place) >>= λ begin. (place) >>= λ end. (u8_as reason_of) >>= λ reason. Done (spot_made node begin end reason)) (λ y. (number) ((λ (z : SpotRead). z.0.node) y) ++ ((place_text) ((λ (z : SpotRead). z.0.begin) y) ++ ((place_text) ((λ (z : SpotRead). z.0.end) y) ++ ((λ (r : Option Reason). reason_byte r ∷ []) ((λ (z : SpotRead). z.0.reason) y))))) (λ y. spot_text y.0) (λ y. ((λ (n : ℕ). (n < 2 ^ 32) × (is_behind nat_cmp before n ≡ true)) ((λ (z : SpotRead). z.0.node) y)) × ((λ (node : ℕ). ((FitsPlace) ((λ (z : SpotRead). z.0.begin) y)) × ((λ (begin : Place). ((FitsPlace) ((λ (z : SpotRead). z.0.end) y)) × ((λ (end : Place). ((λ (r : Option Reason). (reason_byte r < 256) × Unit {0}) ((λ (z : SpotRead). z.0.reason) y)) × (y ≡ (λ (reason : Option Reason). spot_made node begin end reason) ((λ (z : SpotRead). z.0.reason) y))) ((λ (z : SpotRead). z.0.end) y))) ((λ (z : SpotRead). z.0.begin) y))) ((λ (z : SpotRead). z.0.node) y))) (λ y. IsSpotBehind before y.0 × (y.1 ≡ Some y.0.node))
    (text_next (u32_as (passing (is_behind nat_cmp before))) (λ node. (place) >>= λ begin. (place) >>= λ end. (u8_as reason_of) >>= λ reason. Done (spot_made node begin end reason)) (number) (λ (n : ℕ). (n < 2 ^ 32) × (is_behind nat_cmp before n ≡ true)) (λ y. (place_text) ((λ (z : SpotRead). z.0.begin) y) ++ ((place_text) ((λ (z : SpotRead). z.0.end) y) ++ ((λ (r : Option Reason). reason_byte r ∷ []) ((λ (z : SpotRead). z.0.reason) y)))) (λ node y. ((FitsPlace) ((λ (z : SpotRead). z.0.begin) y)) × ((λ (begin : Place). ((FitsPlace) ((λ (z : SpotRead). z.0.end) y)) × ((λ (end : Place). ((λ (r : Option Reason). (reason_byte r < 256) × Unit {0}) ((λ (z : SpotRead). z.0.reason) y)) × (y ≡ (λ (reason : Option Reason). spot_made node begin end reason) ((λ (z : SpotRead). z.0.reason) y))) ((λ (z : SpotRead). z.0.end) y))) ((λ (z : SpotRead). z.0.begin) y))) (λ (z : SpotRead). z.0.node)
    (number_text (is_behind nat_cmp before))
    (λ node. text_next (place) (λ begin. (place) >>= λ end. (u8_as reason_of) >>= λ reason. Done (spot_made node begin end reason)) (place_text) (FitsPlace) (λ y. (place_text) ((λ (z : SpotRead). z.0.end) y) ++ ((λ (r : Option Reason). reason_byte r ∷ []) ((λ (z : SpotRead). z.0.reason) y))) (λ begin y. ((FitsPlace) ((λ (z : SpotRead). z.0.end) y)) × ((λ (end : Place). ((λ (r : Option Reason). (reason_byte r < 256) × Unit {0}) ((λ (z : SpotRead). z.0.reason) y)) × (y ≡ (λ (reason : Option Reason). spot_made node begin end reason) ((λ (z : SpotRead). z.0.reason) y))) ((λ (z : SpotRead). z.0.end) y))) (λ (z : SpotRead). z.0.begin)
    (place_law)
    (λ begin. text_next (place) (λ end. (u8_as reason_of) >>= λ reason. Done (spot_made node begin end reason)) (place_text) (FitsPlace) (λ y. (λ (r : Option Reason). reason_byte r ∷ []) ((λ (z : SpotRead). z.0.reason) y)) (λ end y. ((λ (r : Option Reason). (reason_byte r < 256) × Unit {0}) ((λ (z : SpotRead). z.0.reason) y)) × (y ≡ (λ (reason : Option Reason). spot_made node begin end reason) ((λ (z : SpotRead). z.0.reason) y))) (λ (z : SpotRead). z.0.end)
    (place_law)
    (λ end. text_made (u8_as reason_of) (λ reason. spot_made node begin end reason) (λ (z : SpotRead). z.0.reason) (λ (r : Option Reason). reason_byte r ∷ []) (λ (r : Option Reason). (reason_byte r < 256) × Unit {0}) (λ reason g. refl) (reason_law))
    (λ end y g h. ap (λ (z : SpotRead). z.0.end) h.1))
    (λ begin y g h. ap (λ (z : SpotRead). z.0.begin) h.1.1))
    (λ node y g h. ap (λ (z : SpotRead). z.0.node) h.1.1.1))
    (λ y h. (((h.0.0, h.0.1, h.1.0, h.1.1.0), ap (λ (z : SpotRead). z.1) h.1.1.1.1), refl))
    (λ y h. (((h.0.0, h.0.1), (h.0.2, (h.0.3, ((reason_below y.0.reason, tt), ap (λ (o : Option ℕ). let z : SpotRead = (y.0, o) in z) h.1)))), refl))

pub spot_list_law : IsText spot_list (counted spot_text) (λ list. HasRoom list × Chain IsSpotBehind (λ before s. Some s.node) None list)
unfolding spot_list
spot_list_law = counted_from spot spot_text IsSpotBehind (λ before s. Some s.node) None spot_law

abbrev spots_in : Ruled → List Spot
spots_in (ruled.Spots all) = all
spots_in (ruled.Message message) = []

abbrev message_in : Ruled → List ℕ
message_in (ruled.Spots all) = []
message_in (ruled.Message message) = message

abbrev AreSpots : List Spot → Type 0
AreSpots list = HasRoom list × Chain IsSpotBehind (λ before s. Some s.node) None list

spots_from : (y : Ruled) → AreSpots (spots_in y) × (y ≡ ruled.Spots (spots_in y)) → ((rows_tag y ≡ 0) × AreRows y) × (counted spot_text (spots_in y) ≡ rows_content y)
spots_from (ruled.Spots all) h = ((refl, h.0), refl)
spots_from (ruled.Message message) h = absurd cc

spots_to : (y : Ruled) → (rows_tag y ≡ 0) × AreRows y → (AreSpots (spots_in y) × (y ≡ ruled.Spots (spots_in y))) × (counted spot_text (spots_in y) ≡ rows_content y)
spots_to (ruled.Spots all) h = ((h.1, refl), refl)
spots_to (ruled.Message message) h = absurd (omega (arith, h.0))

spots_law : IsText spots rows_content (λ y. (rows_tag y ≡ 0) × AreRows y)
unfolding spots
spots_law =
    text_as (spot_list >>= λ all. Done (ruled.Spots all)) (λ y. counted spot_text (spots_in y)) rows_content (λ y. AreSpots (spots_in y) × (y ≡ ruled.Spots (spots_in y))) (λ y. (rows_tag y ≡ 0) × AreRows y)
    (text_made spot_list (λ all. ruled.Spots all) spots_in (counted spot_text) AreSpots (λ all g. refl) spot_list_law) spots_from spots_to

message_from : (y : Ruled) → FitsText (message_in y) × (y ≡ ruled.Message (message_in y)) → ((rows_tag y ≡ 1) × AreRows y) × (string (message_in y) ≡ rows_content y)
message_from (ruled.Spots all) h = absurd cc
message_from (ruled.Message message) h = ((refl, h.0), refl)

message_to : (y : Ruled) → (rows_tag y ≡ 1) × AreRows y → (FitsText (message_in y) × (y ≡ ruled.Message (message_in y))) × (string (message_in y) ≡ rows_content y)
message_to (ruled.Spots all) h = absurd (omega (arith, h.0))
message_to (ruled.Message message) h = ((h.1, refl), refl)

message_law : IsText rule_message rows_content (λ y. (rows_tag y ≡ 1) × AreRows y)
unfolding rule_message
message_law =
    text_as (text >>= λ message. Done (ruled.Message message)) (λ y. string (message_in y)) rows_content (λ y. FitsText (message_in y) × (y ≡ ruled.Message (message_in y))) (λ y. (rows_tag y ≡ 1) × AreRows y)
    (text_made text (λ message. ruled.Message message) message_in string FitsText (λ message g. refl) text_text) message_from message_to

rows_cases : (tag : ℕ) (a : Bool) → eqb tag 0 ≡ a → tag < 2 → IsText (cond a spots rule_message) rows_content (λ y. (rows_tag y ≡ tag) × AreRows y)
rows_cases tag true e high = subst (λ (n : ℕ). IsText spots rows_content (λ y. (rows_tag y ≡ n) × AreRows y)) (sym (eqb-true tag 0 e)) spots_law
rows_cases tag false e high =
    let is : tag ≡ 1 = omega (arith, eqb-false tag 0 e, high) in
    subst (λ (n : ℕ). IsText rule_message rows_content (λ y. (rows_tag y ≡ n) × AreRows y)) (sym is) message_law

rows_tag_below : (y : Ruled) → (rows_tag y < 256) × (is_below 2 (rows_tag y) ≡ true)
rows_tag_below (ruled.Spots all) = (omega arith, refl)
rows_tag_below (ruled.Message message) = (omega arith, refl)

pub rows_law : IsText rows rows_text AreRows
unfolding rows
rows_law =
    text_as (u8_as (passing (is_below 2)) >>= λ tag. rows_behind tag) (λ y. rows_tag y ∷ [] ++ rows_content y) rows_text (λ y. ((rows_tag y < 256) × (is_below 2 (rows_tag y) ≡ true)) × ((rows_tag y ≡ rows_tag y) × AreRows y)) AreRows
    (text_then (u8_as (passing (is_below 2))) (λ tag. rows_behind tag) (λ (n : ℕ). n ∷ []) (λ (n : ℕ). (n < 256) × (is_below 2 n ≡ true)) rows_content (λ tag y. (rows_tag y ≡ tag) × AreRows y) rows_tag
    (tag_text (is_below 2))
    (λ tag p. rows_cases tag (eqb tag 0) refl (ltb-true tag 2 p.1))
    (λ tag. cond_open (eqb tag 0) spots rule_message spots_law.is_open message_law.is_open)
    (λ tag y g h. h.0))
    (λ y h. (h.1.1, refl)) (λ y h. ((rows_tag_below y, (refl, h)), refl))

-- ---- keys

abbrev Keyed : Type 0
Keyed = List ℕ × Option (List ℕ)

abbrev keyed : List ℕ → Keyed
keyed bytes = (bytes, Some bytes)

pub key_law : (before : Option (List ℕ)) → IsText (key before) (λ y. string y.0) (λ y. IsKeyBehind before y.0 × (y.1 ≡ Some y.0))
unfolding key
key_law before =
    text_as (sized_as (passing (is_behind byte_order before)) >>= λ bytes. Done (keyed bytes)) (λ y. string y.0) (λ y. string y.0) (λ y. (HasRoom y.0 × (is_behind byte_order before y.0 ≡ true)) × (y ≡ keyed y.0)) (λ y. IsKeyBehind before y.0 × (y.1 ≡ Some y.0))
    (text_made (sized_as (passing (is_behind byte_order before))) keyed (λ y. y.0) string (λ s. HasRoom s × (is_behind byte_order before s ≡ true)) (λ bytes g. refl) (string_text (is_behind byte_order before)))
    (λ y h. (((h.0.0, h.0.1), ap (λ (z : Keyed). z.1) h.1), refl)) (λ y h. (((h.0.0, h.0.1), ap (λ (o : Option (List ℕ)). let z : Keyed = (y.0, o) in z) h.1), refl))

pub key_list_law : IsText key_list (counted string) AreKeys
unfolding key_list
key_list_law = counted_from key string IsKeyBehind (λ before key. Some key) None key_law

-- ---- results

abbrev Placed : Type 0
Placed = ℕ × Option ℕ

abbrev placed : ℕ → Placed
placed place = (place, Some place)

abbrev IsKeyPlace : ℕ → List ℕ → Option ℕ → ℕ → Type 0
IsKeyPlace count used before place = (place < 2 ^ 32) × (is_key_place count used before place ≡ true)

key_place_law : (count : ℕ) (used : List ℕ) (before : Option ℕ) → IsText (key_place count used before) (λ y. number y.0) (λ y. IsKeyPlace count used before y.0 × (y.1 ≡ Some y.0))
unfolding key_place
key_place_law count used before =
    text_as (u32_as (passing (is_key_place count used before)) >>= λ place. Done (placed place)) (λ y. number y.0) (λ y. number y.0) (λ y. IsKeyPlace count used before y.0 × (y ≡ placed y.0)) (λ y. IsKeyPlace count used before y.0 × (y.1 ≡ Some y.0))
    (text_made (u32_as (passing (is_key_place count used before))) placed (λ y. y.0) number (IsKeyPlace count used before) (λ place g. refl) (number_text (is_key_place count used before)))
    (λ y h. ((h.0, ap (λ (z : Placed). z.1) h.1), refl)) (λ y h. ((h.0, ap (λ (o : Option ℕ). let z : Placed = (y.0, o) in z) h.1), refl))

pub key_places_law : (count : ℕ) (used : List ℕ) (before : Option ℕ) → IsText (key_places count used before) (counted number) (AreKeyPlaces count used before)
unfolding key_places
key_places_law count used before =
    text_as (u32_as (passing (ltb 0)) >>= λ n. several_from (key_place count used) n before) (counted number) (counted number)
    (λ places. ((length places < 2 ^ 32) × (ltb 0 (length places) ≡ true)) × ((length places ≡ length places) × Chain (IsKeyPlace count used) (λ b p. Some p) before places)) (AreKeyPlaces count used before)
    (text_next (u32_as (passing (ltb 0))) (λ n. several_from (key_place count used) n before) number (λ (n : ℕ). (n < 2 ^ 32) × (ltb 0 n ≡ true)) (flat_map number) (λ n places. (length places ≡ n) × Chain (IsKeyPlace count used) (λ b p. Some p) before places) length
    (number_text (ltb 0))
    (λ n. from_text (key_place count used) number (IsKeyPlace count used) (λ b p. Some p) (key_place_law count used) n before)
    (λ n places g h. h.0))
    (λ places h. ((h.0.0, ltb-true 0 (length places) h.0.1, h.1.1), refl)) (λ places h. (((h.0, lt-ltb 0 (length places) h.1), (refl, h.2)), refl))

abbrev pub NameRead : Type 0
NameRead = Name × Option ℕ

abbrev pub name_made : List Name → ℕ → NameRead
name_made names place = (member_at names place, Some place)

within : (count : ℕ) (before : Option ℕ) (place : ℕ) → is_name_place count before place ≡ true → place < count
within count before place e = ltb-true place count (both_true (ltb place count) (is_behind nat_cmp before place) e).0

name_from : (names : List Name) (before : Option ℕ) (y : NameRead) → ((place_in names y.0 < 2 ^ 32) × (is_name_place (length names) before (place_in names y.0) ≡ true)) × (y ≡ name_made names (place_in names y.0)) → IsNameBehind names before y.0 × (y.1 ≡ Some (place_in names y.0))
name_from names before y h = ((h.0.0, h.0.1, sym (ap (λ (z : NameRead). z.0) h.1)), ap (λ (z : NameRead). z.1) h.1)

name_to : (names : List Name) (before : Option ℕ) (y : NameRead) → IsNameBehind names before y.0 × (y.1 ≡ Some (place_in names y.0)) → ((place_in names y.0 < 2 ^ 32) × (is_name_place (length names) before (place_in names y.0) ≡ true)) × (y ≡ name_made names (place_in names y.0))
name_to names before y h = ((h.0.0, h.0.1), λ i. (sym h.0.2 i, h.1 i))

name_at_law : (names : List Name) → IsStrictlySortedBy byte_order names → (before : Option ℕ) → IsText (name_at names before) (λ y. number (place_in names y.0)) (λ y. IsNameBehind names before y.0 × (y.1 ≡ Some (place_in names y.0)))
unfolding name_at
name_at_law names sorted before =
    text_as (u32_as (passing (is_name_place (length names) before)) >>= λ place. Done (name_made names place)) (λ y. number (place_in names y.0)) (λ y. number (place_in names y.0))
    (λ y. ((place_in names y.0 < 2 ^ 32) × (is_name_place (length names) before (place_in names y.0) ≡ true)) × (y ≡ name_made names (place_in names y.0))) (λ y. IsNameBehind names before y.0 × (y.1 ≡ Some (place_in names y.0)))
    (text_made (u32_as (passing (is_name_place (length names) before))) (name_made names) (λ y. place_in names y.0) number (λ (n : ℕ). (n < 2 ^ 32) × (is_name_place (length names) before n ≡ true))
    (λ place g. place_of_member names place sorted (within (length names) before place g.1)) (number_text (is_name_place (length names) before)))
    (λ y h. (name_from names before y h, refl)) (λ y h. (name_to names before y h, refl))

pub name_list_law : (names : List Name) → IsStrictlySortedBy byte_order names → IsText (name_list names) (counted (λ n. number (place_in names n))) (AreNames names)
unfolding name_list
name_list_law names sorted = counted_from (name_at names) (λ n. number (place_in names n)) (IsNameBehind names) (λ before n. Some (place_in names n)) None (name_at_law names sorted)

abbrev key_rows_made : List (List ℕ) → ℕ → Ruled → KeyRows
key_rows_made keys place r = record { key = member_at keys place; rows = r }

key_rows_to : (keys : List (List ℕ)) (at : ℕ) (k : KeyRows) → AreKeyRows keys at k → AreRows k.rows × (k ≡ key_rows_made keys at k.rows)
key_rows_to keys at k h =
    let made : List ℕ → KeyRows = λ bytes. record { key = bytes; rows = k.rows } in
    (h.1, ap made (sym h.0))

pub key_rows_law : (keys : List (List ℕ)) (place : ℕ) → IsText (key_rows keys place) (λ k. rows_text k.rows) (AreKeyRows keys place)
unfolding key_rows
key_rows_law keys place =
    text_as (rows >>= λ r. Done (key_rows_made keys place r)) (λ k. rows_text k.rows) (λ k. rows_text k.rows) (λ k. AreRows k.rows × (k ≡ key_rows_made keys place k.rows)) (AreKeyRows keys place)
    (text_made rows (key_rows_made keys place) (λ k. k.rows) rows_text AreRows (λ r g. refl) rows_law)
    (λ k h. ((sym (ap (λ (z : KeyRows). z.key) h.1), h.0), refl)) (λ k h. (key_rows_to keys place k h, refl))
