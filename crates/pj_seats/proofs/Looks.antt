-- Looks of a seat, one after the other.
use Rattle.std.proofs.Common.{◌≡◌, ◌∙◌, ℕ, ◌+◌, ◌-◌, ◌^◌, ◌<◌, ◌≤◌, min, List, [], ◌∷◌, ◌++◌, map, length, take, drop, Bool, true, false, cond, refl, sym, ap, subst, arith}
use Rattle.std.specs.List.{filter}
use Rattle.std.proofs.lemmas.List.{append_assoc, drop-append-le, length-append, length-drop, length-map, length-take, map-append, take-append-drop, take-append-le}
use Rattle.std.proofs.lemmas.List.Elements.{filter-append}
use Rattle.std.proofs.Math.Seq.{drop-append_seam, drop-length, take-length}
use Rattle.pj_names.specs.ClassName.{Name}
use Rattle.pj_outside.specs.Doors.{count_and}
use Rattle.pj_outside.specs.Faults.{next_count}
use Rattle.pj_table.specs.Names.{part_of}
use Rattle.pj_table.specs.Plays.{AddsLook, AddsNothing, Rests}
use Rattle.pj_table.specs.Worlds.{CountsFind}
use Rattle.pj_table.specs.declared.view.Asked.{Asked}
use Rattle.pj_table.specs.declared.view.Line.{Line}
use Rattle.pj_table.specs.declared.view.View.{View}
use Rattle.pj_seats.specs.Looks.{AddsLooks, AreLooksOf, CountsFinds, at_rest, before_last, count_fills, last_looks, lies_at, looks_since, made_at}

-- ---- lists with one member more

one_more : {A : Type 0} (n : ℕ) (xs : List A) (x : A) → length (xs ++ x ∷ []) - (n + 1) ≡ length xs - n
one_more n xs x = omega (arith, length-append xs (x ∷ []))

drop_more : {A : Type 0} (n : ℕ) (xs : List A) (x : A) → drop (length (xs ++ x ∷ []) - (n + 1)) (xs ++ x ∷ []) ≡ drop (length xs - n) xs ++ x ∷ []
drop_more n xs x = ap (λ (k : ℕ). drop k (xs ++ x ∷ [])) (one_more n xs x) ∙ drop-append-le (length xs - n) xs (x ∷ []) (omega arith)

take_more : {A : Type 0} (n : ℕ) (xs : List A) (x : A) → take (length (xs ++ x ∷ []) - (n + 1)) (xs ++ x ∷ []) ≡ take (length xs - n) xs
take_more n xs x = ap (λ (k : ℕ). take k (xs ++ x ∷ [])) (one_more n xs x) ∙ take-append-le (length xs - n) xs (x ∷ []) (omega arith)

-- ---- the start stays

same_before : (n m : ℕ) (v w : View) → Rests v w → w.own.number ≡ v.own.number → w.own.past ≡ v.own.past → w.own.claims ≡ v.own.claims
    → take (length w.own.asked - m) w.own.asked ≡ take (length v.own.asked - n) v.own.asked → before_last m w ≡ before_last n v
same_before n m v w r number past claims asked = λ i. record {
  live = r.0 i;
  world = r.1 i;
  files = r.2 i;
  given = r.3 i;
  own = record { number = number i; past = past i; claims = claims i; asked = asked i };
  joined = r.4 i;
  at = 0;
  phase = 0;
  ticket = 0;
  entries = [];
  looks = [];
}

-- after a look
pub start_after_look : (n m part : ℕ) (name : Name) (finds : Bool → Type 0) (v w : View) → m ≡ n + 1 → AddsLook v w part name finds → before_last m w ≡ before_last n v
start_after_look n m part name finds v w more t =
    same_before n m v w t.5 (ap (λ (l : Line). l.number) t.4) (ap (λ (l : Line). l.past) t.4) (ap (λ (l : Line). l.claims) t.4)
    (ap (λ (k : ℕ). take (length w.own.asked - k) w.own.asked) more ∙ ap (λ (l : Line). take (length l.asked - (n + 1)) l.asked) t.4 ∙ take_more n v.own.asked t.0)

-- after a refusal
pub start_after_refusal : (n : ℕ) (v w : View) → AddsNothing v w → before_last n w ≡ before_last n v
start_after_refusal n v w t =
    same_before n n v w t.1 (ap (λ (l : Line). l.number) t.0) (ap (λ (l : Line). l.past) t.0) (ap (λ (l : Line). l.claims) t.0) (ap (λ (l : Line). take (length l.asked - n) l.asked) t.0)

-- at the beginning
pub start_of_none : (n : ℕ) (v : View) → n ≡ 0 → before_last n v ≡ at_rest v
start_of_none n v none =
    let all : take (length v.own.asked - n) v.own.asked ≡ v.own.asked = ap (λ (k : ℕ). take k v.own.asked) (omega (arith, none)) ∙ take-length v.own.asked in λ i. record (at_rest v) { own = record v.own { asked = all i } }

-- ---- the last looks

pub last_after_look : (n m part : ℕ) (name : Name) (finds : Bool → Type 0) (v w : View) → m ≡ n + 1 → (t : AddsLook v w part name finds) → last_looks m w ≡ last_looks n v ++ t.0 ∷ []
last_after_look n m part name finds v w more t =
    ap (λ (k : ℕ). drop (length w.own.asked - k) w.own.asked) more ∙ ap (λ (l : Line). drop (length l.asked - (n + 1)) l.asked) t.4 ∙ drop_more n v.own.asked t.0

pub last_after_refusal : (n : ℕ) (v w : View) → AddsNothing v w → last_looks n w ≡ last_looks n v
last_after_refusal n v w t = ap (λ (l : Line). drop (length l.asked - n) l.asked) t.0

-- at the beginning
pub last_of_none : (n : ℕ) (v : View) → n ≡ 0 → last_looks n v ≡ []
last_of_none n v none =
    let whole : length v.own.asked - n ≡ length v.own.asked = omega (arith, none) in ap (λ (k : ℕ). drop k v.own.asked) whole ∙ drop-length v.own.asked

-- ---- what the looks are of

pub looks_more : (n m : ℕ) (name : Name) (finds : Bool → Type 0) (v w : View) (names more : List Name) → m ≡ n + 1 → more ≡ names ++ name ∷ [] → AddsLook v w (part_of name) name finds
    → AreLooksOf names (last_looks n v) → AreLooksOf more (last_looks m w)
looks_more n m name finds v w names more longer put t are =
    ap (map made_at) (last_after_look n m (part_of name) name finds v w longer t) ∙ map-append made_at (last_looks n v) (t.0 ∷ [])
    ∙ (λ i. are i ++ (t.1 i, t.2 i) ∷ []) ∙ sym (map-append lies_at names (name ∷ [])) ∙ ap (map lies_at) (sym put)

-- the same where nothing was added
pub looks_stay : (n m : ℕ) (names more : List Name) (v w : View) → m ≡ n → more ≡ names → AddsNothing v w → AreLooksOf names (last_looks n v) → AreLooksOf more (last_looks m w)
looks_stay n m names more v w long same quiet are =
    ap (λ (k : ℕ). map made_at (last_looks k w)) long ∙ ap (map made_at) (last_after_refusal n v w quiet) ∙ are ∙ sym (ap (map lies_at) same)

-- ---- how many of them fill

pub fills_append : (looks more : List Asked) → count_fills (looks ++ more) ≡ count_fills looks + count_fills more
fills_append looks more = ap length (filter-append (λ (look : Asked). look.fill) looks more) ∙ length-append (filter (λ (look : Asked). look.fill) looks) (filter (λ (look : Asked). look.fill) more)

fills_one : (look : Asked) (b : Bool) → look.fill ≡ b → count_fills (look ∷ []) ≡ cond b 1 0
fills_one look true is = rw is refl
fills_one look false is = rw is refl

fills_more : (looks : List Asked) (a : Asked) → count_fills (looks ++ a ∷ []) ≡ count_fills looks + cond a.fill 1 0
fills_more looks a = fills_append looks (a ∷ []) ∙ ap (λ (k : ℕ). count_fills looks + k) (fills_one a a.fill refl)

finds_one : (begun old new k : ℕ) (fill : Bool) → old ≡ count_and begun k → CountsFind old new fill → new ≡ count_and begun (k + cond fill 1 0)
finds_one begun old new k true was is = omega (arith, was, is)
finds_one begun old new k false was is = omega (arith, was, is)

pub finds_more : (begun old new n m part : ℕ) (name : Name) (v w : View) → m ≡ n + 1 → AddsLook v w part name (CountsFind old new) → CountsFinds begun old (last_looks n v) → CountsFinds begun new (last_looks m w)
finds_more begun old new n m part name v w longer t was =
    finds_one begun old new (count_fills (last_looks n v)) t.0.fill was t.3
    ∙ ap (λ (k : ℕ). count_and begun k) (sym (fills_more (last_looks n v) t.0) ∙ ap count_fills (sym (last_after_look n m part name (CountsFind old new) v w longer t)))

-- no find yet
pub finds_none : (begun count n : ℕ) (v : View) → n ≡ 0 → count ≡ begun → begun < 2 ^ 64 → CountsFinds begun count (last_looks n v)
finds_none begun count n v none is fits = let k = ap count_fills (last_of_none n v none) in omega (arith, k, is, fits)

-- ---- all of them together

long_enough : (n : ℕ) (v : View) (names : List Name) → n ≡ length names → AreLooksOf names (last_looks n v) → n ≤ length v.own.asked
long_enough n v names long are =
    let looks = sym (length-map (last_looks n v) made_at) ∙ ap length are ∙ length-map names lies_at in
    omega (arith, looks, long, length-drop (length v.own.asked - n) v.own.asked)

start_length : (n : ℕ) (v : View) → length (before_last n v).own.asked ≡ length v.own.asked - n
start_length n v = omega (arith, length-take (length v.own.asked - n) v.own.asked)

-- the looks since the start are the last ones
pub since_is_last : (n : ℕ) (v : View) → looks_since (before_last n v) v ≡ last_looks n v
since_is_last n v = ap (λ (k : ℕ). drop k v.own.asked) (start_length n v)

-- The seat gained the last looks since the start.
pub adds_last : (n : ℕ) (v : View) (names : List Name) → AreLooksOf names (last_looks n v) → AddsLooks (before_last n v) v names
adds_last n v names are = record {
  looks = ap (map made_at) (since_is_last n v) ∙ are;
  own = λ i. record v.own { asked = (sym (take-append-drop (length v.own.asked - n) v.own.asked) ∙ ap (λ (l : List Asked). take (length v.own.asked - n) v.own.asked ++ l) (sym (since_is_last n v))) i };
  rests = (refl, refl, refl, refl, refl);
}

-- ---- one ask after the other

pub since_more : (a b c : View) → b.own.asked ≡ a.own.asked ++ looks_since a b → c.own.asked ≡ b.own.asked ++ looks_since b c → looks_since a c ≡ looks_since a b ++ looks_since b c
since_more a b c first then =
    ap (drop (length a.own.asked)) (then ∙ ap (λ (l : List Asked). l ++ looks_since b c) first ∙ append_assoc a.own.asked (looks_since a b) (looks_since b c))
    ∙ drop-append_seam a.own.asked (looks_since a b ++ looks_since b c)

pub adds_then : (a b c : View) (names more : List Name) → AddsLooks a b names → AddsLooks b c more → AddsLooks a c (names ++ more)
adds_then a b c names more first then =
    let since = since_more a b c (ap (λ (l : Line). l.asked) first.own) (ap (λ (l : Line). l.asked) then.own) in
    record {
      looks = ap (map made_at) since ∙ map-append made_at (looks_since a b) (looks_since b c) ∙ (λ i. first.looks i ++ then.looks i) ∙ sym (map-append lies_at names more);
      own = then.own ∙ (λ i. record (first.own i) { asked = (first.own i).asked ++ looks_since b c }) ∙ (λ i. record a.own { asked = (append_assoc a.own.asked (looks_since a b) (looks_since b c) ∙ ap (λ (l : List Asked). a.own.asked ++ l) (sym since)) i });
      rests = (then.rests.0 ∙ first.rests.0, then.rests.1 ∙ first.rests.1, then.rests.2 ∙ first.rests.2, then.rests.3 ∙ first.rests.3, then.rests.4 ∙ first.rests.4);
    }

pub finds_then : (a b c : View) (names more : List Name) (begun old new : ℕ) → AddsLooks a b names → AddsLooks b c more → CountsFinds begun old (looks_since a b) → CountsFinds old new (looks_since b c) → CountsFinds begun new (looks_since a c)
finds_then a b c names more begun old new first then was is =
    let since = ap count_fills (since_more a b c (ap (λ (l : Line). l.asked) first.own) (ap (λ (l : Line). l.asked) then.own)) ∙ fills_append (looks_since a b) (looks_since b c) in
    omega (arith, since, was, is)

-- one ask
one_since : (v w : View) (a : Asked) → w.own.asked ≡ v.own.asked ++ a ∷ [] → looks_since v w ≡ a ∷ []
one_since v w a is = ap (drop (length v.own.asked)) is ∙ drop-append_seam v.own.asked (a ∷ [])

pub adds_one : (v w : View) (name : Name) (finds : Bool → Type 0) → AddsLook v w (part_of name) name finds → AddsLooks v w (name ∷ [])
adds_one v w name finds t = let since = one_since v w t.0 (ap (λ (l : Line). l.asked) t.4) in record {
  looks = ap (map made_at) since ∙ (λ i. (t.1 i, t.2 i) ∷ []);
  own = t.4 ∙ (λ i. record v.own { asked = v.own.asked ++ sym since i });
  rests = t.5;
}

pub finds_by_one : (v w : View) (name : Name) (old new : ℕ) → old < 2 ^ 64 → AddsLook v w (part_of name) name (CountsFind old new) → CountsFinds old new (looks_since v w)
finds_by_one v w name old new fits t =
    let fills : count_fills (looks_since v w) ≡ cond t.0.fill 1 0 = ap count_fills (one_since v w t.0 (ap (λ (l : Line). l.asked) t.4)) ∙ fills_one t.0 t.0.fill refl in
    let found : new ≡ count_and old (0 + cond t.0.fill 1 0) = finds_one old old new 0 t.0.fill (omega (arith, fits)) t.3 in omega (arith, fills, found)
