-- What a worker does, one file after the other.
use Rattle.std.proofs.Common.{◌≡◌, ◌∙◌, ℕ, ◌+◌, ◌^◌, ◌<◌, ◌≤◌, min, ◌-◌, List, [], ◌∷◌, ◌++◌, map, length, drop, Option, Some, None, IsTrue, Bool, true, refl, sym, ap, subst, arith}
use Rattle.std.specs.Prelude.{Result, Ok, Err, IfOk, OnOk, is_some}
use Rattle.std.specs.List.{AllZip, flat_map}
use Rattle.std.specs.FinSet as set
use Rattle.std.proofs.lemmas.List.{append-nil, append_assoc, flat_map_more, map-append}
use Rattle.std.proofs.Math.Seq.{drop-length}
use Rattle.pj_names.specs.declared.oracle.AskFault.{AskFault}
use Rattle.pj_names.specs.declared.oracle.AskFault.TheVariants.{Failed, Memory}
use Rattle.pj_names.specs.ClassName.{Name, NameSet, name_set}
use Rattle.pj_names.specs.Asking.{Asking}
use Rattle.pj_names.specs.Told.{Asks, Told, Worlds, seen}
use Rattle.pj_table.specs.ClassWorld.{worlds_of}
use Rattle.pj_table.specs.Plays.{with_claim, with_end}
use Rattle.pj_table.specs.Telling.{tells_of}
use Rattle.pj_table.specs.Worlds.{World, CountsFaults}
use Rattle.pj_table.specs.declared.view.Asked.{Asked}
use Rattle.pj_table.specs.declared.view.Line.{Line}
use Rattle.pj_table.specs.declared.view.View.{View}
use Rattle.pj_seats.specs.Looks.{AddsLooks, AreLooksOf, CountsFinds, at_rest, count_fills, lies_at, looks_since, made_at}
use Rattle.pj_seats.specs.Working.{IsMadeOf, IsShare, Stays, Works}
use Rattle.pj_seats.proofs.Looks.{fills_append, since_more}

-- ---- lists

zip_push : {X Y : Type 0} (R : X → Y → Type 0) (xs : List X) (ys : List Y) (x : X) (y : Y) → AllZip R xs ys → R x y → AllZip R (xs ++ x ∷ []) (ys ++ y ∷ [])
zip_push R [] [] x y all one = (one, tt)
zip_push R [] (y' ∷ ys) x y all one = absurd all
zip_push R (x' ∷ xs) [] x y all one = absurd all
zip_push R (x' ∷ xs) (y' ∷ ys) x y all one = (all.0, zip_push R xs ys x y all.1 one)

-- ---- what a seat gains

works_none : (v : View) → Works v v [] []
works_none v = record {
  looks = ap (map made_at) (drop-length v.own.asked);
  own = λ i. record v.own {
    claims = sym (append-nil v.own.claims) i;
    asked = (sym (append-nil v.own.asked) ∙ ap (λ (l : List Asked). v.own.asked ++ l) (sym (drop-length v.own.asked))) i;
  };
  rests = (refl, refl, refl, refl, refl);
}

-- one more file is claimed
works_claim : (n : ℕ) (a b : View) (files : List ℕ) (names : List Name) → Works a b files names → Works a (with_claim n b) (files ++ n ∷ []) names
works_claim n a b files names w = record {
  looks = w.looks;
  own = (λ i. record (w.own i) { claims = (w.own i).claims ++ n ∷ [] })
      ∙ (λ i. record a.own { past = b.own.past; claims = append_assoc a.own.claims files (n ∷ []) i; asked = a.own.asked ++ looks_since a b });
  rests = w.rests;
}

-- a number past the files was drawn
works_end : (a b : View) (files : List ℕ) (names : List Name) → Works a b files names → Works a (with_end b) files names
works_end a b files names w = record { looks = w.looks; own = λ i. record (w.own i) { past = true }; rests = w.rests }

works_since : (a b c : View) (files : List ℕ) (names more : List Name) → Works a b files names → AddsLooks b c more → looks_since a c ≡ looks_since a b ++ looks_since b c
works_since a b c files names more w t = since_more a b c (ap (λ (l : Line). l.asked) w.own) (ap (λ (l : Line). l.asked) t.own)

-- names are asked
works_adds : (a b c : View) (files : List ℕ) (names more : List Name) → Works a b files names → AddsLooks b c more → Works a c files (names ++ more)
works_adds a b c files names more w t = let since = works_since a b c files names more w t in record {
  looks = ap (map made_at) since ∙ map-append made_at (looks_since a b) (looks_since b c) ∙ (λ i. w.looks i ++ t.looks i) ∙ sym (map-append lies_at names more);
  own = t.own ∙ (λ i. record (w.own i) { asked = (w.own i).asked ++ looks_since b c })
      ∙ (λ i. record a.own {
        past = sym (ap (λ (l : Line). l.past) t.own) i;
        claims = a.own.claims ++ files;
        asked = (append_assoc a.own.asked (looks_since a b) (looks_since b c) ∙ ap (λ (l : List Asked). a.own.asked ++ l) (sym since)) i;
      });
  rests = (t.rests.0 ∙ w.rests.0, t.rests.1 ∙ w.rests.1, t.rests.2 ∙ w.rests.2, t.rests.3 ∙ w.rests.3, t.rests.4 ∙ w.rests.4);
}

finds_on : (a b c : View) (begun old new : ℕ) → looks_since a c ≡ looks_since a b ++ looks_since b c → CountsFinds begun old (looks_since a b) → CountsFinds old new (looks_since b c) → CountsFinds begun new (looks_since a c)
finds_on a b c begun old new since was is = let fills = ap count_fills since ∙ fills_append (looks_since a b) (looks_since b c) in omega (arith, fills, was, is)

-- ---- a share

pub share_none : {M : Type 0} (world : World) (comes : ℕ → Worlds → NameSet → M → Type 0) (v : View) (count : ℕ) → count < 2 ^ 64 → IsShare world comes v v count count []
share_none world comes v count fits = record {
  asked = [];
  made = tt;
  works = works_none v;
  finds = let none = ap count_fills (drop-length v.own.asked) in omega (arith, none, fits);
}

module _ {M : Type 0} (world : World) (comes : ℕ → Worlds → NameSet → M → Type 0) (a b : View) where
  more_at : (c : View) (begun old new n : ℕ) (made : M) (names : List Name) (results : List (ℕ × M)) → IsShare world comes a b begun old results → IsMadeOf world (comes n) made names
      → AddsLooks (with_claim n b) c names → CountsFinds old new (looks_since (with_claim n b) c) → IsShare world comes a c begun new (results ++ (n, made) ∷ [])
  more_at c begun old new n made names results s one t finds =
      let files = map (λ (result : ℕ × M). result.0) results in let asked = flat_map (λ (l : List Name). l) s.asked in
      let w = works_claim n a b files asked s.works in
      let more : flat_map (λ (l : List Name). l) (s.asked ++ names ∷ []) ≡ asked ++ names = sym (flat_map_more (λ (l : List Name). l) [] s.asked names) in
      record {
        asked = s.asked ++ names ∷ [];
        made = zip_push (λ (result : ℕ × M) (l : List Name). IsMadeOf world (comes result.0) result.1 l) results s.asked (n, made) names s.made one;
        works = subst (λ (l : List ℕ). Works a c l (flat_map (λ (l : List Name). l) (s.asked ++ names ∷ []))) (sym (map-append (λ (result : ℕ × M). result.0) results ((n, made) ∷ [])))
            (subst (λ (l : List Name). Works a c (files ++ n ∷ []) l) (sym more) (works_adds a (with_claim n b) c (files ++ n ∷ []) asked names w t));
        finds = finds_on a (with_claim n b) c begun old new (works_since a (with_claim n b) c (files ++ n ∷ []) asked names w t) s.finds finds;
      }

  -- one more file is claimed, and worked at
  pub share_more : (claimed c : View) (begun old new n : ℕ) (made : M) (names : List Name) (results : List (ℕ × M)) → claimed ≡ with_claim n b → IsShare world comes a b begun old results → IsMadeOf world (comes n) made names
      → AddsLooks claimed c names → CountsFinds old new (looks_since claimed c) → IsShare world comes a c begun new (results ++ (n, made) ∷ [])
  share_more claimed c begun old new n made names results is s one t finds =
      more_at c begun old new n made names results s one (subst (λ (v : View). AddsLooks v c names) is t) (subst (λ (v : View). CountsFinds old new (looks_since v c)) is finds)

  -- no file is left
  pub share_end : (c : View) (begun new : ℕ) (results : List (ℕ × M)) → c ≡ with_end b → IsShare world comes a b begun new results → IsShare world comes a c begun new results
  share_end c begun new results is s = subst (λ (v : View). IsShare world comes a v begun new results) (sym is) (record {
    asked = s.asked;
    made = s.made;
    works = works_end a b (map (λ (result : ℕ × M). result.0) results) (flat_map (λ (l : List Name). l) s.asked) s.works;
    finds = s.finds;
  })

-- ---- one file

-- what came of a file, over an oracle of which nothing was asked
pub made_of : {K M : Type 0} {t : Told K} {comes : Worlds → NameSet → M → Type 0} {made : M} {asked : NameSet} (kept : K) (world : World) (faults : ℕ) (names : List Name) → t ≡ tells_of kept world set.empty faults
    → (IsTrue t.is_told → comes t.world asked made) → name_set names ≡ asked → set.len (name_set names) ≡ length names → IsMadeOf world comes made names
made_of {comes = comes} {made = made} {asked = asked} kept world faults names is so noted once = record {
  once = once;
  comes_so = λ told. subst (λ (s : NameSet). comes (worlds_of world) s made) (sym noted) (subst (λ v. IsTrue v.is_told → comes v.world asked made) is so told);
}

-- a call that asks as a meaning says
pub asks_stay : {K A B : Type 0} {m : Asking B} {t u : Told K} (value : A → B) (r : Result A AskFault) → Asks m t u (seen value r) → Stays t u r
asks_stay value (Ok made) a = record { same_told = a.same_told; same_world = a.same_world; same_kept = a.same_kept; faults_grow = a.faults_grow; faults_stay = a.faults_stay; failed = λ is. absurd (cc) }
asks_stay value (Err Failed) a = record { same_told = a.same_told; same_world = a.same_world; same_kept = a.same_kept; faults_grow = a.faults_grow; faults_stay = a.faults_stay; failed = λ is. a.failed refl }
asks_stay value (Err Memory) a = record { same_told = a.same_told; same_world = a.same_world; same_kept = a.same_kept; faults_grow = a.faults_grow; faults_stay = a.faults_stay; failed = λ is. absurd (cc) }

-- faults of the door, as the oracle tells them
pub faults_of : {K A : Type 0} {t u : Told K} (r : Result A AskFault) → Stays t u r → CountsFaults t.faults u.faults r
faults_of (Ok made) stays = stays.faults_stay
faults_of (Err Failed) stays = record { never_falls = stays.faults_grow; rose = stays.failed refl }
faults_of (Err Memory) stays = stays.faults_stay

-- what the seat gained since the oracle was made
pub from_rest : {v w : View} {names : List Name} → AddsLooks (at_rest v) w names → AddsLooks v w names
from_rest t = record { looks = t.looks; own = t.own; rests = t.rests }
