-- What a translation has made, with a character more and at its end.
use Rattle.std.proofs.Common.{ℕ, zero, suc, ◌≡◌, ◌+◌, ◌<◌, ◌≤◌, ◌==◌, ◌||◌, not, Bool, true, false, if◌then◌else◌, List, [], ◌∷◌, ◌++◌, refl, ap, sym, ◌∙◌, arith, subst, inl, inr, Ok, Err, string_bytes, string_len}
use Rattle.std.specs.Char.{len_utf8, encode_utf8}
use Rattle.std.proofs.lemmas.Bool.{cases_Bool}
use Rattle.pj_tree.specs.declared.node.Place.{Place}
use Rattle.pj_source.specs.Escapes.{Piece, IsWritten, IsBadEscape, is_even, backslashes, is_eligible, place_behind_all, text_of, places_of_bytes}
use Rattle.pj_source.specs.SourceText.{SourceText, Translates, source_of, is_last_sub}
use Rattle.pj_source.specs.SourceText.Translates.{ended, sub, next, bad}
use Rattle.pj_source.specs.SourceRuns.{AreRuns, Takes, SameBelow, each_below, place_by, places_by}
use Rattle.pj_source.specs.Translating.{HasMade, GoesOn, IsTranslated, IsFront}
use Rattle.pj_source.specs.declared.source.fault.SourceFault.TheVariants.{Escape}
use Rattle.pj_source.specs.declared.source.run.Run.{Run}
use Rattle.pj_source.specs.declared.source.translation.Translation.{Translation}
use Rattle.pj_source.proofs.SourceRunPlaces.{places_more, runs_more}

even_more : (t u : Bool) (ps : List Piece) (c : ℕ) → t ≡ is_even (backslashes ps) → u ≡ (if c == 92 then not t else true) → u ≡ is_even (if c == 92 then suc (backslashes ps) else zero)
even_more t u ps c old new = new ∙ elim (cases_Bool (c == 92)) [
  | inl e ↦ rw (e, old) refl
  | inr e ↦ rw e refl
]

pub made_more : (t u : Translation) (pieces : List Piece) (left less c len : ℕ) (e : Bool) → HasMade t pieces left
    → string_bytes u.text ≡ string_bytes t.text ++ encode_utf8 c → string_len u.text ≡ string_len t.text + len_utf8 c
    → AreRuns u.runs.items (string_len t.text) left → Takes u.runs.items (string_len t.text) (len_utf8 c) t.place → SameBelow t.runs.items u.runs.items (string_len t.text)
    → u.escaped ≡ e → u.even ≡ (if c == 92 then not t.even else true)
    → u.place.column ≤ t.place.column + len → u.place.line ≤ t.place.line + 1 → 0 < len → len + less ≤ left → len_utf8 c + less ≤ left
    → HasMade u (record { character = c; escaped = e; place = t.place } ∷ pieces) less
made_more t u pieces left less c len e m bytes longer runs takes same escaped even column line some fits shorter = record {
  text = bytes ∙ ap (λ (xs : List ℕ). xs ++ encode_utf8 c) m.text;
  escaped = escaped;
  even = even_more t.even u.even pieces c m.even even;
  runs = rw longer (runs_more u.runs.items (string_len t.text) left (len_utf8 c) less t.place runs takes shorter);
  places = rw longer (places_more t.runs.items u.runs.items (string_len t.text) left (len_utf8 c) t.place (places_of_bytes pieces) m.places runs takes same);
  column = omega (arith, m.column);
  line = omega (arith, m.line);
  size = omega (arith, m.size);
}

-- ---- the walk

eligible_is : (t : Translation) (pieces : List Piece) (left : ℕ) → HasMade t pieces left → (t.escaped || t.even) ≡ is_eligible pieces
eligible_is t pieces left m = rw (m.escaped, m.even) refl

pub goes_more : (at : Place) (text rest behind : List ℕ) (t u : Translation) (left less c len : ℕ) (e eligible : Bool) → (g : GoesOn at text t rest left) → eligible ≡ (t.escaped || t.even)
    → (f : IsFront eligible rest c e len behind) → is_last_sub c behind ≡ false → u.place ≡ place_behind_all t.place f.w behind
    → HasMade u (record { character = c; escaped = e; place = t.place } ∷ g.pieces) less → GoesOn at text u behind less
goes_more at text rest behind t u left less c len e eligible g may f last place made = record {
  pieces = record { character = c; escaped = e; place = t.place } ∷ g.pieces;
  on = λ o more. g.on o (next t.place g.pieces rest c e f.w behind o (subst (λ (b : Bool). IsWritten b rest c e f.w behind) (may ∙ eligible_is t g.pieces left g.made) f.written) last
      (subst (λ (p : Place). Translates p (record { character = c; escaped = e; place = t.place } ∷ g.pieces) behind o) place more));
  made = made;
}

pub goes_out : (at : Place) (text rest : List ℕ) (t : Translation) (left : ℕ) (eligible : Bool) → GoesOn at text t rest left → eligible ≡ (t.escaped || t.even) → IsBadEscape eligible rest → Translates at [] text (Err (Escape t.place))
goes_out at text rest t left eligible g may b = g.on (Err (Escape t.place)) (bad t.place g.pieces rest (subst (λ (x : Bool). IsBadEscape x rest) (may ∙ eligible_is t g.pieces left g.made) b))

pub ends_in_sub : (at : Place) (text rest behind : List ℕ) (t : Translation) (left c len : ℕ) (e eligible : Bool) → GoesOn at text t rest left → eligible ≡ (t.escaped || t.even)
    → IsFront eligible rest c e len behind → is_last_sub c behind ≡ true → IsTranslated at text t
ends_in_sub at text rest behind t left c len e eligible g may f last = record {
  pieces = g.pieces;
  left = left;
  translates = g.on (Ok (source_of g.pieces t.place)) (sub t.place g.pieces rest c e f.w behind (subst (λ (b : Bool). IsWritten b rest c e f.w behind) (may ∙ eligible_is t g.pieces left g.made) f.written) last);
  made = g.made;
}

pub ends : (at : Place) (text rest : List ℕ) (t : Translation) (left : ℕ) → GoesOn at text t rest left → rest ≡ [] → IsTranslated at text t
ends at text rest t left g none = record {
  pieces = g.pieces;
  left = left;
  translates = g.on (Ok (source_of g.pieces t.place)) (subst (λ (r : List ℕ). Translates t.place g.pieces r (Ok (source_of g.pieces t.place))) (sym none) (ended t.place g.pieces));
  made = g.made;
}

-- ---- the end

pub source_is : (text : List ℕ) (runs after : List Run) (n : ℕ) (place : Place) (pieces : List Piece) → text ≡ text_of pieces → places_of_bytes pieces ≡ each_below (place_by runs) n
    → AreRuns after n 0 → Takes after n 1 place → SameBelow runs after n → ◌≡◌ {A = SourceText} (record { text = text; places = places_by after n }) (source_of pieces place)
source_is text runs after n place pieces same places r t below = rw (same, sym (places_more runs after n 0 1 place (places_of_bytes pieces) places r t below)) refl
