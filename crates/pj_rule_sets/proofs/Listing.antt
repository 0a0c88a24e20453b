-- Lists of rules, one member further.
use Rattle.std.proofs.Common.{◌≡◌, ℕ, ◌+◌, ◌<◌, Bool, true, false, cond, List, [], ◌∷◌, length, drop, get_or, Some, refl, sym, ap, ◌∙◌}
use Rattle.std.proofs.lemmas.List.{at_drop_more}
use Rattle.indexmap.specs.IndexMap.{insert_entry}
use Rattle.pj_rule_sets.specs.declared.entry.Entry.{Entry}
use Rattle.pj_rule_sets.specs.declared.entry.Origin.{Origin}
use Rattle.pj_rule_sets.specs.Lists.{Taken, same_origin, is_called, is_excluded, name_of, named, put, put_all, without}
use Rattle.pj_rule_sets.specs.Taking.{put_unless}

-- ---- the first rule of a name

named_first : (name : List ℕ) (t : Taken) (rest : List Taken) → is_called name (name_of t.1) ≡ true → named name (t ∷ rest) ≡ Some t
named_first name t rest h = rw h refl

named_rest : (name : List ℕ) (t : Taken) (rest : List Taken) → is_called name (name_of t.1) ≡ false → named name (t ∷ rest) ≡ named name rest
named_rest name t rest h = rw h refl

pub named_here : (name : List ℕ) (list : List Taken) (i : ℕ) (t : Taken) → i < length list → t ≡ get_or list i t → is_called name (name_of t.1) ≡ true →
    named name (drop i list) ≡ Some t
named_here name list i t lt is h = at_drop_more (named name) list i t lt ∙ ap (λ x. named name (x ∷ drop (i + 1) list)) (sym is) ∙ named_first name t (drop (i + 1) list) h

pub named_later : (name : List ℕ) (list : List Taken) (i : ℕ) (t : Taken) → i < length list → t ≡ get_or list i t → is_called name (name_of t.1) ≡ false →
    named name (drop i list) ≡ named name (drop (i + 1) list)
named_later name list i t lt is h = at_drop_more (named name) list i t lt ∙ ap (λ x. named name (x ∷ drop (i + 1) list)) (sym is) ∙ named_rest name t (drop (i + 1) list) h

-- ---- taking all but those that are excluded

abbrev pub to_come : List (List ℕ) → List Taken → List Taken → List Taken
to_come excludes list behind = put_all list (without excludes behind)

one : (excludes : List (List ℕ)) (t : Taken) (rest list : List Taken) (b : Bool) → is_excluded excludes (name_of t.1) ≡ b →
    to_come excludes list (t ∷ rest) ≡ to_come excludes (put_unless excludes t list) rest
one excludes t rest list true h = rw h refl
one excludes t rest list false h = rw h refl

pub one_more : (excludes : List (List ℕ)) (all : List Taken) (i : ℕ) (t : Taken) (list : List Taken) → i < length all → t ≡ get_or all i t →
    to_come excludes list (drop i all) ≡ to_come excludes (put_unless excludes t list) (drop (i + 1) all)
one_more excludes all i t list lt is = at_drop_more (to_come excludes list) all i t lt ∙ ap (λ x. to_come excludes list (x ∷ drop (i + 1) all)) (sym is)
    ∙ one excludes t (drop (i + 1) all) list (is_excluded excludes (name_of t.1)) refl

-- ---- the entries of a map

pub put-insert : (eq : Origin → Origin → Bool) → ((a b : Origin) → eq a b ≡ same_origin a b) → (es : List Taken) (k : Origin) (v : Entry) → insert_entry eq es k v ≡ put es (k, v)
put-insert eq same [] k v = refl
put-insert eq same (e ∷ es) k v = rw (same k e.0) (ap (λ rest. cond (same_origin k e.0) ((e.0, v) ∷ es) (e ∷ rest)) (put-insert eq same es k v))
