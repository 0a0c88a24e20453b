-- A cache of format 1 is whole where it is in order and fits the fields of a text.
use Rattle.std.proofs.Common.{◌≡◌, ℕ, ◌<◌, ◌^◌, true, List, [], ◌∷◌, length, map, Option, Some, None, sym, subst, arith}
use Rattle.std.specs.List.Sorted.{IsStrictlySortedBy}
use Rattle.std.specs.Str.{is_utf8}
use Rattle.std.proofs.lemmas.List.{length-map}
use Rattle.std.proofs.lemmas.List.Elements.{All-from_recursion, recursion_from_All}
use Rattle.pj_format.specs.Fields.{Chain}
use Rattle.pj_names.specs.ClassName.{Name}
use Rattle.pj_names.specs.declared.answer.Answer.{Answer}
use Rattle.pj_reports.specs.declared.rows.FileRows.{FileRows}
use Rattle.pj_cache.specs.declared.old.OldEntry.{OldEntry}
use Rattle.pj_cache.specs.declared.old.OldCache.{OldCache}
use Rattle.pj_cache.specs.declared.cache.Stored.{Stored}
use Rattle.pj_cache.specs.declared.cache.Stored.TheVariants as formats
use Rattle.pj_cache.specs.Places.{byte_order, place_in}
use Rattle.pj_cache_format.specs.FormatTwo.{is_same_list}
use Rattle.pj_cache_format.specs.Fitting.{HasRoom, AllFit}
use Rattle.pj_cache_format.specs.Ordered.{IsNameInOrder}
use Rattle.pj_cache_format.specs.Judges.{is_behind}
use Rattle.pj_cache_format.proofs.AnswerLaws.{both_true}
use Rattle.pj_cache_format.proofs.Order.{AreBehind, behind_sorted}
use Rattle.pj_cache_format.proofs.WholeTwo.{IsNameBehind, AreNames}
use Rattle.pj_cache_format.proofs.CacheLaws.{same_lists}
use Rattle.pj_cache_format.proofs.Split.{chain_both, chain_as, chain_each, answers_from, answers_order, answers_fit, answers_behind, name_place_small, itself, whole_from, whole_order, whole_fits}
use Rattle.pj_old_format.specs.FormatOne.{old_names_of, are_old_named}
use Rattle.pj_old_format.specs.FittingOne.{FitsFinding, FitsError, FitsFileRows, FitsOldEntry, FitsOldFields}
use Rattle.pj_old_format.specs.OrderedOne.{AreNamesInOrder, IsOldEntryInOrder, IsOldInOrder}
use Rattle.pj_old_format.specs.AnyStored.{IsWritable}
use Rattle.pj_old_format.proofs.WholeOne.{AreFileRows, IsOldEntryBehind, IsOldWhole}
use Rattle.pj_old_format.proofs.AnyLaws.{IsAnyWhole}

-- ---- rows

rows_from : (r : FileRows) → FitsFileRows r → AreFileRows r
rows_from r f = (f.0, (f.1.0, recursion_from_All FitsFinding r.findings f.1.1), (f.2.0, recursion_from_All FitsError r.errors f.2.1))

rows_fit : (r : FileRows) → AreFileRows r → FitsFileRows r
rows_fit r f = (f.0, (f.1.0, All-from_recursion FitsFinding r.findings f.1.1), (f.2.0, All-from_recursion FitsError r.errors f.2.1))

-- ---- entries

module _ (names : List Name) where
  abbrev name_step : Option ℕ → Name → Option ℕ
  name_step before name = Some (place_in names name)

  abbrev path_step : Option (List ℕ) → OldEntry → Option (List ℕ)
  path_step before e = Some e.path

  names_from : HasRoom names → (list : List Name) → HasRoom list → AreNamesInOrder names list → AreNames names list
  names_from room list long o = (long, chain_as (IsNameInOrder names) (IsNameBehind names) name_step None list (λ before name p. (name_place_small (length names) before (place_in names name) room p.0, p.0, p.1)) o)

  names_order : (list : List Name) → AreNames names list → AreNamesInOrder names list
  names_order list h = chain_as (IsNameBehind names) (IsNameInOrder names) name_step None list (λ before name p. (p.1, p.2)) h.1

  entries_from : HasRoom names → (es : List OldEntry) → Chain (IsOldEntryInOrder names) path_step None es → AllFit FitsOldEntry es → Chain (IsOldEntryBehind names) path_step None es
  entries_from room es o f = chain_both (IsOldEntryInOrder names) FitsOldEntry (IsOldEntryBehind names) path_step None es (λ before e p q. ((q.0, p.0), q.1, names_from room e.names q.2 p.1, rows_from e.rows q.3)) o (recursion_from_All FitsOldEntry es f.1)

  entries_order : (es : List OldEntry) → Chain (IsOldEntryBehind names) path_step None es → Chain (IsOldEntryInOrder names) path_step None es
  entries_order es h = chain_as (IsOldEntryBehind names) (IsOldEntryInOrder names) path_step None es (λ before e r. (r.0.1, names_order e.names r.2)) h

  entries_fit : (es : List OldEntry) → HasRoom es → Chain (IsOldEntryBehind names) path_step None es → AllFit FitsOldEntry es
  entries_fit es room h = (room, All-from_recursion FitsOldEntry es (chain_each (IsOldEntryBehind names) FitsOldEntry path_step None es (λ before e r. (r.0.0, r.1, r.2.0, rows_fit e.rows r.3)) h))

  paths_behind : (before : Option (List ℕ)) (es : List OldEntry) → Chain (IsOldEntryInOrder names) path_step before es → AreBehind before (map (λ (e : OldEntry). e.path) es)
  paths_behind before [] h = tt
  paths_behind before (e ∷ es) h =
      let two = both_true (is_utf8 e.path) (is_behind byte_order before e.path) h.0.0 in
      (two.1, paths_behind (Some e.path) es h.1)

-- ---- caches

abbrev named : OldCache → List Name
named c = map (λ (a : Name × Answer). a.0) c.answers

named_from : (c : OldCache) → old_names_of c.entries ≡ named c → are_old_named c.answers c.entries ≡ true
named_from c e = subst (λ (l : List Name). is_same_list (named c) l ≡ true) (sym e) (itself (named c))

pub old_whole_from : (c : OldCache) → IsOldInOrder c → FitsOldFields c → IsOldWhole c
old_whole_from c o f =
    let names_room : length (named c) < 2 ^ 32 = omega (arith, length-map c.answers (λ (a : Name × Answer). a.0), f.answers.0) in
    record {
      rules = o.rules;
      answers = answers_from c.answers o.answers f.answers;
      room = f.entries.0;
      entries = entries_from (named c) names_room c.entries o.entries f.entries;
      named = named_from c o.named;
    }

pub old_whole_order : (c : OldCache) → IsOldWhole c → IsOldInOrder c
old_whole_order c w =
    record {
      rules = w.rules;
      answers = answers_order c.answers w.answers;
      entries = entries_order (named c) c.entries w.entries;
      named = sym (same_lists (named c) (old_names_of c.entries) w.named);
    }

pub old_whole_fits : (c : OldCache) → IsOldWhole c → FitsOldFields c
old_whole_fits c w = record { answers = answers_fit c.answers w.answers; entries = entries_fit (named c) c.entries w.room w.entries }

pub any_from : (y : Stored) → IsWritable y → IsAnyWhole y
any_from (formats.One c) h = old_whole_from c h.0 h.1
any_from (formats.Two c) h = whole_from c h.0 h.1

pub any_to : (y : Stored) → IsAnyWhole y → IsWritable y
any_to (formats.One c) w = (old_whole_order c w, old_whole_fits c w)
any_to (formats.Two c) w = (whole_order c w, whole_fits c w)

-- ---- strict order

pub old_answers_sorted : (c : OldCache) → IsOldInOrder c → IsStrictlySortedBy byte_order (map (λ (a : Name × Answer). a.0) c.answers)
old_answers_sorted c o = behind_sorted None (named c) (answers_behind None c.answers o.answers)

pub old_paths_sorted : (c : OldCache) → IsOldInOrder c → IsStrictlySortedBy byte_order (map (λ (e : OldEntry). e.path) c.entries)
old_paths_sorted c o = behind_sorted None (map (λ (e : OldEntry). e.path) c.entries) (paths_behind (named c) None c.entries o.entries)
