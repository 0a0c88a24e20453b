-- Right results serve, are made, and stay right.
use Rattle.std.proofs.Common.{◌≡◌, List, [], ◌∷◌, Some, refl, sym, subst, ◌∙◌}
use Rattle.std.specs.Prelude.{IsTrue}
use Rattle.std.specs.List.{AllByRecursion}
use Rattle.std.specs.FinSet as set
use Rattle.pj_names.specs.declared.answer.Answer.{Answer}
use Rattle.pj_names.specs.ClassName.{Name, NameSet, name_set}
use Rattle.pj_names.specs.Asking.{Asking}
use Rattle.pj_names.specs.Meaning.{Source, Gives, Means, found_in, whole}
use Rattle.pj_names.proofs.MeaningLaws.{agreement}
use Rattle.pj_reports.specs.declared.ruled.Ruled.{Ruled}
use Rattle.pj_cache.specs.declared.cache.KeyRows.{KeyRows}
use Rattle.pj_cache.specs.declared.cache.CachedResult.{CachedResult}
use Rattle.pj_reuse.specs.Serving.{stands}
use Rattle.pj_fitting.specs.Right.{Key, RulesAt, ComesTo, ComeTo, IsRight, answers_of}
use Rattle.pj_fitting.specs.Left.{IsNew}
use Rattle.pj_fitting.proofs.Sets.{of_each, in_first, in_rest, alone_is}
use Rattle.pj_fitting.proofs.Among.{inside, standing}

module _ {R : Type 0} (rules : RulesAt R) where
  -- each rule of a key comes to what some rule of it does
  pub every_rule : (source : Source) (k : KeyRows) (names : NameSet) (rule : R) → ComesTo rules source k names → rules.key rule ≡ k.key → Means source (rules.meaning rule) (Gives k.rows names)
  every_rule source k names rule comes e =
      subst (λ (m : Asking Ruled). Means source m (Gives k.rows names)) (rules.one_meaning comes.rule rule (comes.key_is ∙ sym e)) comes.means

  -- over a source that answers the names alike it comes to the same
  pub come_alike : (source other : Source) (ks : List KeyRows) (names : NameSet) → ((q : Name) → IsTrue (set.contains names q) → other q ≡ source q) → ComeTo rules source ks names → ComeTo rules other ks names
  come_alike source other [] names alike come = come
  come_alike source other (k ∷ ks) names alike come =
      record {
        own = come.own;
        others = come.others;
        first = record {
          rule = come.first.rule;
          key_is = come.first.key_is;
          means = agreement source other (rules.meaning come.first.rule) k.rows come.own come.first.means (λ q here. alike q (in_first come.own come.others names come.all q here));
        };
        rest = come_alike source other ks come.others (λ q here. alike q (in_rest come.own come.others names come.all q here)) come.rest;
        all = come.all;
      }

  -- a right result that stands in a world is what its rules come to there
  pub comes_now : (answers : List (Name × Answer)) (world : Name → Answer) (r : CachedResult) → IsRight rules answers r → IsTrue (stands answers world r) → ComeTo rules (whole world) r.group (name_set r.names)
  comes_now answers world r right stand =
      come_alike (answers_of answers r) (whole world) r.group (name_set r.names)
      (λ q here. sym (inside answers r q here ∙ of_each (λ (n : Name). found_in answers n ≡ Some (world n)) r.names q (standing answers world r stand) here))
      right

  -- and so is a new result
  pub new_comes : (world : Name → Answer) (key : Key) (r : CachedResult) → IsNew rules world key r → ComeTo rules (whole world) r.group (name_set r.names)
  new_comes world key r new =
      let one : KeyRows = record { key = key; rows = new.rows } in
      let alone : ComeTo rules (whole world) (one ∷ []) (name_set r.names) = record {
        own = name_set r.names;
        others = set.empty;
        first = record { rule = new.rule; key_is = new.key_is; means = new.comes };
        rest = refl;
        all = alone_is (name_set r.names);
      } in
      subst (λ (ks : List KeyRows). ComeTo rules (whole world) ks (name_set r.names)) (sym new.group_is) alone

  -- what comes of the rules of a result in a world is right in each cache that has the world's answers for its names
  pub right_from : (later : List (Name × Answer)) (world : Name → Answer) (r : CachedResult) → ComeTo rules (whole world) r.group (name_set r.names) → AllByRecursion (λ (n : Name). found_in later n ≡ Some (world n)) r.names → IsRight rules later r
  right_from later world r come all =
      come_alike (whole world) (answers_of later r) r.group (name_set r.names)
      (λ q here. inside later r q here ∙ of_each (λ (n : Name). found_in later n ≡ Some (world n)) r.names q all here)
      come
