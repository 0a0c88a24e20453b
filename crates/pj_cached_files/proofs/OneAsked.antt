-- Rules of the same keys ask for the same names, together.
use Rattle.std.proofs.Common.{◌≡◌, ◌∙◌, ℕ, Bool, true, false, not, cond, ◌&&◌, ◌||◌, List, [], ◌∷◌, ap, filter, map, refl, subst, sym}
use Rattle.std.specs.Prelude.{IsTrue}
use Rattle.std.specs.BTreeMap.{is_at}
use Rattle.std.specs.Cmp.Lexicographic.{nat_list_cmp_total, slice_cmp}
use Rattle.std.specs.FinSet as set
use Rattle.std.specs.FinSet.{contains-empty, contains-from_list, contains-union}
use Rattle.std.specs.Ordering.{nat_cmp}
use Rattle.pj_cache.specs.Places.{byte_order}
use Rattle.pj_fitting.proofs.Merged.{means_value}
use Rattle.pj_fitting.proofs.Named.{itself}
use Rattle.pj_fitting.proofs.Sets.{alone_is, in_first, in_rest, or_true, same_name}
use Rattle.pj_fitting.specs.Looked.{AskFor, AsksFor}
use Rattle.pj_fitting.specs.Right.{Key, RulesAt, nothing}
use Rattle.pj_names.proofs.MeaningLaws.{means-one}
use Rattle.pj_names.proofs.NameLists.{same_names}
use Rattle.pj_names.specs.Asking.{Asking}
use Rattle.pj_names.specs.ClassName.{Name, NameSet, name_set}
use Rattle.pj_names.specs.Meaning.{Gives, Means, whole}
use Rattle.pj_names.specs.declared.answer.Answer.{Answer}
use Rattle.pj_reports.specs.declared.ruled.Ruled.{Ruled}
use Rattle.pj_reports.specs.declared.ruled.Ruled.TheVariants as ruled
use Rattle.pj_reuse.specs.Serving.{has_key}

-- ---- sets

abbrev IsWithin : NameSet → NameSet → Type 0
IsWithin names others = (q : Name) → IsTrue (set.contains names q) → IsTrue (set.contains others q)

by_both : (a b : Bool) → (IsTrue a → IsTrue b) → (IsTrue b → IsTrue a) → a ≡ b
by_both true true first second = refl
by_both true false first second = sym (first refl)
by_both false true first second = second refl
by_both false false first second = refl

both_within : (s t : NameSet) → IsWithin s t → IsWithin t s → s ≡ t
both_within s t first second = same_names s t (λ q. by_both (set.contains s q) (set.contains t q) (first q) (second q))

pub none_named : name_set [] ≡ set.empty
none_named = same_names (name_set []) set.empty (λ q. contains-from_list nat_list_cmp_total [] q ∙ sym (contains-empty (slice_cmp nat_cmp) q))

in_either_by : (a b c : Bool) → (IsTrue a → IsTrue c) → (IsTrue b → IsTrue c) → IsTrue (a || b) → IsTrue c
in_either_by true b c first second h = first refl
in_either_by false b c first second h = second h

union_within : (s t u : NameSet) → IsWithin s u → IsWithin t u → IsWithin (set.union s t) u
union_within s t u first second q here =
    in_either_by (set.contains s q) (set.contains t q) (set.contains u q) (first q) (second q) (sym (contains-union nat_list_cmp_total s t q) ∙ here)

empty_within : (u : NameSet) → IsWithin set.empty u
empty_within u q here = let never : false ≡ true = sym (contains-empty (slice_cmp nat_cmp) q) ∙ here in absurd cc

same_asked_names : (v w : Ruled) (s t : NameSet) → Gives v s ≡ Gives w t → s ≡ t
same_asked_names v w s t e = cc

-- ---- rules

module _ {R : Type 0} (rules : RulesAt R) (world : Name → Answer) where
  -- a rule of a key asks for names within a set
  record AsksIn (key : Key) (all : NameSet) : Type 0 where
    rule : R
    key_is : rules.key rule ≡ key
    names : NameSet
    asks : AsksFor rules world rule names
    within : IsWithin names all

  wider : (key : Key) (s t : NameSet) → IsWithin s t → AsksIn key s → AsksIn key t
  wider key s t into one = record { rule = one.rule; key_is = one.key_is; names = one.names; asks = one.asks; within = λ q here. into q (one.within q here) }

  -- so does another rule of the key
  of_key : (first second : R) (names : NameSet) → rules.key first ≡ rules.key second → AsksFor rules world first names → AsksFor rules world second names
  of_key first second names same asks = record {
    rows = asks.rows;
    means = subst (λ (m : Asking Ruled). Means (whole world) m (Gives asks.rows names)) (rules.one_meaning first second same) asks.means;
  }

  one_set : (rule : R) (s t : NameSet) → AsksFor rules world rule s → AsksFor rules world rule t → s ≡ t
  one_set rule s t first second =
      same_asked_names first.rows second.rows s t (means-one (whole world) (rules.meaning rule) (Gives first.rows s) (Gives second.rows t) first.means second.means)

  asked_by : (rule : R) (list : List R) (all : NameSet) (ask : AskFor rules world (rule ∷ list) all) (key : Key) (b : Bool) → is_at (byte_order key) (rules.key rule) ≡ b → (b || has_key (map rules.key list) key) ≡ true
      → (has_key (map rules.key list) key ≡ true → AsksIn key ask.others) → AsksIn key all
  asked_by rule list all ask key true at has rest = record {
    rule = rule;
    key_is = sym (same_name key (rules.key rule) at);
    names = ask.own;
    asks = ask.first;
    within = in_first ask.own ask.others all ask.all;
  }
  asked_by rule list all ask key false at has rest = wider key ask.others all (in_rest ask.own ask.others all ask.all) (rest has)

  -- a rule of each key of those that ask together
  asked_in : (list : List R) (all : NameSet) → AskFor rules world list all → (key : Key) → has_key (map rules.key list) key ≡ true → AsksIn key all
  asked_in [] all ask key has = absurd cc
  asked_in (rule ∷ list) all ask key has = asked_by rule list all ask key (is_at (byte_order key) (rules.key rule)) refl has (asked_in list ask.others ask.rest key)

  -- rules ask together for names within a set
  record AskWithin (list : List R) (all : NameSet) : Type 0 where
    names : NameSet
    ask : AskFor rules world list names
    within : IsWithin names all

  ask_within : (list : List R) (all : NameSet) → ((key : Key) → has_key (map rules.key list) key ≡ true → AsksIn key all) → AskWithin list all
  ask_within [] all each = record { names = set.empty; ask = refl; within = empty_within all }
  ask_within (rule ∷ list) all each =
      let one = each (rules.key rule) (ap (λ (b : Bool). b || has_key (map rules.key list) (rules.key rule)) (itself (rules.key rule))) in
      let rest = ask_within list all (λ key has. each key (ap (λ (b : Bool). is_at (byte_order key) (rules.key rule) || b) has ∙ or_true (is_at (byte_order key) (rules.key rule)))) in
      record {
        names = set.union one.names rest.names;
        ask = record { own = one.names; others = rest.names; first = of_key one.rule rule one.names one.key_is one.asks; rest = rest.ask; all = refl };
        within = union_within one.names rest.names all one.within rest.within;
      }

  -- the names of rules whose keys others have are within theirs
  covered : (list : List R) (all other : NameSet) → AskFor rules world list all → ((key : Key) → has_key (map rules.key list) key ≡ true → AsksIn key other) → IsWithin all other
  covered [] all other ask each q here = empty_within other q (ap (λ (s : NameSet). set.contains s q) (sym ask) ∙ here)
  covered (rule ∷ list) all other ask each q here =
      let one = each (rules.key rule) (ap (λ (b : Bool). b || has_key (map rules.key list) (rules.key rule)) (itself (rules.key rule))) in
      let same = one_set rule one.names ask.own (of_key one.rule rule one.names one.key_is one.asks) ask.first in
      let first : IsWithin ask.own other = λ q here. one.within q (ap (λ (s : NameSet). set.contains s q) same ∙ here) in
      let rest : IsWithin ask.others other =
      covered list ask.others other ask.rest (λ key has. each key (ap (λ (b : Bool). is_at (byte_order key) (rules.key rule) || b) has ∙ or_true (is_at (byte_order key) (rules.key rule)))) in
      union_within ask.own ask.others other first rest q (ap (λ (s : NameSet). set.contains s q) (sym ask.all) ∙ here)

  -- rules of the same keys ask for the same names
  pub same_asked : (list other : List R) (names : NameSet) → AskFor rules world list names → ((key : Key) → has_key (map rules.key other) key ≡ has_key (map rules.key list) key) → AskFor rules world other names
  same_asked list other names ask same =
      let made = ask_within other names (λ key has. asked_in list names ask key (sym (same key) ∙ has)) in
      let back : IsWithin names made.names = covered list names made.names ask (λ key has. asked_in other made.names made.ask key (same key ∙ has)) in
      subst (λ (s : NameSet). AskFor rules world other s) (both_within made.names names made.within back) made.ask

  -- rules that mean nothing ask for no name
  pub none_asked : (list : List R) → ((rule : R) → rules.meaning rule ≡ nothing) → AskFor rules world list set.empty
  none_asked [] idle = refl
  none_asked (rule ∷ list) idle = record {
    own = set.empty;
    others = set.empty;
    first = record {
      rows = ruled.Spots [];
      means = subst (λ (m : Asking Ruled). Means (whole world) m (Gives (ruled.Spots []) set.empty)) (sym (idle rule))
          (subst (λ (s : NameSet). Means (whole world) nothing (Gives (ruled.Spots []) s)) none_named (means_value (whole world) (ruled.Spots [])));
    };
    rest = none_asked list idle;
    all = alone_is set.empty;
  }

-- ---- the rules of the keys that are left over

module _ {R : Type 0} (key : R → Key) (is_active : R → Bool) (test : Key → Bool) where
  next_both : (rule : R) (rest : List R) (keys : List Key) (a b : Bool) → test (key rule) ≡ b → map key rest ≡ filter test keys → map key (cond (a && b) (rule ∷ rest) rest) ≡ filter test (cond a (key rule ∷ keys) keys)
  next_both rule rest keys true true is same = (λ i. key rule ∷ same i) ∙ ap (λ (b : Bool). cond b (key rule ∷ filter test keys) (filter test keys)) (sym is)
  next_both rule rest keys true false is same = same ∙ ap (λ (b : Bool). cond b (key rule ∷ filter test keys) (filter test keys)) (sym is)
  next_both rule rest keys false b is same = same

  seen_keys : (rule : R) (rest : List R) (a : Bool) → map key (cond a (rule ∷ rest) rest) ≡ cond a (key rule ∷ map key rest) (map key rest)
  seen_keys rule rest true = refl
  seen_keys rule rest false = refl

  -- keys that pass of active rules are those of the active rules whose keys pass
  pub both_tests : (held : List R) → map key (filter (λ (rule : R). is_active rule && test (key rule)) held) ≡ filter test (map key (filter is_active held))
  both_tests [] = refl
  both_tests (rule ∷ held) =
      next_both rule (filter (λ (other : R). is_active other && test (key other)) held) (map key (filter is_active held)) (is_active rule) (test (key rule)) refl (both_tests held)
      ∙ ap (λ (l : List Key). filter test l) (sym (seen_keys rule (filter is_active held) (is_active rule)))
