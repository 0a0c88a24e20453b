-- The items of a well-formed grammar's rules are safe, and where rules end.
use Rattle.std.proofs.Common.{◌≡◌, ℕ, ◌+◌, ◌^◌, ◌<◌, ◌≤◌, List, length, Option, Some, None, sym, ◌∙◌, ap, subst, inl, inr, ⊎_elim, arith, IfSome}
use Rattle.std.specs.Prelude.{slice_get}
use Rattle.std.specs.Option.{option_map}
use Rattle.std.proofs.lemmas.Bool.{cases_lt}
use Rattle.std.proofs.lemmas.List.{length-map}
use Rattle.std.proofs.lemmas.Option.{slice_get_within, slice_get-map}
use Rattle.pj_peg_grammar.specs.declared.program.Program.{Program}
use Rattle.pj_peg_grammar.specs.Form.{Form, rule, star, seq, choice, maybe, ahead, not_ahead, token, any, nothing, never}
use Rattle.pj_peg_grammar.specs.Derives.{Derives, Fails, rule_to, rule_fails}
use Rattle.pj_peg_grammar.specs.Derivation.{tree, no_tree}
use Rattle.pj_peg_grammar.specs.WellFormed.{IsWellFormed, Names, Repeats, IsNullable}
use Rattle.pj_peg_grammar.specs.Program.{IsProgram, form_at, forms_in, rules_of}
use Rattle.pj_peg_grammar.specs.Firsts.{IsRuledOut}
use Rattle.pj_peg.specs.Ends.{Ends, IsSafe}
use Rattle.pj_peg.proofs.Going.{ends_within}

-- what a repeated form names and repeats, the whole does
pub repeats_names : (f q : Form) (s : ℕ) → Repeats f q → Names q s → Names f s
repeats_names (token k) q s h n = absurd h
repeats_names any q s h n = absurd h
repeats_names (rule r) q s h n = absurd h
repeats_names nothing q s h n = absurd h
repeats_names (seq a b) q s (inl h) n = inl (repeats_names a q s h n)
repeats_names (seq a b) q s (inr h) n = inr (repeats_names b q s h n)
repeats_names never q s h n = absurd h
repeats_names (choice a b) q s (inl h) n = inl (repeats_names a q s h n)
repeats_names (choice a b) q s (inr h) n = inr (repeats_names b q s h n)
repeats_names (star a) q s (inl h) n = subst (λ f. Names f s) h n
repeats_names (star a) q s (inr h) n = repeats_names a q s h n
repeats_names (maybe a) q s h n = repeats_names a q s h n
repeats_names (ahead a) q s h n = repeats_names a q s h n
repeats_names (not_ahead a) q s h n = repeats_names a q s h n

repeats_on : (f q r : Form) → Repeats f q → Repeats q r → Repeats f r
repeats_on (token k) q r h n = absurd h
repeats_on any q r h n = absurd h
repeats_on (rule k) q r h n = absurd h
repeats_on nothing q r h n = absurd h
repeats_on (seq a b) q r (inl h) n = inl (repeats_on a q r h n)
repeats_on (seq a b) q r (inr h) n = inr (repeats_on b q r h n)
repeats_on never q r h n = absurd h
repeats_on (choice a b) q r (inl h) n = inl (repeats_on a q r h n)
repeats_on (choice a b) q r (inr h) n = inr (repeats_on b q r h n)
repeats_on (star a) q r (inl h) n = inr (subst (λ f. Repeats f r) h n)
repeats_on (star a) q r (inr h) n = inr (repeats_on a q r h n)
repeats_on (maybe a) q r h n = repeats_on a q r h n
repeats_on (ahead a) q r h n = repeats_on a q r h n
repeats_on (not_ahead a) q r h n = repeats_on a q r h n

pub fits : (kinds : List ℕ) (f : Form) (i : ℕ) (o : Option ℕ) (p : Program) → i ≤ length kinds → length kinds ≤ 200000 →
    Ends (rules_of p) kinds f i o → IfSome o (λ e. e + 1 < 2 ^ 32)
fits kinds f i (Some e) p within small ends = let h = ends_within p kinds f i e within ends in let le = h.1 in omega arith
fits kinds f i None p within small ends = tt

-- the rule of a root
pub root_form : (p : Program) (r k : ℕ) → slice_get p.roots.items r ≡ Some k → slice_get (rules_of p) r ≡ Some (form_at (forms_in p.nodes.items) k)
root_form p r k is = slice_get-map (form_at (forms_in p.nodes.items)) p.roots.items r ∙ ap (option_map (form_at (forms_in p.nodes.items))) is

-- a rule names only rules that are there
known_rule : (rules : List Form) → IsWellFormed rules → (r : ℕ) (f : Form) → slice_get rules r ≡ Some f → (s : ℕ) → Names f s → s < length rules
known_rule rules well r f is s names = ⊎_elim
    (λ (lt : s < length rules). lt)
    (λ (le : length rules ≤ s). absurd ((well.none r (slice_get_within rules r f is)).no_unknown_rule (f, is, (s, (names, le)))))
    (cases_lt s (length rules))

-- a rule repeats nothing that can take nothing
fed_rule : (rules : List Form) → IsWellFormed rules → (r : ℕ) (f : Form) → slice_get rules r ≡ Some f → (q : Form) → Repeats f q → IsNullable rules q → ⊥
fed_rule rules well r f is q repeats empty = (well.none r (slice_get_within rules r f is)).no_empty_repeat (f, is, (q, (repeats, empty)))

module _ (p : Program) (kinds : List ℕ) where
  pub rule_ends : (r i : ℕ) (f : Form) (o : Option ℕ) → slice_get (rules_of p) r ≡ Some f → Ends (rules_of p) kinds f i o → Ends (rules_of p) kinds (rule r) i o
  rule_ends r i f (Some j) is (d, x) = (tree r i j d no_tree, rule_to f is x)
  rule_ends r i f None is x = rule_fails f is x

  pub roots_length : length p.roots.items ≡ length (rules_of p)
  roots_length = sym (length-map p.roots.items (form_at (forms_in p.nodes.items)))

  -- the items of a well-formed grammar's rules are safe
  pub rule_safe : (r : ℕ) (f : Form) → IsWellFormed (rules_of p) → slice_get (rules_of p) r ≡ Some f → IsSafe p f
  rule_safe r f well is = record {
    known = λ s names. let lt = known_rule (rules_of p) well r f is s names in let len = roots_length in omega arith;
    repeats = fed_rule (rules_of p) well r f is;
  }

  -- and so are the repetitions in them
  pub star_safe : (n a : ℕ) → IsProgram p → IsWellFormed (rules_of p) → slice_get p.stars.items n ≡ Some a → IsSafe p (star (form_at (forms_in p.nodes.items) a))
  star_safe n a is_p well at =
      let (r, k, root, repeats) = is_p.used n a at in
      let form = form_at (forms_in p.nodes.items) k in
      let safe = rule_safe r form well (root_form p r k root) in
      record {
        known = λ s names. safe.known s (repeats_names form (form_at (forms_in p.nodes.items) a) s repeats names);
        repeats = λ q h. ⊎_elim
            (λ (e : q ≡ form_at (forms_in p.nodes.items) a). λ (x : IsNullable (rules_of p) q). safe.repeats q (subst (Repeats form) (sym e) repeats) x)
            (λ (e : Repeats (form_at (forms_in p.nodes.items) a) q). safe.repeats q (repeats_on form (form_at (forms_in p.nodes.items) a) q repeats e))
            h;
      }

-- a safe form that is ruled out fails
pub fails_ruled_out : (p : Program) (kinds : List ℕ) (f : Form) (i : ℕ) → IsWellFormed (rules_of p) → IsSafe p f → IsRuledOut (rules_of p) kinds f i → Derives (rules_of p) kinds f i Fails
fails_ruled_out p kinds f i well safe out =
    let len = roots_length p kinds in
    out well (λ s names. let lt = safe.known s names in omega arith) safe.repeats
