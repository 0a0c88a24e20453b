-- Where a form ends, part by part.
use Rattle.std.proofs.Common.{◌≡◌, ℕ, ◌<◌, ◌≤◌, List, length, Option, Some, None, refl, ◌∙◌, subst, ap, inl, inr, ⊎_elim, arith, get_or}
use Rattle.std.specs.Prelude.{slice_get}
use Rattle.pj_peg_grammar.specs.declared.program.Program.{Program}
use Rattle.pj_peg_grammar.specs.Form.{Form, seq, choice, star, maybe, ahead, not_ahead}
use Rattle.pj_peg_grammar.specs.Derivation.{no_tree, append}
use Rattle.pj_peg_grammar.specs.Derives.{seq_to, seq_first, seq_second, choice_first, choice_other, star_more, star_end, maybe_some, maybe_none, ahead_is, ahead_not, not_ahead_is, not_ahead_not}
use Rattle.pj_peg_grammar.specs.Program.{rules_of, forms_in, form_at}
use Rattle.pj_peg.specs.Ends.{Ends, IsSafe}
use Rattle.pj_peg_grammar.specs.declared.program.Node.{Node}
use Rattle.pj_peg_grammar.specs.Program.{IsProgram, PartsBelow, node_form}
use Rattle.std.proofs.lemmas.Option.{slice_get_read}
use Rattle.pj_peg.proofs.Forward.{goes, nullable}

module _ (p : Program) (kinds : List ℕ) where
  abbrev E : Form → ℕ → Option ℕ → Type 0
  E = Ends (rules_of p) kinds

  -- what g gives at j, f gives at i; and g can go on at j
  pub record IsOn (f : Form) (i : ℕ) (g : Form) (j : ℕ) : Type 0 where
    pub within : j ≤ length kinds
    pub safe : IsSafe p g
    pub onto : (o : Option ℕ) → Ends (rules_of p) kinds g j o → Ends (rules_of p) kinds f i o

  pub on_form : {f : Form} {i : ℕ} {g h : Form} {j : ℕ} → g ≡ h → IsOn f i g j → IsOn f i h j
  on_form {f} {i} {g} {h} {j} e x = subst (λ y. IsOn f i y j) e x

  pub starts : (f : Form) (i : ℕ) → i ≤ length kinds → IsSafe p f → IsOn f i f i
  starts f i within safe = record { within = within; safe = safe; onto = λ o h. h }

  pub ends_within : (f : Form) (i j : ℕ) → i ≤ length kinds → E f i (Some j) → (i ≤ j) × (j ≤ length kinds)
  ends_within f i j le e = ⊎_elim (λ (q : i ≡ j). (omega arith, omega arith)) (λ (q : (i < j) × (j ≤ length kinds)). (omega arith, q.1)) (goes (rules_of p) kinds e.1)

  -- where a form ends, under another name of the end
  pub become : (f : Form) (i : ℕ) (o q : Option ℕ) → o ≡ q → E f i o → E f i q
  become f i o q same e = subst (E f i) same e

  pub seq_part_safe : (a b : Form) → IsSafe p (seq a b) → IsSafe p a
  seq_part_safe a b s = record { known = λ r h. s.known r (inl h); repeats = λ q h. s.repeats q (inl h) }

  pub seq_rest_safe : (a b : Form) → IsSafe p (seq a b) → IsSafe p b
  seq_rest_safe a b s = record { known = λ r h. s.known r (inr h); repeats = λ q h. s.repeats q (inr h) }

  pub choice_part_safe : (a b : Form) → IsSafe p (choice a b) → IsSafe p a
  choice_part_safe a b s = record { known = λ r h. s.known r (inl h); repeats = λ q h. s.repeats q (inl h) }

  pub choice_rest_safe : (a b : Form) → IsSafe p (choice a b) → IsSafe p b
  choice_rest_safe a b s = record { known = λ r h. s.known r (inr h); repeats = λ q h. s.repeats q (inr h) }

  pub star_part_safe : (a : Form) → IsSafe p (star a) → IsSafe p a
  star_part_safe a s = record { known = s.known; repeats = λ q h. s.repeats q (inr h) }

  pub maybe_part_safe : (a : Form) → IsSafe p (maybe a) → IsSafe p a
  maybe_part_safe a s = record { known = s.known; repeats = s.repeats }

  pub ahead_part_safe : (a : Form) → IsSafe p (ahead a) → IsSafe p a
  ahead_part_safe a s = record { known = s.known; repeats = s.repeats }

  pub not_part_safe : (a : Form) → IsSafe p (not_ahead a) → IsSafe p a
  not_part_safe a s = record { known = s.known; repeats = s.repeats }

  seq_ends : (a b : Form) (i j : ℕ) (o : Option ℕ) → E a i (Some j) → E b j o → E (seq a b) i o
  seq_ends a b i j (Some k) (d, x) (e, y) = (append d e, seq_to x y)
  seq_ends a b i j None (d, x) y = seq_second x y

  pub seq_on : (f : Form) (i : ℕ) (a b : Form) (j k : ℕ) → IsOn f i (seq a b) j → E a j (Some k) → IsOn f i b k
  seq_on f i a b j k on e = record {
    within = (ends_within a j k on.within e).1;
    safe = seq_rest_safe a b on.safe;
    onto = λ o x. on.onto o (seq_ends a b j k o e x);
  }

  pub seq_stops : (f : Form) (i : ℕ) (a b : Form) (j : ℕ) → IsOn f i (seq a b) j → E a j None → E f i None
  seq_stops f i a b j on e = on.onto None (seq_first e)

  choice_ends : (a b : Form) (i : ℕ) (o : Option ℕ) → E a i None → E b i o → E (choice a b) i o
  choice_ends a b i (Some k) x (e, y) = (e, choice_other x y)
  choice_ends a b i None x y = choice_other x y

  pub choice_on : (f : Form) (i : ℕ) (a b : Form) (j : ℕ) → IsOn f i (choice a b) j → E a j None → IsOn f i b j
  choice_on f i a b j on e = record {
    within = on.within;
    safe = choice_rest_safe a b on.safe;
    onto = λ o x. on.onto o (choice_ends a b j o e x);
  }

  pub choice_stops : (f : Form) (i : ℕ) (a b : Form) (j k : ℕ) → IsOn f i (choice a b) j → E a j (Some k) → E f i (Some k)
  choice_stops f i a b j k on (d, x) = on.onto (Some k) (d, choice_first x)

  -- a turn of a safe repetition takes something
  pub star_moves : (a : Form) (i j : ℕ) → IsSafe p (star a) → E a i (Some j) → (i < j) × (j ≤ length kinds)
  star_moves a i j safe (d, x) = ⊎_elim
      (λ (same : i ≡ j). absurd (safe.repeats a (inl refl) (nullable (rules_of p) kinds x same)))
      (λ (more : (i < j) × (j ≤ length kinds)). more)
      (goes (rules_of p) kinds x)

  star_ends : (a : Form) (i j : ℕ) (o : Option ℕ) → E a i (Some j) → E (star a) j o → E (star a) i o
  star_ends a i j (Some k) (d, x) (e, y) = (append d e, star_more x y)
  star_ends a i j None (d, x) y = elim y [ ]

  pub star_on : (f : Form) (i : ℕ) (a : Form) (j k : ℕ) → IsOn f i (star a) j → E a j (Some k) → IsOn f i (star a) k
  star_on f i a j k on e = record {
    within = (ends_within a j k on.within e).1;
    safe = on.safe;
    onto = λ o x. on.onto o (star_ends a j k o e x);
  }

  pub star_stops : (f : Form) (i : ℕ) (a : Form) (j : ℕ) → IsOn f i (star a) j → E a j None → E f i (Some j)
  star_stops f i a j on e = on.onto (Some j) (no_tree, star_end e)

  pub maybe_ends : (f : Form) (i : ℕ) (a : Form) (j : ℕ) → IsOn f i (maybe a) j → E a j None → E f i (Some j)
  maybe_ends f i a j on e = on.onto (Some j) (no_tree, maybe_none e)

  pub maybe_takes : (f : Form) (i : ℕ) (a : Form) (j k : ℕ) → IsOn f i (maybe a) j → E a j (Some k) → E f i (Some k)
  maybe_takes f i a j k on (d, x) = on.onto (Some k) (d, maybe_some x)

  pub ahead_fails : (f : Form) (i : ℕ) (a : Form) (j : ℕ) → IsOn f i (ahead a) j → E a j None → E f i None
  ahead_fails f i a j on e = on.onto None (ahead_not e)

  pub ahead_holds : (f : Form) (i : ℕ) (a : Form) (j k : ℕ) → IsOn f i (ahead a) j → E a j (Some k) → E f i (Some j)
  ahead_holds f i a j k on (d, x) = on.onto (Some j) (no_tree, ahead_is x)

  pub not_holds : (f : Form) (i : ℕ) (a : Form) (j : ℕ) → IsOn f i (not_ahead a) j → E a j None → E f i (Some j)
  not_holds f i a j on e = on.onto (Some j) (no_tree, not_ahead_is e)

  pub not_fails : (f : Form) (i : ℕ) (a : Form) (j k : ℕ) → IsOn f i (not_ahead a) j → E a j (Some k) → E f i None
  not_fails f i a j k on (d, x) = on.onto None (not_ahead_not x)

pub at_index : (nodes : List Node) (k : ℕ) (r n : Node) → k < length nodes → r ≡ get_or nodes k r → r ≡ n → slice_get nodes k ≡ Some n
at_index nodes k r n lt is same = slice_get_read nodes (length nodes) k r refl lt is ∙ ap Some same

pub node_parts : (p : Program) (k : ℕ) (r n : Node) → IsProgram p → k < length p.nodes.items → r ≡ get_or p.nodes.items k r → r ≡ n → PartsBelow p.stars.items k n
node_parts p k r n is_p lt is same = is_p.nodes_are.parts k n (at_index p.nodes.items k r n lt is same)

pub on_node : (p : Program) (kinds : List ℕ) (f : Form) (i k j : ℕ) (r n : Node) → IsProgram p → k < length p.nodes.items → r ≡ get_or p.nodes.items k r → r ≡ n →
    IsOn p kinds f i (form_at (forms_in p.nodes.items) k) j → IsOn p kinds f i (node_form (forms_in p.nodes.items) n) j
on_node p kinds f i k j r n is_p lt is same on =
    on_form p kinds (is_p.stands k n (at_index p.nodes.items k r n lt is same)) on
