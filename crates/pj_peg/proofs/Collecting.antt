-- The calls by which a form goes, part by part.
use Rattle.std.proofs.Common.{◌≡◌, ℕ, ◌<◌, ◌≤◌, ◌⊎◌, List, [], ◌∷◌, ◌++◌, length, Option, Some, None, refl, sym, ◌∙◌, subst, ap, inl, inr, append_assoc, get_or}
use Rattle.std.specs.Prelude.{take}
use Rattle.std.proofs.Math.Seq.{take-append_seam}
use Rattle.pj_peg_grammar.specs.declared.program.Node.{Node}
use Rattle.pj_peg_grammar.specs.declared.program.Node.TheVariants.{Token, Any, Nothing, Never, And, Not}
use Rattle.pj_peg_grammar.specs.declared.program.Program.{Program}
use Rattle.pj_peg.specs.declared.calls.Call.{Call}
use Rattle.pj_peg_grammar.specs.Form.{Form, token, any, rule, nothing, seq, never, choice, star, maybe, ahead, not_ahead}
use Rattle.pj_peg_grammar.specs.Derivation.{Forest, no_tree, tree, append}
use Rattle.pj_peg_grammar.specs.Derives.{Outcome, To, Fails, Derives, token_is, any_is, nothing_to, seq_to, seq_first, seq_second, choice_first, choice_other, star_more, star_end, maybe_some, maybe_none, ahead_is, not_ahead_is}
use Rattle.pj_peg_grammar.specs.Program.{IsProgram, rules_of, forms_in, form_at, node_form}
use Rattle.pj_peg.specs.Ends.{Ends, AreCalls, Makes, Collects, IsSafe}
use Rattle.pj_peg.proofs.Lists.{append_nil}
use Rattle.pj_peg.proofs.Going.{ends_within, at_index, seq_rest_safe, choice_rest_safe}

pub append_no_tree : (d : Forest) → append d no_tree ≡ d
append_no_tree no_tree = refl
append_no_tree (tree r i j below after) = ap (tree r i j below) (append_no_tree after)

pub append_append : (d e f : Forest) → append (append d e) f ≡ append d (append e f)
append_append no_tree e f = refl
append_append (tree r i j below after) e f = ap (tree r i j below) (append_append after e f)

module _ (rules : List Form) (kinds : List ℕ) where
  abbrev D : Form → ℕ → Outcome → Type 0
  D = Derives rules kinds

  abbrev E : Form → ℕ → Option ℕ → Type 0
  E = Ends rules kinds

  pub calls-append : (cs ks : List Call) (d e : Forest) → AreCalls rules kinds cs d → AreCalls rules kinds ks e → AreCalls rules kinds (cs ++ ks) (append d e)
  calls-append [] ks d e h k = subst (λ l. AreCalls rules kinds ks (append l e)) (sym h) k
  calls-append (c ∷ cs) ks d e (x, rest, within, made, more, is) k =
      (x, append rest e, within, made, calls-append cs ks rest e more k, ap (λ l. append l e) is ∙ append_append x rest e)

  seq_makes : (a b : Form) (i j k : ℕ) (cs ks : List Call) → Makes rules kinds a i j cs → Makes rules kinds b j k ks → Makes rules kinds (seq a b) i k (cs ++ ks)
  seq_makes a b i j k cs ks (d, x, h) (e, y, g) = (append d e, seq_to x y, calls-append cs ks d e h g)

  star_makes : (a : Form) (i j k : ℕ) (cs ks : List Call) → Makes rules kinds a i j cs → Makes rules kinds (star a) j k ks → Makes rules kinds (star a) i k (cs ++ ks)
  star_makes a i j k cs ks (d, x, h) (e, y, g) = (append d e, star_more x y, calls-append cs ks d e h g)

  -- what a form without calls makes
  pub IsPlain : Node → Type 0
  IsPlain n = (forms : List Form) (i k : ℕ) (d : Forest) → Derives rules kinds (node_form forms n) i (To k d) → d ≡ no_tree

  plain_token : (c i k : ℕ) (d : Forest) → D (token c) i (To k d) → d ≡ no_tree
  plain_token c i k d (token_is h) = refl

  plain_any : (i k : ℕ) (d : Forest) → D any i (To k d) → d ≡ no_tree
  plain_any i k d (any_is h) = refl

  plain_nothing : (i k : ℕ) (d : Forest) → D nothing i (To k d) → d ≡ no_tree
  plain_nothing i k d nothing_to = refl

  plain_never : (i k : ℕ) (d : Forest) → D never i (To k d) → d ≡ no_tree
  plain_never i k d h = elim h [ ]

  plain_ahead : (a : Form) (i k : ℕ) (d : Forest) → D (ahead a) i (To k d) → d ≡ no_tree
  plain_ahead a i k d (ahead_is x) = refl

  plain_not : (a : Form) (i k : ℕ) (d : Forest) → D (not_ahead a) i (To k d) → d ≡ no_tree
  plain_not a i k d (not_ahead_is x) = refl

  pub plain : (m : Node) → ((c : ℕ) × (m ≡ Token c)) ⊎ ((m ≡ Any) ⊎ ((m ≡ Nothing) ⊎ ((m ≡ Never) ⊎ (((a : ℕ) × (m ≡ And a)) ⊎ ((a : ℕ) × (m ≡ Not a)))))) →
      (n : Node) × (m ≡ n) × ((forms : List Form) (i k : ℕ) (d : Forest) → Derives rules kinds (node_form forms n) i (To k d) → d ≡ no_tree)
  plain m (inl (c, e)) = (Token c, e, λ forms i k d x. plain_token c i k d x)
  plain m (inr (inl e)) = (Any, e, λ forms i k d x. plain_any i k d x)
  plain m (inr (inr (inl e))) = (Nothing, e, λ forms i k d x. plain_nothing i k d x)
  plain m (inr (inr (inr (inl e)))) = (Never, e, λ forms i k d x. plain_never i k d x)
  plain m (inr (inr (inr (inr (inl (a, e)))))) = (And a, e, λ forms i k d x. plain_ahead _ i k d x)
  plain m (inr (inr (inr (inr (inr (a, e)))))) = (Not a, e, λ forms i k d x. plain_not _ i k d x)

module _ (p : Program) (kinds : List ℕ) where
  -- the calls by which g goes at j, behind those so far, are those by which f goes at i
  pub record IsCollecting (f : Form) (i : ℕ) (old : List Call) (g : Form) (j : ℕ) (now : List Call) : Type 0 where
    pub within : j ≤ length kinds
    pub safe : IsSafe p g
    pub so_far : List Call
    pub now_is : now ≡ old ++ so_far
    pub onto : (k : ℕ) (cs : List Call) → Makes (rules_of p) kinds g j k cs → Makes (rules_of p) kinds f i k (so_far ++ cs)
    pub fails : Derives (rules_of p) kinds g j Fails → Derives (rules_of p) kinds f i Fails

  -- what was collected, under another name of the end
  pub collected : (f : Form) (i : ℕ) (old new : List Call) (o q : Option ℕ) → o ≡ q → Collects (rules_of p) kinds f i old new o → Collects (rules_of p) kinds f i old new q
  collected f i old new o q same c = subst (Collects (rules_of p) kinds f i old new) same c

  pub collects_within : (f : Form) (i j : ℕ) (old new : List Call) → i ≤ length kinds → Collects (rules_of p) kinds f i old new (Some j) → (i ≤ j) × (j ≤ length kinds)
  collects_within f i j old new within (cs, is, makes) = ends_within p kinds f i j within (makes.0, makes.1)

  pub collects_ends : (f : Form) (i j : ℕ) (old new : List Call) → Collects (rules_of p) kinds f i old new (Some j) → Ends (rules_of p) kinds f i (Some j)
  collects_ends f i j old new (cs, is, makes) = (makes.0, makes.1)

  pub collecting_starts : (f : Form) (i : ℕ) (old : List Call) → i ≤ length kinds → IsSafe p f → IsCollecting f i old f i old
  collecting_starts f i old within safe = record {
    within = within;
    safe = safe;
    so_far = [];
    now_is = append_nil old;
    onto = λ k cs h. h;
    fails = λ h. h;
  }

  pub collecting_form : {f : Form} {i : ℕ} {old : List Call} {g h : Form} {j : ℕ} {now : List Call} → g ≡ h → IsCollecting f i old g j now → IsCollecting f i old h j now
  collecting_form {f} {i} {old} {g} {h} {j} {now} e x = subst (λ y. IsCollecting f i old y j now) e x

  regroup : (old now new xs cs : List Call) → now ≡ old ++ xs → new ≡ now ++ cs → new ≡ old ++ (xs ++ cs)
  regroup old now new xs cs h q = q ∙ ap (λ l. l ++ cs) h ∙ append_assoc old xs cs

  -- the calls of a part that failed were taken away
  cut_back : (now mid new cs : List Call) (count : ℕ) → mid ≡ now ++ cs → count ≡ length now → new ≡ take count mid → new ≡ now
  cut_back now mid new cs count is len cut = cut ∙ ap (λ n. take n mid) len ∙ ap (take (length now)) is ∙ take-append_seam now cs

  -- the last calls
  collecting_done : (f : Form) (i : ℕ) (old : List Call) (g : Form) (j : ℕ) (now new cs : List Call) (k : ℕ) → IsCollecting f i old g j now → new ≡ now ++ cs →
      Makes (rules_of p) kinds g j k cs → Collects (rules_of p) kinds f i old new (Some k)
  collecting_done f i old g j now new cs k c is makes = (c.so_far ++ cs, regroup old now new c.so_far cs c.now_is is, c.onto k cs makes)

  collecting_fails : (f : Form) (i : ℕ) (old : List Call) (g : Form) (j : ℕ) (now new cs : List Call) → IsCollecting f i old g j now → new ≡ now ++ cs →
      Derives (rules_of p) kinds g j Fails → Collects (rules_of p) kinds f i old new None
  collecting_fails f i old g j now new cs c is fails = (c.so_far ++ cs, regroup old now new c.so_far cs c.now_is is, c.fails fails)

  pub nothing_collected : (f : Form) (i : ℕ) (old : List Call) → Derives (rules_of p) kinds f i Fails → Collects (rules_of p) kinds f i old old None
  nothing_collected f i old fails = ([], append_nil old, fails)

  pub plain_done : (f : Form) (i : ℕ) (old : List Call) (g : Form) (j : ℕ) (now : List Call) (o : Option ℕ) → IsCollecting f i old g j now →
      ((k : ℕ) (d : Forest) → Derives (rules_of p) kinds g j (To k d) → d ≡ no_tree) → Ends (rules_of p) kinds g j o → Collects (rules_of p) kinds f i old now o
  plain_done f i old g j now (Some k) c empty (d, x) = collecting_done f i old g j now now [] k c (append_nil now) (d, x, empty k d x)
  plain_done f i old g j now None c empty x = collecting_fails f i old g j now now [] c (append_nil now) x

  pub rule_done : (f : Form) (i : ℕ) (old : List Call) (r j k : ℕ) (now new : List Call) → IsCollecting f i old (rule r) j now → Ends (rules_of p) kinds (rule r) j (Some k) →
      new ≡ now ++ (record { rule = r; from = j; to = k }) ∷ [] → Collects (rules_of p) kinds f i old new (Some k)
  rule_done f i old r j k now new c (d, x) is =
      collecting_done f i old (rule r) j now new _ k c is (d, x, (d, no_tree, c.within, x, refl, sym (append_no_tree d)))

  pub form_fails : (f : Form) (i : ℕ) (old : List Call) (g : Form) (j : ℕ) (now : List Call) → IsCollecting f i old g j now → Ends (rules_of p) kinds g j None → Collects (rules_of p) kinds f i old now None
  form_fails f i old g j now c x = collecting_fails f i old g j now now [] c (append_nil now) x

  pub seq_collects : (f : Form) (i : ℕ) (old : List Call) (a b : Form) (j k : ℕ) (now new : List Call) → IsCollecting f i old (seq a b) j now →
      Collects (rules_of p) kinds a j now new (Some k) → IsCollecting f i old b k new
  seq_collects f i old a b j k now new c (cs, is, makes) = record {
    within = (ends_within p kinds a j k c.within (makes.0, makes.1)).1;
    safe = seq_rest_safe p kinds a b c.safe;
    so_far = c.so_far ++ cs;
    now_is = regroup old now new c.so_far cs c.now_is is;
    onto = λ o ks y. subst (Makes (rules_of p) kinds f i o) (sym (append_assoc c.so_far cs ks))
        (c.onto o (cs ++ ks) (seq_makes (rules_of p) kinds a b j k o cs ks makes y));
    fails = λ y. c.fails (seq_second makes.1 y);
  }

  pub seq_fails : (f : Form) (i : ℕ) (old : List Call) (a b : Form) (j : ℕ) (now new : List Call) → IsCollecting f i old (seq a b) j now →
      Collects (rules_of p) kinds a j now new None → Collects (rules_of p) kinds f i old new None
  seq_fails f i old a b j now new c (cs, is, x) = collecting_fails f i old (seq a b) j now new cs c is (seq_first x)

  pub choice_collects : (f : Form) (i : ℕ) (old : List Call) (a b : Form) (j count : ℕ) (now mid new : List Call) → IsCollecting f i old (choice a b) j now →
      Collects (rules_of p) kinds a j now mid None → count ≡ length now → new ≡ take count mid → IsCollecting f i old b j new
  choice_collects f i old a b j count now mid new c (cs, is, x) len cut = record {
    within = c.within;
    safe = choice_rest_safe p kinds a b c.safe;
    so_far = c.so_far;
    now_is = cut_back now mid new cs count is len cut ∙ c.now_is;
    onto = λ o ks y. c.onto o ks (y.0, choice_other x y.1, y.2);
    fails = λ y. c.fails (choice_other x y);
  }

  pub choice_done : (f : Form) (i : ℕ) (old : List Call) (a b : Form) (j k : ℕ) (now new : List Call) → IsCollecting f i old (choice a b) j now →
      Collects (rules_of p) kinds a j now new (Some k) → Collects (rules_of p) kinds f i old new (Some k)
  choice_done f i old a b j k now new c (cs, is, (d, x, h)) = collecting_done f i old (choice a b) j now new cs k c is (d, choice_first x, h)

  pub star_collects : (f : Form) (i : ℕ) (old : List Call) (a : Form) (j k : ℕ) (now new : List Call) → IsCollecting f i old (star a) j now →
      Collects (rules_of p) kinds a j now new (Some k) → IsCollecting f i old (star a) k new
  star_collects f i old a j k now new c (cs, is, makes) = record {
    within = (ends_within p kinds a j k c.within (makes.0, makes.1)).1;
    safe = c.safe;
    so_far = c.so_far ++ cs;
    now_is = regroup old now new c.so_far cs c.now_is is;
    onto = λ o ks y. subst (Makes (rules_of p) kinds f i o) (sym (append_assoc c.so_far cs ks))
        (c.onto o (cs ++ ks) (star_makes (rules_of p) kinds a j k o cs ks makes y));
    fails = λ y. elim y [ ];
  }

  pub star_done : (f : Form) (i : ℕ) (old : List Call) (a : Form) (j count : ℕ) (now mid new : List Call) → IsCollecting f i old (star a) j now →
      Collects (rules_of p) kinds a j now mid None → count ≡ length now → new ≡ take count mid → Collects (rules_of p) kinds f i old new (Some j)
  star_done f i old a j count now mid new c (cs, is, x) len cut =
      collecting_done f i old (star a) j now new [] j c (cut_back now mid new cs count is len cut ∙ append_nil now) (no_tree, star_end x, refl)

  pub maybe_done : (f : Form) (i : ℕ) (old : List Call) (a : Form) (j count : ℕ) (now mid new : List Call) → IsCollecting f i old (maybe a) j now →
      Collects (rules_of p) kinds a j now mid None → count ≡ length now → new ≡ take count mid → Collects (rules_of p) kinds f i old new (Some j)
  maybe_done f i old a j count now mid new c (cs, is, x) len cut =
      collecting_done f i old (maybe a) j now new [] j c (cut_back now mid new cs count is len cut ∙ append_nil now) (no_tree, maybe_none x, refl)

  pub maybe_some_done : (f : Form) (i : ℕ) (old : List Call) (a : Form) (j k : ℕ) (now new : List Call) → IsCollecting f i old (maybe a) j now →
      Collects (rules_of p) kinds a j now new (Some k) → Collects (rules_of p) kinds f i old new (Some k)
  maybe_some_done f i old a j k now new c (cs, is, (d, x, h)) = collecting_done f i old (maybe a) j now new cs k c is (d, maybe_some x, h)

pub collecting_node : (p : Program) (kinds : List ℕ) (f : Form) (i : ℕ) (old : List Call) (k j : ℕ) (now : List Call) (r n : Node) → IsProgram p → k < length p.nodes.items → r ≡ get_or p.nodes.items k r → r ≡ n →
    IsCollecting p kinds f i old (form_at (forms_in p.nodes.items) k) j now → IsCollecting p kinds f i old (node_form (forms_in p.nodes.items) n) j now
collecting_node p kinds f i old k j now r n is_p lt is same c =
    collecting_form p kinds (is_p.stands k n (at_index p.nodes.items k r n lt is same)) c

-- where a node ends, by what it stands for
pub node_ends : (p : Program) (kinds : List ℕ) (k j : ℕ) (r n : Node) (o q : Option ℕ) → IsProgram p → k < length p.nodes.items → r ≡ get_or p.nodes.items k r → r ≡ n → o ≡ q →
    Ends (rules_of p) kinds (form_at (forms_in p.nodes.items) k) j o → Ends (rules_of p) kinds (node_form (forms_in p.nodes.items) n) j q
node_ends p kinds k j r n o q is_p lt is same to ends =
    subst (λ f. Ends (rules_of p) kinds f j q) (is_p.stands k n (at_index p.nodes.items k r n lt is same))
    (subst (Ends (rules_of p) kinds (form_at (forms_in p.nodes.items) k) j) to ends)
