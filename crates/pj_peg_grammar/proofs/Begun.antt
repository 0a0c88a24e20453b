-- The rules that nodes can call where they begin.
use Rattle.std.proofs.Common.{◌≡◌, ℕ, ◌+◌, ◌<◌, ◌⊎◌, Bool, true, false, List, [], ◌∷◌, ◌++◌, length, map, Some, refl, sym, ◌∙◌, ap, inl, inr, append_assoc, get_or, take, Vec, Global}
use Rattle.std.specs.Prelude.{slice_get, if◌then◌else◌}
use Rattle.pj_peg_grammar.specs.declared.program.Node.{Node}
use Rattle.pj_peg_grammar.specs.declared.program.Node.TheVariants.{Token, Any, Nothing, Never}
use Rattle.pj_peg_grammar.specs.declared.analysis.Facts.{Facts}
use Rattle.std.proofs.lemmas.Option.{slice_get-get_or, get_or_from_slice_get}
use Rattle.std.proofs.lemmas.List.{map_more}
use Rattle.pj_peg_grammar.specs.Form.{Form, seq}
use Rattle.pj_peg_grammar.specs.Program.{form_at, forms_in, node_form, AreNodes}
use Rattle.pj_peg_grammar.specs.Analysis.{nullable_by, facts_by, begun_by}
use Rattle.pj_peg_grammar.proofs.Lists.{append_nil}
use Rattle.pj_peg_grammar.proofs.Nodes.{node_at}
use Rattle.pj_peg_grammar.proofs.FactsLemmas.{fact_at}

-- what a node adds is still to come, behind what was found
abbrev pub Adds : List Node → List Facts → List ℕ → ℕ → List ℕ → ℕ → Type 0
Adds nodes facts old root found node =
    (e : ℕ → Bool) (n : ℕ) → facts ≡ map (facts_by e n) (forms_in nodes) →
    old ++ begun_by e (form_at (forms_in nodes) root) ≡ found ++ begun_by e (form_at (forms_in nodes) node)

-- what a node was found to begin with
abbrev pub Begun : List Node → List Facts → ℕ → List ℕ → List ℕ → Type 0
Begun nodes facts node old new =
    (e : ℕ → Bool) (n : ℕ) → facts ≡ map (facts_by e n) (forms_in nodes) → new ≡ old ++ begun_by e (form_at (forms_in nodes) node)

module _ (nodes : List Node) (stars : List ℕ) (facts : List Facts) (are : AreNodes nodes stars) (old : List ℕ) (root : ℕ) where
  -- the node begins with nothing further
  pub ends_with : (found : List ℕ) (node : ℕ) (n : Node) (bs : List ℕ) (new : List ℕ) → Adds nodes facts old root found node → slice_get nodes node ≡ Some n →
      ((e : ℕ → Bool) → begun_by e (node_form (forms_in nodes) n) ≡ bs) → new ≡ found ++ bs → Begun nodes facts root old new
  ends_with found node n bs new adds is begins new_is e m facts_are =
      new_is ∙ ap (λ l. found ++ l) (sym (begins e)) ∙ ap (λ f. found ++ begun_by e f) (sym (node_at nodes stars node n are is)) ∙ sym (adds e m facts_are)

  -- the node is its part
  pub goes_to : (found : List ℕ) (node : ℕ) (n : Node) (part : ℕ) → Adds nodes facts old root found node → slice_get nodes node ≡ Some n →
      ((e : ℕ → Bool) → begun_by e (node_form (forms_in nodes) n) ≡ begun_by e (form_at (forms_in nodes) part)) → Adds nodes facts old root found part
  goes_to found node n part adds is begins e m facts_are =
      adds e m facts_are ∙ ap (λ f. found ++ begun_by e f) (node_at nodes stars node n are is) ∙ ap (λ l. found ++ l) (begins e)

  -- the first part was found, and the others can begin here too
  pub goes_on : (found found' : List ℕ) (node : ℕ) (n : Node) (first others : ℕ) → Adds nodes facts old root found node → slice_get nodes node ≡ Some n →
      Begun nodes facts first found found' →
      ((e : ℕ → Bool) (m : ℕ) → facts ≡ map (facts_by e m) (forms_in nodes) →
      begun_by e (node_form (forms_in nodes) n) ≡ begun_by e (form_at (forms_in nodes) first) ++ begun_by e (form_at (forms_in nodes) others)) →
      Adds nodes facts old root found' others
  goes_on found found' node n first others adds is begun begins e m facts_are =
      adds e m facts_are
      ∙ ap (λ f. found ++ begun_by e f) (node_at nodes stars node n are is)
      ∙ ap (λ l. found ++ l) (begins e m facts_are)
      ∙ sym (append_assoc found (begun_by e (form_at (forms_in nodes) first)) (begun_by e (form_at (forms_in nodes) others)))
      ∙ ap (λ l. l ++ begun_by e (form_at (forms_in nodes) others)) (sym (begun e m facts_are))

  -- the first part was found, and takes something
  pub stops_at : (found found' : List ℕ) (node : ℕ) (n : Node) (first : ℕ) → Adds nodes facts old root found node → slice_get nodes node ≡ Some n →
      Begun nodes facts first found found' →
      ((e : ℕ → Bool) (m : ℕ) → facts ≡ map (facts_by e m) (forms_in nodes) →
      begun_by e (node_form (forms_in nodes) n) ≡ begun_by e (form_at (forms_in nodes) first)) →
      Begun nodes facts root old found'
  stops_at found found' node n first adds is begun begins e m facts_are =
      begun e m facts_are ∙ ap (λ l. found ++ l) (sym (begins e m facts_are))
      ∙ ap (λ f. found ++ begun_by e f) (sym (node_at nodes stars node n are is)) ∙ sym (adds e m facts_are)

pub leaf : (forms : List Form) (m : Node) → ((c : ℕ) × (m ≡ Token c)) ⊎ ((m ≡ Any) ⊎ ((m ≡ Nothing) ⊎ (m ≡ Never))) →
    (n : Node) × (m ≡ n) × ((e : ℕ → Bool) → begun_by e (node_form forms n) ≡ [])
leaf forms m (inl (c, e)) = (Token c, e, λ _. refl)
leaf forms m (inr (inl e)) = (Any, e, λ _. refl)
leaf forms m (inr (inr (inl e))) = (Nothing, e, λ _. refl)
leaf forms m (inr (inr (inr e))) = (Never, e, λ _. refl)

-- the node that was read
pub at_node : (nodes : List Node) (k : ℕ) (d n : Node) → k < length nodes → get_or nodes k d ≡ n → slice_get nodes k ≡ Some n
at_node nodes k d n lt is = slice_get-get_or nodes k d lt ∙ ap Some is

-- the fact that was read
pub fact_bit : (nodes : List Node) (facts : List Facts) (k : ℕ) (d : Facts) (b : Bool) (e : ℕ → Bool) (n : ℕ) → k < length nodes → (get_or facts k d).nullable ≡ b →
    facts ≡ map (facts_by e n) (forms_in nodes) → nullable_by e (form_at (forms_in nodes) k) ≡ b
fact_bit nodes facts k d b e n lt is facts_are =
    sym (ap (λ (f : Facts). f.nullable) (get_or_from_slice_get facts k _ d (fact_at (facts_by e n) nodes facts k facts_are lt))) ∙ is

pub stops_in_seq : (e : ℕ → Bool) (a b : Form) → nullable_by e a ≡ false → begun_by e (seq a b) ≡ begun_by e a
stops_in_seq e a b h = ap (λ x. begun_by e a ++ (if x then begun_by e b else [])) h ∙ sym (append_nil (begun_by e a))

pub goes_in_seq : (e : ℕ → Bool) (a b : Form) → nullable_by e a ≡ true → begun_by e (seq a b) ≡ begun_by e a ++ begun_by e b
goes_in_seq e a b h = ap (λ x. begun_by e a ++ (if x then begun_by e b else [])) h

-- for each root
pub begun_more : (f : Form → List ℕ) (rules : ℕ → Form) (roots : List ℕ) (i : ℕ) (d : ℕ) (graph graph' : List (Vec ℕ Global)) (v : Vec ℕ Global) → i < length roots →
    map (λ (w : Vec ℕ Global). w.items) graph ≡ map f (map rules (take i roots)) → graph' ≡ graph ++ v ∷ [] → v.items ≡ f (rules (get_or roots i d)) →
    map (λ (w : Vec ℕ Global). w.items) graph' ≡ map f (map rules (take (i + 1) roots))
begun_more f rules roots i d graph graph' v lt so_far more is =
    ap (map (λ (w : Vec ℕ Global). w.items)) more
    ∙ push graph
    ∙ ap (λ l. l ++ v.items ∷ []) so_far
    ∙ ap (λ x. map f (map rules (take i roots)) ++ x ∷ []) is
    ∙ sym (ap (map f) (map_more rules roots i d lt) ∙ push_map (map rules (take i roots)) (rules (get_or roots i d)))
  where
    push : (g : List (Vec ℕ Global)) → map (λ (w : Vec ℕ Global). w.items) (g ++ v ∷ []) ≡ map (λ (w : Vec ℕ Global). w.items) g ++ v.items ∷ []
    push [] = refl
    push (w ∷ g) = ap (λ l. w.items ∷ l) (push g)

    push_map : (xs : List Form) (x : Form) → map f (xs ++ x ∷ []) ≡ map f xs ++ f x ∷ []
    push_map [] x = refl
    push_map (y ∷ xs) x = ap (λ l. f y ∷ l) (push_map xs x)
