-- Marks of nodes, and of the list of them.
use Rattle.std.proofs.Common.{◌≡◌, ℕ, suc, ◌+◌, ◌-◌, Bool, true, false, List, [], ◌∷◌, ◌++◌, length, reverse, drop, Some, slice_get, refl, sym, ◌∙◌, ap, arith, append_assoc, ◌⊎◌, inl, inr, ◌≢◌, eqb}
use Rattle.std.specs.Prelude.{◌==◌, ◌&&◌, ◌||◌, not, nat_lt, if◌then◌else◌}
use Rattle.std.specs.List.{list_any}
use Rattle.std.proofs.lemmas.Bool.Decides.{eqb_tells}
use Rattle.std.proofs.lemmas.Bool.{lt-ltb}
use Rattle.std.proofs.lemmas.List.{reverse-append}
use Rattle.pj_tree.specs.declared.kind.Kind.{Kind}
use Rattle.pj_tree.specs.declared.node.Span.{Span}
use Rattle.pj_shape.specs.declared.made.Made.{Made}
use Rattle.pj_shape.specs.declared.marks.Name.{Name}
use Rattle.pj_shape.specs.declared.marks.Name.TheVariants.{Other, Plain, Class}
use Rattle.pj_shape.specs.Kinds.{is_variable_access, is_field_access, is_variable_id}
use Rattle.pj_shape.specs.Shaped.{Nodes, no_nodes, node}
use Rattle.pj_shape.specs.Flat.{flat}
use Rattle.pj_shape.specs.Marks.{marks, name_after, name_by, first_from, first_name, is_class_of, marks_in, variables_in}
use Rattle.pj_shape.specs.Typed.{Words, names, names_by, one_more, is_class_name, variables, is_declared, words_of}
use Rattle.pj_shape.specs.Words.{is_capital}
use Rattle.pj_shape.proofs.Flattening.{append_nil}
use Rattle.pj_shape.proofs.Ranges.{drop_front}

abbrev pub words_in : List ℕ → List Span → List Made → Words
words_in text spans nodes = record { capital = is_capital text spans; declared = is_declared text spans (variables_in nodes) }

-- what names are together
abbrev status : (ℕ → Bool) → List ℕ → Name
status capital [] = Other
status capital (last ∷ before) = if list_any capital before then Other else (if capital last then Class else Plain)

status_class : (capital : ℕ → Bool) (ns : List ℕ) → is_class_of (status capital ns) ≡ is_class_name capital ns
status_class capital [] = refl
status_class capital (last ∷ before) = go (list_any capital before) (capital last)
  where
    go : (a b : Bool) → is_class_of (if a then Other else (if b then Class else Plain)) ≡ (b && not a)
    go true true = refl
    go true false = refl
    go false true = refl
    go false false = refl

status_more : (capital : ℕ → Bool) (j : ℕ) (ns : List ℕ) → status capital (one_more j ns) ≡ name_after (capital j) (status capital ns)
status_more capital j [] = refl
status_more capital j (n ∷ before) = go (capital j) (capital n) (list_any capital before)
  where
    go : (c a b : Bool) → (if a || b then Other else (if c then Class else Plain)) ≡ name_after c (if b then Other else (if a then Class else Plain))
    go c true true = refl
    go c true false = refl
    go c false true = refl
    go true false false = refl
    go false false false = refl

status_one : (capital : ℕ → Bool) (j : ℕ) → status capital (j ∷ []) ≡ name_after (capital j) Plain
status_one capital j = go (capital j)
  where
    go : (c : Bool) → (if c then Class else Plain) ≡ name_after c Plain
    go true = refl
    go false = refl

status_by : (capital : ℕ → Bool) (kind : Kind) (j : ℕ) (ns : List ℕ) → status capital (names_by kind j ns) ≡ name_by kind (capital j) (status capital ns)
status_by capital kind j ns = go (is_variable_access kind) (is_field_access kind)
  where
    go : (a b : Bool) → status capital (if a then j ∷ [] else (if b then one_more j ns else [])) ≡ (if a then name_after (capital j) Plain else (if b then name_after (capital j) (status capital ns) else Other))
    go true b = status_one capital j
    go false true = status_more capital j ns
    go false false = refl

module _ (w : Words) where
  -- what the first child is, by what the list of nodes says
  abbrev list_name : ℕ → ℕ → List Made → Name
  list_name size i ms = if nat_lt 1 size && first_from ms == i then first_name w ms else Other

  abbrev FirstIs : Nodes → Type 0
  FirstIs no_nodes = Unit {0}
  FirstIs (node kind i j below after) = (rest : List Made) → first_name w (flat (node kind i j below after) ++ rest) ≡ status w.capital (names i (node kind i j below no_nodes))

  -- a node that begins elsewhere is made of no names
  elsewhere : (b : Bool) (ns : List ℕ) → b ≡ false → status w.capital (if b then ns else []) ≡ Other
  elsewhere true ns e = absurd cc
  elsewhere false ns e = refl

  -- a node begins where it begins
  itself : (i : ℕ) (ns : List ℕ) → (if i == i then ns else []) ≡ ns
  itself i ns = go (eqb_tells i i)
    where
      go : ((eqb i i ≡ true) × (i ≡ i)) ⊎ ((eqb i i ≡ false) × (i ≢ i)) → (if i == i then ns else []) ≡ ns
      go (inl e) = ap (λ b. if b then ns else []) e.0
      go (inr e) = absurd (e.1 refl)

  below_is : (i : ℕ) (ns : Nodes) → FirstIs ns → (rest : List Made) → list_name (1 + length (flat ns)) i (flat ns ++ rest) ≡ status w.capital (names i ns)
  below_is i no_nodes h rest = refl
  below_is i (node k' i' j' b a) h rest =
      let two : nat_lt 1 (1 + length (flat (node k' i' j' b a))) ≡ true =
      (let l : length (flat (node k' i' j' b a)) ≡ suc (length (flat b ++ flat a)) = refl in lt-ltb 1 (1 + length (flat (node k' i' j' b a))) (omega arith)) in
      ap (λ t. if t && i' == i then first_name w (flat (node k' i' j' b a) ++ rest) else Other) two ∙ go (eqb_tells i' i)
    where
      go : ((eqb i' i ≡ true) × (i' ≡ i)) ⊎ ((eqb i' i ≡ false) × (i' ≢ i)) →
          (if i' == i then first_name w (flat (node k' i' j' b a) ++ rest) else Other) ≡ status w.capital (names i (node k' i' j' b a))
      go (inl e) =
          ap (λ t. if t then first_name w (flat (node k' i' j' b a) ++ rest) else Other) e.0 ∙ h rest ∙
          ap (λ n. status w.capital (names n (node k' i' j' b no_nodes))) e.1
      go (inr e) =
          ap (λ t. if t then first_name w (flat (node k' i' j' b a) ++ rest) else Other) e.0 ∙ sym (elsewhere (i' == i) (names_by k' (j' - 1) (names i b)) e.0)

  first_is : (ns : Nodes) → FirstIs ns
  first_is no_nodes = tt
  first_is (node kind i j below after) =
      λ rest.
      ap (λ l. name_by kind (w.capital (j - 1)) (list_name (1 + length (flat below)) i l)) (append_assoc (flat below) (flat after) rest) ∙
      ap (name_by kind (w.capital (j - 1))) (below_is i below (first_is below) (flat after ++ rest)) ∙
      sym (status_by w.capital kind (j - 1) (names i below)) ∙
      ap (status w.capital) (sym (itself i (names_by kind (j - 1) (names i below))))

  -- the marks of nodes, and those of the list
  pub marks_are : (ns : Nodes) (rest : List Made) → marks_in w (flat ns ++ rest) ≡ marks w ns ++ marks_in w rest
  marks_are no_nodes rest = refl
  marks_are (node kind i j below after) rest =
      let here : is_class_of (first_name w (flat (node kind i j below after) ++ rest)) ≡ is_class_name w.capital (names i (node kind i j below no_nodes)) =
      ap is_class_of (first_is (node kind i j below after) rest) ∙ status_class w.capital (names i (node kind i j below no_nodes)) in
      ap (λ b. (b && not (w.declared i)) ∷ marks_in w ((flat below ++ flat after) ++ rest)) here ∙
      ap (λ l. (is_class_name w.capital (names i (node kind i j below no_nodes)) && not (w.declared i)) ∷ l)
      (ap (marks_in w) (append_assoc (flat below) (flat after) rest) ∙ marks_are below (flat after ++ rest) ∙ ap (λ l. marks w below ++ l) (marks_are after rest) ∙
      sym (append_assoc (marks w below) (marks w after) (marks_in w rest)))

-- the variables among nodes, and those of the list
pub variables_are : (ns : Nodes) (rest : List Made) → variables_in (flat ns ++ rest) ≡ variables ns ++ variables_in rest
variables_are no_nodes rest = refl
variables_are (node kind i j below after) rest =
    let all : variables_in ((flat below ++ flat after) ++ rest) ≡ (variables below ++ variables after) ++ variables_in rest =
    ap variables_in (append_assoc (flat below) (flat after) rest) ∙ variables_are below (flat after ++ rest) ∙ ap (λ l. variables below ++ l) (variables_are after rest) ∙
    sym (append_assoc (variables below) (variables after) (variables_in rest)) in
    go (is_variable_id kind) all
  where
    go : (b : Bool) → variables_in ((flat below ++ flat after) ++ rest) ≡ (variables below ++ variables after) ++ variables_in rest →
        (if b then i ∷ variables_in ((flat below ++ flat after) ++ rest) else variables_in ((flat below ++ flat after) ++ rest)) ≡
        ((if b then i ∷ [] else []) ++ (variables below ++ variables after)) ++ variables_in rest
    go true e = ap (λ l. i ∷ l) e
    go false e = e

-- the marks that are wanted
pub wanted : (text : List ℕ) (spans : List Span) (nodes : List Made) (ns : Nodes) → nodes ≡ flat ns → marks_in (words_in text spans nodes) nodes ≡ marks (words_of text spans ns) ns
wanted text spans nodes ns is =
    let vs : variables_in nodes ≡ variables ns = ap variables_in (is ∙ sym (append_nil (flat ns))) ∙ variables_are ns [] ∙ append_nil (variables ns) in
    let w : words_in text spans nodes ≡ words_of text spans ns = ap (λ l. record { capital = is_capital text spans; declared = is_declared text spans l }) vs in
    ap (λ x. marks_in x nodes) w ∙ ap (marks_in (words_of text spans ns)) (is ∙ sym (append_nil (flat ns))) ∙ marks_are (words_of text spans ns) ns [] ∙ append_nil (marks (words_of text spans ns) ns)

-- one node of the list, from the last one on
pub record Marked (w : Words) (nodes : List Made) (left : ℕ) (name : Name) (from : ℕ) (found : List Bool) : Type 0 where
  pub name_is : name ≡ first_name w (drop left nodes)
  pub from_is : from ≡ first_from (drop left nodes)
  pub found_are : reverse found ≡ marks_in w (drop left nodes)

pub mark_step : (w : Words) (nodes : List Made) (left at : ℕ) (name new below : Name) (from : ℕ) (n : Made) (found more : List Bool) (mark : Bool) → left ≡ at + 1 → slice_get nodes at ≡ Some n →
    Marked w nodes left name from found → below ≡ (if nat_lt 1 n.size && from == n.from then name else Other) → new ≡ name_by n.kind (w.capital (n.to - 1)) below →
    mark ≡ (is_class_of new && not (w.declared n.from)) → more ≡ found ++ mark ∷ [] → Marked w nodes at new n.from more
mark_step w nodes left at name new below from n found more mark left_is n_is st below_is new_is mark_is more_is =
    let here : drop at nodes ≡ n ∷ drop left nodes = drop_front nodes at n n_is ∙ ap (λ k. n ∷ drop k nodes) (sym left_is) in
    let name_here : new ≡ first_name w (n ∷ drop left nodes) =
    new_is ∙ ap (name_by n.kind (w.capital (n.to - 1)))
    (below_is ∙ ap (λ f. if nat_lt 1 n.size && f == n.from then name else Other) st.from_is ∙ ap (λ m. if nat_lt 1 n.size && first_from (drop left nodes) == n.from then m else Other) st.name_is) in
    record {
      name_is = name_here ∙ ap (first_name w) (sym here);
      from_is = ap first_from (sym here);
      found_are =
          ap reverse more_is ∙ reverse-append found (mark ∷ []) ∙ ap (λ m. m ∷ reverse found) (mark_is ∙ ap (λ x. is_class_of x && not (w.declared n.from)) name_here) ∙
          ap (λ l. (is_class_of (first_name w (n ∷ drop left nodes)) && not (w.declared n.from)) ∷ l) st.found_are ∙ ap (marks_in w) (sym here);
    }

pub mark_begin : (w : Words) (nodes : List Made) (found : List Bool) → found ≡ [] → Marked w nodes (length nodes) Other 0 found
mark_begin w nodes found e =
    let none : drop (length nodes) nodes ≡ [] = drop_all nodes in
    record { name_is = sym (ap (first_name w) none); from_is = sym (ap first_from none); found_are = ap reverse e ∙ sym (ap (marks_in w) none) }
  where
    drop_all : (xs : List Made) → drop (length xs) xs ≡ []
    drop_all [] = refl
    drop_all (x ∷ xs) = drop_all xs
