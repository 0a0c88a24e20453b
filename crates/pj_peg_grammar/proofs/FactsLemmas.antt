-- The facts of nodes.
use Rattle.std.proofs.Common.{◌≡◌, ℕ, zero, suc, ◌+◌, ◌<◌, ◌≤◌, Bool, true, false, List, [], ◌∷◌, ◌++◌, length, map, Some, None, refl, sym, ◌∙◌, subst, ap, ⊎_elim, arith, take, get_or}
use Rattle.std.specs.Prelude.{slice_get, unwrap_or}
use Rattle.std.specs.Option.{option_map, option_and_then}
use Rattle.std.proofs.lemmas.List.{take_all, length-map}
use Rattle.std.proofs.lemmas.Option.{slice_get_within, slice_get-get_or, slice_get-map, slice_get_read, slice_get_past}
use Rattle.std.proofs.lemmas.Bool.{cases_lt}
use Rattle.pj_peg_grammar.specs.declared.program.Node.{Node}
use Rattle.pj_peg_grammar.specs.declared.program.Program.{Program}
use Rattle.pj_peg_grammar.specs.declared.analysis.Facts.{Facts}
use Rattle.pj_peg_grammar.specs.Form.{Form, rule, never}
use Rattle.pj_peg_grammar.specs.WellFormed.{IsNullable, rule_nullable}
use Rattle.pj_peg_grammar.specs.Program.{form_at, forms_in, node_form, PartsBelow, AreNodes, IsProgram, rules_of}
use Rattle.pj_peg_grammar.specs.Analysis.{nullable_by, facts_by, is_set, root_bit}
use Rattle.pj_peg_grammar.proofs.Lists.{found}
use Rattle.pj_peg_grammar.proofs.Nodes.{forms_in-push, length-forms_in}
use Rattle.pj_peg_grammar.proofs.Nullable.{nullable_sound}

pub take_push : {A : Type 0} (xs : List A) (i : ℕ) (x : A) → i < length xs → x ≡ get_or xs i x → take (i + 1) xs ≡ take i xs ++ x ∷ []
take_push [] i x lt is = absurd (omega arith)
take_push (y ∷ xs) zero x lt is = ap (λ z. z ∷ []) (sym is)
take_push (y ∷ xs) (suc i) x lt is =
    let e : suc i + 1 ≡ suc (i + 1) = omega arith in
    ap (λ n. take n (y ∷ xs)) e ∙ ap (λ l. y ∷ l) (take_push xs i x (omega arith) is)

map_push : {A B : Type 0} (f : A → B) (xs : List A) (x : A) → map f (xs ++ x ∷ []) ≡ map f xs ++ f x ∷ []
map_push f [] x = refl
map_push f (y ∷ xs) x = ap (λ l. f y ∷ l) (map_push f xs x)

-- the facts of one node more
pub facts_more : {A : Type 0} (F : Form → A) (nodes : List Node) (k : ℕ) (node : Node) (facts facts' : List A) (fact : A) → k < length nodes → node ≡ get_or nodes k node →
    facts ≡ map F (forms_in (take k nodes)) → fact ≡ F (node_form (forms_in (take k nodes)) node) → facts' ≡ facts ++ fact ∷ [] →
    facts' ≡ map F (forms_in (take (k + 1) nodes))
facts_more F nodes k node facts facts' fact lt is so_far new more =
    more ∙ ap (λ l. l ++ fact ∷ []) so_far ∙ ap (λ x. map F (forms_in (take k nodes)) ++ x ∷ []) new
    ∙ sym (map_push F (forms_in (take k nodes)) (node_form (forms_in (take k nodes)) node))
    ∙ ap (map F) (sym (forms_in-push (take k nodes) node))
    ∙ ap (λ l. map F (forms_in l)) (sym (take_push nodes k node lt is))

length_take : {A : Type 0} (k : ℕ) (xs : List A) → k ≤ length xs → length (take k xs) ≡ k
length_take zero xs le = refl
length_take (suc k) [] le = absurd (omega arith)
length_take (suc k) (x ∷ xs) le = let h = length_take k xs (omega arith) in omega arith

pub facts_so_far : {A : Type 0} (F : Form → A) (nodes : List Node) (k : ℕ) (facts : List A) → k ≤ length nodes → facts ≡ map F (forms_in (take k nodes)) → length facts ≡ k
facts_so_far F nodes k facts le is =
    ap length is ∙ length-map (forms_in (take k nodes)) F ∙ length-forms_in (take k nodes) ∙ length_take k nodes le

-- the parts of the next node are before it
pub next_parts : {A : Type 0} (nodes : List Node) (stars : List ℕ) (F : Form → A) (k : ℕ) (node : Node) (facts : List A) → AreNodes nodes stars → k < length nodes → node ≡ get_or nodes k node →
    facts ≡ map F (forms_in (take k nodes)) → PartsBelow stars (length facts) node
next_parts nodes stars F k node facts are lt is so_far =
    subst (λ n. PartsBelow stars n node) (sym (facts_so_far F nodes k facts (omega arith) so_far)) (are.parts k node (slice_get_read nodes (length nodes) k node refl lt is))

pub facts_all : {A : Type 0} (F : Form → A) (nodes : List Node) (k : ℕ) (facts : List A) → length nodes ≤ k → facts ≡ map F (forms_in (take k nodes)) → facts ≡ map F (forms_in nodes)
facts_all F nodes k facts le is = is ∙ ap (λ l. map F (forms_in l)) (take_all k nodes le)

-- the rule of a root
pub root_form : (p : Program) (r k : ℕ) → slice_get p.roots.items r ≡ Some k → slice_get (rules_of p) r ≡ Some (form_at (forms_in p.nodes.items) k)
root_form p r k is = slice_get-map (form_at (forms_in p.nodes.items)) p.roots.items r ∙ ap (option_map (form_at (forms_in p.nodes.items))) is

pub root_of : (p : Program) (r : ℕ) (f : Form) → slice_get (rules_of p) r ≡ Some f → (k : ℕ) × (slice_get p.roots.items r ≡ Some k) × (form_at (forms_in p.nodes.items) k ≡ f)
root_of p r f is =
    let lt = slice_get_within (rules_of p) r f is in
    let len = length-map p.roots.items (form_at (forms_in p.nodes.items)) in
    let (k, at) = found p.roots.items r (omega arith) in
    (k, at, let e = sym (root_form p r k at) ∙ is in cc)

-- the fact of a node
pub fact_at : {A : Type 0} (F : Form → A) (nodes : List Node) (facts : List A) (k : ℕ) → facts ≡ map F (forms_in nodes) → k < length nodes →
    slice_get facts k ≡ Some (F (form_at (forms_in nodes) k))
fact_at F nodes facts k is lt =
    let len = length-forms_in nodes in
    ap (λ l. slice_get l k) is ∙ slice_get-map F (forms_in nodes) k ∙ ap (option_map F) (slice_get-get_or (forms_in nodes) k never (omega arith))

-- the bit of a rule, by what its node's bit is
pub root_bit_at : (p : Program) (F : Form → Bool) (bits : List Bool) (r k : ℕ) → bits ≡ map F (forms_in p.nodes.items) → slice_get p.roots.items r ≡ Some k → k < length p.nodes.items →
    root_bit bits p.roots.items r ≡ F (form_at (forms_in p.nodes.items) k)
root_bit_at p F bits r k is at lt =
    ap (λ o. unwrap_or (option_and_then (λ i. slice_get bits i) o) false) at
    ∙ ap (λ o. unwrap_or o false) (fact_at F p.nodes.items bits k is lt)

pub root_bit_past : (bits : List Bool) (roots : List ℕ) (r : ℕ) → slice_get roots r ≡ None → root_bit bits roots r ≡ false
root_bit_past bits roots r e = ap (λ o. unwrap_or (option_and_then (λ i. slice_get bits i) o) false) e

-- what is found to be able to take nothing can
pub root_nullable_sound : (p : Program) (e : ℕ → Bool) (bits : List Bool) (r : ℕ) → IsProgram p → bits ≡ map (nullable_by e) (forms_in p.nodes.items) →
    ((s : ℕ) → e s ≡ true → IsNullable (rules_of p) (rule s)) → root_bit bits p.roots.items r ≡ true → IsNullable (rules_of p) (rule r)
root_nullable_sound p e bits r is_p is sound t = ⊎_elim
    (λ (lt : r < length p.roots.items).
    let (k, at) = found p.roots.items r lt in
    rule_nullable (form_at (forms_in p.nodes.items) k) (root_form p r k at)
    (nullable_sound (rules_of p) e sound _ (sym (root_bit_at p (nullable_by e) bits r k is at (is_p.there r k at)) ∙ t)))
    (λ (le : length p.roots.items ≤ r).
    let z = sym (root_bit_past bits p.roots.items r (slice_get_past p.roots.items r le)) ∙ t in absurd (let y = z in cc))
    (cases_lt r (length p.roots.items))

-- no rule is found any more
pub root_closed : (p : Program) (F : Form → Bool) (set bits : List Bool) → IsProgram p → bits ≡ map F (forms_in p.nodes.items) →
    ((r : ℕ) → root_bit bits p.roots.items r ≡ true → is_set set r ≡ true) →
    (r : ℕ) (f : Form) → slice_get (rules_of p) r ≡ Some f → F f ≡ true → is_set set r ≡ true
root_closed p F set bits is_p is closed r f at t =
    let (k, root, same) = root_of p r f at in
    closed r (root_bit_at p F bits r k is root (is_p.there r k root) ∙ ap F same ∙ t)

-- the bits by a set that was lent
pub bits_of : (nodes : List Node) (facts : List Facts) (bits lent : List Bool) (lent_facts : List Facts) (set : List Bool) → lent ≡ set →
    facts ≡ map (facts_by (is_set lent) (length lent)) (forms_in nodes) → lent_facts ≡ facts → bits ≡ map (λ (f : Facts). f.nullable) lent_facts → bits ≡ map (nullable_by (is_set set)) (forms_in nodes)
bits_of nodes facts bits lent lent_facts set e is same of =
    of ∙ ap (map (λ (f : Facts). f.nullable)) (same ∙ is ∙ ap (λ (s : List Bool). map (facts_by (is_set s) (length s)) (forms_in nodes)) e) ∙ each (forms_in nodes)
  where
    each : (fs : List Form) → map (λ (f : Facts). f.nullable) (map (facts_by (is_set set) (length set)) fs) ≡ map (nullable_by (is_set set)) fs
    each [] = refl
    each (f ∷ fs) = ap (λ l. nullable_by (is_set set) f ∷ l) (each fs)

pub bits_roots : (bits lent_bits : List Bool) (roots lent : List ℕ) (r : ℕ) → lent_bits ≡ bits → lent ≡ roots →
    root_bit lent_bits lent r ≡ root_bit bits roots r
bits_roots bits lent_bits roots lent r e h = ap (λ l. root_bit l lent r) e ∙ ap (λ l. root_bit bits l r) h
