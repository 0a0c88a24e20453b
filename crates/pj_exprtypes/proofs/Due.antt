-- What is still to do, and what is put to it: of nodes of the tree, and of parts of what a meaning asks.
use Rattle.std.proofs.Common.{◌≡◌, ℕ, ◌+◌, ◌-◌, ◌<◌, ◌≤◌, ◌==◌, Bool, true, List, [], ◌∷◌, ◌++◌, IsTrue, length, map, reverse, refl, sym, ap, subst, ◌∙◌, arith, append_assoc, append-nil}
use Rattle.std.proofs.lemmas.Bool.{eqb-true}
use Rattle.std.proofs.lemmas.List.{get_or-reverse, length-reverse, reverse-append}
use Rattle.std.proofs.lemmas.List.Elements.{All-append, All-cons, All-map, All-nil, All-weaker}
use Rattle.std.specs.List.{All}
use Rattle.std.specs.Prelude.{Result, Ok, Err, OnOk}
use Rattle.pj_tree.specs.Tree.{Tree, kind_of}
use Rattle.pj_tree.specs.declared.node.Node.{Node}
use Rattle.pj_names.specs.JavaType.{JavaType}
use Rattle.pj_names.specs.Asking.{Asking, Return, bind, each, value_of}
use Rattle.pj_names.specs.declared.oracle.AskFault.{AskFault}
use Rattle.pj_names.specs.Told.{Asks, Told, Worlds, longest}
use Rattle.pj_exprtypes.specs.declared.order.Pending.{Pending}
use Rattle.pj_exprtypes.specs.declared.order.Pending.TheVariants as pending
use Rattle.pj_exprtypes.specs.Operands.{operands, var_operands}
use Rattle.pj_exprtypes.specs.Order.{AddsParts, IsDue, visits}
use Rattle.pj_exprtypes.specs.Parts.{AsksPart, IsPartOf}
use Rattle.pj_exprtypes.specs.Declarations.{var_with}
use Rattle.pj_names.proofs.MeaningLaws.{bind-bind}
use Rattle.pj_calls.specs.Candidates.{Candidates}
use Rattle.pj_calls.specs.Nodes.{arguments_of, functions_of}
use Rattle.pj_calls.specs.Results.{chosen_result}
use Rattle.pj_exprtypes.specs.Calls.{passed_type}
use Rattle.pj_exprtypes.specs.TypeOf.{deep, earlier, final_type, made_type, told_by_operands, type_of, type_with, typed, var_of, whole_type}
use Rattle.pj_exprtypes.specs.Typing.{Typing, OfVar, OfCall}
use Rattle.pj_exprtypes.proofs.Parts.{part-err, part-first, part-lift, part-next, part-ok, part-second, part-self, part-trans}
use Rattle.pj_exprtypes.proofs.Steps.{earlier-some, earlier-var, typed-some}

-- ---- parts of types

-- of a list of meanings each is a part
part-each : {A B : Type 0} (w : Worlds) (f : A → Asking B) (xs : List A) → All (λ x. IsPartOf w (f x) (each f xs)) xs
part-each w f [] = All-nil (λ x. IsPartOf w (f x) (each f []))
part-each w f (x ∷ xs) =
    let rest : IsPartOf w (each f xs) (each f (x ∷ xs)) = part-second w (f x) (λ v. bind (each f xs) (λ vs. Return (v ∷ vs))) (λ v. part-first w (each f xs) (λ vs. Return (v ∷ vs))) in
    All-cons (λ y. IsPartOf w (f y) (each f (x ∷ xs))) x xs (part-first w (f x) (λ v. bind (each f xs) (λ vs. Return (v ∷ vs))))
    (All-weaker (λ y. IsPartOf w (f y) (each f xs)) (λ y. IsPartOf w (f y) (each f (x ∷ xs))) (λ y part. part-trans part rest) xs (part-each w f xs))

-- also where something follows them
part-each-first : {A B C : Type 0} (w : Worlds) (f : A → Asking B) (xs : List A) (k : List B → Asking C) → All (λ x. IsPartOf w (f x) (bind (each f xs) k)) xs
part-each-first w f xs k = All-weaker (λ x. IsPartOf w (f x) (each f xs)) (λ x. IsPartOf w (f x) (bind (each f xs) k)) (λ x part. part-trans part (part-first w (each f xs) k)) xs (part-each w f xs)

-- the types of the operands of a node
operands-parts : (w : Worlds) (t : Tree) (var : Node → Asking JavaType) (left : ℕ) (n : Node) → All (λ m. IsPartOf w (typed t var left m) (typed t var (left + 1) n)) (operands t n)
operands-parts w t var left n = subst (λ whole. All (λ m. IsPartOf w (typed t var left m) whole) (operands t n)) (sym step) (part-each-first w (typed t var left) (operands t n) (λ types. made_type t var (typed t var left) n types))
  where
    less : left + 1 - 1 ≡ left
    less = omega arith

    step : typed t var (left + 1) n ≡ whole_type t var (typed t var left) n
    step = typed-some t var (left + 1) n (omega arith) ∙ ap (λ (k : ℕ). whole_type t var (typed t var k) n) less

-- what the type of a variable that is declared by `var` is made of
var-operands-parts : (w : Worlds) (t : Tree) (id : Node) → All (λ m. IsPartOf w (typed t (earlier t id.0) (deep t) m) (var_of t id)) (var_operands t id)
var-operands-parts w t id =
    subst (λ whole. All (λ m. IsPartOf w (typed t (earlier t id.0) (deep t) m) whole) (var_operands t id)) (sym (earlier-var t id))
    (part-each-first w (typed t (earlier t id.0) (deep t)) (var_operands t id) (λ types. var_with t id types))

-- a node without operands
leaf-step : (t : Tree) (var : Node → Asking JavaType) (left : ℕ) (n : Node) → operands t n ≡ [] → typed t var (left + 1) n ≡ bind (type_with t n (kind_of t n) []) (λ found. final_type t var (typed t var (left + 1 - 1)) n found)
leaf-step t var left n none = typed-some t var (left + 1) n (omega arith) ∙ ap (λ (ns : List Node). bind (each (typed t var (left + 1 - 1)) ns) (λ types. made_type t var (typed t var (left + 1 - 1)) n types)) none

leaf-first : (w : Worlds) (t : Tree) (var : Node → Asking JavaType) (left : ℕ) (n : Node) → operands t n ≡ [] → IsPartOf w (type_with t n (kind_of t n) []) (typed t var (left + 1) n)
leaf-first w t var left n none =
    subst (λ whole. IsPartOf w (type_with t n (kind_of t n) []) whole) (sym (leaf-step t var left n none)) (part-first w (type_with t n (kind_of t n) []) (λ found. final_type t var (typed t var (left + 1 - 1)) n found))

-- its type is that of a variable before a number
pub leaf-variable : (w : Worlds) (t : Tree) (before left : ℕ) (n id : Node) (found : Typing) → operands t n ≡ [] → id.0 < before → found ≡ OfVar id
    → ((d : ℕ) → longest ≤ d → found ≡ value_of d (w d).answer (type_with t n (kind_of t n) [])) → IsPartOf w (var_of t id) (typed t (earlier t before) (left + 1) n)
leaf-variable w t before left n id found none less is comes =
    let next = λ (found : Typing). final_type t (earlier t before) (typed t (earlier t before) (left + 1 - 1)) n found in
    let at : IsPartOf w (earlier t before id) (bind (type_with t n (kind_of t n) []) next) = part-next w (type_with t n (kind_of t n) []) next (OfVar id) (λ d far. sym is ∙ comes d far) in
    subst (λ whole. IsPartOf w (var_of t id) whole) (sym (leaf-step t (earlier t before) left n none))
    (subst (λ part. IsPartOf w part (bind (type_with t n (kind_of t n) []) next)) (earlier-some t before id less) at)

-- what asks as it is told asks a part
pub leaf-asked : {K B : Type 0} (t : Tree) (var : Node → Asking JavaType) (left : ℕ) (n : Node) {a b : Told K} {v : Typing} (r : B) → operands t n ≡ []
    → Asks (type_with t n (kind_of t n) []) a b (Ok v) → AsksPart (typed t var (left + 1) n) a b (Ok r)
leaf-asked t var left n {a = a} r none h = part-lift (typed t var (left + 1) n) (type_with t n (kind_of t n) []) (λ told. leaf-first a.world t var left n none) (part-ok r h)

pub leaf-refused : {K B : Type 0} (t : Tree) (var : Node → Asking JavaType) (left : ℕ) (n : Node) {a b : Told K} {e : AskFault} {r : Result B AskFault} → operands t n ≡ []
    → Asks (type_with t n (kind_of t n) []) a b (Err e) → r ≡ Err e → AsksPart (typed t var (left + 1) n) a b r
leaf-refused t var left n {a = a} none h is = part-lift (typed t var (left + 1) n) (type_with t n (kind_of t n) []) (λ told. leaf-first a.world t var left n none) (part-err h is)

-- ---- what is put

pub adds-nothing : (t : Tree) (is_told : Bool) (w : Worlds) (whole : Asking JavaType) (all : List Pending) → AddsParts t is_told w whole all all
adds-nothing t is_told w whole all = record { more = []; puts = sym (append-nil all); are_due = All-nil (IsDue t is_told w whole) }

All-reverse : {X : Type 0} (P : X → Type 0) (xs : List X) → All P xs → All P (reverse xs)
All-reverse {X = X} P xs all = λ k d below.
    let less : k < length xs = subst (λ (n : ℕ). k < n) (length-reverse xs) below in
    subst (λ (x : X). P x) (sym (get_or-reverse xs k d less)) (all (length xs - 1 - k) d (omega arith))

visits-due : (t : Tree) (is_told : Bool) (w : Worlds) (whole : Asking JavaType) (before left : ℕ) (nodes : List Node) → All (λ (m : Node). m.0 < length t.nodes) nodes
    → (IsTrue is_told → All (λ m. IsPartOf w (typed t (earlier t before) left m) whole) nodes) → All (IsDue t is_told w whole) (visits before left nodes)
visits-due t is_told w whole before left nodes inside parts =
    All-map (IsDue t is_told w whole) (λ (n : Node). pending.Visit before left n) (reverse nodes)
    (All-reverse (λ (m : Node). IsDue t is_told w whole (pending.Visit before left m)) nodes (λ k d below. record { inside = inside k d below; part = λ told. parts told k d below }))

-- the operands of a node
pub adds-operands : (t : Tree) (is_told : Bool) (w : Worlds) (before left : ℕ) (n : Node) (nodes : List Node) (old new : List Pending) → nodes ≡ operands t n → All (λ (m : Node). m.0 < length t.nodes) nodes
    → new ≡ old ++ visits before left nodes → AddsParts t is_told w (typed t (earlier t before) (left + 1) n) old new
adds-operands t is_told w before left n nodes old new same inside puts = record {
  more = visits before left nodes;
  puts = puts;
  are_due = visits-due t is_told w (typed t (earlier t before) (left + 1) n) before left nodes inside
      (λ told. subst (λ ns. All (λ m. IsPartOf w (typed t (earlier t before) left m) (typed t (earlier t before) (left + 1) n)) ns) (sym same) (operands-parts w t (earlier t before) left n));
}

-- a variable, and what its type is made of
pub adds-var : (t : Tree) (is_told : Bool) (w : Worlds) (left : ℕ) (id : Node) (nodes : List Node) (old next new : List Pending) → left ≡ deep t → id.0 < length t.nodes
    → nodes ≡ var_operands t id → All (λ (m : Node). m.0 < length t.nodes) nodes → next ≡ old ++ pending.Find id ∷ [] → new ≡ next ++ visits id.0 left nodes → AddsParts t is_told w (var_of t id) old new
adds-var t is_told w left id nodes old next new depth inside same all first puts = record {
  more = pending.Find id ∷ visits id.0 left nodes;
  puts = puts ∙ ap (λ l. l ++ visits id.0 left nodes) first ∙ append_assoc old (pending.Find id ∷ []) (visits id.0 left nodes);
  are_due = All-cons (IsDue t is_told w (var_of t id)) (pending.Find id) (visits id.0 left nodes) (record { inside = inside; part = λ told. part-self w (var_of t id) })
      (visits-due t is_told w (var_of t id) id.0 left nodes all (λ told. parts));
}
  where
    parts : All (λ m. IsPartOf w (typed t (earlier t id.0) left m) (var_of t id)) nodes
    parts = subst (λ ns. All (λ m. IsPartOf w (typed t (earlier t id.0) left m) (var_of t id)) ns) (sym same)
        (subst (λ (k : ℕ). All (λ m. IsPartOf w (typed t (earlier t id.0) k m) (var_of t id)) (var_operands t id)) (sym depth) (var-operands-parts w t id))

-- what is due for a part is due for the whole
due-lift : (t : Tree) (is_told : Bool) (w : Worlds) (part whole : Asking JavaType) (entries : List Pending) → (IsTrue is_told → IsPartOf w part whole)
    → All (IsDue t is_told w part) entries → All (IsDue t is_told w whole) entries
due-lift t is_told w part whole entries is_part all = λ k d below. let due = all k d below in record { inside = due.inside; part = λ told. part-trans (due.part told) (is_part told) }

-- the same worlds
pub adds-as : (t : Tree) (a b : Bool) (v w : Worlds) (whole : Asking JavaType) (old new : List Pending) → a ≡ b → v ≡ w → AddsParts t a v whole old new → AddsParts t b w whole old new
adds-as t a b v w whole old new told same adds = subst (λ (x : Bool). AddsParts t x w whole old new) told (subst (λ (x : Worlds). AddsParts t a x whole old new) same adds)

-- what is put for a part is put for the whole
pub adds-lift : (t : Tree) (is_told : Bool) (w : Worlds) (part whole : Asking JavaType) (old new : List Pending) → (IsTrue is_told → IsPartOf w part whole)
    → AddsParts t is_told w part old new → AddsParts t is_told w whole old new
adds-lift t is_told w part whole old new is_part adds = record { more = adds.more; puts = adds.puts; are_due = due-lift t is_told w part whole adds.more is_part adds.are_due }

-- what is put behind entries that are due
pub due-added : (t : Tree) (is_told : Bool) (w : Worlds) (part whole : Asking JavaType) (old new : List Pending) → (IsTrue is_told → IsPartOf w part whole)
    → All (IsDue t is_told w whole) old → AddsParts t is_told w part old new → All (IsDue t is_told w whole) new
due-added t is_told w part whole old new is_part all adds =
    subst (λ l. All (IsDue t is_told w whole) l) (sym adds.puts) (All-append (IsDue t is_told w whole) old adds.more all (due-lift t is_told w part whole adds.more is_part adds.are_due))

-- one more visit
pub visits-next : (before left : ℕ) (all next : List Pending) (rest : List Node) (n : Node) → next ≡ all ++ pending.Visit before left n ∷ [] → next ++ visits before left rest ≡ all ++ visits before left (rest ++ n ∷ [])
visits-next before left all next rest n puts =
    ap (λ l. l ++ visits before left rest) puts ∙ append_assoc all (pending.Visit before left n ∷ []) (visits before left rest)
    ∙ ap (λ (ns : List Node). all ++ map (λ (n : Node). pending.Visit before left n) ns) (sym (reverse-append rest (n ∷ [])))

-- ---- the whole

-- the first visit
pub due-whole : (t : Tree) (is_told : Bool) (w : Worlds) (count : ℕ) (n : Node) → count ≡ length t.nodes → n.0 < length t.nodes → IsDue t is_told w (type_of t n) (pending.Visit count (count + 1) n)
due-whole t is_told w count n is inside =
    record { inside = inside; part = λ told. subst (λ (k : ℕ). IsPartOf w (typed t (earlier t k) (k + 1) n) (type_of t n)) (sym is) (part-self w (type_of t n)) }

-- ---- the arguments of a call

-- the type is made of what tells it by the types of the operands
told-step : (t : Tree) (var : Node → Asking JavaType) (left : ℕ) (n : Node) → typed t var (left + 1) n ≡ bind (told_by_operands t (typed t var left) n) (λ found. final_type t var (typed t var left) n found)
told-step t var left n =
    let less : left + 1 - 1 ≡ left = omega arith in
    typed-some t var (left + 1) n (omega arith) ∙ ap (λ (k : ℕ). whole_type t var (typed t var k) n) less
    ∙ sym (bind-bind (each (typed t var left) (operands t n)) (λ types. type_with t n (kind_of t n) types) (λ found. final_type t var (typed t var left) n found))

told-first : (w : Worlds) (t : Tree) (var : Node → Asking JavaType) (left : ℕ) (n : Node) → IsPartOf w (told_by_operands t (typed t var left) n) (typed t var (left + 1) n)
told-first w t var left n =
    subst (λ whole. IsPartOf w (told_by_operands t (typed t var left) n) whole) (sym (told-step t var left n))
    (part-first w (told_by_operands t (typed t var left) n) (λ found. final_type t var (typed t var left) n found))

-- what asks what tells the type asks a part
pub told-asked : {K B : Type 0} (t : Tree) (var : Node → Asking JavaType) (left : ℕ) (n : Node) {a b : Told K} {v : Typing} (r : B)
    → Asks (told_by_operands t (typed t var left) n) a b (Ok v) → AsksPart (typed t var (left + 1) n) a b (Ok r)
told-asked t var left n {a = a} r h = part-lift (typed t var (left + 1) n) (told_by_operands t (typed t var left) n) (λ told. told-first a.world t var left n) (part-ok r h)

pub told-refused : {K B : Type 0} (t : Tree) (var : Node → Asking JavaType) (left : ℕ) (n : Node) {a b : Told K} {e : AskFault} {r : Result B AskFault}
    → Asks (told_by_operands t (typed t var left) n) a b (Err e) → r ≡ Err e → AsksPart (typed t var (left + 1) n) a b r
told-refused t var left n {a = a} h is = part-lift (typed t var (left + 1) n) (told_by_operands t (typed t var left) n) (λ told. told-first a.world t var left n) (part-err h is)

-- the same, counted from a depth that is some
pub told-asked-at : {K B : Type 0} (t : Tree) (var : Node → Asking JavaType) (left : ℕ) (n : Node) {a b : Told K} {v : Typing} (r : B) → 0 < left
    → Asks (told_by_operands t (typed t var (left - 1)) n) a b (Ok v) → AsksPart (typed t var left n) a b (Ok r)
told-asked-at t var left n {a = a} {b = b} r some h =
    let more : left - 1 + 1 ≡ left = omega (arith, some) in subst (λ (k : ℕ). AsksPart (typed t var k n) a b (Ok r)) more (told-asked t var (left - 1) n r h)

pub told-refused-at : {K B : Type 0} (t : Tree) (var : Node → Asking JavaType) (left : ℕ) (n : Node) {a b : Told K} {e : AskFault} {r : Result B AskFault} → 0 < left
    → Asks (told_by_operands t (typed t var (left - 1)) n) a b (Err e) → r ≡ Err e → AsksPart (typed t var left n) a b r
told-refused-at t var left n {a = a} {b = b} {r = r} some h is =
    let more : left - 1 + 1 ≡ left = omega (arith, some) in subst (λ (k : ℕ). AsksPart (typed t var k n) a b r) more (told-refused t var (left - 1) n h is)

-- the arguments are parts, where that comes to candidates
arguments-parts : (w : Worlds) (t : Tree) (var : Node → Asking JavaType) (left : ℕ) (n : Node) (candidates : Candidates) (found : Typing) → found ≡ OfCall candidates
    → ((d : ℕ) → longest ≤ d → found ≡ value_of d (w d).answer (told_by_operands t (typed t var left) n)) → All (λ m. IsPartOf w (typed t var left m) (typed t var (left + 1) n)) (arguments_of t n)
arguments-parts w t var left n candidates found is comes =
    let f = typed t var left in
    let next = λ (found : Typing). final_type t var f n found in
    let at : IsPartOf w (passed_type t f n candidates) (bind (told_by_operands t f n) next) = part-next w (told_by_operands t f n) next (OfCall candidates) (λ d far. sym is ∙ comes d far) in
    subst (λ whole. All (λ m. IsPartOf w (f m) whole) (arguments_of t n)) (sym (told-step t var left n))
    (All-weaker (λ m. IsPartOf w (f m) (passed_type t f n candidates)) (λ m. IsPartOf w (f m) (bind (told_by_operands t f n) next)) (λ m part. part-trans part at) (arguments_of t n)
    (part-each-first w f (arguments_of t n) (λ types. chosen_result candidates types (functions_of t n))))

pub adds-arguments : (t : Tree) (is_told : Bool) (w : Worlds) (before left : ℕ) (n : Node) (candidates : Candidates) (found : Typing) (nodes : List Node) (old new : List Pending) → found ≡ OfCall candidates
    → (IsTrue is_told → (d : ℕ) → longest ≤ d → found ≡ value_of d (w d).answer (told_by_operands t (typed t (earlier t before) left) n))
    → nodes ≡ arguments_of t n → All (λ (m : Node). m.0 < length t.nodes) nodes → new ≡ old ++ visits before left nodes → AddsParts t is_told w (typed t (earlier t before) (left + 1) n) old new
adds-arguments t is_told w before left n candidates found nodes old new is comes same inside puts = record {
  more = visits before left nodes;
  puts = puts;
  are_due = visits-due t is_told w (typed t (earlier t before) (left + 1) n) before left nodes inside
      (λ told. subst (λ ns. All (λ m. IsPartOf w (typed t (earlier t before) left m) (typed t (earlier t before) (left + 1) n)) ns) (sym same) (arguments-parts w t (earlier t before) left n candidates found is (comes told)));
}

pub adds-arguments-at : (t : Tree) (is_told : Bool) (w : Worlds) (before left : ℕ) (n : Node) (candidates : Candidates) (found : Typing) (nodes : List Node) (old new : List Pending) → 0 < left → found ≡ OfCall candidates
    → (IsTrue is_told → (d : ℕ) → longest ≤ d → found ≡ value_of d (w d).answer (told_by_operands t (typed t (earlier t before) (left - 1)) n))
    → nodes ≡ arguments_of t n → All (λ (m : Node). m.0 < length t.nodes) nodes → new ≡ old ++ visits before (left - 1) nodes → AddsParts t is_told w (typed t (earlier t before) left n) old new
adds-arguments-at t is_told w before left n candidates found nodes old new some is comes same inside puts =
    let more : left - 1 + 1 ≡ left = omega (arith, some) in
    subst (λ (k : ℕ). AddsParts t is_told w (typed t (earlier t before) k n) old new) more (adds-arguments t is_told w before (left - 1) n candidates found nodes old new is comes same inside puts)

-- a call whose arguments are to be looked at
pub adds-pass : (t : Tree) (is_told : Bool) (w : Worlds) (before left : ℕ) (n : Node) (old new : List Pending) → n.0 < length t.nodes → new ≡ old ++ pending.Pass before left n ∷ []
    → AddsParts t is_told w (typed t (earlier t before) left n) old new
adds-pass t is_told w before left n old new inside puts = record {
  more = pending.Pass before left n ∷ [];
  puts = puts;
  are_due = All-cons (IsDue t is_told w (typed t (earlier t before) left n)) (pending.Pass before left n) [] (record { inside = inside; part = λ told. part-self w (typed t (earlier t before) left n) })
      (All-nil (IsDue t is_told w (typed t (earlier t before) left n)));
}

-- what is put behind what was put
pub adds-both : (t : Tree) (is_told : Bool) (w : Worlds) (whole : Asking JavaType) (old middle new : List Pending) → AddsParts t is_told w whole old middle → AddsParts t is_told w whole middle new
    → AddsParts t is_told w whole old new
adds-both t is_told w whole old middle new first second = record {
  more = first.more ++ second.more;
  puts = second.puts ∙ ap (λ l. l ++ second.more) first.puts ∙ append_assoc old first.more second.more;
  are_due = All-append (IsDue t is_told w whole) first.more second.more first.are_due second.are_due;
}

-- a list of no members
pub none-left : {X : Type 0} (xs : List X) → (length xs == 0) ≡ true → xs ≡ []
none-left [] is = refl
none-left (x ∷ xs) is = absurd (let none : length (x ∷ xs) ≡ 0 = eqb-true (length (x ∷ xs)) 0 is in omega (arith, none))

-- what follows of what holds
pub on-map : {A E : Type 0} {P Q : Type 0} (r : Result A E) → (P → Q) → OnOk r P → OnOk r Q
on-map (Ok v) next p = next p
on-map (Err e) next p = tt
