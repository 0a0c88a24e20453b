-- What is read without the offsets of what it names, and with one name for each function: what is made of things that agree so agrees.
use Rattle.std.proofs.Common.{◌≡◌, ℕ, suc, ◌+◌, Bool, true, false, List, [], ◌∷◌, ◌++◌, map, length, Option, Some, None, refl, sym, ◌∙◌, ap}
use Rattle.std.proofs.lemmas.Bool.{false≢true}
use Rattle.std.proofs.lemmas.List.{map-append}
use Rattle.std.specs.Str.{encode_utf8_all}
use lib.Utf8.{encode}
use Rattle.pj_xexpressions.specs.declared.axis.Axis.{Axis}
use Rattle.pj_xexpressions.specs.declared.operator.Compare.{Compare}
use Rattle.pj_xexpressions.specs.declared.expr.NodeTest.{NodeTest}
use Rattle.pj_xexpressions.specs.declared.expr.NodeTest.TheVariants as tests
use Rattle.pj_xexpressions.specs.declared.operator.Sign.{Sign}
use Rattle.pj_xexpressions.specs.Expressions as written
use Rattle.pj_xexpressions.specs.Expressions.{Written, Scope}
use Rattle.pj_xtokens.specs.Tokens.{Lexed}
use Rattle.pj_xgrammar.specs.declared.rule.Rule.{Rule}
use Rattle.pj_xgrammar.specs.declared.rule.Rule.TheVariants as r
use Rattle.pj_xtokens.specs.Literals.{integer_of, string_of}
use Rattle.pj_xtokens.specs.First.{first_text, first_from}
use Rattle.pj_xexpressions.specs.Names.{callee_of, axis_of}
use Rattle.pj_xexpressions.specs.declared.name.Callee.{Callee}
use Rattle.pj_xexpressions.specs.declared.name.Callee.TheVariants as callee
use Rattle.pj_xexpressions.specs.Trees as tree
use Rattle.pj_xexpressions.specs.Trees.{Tree, Construct, node, alone, binder, operated}
use Rattle.pj_xreadings.specs.Steps as forms
use Rattle.pj_xreadings.specs.Mentions as mention
use Rattle.pj_xreadings.specs.Mentions.{Mention, roles_in, roles_named, scoped}
use Rattle.pj_xparse.specs.NameFaults as fault
use Rattle.pj_xparse.specs.NameFaults.{Fault, first_fault_from, first_fault, fault_in, scope_behind, unless, earlier, is_bound, is_function, callee_takes, fits_role}
use Rattle.pj_xreadings.specs.declared.role.Role.{Role}
use Rattle.pj_xreadings.specs.Operands.{Operand, Binding, Arguments, Closed, Open, Next, Behind, Test, Called, Predicates, other, trees_of, names_of, names_behind, operations, bindings_of, scopes_of, arguments_in, is_closed, judged, in_roles, told, chain, mixed, compared, ranging, signed, bound, chosen, variable, integer_literal, string_literal, rooted, path, step, child_step, attribute_step, axis_step, filtered, kind_test, call, named}
use Rattle.pj_xmeaning.specs.RuleMeanings.{Value}
use Rattle.pj_xsyntax_laws.specs.Printed.{function_name, pmd_function_name}
use Rattle.pj_xsyntax_laws.proofs.Tables.{function-meaning, pmd-meaning}

-- ---- without offsets

-- the name by which a function is called, whatever name the text has for it; none, where there is no function
abbrev name_called : Option Callee → List ℕ
name_called None = []
name_called (Some (callee.XPath f)) = encode_utf8_all (function_name f)
name_called (Some (callee.Pmd f)) = encode_utf8_all (pmd_function_name f)

calls : (called : Option Callee) → callee_of (name_called called) ≡ called
unfolding callee_of encode
calls None = refl
calls (Some (callee.XPath f)) = function-meaning f
calls (Some (callee.Pmd f)) = pmd-meaning f

abbrev pub unplaced : Mention → Mention
unplaced (mention.Variable name from) = mention.Variable name 0
unplaced (mention.Call name count from) = mention.Call (name_called (callee_of name)) count 0
unplaced (mention.Argument role w from) = mention.Argument role w 0
unplaced (mention.Binds name) = mention.Binds name
unplaced (mention.Ends count) = mention.Ends count

abbrev pub operand_with : Tree → Written → List Mention → Operand
operand_with t w ms = record { tree = t; written = w; names = ms }

abbrev pub binding_with : List ℕ → Operand → Binding
binding_with name a = record { name = name; bound = a }

abbrev pub next_with : {Operator : Type 0} → Operator → Operand → Operator × Operand
next_with op a = (op, a)

abbrev pub compared_with : Compare → Operand → Option (Compare × Operand)
compared_with c a = Some (c, a)

abbrev pub bare : Operand → Operand
bare a = operand_with a.tree a.written (map unplaced a.names)

abbrev pub bare_binding : Binding → Binding
bare_binding b = binding_with b.name (bare b.bound)

abbrev pub bare_arguments : Arguments → Arguments
bare_arguments Closed = Closed
bare_arguments Open = Open
bare_arguments (Next from a more) = Next 0 (bare a) (bare_arguments more)

abbrev pub bare_next : {Operator : Type 0} → Operator × Operand → Operator × Operand
bare_next next = next_with next.0 (bare next.1)

abbrev pub bare_compared : Option (Compare × Operand) → Option (Compare × Operand)
bare_compared None = None
bare_compared (Some next) = compared_with next.0 (bare next.1)

abbrev pub bare_last : Option Operand → Option Operand
bare_last None = None
bare_last (Some a) = Some (bare a)

abbrev pub bare_behind : Behind → Behind
bare_behind (Test test ps) = Test test (map bare ps)
bare_behind (Called gs ps) = Called (bare_arguments gs) (map bare ps)
bare_behind (Predicates ps) = Predicates (map bare ps)

abbrev pub bare_value : (rule : Rule) → Value rule → Value rule
bare_value r.ExprTail v = map bare v
bare_value r.InBindings v = map bare_binding v
bare_value r.InBindingsTail v = map bare_binding v
bare_value r.LetBindings v = map bare_binding v
bare_value r.LetBindingsTail v = map bare_binding v
bare_value r.OrTail v = map bare v
bare_value r.AndTail v = map bare v
bare_value r.ComparisonTail v = bare_compared v
bare_value r.StringConcatTail v = map bare v
bare_value r.RangeTail v = bare_last v
bare_value r.AdditiveTail v = map bare_next v
bare_value r.MultiplicativeTail v = map bare_next v
bare_value r.UnionTail v = map bare v
bare_value r.IntersectExceptTail v = map bare_next v
bare_value r.SimpleMapTail v = map bare v
bare_value r.LeftOutOperator v = v
bare_value r.RelativePathExpr v = map bare v
bare_value r.RelativePathTail v = map bare v
bare_value r.AxisTail v = bare_behind v
bare_value r.NameTail v = bare_behind v
bare_value r.NodeTest v = v
bare_value r.KindTail v = v
bare_value r.PredicateList v = map bare v
bare_value r.Arguments v = bare_arguments v
bare_value r.ArgumentsTail v = bare_arguments v
bare_value r.VarName v = v
bare_value r.PlainName v = v
bare_value _ v = bare v

-- ---- what is made of bare things is bare

same : {w : Written} {t u : Tree} {ms ns : List Mention} → t ≡ u → ms ≡ ns → operand_with t w ms ≡ operand_with u w ns
same {w} {t} {u} {ms} {ns} e f = ap (λ (x : Tree). operand_with x w ms) e ∙ ap (λ (l : List Mention). operand_with u w l) f

joined : (ms ns : List Mention) {us : List Mention} → us ≡ map unplaced ns → map unplaced (ms ++ ns) ≡ map unplaced ms ++ us
joined ms ns e = map-append unplaced ms ns ∙ ap (λ (l : List Mention). map unplaced ms ++ l) (sym e)

trees_bare : (l : List Operand) → trees_of (map bare l) ≡ trees_of l
trees_bare [] = refl
trees_bare (a ∷ l) = ap (λ (ts : List Tree). a.tree ∷ ts) (trees_bare l)

names_bare : (l : List Operand) → names_of (map bare l) ≡ map unplaced (names_of l)
names_bare [] = refl
names_bare (a ∷ l) = ap (λ (ms : List Mention). map unplaced a.names ++ ms) (names_bare l) ∙ sym (map-append unplaced a.names (names_of l))

bare_chain : (c : Construct) (a : Operand) (l : List Operand) → bare (chain c a l) ≡ chain c (bare a) (map bare l)
bare_chain c a [] = refl
bare_chain c a (b ∷ l) =
    same (ap (λ (ts : List Tree). node c (a.tree ∷ b.tree ∷ ts)) (sym (trees_bare l)))
    (joined a.names (b.names ++ names_of l) (sym (joined b.names (names_of l) (names_bare l))))

module _ {Operator : Type 0} where
  operations_bare : (l : List (Operator × Operand)) → operations (map bare_next l) ≡ operations l
  operations_bare [] = refl
  operations_bare (x ∷ l) = ap (λ (ts : List (Operator × Tree)). (x.0, x.1.tree) ∷ ts) (operations_bare l)

  behind_bare : (l : List (Operator × Operand)) → names_behind (map bare_next l) ≡ map unplaced (names_behind l)
  behind_bare [] = refl
  behind_bare (x ∷ l) = ap (λ (ms : List Mention). map unplaced x.1.names ++ ms) (behind_bare l) ∙ sym (map-append unplaced x.1.names (names_behind l))

  bare_mixed : (c : List Operator → Construct) (a : Operand) (l : List (Operator × Operand)) → bare (mixed c a l) ≡ mixed c (bare a) (map bare_next l)
  bare_mixed c a [] = refl
  bare_mixed c a (x ∷ l) =
      same (ap (λ (ts : List (Operator × Tree)). operated c a.tree ((x.0, x.1.tree) ∷ ts)) (sym (operations_bare l)))
      (joined a.names (x.1.names ++ names_behind l) (sym (joined x.1.names (names_behind l) (behind_bare l))))

bare_comparison : (a : Operand) (s : Option (Compare × Operand)) → bare (compared a s) ≡ compared (bare a) (bare_compared s)
bare_comparison a None = refl
bare_comparison a (Some next) = same refl (map-append unplaced a.names next.1.names)

bare_range : (a : Operand) (s : Option Operand) → bare (ranging a s) ≡ ranging (bare a) (bare_last s)
bare_range a None = refl
bare_range a (Some last) = same refl (map-append unplaced a.names last.names)

bindings_bare : (l : List Binding) → bindings_of (map bare_binding l) ≡ bindings_of l
bindings_bare [] = refl
bindings_bare (x ∷ l) = ap (λ (ts : List (List ℕ × Tree)). (x.name, x.bound.tree) ∷ ts) (bindings_bare l)

scoped_bare : (l : List Binding) (n : ℕ) (ms : List Mention) → map unplaced (scoped (scopes_of l) n ms) ≡ scoped (scopes_of (map bare_binding l)) n (map unplaced ms)
scoped_bare [] n ms = map-append unplaced ms (mention.Ends n ∷ [])
scoped_bare (x ∷ l) n ms =
    joined x.bound.names (mention.Binds x.name ∷ scoped (scopes_of l) (n + 1) ms)
    (ap (λ (us : List Mention). mention.Binds x.name ∷ us) (sym (scoped_bare l (n + 1) ms)))

bare_bound : (c : List (List ℕ) → Construct) (l : List Binding) (a : Operand) → bare (bound c l a) ≡ bound c (map bare_binding l) (bare a)
bare_bound c l a = same (ap (λ (ts : List (List ℕ × Tree)). binder c ts a.tree) (sym (bindings_bare l))) (scoped_bare l 0 a.names)

bare_chosen : (a b c : Operand) → bare (chosen a b c) ≡ chosen (bare a) (bare b) (bare c)
bare_chosen a b c = same refl (map-append unplaced (a.names ++ b.names) c.names ∙ ap (λ (l : List Mention). l ++ map unplaced c.names) (map-append unplaced a.names b.names))

bare_rooted : (l : List Operand) → bare (rooted l) ≡ rooted (map bare l)
bare_rooted l = same (ap (λ (ts : List Tree). node tree.Path (alone tree.Root ∷ ts)) (sym (trees_bare l))) (sym (names_bare l))

bare_path : (l : List Operand) → bare (path l) ≡ path (map bare l)
bare_path [] = refl
bare_path (a ∷ []) = refl
bare_path (a ∷ b ∷ l) =
    same (ap (λ (ts : List Tree). node tree.Path (a.tree ∷ b.tree ∷ ts)) (sym (trees_bare l)))
    (joined a.names (b.names ++ names_of l) (sym (joined b.names (names_of l) (names_bare l))))

-- an expression of predicates alone
bare_with : (made : List Tree → Tree) (l : List Operand) → bare (other (made (trees_of l)) (names_of l)) ≡ other (made (trees_of (map bare l))) (names_of (map bare l))
bare_with made l = same (ap made (sym (trees_bare l))) (sym (names_bare l))

bare_filtered : (a : Operand) (l : List Operand) → bare (filtered a l) ≡ filtered (bare a) (map bare l)
bare_filtered a [] = refl
bare_filtered a (b ∷ l) =
    same (ap (λ (ts : List Tree). node tree.Filter (a.tree ∷ b.tree ∷ ts)) (sym (trees_bare l)))
    (joined a.names (b.names ++ names_of l) (sym (joined b.names (names_of l) (names_bare l))))

arguments_bare : (gs : Arguments) → trees_of (arguments_in (bare_arguments gs)) ≡ trees_of (arguments_in gs)
arguments_bare Closed = refl
arguments_bare Open = refl
arguments_bare (Next from a more) = ap (λ (ts : List Tree). a.tree ∷ ts) (arguments_bare more)

count_bare : (gs : Arguments) → length (arguments_in (bare_arguments gs)) ≡ length (arguments_in gs)
count_bare Closed = refl
count_bare Open = refl
count_bare (Next from a more) = ap suc (count_bare more)

closed_bare : (gs : Arguments) → is_closed (bare_arguments gs) ≡ is_closed gs
closed_bare Closed = refl
closed_bare Open = refl
closed_bare (Next from a more) = closed_bare more

judged_bare : (more : Arguments) (m : Mention) → judged (bare_arguments more) (unplaced m) ≡ map unplaced (judged more m)
judged_bare Closed m = refl
judged_bare Open m = refl
judged_bare (Next from a more) m = refl

roles_bare : (roles : List Role) (gs : Arguments) → in_roles roles (bare_arguments gs) ≡ map unplaced (in_roles roles gs)
roles_bare [] Closed = refl
roles_bare (role ∷ roles) Closed = refl
roles_bare [] Open = refl
roles_bare (role ∷ roles) Open = refl
roles_bare [] (Next from a more) = sym (joined a.names (in_roles [] more) (roles_bare [] more))
roles_bare (role ∷ roles) (Next from a more) =
    let argument = mention.Argument role a.written from in
    ap (λ (ms : List Mention). ms ++ (map unplaced a.names ++ in_roles roles (bare_arguments more))) (judged_bare more argument)
    ∙ sym (joined (judged more argument) (a.names ++ in_roles roles more) (sym (joined a.names (in_roles roles more) (roles_bare roles more))))

told_unplaced : (closed : Bool) (callee : Option Callee) (m : Mention) → map unplaced (told closed callee m) ≡ told closed callee (unplaced m)
told_unplaced true callee m = refl
told_unplaced false None m = refl
told_unplaced false (Some callee) m = refl

told_bare : (name : List ℕ) (from : ℕ) (gs : Arguments) → map unplaced (told (is_closed gs) (callee_of name) (mention.Call name (length (arguments_in gs)) from)) ≡
    told (is_closed (bare_arguments gs)) (callee_of name) (mention.Call (name_called (callee_of name)) (length (arguments_in (bare_arguments gs))) 0)
told_bare name from gs =
    told_unplaced (is_closed gs) (callee_of name) (mention.Call name (length (arguments_in gs)) from)
    ∙ ap (λ (closed : Bool). told closed (callee_of name) (mention.Call (name_called (callee_of name)) (length (arguments_in gs)) 0)) (sym (closed_bare gs))
    ∙ ap (λ (n : ℕ). told (is_closed (bare_arguments gs)) (callee_of name) (mention.Call (name_called (callee_of name)) n 0)) (sym (count_bare gs))

-- a call of a function without the offset of its name
abbrev call_of : Option Callee → Arguments → List Operand → Operand
call_of called gs ps =
    other (forms.filtered (forms.called called (trees_of (arguments_in gs))) (trees_of ps))
    (told (is_closed gs) called (mention.Call (name_called called) (length (arguments_in gs)) 0) ++ (in_roles (roles_in called) gs ++ names_of ps))

bare_call : (name : List ℕ) (from : ℕ) (gs : Arguments) (ps : List Operand) → bare (call name from gs ps) ≡ call_of (callee_of name) (bare_arguments gs) (map bare ps)
bare_call name from gs ps =
    let behind = in_roles (roles_named name) gs ++ names_of ps in
    same
    (ap (λ (ts : List Tree). forms.filtered (forms.called (callee_of name) ts) (trees_of ps)) (sym (arguments_bare gs))
    ∙ ap (λ (ts : List Tree). forms.filtered (forms.called (callee_of name) (trees_of (arguments_in (bare_arguments gs)))) ts) (sym (trees_bare ps)))
    (map-append unplaced (told (is_closed gs) (callee_of name) (mention.Call name (length (arguments_in gs)) from)) behind
    ∙ ap (λ (ms : List Mention). ms ++ map unplaced behind) (told_bare name from gs)
    ∙ ap (λ (ms : List Mention). told (is_closed (bare_arguments gs)) (callee_of name) (mention.Call (name_called (callee_of name)) (length (arguments_in (bare_arguments gs))) 0) ++ ms)
    (joined (in_roles (roles_named name) gs) (names_of ps) (names_bare ps)
    ∙ ap (λ (ms : List Mention). ms ++ names_of (map bare ps)) (sym (roles_bare (roles_named name) gs))))

-- a step whose first token is a name
abbrev bare_named : List ℕ → Behind → Operand
bare_named name (Test test ps) = axis_step name test ps
bare_named name (Called gs ps) = call_of (callee_of name) gs ps
bare_named name (Predicates ps) = child_step (tests.Name name) ps

bare_named_is : (xs : List Lexed) (name : List ℕ) (b : Behind) → bare (named xs name b) ≡ bare_named name (bare_behind b)
bare_named_is xs name (Test test ps) = bare_with (λ ts. forms.along (axis_of name) test ts) ps
bare_named_is xs name (Called gs ps) = bare_call name (first_from xs) gs ps
bare_named_is xs name (Predicates ps) = bare_with (λ ts. forms.child_step (tests.Name name) ts) ps

-- ---- what is made of things that agree agrees

by_one : {A C : Type 0} (made : A → C) (f : A → A) (h : C → C) → ((a : A) → h (made a) ≡ made (f a)) → (a b : A) → f a ≡ f b → h (made a) ≡ h (made b)
by_one made f h go a b e = go a ∙ ap made e ∙ sym (go b)

by_two : {A B C : Type 0} (made : A → B → C) (f : A → A) (g : B → B) (h : C → C) → ((a : A) (x : B) → h (made a x) ≡ made (f a) (g x))
    → (a b : A) (x y : B) → f a ≡ f b → g x ≡ g y → h (made a x) ≡ h (made b y)
by_two made f g h go a b x y e d = go a x ∙ ap (λ z. made z (g x)) e ∙ ap (λ z. made (f b) z) d ∙ sym (go b y)

pub cons_agree : {A : Type 0} (f : A → A) (a b : A) (l m : List A) → f a ≡ f b → map f l ≡ map f m → map f (a ∷ l) ≡ map f (b ∷ m)
cons_agree f a b l m e d = ap (λ z. z ∷ map f l) e ∙ ap (λ zs. f b ∷ zs) d

pub chain_agree : (c : Construct) (a b : Operand) (l m : List Operand) → bare a ≡ bare b → map bare l ≡ map bare m → bare (chain c a l) ≡ bare (chain c b m)
chain_agree c = by_two (chain c) bare (map bare) bare (bare_chain c)

pub mixed_agree : {Operator : Type 0} (c : List Operator → Construct) (a b : Operand) (l m : List (Operator × Operand)) → bare a ≡ bare b → map bare_next l ≡ map bare_next m
    → bare (mixed c a l) ≡ bare (mixed c b m)
mixed_agree c = by_two (mixed c) bare (map bare_next) bare (bare_mixed c)

pub next_agree : {Operator : Type 0} (op : Operator) (a b : Operand) (l m : List (Operator × Operand)) → bare a ≡ bare b → map bare_next l ≡ map bare_next m
    → map bare_next (next_with op a ∷ l) ≡ map bare_next (next_with op b ∷ m)
next_agree op a b l m e d = cons_agree bare_next (next_with op a) (next_with op b) l m (ap (next_with op) e) d

pub comparison_agree : (a b : Operand) (s u : Option (Compare × Operand)) → bare a ≡ bare b → bare_compared s ≡ bare_compared u → bare (compared a s) ≡ bare (compared b u)
comparison_agree = by_two compared bare bare_compared bare bare_comparison

pub compared_agree : (c : Compare) (a b : Operand) → bare a ≡ bare b → bare_compared (compared_with c a) ≡ bare_compared (compared_with c b)
compared_agree c a b e = ap (compared_with c) e

pub range_agree : (a b : Operand) (s u : Option Operand) → bare a ≡ bare b → bare_last s ≡ bare_last u → bare (ranging a s) ≡ bare (ranging b u)
range_agree = by_two ranging bare bare_last bare bare_range

pub last_agree : (a b : Operand) → bare a ≡ bare b → bare_last (Some a) ≡ bare_last (Some b)
last_agree a b e = ap Some e

pub signed_agree : (sign : Sign) (a b : Operand) → bare a ≡ bare b → bare (signed sign a) ≡ bare (signed sign b)
signed_agree sign = by_one (signed sign) bare bare (λ a. refl)

pub bound_agree : (c : List (List ℕ) → Construct) (l m : List Binding) (a b : Operand) → map bare_binding l ≡ map bare_binding m → bare a ≡ bare b → bare (bound c l a) ≡ bare (bound c m b)
bound_agree c = by_two (bound c) (map bare_binding) bare bare (bare_bound c)

pub binding_agree : (v w : List ℕ) (a b : Operand) (l m : List Binding) → v ≡ w → bare a ≡ bare b → map bare_binding l ≡ map bare_binding m
    → map bare_binding (binding_with v a ∷ l) ≡ map bare_binding (binding_with w b ∷ m)
binding_agree v w a b l m n e d =
    cons_agree bare_binding (binding_with v a) (binding_with w b) l m
    (ap (λ (z : List ℕ). binding_with z (bare a)) n ∙ ap (binding_with w) e) d

pub chosen_agree : (a a' b b' c c' : Operand) → bare a ≡ bare a' → bare b ≡ bare b' → bare c ≡ bare c' → bare (chosen a b c) ≡ bare (chosen a' b' c')
chosen_agree a a' b b' c c' e f g =
    bare_chosen a b c ∙ ap (λ z. chosen z (bare b) (bare c)) e ∙ ap (λ z. chosen (bare a') z (bare c)) f ∙ ap (λ z. chosen (bare a') (bare b') z) g ∙ sym (bare_chosen a' b' c')

pub rooted_agree : (l m : List Operand) → map bare l ≡ map bare m → bare (rooted l) ≡ bare (rooted m)
rooted_agree = by_one rooted (map bare) bare bare_rooted

pub path_agree : (l m : List Operand) → map bare l ≡ map bare m → bare (path l) ≡ bare (path m)
path_agree = by_one path (map bare) bare bare_path

pub filtered_agree : (a b : Operand) (l m : List Operand) → bare a ≡ bare b → map bare l ≡ map bare m → bare (filtered a l) ≡ bare (filtered b m)
filtered_agree = by_two filtered bare (map bare) bare bare_filtered

-- steps with their predicates
pub with_agree : (made : List Tree → Tree) (l m : List Operand) → map bare l ≡ map bare m → bare (other (made (trees_of l)) (names_of l)) ≡ bare (other (made (trees_of m)) (names_of m))
with_agree made = by_one (λ ps. other (made (trees_of ps)) (names_of ps)) (map bare) bare (bare_with made)

pub attribute_agree : (t u : NodeTest) (l m : List Operand) → t ≡ u → map bare l ≡ map bare m → bare (attribute_step t l) ≡ bare (attribute_step u m)
attribute_agree t u l m e d = ap (λ (z : NodeTest). bare (attribute_step z l)) e ∙ with_agree (λ ts. node (tree.AttributeStep u) ts) l m d

pub child_agree : (t u : NodeTest) (l m : List Operand) → t ≡ u → map bare l ≡ map bare m → bare (child_step t l) ≡ bare (child_step u m)
child_agree t u l m e d = ap (λ (z : NodeTest). bare (child_step z l)) e ∙ with_agree (λ ts. forms.child_step u ts) l m d

pub step_agree : (axis : Axis) (t : NodeTest) (l m : List Operand) → map bare l ≡ map bare m → bare (step axis t l) ≡ bare (step axis t m)
step_agree axis t = with_agree (λ ts. node (tree.Step axis t) ts)

pub kind_agree : (k : NodeTest) (v w : List ℕ) (p q : Bool) → v ≡ w → p ≡ q → kind_test k v p ≡ kind_test k w q
kind_agree k v w p q e f = ap (λ (z : List ℕ). kind_test k z p) e ∙ ap (λ (z : Bool). kind_test k w z) f

pub named_agree : (xs ys : List Lexed) (v w : List ℕ) (b c : Behind) → v ≡ w → bare_behind b ≡ bare_behind c → bare (named xs v b) ≡ bare (named ys w c)
named_agree xs ys v w b c e d =
    bare_named_is xs v b ∙ ap (λ (z : List ℕ). bare_named z (bare_behind b)) e ∙ ap (λ (z : Behind). bare_named w z) d ∙ sym (bare_named_is ys w c)

pub test_agree : (t u : NodeTest) (l m : List Operand) → t ≡ u → map bare l ≡ map bare m → bare_behind (Test t l) ≡ bare_behind (Test u m)
test_agree t u l m e d = ap (λ (z : NodeTest). Test z (map bare l)) e ∙ ap (λ (z : List Operand). Test u z) d

pub called_agree : (gs hs : Arguments) (l m : List Operand) → bare_arguments gs ≡ bare_arguments hs → map bare l ≡ map bare m → bare_behind (Called gs l) ≡ bare_behind (Called hs m)
called_agree gs hs l m e d = ap (λ (z : Arguments). Called z (map bare l)) e ∙ ap (λ (z : List Operand). Called (bare_arguments hs) z) d

-- calls of one function by two names
pub function_agree : (xs ys : List Lexed) (v w : List ℕ) (gs hs : Arguments) (l m : List Operand) → callee_of v ≡ callee_of w → bare_arguments gs ≡ bare_arguments hs → map bare l ≡ map bare m
    → bare (named xs v (Called gs l)) ≡ bare (named ys w (Called hs m))
function_agree xs ys v w gs hs l m e d f =
    bare_named_is xs v (Called gs l)
    ∙ ap (λ (called : Option Callee). call_of called (bare_arguments gs) (map bare l)) e
    ∙ ap (λ (z : Behind). bare_named w z) (called_agree gs hs l m d f)
    ∙ sym (bare_named_is ys w (Called hs m))

pub predicates_agree : (l m : List Operand) → map bare l ≡ map bare m → bare_behind (Predicates l) ≡ bare_behind (Predicates m)
predicates_agree l m d = ap Predicates d

pub argument_agree : (xs ys : List Lexed) (a b : Operand) (gs hs : Arguments) → bare a ≡ bare b → bare_arguments gs ≡ bare_arguments hs
    → bare_arguments (Next (first_from xs) a gs) ≡ bare_arguments (Next (first_from ys) b hs)
argument_agree xs ys a b gs hs e d = ap (λ (z : Operand). Next 0 z (bare_arguments gs)) e ∙ ap (λ (z : Arguments). Next 0 (bare b) z) d

pub integer_agree : (xs ys : List Lexed) → first_text xs ≡ first_text ys → bare (integer_literal xs) ≡ bare (integer_literal ys)
integer_agree xs ys e = ap (λ (z : List ℕ). operand_with (alone (tree.Integer (integer_of z))) written.Number []) e

pub string_agree : (xs ys : List Lexed) → string_of (first_text xs) ≡ string_of (first_text ys) → bare (string_literal xs) ≡ bare (string_literal ys)
string_agree xs ys e = ap (λ (z : List ℕ). operand_with (alone (tree.String z)) (written.Literal z) []) e

pub variable_agree : (xs ys : List Lexed) (v w : List ℕ) → v ≡ w → bare (variable xs v) ≡ bare (variable ys w)
variable_agree xs ys v w e = ap (λ (z : List ℕ). operand_with (alone (tree.Variable z)) (written.Name z) (mention.Variable z 0 ∷ [])) e

pub enclosed_agree : (a b : Operand) → bare a ≡ bare b → bare (other a.tree a.names) ≡ bare (other b.tree b.names)
enclosed_agree a b e = ap (λ (z : Operand). other z.tree z.names) e

-- ---- what is named has a fault with its offsets where it has one without

-- the same but for the offset
abbrev is_free : Option Fault → Bool
is_free None = true
is_free (Some f) = false

unless_free : (good : Bool) (f g : Fault) → is_free (unless good f) ≡ is_free (unless good g)
unless_free true f g = refl
unless_free false f g = refl

free_in : (scope : Scope) (m : Mention) → is_free (fault_in scope m) ≡ is_free (fault_in scope (unplaced m))
free_in scope (mention.Variable name from) = unless_free (is_bound name scope) (fault.Variable name from) (fault.Variable name 0)
free_in scope (mention.Call name count from) =
    let called = name_called (callee_of name) in
    unless_free (is_function name count) (fault.Function name from) (fault.Function called 0)
    ∙ ap (λ (c : Option Callee). is_free (unless (callee_takes c count) (fault.Function called 0))) (sym (calls (callee_of name)))
free_in scope (mention.Argument role w from) = unless_free (fits_role role scope w) (fault.Form from) (fault.Form 0)
free_in scope (mention.Binds name) = refl
free_in scope (mention.Ends count) = refl

scope_same : (scope : Scope) (m : Mention) → scope_behind scope m ≡ scope_behind scope (unplaced m)
scope_same scope (mention.Variable name from) = refl
scope_same scope (mention.Call name count from) = refl
scope_same scope (mention.Argument role w from) = refl
scope_same scope (mention.Binds name) = refl
scope_same scope (mention.Ends count) = refl

earlier_free : (o p q u : Option Fault) → is_free o ≡ is_free p → is_free q ≡ is_free u → is_free (earlier o q) ≡ is_free (earlier p u)
earlier_free None None q u e f = f
earlier_free None (Some x) q u e f = absurd (false≢true (sym e))
earlier_free (Some x) None q u e f = absurd (false≢true e)
earlier_free (Some x) (Some y) q u e f = refl

free_bare : (scope : Scope) (ms : List Mention) → is_free (first_fault_from scope ms) ≡ is_free (first_fault_from scope (map unplaced ms))
free_bare scope [] = refl
free_bare scope (m ∷ ms) =
    earlier_free (fault_in scope m) (fault_in scope (unplaced m)) (first_fault_from (scope_behind scope m) ms) (first_fault_from (scope_behind scope (unplaced m)) (map unplaced ms))
    (free_in scope m) (free_bare (scope_behind scope m) ms ∙ ap (λ (s : Scope). is_free (first_fault_from s (map unplaced ms))) (scope_same scope m))

none_of : (o : Option Fault) → is_free o ≡ true → o ≡ None
none_of None e = refl
none_of (Some f) e = absurd (false≢true e)

pub fault_free : (variables : List (List ℕ)) (ms ns : List Mention) → map unplaced ms ≡ map unplaced ns → first_fault variables ms ≡ None → first_fault variables ns ≡ None
fault_free variables ms ns e none =
    let scope : Scope = record { given = variables; bound = [] } in
    none_of (first_fault variables ns)
    (free_bare scope ns ∙ ap (λ (l : List Mention). is_free (first_fault_from scope l)) (sym e) ∙ sym (free_bare scope ms) ∙ ap is_free none)
