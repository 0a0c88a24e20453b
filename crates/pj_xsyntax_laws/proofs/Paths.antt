-- Paths, and a `/` alone.
use Rattle.std.proofs.Common.{◌≡◌, ◌∙◌, ℕ, ◌+◌, ◌≤◌, List, [], ◌∷◌, ◌++◌, Bool, true, false, cond, length, max, refl, sym, ap, subst, arith}
use Rattle.std.specs.Prelude.{IsTrue, nat_eq, nat_lt}
use Rattle.std.proofs.lemmas.Bool.{eqb-true, eqb-false, false≢true, ltb-true, ltb-false, lt-ltb, le-ltb}
use Rattle.pj_xtokens.specs.Tokens.{Lexed, lexed}
use Rattle.pj_xtokens.specs.declared.token.Sign.TheVariants as s
use Rattle.pj_xgrammar.specs.declared.rule.Rule.TheVariants as r
use Rattle.pj_xgrammar.specs.declared.terminal.Behind.TheVariants as b
use Rattle.pj_xgrammar.specs.declared.terminal.Terminal.TheVariants as terminal
use Rattle.pj_xgrammar.specs.Notation as symbol
use Rattle.pj_xgrammar.specs.Terminals.{first_behind, begins_step, terminal_number}
use Rattle.pj_xsyntax_laws.specs.Spaced.{Word, placed}
use Rattle.pj_xexpressions.specs.declared.axis.Axis.TheVariants as axis
use Rattle.pj_xexpressions.specs.declared.expr.NodeTest.TheVariants as test
use Rattle.pj_xexpressions.specs.Expressions.{Scope, Other}
use Rattle.pj_xexpressions.specs.Trees as tree
use Rattle.pj_xexpressions.specs.Trees.{Tree, Trees, Construct, Node, NoMore, More, node, alone}
use Rattle.pj_xreadings.specs.Steps.{descendants}
use Rattle.pj_xreadings.specs.Operands as value
use Rattle.pj_xreadings.specs.Operands.{Operand, names_of, trees_of}
use Rattle.pj_xmeaning.specs.Reach.{All}
use Rattle.pj_xmeaning.specs.Reads as relation
use Rattle.pj_xmeaning.specs.Reads.{Takes, token, from_root, from_descendants, relative, path_steps, next_step, next_descendants, steps_end}
use Rattle.pj_xreadings.specs.Nesting.{operand_before, step_before, further_before, is_descendants_by, nested_of, nested_each}
use Rattle.pj_xreadings.specs.Shapes.{part_of_tree}
use Rattle.pj_xsyntax_laws.specs.Printed.{operand, enclosed, from_step, further_steps, printed_of, printed_each, slash, slashes}
use Rattle.pj_xsyntax_laws.proofs.Follows.{follows, follows-step}
use Rattle.pj_xsyntax_laws.proofs.Levels.{nested-level, printed-length}
use Rattle.pj_xsyntax_laws.proofs.Mentions.{Clean, clean-append, clean-nil}
use Rattle.pj_xsyntax_laws.proofs.Readings.{Reading, ReadsAt, Reads, EachReads, no_parts, more_parts, list_of, list_is, operand_of, at, next, past, as_reading, together}
use Rattle.pj_xsyntax_laws.proofs.Climbing.{descend}
use Rattle.pj_xsyntax_laws.proofs.Enclosing.{enclosed_primary}
use Rattle.pj_xsyntax_laws.proofs.Operands.{bare_primary, operand_reads}
use Rattle.pj_xsyntax_laws.proofs.Primaries.{operand_begins}
use Rattle.pj_xsyntax_laws.proofs.Constructs.{low_reads}
use Rattle.pj_xsyntax_laws.proofs.Tails.{max-left, max-right}
use Rattle.pj_xsyntax_laws.proofs.WholeReadings.{reading}

-- ---- a `/` alone

bare_slash : (scope : Scope) → ReadsAt false 14 (slash ∷ []) 0 scope Other (Node tree.Root NoMore)
bare_slash scope = record {
  reads = λ depth from ys h quiet.
      let few : depth ≤ 200 = omega (arith, h) in
      record { names = []; reads = reading (relation.root (token (ap (λ c. terminal_number (cond c (terminal.Sign s.Slash) terminal.LoneSlash)) (follows-step (first_behind b.End ys) quiet)) few)); clean = clean-nil scope };
}

slash_reads : (scope : Scope) (flag : Bool) → ReadsAt flag 14 (cond flag (enclosed (slash ∷ [])) (slash ∷ [])) (cond flag 1 0) scope Other (Node tree.Root NoMore)
slash_reads scope true = descend 15 14 (omega arith) (bare_primary true (enclosed_primary (descend 14 0 (omega arith) (bare_slash scope))))
slash_reads scope false = bare_slash scope

pub root_reads : (scope : Scope) → Reads scope (Node tree.Root NoMore)
unfolding printed_of nested_of
root_reads scope = low_reads scope tree.Root NoMore refl (slash_reads scope)

-- ---- the step that `//` stands for

descendants_by : (c : Construct) (ts : Trees) → is_descendants_by c (length (printed_each ts)) ≡ true → Node c ts ≡ descendants
unfolding printed_of
descendants_by (tree.Step axis.DescendantOrSelf test.AnyNode) NoMore d = refl
descendants_by (tree.Step axis.DescendantOrSelf test.AnyNode) (More t ts) d =
    let none : length (printed_of t ∷ printed_each ts) ≡ 0 = eqb-true (length (printed_of t ∷ printed_each ts)) 0 d in absurd (omega arith)
descendants_by _ ts d = absurd (false≢true d)

descendants_is : (t : Tree) → (printed_of t).is_descendants ≡ true → t ≡ descendants
unfolding printed_of
descendants_is (Node c ts) d = descendants_by c ts d

same_descendants : (t : Tree) → (printed_of t).is_descendants ≡ (nested_of t).is_descendants
unfolding printed_of nested_of
same_descendants (Node c ts) = ap (is_descendants_by c) (printed-length ts)

-- ---- steps

-- a step, and those behind it
record Pair (depth : ℕ) (xs zs : List Lexed) (scope : Scope) (ts : List Tree) : Type 0 where
  ys : List Lexed
  first : Operand
  more : List Operand
  first_reads : relation.Reads All r.StepExpr depth xs ys first
  more_reads : relation.Reads All r.RelativePathTail depth ys zs more
  begins : IsTrue (begins_step (first_behind b.End xs))
  trees_are : first.tree ∷ trees_of more ≡ ts
  clean : Clean scope (names_of (first ∷ more))

-- steps behind a `/` or a `//`
data Further (depth : ℕ) (xs zs : List Lexed) (scope : Scope) : List Tree → Type 0 where
  on_slash : {ys : List Lexed} {ts : List Tree} → Takes All depth (symbol.t "/") xs ys → Pair depth ys zs scope ts → Further depth xs zs scope ts
  on_slashes : {ys : List Lexed} {ts : List Tree} → Takes All depth (symbol.t "//") xs ys → Pair depth ys zs scope ts → Further depth xs zs scope (descendants ∷ ts)

-- as the rest of a path
record Tail (depth : ℕ) (xs zs : List Lexed) (scope : Scope) (ts : List Tree) : Type 0 where
  first : Operand
  more : List Operand
  reads : relation.Reads All r.RelativePathTail depth xs zs (first ∷ more)
  trees_are : first.tree ∷ trees_of more ≡ ts
  clean : Clean scope (names_of (first ∷ more))

tail_of : {depth : ℕ} {xs zs : List Lexed} {scope : Scope} {ts : List Tree} → Further depth xs zs scope ts → Tail depth xs zs scope ts
tail_of (on_slash k pair) = record { first = pair.first; more = pair.more; reads = reading (next_step k pair.first_reads pair.more_reads); trees_are = pair.trees_are; clean = pair.clean }
tail_of (on_slashes k pair) = record {
  first = value.descendants;
  more = pair.first ∷ pair.more;
  reads = reading (next_descendants k pair.first_reads pair.more_reads);
  trees_are = ap (λ l. descendants ∷ l) pair.trees_are;
  clean = pair.clean;
}

-- as a path from the root
rooted_of : {depth : ℕ} {xs zs : List Lexed} {scope : Scope} {ts : List Tree} → Further depth xs zs scope ts → Reading (at 14) depth xs zs scope Other (node tree.Path (alone tree.Root ∷ ts))
rooted_of (on_slash k pair) =
    as_reading (names_of (pair.first ∷ pair.more)) (reading (from_root {steps = pair.first ∷ pair.more} k (reading (path_steps pair.first_reads pair.more_reads))))
    (ap (λ l. node tree.Path (alone tree.Root ∷ l)) pair.trees_are) pair.clean
rooted_of (on_slashes k pair) =
    as_reading (names_of (pair.first ∷ pair.more)) (reading (from_descendants {steps = pair.first ∷ pair.more} k (reading (path_steps pair.first_reads pair.more_reads))))
    (ap (λ l. node tree.Path (alone tree.Root ∷ descendants ∷ l)) pair.trees_are) pair.clean

-- a step alone
pair_one : {scope : Scope} (t : Tree) → Reads scope t → (flag : Bool) (depth from : ℕ) (ys : List Lexed) → depth + operand_before flag 15 (nested_of t) ≤ 200
    → IsTrue (follows flag (first_behind b.End ys)) → Pair depth (placed from (operand flag 15 (printed_of t)) ++ ys) ys scope (t ∷ [])
pair_one {scope} t it flag depth from ys h quiet =
    let first = (operand_reads scope t it flag 15 (omega arith)).reads depth from ys h quiet in
    record {
      ys = ys;
      first = operand_of t (part_of_tree t).written first.names;
      more = [];
      first_reads = first.reads;
      more_reads = reading steps_end;
      begins = operand_begins scope t it 15 (omega arith) flag from ys;
      trees_are = refl;
      clean = clean-append scope first.names [] first.clean (clean-nil scope);
    }

-- a step before others
pair_more : {scope : Scope} (t : Tree) → Reads scope t → (depth from : ℕ) (ys : List Lexed) (us : List Word) (ts : List Tree) → depth + operand_before false 15 (nested_of t) ≤ 200
    → IsTrue (follows false (first_behind b.End (placed (next from (operand false 15 (printed_of t))) us ++ ys))) → Tail depth (placed (next from (operand false 15 (printed_of t))) us ++ ys) ys scope ts
    → Pair depth (placed from (operand false 15 (printed_of t) ++ us) ++ ys) ys scope (t ∷ ts)
pair_more {scope} t it depth from ys us ts h quiet others =
    let ws = operand false 15 (printed_of t) in
    let behind = placed (next from ws) us ++ ys in
    let first = (operand_reads scope t it false 15 (omega arith)).reads depth from behind h quiet in
    together (λ xs. Pair depth xs ys scope (t ∷ ts)) from ws us ys (record {
      ys = behind;
      first = operand_of t (part_of_tree t).written first.names;
      more = others.first ∷ others.more;
      first_reads = first.reads;
      more_reads = others.reads;
      begins = operand_begins scope t it 15 (omega arith) false from behind;
      trees_are = ap (λ l. t ∷ l) others.trees_are;
      clean = clean-append scope first.names (names_of (others.first ∷ others.more)) first.clean others.clean;
    })

-- a `/` before what begins a step
behind_slash : {scope : Scope} {depth : ℕ} {xs ys : List Lexed} {ts : List Tree} (from : ℕ) → depth ≤ 200 → Pair depth xs ys scope ts → Further depth (lexed slash.kind slash.text from ∷ xs) ys scope ts
behind_slash from few pair = on_slash (token (ap (λ c. terminal_number (cond c (terminal.Sign s.Slash) terminal.LoneSlash)) pair.begins) few) pair

-- a `/` or a `//` may stand behind a step
signs_follow : (c : Bool) (us ws : List Word) (from : ℕ) (behind : List Lexed) → IsTrue (follows false (first_behind b.End (placed from (cond c (slashes ∷ us) (slash ∷ ws)) ++ behind)))
signs_follow true us ws from behind = refl
signs_follow false us ws from behind = refl

further_follow : (flag : Bool) (t : Tree) (ts : Trees) (from : ℕ) (behind : List Lexed) → IsTrue (follows false (first_behind b.End (placed from (further_steps flag (printed_of t) (printed_each ts)) ++ behind)))
unfolding printed_of
further_follow flag t NoMore from behind = refl
further_follow flag t (More u us) from behind =
    signs_follow (printed_of t).is_descendants (from_step flag (printed_of u) (printed_each us)) (operand false 15 (printed_of t) ++ further_steps flag (printed_of u) (printed_each us)) from behind

-- whether or not `//` stands for a step, of the words and of the nesting alike
way : (A : Bool → Type 0) (c d : Bool) → c ≡ d → (c ≡ true → d ≡ true → A true) → (c ≡ false → d ≡ false → A false) → A c
way A true true e x y = x refl refl
way A true false e x y = absurd (false≢true (sym e))
way A false true e x y = absurd (false≢true e)
way A false false e x y = y refl refl

-- how deep it nests then
short_nests : (d : Bool) (around short long : ℕ) → around + cond d short long ≤ 200 → d ≡ true → around + short ≤ 200
short_nests true around short long h e = h
short_nests false around short long h e = absurd (false≢true e)

long_nests : (d : Bool) (around short long : ℕ) → around + cond d short long ≤ 200 → d ≡ false → around + long ≤ 200
long_nests true around short long h e = absurd (false≢true (sym e))
long_nests false around short long h e = h

mutual
  unfolding printed_of nested_of

  -- a step and those behind it
  from_reads : {scope : Scope} (t : Tree) (ts : Trees) → Reads scope t → EachReads scope ts → (flag : Bool) (depth from : ℕ) (ys : List Lexed)
      → depth + step_before flag (nested_of t) (nested_each ts) ≤ 200 → IsTrue (follows flag (first_behind b.End ys))
      → Pair depth (placed from (from_step flag (printed_of t) (printed_each ts)) ++ ys) ys scope (t ∷ list_of ts)
  from_reads t _ it no_parts flag depth from ys h quiet = pair_one t it flag depth from ys h quiet
  from_reads t _ it (more_parts {t = u} {ts = us} it' its) flag depth from ys h quiet =
      let a = operand_before false 15 (nested_of t) in
      let c = further_before flag (nested_of u) (nested_each us) in
      let start = next from (operand false 15 (printed_of t)) in
      pair_more t it depth from ys (further_steps flag (printed_of u) (printed_each us)) (u ∷ list_of us) (max-left depth a c 200 h) (further_follow flag u us start ys)
      (tail_of (further_reads u us it' its flag depth start ys (max-right depth a c 200 h) quiet))

  -- and behind a `/` or a `//`
  further_reads : {scope : Scope} (t : Tree) (ts : Trees) → Reads scope t → EachReads scope ts → (flag : Bool) (depth from : ℕ) (ys : List Lexed)
      → depth + further_before flag (nested_of t) (nested_each ts) ≤ 200 → IsTrue (follows flag (first_behind b.End ys))
      → Further depth (placed from (further_steps flag (printed_of t) (printed_each ts)) ++ ys) ys scope (t ∷ list_of ts)
  further_reads t _ it no_parts flag depth from ys h quiet = behind_slash from (omega (arith, h)) (pair_one t it flag depth (past from slash) ys h quiet)
  further_reads {scope} t _ it (more_parts {t = u} {ts = us} it' its) flag depth from ys h quiet =
      let a = operand_before false 15 (nested_of t) in
      let c = further_before flag (nested_of u) (nested_each us) in
      let short = step_before flag (nested_of u) (nested_each us) in
      let ws = further_steps flag (printed_of u) (printed_each us) in
      let start = next (past from slash) (operand false 15 (printed_of t)) in
      way (λ x. Further depth (placed from (cond x (slashes ∷ from_step flag (printed_of u) (printed_each us)) (slash ∷ (operand false 15 (printed_of t) ++ ws))) ++ ys) ys scope (t ∷ u ∷ list_of us))
      (printed_of t).is_descendants (nested_of t).is_descendants (same_descendants t)
      (λ e d.
      let i = short_nests (nested_of t).is_descendants depth short (max a c) h d in
      subst (λ x. Further depth (placed from (slashes ∷ from_step flag (printed_of u) (printed_each us)) ++ ys) ys scope (x ∷ u ∷ list_of us)) (sym (descendants_is t e))
      (on_slashes (token refl (omega (arith, i))) (from_reads u us it' its flag depth (past from slashes) ys i quiet)))
      (λ e d.
      let i = long_nests (nested_of t).is_descendants depth short (max a c) h d in
      behind_slash from (omega (arith, i)) (pair_more t it depth (past from slash) ys ws (u ∷ list_of us) (max-left depth a c 200 i) (further_follow flag u us start ys)
      (tail_of (further_reads u us it' its flag depth start ys (max-right depth a c 200 i) quiet))))

-- steps that begin with a step
relative_reads : {scope : Scope} (first t : Tree) (ts : Trees) → Reads scope first → Reads scope t → EachReads scope ts → (flag : Bool)
    → ReadsAt flag 14 (operand false 15 (printed_of first) ++ further_steps flag (printed_of t) (printed_each ts)) (max (operand_before false 15 (nested_of first)) (further_before flag (nested_of t) (nested_each ts)))
    scope Other (Node tree.Path (More first (More t ts)))
relative_reads {scope} first t ts it it' its flag = record {
  reads = λ depth from ys h quiet.
      let ws = operand false 15 (printed_of first) in
      let us = further_steps flag (printed_of t) (printed_each ts) in
      let a = operand_before false 15 (nested_of first) in
      let c = further_before flag (nested_of t) (nested_each ts) in
      let start = next from ws in
      let others = tail_of (further_reads t ts it' its flag depth start ys (max-right depth a c 200 h) quiet) in
      let one = (operand_reads scope first it false 15 (omega arith)).reads depth from (placed start us ++ ys) (max-left depth a c 200 h) (further_follow flag t ts start ys) in
      let steps = operand_of first (part_of_tree first).written one.names ∷ others.first ∷ others.more in
      together (λ xs. Reading (at 14) depth xs ys scope Other (Node tree.Path (More first (More t ts)))) from ws us ys
      (as_reading (names_of steps) (reading (relative {steps = steps} (reading (path_steps one.reads others.reads))))
      (ap (λ l. node tree.Path (first ∷ l)) others.trees_are ∙ ap (λ l. Node tree.Path (More first (More t l))) (list_is ts)) (clean-append scope one.names (names_of (others.first ∷ others.more)) one.clean others.clean));
}

-- steps behind the root
rooted_reads : {scope : Scope} (t : Tree) (ts : Trees) → Reads scope t → EachReads scope ts → (flag : Bool)
    → ReadsAt flag 14 (further_steps flag (printed_of t) (printed_each ts)) (max 0 (further_before flag (nested_of t) (nested_each ts))) scope Other (Node tree.Path (More (Node tree.Root NoMore) (More t ts)))
rooted_reads {scope} t ts it its flag = record {
  reads = λ depth from ys h quiet.
      subst (λ l. Reading (at 14) depth (placed from (further_steps flag (printed_of t) (printed_each ts)) ++ ys) ys scope Other (Node tree.Path (More (Node tree.Root NoMore) (More t l)))) (list_is ts)
      (rooted_of (further_reads t ts it its flag depth from ys (max-right depth 0 (further_before flag (nested_of t) (nested_each ts)) 200 h) quiet));
}

-- ---- paths

same_low_case : (level : ℕ) → nat_eq level 14 ≡ false → (low : Bool) → nat_lt level 14 ≡ low → nat_lt level 15 ≡ low
same_low_case level e true h = let a = ltb-true level 14 h in lt-ltb level 15 (omega (arith, a))
same_low_case level e false h = let a = ltb-false level 14 h in let b = eqb-false level 14 e in le-ltb level 15 (omega (arith, a, b))

same_low : (level : ℕ) → nat_eq level 14 ≡ false → nat_lt level 15 ≡ nat_lt level 14
same_low level e = same_low_case level e (nat_lt level 14) refl

-- the first step stands behind the root, or is read as any other
path_case : {scope : Scope} (first t : Tree) (ts : Trees) → (nat_eq (printed_of first).level 14 ≡ true → first ≡ Node tree.Root NoMore) → Reads scope first → Reads scope t → EachReads scope ts
    → (flag is_root : Bool) → nat_eq (printed_of first).level 14 ≡ is_root
    → ReadsAt flag 14 (cond is_root (further_steps flag (printed_of t) (printed_each ts)) (operand false 14 (printed_of first) ++ further_steps flag (printed_of t) (printed_each ts)))
    (max (operand_before false 14 (nested_of first)) (further_before flag (nested_of t) (nested_each ts))) scope Other (Node tree.Path (More first (More t ts)))
unfolding printed_of nested_of
path_case {scope} first t ts root rf r rs flag true e =
    let c = further_before flag (nested_of t) (nested_each ts) in
    subst (λ x. ReadsAt flag 14 (further_steps flag (printed_of t) (printed_each ts)) (max (operand_before false 14 (nested_of x)) c) scope Other (Node tree.Path (More x (More t ts)))) (sym (root e)) (rooted_reads t ts r rs flag)
path_case {scope} first t ts root rf r rs flag false e =
    let c = further_before flag (nested_of t) (nested_each ts) in
    let us = further_steps flag (printed_of t) (printed_each ts) in
    let level = (printed_of first).level in
    let inside = (nested_of first).level in
    let e' : nat_eq inside 14 ≡ false = ap (λ l. nat_eq l 14) (sym (nested-level first)) ∙ e in
    subst (λ low. ReadsAt flag 14 (cond low (enclosed ((printed_of first).words false)) ((printed_of first).words false) ++ us) (max (operand_before false 14 (nested_of first)) c) scope Other (Node tree.Path (More first (More t ts)))) (same_low level e)
    (subst (λ low. ReadsAt flag 14 (operand false 15 (printed_of first) ++ us) (max (cond low (1 + (nested_of first).nesting false) ((nested_of first).nesting false)) c) scope Other (Node tree.Path (More first (More t ts)))) (same_low inside e')
    (relative_reads first t ts rf r rs flag))

pub path_reads : (scope : Scope) (first t : Tree) (ts : Trees) → (nat_eq (printed_of first).level 14 ≡ true → first ≡ Node tree.Root NoMore) → Reads scope first → Reads scope t → EachReads scope ts
    → Reads scope (Node tree.Path (More first (More t ts)))
unfolding printed_of nested_of
path_reads scope first t ts root rf r rs =
    low_reads scope tree.Path (More first (More t ts)) refl (λ flag. descend 14 13 (omega arith) (path_case first t ts root rf r rs flag (nat_eq (printed_of first).level 14) refl))
