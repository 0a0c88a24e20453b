-- What tokens name stands in its order where they stand. Bounds are twice an offset.
use Rattle.std.proofs.Common.{◌≡◌, ℕ, ◌+◌, ◌*◌, ◌≤◌, Bool, true, false, List, [], ◌∷◌, ◌++◌, length, Option, Some, None, refl, subst, append-nil, arith}
use Rattle.std.specs.Prelude.{if◌then◌else◌}
use Rattle.pj_ll.specs.declared.grammar.Symbol.{Symbol}
use Rattle.pj_xexpressions.specs.declared.operator.Compare.{Compare}
use Rattle.pj_xtokens.specs.Tokens.{Lexed}
use Rattle.pj_xtokens.specs.First.{behind_first, first_text, first_from, begins_with_name}
use Rattle.pj_xexpressions.specs.Expressions.{Written}
use Rattle.pj_xexpressions.specs.declared.name.Callee.{Callee}
use Rattle.pj_xexpressions.specs.Names.{callee_of}
use Rattle.pj_xexpressions.specs.Trees.{Construct}
use Rattle.pj_xreadings.specs.declared.role.Role.{Role}
use Rattle.pj_xreadings.specs.Mentions.{Mention, Variable, Call, Argument, Binds, Ends, roles_named}
use Rattle.pj_xreadings.specs.Operands.{Operand, Arguments, Open, Behind, Test, Called, Predicates, names_of, names_behind, chain, mixed, compared, ranging, variable, cut_variable, path, filtered, arguments_in, is_closed, judged, in_roles, told, named}
use Rattle.pj_xmeaning.specs.Reach.{Reach, IsBefore, IsCut}
use Rattle.pj_xmeaning.specs.Reads.{Takes, token, cut}
use Rattle.pj_xsyntax_laws.proofs.Ordered.{InOrder, none_in_order, widened, joined}
use Rattle.pj_xsyntax_laws.proofs.TokenOffsets.{at, AreAscending}

-- The tokens xs are read up to ys, and this is what they name: it stands in its order, from the lower bound on and before ys.
pub record Stands (end low : ℕ) (xs ys : List Lexed) (ms : List Mention) : Type 0 where
  pub others : AreAscending end ys
  pub within : at end xs ≤ at end ys
  pub names : InOrder low (at end ys) ms

-- there is a first token
pub record Begun (end : ℕ) (xs ys : List Lexed) : Type 0 where
  pub here : 2 * first_from xs ≡ at end xs
  pub gap : at end xs + 2 ≤ at end ys

-- What is known of the tokens that are read.
pub data Grade : Type 0 where
  -- they may be none
  Loose : Grade
  -- there is one, but where they are cut off before
  Solid : Grade

-- what tokens name whose offsets ascend, behind the place where they begin
pub record Row (end : ℕ) (reach : Reach) (grade : Grade) (xs ys : List Lexed) (ms : List Mention) : Type 0 where
  pub read : AreAscending end xs → Stands end (at end xs + 1) xs ys ms
  pub begun : AreAscending end xs → grade ≡ Solid → IsBefore reach xs → Begun end xs ys

-- what they name, which may stand at that place, too, as an argument does
pub record Early (end : ℕ) (xs ys : List Lexed) (ms : List Mention) : Type 0 where
  pub read : AreAscending end xs → Stands end (at end xs) xs ys ms

-- what is named behind an operator, if something stands there
abbrev pub names_compared : Option (Compare × Operand) → List Mention
names_compared None = []
names_compared (Some next) = next.1.names

abbrev pub names_last : Option Operand → List Mention
names_last None = []
names_last (Some last) = last.names

-- what is named behind a name: where a call stands there, by what its function wants of the arguments
abbrev pub BehindName : ℕ → Reach → List Lexed → List Lexed → Behind → Type 0
BehindName end reach xs ys (Test test predicates) = Row end reach Loose xs ys (names_of predicates)
BehindName end reach xs ys (Called arguments predicates) = (roles : List Role) → Early end xs ys (in_roles roles arguments ++ names_of predicates)
BehindName end reach xs ys (Predicates predicates) = Row end reach Loose xs ys (names_of predicates)

-- ---- what is named at the first token

variable_first : (name : List ℕ) (from : ℕ) → InOrder (2 * from + 1) (2 * from + 2) (Variable name from ∷ [])
variable_first name from = record { ordered = (omega arith, omega arith, omega arith, tt) }

-- the name of a call stands before its arguments
call_first : (closed : Bool) (found : Option Callee) (name : List ℕ) (count from : ℕ) → InOrder (2 * from + 1) (2 * from + 2) (told closed found (Call name count from))
call_first true found name count from = record { ordered = (omega arith, omega arith, omega arith, tt) }
call_first false None name count from = record { ordered = (omega arith, omega arith, omega arith, tt) }
call_first false (Some callee) name count from = none_in_order (2 * from + 1) (2 * from + 2)

-- an argument stands before what it names
argument_first : (role : Role) (written : Written) (from : ℕ) (more : Arguments) → InOrder (2 * from) (2 * from + 1) (judged more (Argument role written from))
argument_first role written from Open = none_in_order (2 * from) (2 * from + 1)
argument_first role written from _ = record { ordered = (omega arith, omega arith, omega arith, tt) }

-- ---- rows

module _ {end : ℕ} where
  pub none_early : {xs : List Lexed} → Early end xs xs []
  none_early {xs} = record { read = λ h. record { others = h; within = omega arith; names = none_in_order (at end xs) (at end xs) } }

  pub following : {xs ys zs : List Lexed} {ms ns : List Mention} → Early end xs ys ms → Early end ys zs ns → Early end xs zs (ms ++ ns)
  following p q = record {
    read = λ h.
        let a = p.read h in
        let b = q.read a.others in
        let v = a.within in
        let w = b.within in
        record { others = b.others; within = omega arith; names = joined v (omega arith) w a.names b.names };
  }

module _ {end : ℕ} {reach : Reach} where
  pub loose : {grade : Grade} {xs ys : List Lexed} {ms : List Mention} → Row end reach grade xs ys ms → Row end reach Loose xs ys ms
  loose p = record { read = p.read; begun = λ h is before. absurd (let z = is in cc) }

  pub early : {grade : Grade} {xs ys : List Lexed} {ms : List Mention} → Row end reach grade xs ys ms → Early end xs ys ms
  early p = record { read = λ h. let a = p.read h in record { others = a.others; within = a.within; names = widened _ _ (omega arith) (omega arith) a.names } }

  pub none : {xs : List Lexed} → Row end reach Loose xs xs []
  none {xs} = record { read = λ h. record { others = h; within = omega arith; names = none_in_order (at end xs + 1) (at end xs) }; begun = λ h is before. absurd (let z = is in cc) }

  pub none_left : {grade : Grade} {xs : List Lexed} → IsCut reach xs → Row end reach grade xs xs []
  none_left c = record { read = none.read; begun = λ h is before. absurd (before c) }

  pub one_token : {x : Lexed} {xs : List Lexed} → Row end reach Solid (x ∷ xs) xs []
  one_token {x} {xs} = record {
    read = λ h. let gap = h.0 in record { others = h.1; within = omega arith; names = none_in_order (2 * x.from + 1) (at end xs) };
    begun = λ h is before. record { here = refl; gap = h.0 };
  }

  pub takes : {d : ℕ} {s : Symbol} {xs ys : List Lexed} → Takes reach d s xs ys → Row end reach Solid xs ys []
  takes (token e within) = one_token
  takes (cut c) = none_left c

  pub both : {grade other : Grade} {xs ys zs : List Lexed} {ms ns : List Mention} → Row end reach grade xs ys ms → Row end reach other ys zs ns → Row end reach grade xs zs (ms ++ ns)
  both p q = record {
    read = λ h.
        let a = p.read h in
        let b = q.read a.others in
        let v = a.within in
        let w = b.within in
        record { others = b.others; within = omega arith; names = joined (omega arith) (omega arith) w a.names b.names };
    begun = λ h is before.
        let a = p.begun h is before in
        let gap = a.gap in
        let w = (q.read (p.read h).others).within in
        record { here = a.here; gap = omega arith };
  }

  pub behind : {d : ℕ} {s : Symbol} {grade : Grade} {xs ys zs : List Lexed} {ms : List Mention} → Takes reach d s xs ys → Row end reach grade ys zs ms → Row end reach Solid xs zs ms
  behind k p = both (takes k) p

  -- nothing is named behind it
  pub alone : {grade other : Grade} {xs ys zs : List Lexed} {ms : List Mention} → Row end reach grade xs ys ms → Row end reach other ys zs [] → Row end reach grade xs zs ms
  alone {grade} {xs = xs} {zs = zs} {ms = ms} p q = subst (Row end reach grade xs zs) (append-nil ms) (both p q)

  -- a name at the first token, before others
  headed : {xs ys zs : List Lexed} {ms ns : List Mention} → IsBefore reach xs → InOrder (2 * first_from xs + 1) (2 * first_from xs + 2) ms → Row end reach Solid xs ys [] → Early end ys zs ns →
      Row end reach Solid xs zs (ms ++ ns)
  headed before first p q = record {
    read = λ h.
        let a = q.read (p.read h).others in
        let b = p.begun h refl before in
        let here = b.here in
        let gap = b.gap in
        let w = a.within in
        record { others = a.others; within = omega arith; names = widened _ _ (omega arith) (omega arith) (joined (omega arith) (omega arith) (omega arith) first a.names) };
    begun = λ h is still.
        let b = p.begun h is still in
        let gap = b.gap in
        let w = (q.read (p.read h).others).within in
        record { here = b.here; gap = omega arith };
  }

  -- ---- operands

  pub chained : {grade other : Grade} {xs ys zs : List Lexed} (construct : Construct) (first : Operand) (more : List Operand) → Row end reach grade xs ys first.names → Row end reach other ys zs (names_of more) →
      Row end reach grade xs zs (chain construct first more).names
  chained construct first [] p q = alone p q
  chained construct first (second ∷ more) p q = both p q

  pub mixing : {Operator : Type 0} {grade other : Grade} {xs ys zs : List Lexed} (construct : List Operator → Construct) (first : Operand) (more : List (Operator × Operand)) → Row end reach grade xs ys first.names →
      Row end reach other ys zs (names_behind more) → Row end reach grade xs zs (mixed construct first more).names
  mixing construct first [] p q = alone p q
  mixing construct first (second ∷ more) p q = both p q

  pub comparing : {grade other : Grade} {xs ys zs : List Lexed} (first : Operand) (second : Option (Compare × Operand)) → Row end reach grade xs ys first.names → Row end reach other ys zs (names_compared second) →
      Row end reach grade xs zs (compared first second).names
  comparing first None p q = alone p q
  comparing first (Some next) p q = both p q

  pub in_range : {grade other : Grade} {xs ys zs : List Lexed} (first : Operand) (last : Option Operand) → Row end reach grade xs ys first.names → Row end reach other ys zs (names_last last) →
      Row end reach grade xs zs (ranging first last).names
  in_range first None p q = alone p q
  in_range first (Some last) p q = both p q

  pub a_path : {grade : Grade} {xs ys : List Lexed} (steps : List Operand) → Row end reach grade xs ys (names_of steps) → Row end reach grade xs ys (path steps).names
  a_path [] p = p
  a_path {grade} {xs} {ys} (only ∷ []) p = subst (Row end reach grade xs ys) (append-nil only.names) p
  a_path (first ∷ second ∷ more) p = p

  pub with_predicates : {grade other : Grade} {xs ys zs : List Lexed} (a : Operand) (predicates : List Operand) → Row end reach grade xs ys a.names → Row end reach other ys zs (names_of predicates) →
      Row end reach grade xs zs (filtered a predicates).names
  with_predicates a [] p q = alone p q
  with_predicates a (first ∷ more) p q = both p q

  -- ---- variables

  pub a_variable : {xs ys : List Lexed} (name : List ℕ) → IsBefore reach xs → Row end reach Solid xs ys [] → Row end reach Solid xs ys (variable xs name).names
  a_variable {xs} name before p = headed before (variable_first name (first_from xs)) p none_early

  either : {xs ys : List Lexed} (b : Bool) (one other : Operand) → Row end reach Solid xs ys one.names → Row end reach Solid xs ys other.names → Row end reach Solid xs ys (if b then one else other).names
  either true one other p q = p
  either false one other p q = q

  pub a_cut_variable : {xs ys : List Lexed} → IsBefore reach xs → Row end reach Solid xs ys [] → Row end reach Solid xs ys (cut_variable xs).names
  a_cut_variable {xs} before p = either (begins_with_name (behind_first xs)) _ _ (a_variable (first_text (behind_first xs)) before p) p

  -- what binds a variable, and the end of its scope, have no offset
  pub binds : {grade : Grade} {xs ys : List Lexed} {ms : List Mention} (name : List ℕ) → Row end reach grade xs ys ms → Row end reach grade xs ys (Binds name ∷ ms)
  binds name p = record { read = λ h. let a = p.read h in record { others = a.others; within = a.within; names = record { ordered = a.names.ordered } }; begun = p.begun }

  ended : {xs : List Lexed} (count : ℕ) → Row end reach Loose xs xs (Ends count ∷ [])
  ended count = record { read = λ h. record { others = h; within = omega arith; names = record { ordered = tt } }; begun = none.begun }

  pub ends : {grade : Grade} {xs ys : List Lexed} {ms : List Mention} (count : ℕ) → Row end reach grade xs ys ms → Row end reach grade xs ys (ms ++ Ends count ∷ [])
  ends count p = both p (ended count)

  -- ---- calls

  pub an_argument : {xs ys zs : List Lexed} {ns : List Mention} (role : Role) (a : Operand) (more : Arguments) → IsBefore reach xs → Row end reach Solid xs ys a.names → Early end ys zs ns →
      Early end xs zs (judged more (Argument role a.written (first_from xs)) ++ (a.names ++ ns))
  an_argument {xs} role a more before p q = record {
    read = λ h.
        let b = p.read h in
        let c = q.read b.others in
        let d = p.begun h refl before in
        let here = d.here in
        let gap = d.gap in
        let w = c.within in
        let names = joined (omega arith) (omega arith) w b.names c.names in
        record { others = c.others; within = omega arith; names = widened _ _ (omega arith) (omega arith) (joined (omega arith) (omega arith) (omega arith) (argument_first role a.written (first_from xs) more) names) };
  }

  pub a_name : {xs ys zs : List Lexed} (name : List ℕ) (tail : Behind) → IsBefore reach xs → Row end reach Solid xs ys [] → BehindName end reach ys zs tail → Row end reach Solid xs zs (named xs name tail).names
  a_name name (Test test predicates) before p q = both p q
  a_name {xs} name (Called arguments predicates) before p q =
      headed before (call_first (is_closed arguments) (callee_of name) name (length (arguments_in arguments)) (first_from xs)) p (q (roles_named name))
  a_name name (Predicates predicates) before p q = both p q
