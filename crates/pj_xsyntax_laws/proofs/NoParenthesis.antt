-- What stands behind what a rule reads does not begin with `(`, but behind the name of a call.
use Rattle.std.proofs.Common.{◌≡◌, ℕ, Bool, true, false, List, refl, sym, subst, codes}
use Rattle.std.specs.Prelude.{not, nat_eq}
use Rattle.std.proofs.lemmas.Bool.{false≢true}
use Rattle.pj_ll.specs.declared.grammar.Symbol.{Symbol}
use Rattle.pj_xtokens.specs.Tokens.{Lexed}
use Rattle.pj_xtokens.specs.First.{is_parenthesis, begins_with_parenthesis}
use Rattle.pj_xtokens.specs.declared.token.Sign.{Sign}
use Rattle.pj_xtokens.specs.declared.token.Sign.TheVariants as s
use Rattle.pj_xtokens.specs.declared.token.TokenKind.{TokenKind}
use Rattle.pj_xtokens.specs.declared.token.TokenKind.TheVariants as kind
use Rattle.pj_xgrammar.specs.Notation.{number_of}
use Rattle.pj_xgrammar.specs.Terminals.{first_behind, kind_terminal, sign_terminal, terminal_number}
use Rattle.pj_xgrammar.specs.declared.rule.Rule.{Rule}
use Rattle.pj_xgrammar.specs.declared.rule.Rule.TheVariants as r
use Rattle.pj_xgrammar.specs.declared.terminal.Behind.{Behind}
use Rattle.pj_xgrammar.specs.declared.terminal.Behind.TheVariants as b
use Rattle.pj_xmeaning.specs.RuleMeanings.{Value}
use Rattle.pj_xmeaning.specs.Reach.{All}
use Rattle.pj_xmeaning.specs.Reads.{Takes, token, cut, Reads, Produces, by, expr_more, in_more, let_more, in_clause, assign_clause, return_clause, satisfies_clause, then_clause, else_clause, or_more, and_more, equal, not_equal, less, less_or_equal, greater, greater_or_equal, concatenation_more, up_to, up_to_cut, plus, minus, times, integer_divide, modulo, union_more, bar_more, intersect, except, map_more, next_step, next_descendants, predicate, more_arguments, expr_end, in_end, let_end, or_end, and_end, not_compared, concatenation_end, no_range, additive_end, multiplicative_end, union_end, set_end, map_end, left_out_operator, no_left_out, steps_end, no_predicate, arguments_end}
use Rattle.pj_xsyntax_laws.proofs.Looks.{symbol_is}

-- no `(` stands first
abbrev pub NoParenthesis : List Lexed → Type 0
NoParenthesis tokens = begins_with_parenthesis tokens ≡ false

-- the terminal of this number is no `(`
abbrev is_other : ℕ → Bool
is_other n = not (nat_eq n (number_of (codes "(")))

sign_other : (sign : Sign) (behind : Behind) (n : ℕ) → terminal_number (sign_terminal sign behind) ≡ n → is_other n ≡ true → is_parenthesis (kind.Sign sign) ≡ false
sign_other s.LeftParenthesis behind n e h = absurd (false≢true (subst (λ k. is_other k ≡ true) (sym e) h))
sign_other _ behind n e h = refl

kind_other : (k : TokenKind) (text : List ℕ) (behind : Behind) (n : ℕ) → terminal_number (kind_terminal k text behind) ≡ n → is_other n ≡ true → is_parenthesis k ≡ false
kind_other (kind.Sign sign) text behind n e h = sign_other sign behind n e h
kind_other _ text behind n e h = refl

pub takes_none : {depth : ℕ} {x : Symbol} {xs ys : List Lexed} → Takes All depth x xs ys → symbol_is is_other x ≡ true → NoParenthesis xs
takes_none (token {x = x} {xs = xs} {number = n} e few) h = kind_other x.kind x.text (first_behind b.End xs) n e h
takes_none (cut c) h = absurd c

-- the rules that begin with an operator, a word or a sign, if with anything
abbrev pub is_behind : Rule → Bool
is_behind r.ExprTail = true
is_behind r.InBindingsTail = true
is_behind r.LetBindingsTail = true
is_behind r.InClause = true
is_behind r.AssignClause = true
is_behind r.ReturnClause = true
is_behind r.SatisfiesClause = true
is_behind r.ThenClause = true
is_behind r.ElseClause = true
is_behind r.OrTail = true
is_behind r.AndTail = true
is_behind r.ComparisonTail = true
is_behind r.StringConcatTail = true
is_behind r.RangeTail = true
is_behind r.AdditiveTail = true
is_behind r.MultiplicativeTail = true
is_behind r.UnionTail = true
is_behind r.IntersectExceptTail = true
is_behind r.SimpleMapTail = true
is_behind r.LeftOutOperator = true
is_behind r.RelativePathTail = true
is_behind r.PredicateList = true
is_behind r.ArgumentsTail = true
is_behind _ = false

before : (rule : Rule) {depth : ℕ} {xs ys : List Lexed} {v : Value rule} → Produces All rule depth xs ys v → is_behind rule ≡ true → NoParenthesis ys → NoParenthesis xs
before r.ExprTail (expr_more k a b) h f = takes_none k refl
before r.ExprTail expr_end h f = f
before r.InBindingsTail (in_more k a) h f = takes_none k refl
before r.InBindingsTail in_end h f = f
before r.LetBindingsTail (let_more k a) h f = takes_none k refl
before r.LetBindingsTail let_end h f = f
before r.InClause (in_clause k a) h f = takes_none k refl
before r.AssignClause (assign_clause k a) h f = takes_none k refl
before r.ReturnClause (return_clause k a) h f = takes_none k refl
before r.SatisfiesClause (satisfies_clause k a) h f = takes_none k refl
before r.ThenClause (then_clause k a) h f = takes_none k refl
before r.ElseClause (else_clause k a) h f = takes_none k refl
before r.OrTail (or_more k a b) h f = takes_none k refl
before r.OrTail or_end h f = f
before r.AndTail (and_more k a b) h f = takes_none k refl
before r.AndTail and_end h f = f
before r.ComparisonTail (equal k a) h f = takes_none k refl
before r.ComparisonTail (not_equal k a) h f = takes_none k refl
before r.ComparisonTail (less k a) h f = takes_none k refl
before r.ComparisonTail (less_or_equal k a) h f = takes_none k refl
before r.ComparisonTail (greater k a) h f = takes_none k refl
before r.ComparisonTail (greater_or_equal k a) h f = takes_none k refl
before r.ComparisonTail not_compared h f = f
before r.StringConcatTail (concatenation_more k a b) h f = takes_none k refl
before r.StringConcatTail concatenation_end h f = f
before r.RangeTail (up_to k b a) h f = takes_none k refl
before r.RangeTail (up_to_cut k c) h f = takes_none k refl
before r.RangeTail no_range h f = f
before r.AdditiveTail (plus k a b) h f = takes_none k refl
before r.AdditiveTail (minus k a b) h f = takes_none k refl
before r.AdditiveTail additive_end h f = f
before r.MultiplicativeTail (times k a b) h f = takes_none k refl
before r.MultiplicativeTail (integer_divide k a b) h f = takes_none k refl
before r.MultiplicativeTail (modulo k a b) h f = takes_none k refl
before r.MultiplicativeTail multiplicative_end h f = f
before r.UnionTail (union_more k a b) h f = takes_none k refl
before r.UnionTail (bar_more k a b) h f = takes_none k refl
before r.UnionTail union_end h f = f
before r.IntersectExceptTail (intersect k a b) h f = takes_none k refl
before r.IntersectExceptTail (except k a b) h f = takes_none k refl
before r.IntersectExceptTail set_end h f = f
before r.SimpleMapTail (map_more k a b) h f = takes_none k refl
before r.SimpleMapTail map_end h f = f
before r.LeftOutOperator (left_out_operator among read is) h f = absurd is
before r.LeftOutOperator no_left_out h f = f
before r.RelativePathTail (next_step k a b) h f = takes_none k refl
before r.RelativePathTail (next_descendants k a b) h f = takes_none k refl
before r.RelativePathTail steps_end h f = f
before r.PredicateList (predicate k a l b) h f = takes_none k refl
before r.PredicateList no_predicate h f = f
before r.ArgumentsTail (more_arguments k a b) h f = takes_none k refl
before r.ArgumentsTail arguments_end h f = f
before _ made h f = absurd (false≢true h)

-- no `(` begins what they read where none stands behind it
pub reads_none : {rule : Rule} {depth : ℕ} {xs ys : List Lexed} {v : Value rule} → Reads All rule depth xs ys v → is_behind rule ≡ true → NoParenthesis ys → NoParenthesis xs
reads_none {rule = rule} (by b made) h f = before rule made h f
reads_none (cut c) h f = absurd c
