-- How many parentheses stand directly around an expression (JLS 15.8.5), by the tokens of the file.
use Rattle.std.specs.Prelude.{ℕ, ◌+◌, ◌-◌, nat_lt, nat_le, min, Bool, true, false, not, ◌&&◌, Option, None, Some, is_some, if◌then◌else◌, List, [], ◌∷◌, filter, reverse}
use Rattle.std.specs.Option.{option_map_or}
use Rattle.pj_tree.specs.Tree.{Tree, kind_of, parent_of, span_of}
use Rattle.pj_tree.specs.declared.kind.Kind.{Kind}
use Rattle.pj_tree.specs.declared.kind.Kind.TheVariants as k
use Rattle.pj_tree.specs.declared.node.Node.{Node}
use Rattle.pj_tree.specs.declared.node.Span.{Span}
use Rattle.pj_lex.specs.declared.token.TokenKind.{TokenKind}
use Rattle.pj_lex.specs.declared.token.TokenKind.TheVariants.{LeftParenthesis, RightParenthesis}
use Rattle.pj_tree.specs.Children.{second_child}
use Rattle.pj_grammar.specs.Words.{TokenSeen, is_comment}
use Rattle.pj_parse.specs.Parses.{FileParsed}

abbrev pub is_left : TokenKind → Bool
is_left LeftParenthesis = true
is_left other = false

abbrev pub is_right : TokenKind → Bool
is_right RightParenthesis = true
is_right other = false

-- how many tokens pass a test before the first that does not, comments not seen
abbrev pub run : (TokenSeen → Bool) → List TokenSeen → ℕ
run p [] = 0
run p (t ∷ ts) = if is_comment t.kind then run p ts else if p t then 1 + run p ts else 0

-- the tokens that begin before an offset, and those that begin there or behind it
abbrev pub before : ℕ → List TokenSeen → List TokenSeen
before offset ts = filter (λ t. nat_lt t.span.from offset) ts

abbrev pub behind : ℕ → List TokenSeen → List TokenSeen
behind offset ts = filter (λ t. not (nat_lt t.span.from offset)) ts

-- the parentheses that open directly before the node, within the node above
abbrev pub opened : Span → Span → List TokenSeen → ℕ
opened above span ts = run (λ t. is_left t.kind && nat_le above.from t.span.from) (reverse (before span.from ts))

-- those that close directly behind it, within the node above
abbrev pub closed : Span → Span → List TokenSeen → ℕ
closed above span ts = run (λ t. is_right t.kind && nat_le t.span.to above.to) (behind span.to ts)

-- Of these one is no parenthesis around the expression but a part of the statement, the `switch` (JLS 14.9, 14.11, 14.12, 14.13,
-- 14.19, 15.28) or the argument list (JLS 15.12) in which it stands alone.
abbrev pub syntactic : Kind → Tree → Node → ℕ
syntactic k.IfStatement t above = 1
syntactic k.WhileStatement t above = 1
syntactic k.DoStatement t above = 1
syntactic k.SwitchStatement t above = 1
syntactic k.SwitchExpression t above = 1
syntactic k.SynchronizedStatement t above = 1
syntactic k.ArgumentList t above = if is_some (second_child t above) then 0 else 1
syntactic other t above = 0

abbrev pub pairs_within : List TokenSeen → Span → Span → ℕ
pairs_within ts above span = min (opened above span ts) (closed above span ts)

-- by the span of the node above and of the node
abbrev pub pairs_around : List TokenSeen → Option Span → Option Span → ℕ
pairs_around ts None span = 0
pairs_around ts (Some above) None = 0
pairs_around ts (Some above) (Some span) = pairs_within ts above span

abbrev pub syntactic_at : Tree → Node → ℕ
syntactic_at t above = option_map_or (λ kind. syntactic kind t above) (kind_of t above) 0

abbrev pub depth_below : FileParsed → Node → Node → ℕ
depth_below f n above = pairs_around f.tokens (span_of f.tree above) (span_of f.tree n) - syntactic_at f.tree above

-- how many pairs of parentheses stand around the node, in the node above and directly at it
abbrev pub parenthesis_depth : FileParsed → Node → ℕ
parenthesis_depth f n = option_map_or (depth_below f n) (parent_of f.tree n) 0
