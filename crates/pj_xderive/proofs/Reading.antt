-- What the terminals of tokens depend on.
use Rattle.std.proofs.Common.{◌≡◌, ℕ, Bool, true, false, ◌&&◌, not, cond, List, [], ◌∷◌, ◌++◌, map, Option, Some, None, refl, sym, ap, subst, ◌∙◌}
use Rattle.std.specs.Prelude.{nat_eq}
use Rattle.std.proofs.lemmas.Bool.{and_parts}
use Rattle.std.proofs.lemmas.List.{map-append}
use Rattle.pj_xtokens.specs.Tokens.{Lexed}
use Rattle.pj_xtokens.specs.declared.token.TokenKind.{TokenKind}
use Rattle.pj_xtokens.specs.declared.token.TokenKind.TheVariants as t
use Rattle.pj_xtokens.specs.declared.token.Sign.{Sign}
use Rattle.pj_xtokens.specs.declared.token.Sign.TheVariants as s
use Rattle.pj_xgrammar.specs.Words.{word_of}
use Rattle.pj_xgrammar.specs.declared.word.Word.{Word}
use Rattle.pj_xgrammar.specs.declared.word.Word.TheVariants as w
use Rattle.pj_xgrammar.specs.declared.word.Phrase.{Phrase}
use Rattle.pj_xgrammar.specs.declared.word.Phrase.TheVariants as p
use Rattle.pj_xgrammar.specs.declared.terminal.Behind.{Behind}
use Rattle.pj_xgrammar.specs.declared.terminal.Behind.TheVariants as b
use Rattle.pj_xgrammar.specs.declared.terminal.Terminal.TheVariants as terminal
use Rattle.pj_xgrammar.specs.Terminals.{first_behind, behind_of, begins_step, is_dollar, is_parenthesis, is_brace, is_as, is_of, makes_phrase, word_terminal, sign_terminal, kind_terminal, terminal_of, terminal_number, terminals_before, numbers_before}

-- the number of the terminal that a token is before this
abbrev pub number : Lexed → Behind → ℕ
number x behind = terminal_number (terminal_of x behind)

-- the tokens' numbers, one part behind the other
pub terminals_append : (end : Behind) (xs ys : List Lexed) → terminals_before end (xs ++ ys) ≡ terminals_before (first_behind end ys) xs ++ terminals_before end ys
terminals_append end [] ys = refl
terminals_append end (x ∷ []) ys = refl
terminals_append end (x ∷ z ∷ xs) ys = ap (λ l. terminal_of x (behind_of z) ∷ l) (terminals_append end (z ∷ xs) ys)

pub numbers_append : (end : Behind) (xs ys : List Lexed) → numbers_before end (xs ++ ys) ≡ numbers_before (first_behind end ys) xs ++ numbers_before end ys
numbers_append end xs ys =
    ap (map terminal_number) (terminals_append end xs ys) ∙ map-append terminal_number (terminals_before (first_behind end ys) xs) (terminals_before end ys)

-- ---- how a token reads before an ordinary name

-- nothing that makes a phrase of a word
abbrev pub is_calm : Behind → Bool
is_calm behind = not (is_dollar behind) && (not (is_parenthesis behind) && (not (is_brace behind) && (not (is_as behind) && not (is_of behind))))

-- Where this stands behind a terminal of the number, it is the same before an ordinary name: 0 is a name, 15 is a `/`.
abbrev pub keeps : ℕ → Behind → Bool
keeps t behind = cond (nat_eq t 0) (is_calm behind) (cond (nat_eq t 15) (begins_step behind) true)

not_true : (b : Bool) → not b ≡ true → b ≡ false
not_true true e = absurd (let z = e in cc)
not_true false e = refl

calm_phrase : (q : Phrase) (behind : Behind) → is_calm behind ≡ true → makes_phrase q behind ≡ false
calm_phrase q behind calm =
    let (dollar, more) = and_parts _ _ calm in
    let (parenthesis, further) = and_parts _ _ more in
    let (brace, words) = and_parts _ _ further in
    let (as_, of_) = and_parts _ _ words in
    of_parts q (not_true _ dollar) (not_true _ parenthesis) (not_true _ brace) (not_true _ as_) (not_true _ of_)
  where
    of_parts : (q : Phrase) → is_dollar behind ≡ false → is_parenthesis behind ≡ false → is_brace behind ≡ false → is_as behind ≡ false → is_of behind ≡ false →
        makes_phrase q behind ≡ false
    of_parts p.For d p b a o = d
    of_parts p.Let d p b a o = d
    of_parts p.Some d p b a o = d
    of_parts p.Every d p b a o = d
    of_parts p.If d p b a o = p
    of_parts p.Function d p b a o = p
    of_parts p.Map d p b a o = b
    of_parts p.Array d p b a o = b
    of_parts p.InstanceOf d p b a o = o
    of_parts p.CastAs d p b a o = a
    of_parts p.CastableAs d p b a o = a
    of_parts p.TreatAs d p b a o = a

plain : (q : Phrase) → word_terminal (Some (w.Phrase q)) b.Name ≡ terminal.Name
plain p.For = refl
plain p.Let = refl
plain p.Some = refl
plain p.Every = refl
plain p.If = refl
plain p.Function = refl
plain p.Map = refl
plain p.Array = refl
plain p.InstanceOf = refl
plain p.CastAs = refl
plain p.CastableAs = refl
plain p.TreatAs = refl

keep_sign : (q : Sign) (behind : Behind) → keeps (terminal_number (sign_terminal q b.Name)) behind ≡ true → sign_terminal q behind ≡ sign_terminal q b.Name
keep_sign s.LeftParenthesis behind h = refl
keep_sign s.RightParenthesis behind h = refl
keep_sign s.LeftBracket behind h = refl
keep_sign s.RightBracket behind h = refl
keep_sign s.LeftBrace behind h = refl
keep_sign s.RightBrace behind h = refl
keep_sign s.Comma behind h = refl
keep_sign s.Dot behind h = refl
keep_sign s.DotDot behind h = refl
keep_sign s.Slash behind h = ap (λ b. cond b (terminal.Sign s.Slash) terminal.LoneSlash) h
keep_sign s.SlashSlash behind h = refl
keep_sign s.Colon behind h = refl
keep_sign s.ColonColon behind h = refl
keep_sign s.ColonEqual behind h = refl
keep_sign s.Bang behind h = refl
keep_sign s.BangEqual behind h = refl
keep_sign s.Dollar behind h = refl
keep_sign s.Star behind h = refl
keep_sign s.Plus behind h = refl
keep_sign s.Minus behind h = refl
keep_sign s.Less behind h = refl
keep_sign s.LessLess behind h = refl
keep_sign s.LessEqual behind h = refl
keep_sign s.Equal behind h = refl
keep_sign s.Arrow behind h = refl
keep_sign s.Greater behind h = refl
keep_sign s.GreaterGreater behind h = refl
keep_sign s.GreaterEqual behind h = refl
keep_sign s.Question behind h = refl
keep_sign s.At behind h = refl
keep_sign s.Bar behind h = refl
keep_sign s.BarBar behind h = refl
keep_sign s.Hash behind h = refl

keep_word : (o : Option Word) (behind : Behind) → keeps (terminal_number (word_terminal o b.Name)) behind ≡ true → word_terminal o behind ≡ word_terminal o b.Name
keep_word None behind h = refl
keep_word (Some (w.Keyword k)) behind h = refl
keep_word (Some (w.Phrase q)) behind h =
    let calm : is_calm behind ≡ true = subst (λ x. keeps (terminal_number x) behind ≡ true) (plain q) h in
    ap (λ b. cond b (terminal.Phrase q) terminal.Name) (calm_phrase q behind calm) ∙ sym (plain q)

keep_kind : (k : TokenKind) (text : List ℕ) (behind : Behind) → keeps (terminal_number (kind_terminal k text b.Name)) behind ≡ true →
    kind_terminal k text behind ≡ kind_terminal k text b.Name
keep_kind t.Name text behind h = keep_word (word_of text) behind h
keep_kind t.Integer text behind h = refl
keep_kind t.Decimal text behind h = refl
keep_kind t.Double text behind h = refl
keep_kind t.String text behind h = refl
keep_kind (t.Sign q) text behind h = keep_sign q behind h

-- a token before this is what it is before an ordinary name
pub keep : (x : Lexed) (behind : Behind) → keeps (number x b.Name) behind ≡ true → number x behind ≡ number x b.Name
keep x behind h = ap terminal_number (keep_kind x.kind x.text behind h)

-- ---- what else a token can be

-- the terminal of the first number is the second one before an ordinary name, or no production has it
pub data Turns : ℕ → ℕ → Type 0 where
  same : (a : ℕ) → Turns a a
  slash : Turns 5 15
  phrase : (q : Phrase) → Turns (terminal_number (terminal.Phrase q)) 0

turn_sign : (q : Sign) (behind : Behind) → Turns (terminal_number (sign_terminal q behind)) (terminal_number (sign_terminal q b.Name))
turn_sign s.LeftParenthesis behind = same _
turn_sign s.RightParenthesis behind = same _
turn_sign s.LeftBracket behind = same _
turn_sign s.RightBracket behind = same _
turn_sign s.LeftBrace behind = same _
turn_sign s.RightBrace behind = same _
turn_sign s.Comma behind = same _
turn_sign s.Dot behind = same _
turn_sign s.DotDot behind = same _
turn_sign s.Slash behind = turn_slash (begins_step behind)
  where
    turn_slash : (b : Bool) → Turns (terminal_number (cond b (terminal.Sign s.Slash) terminal.LoneSlash)) 15
    turn_slash true = same 15
    turn_slash false = slash
turn_sign s.SlashSlash behind = same _
turn_sign s.Colon behind = same _
turn_sign s.ColonColon behind = same _
turn_sign s.ColonEqual behind = same _
turn_sign s.Bang behind = same _
turn_sign s.BangEqual behind = same _
turn_sign s.Dollar behind = same _
turn_sign s.Star behind = same _
turn_sign s.Plus behind = same _
turn_sign s.Minus behind = same _
turn_sign s.Less behind = same _
turn_sign s.LessLess behind = same _
turn_sign s.LessEqual behind = same _
turn_sign s.Equal behind = same _
turn_sign s.Arrow behind = same _
turn_sign s.Greater behind = same _
turn_sign s.GreaterGreater behind = same _
turn_sign s.GreaterEqual behind = same _
turn_sign s.Question behind = same _
turn_sign s.At behind = same _
turn_sign s.Bar behind = same _
turn_sign s.BarBar behind = same _
turn_sign s.Hash behind = same _

turn_phrase : (q : Phrase) (b : Bool) → Turns (terminal_number (cond b (terminal.Phrase q) terminal.Name)) 0
turn_phrase q true = phrase q
turn_phrase q false = same 0

turn_word : (o : Option Word) (behind : Behind) → Turns (terminal_number (word_terminal o behind)) (terminal_number (word_terminal o b.Name))
turn_word None behind = same _
turn_word (Some (w.Keyword k)) behind = same _
turn_word (Some (w.Phrase q)) behind =
    subst (λ x. Turns (terminal_number (word_terminal (Some (w.Phrase q)) behind)) (terminal_number x)) (sym (plain q)) (turn_phrase q (makes_phrase q behind))

turn_kind : (k : TokenKind) (text : List ℕ) (behind : Behind) → Turns (terminal_number (kind_terminal k text behind)) (terminal_number (kind_terminal k text b.Name))
turn_kind t.Name text behind = turn_word (word_of text) behind
turn_kind t.Integer text behind = same _
turn_kind t.Decimal text behind = same _
turn_kind t.Double text behind = same _
turn_kind t.String text behind = same _
turn_kind (t.Sign q) text behind = turn_sign q behind

pub turns : (x : Lexed) (behind : Behind) → Turns (number x behind) (number x b.Name)
turns x behind = turn_kind x.kind x.text behind
