-- Tokens where abbreviations are written out: what they are for the token before them, and as which terminals they are taken.
use Rattle.std.proofs.Common.{◌≡◌, ℕ, suc, ◌≤◌, Bool, true, false, cond, ◌||◌, ◌&&◌, List, [], ◌∷◌, Option, Some, None, refl, sym, ◌∙◌, ap, subst, codes, eq-eqb, arith}
use Rattle.std.specs.Prelude.{not, nat_eq, nat_lt}
use Rattle.std.proofs.lemmas.Bool.{false≢true}
use Rattle.pj_ll.specs.declared.grammar.Symbol.{Symbol}
use Rattle.pj_ll.specs.declared.grammar.Symbol.TheVariants.{Terminal}
use Rattle.pj_ll.specs.declared.grammar.Symbol.TheVariants as symbol
use Rattle.pj_xtokens.specs.Tokens.{Lexed, lexed}
use Rattle.pj_xtokens.specs.declared.token.Sign.{Sign}
use Rattle.pj_xtokens.specs.declared.token.Sign.TheVariants as s
use Rattle.pj_xtokens.specs.declared.token.TokenKind.{TokenKind}
use Rattle.pj_xtokens.specs.declared.token.TokenKind.TheVariants as kind
use Rattle.pj_xgrammar.specs.XPath.{greatest_nesting}
use Rattle.pj_xgrammar.specs.Notation.{t, name, string, number_of}
use Rattle.pj_xgrammar.specs.Words.{word_of, same}
use Rattle.pj_xgrammar.specs.declared.word.Phrase.{Phrase}
use Rattle.pj_xgrammar.specs.declared.word.Phrase.TheVariants as p
use Rattle.pj_xgrammar.specs.declared.word.Word.{Word}
use Rattle.pj_xgrammar.specs.declared.word.Word.TheVariants as w
use Rattle.pj_xgrammar.specs.declared.terminal.Behind.{Behind}
use Rattle.pj_xgrammar.specs.declared.terminal.Behind.TheVariants as b
use Rattle.pj_xgrammar.specs.declared.terminal.Terminal.TheVariants as terminal
use Rattle.pj_xgrammar.specs.Terminals.{first_behind, kind_behind, begins_step, is_dollar, is_parenthesis, is_brace, is_as, is_of, makes_phrase, word_terminal, sign_terminal, kind_terminal, terminal_of, terminal_number}
use Rattle.pj_xtokens.specs.First.{first_text, begins_with_parenthesis}
use Rattle.pj_xtokens.specs.Literals.{string_of}
use Rattle.pj_xexpressions.specs.Names.{callee_of}
use Rattle.pj_xmeaning.specs.Reach.{All}
use Rattle.pj_xmeaning.specs.Reads.{Takes, token, cut, IsAmong, here, further}
use Rattle.pj_xsyntax_laws.specs.Abbreviations.{sign, word, WrittenOut, done, kept, descendants, attribute, parent, union, literal, function}
use Rattle.pj_xsyntax_laws.proofs.FunctionNames.{name_of_function, behind_functions}

-- ---- how deep it is

-- The tokens are read where so many things are open; written out, where this many are: one fewer, if kind tests, whose parentheses nest, are written out.
pub data HasRoom : Bool → ℕ → ℕ → Type 0 where
  flat : {d : ℕ} → HasRoom false d d
  one_more : {d : ℕ} → HasRoom true (suc d) d

pub deeper : {nests : Bool} {d e : ℕ} → HasRoom nests d e → HasRoom nests (suc d) (suc e)
deeper flat = flat
deeper one_more = one_more

fewer : {nests : Bool} {d e : ℕ} → HasRoom nests d e → d ≤ greatest_nesting → e ≤ greatest_nesting
fewer flat few = few
fewer one_more few = omega arith

room_for : {nests : Bool} {d e : ℕ} → nests ≡ true → HasRoom nests d e → d ≤ greatest_nesting → suc e ≤ greatest_nesting
room_for is flat few = absurd (false≢true is)
room_for is one_more few = few

-- ---- before a phrase's word, and before a `/`

-- what no phrase stands before
abbrev IsQuiet : Behind → Type 0
IsQuiet behind = (is_dollar behind ≡ false) × (is_parenthesis behind ≡ false) × (is_brace behind ≡ false) × (is_as behind ≡ false) × (is_of behind ≡ false)

quiet : (phrase : Phrase) (behind : Behind) → IsQuiet behind → makes_phrase phrase behind ≡ false
quiet p.Array behind h = h.2
quiet p.CastableAs behind h = h.3
quiet p.CastAs behind h = h.3
quiet p.Every behind h = h.0
quiet p.For behind h = h.0
quiet p.Function behind h = h.1
quiet p.If behind h = h.1
quiet p.InstanceOf behind h = h.4
quiet p.Let behind h = h.0
quiet p.Map behind h = h.2
quiet p.Some behind h = h.0
quiet p.TreatAs behind h = h.3

both_quiet : (phrase : Phrase) (a c : Behind) → IsQuiet a → IsQuiet c → makes_phrase phrase a ≡ makes_phrase phrase c
both_quiet phrase a c h g = quiet phrase a h ∙ sym (quiet phrase c g)

-- before these tokens a word is what it is at the end of a text
abbrev pub LooksEnd : List Lexed → Type 0
LooksEnd end = (phrase : Phrase) → makes_phrase phrase b.End ≡ makes_phrase phrase (first_behind b.End end)

pub phrase_same : {nests : Bool} {end xs ys : List Lexed} → LooksEnd end → WrittenOut nests end xs ys → (phrase : Phrase) → makes_phrase phrase (first_behind b.End xs) ≡ makes_phrase phrase (first_behind b.End ys)
phrase_same q done phrase = q phrase
phrase_same q (kept from slash more) phrase = refl
phrase_same q (descendants room from a c d e f g i more) phrase = both_quiet phrase (b.Sign s.SlashSlash) (b.Sign s.Slash) (refl, refl, refl, refl, refl) (refl, refl, refl, refl, refl)
phrase_same q (attribute from a c more) phrase = both_quiet phrase (b.Sign s.At) b.Name (refl, refl, refl, refl, refl) (refl, refl, refl, refl, refl)
phrase_same q (parent room from a c d e f more) phrase = both_quiet phrase (b.Sign s.DotDot) b.Name (refl, refl, refl, refl, refl) (refl, refl, refl, refl, refl)
phrase_same q (union from a more) phrase = both_quiet phrase (b.Sign s.Bar) b.Name (refl, refl, refl, refl, refl) (refl, refl, refl, refl, refl)
phrase_same q (literal from a e more) phrase = refl
phrase_same q (function {v = v} {w = w} {callee = called} from a e f g more) phrase = ap (makes_phrase phrase) (behind_functions v called e ∙ sym (behind_functions w called f))

pub at_end : LooksEnd []
at_end = λ phrase. refl

pub before_parenthesis : (from : ℕ) → LooksEnd (sign s.RightParenthesis ")" from ∷ [])
before_parenthesis from = λ phrase. both_quiet phrase b.End (b.Sign s.RightParenthesis) (refl, refl, refl, refl, refl) (refl, refl, refl, refl, refl)

word_same : (word : Option Word) (a c : Behind) → ((phrase : Phrase) → makes_phrase phrase a ≡ makes_phrase phrase c) → word_terminal word a ≡ word_terminal word c
word_same None a c h = refl
word_same (Some (w.Keyword keyword)) a c h = refl
word_same (Some (w.Phrase phrase)) a c h = ap (λ (z : Bool). cond z (terminal.Phrase phrase) terminal.Name) (h phrase)

sign_same : (sign : Sign) (a c : Behind) → (kind.Sign sign ≡ kind.Sign s.Slash → begins_step a ≡ begins_step c) → sign_terminal sign a ≡ sign_terminal sign c
sign_same s.Slash a c h = ap (λ (z : Bool). cond z (terminal.Sign s.Slash) terminal.LoneSlash) (h refl)
sign_same _ a c h = refl

kind_same : (k : TokenKind) (text : List ℕ) (a c : Behind) → ((phrase : Phrase) → makes_phrase phrase a ≡ makes_phrase phrase c)
    → (k ≡ kind.Sign s.Slash → begins_step a ≡ begins_step c) → kind_terminal k text a ≡ kind_terminal k text c
kind_same kind.Name text a c h g = word_same (word_of text) a c h
kind_same kind.Integer text a c h g = refl
kind_same kind.Decimal text a c h g = refl
kind_same kind.Double text a c h g = refl
kind_same kind.String text a c h g = refl
kind_same (kind.Sign sign) text a c h g = sign_same sign a c g

-- ---- symbols

-- the symbol is a terminal for whose number the test holds
abbrev pub symbol_is : (ℕ → Bool) → Symbol → Bool
symbol_is is (symbol.Terminal n) = is n
symbol_is is (symbol.Rule n) = false
symbol_is is (symbol.LeftOut n) = false
symbol_is is symbol.Close = false

-- the production is of one such symbol alone
abbrev pub alone_is : (ℕ → Bool) → List Symbol → Bool
alone_is is [] = false
alone_is is (x ∷ []) = symbol_is is x
alone_is is (x ∷ y ∷ more) = false

-- each of the productions is
abbrev pub AreEach : (ℕ → Bool) → List (List Symbol) → Type 0
AreEach is [] = Unit {0}
AreEach is (xs ∷ more) = (alone_is is xs ≡ true) × AreEach is more

pub among_is : (is : ℕ → Bool) (x : Symbol) (lines : List (List Symbol)) → AreEach is lines → IsAmong x lines → symbol_is is x ≡ true
among_is is x [] h among = elim among [ ]
among_is is x (xs ∷ lines) h here = h.0
among_is is x (xs ∷ lines) h (further more) = among_is is x lines h.1 more

-- ---- a token that is no abbreviation

-- the terminal of this number is that of a name, or of no token that can be written out
abbrev pub stays_or_name : ℕ → Bool
stays_or_name n =
    not (nat_eq n (number_of (codes "//")) || (nat_eq n (number_of (codes "@")) || (nat_eq n (number_of (codes "..")) || (nat_eq n (number_of (codes "|")) || nat_eq n 4))))

-- it is that of no token that can be written out; a name can, where it calls a function
abbrev pub stays : ℕ → Bool
stays n = not (nat_eq n 0) && stays_or_name n

-- the terminal is taken of the written out tokens, too
pub record On (nests : Bool) (end : List Lexed) (depth : ℕ) (x : Symbol) (xs ys out : List Lexed) : Type 0 where
  pub rest : List Lexed
  pub takes : Takes All depth x out rest
  pub more : WrittenOut nests end ys rest
  pub text : first_text xs ≡ first_text out

no_stay : (m n : ℕ) → m ≡ n → stays n ≡ true → stays m ≡ false → ⊥
no_stay m n e h g = false≢true (sym g ∙ subst (λ k. stays k ≡ true) (sym e) h)

-- a token that is as it was
still : {nests : Bool} {end : List Lexed} → LooksEnd end → {depth n : ℕ} {xs ys : List Lexed} (x : Lexed) (from : ℕ) → (x.kind ≡ kind.Sign s.Slash → begins_step (first_behind b.End xs) ≡ begins_step (first_behind b.End ys))
    → WrittenOut nests end xs ys → terminal_number (terminal_of x (first_behind b.End xs)) ≡ n → depth ≤ greatest_nesting → On nests end depth (Terminal n) (x ∷ xs) xs (lexed x.kind x.text from ∷ ys)
still q {xs = xs} {ys} x from slash more e few = record {
  rest = ys;
  takes = token (ap terminal_number (sym (kind_same x.kind x.text (first_behind b.End xs) (first_behind b.End ys) (phrase_same q more) slash)) ∙ e) few;
  more = more;
  text = refl;
}

pub on : {nests : Bool} {end : List Lexed} → LooksEnd end → {deep depth : ℕ} {x : Symbol} {xs ys out : List Lexed} → Takes All deep x xs ys → HasRoom nests deep depth → symbol_is stays x ≡ true → WrittenOut nests end xs out → On nests end depth x xs ys out
on q (token {x = x} e few) p h (kept from slash more) = still q x from slash more e (fewer p few)
on q (token {number = n} e few) p h (descendants room from a c d f g i j more) = absurd (no_stay (number_of (codes "//")) n e h refl)
on q (token {number = n} e few) p h (attribute from a c more) = absurd (no_stay (number_of (codes "@")) n e h refl)
on q (token {number = n} e few) p h (parent room from a c d f g more) = absurd (no_stay (number_of (codes "..")) n e h refl)
on q (token {number = n} e few) p h (union from a more) = absurd (no_stay (number_of (codes "|")) n e h refl)
on q (token {number = n} e few) p h (literal from a l more) = absurd (no_stay 4 n e h refl)
on q (token {xs = xs} {number = n} e few) p h (function {v = v} {callee = called} from a l f g more) = absurd (no_stay 0 n (sym (name_of_function v called (first_behind b.End xs) l) ∙ e) h refl)
on q (cut c) p h w = absurd c

-- ---- tokens that may be

-- `//`
pub data Slashes (depth : ℕ) : List Lexed → List Lexed → Type 0 where
  slashes_kept : {xs ys : List Lexed} → Takes All depth (t "//") xs ys → Slashes depth xs ys
  as_steps : {ys : List Lexed} (a c d e f g i : ℕ) → suc depth ≤ greatest_nesting → depth ≤ greatest_nesting →
      Slashes depth
      (sign s.Slash "/" a ∷ word "descendant-or-self" c ∷ sign s.ColonColon "::" d ∷ word "node" e ∷ sign s.LeftParenthesis "(" f ∷ sign s.RightParenthesis ")" g ∷ sign s.Slash "/" i ∷ ys)
      ys

pub record OnSlashes (nests : Bool) (end : List Lexed) (depth : ℕ) (ys out : List Lexed) : Type 0 where
  pub rest : List Lexed
  pub way : Slashes depth out rest
  pub more : WrittenOut nests end ys rest

wrong : {A : Type 0} (m n : ℕ) → m ≡ n → nat_eq m n ≡ false → A
wrong m n e h = absurd (false≢true (sym h ∙ eq-eqb m n e))

pub on_slashes : {nests : Bool} {end : List Lexed} → LooksEnd end → {deep depth : ℕ} {xs ys out : List Lexed} → Takes All deep (t "//") xs ys → HasRoom nests deep depth → WrittenOut nests end xs out → OnSlashes nests end depth ys out
on_slashes q (token {x = x} e few) p (kept from slash more) = let o = still q x from slash more e (fewer p few) in record { rest = o.rest; way = slashes_kept o.takes; more = o.more }
on_slashes q (token e few) p (descendants {ys = rest} room from a c d f g i j more) = record { rest = rest; way = as_steps a c d f g i j (room_for room p few) (fewer p few); more = more }
on_slashes q (token e few) p (attribute from a c more) = wrong (number_of (codes "@")) (number_of (codes "//")) e refl
on_slashes q (token e few) p (parent room from a c d f g more) = wrong (number_of (codes "..")) (number_of (codes "//")) e refl
on_slashes q (token e few) p (union from a more) = wrong (number_of (codes "|")) (number_of (codes "//")) e refl
on_slashes q (token e few) p (literal from a l more) = wrong 4 (number_of (codes "//")) e refl
on_slashes q (token {xs = xs} e few) p (function {v = v} {callee = called} from a l f g more) = wrong 0 (number_of (codes "//")) (sym (name_of_function v called (first_behind b.End xs) l) ∙ e) refl
on_slashes q (cut c) p w = absurd c

-- `@`
pub data At (depth : ℕ) : List Lexed → List Lexed → Type 0 where
  at_kept : {xs ys : List Lexed} → Takes All depth (t "@") xs ys → At depth xs ys
  as_axis : {ys : List Lexed} (a c : ℕ) → depth ≤ greatest_nesting → At depth (word "attribute" a ∷ sign s.ColonColon "::" c ∷ ys) ys

pub record OnAt (nests : Bool) (end : List Lexed) (depth : ℕ) (ys out : List Lexed) : Type 0 where
  pub rest : List Lexed
  pub way : At depth out rest
  pub more : WrittenOut nests end ys rest

pub on_at : {nests : Bool} {end : List Lexed} → LooksEnd end → {deep depth : ℕ} {xs ys out : List Lexed} → Takes All deep (t "@") xs ys → HasRoom nests deep depth → WrittenOut nests end xs out → OnAt nests end depth ys out
on_at q (token {x = x} e few) p (kept from slash more) = let o = still q x from slash more e (fewer p few) in record { rest = o.rest; way = at_kept o.takes; more = o.more }
on_at q (token e few) p (attribute {ys = rest} from a c more) = record { rest = rest; way = as_axis a c (fewer p few); more = more }
on_at q (token e few) p (descendants room from a c d f g i j more) = wrong (number_of (codes "//")) (number_of (codes "@")) e refl
on_at q (token e few) p (parent room from a c d f g more) = wrong (number_of (codes "..")) (number_of (codes "@")) e refl
on_at q (token e few) p (union from a more) = wrong (number_of (codes "|")) (number_of (codes "@")) e refl
on_at q (token e few) p (literal from a l more) = wrong 4 (number_of (codes "@")) e refl
on_at q (token {xs = xs} e few) p (function {v = v} {callee = called} from a l f g more) = wrong 0 (number_of (codes "@")) (sym (name_of_function v called (first_behind b.End xs) l) ∙ e) refl
on_at q (cut c) p w = absurd c

-- `..`
pub data Dots (depth : ℕ) : List Lexed → List Lexed → Type 0 where
  dots_kept : {xs ys : List Lexed} → Takes All depth (t "..") xs ys → Dots depth xs ys
  as_parent : {ys : List Lexed} (a c d e f : ℕ) → suc depth ≤ greatest_nesting → depth ≤ greatest_nesting →
      Dots depth (word "parent" a ∷ sign s.ColonColon "::" c ∷ word "node" d ∷ sign s.LeftParenthesis "(" e ∷ sign s.RightParenthesis ")" f ∷ ys) ys

pub record OnDots (nests : Bool) (end : List Lexed) (depth : ℕ) (ys out : List Lexed) : Type 0 where
  pub rest : List Lexed
  pub way : Dots depth out rest
  pub more : WrittenOut nests end ys rest

pub on_dots : {nests : Bool} {end : List Lexed} → LooksEnd end → {deep depth : ℕ} {xs ys out : List Lexed} → Takes All deep (t "..") xs ys → HasRoom nests deep depth → WrittenOut nests end xs out → OnDots nests end depth ys out
on_dots q (token {x = x} e few) p (kept from slash more) = let o = still q x from slash more e (fewer p few) in record { rest = o.rest; way = dots_kept o.takes; more = o.more }
on_dots q (token e few) p (parent {ys = rest} room from a c d f g more) = record { rest = rest; way = as_parent a c d f g (room_for room p few) (fewer p few); more = more }
on_dots q (token e few) p (descendants room from a c d f g i j more) = wrong (number_of (codes "//")) (number_of (codes "..")) e refl
on_dots q (token e few) p (attribute from a c more) = wrong (number_of (codes "@")) (number_of (codes "..")) e refl
on_dots q (token e few) p (union from a more) = wrong (number_of (codes "|")) (number_of (codes "..")) e refl
on_dots q (token e few) p (literal from a l more) = wrong 4 (number_of (codes "..")) e refl
on_dots q (token {xs = xs} e few) p (function {v = v} {callee = called} from a l f g more) = wrong 0 (number_of (codes "..")) (sym (name_of_function v called (first_behind b.End xs) l) ∙ e) refl
on_dots q (cut c) p w = absurd c

-- `|`
pub data Bar (depth : ℕ) : List Lexed → List Lexed → Type 0 where
  bar_kept : {xs ys : List Lexed} → Takes All depth (t "|") xs ys → Bar depth xs ys
  as_union : {ys : List Lexed} (a : ℕ) → depth ≤ greatest_nesting → Bar depth (word "union" a ∷ ys) ys

pub record OnBar (nests : Bool) (end : List Lexed) (depth : ℕ) (ys out : List Lexed) : Type 0 where
  pub rest : List Lexed
  pub way : Bar depth out rest
  pub more : WrittenOut nests end ys rest

pub on_bar : {nests : Bool} {end : List Lexed} → LooksEnd end → {deep depth : ℕ} {xs ys out : List Lexed} → Takes All deep (t "|") xs ys → HasRoom nests deep depth → WrittenOut nests end xs out → OnBar nests end depth ys out
on_bar q (token {x = x} e few) p (kept from slash more) = let o = still q x from slash more e (fewer p few) in record { rest = o.rest; way = bar_kept o.takes; more = o.more }
on_bar q (token e few) p (union {ys = rest} from a more) = record { rest = rest; way = as_union a (fewer p few); more = more }
on_bar q (token e few) p (descendants room from a c d f g i j more) = wrong (number_of (codes "//")) (number_of (codes "|")) e refl
on_bar q (token e few) p (attribute from a c more) = wrong (number_of (codes "@")) (number_of (codes "|")) e refl
on_bar q (token e few) p (parent room from a c d f g more) = wrong (number_of (codes "..")) (number_of (codes "|")) e refl
on_bar q (token e few) p (literal from a l more) = wrong 4 (number_of (codes "|")) e refl
on_bar q (token {xs = xs} e few) p (function {v = v} {callee = called} from a l f g more) = wrong 0 (number_of (codes "|")) (sym (name_of_function v called (first_behind b.End xs) l) ∙ e) refl
on_bar q (cut c) p w = absurd c

-- a string's literal
pub record OnString (nests : Bool) (end : List Lexed) (depth : ℕ) (xs ys out : List Lexed) : Type 0 where
  pub rest : List Lexed
  pub takes : Takes All depth string out rest
  pub more : WrittenOut nests end ys rest
  pub means : string_of (first_text xs) ≡ string_of (first_text out)

pub on_string : {nests : Bool} {end : List Lexed} → LooksEnd end → {deep depth : ℕ} {xs ys out : List Lexed} → Takes All deep string xs ys → HasRoom nests deep depth → WrittenOut nests end xs out → OnString nests end depth xs ys out
on_string q (token {x = x} e few) p (kept from slash more) = let o = still q x from slash more e (fewer p few) in record { rest = o.rest; takes = o.takes; more = o.more; means = refl }
on_string q (token e few) p (literal {ys = rest} from a l more) = record { rest = rest; takes = token refl (fewer p few); more = more; means = l }
on_string q (token e few) p (descendants room from a c d f g i j more) = wrong (number_of (codes "//")) 4 e refl
on_string q (token e few) p (attribute from a c more) = wrong (number_of (codes "@")) 4 e refl
on_string q (token e few) p (parent room from a c d f g more) = wrong (number_of (codes "..")) 4 e refl
on_string q (token e few) p (union from a more) = wrong (number_of (codes "|")) 4 e refl
on_string q (token {xs = xs} e few) p (function {v = v} {callee = called} from a l f g more) = wrong 0 4 (sym (name_of_function v called (first_behind b.End xs) l) ∙ e) refl
on_string q (cut c) p w = absurd c

-- a name, which is as it was or calls the same function
pub data OnName (nests : Bool) (end : List Lexed) (depth : ℕ) (x : Symbol) (xs ys out : List Lexed) : Type 0 where
  name_kept : On nests end depth x xs ys out → OnName nests end depth x xs ys out
  as_function : {rest : List Lexed} → Takes All depth name out rest → WrittenOut nests end ys rest → callee_of (first_text xs) ≡ callee_of (first_text out) → begins_with_parenthesis ys ≡ true →
      OnName nests end depth x xs ys out

no_name : (m n : ℕ) → m ≡ n → stays_or_name n ≡ true → stays_or_name m ≡ false → ⊥
no_name m n e h g = false≢true (sym g ∙ subst (λ k. stays_or_name k ≡ true) (sym e) h)

pub on_name : {nests : Bool} {end : List Lexed} → LooksEnd end → {deep depth : ℕ} {x : Symbol} {xs ys out : List Lexed} → Takes All deep x xs ys → HasRoom nests deep depth → symbol_is stays_or_name x ≡ true → WrittenOut nests end xs out → OnName nests end depth x xs ys out
on_name q (token {x = x} e few) p h (kept from slash more) = name_kept (still q x from slash more e (fewer p few))
on_name q (token e few) p h (function {v = v} {w = w} {callee = called} {ys = rest} from a l f g more) =
    as_function (token (name_of_function w called (first_behind b.End rest) f) (fewer p few)) more (l ∙ sym f) g
on_name q (token {number = n} e few) p h (descendants room from a c d f g i j more) = absurd (no_name (number_of (codes "//")) n e h refl)
on_name q (token {number = n} e few) p h (attribute from a c more) = absurd (no_name (number_of (codes "@")) n e h refl)
on_name q (token {number = n} e few) p h (parent room from a c d f g more) = absurd (no_name (number_of (codes "..")) n e h refl)
on_name q (token {number = n} e few) p h (union from a more) = absurd (no_name (number_of (codes "|")) n e h refl)
on_name q (token {number = n} e few) p h (literal from a l more) = absurd (no_name 4 n e h refl)
on_name q (cut c) p h w = absurd c

-- ---- the token with which a step begins

-- the terminal of this number is of a token that can begin a step
abbrev pub begins : ℕ → Bool
begins n =
    nat_lt n 5 || (nat_lt 38 n || (nat_eq n (number_of (codes "(")) || (nat_eq n (number_of (codes ".")) || (nat_eq n (number_of (codes "..")) || (nat_eq n (number_of (codes "$")) || (nat_eq n (number_of (codes "*")) || nat_eq n (number_of (codes "@"))))))))

not_begins : {A : Type 0} (m n : ℕ) → m ≡ n → begins n ≡ true → begins m ≡ false → A
not_begins m n e h g = absurd (false≢true (sym g ∙ subst (λ k. begins k ≡ true) (sym e) h))

name_begins : (a c : Bool) → begins_step (cond a b.As (cond c b.Of b.Name)) ≡ true
name_begins true c = refl
name_begins false true = refl
name_begins false false = refl

slash_not : {A : Type 0} (z : Bool) (n : ℕ) → terminal_number (cond z (terminal.Sign s.Slash) terminal.LoneSlash) ≡ n → begins n ≡ true → A
slash_not true n e h = not_begins (number_of (codes "/")) n e h refl
slash_not false n e h = not_begins 5 n e h refl

sign_begins : (sign : Sign) (behind : Behind) (n : ℕ) → terminal_number (sign_terminal sign behind) ≡ n → begins n ≡ true → begins_step (b.Sign sign) ≡ true
sign_begins s.LeftParenthesis behind n e h = refl
sign_begins s.LeftBracket behind n e h = refl
sign_begins s.Dot behind n e h = refl
sign_begins s.DotDot behind n e h = refl
sign_begins s.Dollar behind n e h = refl
sign_begins s.Star behind n e h = refl
sign_begins s.Question behind n e h = refl
sign_begins s.At behind n e h = refl
sign_begins s.Slash behind n e h = slash_not (begins_step behind) n e h
sign_begins _ behind n e h = not_begins _ n e h refl

kind_begins : (k : TokenKind) (text : List ℕ) (behind : Behind) (n : ℕ) → terminal_number (kind_terminal k text behind) ≡ n → begins n ≡ true → begins_step (kind_behind k text) ≡ true
kind_begins kind.Name text behind n e h = name_begins (same (codes "as") text) (same (codes "of") text)
kind_begins kind.Integer text behind n e h = refl
kind_begins kind.Decimal text behind n e h = refl
kind_begins kind.Double text behind n e h = refl
kind_begins kind.String text behind n e h = refl
kind_begins (kind.Sign sign) text behind n e h = sign_begins sign behind n e h

pub takes_begin : {depth : ℕ} {x : Symbol} {xs ys : List Lexed} → Takes All depth x xs ys → symbol_is begins x ≡ true → begins_step (first_behind b.End xs) ≡ true
takes_begin (token {x = x} {xs = xs} {number = n} e few) h = kind_begins x.kind x.text (first_behind b.End xs) n e h
takes_begin (cut c) h = absurd c
