-- With which tokens a form can begin, by the rules that can take nothing and the kinds with which rules can begin.
use Rattle.std.specs.Prelude.{◌≡◌, ℕ, ◌+◌, ◌-◌, ◌^◌, ◌<◌, Bool, List, [], ◌∷◌, length, Some, slice_get, slice_index_or, nat_lt, if◌then◌else◌}
use Rattle.std.specs.Int.{bit_at}
use Rattle.std.specs.Int.RustNames.{bit_or}
use Rattle.pj_peg_grammar.specs.declared.firsts.Beginning.{Beginning}
use Rattle.pj_peg_grammar.specs.declared.program.Program.{Program}
use Rattle.pj_peg_grammar.specs.Form.{Form, token, any, rule, nothing, seq, never, choice, star, maybe, ahead, not_ahead}
use Rattle.pj_peg_grammar.specs.Derives.{Derives, Fails}
use Rattle.pj_peg_grammar.specs.WellFormed.{IsWellFormed, IsNullable, Names, Repeats}
use Rattle.pj_peg_grammar.specs.Analysis.{nullable_by}
use Rattle.pj_peg_grammar.specs.Program.{form_at, forms_in, rules_of}

-- A set of kinds below 128 is a number, in which bit k is 1 where kind k is in the set.
abbrev pub all_kinds : ℕ
all_kinds = 2 ^ 128 - 1

-- the set of one kind, which is empty for a further one
abbrev pub kind_set : ℕ → ℕ
kind_set k = if nat_lt k 128 then 2 ^ k else 0

-- the set of a rule
abbrev pub set_at : List ℕ → ℕ → ℕ
set_at sets r = slice_index_or sets r 0

-- how far all sets are from having all kinds
abbrev pub missing : List ℕ → ℕ
missing [] = 0
missing (s ∷ ss) = (all_kinds - s) + missing ss

-- the kinds of which the first can be where the form takes tokens
abbrev pub firsts_by : (ℕ → Bool) → (ℕ → ℕ) → Form → ℕ
firsts_by e s (token k) = kind_set k
firsts_by e s any = all_kinds
firsts_by e s (rule r) = s r
firsts_by e s nothing = 0
firsts_by e s (seq a b) = if nullable_by e a then bit_or (firsts_by e s a) (firsts_by e s b) else firsts_by e s a
firsts_by e s never = 0
firsts_by e s (choice a b) = bit_or (firsts_by e s a) (firsts_by e s b)
firsts_by e s (star a) = firsts_by e s a
firsts_by e s (maybe a) = firsts_by e s a
firsts_by e s (ahead a) = 0
firsts_by e s (not_ahead a) = 0

abbrev pub beginning_by : (ℕ → Bool) → (ℕ → ℕ) → Form → Beginning
beginning_by e s f = record { nullable = nullable_by e f; firsts = firsts_by e s f }

-- the kinds of which one can stand where something goes on that begins so
abbrev pub going_of : Beginning → ℕ
going_of b = if b.nullable then all_kinds else b.firsts

-- The form fails from the place on, where the grammar is well-formed and it names only rules that are there and repeats nothing
-- that can take nothing.
abbrev pub IsRuledOut : List Form → List ℕ → Form → ℕ → Type 0
IsRuledOut rules kinds f i = IsWellFormed rules → ((s : ℕ) → Names f s → s < length rules) → ((q : Form) → Repeats f q → IsNullable rules q → ⊥) →
    Derives rules kinds f i Fails

-- the form fails so where a token of the kind stands
abbrev pub IsAlwaysRuledOut : List Form → ℕ → Form → Type 0
IsAlwaysRuledOut rules kind f = (kinds : List ℕ) (i : ℕ) → slice_get kinds i ≡ Some kind → IsRuledOut rules kinds f i

-- Each node is ruled out where a token of a kind stands that is not in its set, whatever the other tokens are.
pub record AreGoing (p : Program) (sets : List ℕ) : Type 0 where
  pub count : length sets ≡ length p.nodes.items
  pub fails : (n set kind : ℕ) → slice_get sets n ≡ Some set → kind < 128 → bit_at set kind ≡ 0 → (kinds : List ℕ) (i : ℕ) → slice_get kinds i ≡ Some kind →
      IsRuledOut (rules_of p) kinds (form_at (forms_in p.nodes.items) n) i
