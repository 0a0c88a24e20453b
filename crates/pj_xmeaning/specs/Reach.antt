-- How far tokens are read.
use Rattle.std.specs.Prelude.{◌≡◌, ℕ, ◌<◌, ◌≤◌, ⊤, List}
use Rattle.pj_xtokens.specs.First.{behind_first}
use Rattle.pj_xtokens.specs.Tokens.{Lexed}
use Rattle.pj_xgrammar.specs.XPath.{greatest_nesting}

-- which token the beginning of an expression ends with
pub data Ending : Type 0 where
  -- any that the language has there
  Plain : Ending
  -- such a one, behind which more is open than may be
  Deep : Ending
  -- one that begins a construct that is left out
  Outside : Ending

pub data Reach : Type 0 where
  -- all of them are, as an expression that nests no deeper than may be
  All : Reach
  -- Those before these are, as the beginning of an expression that ends so, and these are left. No bound is put on how deep it nests; of depths `Deep`
  -- alone asks something, behind the last token.
  UpTo : Ending → List Lexed → Reach

-- from these tokens on nothing is read: they are those that are left
abbrev pub IsCut : Reach → List Lexed → Type 0
IsCut All tokens = ⊥
IsCut (UpTo ending left) tokens = tokens ≡ left

-- these tokens are still read
abbrev pub IsBefore : Reach → List Lexed → Type 0
IsBefore reach tokens = IsCut reach tokens → ⊥

-- the last token may be one that the language has there, behind which so many things are open
abbrev pub MayEnd : Ending → ℕ → Type 0
MayEnd Plain depth = ⊤
MayEnd Deep depth = greatest_nesting < depth
MayEnd Outside depth = ⊥

-- the first token may be taken, behind which so many things are open
abbrev pub Within : Reach → ℕ → List Lexed → Type 0
Within All depth tokens = depth ≤ greatest_nesting
Within (UpTo ending left) depth tokens = IsBefore (UpTo ending left) tokens × (behind_first tokens ≡ left → MayEnd ending depth)

-- these tokens are left, and the one before them begins a construct that is left out
abbrev pub IsBehindLeftOut : Reach → List Lexed → Type 0
IsBehindLeftOut (UpTo Outside left) tokens = tokens ≡ left
IsBehindLeftOut _ tokens = ⊥
