-- Where the mentions of a text stand, and in which order, and at which offset a place is.
--
-- An offset is a number of bytes of the text, from 0. A place is a number of tokens, from 0: that of the token there, and the number of all tokens
-- for the end.
use Rattle.std.specs.Prelude.{◌≡◌, ℕ, ◌<◌, ◌⊎◌, ⊤, List, [], ◌∷◌, Option, Some, None, slice_get}
use Rattle.pj_xtokens.specs.Tokens.{Lexed}
use Rattle.pj_xtokens.specs.declared.token.End.{End}
use Rattle.pj_xtokens.specs.declared.token.End.TheVariants as ends
use Rattle.pj_xreadings.specs.Mentions.{Mention, Variable, Call, Argument, Binds, Ends}

-- Where a mention stands: its offset, and its rank among those of one offset. An argument as a whole comes before what it names.
pub record Position : Type 0 where
  pub from : ℕ
  pub rank : ℕ

-- the positions of the mentions that have an offset, in their order
abbrev pub positions : List Mention → List Position
positions [] = []
positions (Argument role written from ∷ more) = record { from = from; rank = 0 } ∷ positions more
positions (Call name count from ∷ more) = record { from = from; rank = 1 } ∷ positions more
positions (Variable name from ∷ more) = record { from = from; rank = 1 } ∷ positions more
positions (Binds name ∷ more) = positions more
positions (Ends count ∷ more) = positions more

-- the first position comes before the second: by offset, and at one offset by rank
abbrev pub IsBefore : Position → Position → Type 0
IsBefore p q = (p.from < q.from) ⊎ ((p.from ≡ q.from) × (p.rank < q.rank))

-- the position comes before each of the others
abbrev pub IsBeforeAll : Position → List Position → Type 0
IsBeforeAll p [] = ⊤
IsBeforeAll p (q ∷ qs) = IsBefore p q × IsBeforeAll p qs

-- each position comes before those that follow it
abbrev pub Ascend : List Position → Type 0
Ascend [] = ⊤
Ascend (p ∷ ps) = IsBeforeAll p ps × Ascend ps

-- each position has an offset below this one
abbrev pub AreBelow : ℕ → List Position → Type 0
AreBelow limit [] = ⊤
AreBelow limit (p ∷ ps) = (p.from < limit) × AreBelow limit ps

-- the offset where the tokens end: at the end of the text, or at the first place where no token begins
abbrev pub offset_of_end : End → ℕ
offset_of_end (ends.Text length) = length
offset_of_end (ends.Fault from) = from

-- that of the token, if there is one, or where the tokens end
abbrev pub offset_in : Option Lexed → End → ℕ
offset_in (Some x) end = x.from
offset_in None end = offset_of_end end

-- the offset of a place: of the token there, or where the tokens end
abbrev pub offset_at : List Lexed → End → ℕ → ℕ
offset_at tokens end place = offset_in (slice_get tokens place) end
