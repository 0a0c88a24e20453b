-- What an item stands for.
use Rattle.std.specs.Prelude.{ℕ, List, [], ◌∷◌, map}
use Rattle.pj_peg_grammar.specs.declared.item.Item.{Item}
use Rattle.pj_peg_grammar.specs.declared.item.Item.TheOpen.{Item-F}
use Rattle.pj_peg_grammar.specs.declared.item.Item.TheFolds.{fold-Item}

-- An item with its lists taken apart: a sequence is its first part and the sequence of the others, a choice its first
-- alternative and the choice among the others.
pub data Form : Type 0 where
  -- one token of this kind
  token : ℕ → Form
  -- one token of whatever kind
  any : Form
  -- what the rule of this number takes
  rule : ℕ → Form
  -- the empty sequence, which takes no token
  nothing : Form
  seq : Form → Form → Form
  -- the empty choice, which always fails
  never : Form
  choice : Form → Form → Form
  -- as often as it does not fail
  star : Form → Form
  maybe : Form → Form
  -- the part is there, and is not taken
  ahead : Form → Form
  -- the part is not there
  not_ahead : Form → Form

abbrev pub seq_all : List Form → Form
seq_all [] = nothing
seq_all (f ∷ fs) = seq f (seq_all fs)

abbrev pub choice_all : List Form → Form
choice_all [] = never
choice_all (f ∷ fs) = choice f (choice_all fs)

abbrev pub item_form : Item-F Form → Form
item_form (Item-F.Token k) = token k
item_form Item-F.Any = any
item_form (Item-F.Rule r) = rule r
item_form (Item-F.Seq parts) = seq_all parts.items
item_form (Item-F.Choice parts) = choice_all parts.items
item_form (Item-F.Star part) = star part.value
item_form (Item-F.Maybe part) = maybe part.value
item_form (Item-F.And part) = ahead part.value
item_form (Item-F.Not part) = not_ahead part.value

abbrev pub form_of : Item → Form
form_of = fold-Item Form item_form

-- what each rule of a grammar stands for, by its number
abbrev pub forms_of : List Item → List Form
forms_of rules = map form_of rules
