-- The state that the reader's fields stand for.
use Rattle.std.specs.Prelude.{◌≡◌, ℕ, Bool, true, false, List, [], ◌∷◌, Option, Some, None}
use Rattle.pj_markup.specs.States as s
use Rattle.pj_markup.specs.States.{Frame, State}
use Rattle.pj_markup.specs.declared.state.Ground.{Ground}
use Rattle.pj_markup.specs.declared.state.Ground.TheVariants as ground
use Rattle.pj_markup.specs.declared.state.Target.{Target}
use Rattle.pj_markup.specs.declared.state.Target.TheVariants as target
use Rattle.pj_markup.specs.declared.state.Entity.{Entity}
use Rattle.pj_markup.specs.declared.state.Entity.TheVariants as entity
use Rattle.pj_markup.specs.declared.state.Word.{Word}
use Rattle.pj_markup.specs.declared.state.Word.TheVariants as word
use Rattle.pj_markup.specs.declared.state.Long.{Long}
use Rattle.pj_markup.specs.declared.state.Long.TheVariants as long
use Rattle.pj_markup.specs.declared.state.Mode.{Mode}
use Rattle.pj_markup.specs.declared.state.Mode.TheVariants as mode
use Rattle.pj_markup.specs.declared.reader.Reader.{Reader}

abbrev pub frame_of : Reader → Frame
frame_of r = record { rows = r.rows; element = r.element; outer = r.outer }

abbrev pub ground_of : Ground → Reader → s.Ground
ground_of ground.Outside r = s.Outside r.rows
ground_of ground.Inside r = s.Inside (frame_of r)

abbrev pub target_of : Target → Reader → s.Target
target_of target.Content r = s.Content (frame_of r)
target_of target.Value r = s.Value (frame_of r) r.name r.quote r.value

-- the name of an entity and ;
abbrev pub name_of : Entity → List ℕ
name_of entity.Less = 108 ∷ 116 ∷ 59 ∷ []
name_of entity.Greater = 103 ∷ 116 ∷ 59 ∷ []
name_of entity.Ampersand = 97 ∷ 109 ∷ 112 ∷ 59 ∷ []
name_of entity.Quote = 113 ∷ 117 ∷ 111 ∷ 116 ∷ 59 ∷ []
name_of entity.Apostrophe = 97 ∷ 112 ∷ 111 ∷ 115 ∷ 59 ∷ []

-- the character that it stands for
abbrev pub meant_by : Entity → ℕ
meant_by entity.Less = 60
meant_by entity.Greater = 62
meant_by entity.Ampersand = 38
meant_by entity.Quote = 34
meant_by entity.Apostrophe = 39

abbrev pub word_of : Word → Reader → s.Word
word_of (word.Dashes g) r = s.Dashes (ground_of g r)
word_of word.OpenSection r = s.OpenSection (frame_of r)
word_of word.Empty r = s.Empty (frame_of r)
word_of word.EndName r = s.EndName (frame_of r)
word_of (word.Entity t e) r = s.Entity (target_of t r) (name_of e) (meant_by e)

abbrev pub long_of : Long → Reader → s.Long
long_of (long.Comment g) r = s.InComment (ground_of g r)
long_of (long.Instruction g) r = s.InInstruction (ground_of g r)
long_of long.Section r = s.InSection (frame_of r)

abbrev pub mode_of : Mode → Reader → State
mode_of mode.Begin r = s.Begin
mode_of (mode.On g) r = s.On (ground_of g r)
mode_of (mode.Less g) r = s.Less (ground_of g r) r.less
mode_of (mode.Bang g) r = s.Bang (ground_of g r)
mode_of (mode.Letters w k) r = s.Letters (word_of w r) k
mode_of (mode.Until l k) r = s.Until (long_of l r) k
mode_of mode.TagName r = s.TagName (frame_of r)
mode_of mode.Tag r = s.Tag (frame_of r)
mode_of mode.TagSpace r = s.TagSpace (frame_of r)
mode_of mode.AttributeName r = s.AttributeName (frame_of r) r.name
mode_of mode.Equals r = s.Equals (frame_of r) r.name
mode_of mode.Quote r = s.Quote (frame_of r) r.name
mode_of mode.Value r = s.InValue (frame_of r) r.name r.quote r.value
mode_of mode.EndSpace r = s.EndSpace (frame_of r)
mode_of (mode.Reference t) r = s.Reference (target_of t r)
mode_of (mode.ReferenceA t) r = s.ReferenceA (target_of t r)
mode_of (mode.Hash t) r = s.Hash (target_of t r)
mode_of (mode.Digit t h) r = s.Digit (target_of t r) h
mode_of (mode.Digits t h) r = s.Digits (target_of t r) h r.number

abbrev pub state_of : Reader → State
state_of r = mode_of r.mode r

-- the reader went on to the state, or nothing goes on so
abbrev pub Went : Bool → Option State → State → Type 0
Went true next s = next ≡ Some s
Went false next s = next ≡ None
