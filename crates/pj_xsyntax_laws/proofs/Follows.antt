-- What may stand behind an expression, so that its last word is read as it stands alone.
use Rattle.std.proofs.Common.{◌≡◌, Bool, true, false, not, ◌&&◌, ◌||◌, refl}
use Rattle.std.specs.Prelude.{IsTrue}
use Rattle.std.proofs.lemmas.Bool.{and_parts, false≢true}
use Rattle.pj_xgrammar.specs.declared.terminal.Behind.{Behind}
use Rattle.pj_xgrammar.specs.declared.word.Phrase.{Phrase}
use Rattle.pj_xgrammar.specs.declared.word.Phrase.TheVariants as p
use Rattle.pj_xgrammar.specs.Terminals.{is_dollar, is_parenthesis, is_brace, is_as, is_of, begins_step, makes_phrase}

-- it makes no phrase of a word before it
abbrev pub no_phrase : Behind → Bool
no_phrase behind = not (is_dollar behind) && (not (is_parenthesis behind) && (not (is_brace behind) && (not (is_as behind) && not (is_of behind))))

-- and it begins no step, unless the flag says that it may
abbrev pub follows : Bool → Behind → Bool
follows flag behind = no_phrase behind && (flag || not (begins_step behind))

pub follows-phrase : (flag : Bool) (behind : Behind) → IsTrue (follows flag behind) → IsTrue (no_phrase behind)
follows-phrase flag behind h = (and_parts (no_phrase behind) (flag || not (begins_step behind)) h).0

not-false : (b : Bool) → IsTrue (not b) → b ≡ false
not-false true h = absurd (false≢true h)
not-false false h = refl

pub follows-step : (behind : Behind) → IsTrue (follows false behind) → begins_step behind ≡ false
follows-step behind h = not-false (begins_step behind) (and_parts (no_phrase behind) (not (begins_step behind)) h).1

five : (a b c d e : Bool) → IsTrue (not a && (not b && (not c && (not d && not e)))) → (a ≡ false) × (b ≡ false) × (c ≡ false) × (d ≡ false) × (e ≡ false)
five true b c d e h = absurd (false≢true h)
five false true c d e h = absurd (false≢true h)
five false false true d e h = absurd (false≢true h)
five false false false true e h = absurd (false≢true h)
five false false false false true h = absurd (false≢true h)
five false false false false false h = (refl, refl, refl, refl, refl)

tests : (b : Behind) → IsTrue (no_phrase b) → (is_dollar b ≡ false) × (is_parenthesis b ≡ false) × (is_brace b ≡ false) × (is_as b ≡ false) × (is_of b ≡ false)
tests b h = five (is_dollar b) (is_parenthesis b) (is_brace b) (is_as b) (is_of b) h

pub makes_none : (phrase : Phrase) (b : Behind) → IsTrue (no_phrase b) → makes_phrase phrase b ≡ false
makes_none p.For b h = (tests b h).0
makes_none p.Let b h = (tests b h).0
makes_none p.Some b h = (tests b h).0
makes_none p.Every b h = (tests b h).0
makes_none p.If b h = (tests b h).1
makes_none p.Function b h = (tests b h).1
makes_none p.Map b h = (tests b h).2
makes_none p.Array b h = (tests b h).2
makes_none p.CastAs b h = (tests b h).3
makes_none p.CastableAs b h = (tests b h).3
makes_none p.TreatAs b h = (tests b h).3
makes_none p.InstanceOf b h = (tests b h).4
