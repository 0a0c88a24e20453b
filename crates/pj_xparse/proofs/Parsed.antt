-- What is known of a text whose tokens were read and derived.
use Rattle.std.proofs.Common.{◌≡◌, ℕ, ◌<◌, ◌≤◌, List, length, map, None, sym, ap, subst, refl}
use Rattle.std.specs.Str.{chars, IsUtf8}
use Rattle.pj_ll.specs.declared.parser.End.{End}
use Rattle.pj_ll.specs.declared.parser.End.TheVariants as outcome
use Rattle.pj_ll.specs.Outcome as terminals
use Rattle.pj_ll.specs.Outcome.{IsEnd}
use Rattle.pj_ll.specs.Steps.{ArePlaced, productions_in}
use Rattle.pj_ll.specs.declared.parser.Step.{Step}
use Rattle.pj_xtokens.specs.Answer.{lexed_of}
use Rattle.pj_xtokens.specs.Gaps.{Past}
use Rattle.pj_xtokens.specs.Rules as lexical
use Rattle.pj_xtokens.specs.Scanning.{IsBehind}
use Rattle.pj_xtokens.specs.Size.{size}
use Rattle.pj_xtokens.specs.Tokens.{Lexed, Tokens}
use Rattle.pj_xtokens.specs.declared.token.Token.{Token}
use Rattle.pj_xtokens.specs.declared.token.TokenKind.{TokenKind}
use Rattle.pj_xtokens.specs.declared.token.End as token
use Rattle.pj_xtokens.specs.declared.token.End.TheVariants as ends
use Rattle.pj_xgrammar.specs.Terminals.{numbers}
use Rattle.pj_xgrammar.specs.XPath.{greatest_nesting, xpath_grammar}
use Rattle.pj_xderive.specs.Expressions.{IsOutcome, IsRun, LeadTo}
use Rattle.pj_xreadings.specs.Operands.{Operand}
use Rattle.pj_xmeaning.specs.Reads.{AreRead}
use Rattle.pj_xmeaning.specs.SoFar.{SayUpTo}
use Rattle.pj_xparse.specs.Faults.{syntax_fault}
use Rattle.pj_xparse.specs.Outcomes.{SaySoFar}
use Rattle.pj_xparse.specs.NameFaults.{first_fault}
use Rattle.pj_xparse.specs.Spells.{Spells}
use Rattle.pj_xparse.proofs.Runs.{whole_run}
use Rattle.pj_xparse.proofs.Sizes.{size_chars}
use Rattle.pj_xparse.proofs.TokenFacts.{token_count, text_end}

-- there are no more tokens than bytes, where what stands behind a gap is an end of the text, and each token has a character
pub count_of_tokens : ((text body : List ℕ) → Past text body → IsBehind body text) → ((k : TokenKind) (w : List ℕ) → lexical.Spells k w → 0 < length w) → (text : List ℕ) (tokens : List Lexed) (end : token.End) → IsUtf8 text → Tokens (size (chars text)) (chars text) tokens end → length tokens ≤ length text
count_of_tokens past_behind not_empty text tokens end utf8 read =
    subst (λ n. length tokens ≤ n) (sym (size_chars text utf8)) (token_count past_behind not_empty _ _ tokens end read)

-- the tokens that a slice of some tokens holds are those of the text
pub read_slice : (text : List ℕ) (slice all : List Token) (end : token.End) → slice ≡ all → Tokens (size text) text (map lexed_of all) end → Tokens (size text) text (map lexed_of slice) end
read_slice text slice all end same read = subst (λ ts. Tokens (size text) text (map lexed_of ts) end) (sym same) read

-- where the tokens of a text have no fault, and all of them are read, the text spells what they say
pub spelled : (variables : List (List ℕ)) (text : List ℕ) (tokens : List Lexed) (said : Operand) (end : token.End) (o : End) → Tokens (size text) text tokens end
    → syntax_fault tokens end o ≡ None → AreRead tokens said → first_fault variables said.names ≡ None → Spells variables text said.tree
spelled variables text tokens said (ends.Text n) outcome.Whole read none says named = record {
  tokens = tokens;
  said = said;
  read = subst (Tokens (size text) text tokens) (ap ends.Text (text_end _ _ tokens (ends.Text n) read n refl)) read;
  says = says;
  named = named;
  means = refl;
}
spelled variables text tokens said (ends.Fault n) outcome.Whole read none says named = absurd (cc)
spelled variables text tokens said end (outcome.Stops i) read none says named = absurd (cc)
spelled variables text tokens said end (outcome.LeftOut i) read none says named = absurd (cc)
spelled variables text tokens said end (outcome.TooDeep i) read none says named = absurd (cc)

-- Where tokens say something as far as each run of theirs goes to which productions lead, that stand where they begin:
module _ {tokens : List Lexed} {steps all : List Step} {said : Operand} (same : steps ≡ all) (placed : ArePlaced xpath_grammar (numbers tokens) all)
    (say : (run : End) → IsEnd xpath_grammar (numbers tokens) greatest_nesting run → terminals.LeadTo xpath_grammar (numbers tokens) (productions_in steps) run →
    ArePlaced xpath_grammar (numbers tokens) steps → SayUpTo run tokens said) where
  say_run : (run : End) → IsEnd xpath_grammar (numbers tokens) greatest_nesting run → terminals.LeadTo xpath_grammar (numbers tokens) (productions_in all) run → SayUpTo run tokens said
  say_run run ends leads =
      say run ends (subst (λ s. terminals.LeadTo xpath_grammar (numbers tokens) (productions_in s) run) (sym same) leads) (subst (ArePlaced xpath_grammar (numbers tokens)) (sym same) placed)

  -- They say it so far, where the productions are those of their run, and where they are read as far as it goes.
  pub say_so_far : ((tokens : List Lexed) (run : End) (a : Operand) → IsEnd xpath_grammar (numbers tokens) greatest_nesting run → SayUpTo run tokens a → SaySoFar tokens a) →
      IsRun tokens (productions_in all) → SaySoFar tokens said
  say_so_far read run = read tokens run.end said run.ends (say_run run.end run.ends run.leads)

  -- and where they have no fault, all of them are read as it
  pub all_read : (end : token.End) (o : End) → IsOutcome tokens o → LeadTo tokens (productions_in all) o → syntax_fault tokens end o ≡ None → AreRead tokens said
  all_read end outcome.Whole is leads none = say_run outcome.Whole (whole_run tokens (productions_in all) leads is.clear) leads
  all_read end (outcome.Stops i) is leads none = absurd (cc)
  all_read end (outcome.LeftOut i) is leads none = absurd (cc)
  all_read end (outcome.TooDeep i) is leads none = absurd (cc)
