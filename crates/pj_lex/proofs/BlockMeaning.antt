-- The states in BlockState stand for the rules that are left behind each ASCII character.
use Rattle.std.proofs.Common.{◌≡◌, refl}
use Rattle.pj_lex.specs.Rules.{rules}
use Rattle.pj_lex.specs.States.{spelled, block_step, block_spelled}
use Rattle.pj_lex.specs.declared.state.State.TheVariants as s
use Rattle.pj_patterns.specs.Derivatives.{spells_none}
use Rattle.pj_lex.specs.declared.text_block.BlockState.{BlockState}
use Rattle.pj_lex.specs.declared.text_block.BlockState.TheVariants as block
use Rattle.pj_lex.proofs.Meaning.{meaning, left_behind, led_to, left_wide, led_wide}

pub block_goes_on : (q : BlockState) → left_behind (meaning (s.Block q)) ≡ led_to (s.Block q)
unfolding rules meaning block_step
block_goes_on block.BlockOpening = refl
block_goes_on block.BlockOpeningLine = refl
block_goes_on block.BlockBody = refl
block_goes_on block.BlockQuote = refl
block_goes_on block.BlockQuotes = refl
block_goes_on block.BlockEscape = refl
block_goes_on block.BlockEnd = refl
block_goes_on block.BadBlockBody = refl
block_goes_on block.BadBlockQuote = refl
block_goes_on block.BadBlockQuotes = refl
block_goes_on block.BadBlockEscape = refl

pub block_spells : (q : BlockState) → spells_none (meaning (s.Block q)) ≡ spelled (s.Block q)
unfolding rules meaning block_spelled
block_spells block.BlockOpening = refl
block_spells block.BlockOpeningLine = refl
block_spells block.BlockBody = refl
block_spells block.BlockQuote = refl
block_spells block.BlockQuotes = refl
block_spells block.BlockEscape = refl
block_spells block.BlockEnd = refl
block_spells block.BadBlockBody = refl
block_spells block.BadBlockQuote = refl
block_spells block.BadBlockQuotes = refl
block_spells block.BadBlockEscape = refl

pub block_wide : (q : BlockState) → left_wide (meaning (s.Block q)) ≡ led_wide (s.Block q)
unfolding rules meaning block_step
block_wide block.BlockOpening = refl
block_wide block.BlockOpeningLine = refl
block_wide block.BlockBody = refl
block_wide block.BlockQuote = refl
block_wide block.BlockQuotes = refl
block_wide block.BlockEscape = refl
block_wide block.BlockEnd = refl
block_wide block.BadBlockBody = refl
block_wide block.BadBlockQuote = refl
block_wide block.BadBlockQuotes = refl
block_wide block.BadBlockEscape = refl
