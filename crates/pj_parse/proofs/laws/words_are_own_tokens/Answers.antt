use Rattle.pj_parse.proofs.FileWords.{file_words, file_tokens}
use Rattle.pj_parse.proofs.laws.words_are_own_tokens.Goals as goal

pub returns : goal.returns
returns c = record { once = file_words; owned = file_tokens }
