-- For a private clause: one more character of a text whose white space is normalized.
use Rattle.std.specs.Prelude.{ℕ, ◌&&◌, ◌==◌, Bool, not, ◌∷◌, length, encode_utf8, if◌then◌else◌}
use Rattle.pj_rule_texts.specs.Values.{Text}

-- the character, behind a space where white space stands between it and the text
abbrev pub put_word_character : Text → Bool → ℕ → Text
put_word_character text is_behind_space c = if is_behind_space && not (length text == 0) then 32 ∷ encode_utf8 c else encode_utf8 c
