-- A compiled pattern finds what its text means.
use Rattle.std.proofs.Common.{◌≡◌, ◌∙◌, ◌<◌, ◌≤◌, ◌⊎◌, ◌++◌, ◌∷◌, [], IfSome, map, ap₂, slice_range, length, arith, inl, inr, ⊎_elim, ℕ, List, Option, Some, None, ap, is_some, option_map, get_or, refl, true, false, Bool}
use Rattle.std.specs.Prelude.{chars}
use Rattle.std.specs.Option.{IsSomeAnd, option_map_or}
use Rattle.regex.specs.Patterns.{Config, Match, Re, SameCaptures, find_all_str, find_str, span}
use Rattle.regex.specs.Replace.{ExpandsTo, replaced_by, replacement_of}
use Rattle.regex.specs.Search.{gaps}
use Rattle.regex_vm.specs.Found.{group_cells}
use Rattle.regex.specs.declared.template.Piece.{Piece}
use Rattle.regex.specs.Strings.{IsReadFromSource, regex_config, regex_names, regex_pattern, regex_source}
use Rattle.regex.specs.declared.string.regex.Regex.{Regex}
use Rattle.regex.proofs.OnLiterals.{IsReadAs, same_refl}
use Rattle.regex.proofs.ForCallers.{alike_as_written, gaps_alike, is_match_alike, replaced_alike}
use Rattle.regex_syntax.specs.Grammar.{Names, group_count, read}
use Rattle.regex_syntax.specs.Brackets.{Nested}
use Rattle.regex_syntax.specs.Verdict.{Reads}
use Rattle.regex_syntax.specs.Verdict.{Refuses}
use Rattle.regex_syntax.specs.declared.error.Error as parser
use Rattle.regex.specs.Failures.{IsRightKind}
use Rattle.regex.specs.Sources.{IsRefusal}
use Rattle.regex.specs.declared.error.Error.TheVariants.{Syntax}
use Rattle.pj_xpatterns.specs.Meaning as m
use Rattle.pj_xpatterns.specs.Meaning.{Text, Pattern, config_of}
use Rattle.pj_xpatterns.specs.declared.flags.PatternFlags.{PatternFlags}

-- what a pattern's text means where it is read by these options

abbrev pub meaning_of : Config → Text → Option Re
meaning_of config text = option_map (λ p. p.0.value) (read config (chars text))

abbrev pub IsNoPattern : Config → Text → Type 0
IsNoPattern config text = (read config (chars text) ≡ None) ⊎ IfSome (read config (chars text)) (λ p. config.nest_limit < p.0.depth)

abbrev pub is_found : Config → Text → Text → Bool
is_found config pattern text = option_map_or (λ re. is_some (find_str re text 0)) (meaning_of config pattern) false

abbrev pub pieces_of : Config → Text → Text → List Text
pieces_of config pattern text = map (λ p. slice_range text p.0 p.1) (gaps (length text) 0 (option_map_or (λ re. find_all_str re text) (meaning_of config pattern) []))

abbrev pub replaced : Config → Text → Text → Text → Text
replaced config pattern by text = replaced_by (λ _. by) text 0 (option_map_or (λ re. find_all_str re text) (meaning_of config pattern) [])

-- a regex was read from a pattern, so its text has a meaning
is_pattern : (r : Regex) → IsReadFromSource r → read (regex_config r) (chars (regex_source r)) ≡ None → ⊥
unfolding Reads
is_pattern r h e = rw e at h

-- and the regex matches as that does
pub is_found-as_read : (r : Regex) → IsReadFromSource r → (hay : Text) → ((k : ℕ) → get_or hay k 0 < 256)
    → is_some (find_str (regex_pattern r) hay 0) ≡ is_found (regex_config r) (regex_source r) hay
is_found-as_read r h hay bytes = go (read (regex_config r) (chars (regex_source r))) refl
  where
    go : (o : Option (Nested Re × Names)) → read (regex_config r) (chars (regex_source r)) ≡ o
        → is_some (find_str (regex_pattern r) hay 0) ≡ option_map_or (λ re. is_some (find_str re hay 0)) (option_map (λ p. p.0.value) o) false
    go None e = absurd (is_pattern r h e)
    go (Some p) e =
        let written : IsReadAs (regex_config r) (regex_source r) p.0.value = rw e (same_refl p.0.value) in
        is_match_alike (alike_as_written r (regex_config r) (regex_source r) refl refl h p.0.value written) hay bytes true 0

-- an error of syntax says that the text is no pattern, or nests too deep
pub no_pattern : (config : Config) (source : Text) (e : parser.Error) → IsRefusal config source (Syntax e) → IsRightKind config source (Syntax e)
    → IsNoPattern config source
unfolding Refuses
no_pattern config source e refused right = ⊎_elim (λ memory. absurd (right memory)) (λ h. ⊎_elim inl (λ deep. inr deep.1) h) (refused e refl)

-- what was read is a pattern, within the depth
pub is_no_refusal : (r : Regex) → IsReadFromSource r → ¬ IsNoPattern (regex_config r) (regex_source r)
unfolding Reads
is_no_refusal r h bad = go (read (regex_config r) (chars (regex_source r))) h bad
  where
    go : (o : Option (Nested Re × Names))
        → IsSomeAnd o (λ (re, found). (re.depth ≤ (regex_config r).nest_limit) × SameCaptures (regex_pattern r) re.value × (regex_names r ≡ found) × (group_count (regex_pattern r) ≤ length (regex_names r)))
        → (o ≡ None) ⊎ IfSome o (λ p. (regex_config r).nest_limit < p.0.depth) → ⊥
    go None reads bad = reads
    go (Some p) reads (inl none) = absurd (cc none)
    go (Some p) reads (inr deep) = omega (arith, reads.0, deep)

-- a template that writes the same text at every match
literal_replaced : (pieces : List Piece) (by : Text) → ExpandsTo pieces by → (hay : Text) (width at : ℕ) (ms : List Match)
    → replacement_of true hay pieces width at ms ≡ replaced_by (λ _. by) hay at ms
unfolding replacement_of replaced_by
literal_replaced pieces by same hay width at [] = refl
literal_replaced pieces by same hay width at (m ∷ ms) =
    ap₂ (λ s t. (slice_range hay at m.start ++ s) ++ t) (same true hay (span m) (group_cells m width)) (literal_replaced pieces by same hay width m.trace.end ms)

module _ (r : Regex) (h : IsReadFromSource r) (hay : Text) (bytes : (k : ℕ) → get_or hay k 0 < 256) where
  pub replaced-as_read : (pieces : List Piece) (by : Text) (width : ℕ) → ExpandsTo pieces by
      → replacement_of true hay pieces width 0 (find_all_str (regex_pattern r) hay) ≡ replaced (regex_config r) (regex_source r) by hay
  replaced-as_read pieces by width same = go (read (regex_config r) (chars (regex_source r))) refl
    where
      go : (o : Option (Nested Re × Names)) → read (regex_config r) (chars (regex_source r)) ≡ o
          → replacement_of true hay pieces width 0 (find_all_str (regex_pattern r) hay)
          ≡ replaced_by (λ _. by) hay 0 (option_map_or (λ re. find_all_str re hay) (option_map (λ p. p.0.value) o) [])
      go None e = absurd (is_pattern r h e)
      go (Some p) e =
          let written : IsReadAs (regex_config r) (regex_source r) p.0.value = rw e (same_refl p.0.value) in
          replaced_alike (alike_as_written r (regex_config r) (regex_source r) refl refl h p.0.value written) hay bytes true None pieces width
          ∙ literal_replaced pieces by same hay width 0 (find_all_str p.0.value hay)

  pub pieces-as_read : map (λ p. slice_range hay p.0 p.1) (gaps (length hay) 0 (find_all_str (regex_pattern r) hay)) ≡ pieces_of (regex_config r) (regex_source r) hay
  pieces-as_read = go (read (regex_config r) (chars (regex_source r))) refl
    where
      go : (o : Option (Nested Re × Names)) → read (regex_config r) (chars (regex_source r)) ≡ o
          → map (λ p. slice_range hay p.0 p.1) (gaps (length hay) 0 (find_all_str (regex_pattern r) hay))
          ≡ map (λ p. slice_range hay p.0 p.1) (gaps (length hay) 0 (option_map_or (λ re. find_all_str re hay) (option_map (λ p. p.0.value) o) []))
      go None e = absurd (is_pattern r h e)
      go (Some p) e =
          let written : IsReadAs (regex_config r) (regex_source r) p.0.value = rw e (same_refl p.0.value) in
          ap (map (λ p. slice_range hay p.0 p.1))
          (gaps_alike (alike_as_written r (regex_config r) (regex_source r) refl refl h p.0.value written) hay bytes true None)

-- the same of a compiled pattern, which was read with its flags
module _ (r : Regex) (flags : PatternFlags) (pattern : Pattern) (read_with : IsReadFromSource r × (regex_config r ≡ config_of flags)) (is : (regex_source r, flags) ≡ pattern) (hay : Text) (bytes : (k : ℕ) → get_or hay k 0 < 256) where
  pub is_found-compiled : is_some (find_str (regex_pattern r) hay 0) ≡ m.is_found pattern hay
  is_found-compiled = is_found-as_read r read_with.0 hay bytes ∙ ap (λ (config : Config). is_found config (regex_source r) hay) read_with.1 ∙ ap (λ (p : Pattern). m.is_found p hay) is

  pub pieces-compiled : map (λ p. slice_range hay p.0 p.1) (gaps (length hay) 0 (find_all_str (regex_pattern r) hay)) ≡ m.pieces_between pattern hay
  pieces-compiled = pieces-as_read r read_with.0 hay bytes ∙ ap (λ (config : Config). pieces_of config (regex_source r) hay) read_with.1 ∙ ap (λ (p : Pattern). m.pieces_between p hay) is

  pub replaced-compiled : (pieces : List Piece) (by : Text) (width : ℕ) → ExpandsTo pieces by → replacement_of true hay pieces width 0 (find_all_str (regex_pattern r) hay) ≡ m.with_replaced pattern by hay
  replaced-compiled pieces by width same = replaced-as_read r read_with.0 hay bytes pieces by width same ∙ ap (λ (config : Config). replaced config (regex_source r) by hay) read_with.1 ∙ ap (λ (p : Pattern). m.with_replaced p by hay) is
