-- What rules mean is determined by their texts.
use Rattle.std.proofs.Common.{◌≡◌, ◌∙◌, ℕ, cond, List, [], ◌∷◌, Option, None, Some, Result, Ok, Err, ap, refl, subst}
use Rattle.std.specs.Str.{chars}
use Rattle.pj_findings.specs.Denoted.{denoted}
use Rattle.pj_names.specs.Asking.{Return, bind, each}
use Rattle.pj_parse.specs.FileOutcome.{outcome_of}
use Rattle.pj_parse.specs.JavaFile.{JavaFile}
use Rattle.pj_parse.specs.declared.file_fault.FileFault.{FileFault}
use Rattle.pj_reports.specs.declared.rows.Reason.{Reason}
use Rattle.pj_tree.specs.declared.node.Node.{Node}
use Rattle.pj_xsteps.specs.Context.{Context, Variables, at}
use Rattle.pj_xsteps.specs.Denotes.{denotes}
use Rattle.pj_xsteps.specs.Means.{Means, give, judged, ◌>>=◌}
use Rattle.pj_xexpressions.specs.Trees.{Tree, tree_of}
use Rattle.pj_xparse.specs.Spells.{Spells}
use Rattle.pj_xpatterns.specs.Laws.{PatternsByTree}
use Rattle.pj_xlaws.specs.TreeLaws.{DenotesByTree}
use Rattle.pj_xvalue.specs.Boolean.{effective_boolean}
use Rattle.pj_xvalue.specs.Items.{ItemValue, Document, Element}
use Rattle.pj_xexpressions.specs.declared.expr.Expr.{Expr}
use Rattle.pj_workers.specs.FileFacts.{around_file}
use Rattle.pj_findings.specs.Merged.{merge}
use Rattle.pj_outside.specs.Files.{Bytes}
use Rattle.pj_workers.specs.FileMeaning.{Replies, file_meaning, head_of, nothing, rule_at, rule_meaning}
use Rattle.pj_workers.specs.Laws.{AreAlike, RulesAreTexts}
use Rattle.pj_workers.specs.Reasons.{plain_reason_of, xpath_reason}
use Rattle.pj_xlaws.specs.Laws.{Reply}
use Rattle.pj_workers.specs.RuleMeaning.{found_at, found_of, reason_after, result_of, rule_in_file, extent_at, value_of}
use Rattle.pj_rule_sets.specs.Expressions.{Both, IsSpelledBy, names_of, variables_of}
use Rattle.pj_rule_sets.specs.Patterns.{suppression_of}
use Rattle.pj_workers.specs.Rules.{IsSpelled, Rule, Source, is_active, patterns_of}

abbrev pub OneExpression : Type 0
OneExpression = (variables : List (List ℕ)) (text : List ℕ) (a b : Tree) → Spells variables text a → Spells variables text b → a ≡ b

-- both are there with one tree, or none is
abbrev SameTrees : Option Expr → Option Expr → Type 0
SameTrees None None = Unit {0}
SameTrees (Some a) (Some b) = tree_of a ≡ tree_of b
SameTrees _ _ = ⊥

abbrev rule_of : Source → Expr → Option Expr → Rule
rule_of s query suppression = record { source = s; query = query; suppression = suppression }

same_trees : OneExpression → (names : List (List ℕ)) (o : Option (List ℕ)) (a b : Option Expr) → Both o a (IsSpelledBy names) → Both o b (IsSpelledBy names) → SameTrees a b
same_trees one names None None None h k = tt
same_trees one names None None (Some b) h k = absurd k
same_trees one names None (Some a) b h k = absurd h
same_trees one names (Some text) None b h k = absurd h
same_trees one names (Some text) (Some a) None h k = absurd k
same_trees one names (Some text) (Some a) (Some b) h k = one names (chars text) (tree_of a) (tree_of b) h.spells k.spells

-- ---- rules of one source, with expressions of the same trees

module _ (denotes_alike : DenotesByTree) (patterns_alike : PatternsByTree) (reply : Reply) (file : JavaFile) (s : Source) (p q : Expr) (c d : Option Expr) where
  abbrev left : Rule
  left = rule_of s p c

  abbrev right : Rule
  right = rule_of s q d

  value_same : (e f : Expr) (context : Context) → tree_of e ≡ tree_of f → value_of reply file left e context ≡ value_of reply file right f context
  value_same e f context same =
      ap (λ patterns. denotes (around_file file patterns) reply e context (variables_of s.texts)) (patterns_alike (variables_of s.texts) e f same)
      ∙ ap (λ (denoted_by : Context → Variables → Means (List ItemValue)). denoted_by context (variables_of s.texts)) (denotes_alike (around_file file (patterns_of right f)) reply e f same)

  after_same : (why : Option Reason) (n : Node) → SameTrees c d → reason_after reply file left why c n ≡ reason_after reply file right why d n
  after_same (Some why) n same = refl
  after_same None n same = by_both c d same
    where
      by_both : (a b : Option Expr) → SameTrees a b → reason_after reply file left None a n ≡ reason_after reply file right None b n
      by_both None None h = refl
      by_both None (Some b) h = absurd h
      by_both (Some a) None h = absurd h
      by_both (Some a) (Some b) h = λ i. value_same a b (at (Element n) 1 1) h i >>= λ value. judged (effective_boolean value) >>= λ truth. give (xpath_reason truth)

  found_same : SameTrees c d → (ns : List Node) → found_at reply file left ns ≡ found_at reply file right ns
  found_same same [] = refl
  found_same same (n ∷ ns) =
      λ i. after_same (plain_reason_of file left n (extent_at reply file left n)) n same i >>= λ why. found_same same ns i >>= λ fs. give (found_of n (extent_at reply file left n) why ∷ fs)

  rules_in_file : tree_of p ≡ tree_of q → SameTrees c d → rule_in_file reply file left ≡ rule_in_file reply file right
  rules_in_file query same =
      λ i. bind (value_same p q (at Document 1 1) query i >>= λ values. judged (denoted values) >>= λ ns. found_same same ns i) (λ came_to. Return (result_of left came_to))

-- two spelled rules of one source
one_source : OneExpression → DenotesByTree → PatternsByTree → (reply : Reply) (file : JavaFile) (s : Source) (p q : Expr) (c d : Option Expr)
    → IsSpelled (rule_of s p c) → IsSpelled (rule_of s q d) → rule_in_file reply file (rule_of s p c) ≡ rule_in_file reply file (rule_of s q d)
one_source one denotes_alike patterns_alike reply file s p q c d h k =
    rules_in_file denotes_alike patterns_alike reply file s p q c d
    (one (names_of s.texts) (chars s.texts.xpath) (tree_of p) (tree_of q) h.query_spelled.spells k.query_spelled.spells)
    (same_trees one (names_of s.texts) (suppression_of s.texts) c d h.suppression_spelled k.suppression_spelled)

pub same_in_file : OneExpression → DenotesByTree → PatternsByTree → (reply : Reply) (file : JavaFile) (a b : Rule)
    → a.source ≡ b.source → IsSpelled a → IsSpelled b → rule_in_file reply file a ≡ rule_in_file reply file b
same_in_file one denotes_alike patterns_alike reply file a b same h k =
    let P : Source → Type 0 = λ s. IsSpelled (rule_of s b.query b.suppression) → rule_in_file reply file a ≡ rule_in_file reply file (rule_of s b.query b.suppression) in
    subst P same (λ spelled. one_source one denotes_alike patterns_alike reply file a.source a.query b.query a.suppression b.suppression h spelled) k

at_outcome : OneExpression → DenotesByTree → PatternsByTree → (replies : Replies) (path : Bytes) (a b : Rule) (o : Result JavaFile FileFault)
    → a.source ≡ b.source → IsSpelled a → IsSpelled b → rule_at replies path o a ≡ rule_at replies path o b
at_outcome one denotes_alike patterns_alike replies path a b (Err fault) same h k = refl
at_outcome one denotes_alike patterns_alike replies path a b (Ok file) same h k =
    λ i. cond (is_active (same i) path) (same_in_file one denotes_alike patterns_alike (replies path file) file a b same h k i) nothing

pub rules_same : OneExpression → DenotesByTree → PatternsByTree → RulesAreTexts
rules_same one denotes_alike patterns_alike replies path bytes a b same h k = at_outcome one denotes_alike patterns_alike replies path a b (outcome_of bytes) same h k

all_same : RulesAreTexts → (replies : Replies) (path bytes : Bytes) (xs ys : List Rule) → AreAlike xs ys → each (rule_meaning replies path bytes) xs ≡ each (rule_meaning replies path bytes) ys
all_same one replies path bytes [] [] h = refl
all_same one replies path bytes [] (y ∷ ys) h = absurd h
all_same one replies path bytes (x ∷ xs) [] h = absurd h
all_same one replies path bytes (x ∷ xs) (y ∷ ys) h =
    λ i. bind (one replies path bytes x y h.0.0 h.0.1 h.0.2 i) (λ value. bind (all_same one replies path bytes xs ys h.1 i) (λ values. Return (value ∷ values)))

pub lists_same : RulesAreTexts → (replies : Replies) (path bytes : Bytes) (xs ys : List Rule) → AreAlike xs ys → file_meaning replies path bytes xs ≡ file_meaning replies path bytes ys
lists_same one replies path bytes xs ys h = ap (λ m. bind m (λ results. Return (merge (head_of (outcome_of bytes)) results))) (all_same one replies path bytes xs ys h)
