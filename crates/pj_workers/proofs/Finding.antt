-- How a rule's findings follow each other, as the code goes over the nodes.
use Rattle.std.proofs.Common.{◌≡◌, ◌<◌, ◌+◌, ◌∙◌, ◌++◌, ℕ, List, [], ◌∷◌, append-nil, append_assoc, ap, drop, get_or, length, sym}
use Rattle.pj_reports.specs.declared.ruled.Spot.{Spot}
use Rattle.pj_names.proofs.AskingLaws.{left_from}
use Rattle.pj_parse.specs.JavaFile.{JavaFile}
use Rattle.pj_tree.specs.declared.node.Node.{Node}
use Rattle.pj_xsteps.specs.Means.{Means, give, ◌>>=◌}
use Rattle.pj_xsteps.proofs.SequenceLaws.{then-assoc, then-give}
use Rattle.pj_xlaws.specs.Laws.{Reply}
use Rattle.pj_workers.specs.RuleMeaning.{found_at, found_of, reason_at, extent_at}
use Rattle.pj_workers.specs.Rules.{Rule}
use Rattle.pj_workers.specs.Views.{found_there}

module _ (reply : Reply) (file : JavaFile) (rule : Rule) where
  -- what is found at nodes, behind what was found before
  abbrev pub found_behind : List Spot → List Node → Means (List Spot)
  found_behind all ns = found_at reply file rule ns >>= λ more. give (all ++ more)

  pub found_begin : (ns : List Node) → found_behind [] ns ≡ found_at reply file rule ns
  found_begin ns = then-give (found_at reply file rule ns)

  one_more : (all : List Spot) (n : Node) (ns : List Node) → found_behind all (n ∷ ns) ≡ (found_there reply file rule n >>= λ f. found_behind (all ++ f ∷ []) ns)
  one_more all n ns =
      then-assoc (reason_at reply file rule n) (λ why. found_at reply file rule ns >>= λ more. give (found_of n (extent_at reply file rule n) why ∷ more)) (λ more. give (all ++ more))
      ∙ (λ i. reason_at reply file rule n >>= λ why.
      (then-assoc (found_at reply file rule ns) (λ more. give (found_of n (extent_at reply file rule n) why ∷ more)) (λ more. give (all ++ more))
      ∙ (λ j. found_at reply file rule ns >>= λ more. give (sym (append_assoc all (found_of n (extent_at reply file rule n) why ∷ []) more) j))) i)
      ∙ sym (then-assoc (reason_at reply file rule n) (λ why. give (found_of n (extent_at reply file rule n) why)) (λ f. found_behind (all ++ f ∷ []) ns))

  pub found_turn : (all : List Spot) (nodes : List Node) (i : ℕ) (n : Node) → i < length nodes
      → found_behind all (drop i nodes) ≡ (found_there reply file rule (get_or nodes i n) >>= λ f. found_behind (all ++ f ∷ []) (drop (i + 1) nodes))
  found_turn all nodes i n below = ap (λ ns. found_behind all ns) (left_from nodes i n below) ∙ one_more all (get_or nodes i n) (drop (i + 1) nodes)

  pub found_end : (all : List Spot) → found_behind all [] ≡ give all
  found_end all = ap (λ l. give l) (append-nil all)
