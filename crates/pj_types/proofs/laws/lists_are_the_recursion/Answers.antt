use Rattle.pj_types.proofs.ListingLaws.{list-meant, list-order, meant-are, names-once, one-list}
use Rattle.pj_types.proofs.FiniteLaws.{list-there}
use Rattle.pj_types.proofs.laws.lists_are_the_recursion.Goals as goal

pub returns : goal.returns
returns c = record {
  recursion = λ world name types names means. meant-are world name types names means;
  meant = λ world name types are. list-meant world name types are;
  order = λ world name types depth are enough. list-order world name types depth are enough;
  there = λ answers name. list-there answers name;
  one = λ world name first second here there. one-list world name first second here there;
  once = λ world name types are. names-once world name types are;
}
