use Rattle.pj_settling.proofs.Searches.{name_search_settles, search_settles, supertype_list_settles}
use Rattle.pj_settling.proofs.laws.searches_settle.Goals as goal

pub returns-clause-types : goal.returns-clause-types
returns-clause-types g c = λ world test name finite tests. search_settles finite {test = test} tests name

pub returns-clause-names : goal.returns-clause-names
returns-clause-names g c = λ world test name finite tests. name_search_settles finite {test = test} tests name

pub returns-clause-lists : goal.returns-clause-lists
returns-clause-lists g c = λ world name finite. supertype_list_settles finite name
