use Rattle.pj_check.proofs.Fitting.{mend, serve, stay, stay_forever}
use Rattle.pj_check.proofs.laws.keepers_stay_fit.Goals as goal

pub returns-clause-stay : goal.returns-clause-stay
returns-clause-stay c = stay c.what_is_loaded_is_found.ensures.read c.one_name_is_replaced.ensures.new c.one_name_is_replaced.ensures.rest

pub returns-clause-forever : goal.returns-clause-forever
returns-clause-forever c = stay_forever (stay c.what_is_loaded_is_found.ensures.read c.one_name_is_replaced.ensures.new c.one_name_is_replaced.ensures.rest)

pub returns-clause-mend : goal.returns-clause-mend
returns-clause-mend c = mend c.what_is_loaded_is_found.ensures.read c.one_name_is_replaced.ensures.new

pub returns-clause-serve : goal.returns-clause-serve
returns-clause-serve c = serve
