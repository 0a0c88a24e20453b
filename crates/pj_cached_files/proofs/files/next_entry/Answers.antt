use Rattle.pj_cached_files.proofs.files.next_entry.Goals as goal

pub returns-clause-asks : goal.returns-clause-asks
returns-clause-asks g c = λ meant are. c.file_entry.ensures.asks meant are

pub returns-clause-left : goal.returns-clause-left
returns-clause-left g c = c.file_entry.ensures.left

pub returns-clause-looked : goal.returns-clause-looked
returns-clause-looked g c = c.file_entry.ensures.looked

pub returns-clause-reused : goal.returns-clause-reused
returns-clause-reused g c = c.file_entry.ensures.reused

pub returns-clause-ran : goal.returns-clause-ran
returns-clause-ran g c = c.file_entry.ensures.ran

pub returns-clause-named : goal.returns-clause-named
returns-clause-named g c = c.file_entry.ensures.named

pub returns-clause-path : goal.returns-clause-path
returns-clause-path g c = c.file_entry.ensures.path
