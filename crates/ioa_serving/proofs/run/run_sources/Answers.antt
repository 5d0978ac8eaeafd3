use Rattle.ioa_serving.proofs.run.run_sources.Goals as goal

pub returns-in-Seeded-clause-alone : goal.returns-in-Seeded-clause-alone
returns-in-Seeded-clause-alone g c = rw c.in-Seeded.is c.run_by.ensures.alone

pub returns-in-Listed-clause-alone : goal.returns-in-Listed-clause-alone
returns-in-Listed-clause-alone g c = rw c.in-Listed.is c.run_by-in-Listed.ensures.alone
