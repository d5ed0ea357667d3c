use Rattle.def_history.proofs.Going.{run_append, events_append, broken_append, tried_append, tried_whole, legal_append, legal_front, mark-last}
use Rattle.def_history.proofs.laws.a_history_goes_on.Goals as goal

pub returns-clause-state : goal.returns-clause-state
returns-clause-state c plant first then s = run_append plant first then s

pub returns-clause-events : goal.returns-clause-events
returns-clause-events c plant first then s = events_append plant first then s

pub returns-clause-marked : goal.returns-clause-marked
returns-clause-marked c first then = broken_append first then

pub returns-clause-tried : goal.returns-clause-tried
returns-clause-tried c plant first then s whole = tried_append plant first then s whole

pub returns-clause-unmarked : goal.returns-clause-unmarked
returns-clause-unmarked c plant all s whole = tried_whole plant all s whole

pub returns-clause-legal : goal.returns-clause-legal
returns-clause-legal c plant first then s whole legal after = legal_append plant first then s whole legal after

pub returns-clause-front : goal.returns-clause-front
returns-clause-front c plant first then s legal = legal_front plant first then s legal

pub returns-clause-last : goal.returns-clause-last
returns-clause-last c plant first then next s legal = mark-last plant first next then s legal
