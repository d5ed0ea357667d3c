use Rattle.law_adoption.proofs.LongestSuffix.{passing-suffix, passing-passes, passing-longest}
use Rattle.law_adoption.proofs.adoption.what_is_left_is_the_longest_suffix.Goals as goal

pub returns-clause-suffix : goal.returns-clause-suffix
returns-clause-suffix c test notices = passing-suffix test notices

pub returns-clause-passing : goal.returns-clause-passing
returns-clause-passing c test notices = passing-passes test notices

pub returns-clause-longest : goal.returns-clause-longest
returns-clause-longest c test notices front back is all = passing-longest test notices front back is all
