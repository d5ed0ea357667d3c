-- Source: own.
-- which disk of a pair is in force: none, since one of them is not this program's; neither, since nothing was written yet; or one
pub data InForce : Type 0 where
  Foreign : InForce
  Neither : InForce
  First : InForce
  Second : InForce
