use Rattle.std.proofs.Common.{◌≡◌, ℕ, ◌<◌, ◌≤◌, false, length, count_by}
use Rattle.boss_model.specs.Settle.{is_moved, recommanded}
use Rattle.boss_holdings.specs.Held.{is_touched}
use Rattle.boss_marks.proofs.Rounds.{turned_below}
use Rattle.boss_persistent.specs.Lasting.{persistent_of}
use Rattle.boss_engine.proofs.settling.settle_touched.Given as goal

-- the points below one are settled, and the flags from there on are as they were
abbrev pub invariant-loop-point : goal.invariant-loop-point
invariant-loop-point l = record {
  from : ℕ;
  turned : l.marks ≡ turned_below (is_moved l.plant (persistent_of l.initial.lasting)) (recommanded l.plant (persistent_of l.initial.lasting)) from l.initial.marks;
  others : l.lasting ≡ record l.initial.lasting { holdings = record l.initial.lasting.holdings { touched = l.lasting.holdings.touched } };
  within : from ≤ length l.plant;
  settled : (k : ℕ) → k < from → is_touched l.lasting.holdings k ≡ false;
  later : (k : ℕ) → from ≤ k → is_touched l.lasting.holdings k ≡ is_touched l.initial.lasting.holdings k;
}

-- how many points are touched
abbrev pub decreases-loop-point : goal.decreases-loop-point
decreases-loop-point l = count_by (λ touched. touched) l.lasting.holdings.touched
