use Rattle.std.proofs.Common.{◌≡◌, ◌-◌, ◌≤◌}
use Rattle.std.specs.Str.Parse.{digits_value}
use Rattle.boss_json.proofs.Spelled.{between, DigitsBetween}
use Rattle.boss_json.proofs.compact.digits_from.Given as goal

abbrev pub invariant-loop-end : goal.invariant-loop-end
invariant-loop-end l = record {
  after : l.start ≤ l.end;
  within : l.end ≤ l.most;
  digits : DigitsBetween l.text l.start l.end;
  value : l.number ≡ digits_value 10 (between l.start l.end l.text);
}

abbrev pub decreases-loop-end : goal.decreases-loop-end
decreases-loop-end l = l.most - l.end
