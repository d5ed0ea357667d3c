use Rattle.std.proofs.Common.{◌≤◌, ℕ, length, sym, subst}
use Rattle.trial_shared.proofs.together.ask_once.Goals as goal

pub returns-clause-may : goal.returns-clause-may
returns-clause-may g c = record {
  some = c.requires.may.some;
  few = c.requires.may.few;
  may = c.requires.may.may;
  room = subst (λ (n : ℕ). length c.args.asked.now.commands ≤ n) (sym c.call_all-outcomes.ensures.room) c.requires.may.room;
}
