-- Source: own.
use Rattle.std.specs.Prelude.{◌≡◌, ℕ, ◌+◌, min, max, Bool, true, false, Option, Some, None, List, []}
use Rattle.boss_model.specs.Limits.{last_number}
use Rattle.boss_outside.specs.Counts.{Rose}
use Rattle.boss_outside_server.specs.declared.waited.Leaving.{Leaving}
use Rattle.boss_outside_server.specs.declared.waited.Leaving.TheVariants.{NotYet, Once, Often}
use Rattle.boss_outside_server.specs.declared.waited.Lengths.{Lengths}
use Rattle.boss_outside_server.specs.declared.waited.Lengths.TheVariants.{NoPause, Within}
use Rattle.boss_outside_server.specs.declared.waited.Waited.{Waited}
use Rattle.boss_outside_server.specs.declared.waiter.Woke.{Woke}
use Rattle.boss_outside_server.specs.declared.waiter.Woke.TheVariants.{Again, Close}

-- one pause more; the number of pauses stands still at its end
abbrev pub one_pause_more : ℕ → ℕ
one_pause_more pauses = min (pauses + 1) last_number

-- how long the pauses were, with one more of so many milliseconds
abbrev pub lengths_after : Lengths → ℕ → Lengths
lengths_after NoPause milliseconds = Within milliseconds milliseconds
lengths_after (Within least most) milliseconds = Within (min least milliseconds) (max most milliseconds)

-- a worker leaves once, and any later time is one too many
abbrev pub leaving_after : Leaving → ℕ → Leaving
leaving_after NotYet connections = Once connections
leaving_after (Once before) connections = Often
leaving_after Often connections = Often

-- whether the worker is to end
abbrev pub is_close : Woke → Bool
is_close Again = false
is_close Close = true

-- how many pauses said so, with one more that ended so
abbrev pub closes_after : Woke → ℕ → ℕ
closes_after Again closes = closes
closes_after Close closes = one_pause_more closes

-- a pause says Close exactly where the count of closes rose in it
abbrev pub CloseCause : ℕ → ℕ → Woke → Type 0
CloseCause before now Again = now ≡ before
CloseCause before now Close = Rose before now

-- what is noted of a worker: nothing yet, where so many workers are waited for; that so many are; that its pauses end at a bell
-- from now on; one pause more, and how it ended; and that the worker leaves, when it has served so many connections
abbrev pub new_waited : ℕ → Waited
new_waited expected = record { pauses = 0; lengths = NoPause; closed = false; closes = 0; expected = expected; leaving = NotYet; bell = None }

abbrev pub expecting : ℕ → Waited → Waited
expecting workers waited = record waited { expected = workers }

abbrev pub listening : ℕ → Waited → Waited
listening bell waited = record waited { bell = Some bell }

abbrev pub after_pause : ℕ → Woke → Waited → Waited
after_pause milliseconds woke waited = record waited {
  pauses = one_pause_more waited.pauses;
  lengths = lengths_after waited.lengths milliseconds;
  closed = is_close woke;
  closes = closes_after woke waited.closes;
}

abbrev pub after_leave : ℕ → Waited → Waited
after_leave connections waited = record waited { leaving = leaving_after waited.leaving connections }

-- a waiter in memory: the turns that each part has, those that are left to this one, what it notes of its own worker, how many
-- of its pauses said Close, and what the parts that were taken back had noted
pub record Turns : Type 0 where
  pub turns : ℕ
  pub left : ℕ
  pub waited : Waited
  pub closes : ℕ
  pub waits : List Waited

-- a waiter before its first pause, where so many workers are waited for
abbrev pub new_turns : ℕ → ℕ → Turns
new_turns turns expected = record { turns = turns; left = turns; waited = new_waited expected; closes = 0; waits = [] }
