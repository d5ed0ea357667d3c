-- Where a connection was watched, a call at least was answered.
use Rattle.std.proofs.Common.{◌≡◌, ℕ, ◌+◌, ◌<◌, ◌≤◌, true, false, List, [], ◌∷◌, ◌++◌, length, ap, arith, length-append}
use Rattle.def_history.specs.declared.entry.Entry.{Entry}
use Rattle.def_history.specs.History.{deeds}
use Rattle.def_connection.specs.Watching.{quiet_in}
use Rattle.boss_watching.specs.declared.end.WatchEnd.{WatchEnd}
use Rattle.boss_watching.specs.declared.end.WatchEnd.TheVariants.{Idle, Closed, WriteFault, ClockFault, Stopped, DiskFault, NoMemory}
use Rattle.boss_watching.specs.Ends.{is_unanswered_end, HasCalled, IsCall, IsCut}
use Rattle.boss_watching.specs.Turns.{Lasts}

pub grown-longer : (old new more : List Entry) → deeds new ≡ deeds old ++ more → length (deeds new) ≡ length (deeds old) + length more
grown-longer old new more grew = let same : length (deeds new) ≡ length (deeds old ++ more) = ap length grew in omega (arith, same, length-append (deeds old) more)

pub one-longer : (old new : List Entry) (entry : Entry) → deeds new ≡ deeds old ++ entry ∷ [] → length (deeds old) < length (deeds new)
one-longer old new entry grew = let more = grown-longer old new (entry ∷ []) grew in omega (arith, more)

-- turns that leave some in a row without a notice are turns
quiet-some : (more : List Entry) (quiet : ℕ) → quiet ≡ quiet_in 0 more → 0 < quiet → 0 < length more
quiet-some [] quiet counted some = absurd (omega (arith, counted))
quiet-some (entry ∷ more) quiet counted some = omega arith

module _ (idle : ℕ) (pausing : Type 0) where
  pub lasts-longer : (quiet : ℕ) (old new : List Entry) (pauses pauses' : ℕ) → Lasts idle 0 quiet old new pausing pauses pauses' → length (deeds old) ≤ length (deeds new)
  lasts-longer quiet old new pauses pauses' lasts = let more = grown-longer old new lasts.more lasts.grew in omega (arith, more)

  pub lasts-called : (quiet : ℕ) (old new : List Entry) (pauses pauses' : ℕ) → Lasts idle 0 quiet old new pausing pauses pauses' → 0 < quiet →
      length (deeds old) < length (deeds new)
  lasts-called quiet old new pauses pauses' lasts some =
      let more = grown-longer old new lasts.more lasts.grew in
      let any = quiet-some lasts.more quiet lasts.counted some in omega (arith, more, any)

-- an end in the middle of a turn, and one behind several waits
pub called-cut : (idle : ℕ) (old mid new : List Entry) (end : WatchEnd) → length (deeds old) ≤ length (deeds mid) → IsCut end → HasCalled 0 mid new end → HasCalled idle old new end
called-cut idle old mid new Idle longer cut called = absurd cut
called-cut idle old mid new Closed longer cut called = absurd cut
called-cut idle old mid new WriteFault longer cut called = omega (arith, called)
called-cut idle old mid new ClockFault longer cut called = tt
called-cut idle old mid new Stopped longer cut called = tt
called-cut idle old mid new DiskFault longer cut called = tt
called-cut idle old mid new NoMemory longer cut called = tt

pub called-behind : (idle : ℕ) (old mid new : List Entry) (end : WatchEnd) → length (deeds old) ≤ length (deeds mid) → HasCalled idle mid new end → HasCalled idle old new end
called-behind idle old mid new Idle longer called = λ some. let more = called some in omega (arith, more)
called-behind idle old mid new Closed longer called = omega (arith, called)
called-behind idle old mid new WriteFault longer called = omega (arith, called)
called-behind idle old mid new ClockFault longer called = tt
called-behind idle old mid new Stopped longer called = tt
called-behind idle old mid new DiskFault longer called = tt
called-behind idle old mid new NoMemory longer called = tt

-- where the desk ended it the last call had no answer
pub unanswered-call : (end : WatchEnd) (unused : List ℕ) → IsCall end → is_unanswered_end end ≡ false → unused ≡ []
unanswered-call Idle unused call answered = absurd call
unanswered-call Closed unused call answered = absurd call
unanswered-call WriteFault unused call answered = absurd call
unanswered-call ClockFault unused call answered = absurd call
unanswered-call Stopped unused call answered = absurd (let no : true ≡ false = answered in cc)
unanswered-call DiskFault unused call answered = absurd (let no : true ≡ false = answered in cc)
unanswered-call NoMemory unused call answered = absurd (let no : true ≡ false = answered in cc)

-- where the desk ended it nothing is claimed
pub called-call : (end : WatchEnd) (old new : List Entry) → IsCall end → HasCalled 0 old new end
called-call Idle old new call = absurd call
called-call Closed old new call = absurd call
called-call WriteFault old new call = absurd call
called-call ClockFault old new call = absurd call
called-call Stopped old new call = tt
called-call DiskFault old new call = tt
called-call NoMemory old new call = tt
