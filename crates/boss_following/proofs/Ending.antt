-- How the lines end.
use Rattle.std.proofs.Common.{◌≡◌, ℕ, ◌+◌, ◌≤◌, false, List, [], ◌∷◌, ◌++◌, length, refl, sym, ◌∙◌, subst}
use Rattle.boss_disk_pair.specs.Causes.{Counts}
use Rattle.boss_following.specs.Ends.{DiskCause, end_between, ended_at, EndsAt, has_failed, ReadCause, stopped_at, was_stopped}
use Rattle.boss_following.specs.Steps.{IsStepOf, Stops}
use Rattle.boss_following.specs.declared.stop.Stop.{Stop}
use Rattle.boss_following.specs.declared.stop.Stop.TheVariants as stop
use Rattle.boss_following.proofs.Lines.{line-fault, line-late, line-long, Reaches, reaches-through}
use Rattle.boss_lines.specs.declared.reader.Next.{Next}
use Rattle.boss_lines.specs.declared.reader.Next.TheVariants as next
use Rattle.boss_lines.specs.Given.{GivesLines}
use Rattle.boss_lines.specs.Lines.{NextCause}
use Rattle.boss_model.specs.declared.state.Actuator.{Actuator}
use Rattle.boss_model.specs.Limits.{longest_line, most_lines}
use Rattle.boss_model.specs.Lines.{lines}
use Rattle.def_feed.specs.Followers as feed
use Rattle.def_feed.specs.Followers.{Follower, Follows, Step, Through}

-- ---- causes

pub read-ended : (before now : ℕ) (place : feed.Place) (answer : Next) → NextCause before now answer → ReadCause before now (ended_at place answer)
read-ended before now place next.Line cause = cause
read-ended before now feed.Between next.Finish cause = cause
read-ended before now (feed.Passing left) next.Finish cause = cause
read-ended before now (feed.Taking number size bytes) next.Finish cause = cause
read-ended before now place next.TooLong cause = cause
read-ended before now place next.ReadFault cause = cause

pub read-stopped : (before now : ℕ) (why : Stop) (line : ℕ) → now ≡ before → ReadCause before now (stopped_at why line)
read-stopped before now (stop.Gap have found) line same = same
read-stopped before now stop.BadLine line same = same
read-stopped before now stop.DiskFault line same = same
read-stopped before now stop.NoMemory line same = same

pub disk-ended : (before now : Counts) (place : feed.Place) (answer : Next) → now ≡ before → DiskCause before now (ended_at place answer)
disk-ended before now place next.Line same = same
disk-ended before now feed.Between next.Finish same = same
disk-ended before now (feed.Passing left) next.Finish same = same
disk-ended before now (feed.Taking number size bytes) next.Finish same = same
disk-ended before now place next.TooLong same = same
disk-ended before now place next.ReadFault same = same

-- it went on until the answer, and no disk failed
pub going-ended : (place : feed.Place) (answer : Next) → (was_stopped (ended_at place answer) ≡ false) × (has_failed (ended_at place answer) ≡ false)
going-ended place next.Line = (refl, refl)
going-ended feed.Between next.Finish = (refl, refl)
going-ended (feed.Passing left) next.Finish = (refl, refl)
going-ended (feed.Taking number size bytes) next.Finish = (refl, refl)
going-ended place next.TooLong = (refl, refl)
going-ended place next.ReadFault = (refl, refl)

-- ---- lines

module _ (plant : List Actuator) (start : Follower) (given : List (List ℕ)) (now : Follower) (reaches : Reaches plant start given now) (bytes left : List ℕ) where
  through : (read : List (List ℕ)) → given ≡ read → Follows plant start 1 read (Through now)
  through read is = subst (λ ls. Follows plant start 1 ls (Through now)) is (reaches-through plant start given now reaches)

  finished : (place : feed.Place) → now.place ≡ place → left ≡ [] → given ≡ lines bytes → EndsAt plant start bytes left given now (end_between place)
  finished feed.Between at none all = (none, all, at, through given refl)
  finished (feed.Passing size) at none all = (none, all, (λ same. let other : feed.Between ≡ feed.Passing size = sym same ∙ at in absurd cc), through given refl)
  finished (feed.Taking number size more) at none all = (none, all, (λ same. let other : feed.Between ≡ feed.Taking number size more = sym same ∙ at in absurd cc), through given refl)

  pub ends : (place : feed.Place) (answer : Next) → now.place ≡ place → GivesLines most_lines bytes left given answer → EndsAt plant start bytes left given now (ended_at place answer)
  ends place next.Line at gives = (gives.gives.1, gives.gives.0, through given refl)
  ends place next.Finish at gives = finished place at gives.gives.1 gives.gives.0
  ends place next.TooLong at gives =
      let breaks = gives.gives.0 in
      subst (λ ls. Follows plant start 1 ls (feed.TooLong now)) (sym breaks.2)
      (reaches (length given + 1) (breaks.0 ∷ breaks.1) (feed.TooLong now) refl (line-long plant now breaks.0 (length given + 1) breaks.1 breaks.3))
  ends place next.ReadFault at gives = (gives.read, gives.split, gives.gives, through given refl)

  -- a line ends it
  pub stops : (line : List ℕ) (rest : List (List ℕ)) (step : Step) (why : Stop) → lines bytes ≡ given ++ line ∷ rest → length line ≤ longest_line → IsStepOf now line step →
      Stops plant now step why → EndsAt plant start bytes left (given ++ line ∷ []) now (stopped_at why (length given + 1))
  stops line rest step (stop.Gap have found) is short told late =
      subst (λ ls. Follows plant start 1 ls (feed.Late have found now)) (sym is)
      (reaches (length given + 1) (line ∷ rest) (feed.Late have found now) refl (line-late plant now line step (length given + 1) rest have found short told late))
  stops line rest step stop.BadLine is short told fault =
      subst (λ ls. Follows plant start 1 ls (feed.BadLine (length given + 1) now)) (sym is)
      (reaches (length given + 1) (line ∷ rest) (feed.BadLine (length given + 1) now) refl (line-fault plant now line step (length given + 1) rest short told fault))
  stops line rest step stop.DiskFault is short told fault = (given, line ∷ [], refl, reaches-through plant start given now reaches)
  stops line rest step stop.NoMemory is short told fault = (given, line ∷ [], refl, reaches-through plant start given now reaches)
