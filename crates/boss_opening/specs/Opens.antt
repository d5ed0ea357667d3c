-- Source: own.
-- What is said of an opening: what was opened, why a pair is refused, which disks come back, and what a crash may leave meanwhile.
use Rattle.std.specs.Prelude.{◌≡◌, ◌⊎◌, ℕ, ◌+◌, List, length, Some, Result, Ok, Err, false, IfOk, IfErr}
use Rattle.boss_disk.specs.declared.disk.Disk as disk
use Rattle.boss_disk.specs.Legs.{Legs, LeaveBoth, Two}
use Rattle.boss_disk.specs.Story.{Story}
use Rattle.boss_durable.specs.declared.durable.Durable.{Durable}
use Rattle.boss_durable.specs.Words.{keeps, lasting, leaves}
use Rattle.boss_pair_find.specs.declared.refusal.DurableRefusal.{DurableRefusal}
use Rattle.boss_pair_find.specs.declared.refusal.DurableRefusal.TheVariants.{NotAJournal, Version, Catalogue, Damaged, DiskFault, NoMemory}
use Rattle.boss_pair_find.specs.Holds.{IsStatePair}
use Rattle.boss_pair_find.specs.Refusals.{AnswerCause, FindRefuses, IsOfBytes}
use Rattle.boss_pair_find.specs.Two.{counts, two, MightLeave}
use Rattle.boss_model.specs.Catalogue.{Catalogue as Points, actuators}
use Rattle.boss_model.specs.declared.event.Event.{Event}
use Rattle.boss_model.specs.declared.state.Actuator.{Actuator}
use Rattle.boss_model.specs.Run.{replay_all}
use Rattle.boss_model.specs.Settle.{opened}
use Rattle.boss_model.specs.Sound.{IsSound, IsSoundPersistent}
use Rattle.boss_model.specs.State.{Persistent, State}
use Rattle.def_disk_pair.specs.Pairs.{DamagedAt, OpensCleanly, StandsFor}
-- what a pair is kept under: the digest of the catalogue's canonical text
pub use Rattle.def_catalogue.specs.Canonical.{digest_of}
use Rattle.boss_disk_pair.specs.Causes.{counts_of, first_disk, second_disk}
use Rattle.boss_disk_pair.specs.Images.{OpensToOne}
use Rattle.boss_disk_pair.specs.declared.two_disks.TwoDisks.{TwoDisks}
use Rattle.boss_disk_pair.specs.Rests.{counted}
use Rattle.boss_opening.specs.Reading.{IsOfNoBytes}
use Rattle.boss_opening.specs.UnderWay.{MayComeTo}

-- The pair stands for events behind a state, and the engine was opened at what they lead to; the disks count them.
pub record OpenedAt (plant : List Actuator) (digest first second : List ℕ) (s : State) (number : ℕ) : Type 0 where
  pub from : Persistent
  pub before : ℕ
  pub events : List Event
  pub stands : StandsFor plant digest from before events first second
  pub lasting : Persistent
  pub leads : replay_all plant from events ≡ Some lasting
  pub state_is : s ≡ opened plant lasting
  pub number_is : number ≡ counted (before + length events)

-- the disk in force has a kept state that is not sound over the plant
abbrev pub IsUnsound : List Actuator → List ℕ → List ℕ → List ℕ → Type 0
IsUnsound plant digest first second = (d : Persistent) × (events : ℕ) × (place : ℕ) × IsStatePair digest d events place first second × (IsSoundPersistent plant d → ⊥)

-- Why a pair is refused. A place is damaged by its front, at 65 by a state that is not sound, and else by a gate that is open
-- without a record that leads on. A fault and want of memory say nothing of the bytes.
abbrev pub OpenRefuses : List Actuator → List ℕ → List ℕ → List ℕ → DurableRefusal → Type 0
OpenRefuses plant digest first second NotAJournal = FindRefuses digest first second NotAJournal
OpenRefuses plant digest first second (Version found) = FindRefuses digest first second (Version found)
OpenRefuses plant digest first second (Catalogue kept found) = FindRefuses digest first second (Catalogue kept found)
OpenRefuses plant digest first second (Damaged place) =
    FindRefuses digest first second (Damaged place) ⊎ ((place ≡ 65) × IsUnsound plant digest first second) ⊎ DamagedAt plant digest place first second
OpenRefuses plant digest first second DiskFault = Unit {0}
OpenRefuses plant digest first second NoMemory = Unit {0}

-- From the one moment to the other each image is one that a crash might have left as the opening began, or it is clean and opens to
-- what the pair stood for, or to what a record that was under way makes of that.
abbrev pub Meanwhile : List Actuator → List ℕ → Persistent → Persistent → Story → Story → Story → Story → Type 0
Meanwhile plant digest d after first second first_new second_new =
    Legs (LeaveBoth (λ a b. MightLeave first.window second.window a b ⊎ OpensToOne plant digest d after a b)) (two first second) (two first_new second_new)

-- It was only looked at: from the one moment to the other each image is one that a crash might have left as that began.
abbrev pub WhileLooked : Two → Two → Type 0
WhileLooked from to = Legs (LeaveBoth (MightLeave from.first.window from.second.window)) from to

module _ {D : Type 0} {g : disk.Ghosts D} where
  -- the disks, whatever the answer is
  abbrev pub first_left : Result (Durable D g) ((D × D) × DurableRefusal) → D
  first_left (Ok durable) = first_disk durable.disks
  first_left (Err refused) = refused.0.0

  abbrev pub second_left : Result (Durable D g) ((D × D) × DurableRefusal) → D
  second_left (Ok durable) = second_disk durable.disks
  second_left (Err refused) = refused.0.1

  -- An engine of the plant, sound, whose disks rest at what lasts of it, for this catalogue.
  pub record IsReady (plant : List Actuator) (digest : List ℕ) (log_limit : ℕ) (durable : Durable D g) : Type 0 where
    pub keeps_any : (any : List Event) → counted (length any) ≡ durable.disks.events → keeps durable any
    pub leaves_it : leaves durable (lasting durable) (lasting durable)
    pub plant_is : durable.engine.plant ≡ plant
    pub sound : IsSound durable.engine.plant durable.engine.state
    pub going : durable.disks.stopped ≡ false
    pub digest_is : durable.disks.digest ≡ digest
    pub limit_is : durable.log_limit ≡ log_limit

  -- What an opening of two disks tells, and leaves of what they hold.
  pub record Opening (plant : List Actuator) (digest : List ℕ) (log_limit : ℕ) (first second : D) (result : Result (Durable D g) ((D × D) × DurableRefusal)) : Type 0 where
    pub refuses : g.tells → IfErr result (λ refused. OpenRefuses plant digest (g.reads first) (g.reads second) refused.1)
    pub unchanged : g.tells → IfErr result (λ refused. IsOfBytes refused.1 → (g.reads refused.0.0 ≡ g.reads first) × (g.reads refused.0.1 ≡ g.reads second))
    pub opens : g.tells → IfOk result (λ durable. OpenedAt plant digest (g.reads first) (g.reads second) durable.engine.state durable.disks.events)
    pub ready : IfOk result (IsReady plant digest log_limit)
    pub cause : AnswerCause (counts (g.faults first) (g.faults second)) (counts (g.faults (first_left result)) (g.faults (second_left result))) result

  -- Refused for what it holds, nothing of it was written, cut or synced.
  abbrev pub IsUntouched : D → D → Result (Durable D g) ((D × D) × DurableRefusal) → Type 0
  IsUntouched first second result =
      IfErr result (λ refused. IsOfBytes refused.1 → (g.story refused.0.0 ≡ g.story first) × (g.story refused.0.1 ≡ g.story second))

  -- Where the pair was clean and synced: all the while each image is clean and opens to what it stood for, or to what a record that was
  -- under way makes of that.
  abbrev pub Stays : List Actuator → List ℕ → D → D → Result (Durable D g) ((D × D) × DurableRefusal) → Type 0
  Stays plant digest first second result = (d : Persistent) (count : ℕ) → OpensCleanly plant digest d count (g.reads first) (g.reads second)
      → (after : Persistent) × MayComeTo plant digest d count after (g.reads first) (g.reads second)
      × Legs (LeaveBoth (OpensToOne plant digest d after)) (two (g.story first) (g.story second))
      (two (g.story (first_left result)) (g.story (second_left result)))

  -- What is made of a pair that rests at what lasts of an engine.
  pub record Finishing (plant : List Actuator) (s : State) (log_limit : ℕ) (pair : TwoDisks D g) (result : Result (Durable D g) ((D × D) × DurableRefusal)) : Type 0 where
    pub refuses : IfErr result (λ refused. IsOfNoBytes refused.1)
    pub ready : IfOk result (IsReady plant pair.digest log_limit)
    pub state_is : IfOk result (λ durable. durable.engine.state ≡ opened plant s.persistent)
    pub number_is : IfOk result (λ durable. durable.disks.events ≡ pair.events)
    pub runs : g.tells → Legs (LeaveBoth (OpensToOne plant pair.digest s.persistent s.persistent)) (two (g.story (first_disk pair)) (g.story (second_disk pair)))
        (two (g.story (first_left result)) (g.story (second_left result)))
    pub cause : AnswerCause (counts_of pair) (counts (g.faults (first_left result)) (g.faults (second_left result))) result
