-- Source: own over ASHRAE 135, clause 5.4.
-- What one write, and one look, does to a device and to its socket.
use Rattle.std.specs.Prelude.{◌≡◌, ◌≢◌, ◌⊎◌, ℕ, ◌+◌, ◌%◌, ◌^◌, ℤ, Bool, true, false, List, [], ◌∷◌, ◌++◌, Option, Some, None, Result, Ok, Err}
use Rattle.boss_outside.specs.Counts.{Rose}
use Rattle.boss_looks.specs.declared.looks.Found.{Found}
use Rattle.boss_looks.specs.declared.looks.Found.TheVariants as found
use Rattle.boss_looks.specs.declared.looks.Looks.{Looks}
use Rattle.boss_looks.specs.declared.looks.Next.{Next}
use Rattle.boss_looks.specs.declared.looks.Next.TheVariants as next
use Rattle.boss_looks.specs.declared.queue.Kept.{Kept}
use Rattle.boss_looks.specs.Looks.{Checked, IsNext, Takes, forgotten}
use Rattle.boss_model.specs.declared.places.DriverPlan.{DriverPlan}
use Rattle.boss_model.specs.declared.places.Place.{Place}
use Rattle.boss_outside.specs.declared.actuators.Look.{Look}
use Rattle.boss_outside.specs.declared.actuators.Look.TheVariants.{Quiet, Seen, Doubt}
use Rattle.boss_bacnet.specs.declared.asked.Asked.{Asked}
use Rattle.boss_outside.specs.declared.datagrams.Datagrams as link
use Rattle.boss_bacnet.specs.declared.device.BacnetDevice.{BacnetDevice}
use Rattle.boss_bacnet.specs.declared.fate.Fate.{Fate}
use Rattle.boss_bacnet.specs.declared.fate.Fate.TheVariants as fate
use Rattle.boss_bacnet.specs.declared.places.Purpose.{Purpose}
use Rattle.boss_bacnet.specs.declared.places.Purpose.TheVariants.{Write, Check}
use Rattle.boss_bacnet.specs.Places.{AsksFor}
use Rattle.boss_bacnet.specs.Talks.{Exchanged}

-- a socket that failed is opened anew
abbrev pub stays_open : Fate → Bool
stays_open fate.LinkFault = false
stays_open other = true

module _ {L : Type 0} (l : link.Ghosts L) where
  -- nothing was asked, and the socket is as it was
  pub record Passed (was_open is_open : Bool) (old new : L) (end : Fate) : Type 0 where
    pub no_place : end ≡ fate.NoPlace
    pub same_link : new ≡ old
    pub same_open : is_open ≡ was_open

  -- the socket was opened to the host where it was not open, and then this was exchanged; or it could not be opened
  pub record Spoke (id tries : ℕ) (host : List ℕ) (asked : Asked) (was_open is_open : Bool) (old new : L) (end : Fate) : Type 0 where
    pub open_now : is_open ≡ stays_open end
    pub opened : L
    pub hosts : l.tells → was_open ≡ false → l.hosts opened ≡ l.hosts old ++ host ∷ []
    pub same : was_open ≡ true → opened ≡ old
    pub unsaid : l.tells → (l.sent opened ≡ l.sent old) × (l.received opened ≡ l.received old)
    pub exchanged : Exchanged l id asked opened new tries end

  pub record Unopened (host : List ℕ) (was_open is_open : Bool) (old new : L) (end : Fate) : Type 0 where
    pub closed : was_open ≡ false
    pub closed_still : is_open ≡ false
    pub fault : end ≡ fate.LinkFault
    pub rose : Rose (l.faults old) (l.faults new)
    pub hosts : l.tells → (l.hosts new ≡ l.hosts old) ⊎ (l.hosts new ≡ l.hosts old ++ host ∷ [])
    pub unsaid : l.tells → (l.sent new ≡ l.sent old) × (l.received new ≡ l.received old)

  -- by what is asked, and the part that is assigned
  abbrev pub CarriedBy : ℕ → Option Asked → Option DriverPlan → Bool → Bool → L → L → Fate → Type 0
  CarriedBy id None part was_open is_open old new end = Passed was_open is_open old new end
  CarriedBy id (Some asked) None was_open is_open old new end = Passed was_open is_open old new end
  CarriedBy id (Some asked) (Some part) was_open is_open old new end =
      Unopened part.host was_open is_open old new end ⊎ Spoke id part.tries part.host asked was_open is_open old new end

  pub record Carried (purpose : Purpose) (id point : ℕ) (value : ℤ) (part : Option DriverPlan) (was_open is_open : Bool) (old new : L) (end : Fate) : Type 0 where
    pub asked : Option Asked
    pub asks : AsksFor part purpose point value asked
    pub carried : CarriedBy id asked part was_open is_open old new end

  -- an exchange: it has the next invoke id, whatever came of it
  pub record Exchanges (purpose : Purpose) (point : ℕ) (value : ℤ) (old new : BacnetDevice L) : Type 0 where
    pub id : new.id ≡ (old.id + 1) % 2 ^ 8
    pub same_part : new.part ≡ old.part
    pub carried : Carried purpose new.id point value old.part old.is_open new.is_open old.link new.link new.fate

  -- a write is one
  abbrev pub Wrote : ℕ → ℤ → BacnetDevice L → BacnetDevice L → Type 0
  Wrote point value old new = Exchanges Write point value old new

-- the device acknowledged a write
abbrev pub is_taken : Fate → Bool
is_taken fate.Taken = true
is_taken other = false

-- a write is answered Ok exactly where it was acknowledged
abbrev pub Answers : {T E : Type 0} → Fate → Result T E → Type 0
Answers end (Ok _) = end ≡ fate.Taken
Answers end (Err _) = end ≢ fate.Taken

-- ---- looks

-- what was taken is looked after as its place says; of any other point nothing is, until it was taken
abbrev pub NotesAt : Option Place → ℕ → ℤ → Bool → Looks → Looks → Type 0
NotesAt (Some place) point value true old new = Takes place value old new
NotesAt (Some place) point value false old new = new ≡ forgotten point old
NotesAt None point value taken old new = new ≡ forgotten point old

-- what a device was found with
abbrev pub found_by : Fate → Found
found_by fate.Has = found.Same
found_by fate.HasOther = found.Other
found_by other = found.Nothing

-- what a look that asks nothing comes to
abbrev pub look_by : Next → Look
look_by next.Nothing = Quiet
look_by next.Begun = Seen
look_by (next.Again point) = Doubt point false
look_by (next.Check kept) = Quiet

-- nothing was asked
pub record Rests {L : Type 0} (next : Next) (old new : BacnetDevice L) (look : Look) : Type 0 where
  pub looks : look ≡ look_by next
  pub looked : new.looked ≡ None
  pub same_link : new.link ≡ old.link
  pub same_open : new.is_open ≡ old.is_open
  pub same_part : new.part ≡ old.part
  pub same_id : new.id ≡ old.id

module _ {L : Type 0} (l : link.Ghosts L) where
  -- a device was asked whether it has what it took
  pub record Checks (now : ℕ) (kept : Kept) (between : Looks) (old new : BacnetDevice L) (look : Look) : Type 0 where
    pub exchanges : Exchanges l Check kept.point kept.value old new
    pub looked : new.looked ≡ Some kept
    pub checked : Checked now kept (found_by new.fate) between new.looks look

  abbrev pub Does : ℕ → Next → Looks → BacnetDevice L → BacnetDevice L → Look → Type 0
  Does now (next.Check kept) between old new look = Checks now kept between old new look
  Does now next.Nothing between old new look = Rests next.Nothing old new look × (new.looks ≡ between)
  Does now next.Begun between old new look = Rests next.Begun old new look × (new.looks ≡ between)
  Does now (next.Again point) between old new look = Rests (next.Again point) old new look × (new.looks ≡ between)

  -- a look: what is due at this moment, and what came of it
  pub record Looked (now : ℕ) (old new : BacnetDevice L) (look : Look) : Type 0 where
    pub next : Next
    pub between : Looks
    pub is_next : IsNext now old.looks between next
    pub does : Does now next between old new look
