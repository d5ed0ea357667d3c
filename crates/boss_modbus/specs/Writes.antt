-- Source: own over MODBUS Application Protocol 1.1b3.
-- What one write, and one look, does to a device and to its link.
use Rattle.std.specs.Prelude.{◌≡◌, ◌≢◌, ◌⊎◌, ℕ, ◌+◌, ◌%◌, ◌^◌, ℤ, Bool, true, false, List, [], ◌∷◌, ◌++◌, Option, Some, None}
use Rattle.boss_outside.specs.Streams.{TakesFront}
use Rattle.boss_outside.specs.declared.link.Link as link
use Rattle.boss_model.specs.declared.places.DriverPlan.{DriverPlan}
use Rattle.boss_model.specs.declared.places.Place.{Place}
use Rattle.boss_outside.specs.declared.actuators.Look.{Look}
use Rattle.boss_outside.specs.declared.actuators.Look.TheVariants.{Quiet, Seen, Doubt}
use Rattle.boss_looks.specs.declared.looks.Found.{Found}
use Rattle.boss_looks.specs.declared.looks.Found.TheVariants as found
use Rattle.boss_looks.specs.declared.looks.Looks.{Looks}
use Rattle.boss_looks.specs.declared.looks.Next.{Next}
use Rattle.boss_looks.specs.declared.looks.Next.TheVariants as next
use Rattle.boss_looks.specs.declared.queue.Kept.{Kept}
use Rattle.boss_looks.specs.Looks.{Checked, IsNext, Takes, forgotten}
use Rattle.boss_modbus.specs.declared.places.What.{What}
use Rattle.boss_modbus.specs.declared.places.What.TheVariants.{Write, Check}
use Rattle.boss_modbus.specs.declared.request.Asked.{Asked}
use Rattle.boss_modbus.specs.declared.device.ModbusDevice.{ModbusDevice}
use Rattle.boss_modbus.specs.declared.fate.Fate.{Fate}
use Rattle.boss_modbus.specs.declared.fate.Fate.TheVariants.{Has, HasOther, LinkFault, NoPlace}
use Rattle.boss_modbus.specs.Fates.{Fared, FateCause, goes_on}
use Rattle.boss_modbus.specs.Frames.{frame}
use Rattle.boss_modbus.specs.Places.{AsksFor}

-- the hosts that were reached in an exchange: none anew where there was a connection, and else the one, at most once
pub record Reaches (was_connected : Bool) (host : List ℕ) (old new : List (List ℕ)) : Type 0 where
  pub same : was_connected ≡ true → new ≡ old
  pub at_most : was_connected ≡ false → (new ≡ old) ⊎ (new ≡ old ++ host ∷ [])

module _ {L : Type 0} (l : link.Ghosts L) where
  -- what was sent and received over the link while one frame was sent and its response awaited, and how that ended
  pub record Exchanged (was_connected : Bool) (host : List ℕ) (number : ℕ) (asked : Asked) (response : List ℕ) (old new : L) (end : Fate) : Type 0 where
    pub cause : FateCause (l.faults old) (l.faults new) end
    pub reaches : l.tells → Reaches was_connected host (l.hosts old) (l.hosts new)
    pub reached : l.tells → was_connected ≡ false → end ≢ LinkFault → l.hosts new ≡ l.hosts old ++ host ∷ []
    pub front : l.tells → TakesFront (l.sent old) (l.sent new) (frame number asked)
    pub sent : l.tells → end ≢ LinkFault → l.sent new ≡ l.sent old ++ frame number asked
    pub received : l.tells → l.received new ≡ l.received old ++ response
    pub fared : l.tells → Fared number asked response (l.left new) end

  -- nothing was sent, and the link is as it was
  pub record Passed (was_connected is_connected : Bool) (old new : L) (response : List ℕ) (end : Fate) : Type 0 where
    pub no_place : end ≡ NoPlace
    pub same_link : new ≡ old
    pub same_connection : is_connected ≡ was_connected
    pub no_response : response ≡ []

  -- a frame was sent to this host, and after each end but an answer the link is shut
  pub record Asks (number : ℕ) (host : List ℕ) (asked : Asked) (was_connected is_connected : Bool) (old new : L) (response : List ℕ) (end : Fate) : Type 0 where
    pub exchanged : Exchanged was_connected host number asked response old new end
    pub goes : is_connected ≡ goes_on end
    pub shut : l.tells → goes_on end ≡ false → l.connected new ≡ false

  -- what came of an exchange with this number, by what is asked and the part that is assigned
  abbrev pub Carried : ℕ → Option Asked → Option DriverPlan → Bool → Bool → L → L → List ℕ → Fate → Type 0
  Carried number None part was_connected is_connected old new response end = Passed was_connected is_connected old new response end
  Carried number (Some asked) None was_connected is_connected old new response end = Passed was_connected is_connected old new response end
  Carried number (Some asked) (Some part) was_connected is_connected old new response end =
      Asks number part.host asked was_connected is_connected old new response end

  -- an exchange: it counts for the number of the transaction, whatever came of it
  pub record Exchanges (what : What) (point : ℕ) (value : ℤ) (old new : ModbusDevice L) : Type 0 where
    pub number : new.exchanges ≡ (old.exchanges + 1) % 2 ^ 16
    pub same_part : new.part ≡ old.part
    pub asked : Option Asked
    pub asks : AsksFor old.part what point value asked
    pub carried : Carried new.exchanges asked old.part old.is_connected new.is_connected old.link new.link new.response.items new.fate

  -- a write is one
  abbrev pub Wrote : ℕ → ℤ → ModbusDevice L → ModbusDevice L → Type 0
  Wrote point value old new = Exchanges Write point value old new

-- ---- looks

-- what was taken is looked after as its place says; of any other point nothing is, until it was taken
abbrev pub NotesAt : Option Place → ℕ → ℤ → Bool → Looks → Looks → Type 0
NotesAt (Some place) point value true old new = Takes place value old new
NotesAt (Some place) point value false old new = new ≡ forgotten point old
NotesAt None point value taken old new = new ≡ forgotten point old

-- what a device was found with
abbrev pub found_by : Fate → Found
found_by Has = found.Same
found_by HasOther = found.Other
found_by other = found.Nothing

-- what a look that asks nothing comes to
abbrev pub look_by : Next → Look
look_by next.Nothing = Quiet
look_by next.Begun = Seen
look_by (next.Again point) = Doubt point false
look_by (next.Check kept) = Quiet

-- nothing was asked
pub record Rests {L : Type 0} (next : Next) (old new : ModbusDevice L) (look : Look) : Type 0 where
  pub looks : look ≡ look_by next
  pub looked : new.looked ≡ None
  pub same_link : new.link ≡ old.link
  pub same_connection : new.is_connected ≡ old.is_connected
  pub same_part : new.part ≡ old.part
  pub same_number : new.exchanges ≡ old.exchanges

module _ {L : Type 0} (l : link.Ghosts L) where
  -- a device was asked whether it has what it took
  pub record Checks (now : ℕ) (kept : Kept) (between : Looks) (old new : ModbusDevice L) (look : Look) : Type 0 where
    pub exchanges : Exchanges l Check kept.point kept.value old new
    pub looked : new.looked ≡ Some kept
    pub checked : Checked now kept (found_by new.fate) between new.looks look

  abbrev pub Does : ℕ → Next → Looks → ModbusDevice L → ModbusDevice L → Look → Type 0
  Does now (next.Check kept) between old new look = Checks now kept between old new look
  Does now next.Nothing between old new look = Rests next.Nothing old new look × (new.looks ≡ between)
  Does now next.Begun between old new look = Rests next.Begun old new look × (new.looks ≡ between)
  Does now (next.Again point) between old new look = Rests (next.Again point) old new look × (new.looks ≡ between)

  -- a look: what is due at this moment, and what came of it
  pub record Looked (now : ℕ) (old new : ModbusDevice L) (look : Look) : Type 0 where
    pub next : Next
    pub between : Looks
    pub is_next : IsNext now old.looks between next
    pub does : Does now next between old new look
