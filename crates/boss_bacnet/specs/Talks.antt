-- Source: ASHRAE 135, clause 5.4 (a request is sent again, under its invoke id, after the APDU timeout; the number of retries); own.
-- What one exchange does to a socket.
use Rattle.std.specs.Prelude.{◌≡◌, ◌≢◌, ◌⊎◌, ℕ, zero, suc, ◌+◌, ◌*◌, ◌≤◌, true, List, [], ◌∷◌, ◌++◌, length, Option, Some, None}
use Rattle.boss_outside.specs.Counts.{Rose}
use Rattle.boss_bacnet.specs.declared.asked.Asked.{Asked}
use Rattle.boss_outside.specs.declared.datagrams.Datagrams as link
use Rattle.boss_bacnet.specs.declared.fate.Fate.{Fate}
use Rattle.boss_bacnet.specs.declared.fate.Fate.TheVariants as fate
use Rattle.boss_bacnet.specs.declared.talking.One.{One}
use Rattle.boss_bacnet.specs.declared.talking.One.TheVariants as one
use Rattle.boss_bacnet.specs.declared.talking.Reply.{Reply}
use Rattle.boss_bacnet.specs.declared.talking.Reply.TheVariants as reply
use Rattle.boss_bacnet.specs.Fates.{AllPassed, IsAnswered, Fared, is_answer, judged}
use Rattle.boss_bacnet.specs.Frames.{frame}

-- ---- an exchange

-- so many times the same datagram
abbrev pub repeated : ℕ → List ℕ → List (List ℕ)
repeated zero bytes = []
repeated (suc n) bytes = repeated n bytes ++ bytes ∷ []

-- the count of a link rose exactly where the exchange came to a fault of it
pub record FateCause (before now : ℕ) (end : Fate) : Type 0 where
  pub failed : end ≡ fate.LinkFault → Rose before now
  pub fine : end ≢ fate.LinkFault → now ≡ before

-- after one send at most so many datagrams are heard
abbrev pub most_heard : ℕ
most_heard = 64

-- how many tries an end has: an answer one at least, silence all
abbrev pub IsAfter : ℕ → ℕ → Fate → Type 0
IsAfter tries most fate.Silent = tries ≡ most
IsAfter tries most fate.LinkFault = Unit {0}
IsAfter tries most end = 1 ≤ tries

module _ {L : Type 0} (l : link.Ghosts L) (id : ℕ) (asked : Asked) (old new : L) where
  -- so many tries ended, each in silence or after too many datagrams
  pub record Quiet (tries : ℕ) (heard : List (List ℕ)) : Type 0 where
    pub silences : ℕ
    pub drowned : ℕ
    pub all : silences + drowned ≡ tries
    pub told : l.tells → l.silences new ≡ l.silences old + silences
    pub many : most_heard * drowned ≤ length heard

  -- what was heard is no answer, and nothing was sent
  pub record Passed (quiet : ℕ) : Type 0 where
    pub heard : List (List ℕ)
    pub received : l.tells → l.received new ≡ l.received old ++ heard
    pub silences : l.tells → l.silences new ≡ l.silences old + quiet
    pub sent : l.tells → l.sent new ≡ l.sent old
    pub passed : AllPassed id asked heard

  -- and it was so many datagrams
  pub record PassedMany (count : ℕ) : Type 0 where
    pub passed : Passed 0
    pub many : length passed.heard ≡ count

  -- the last of it is an answer
  pub record Answered (end : Fate) : Type 0 where
    pub heard : List (List ℕ)
    pub received : l.tells → l.received new ≡ l.received old ++ heard
    pub sent : l.tells → l.sent new ≡ l.sent old
    pub answered : IsAnswered id asked heard end
    pub answer : is_answer end ≡ true

  -- one datagram was waited for
  pub record HeardOne (says : Option Fate) : Type 0 where
    pub bytes : List ℕ
    pub received : l.tells → l.received new ≡ l.received old ++ bytes ∷ []
    pub silences : l.tells → l.silences new ≡ l.silences old + 0
    pub sent : l.tells → l.sent new ≡ l.sent old
    pub judged_is : judged id asked bytes ≡ says

  abbrev pub HeardBy : One → Type 0
  HeardBy (one.Answer end) = HeardOne (Some end) × (is_answer end ≡ true) × (l.faults new ≡ l.faults old)
  HeardBy one.Foreign = HeardOne None × (l.faults new ≡ l.faults old)
  HeardBy one.Silence = Passed 1 × (l.faults new ≡ l.faults old)
  HeardBy one.Failed = Passed 0 × Rose (l.faults old) (l.faults new)

  -- datagrams were waited for, until one is an answer or none comes, or until there were too many
  abbrev pub Listened : Reply → Type 0
  Listened (reply.Answer end) = Answered end × (l.faults new ≡ l.faults old)
  Listened reply.Silence = (Passed 1 ⊎ PassedMany most_heard) × (l.faults new ≡ l.faults old)
  Listened reply.Failed = Passed 0 × Rose (l.faults old) (l.faults new)

  -- its datagram was sent as often as it was tried, and what was heard says how it fared
  pub record Exchanged (most : ℕ) (end : Fate) : Type 0 where
    pub heard : List (List ℕ)
    pub sent : l.tells → (tries : ℕ) × (tries ≤ most) × IsAfter tries most end × (l.sent new ≡ l.sent old ++ repeated tries (frame id asked))
    pub received : l.tells → l.received new ≡ l.received old ++ heard
    pub fared : Fared id asked heard end
    -- each try but an answered one ended in silence, or after too many datagrams
    pub silent : end ≡ fate.Silent → Quiet most heard
    pub cause : FateCause (l.faults old) (l.faults new) end

  -- so many tries came to nothing
  pub record Tried (tries : ℕ) : Type 0 where
    pub heard : List (List ℕ)
    pub sent : l.tells → l.sent new ≡ l.sent old ++ repeated tries (frame id asked)
    pub received : l.tells → l.received new ≡ l.received old ++ heard
    pub passed : AllPassed id asked heard
    pub quiet : Quiet tries heard
    pub fine : l.faults new ≡ l.faults old
