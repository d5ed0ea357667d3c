-- Source: own.
-- What is sent to the members of a cluster, and what is heard of them.
use Rattle.std.specs.Prelude.{◌≡◌, ◌⊎◌, ℕ, zero, suc, ◌≤◌, List, ◌++◌, Some, slice_get}
use Rattle.boss_outside.specs.declared.link.Link as link
use Rattle.boss_outside.specs.Streams.{TakesFront}
use Rattle.boss_http.specs.Requests.{post_text}
use Rattle.boss_http.specs.Responses.{IsWhole}
use Rattle.boss_etcd.specs.declared.said.Said.{Said}
use Rattle.boss_etcd.specs.declared.said.Said.TheVariants.{Done, Refused, Unclear}
use Rattle.boss_etcd.specs.Says.{Says}

-- one of these hosts
abbrev pub IsHost : List (List ℕ) → List ℕ → Type 0
IsHost hosts host = (turn : ℕ) × (slice_get hosts turn ≡ Some host)

module _ {L : Type 0} (l : link.Ghosts L) (hosts : List (List ℕ)) (path body : List ℕ) where
  -- nothing was sent, or a front of one request to one of the hosts
  abbrev pub Asked : L → L → Type 0
  Asked old new =
      (l.sent new ≡ l.sent old) ⊎ ((host : List ℕ) × IsHost hosts host × TakesFront (l.sent old) (l.sent new) (post_text path host body))

  -- one request was sent whole, and what came is one whole response with status 200 and this content
  pub record Hears (old new : L) (content : List ℕ) : Type 0 where
    pub host : List ℕ
    pub is_host : IsHost hosts host
    pub sent : l.sent new ≡ l.sent old ++ post_text path host body
    pub response : List ℕ
    pub received : l.received new ≡ l.received old ++ response
    pub whole : IsWhole response 200 content

  -- so many times one after another
  abbrev pub AskedTimes : ℕ → L → L → Type 0
  AskedTimes zero old new = l.sent new ≡ l.sent old
  AskedTimes (suc times) old new = (between : L) × AskedTimes times old between × Asked between new

  -- it was asked at most so many times
  abbrev pub AskedUpTo : ℕ → L → L → Type 0
  AskedUpTo most old new = (times : ℕ) × (times ≤ most) × AskedTimes times old new

  -- one answer says this
  pub record Answers (old new : L) (said : Said) : Type 0 where
    pub content : List ℕ
    pub hears : Hears old new content
    pub says : Says content said

  abbrev pub AnswersOnce : L → L → Said → Type 0
  AnswersOnce old new (Done revision) = Answers old new (Done revision)
  AnswersOnce old new (Refused value revision) = Answers old new (Refused value revision)
  AnswersOnce old new Unclear = Unit {0}

  -- after other times it was asked once more, and that answer says this
  pub record Answered (old new : L) (said : Said) : Type 0 where
    pub times : ℕ
    pub between : L
    pub before : AskedTimes times old between
    pub answers : Answers between new said

  -- what is told as the answer is one
  abbrev pub Told : L → L → Said → Type 0
  Told old new (Done revision) = Answered old new (Done revision)
  Told old new (Refused value revision) = Answered old new (Refused value revision)
  Told old new Unclear = Unit {0}
