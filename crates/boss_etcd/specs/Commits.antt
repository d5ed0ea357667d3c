-- Source: own.
-- What a commit asks of the members of etcd, and what it makes of their answers.
use Rattle.std.specs.Prelude.{◌≡◌, ℕ, ◌+◌, ◌==◌, ◌&&◌, nat_lt, Bool, true, false, List, [], length, codes, bytes_eq, if◌then◌else◌, Result, Ok, Err}
use Rattle.base64.specs.Engines.{standard}
use Rattle.base64.specs.GeneralPurpose.{encode_of}
use Rattle.boss_outside.specs.declared.link.Link as link
use Rattle.boss_cluster.specs.declared.cluster.Lost.{Lost}
use Rattle.boss_cluster.specs.declared.cluster.Lost.TheVariants.{Fenced, Unanswered}
use Rattle.boss_etcd.specs.declared.cluster.EtcdCluster.{EtcdCluster}
use Rattle.boss_etcd.specs.declared.said.Said.{Said}
use Rattle.boss_etcd.specs.declared.said.Said.TheVariants.{Done, Refused, Unclear}
use Rattle.boss_etcd.specs.Asking.{AskedUpTo, Told}
use Rattle.boss_etcd.specs.Heads.{changes_nothing, commit_of, next_length, value_of}
use Rattle.boss_etcd.specs.Requests.{check_text}

-- where a transaction is posted to
abbrev pub transaction : List ℕ
transaction = codes "/v3/kv/txn"

-- How often a commit is asked for. The first one of an owner is asked for once: another that takes over from the same head writes the same
-- value.
abbrev pub times_of : ℕ → ℕ
times_of number = if number == 0 then 1 else 8

-- What is made of an answer, by how many commits were made before: one that was refused was done before if the head has its value, and this
-- is not the first of its owner; else another one took over.
abbrev pub judged : Said → ℕ → List ℕ → Result (List ℕ) Lost
judged (Done revision) number value = Ok revision
judged (Refused found revision) number value = if nat_lt 0 number && bytes_eq found value then Ok revision else Err Fenced
judged Unclear number value = Err Unanswered

-- the head has another revision, a commit more and this length; where it was not done it is as it was
abbrev pub PutEnds : {L T : Type 0} → Said → List ℕ → ℕ → EtcdCluster L → EtcdCluster L → Result T Lost → Type 0
PutEnds said value length old new (Ok _) =
    (judged said old.head.number value ≡ Ok new.head.revision) × (new.head.owner ≡ old.head.owner) × (new.head.number ≡ old.head.number + 1)
    × (new.head.length ≡ length)
PutEnds said value length old new (Err lost) = (judged said old.head.number value ≡ Err lost) × (new.head ≡ old.head)

abbrev pub CheckEnds : {L T : Type 0} → Said → EtcdCluster L → EtcdCluster L → Result T Lost → Type 0
CheckEnds said old new (Ok _) = ((revision : List ℕ) × (judged said 0 [] ≡ Ok revision)) × (new.head ≡ old.head)
CheckEnds said old new (Err lost) = (judged said 0 [] ≡ Err lost) × (new.head ≡ old.head)

module _ {L : Type 0} (l : link.Ghosts L) where
  -- a commit that puts: its request is sent and nothing else, no more often than it may be; what is told is what was answered
  pub record Put {T : Type 0} (at : ℕ) (bytes : List ℕ) (last : Bool) (old new : EtcdCluster L) (result : Result T Lost) : Type 0 where
    pub asked : AskedUpTo l old.members.hosts transaction (commit_of old.name old.head at bytes last) (times_of old.head.number) old.members.link new.members.link
    pub said : Said
    pub told : Told l old.members.hosts transaction (commit_of old.name old.head at bytes last) old.members.link new.members.link said
    pub ends : PutEnds said (encode_of standard (value_of old.head at bytes last)) (next_length old.head.length (at + length bytes) last) old new result

  -- a commit that changes nothing: the head is compared, and nothing put
  pub record Checked {T : Type 0} (old new : EtcdCluster L) (result : Result T Lost) : Type 0 where
    pub asked : AskedUpTo l old.members.hosts transaction (check_text old.name old.head.revision) 8 old.members.link new.members.link
    pub said : Said
    pub told : Told l old.members.hosts transaction (check_text old.name old.head.revision) old.members.link new.members.link said
    pub ends : CheckEnds said old new result

  abbrev pub CarriedBy : {T : Type 0} → Bool → ℕ → List ℕ → Bool → EtcdCluster L → EtcdCluster L → Result T Lost → Type 0
  CarriedBy true at bytes last old new result = Checked old new result
  CarriedBy false at bytes last old new result = Put at bytes last old new result

  -- what is carried out
  abbrev pub Carried : {T : Type 0} → ℕ → List ℕ → Bool → EtcdCluster L → EtcdCluster L → Result T Lost → Type 0
  Carried at bytes last old new result = CarriedBy (changes_nothing old.head at bytes last) at bytes last old new result

  -- a commit; after one that was not answered as done nothing is done any more
  abbrev pub Committed : {T : Type 0} → ℕ → List ℕ → Bool → EtcdCluster L → EtcdCluster L → Result T Lost → Type 0
  Committed at bytes last old new result =
      (old.is_over ≡ false → Carried at bytes last old new result) × (old.is_over ≡ true → (new ≡ old) × (result ≡ Err Unanswered))
