use Rattle.std.proofs.Common.{◌≡◌, ℕ, suc, ◌+◌, ◌<◌, ◌≤◌, Bool, List, length, Result, subst, arith}
use Rattle.base64.specs.Engines.{standard}
use Rattle.base64.specs.GeneralPurpose.{encode_of}
use Rattle.boss_outside.specs.declared.link.Link as link
use Rattle.boss_cluster.specs.declared.cluster.Lost.{Lost}
use Rattle.boss_etcd.specs.declared.cluster.EtcdCluster.{EtcdCluster}
use Rattle.boss_etcd.specs.declared.said.Said.{Said}
use Rattle.boss_etcd.specs.declared.said.Said.TheVariants.{Done, Refused, Unclear}
use Rattle.boss_etcd.specs.Asking.{AnswersOnce, Asked, AskedTimes, AskedUpTo, Told}
use Rattle.boss_etcd.specs.Commits.{CheckEnds, Checked, Put, PutEnds, times_of, transaction}
use Rattle.boss_etcd.specs.Heads.{commit_of, next_length, value_of}
use Rattle.boss_etcd.specs.Requests.{check_text}

module _ {L : Type 0} (l : link.Ghosts L) (hosts : List (List ℕ)) (path body : List ℕ) where
  pub asked_none : (most : ℕ) (old new : L) → l.sent new ≡ l.sent old → AskedUpTo l hosts path body most old new
  asked_none most old new same = (0, omega arith, same)

  -- as many times as that
  pub asked_all : (times most : ℕ) (old new : L) → times ≤ most → AskedTimes l hosts path body times old new → AskedUpTo l hosts path body most old new
  asked_all times most old new within asked = (times, within, asked)

  -- once more, of the same hosts
  pub asked_again : (times : ℕ) (old between new : L) (same : List (List ℕ)) → same ≡ hosts → AskedTimes l hosts path body times old between
      → Asked l same path body between new → AskedTimes l hosts path body (times + 1) old new
  asked_again times old between new same is before asked =
      let one : suc times ≡ times + 1 = omega arith in
      subst (λ n. AskedTimes l hosts path body n old new) one (between, before, subst (λ these. Asked l these path body between new) is asked)

  pub asked_more : (times most : ℕ) (old between new : L) (same : List (List ℕ)) → same ≡ hosts → times < most
      → AskedTimes l hosts path body times old between → Asked l same path body between new → AskedUpTo l hosts path body most old new
  asked_more times most old between new same is low before asked =
      (times + 1, omega (arith, low), asked_again times old between new same is before asked)

  -- what the last answer says
  pub told_last : (times : ℕ) (old between new : L) (said : Said) → AskedTimes l hosts path body times old between
      → AnswersOnce l hosts path body between new said → Told l hosts path body old new said
  told_last times old between new (Done revision) before answers = record { times = times; between = between; before = before; answers = answers }
  told_last times old between new (Refused value revision) before answers =
      record { times = times; between = between; before = before; answers = answers }
  told_last times old between new Unclear before answers = tt

  pub told_then : (times : ℕ) (old between new : L) (said : Said) (same : List (List ℕ)) → same ≡ hosts → AskedTimes l hosts path body times old between
      → AnswersOnce l same path body between new said → Told l hosts path body old new said
  told_then times old between new said same is before answers =
      told_last times old between new said before (subst (λ these. AnswersOnce l these path body between new said) is answers)

module _ {L : Type 0} (l : link.Ghosts L) where
  -- the texts that are sent are those of the definitions
  pub checked : {T : Type 0} (old new : EtcdCluster L) (text : List ℕ) (said : Said) (result : Result T Lost) → text ≡ check_text old.name old.head.revision
      → AskedUpTo l old.members.hosts transaction text 8 old.members.link new.members.link
      → Told l old.members.hosts transaction text old.members.link new.members.link said → CheckEnds said old new result → Checked l old new result
  checked old new text said result is asked told ends = record {
    asked = subst (λ body. AskedUpTo l old.members.hosts transaction body 8 old.members.link new.members.link) is asked;
    said = said;
    told = subst (λ body. Told l old.members.hosts transaction body old.members.link new.members.link said) is told;
    ends = ends;
  }

  pub put : {T : Type 0} (at : ℕ) (bytes : List ℕ) (last : Bool) (old new : EtcdCluster L) (text : List ℕ) (said : Said) (result : Result T Lost)
      → text ≡ commit_of old.name old.head at bytes last
      → AskedUpTo l old.members.hosts transaction text (times_of old.head.number) old.members.link new.members.link
      → Told l old.members.hosts transaction text old.members.link new.members.link said
      → PutEnds said (encode_of standard (value_of old.head at bytes last)) (next_length old.head.length (at + length bytes) last) old new result
      → Put l at bytes last old new result
  put at bytes last old new text said result is asked told ends = record {
    asked = subst (λ body. AskedUpTo l old.members.hosts transaction body (times_of old.head.number) old.members.link new.members.link) is asked;
    said = said;
    told = subst (λ body. Told l old.members.hosts transaction body old.members.link new.members.link said) is told;
    ends = ends;
  }
