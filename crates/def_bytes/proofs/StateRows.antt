-- Two small states byte for byte, in both versions, computed from the definitions alone.
use Rattle.std.proofs.Common.{◌≡◌, ℕ, pos, negsuc, true, false, [], ◌∷◌, ◌++◌, Some, None, refl}
use Rattle.std.specs.Prelude.{codes}
use Rattle.def_bytes.specs.Fields.{number_text}
use Rattle.boss_model.specs.declared.command.Policy.TheVariants.{Abort, Keep}
use Rattle.boss_model.specs.declared.command.Setting.{Setting}
use Rattle.boss_model.specs.declared.event.Act.TheVariants as act
use Rattle.boss_model.specs.declared.kept.Acceptance.TheVariants.{Renewed}
use Rattle.boss_model.specs.declared.notice.Cause.TheVariants as cause
use Rattle.boss_model.specs.declared.notice.What.TheVariants as what
use Rattle.boss_model.specs.Run.{replay_all}
use Rattle.boss_model.specs.State.{Persistent, first_persistent}
use Rattle.boss_model.proofs.Building.{building}
use Rattle.def_bytes.specs.States.{state}
use Rattle.def_bytes.proofs.Hex.{hex}

-- ---- one process with one lease, as after one attach and one submit

-- 45 % at priority 8 for a minute
abbrev pub write : Setting
write = record { point = 0; value = pos 45000; priority = pos 8; lease = pos 60000; revert = [] }

abbrev pub one_lease : Persistent
one_lease = record {
  now = 1000;
  next = 2;
  processes = record { name = codes "a"; count = 0; kept = []; reply = None } ∷ [];
  txns = record { txn = 1; owner = 0; policy = Abort; parts = record { point = 0; priority = 8; end = None } ∷ [] } ∷ [];
  done = [];
  leases = record { txn = 1; owner = 0; point = 0; priority = 8; value = pos 45000; until = 61000; revert = []; policy = Abort } ∷ [];
  pending = [];
}

after_two_events : replay_all building first_persistent
    (record { moment = 0; act = act.Enrol (codes "a") } ∷ record { moment = 1000; act = act.Submit 0 Abort (write ∷ []) 0 } ∷ []) ≡ Some one_lease
after_two_events = refl

one_lease_bytes : (state 2).text one_lease ≡
    hex (codes "00000000000003e8 0000000000000002") ++
    hex (codes "0001  01 61 0000000000000000 0000 00") ++
    hex (codes "00000001  0000000000000001 0000 00 01  00000000 08 00") ++
    hex (codes "0000") ++
    hex (codes "00000001  0000000000000001 0000 00000000 08 000000000000afc8 000000000000ee48 00 00") ++
    hex (codes "00000000")
unfolding number_text
one_lease_bytes = refl

one_lease_fits : (state 2).fits one_lease ≡ true
one_lease_fits = refl

-- version 1 has no byte for a kept reply
one_lease_before : (state 1).text one_lease ≡
    hex (codes "00000000000003e8 0000000000000002") ++
    hex (codes "0001  01 61 0000000000000000 0000") ++
    hex (codes "00000001  0000000000000001 0000 00 01  00000000 08 00") ++
    hex (codes "0000") ++
    hex (codes "00000001  0000000000000001 0000 00000000 08 000000000000afc8 000000000000ee48 00 00") ++
    hex (codes "00000000")
unfolding number_text
one_lease_before = refl

one_lease_fits_before : (state 1).fits one_lease ≡ true
one_lease_fits_before = refl

-- ---- notices of each kind, causes, a kept reply, a reversion under way

abbrev much : Persistent
much = record {
  now = 70000;
  next = 4;
  processes =
      record {
        name = codes "a";
        count = 7;
        kept =
            record { number = 3; at = 1000; txn = 1; what = what.Fault 0 } ∷
            record { number = 4; at = 61000; txn = 1; what = what.Ended 0 cause.Expired } ∷
            record { number = 5; at = 61000; txn = 2; what = what.Ended 1 (cause.Superseded 3) } ∷
            record { number = 6; at = 62000; txn = 2; what = what.Cut 2 3 } ∷
            record { number = 7; at = 62000; txn = 2; what = what.Done } ∷ [];
        reply = Some (record { seq = 5; acceptance = Renewed 1 63000 });
      } ∷ [];
  txns =
      record { txn = 1; owner = 0; policy = Abort; parts = record { point = 0; priority = 8; end = Some (record { cause = cause.Expired; at = 61000 }) } ∷ [] } ∷
      record { txn = 2; owner = 0; policy = Keep; parts = record { point = 1; priority = 16; end = Some (record { cause = cause.Superseded 3; at = 61000 }) } ∷ [] } ∷ [];
  done = 2 ∷ [];
  leases = [];
  pending = record { txn = 1; owner = 0; point = 0; priority = 8; steps = record { value = negsuc 0; hold = pos 86400000 } ∷ []; start = 61000 } ∷ [];
}

much_bytes : (state 2).text much ≡
    hex (codes "0000000000011170 0000000000000004") ++
    hex (codes "0001  01 61 0000000000000007 0005") ++
    hex (codes "00000000000003e8 0000000000000001 01 00000000") ++
    hex (codes "000000000000ee48 0000000000000001 02 00000000 00") ++
    hex (codes "000000000000ee48 0000000000000002 02 00000001 04 0000000000000003") ++
    hex (codes "000000000000f230 0000000000000002 04 00000002 0000000000000003") ++
    hex (codes "000000000000f230 0000000000000002 05") ++
    hex (codes "02 0000000000000005 0000000000000001 000000000000f618") ++
    hex (codes "00000002  0000000000000001 0000 00 01  00000000 08 01 00 000000000000ee48") ++
    hex (codes "0000000000000002 0000 01 01  00000001 10 01 04 0000000000000003 000000000000ee48") ++
    hex (codes "0001  0000000000000002") ++
    hex (codes "00000000") ++
    hex (codes "00000001  0000000000000001 0000 00000000 08 000000000000ee48 01 ffffffffffffffff 05265c00")
unfolding number_text
much_bytes = refl

much_fits : (state 2).fits much ≡ true
much_fits = refl

-- version 1 has no spelling for a kept reply
no_reply_before : (state 1).fits much ≡ false
no_reply_before = refl

-- ---- notices that are not the last ones, up to the count and without a gap, have no spelling

abbrev told_once : ℕ → ℕ → Persistent
told_once count number = record one_lease {
  processes = record { name = codes "a"; count = count; kept = record { number = number; at = 1000; txn = 1; what = what.Done } ∷ []; reply = None } ∷ [];
}

the_last_one : (state 2).fits (told_once 9 9) ≡ true
the_last_one = refl

not_the_last_one : (state 2).fits (told_once 9 8) ≡ false
not_the_last_one = refl

more_than_were_sent : (state 2).fits (told_once 0 1) ≡ false
more_than_were_sent = refl
