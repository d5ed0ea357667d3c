-- The room for what a command does is there still after a change that makes no more of anything.
use Rattle.std.proofs.Common.{◌≡◌, ◌≤◌, length, arith}
use Rattle.std.proofs.lemmas.List.{length-map}
use Rattle.boss_persistent.specs.declared.lasting.Lasting.{Lasting}
use Rattle.boss_engine.specs.declared.machine.Machine.{Machine}
use Rattle.boss_engine.specs.declared.ready.Ready.{Ready}
use Rattle.boss_engine.specs.declared.ready.Ready.TheVariants as ready
use Rattle.boss_persistent.specs.Lasting.{persistent_of}
use Rattle.boss_engine.specs.Ready.{HasRoomFor}
use Rattle.law_due.proofs.DueLemmas.{IsNoMore}
use Rattle.boss_persistent.proofs.Recorded.{record_of}

fewer-kept : (old new : Lasting) → IsNoMore (persistent_of old) (persistent_of new) → length new.stages.kept ≤ length old.stages.kept
fewer-kept old new few = omega (arith, few.txns, length-map old.stages.kept record_of, length-map new.stages.kept record_of)

module _ (old new : Machine) (few : IsNoMore (persistent_of old.lasting) (persistent_of new.lasting)) (stages : new.lasting.stages.room ≡ old.lasting.stages.room) where
  pub room-left : (given : Ready) → HasRoomFor given old → HasRoomFor given new
  room-left ready.Nothing room = tt
  room-left (ready.Refused why) room = tt
  room-left (ready.Decided answer) room = tt
  room-left (ready.Process ring) room = tt
  room-left (ready.List notices) room = tt
  room-left (ready.Submit transaction writes) room = omega (arith, room, stages, fewer-kept old.lasting new.lasting few)
