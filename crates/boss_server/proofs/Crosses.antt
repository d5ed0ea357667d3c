-- A worker may cross threads, as what it is made of may.
use denote.Ref.{NamedLft}
use denote.RattleType.{RattleType}
use denote.Param.Send.{IsSend, IsSync, sendable}
use Rattle.std.proofs.Crossing.{crosses}
use Rattle.boss_worker.proofs.server.Server.TheSendSync as server
use Rattle.boss_worker.specs.contracts.duty.Duty as Duty
use Rattle.boss_worker.specs.contracts.server.Server as Server
use Rattle.boss_worker.specs.contracts.worker.Worker as Worker

Duty-send : (H A : RattleType) → IsSend H → IsSend A → IsSend (Duty.the_row H A)
Duty-send H A h a = search (crosses, sendable) depth 20

Duty-field : (H A : RattleType) → IsSend H → IsSend A → IsSend (Duty.the_field H A).row
Duty-field H A h a = search (crosses, sendable) depth 20

pub Worker-send : (a : NamedLft) (G H C W A P : RattleType) → IsSync G → IsSend H → IsSend C → IsSend W → IsSend A → IsSend P → IsSend (Worker.the_row a G H C W A P)
Worker-send a G H C W A P desk host clock waiter devices pass =
    let shared : IsSync (Server.the_row a G) = server.the_sync a G desk in
    let shared_field : IsSync (Server.the_field a G).row = server.the_field_sync a G desk in
    let duty : IsSend (Duty.the_row H A) = Duty-send H A host devices in
    let duty_field : IsSend (Duty.the_field H A).row = Duty-field H A host devices in
    search (crosses, sendable) depth 20
