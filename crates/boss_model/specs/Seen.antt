-- Source: own.
-- What plain lists that outlast a stop stand for.
use Rattle.std.specs.Prelude.{map}
use Rattle.std.specs.Option.{option_map}
use Rattle.boss_model.specs.declared.kept.Kept.{Kept}
use Rattle.boss_model.specs.declared.kept.KeptPart.{KeptPart}
use Rattle.boss_model.specs.declared.kept.KeptProcess.{KeptProcess}
use Rattle.boss_model.specs.declared.kept.KeptTxn.{KeptTxn}
use Rattle.boss_model.specs.Records.{Part, Transaction}
use Rattle.boss_model.specs.State.{Process, Persistent}

abbrev pub seen_part : KeptPart → Part
seen_part part = record { point = part.point; priority = part.priority; end = option_map (λ end. record { cause = end.0; at = end.1 }) part.end }

abbrev pub seen_txn : KeptTxn → Transaction
seen_txn kept = record { txn = kept.txn; owner = kept.owner; policy = kept.policy; parts = map seen_part kept.parts }

abbrev pub seen_process : KeptProcess → Process
seen_process kept = record { name = kept.name; count = kept.count; kept = kept.notices; reply = kept.reply }

abbrev pub seen : Kept → Persistent
seen kept = record {
  now = kept.now;
  next = kept.next;
  leases = kept.leases;
  pending = kept.pending;
  txns = map seen_txn kept.txns;
  done = kept.done;
  processes = map seen_process kept.processes;
}
