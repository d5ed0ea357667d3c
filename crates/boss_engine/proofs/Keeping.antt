-- A machine keeps its places where a command leaves its points and its room.
use Rattle.std.proofs.Common.{◌≡◌, ℕ, Bool, List, vec_capacity, sym, ◌∙◌, arith}
use Rattle.boss_model.specs.declared.state.Actuator.{Actuator}
use Rattle.boss_model.specs.State.{Process}
use Rattle.boss_persistent.specs.declared.lasting.Lasting.{Lasting}
use Rattle.boss_engine.specs.declared.machine.Machine.{Machine}
use Rattle.boss_engine.specs.Inside.{HasPlaces}
use Rattle.boss_persistent.specs.Lasting.{IsKept}

pub keeps-places : (plant : List Actuator) (m m' : Machine) → HasPlaces plant m → m'.marks.drivers ≡ m.marks.drivers → vec_capacity m'.attached ≡ vec_capacity m.attached →
    m'.lasting.holdings.points ≡ m.lasting.holdings.points → IsKept m'.lasting → vec_capacity m'.told ≡ vec_capacity m.told → HasPlaces plant m'
keeps-places plant m m' places drivers attached points kept told = record {
  small = places.small;
  drivers = drivers ∙ places.drivers;
  points = places.points ∙ sym points;
  rows = kept;
  attached = omega (arith, places.attached, attached);
  told = omega (arith, places.told, told);
}

-- the moment and the processes aside
pub kept-aside : (l : Lasting) (now : ℕ) (processes : List Process) → IsKept l → IsKept (record l { holdings = record l.holdings { now = now }; processes = processes })
kept-aside l now processes kept = record {
  stands = record { txns = kept.stands.txns; done = kept.stands.done; reverting = kept.stands.reverting };
  slots = kept.slots;
  records = kept.records;
}

-- the flags aside
pub kept-flags : (l : Lasting) (touched : List Bool) → IsKept l → IsKept (record l { holdings = record l.holdings { touched = touched } })
kept-flags l touched kept = record {
  stands = record { txns = kept.stands.txns; done = kept.stands.done; reverting = kept.stands.reverting };
  slots = kept.slots;
  records = kept.records;
}
