-- A pair at rest after a number of events, as its disks count them.
use Rattle.std.proofs.Common.{◌≡◌, ℕ, ◌+◌, min, List, length, refl, sym, ap, subst, ◌∙◌, arith}
use Rattle.boss_disk.specs.declared.disk.Disk as disk
use Rattle.boss_model.specs.declared.event.Event.{Event}
use Rattle.boss_model.specs.declared.state.Actuator.{Actuator}
use Rattle.boss_model.specs.Limits.{last_number}
use Rattle.boss_model.specs.State.{Persistent}
use Rattle.def_disk_pair.specs.Contents.{joined}
use Rattle.boss_disk_pair.specs.declared.two_disks.TwoDisks.{TwoDisks}
use Rattle.boss_disk_pair.specs.Rests.{Resting, counted, rests}

module _ {D : Type 0} {g : disk.Ghosts D} where
  -- any number that counts the same does
  pub rests_as : (pair : TwoDisks D g) (plant : List Actuator) (d : Persistent) (count other : ℕ) → counted other ≡ pair.events → rests pair plant d count → rests pair plant d other
  unfolding rests
  rests_as pair plant d count other same at_rest = λ told.
      let rest = at_rest told in record {
        front = rest.front;
        from = rest.from;
        before = rest.before;
        batches = rest.batches;
        course = rest.course;
        seeded = rest.seeded;
        log = rest.log;
        synced = rest.synced;
        going = rest.going;
        whole = rest.whole;
        kind = rest.kind;
        is_in_force = rest.is_in_force;
        events = rest.events;
        counts = same;
      }

pub counted_once : (n : ℕ) → counted (min n last_number) ≡ min n last_number
counted_once n = omega arith

pub counted_few : (n : ℕ) → counted (counted n) ≡ counted n
counted_few n = omega arith
