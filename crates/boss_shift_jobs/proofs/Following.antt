-- What is said of moments taken back over one pair is said of another that follows it.
use Rattle.std.proofs.Common.{◌≡◌, inl, inr, ℕ, ◌+◌, sym}
use Rattle.boss_model.specs.Catalogue.{Catalogue, actuators}
use Rattle.boss_model.specs.State.{Persistent}
use Rattle.boss_outside.specs.Counts.{Rose}
use Rattle.boss_outside.specs.declared.sink.Sink as sink
use Rattle.def_disk_pair.specs.Pairs.{OpensCleanly}
use Rattle.boss_disk_pair.specs.Images.{OpensTo}
use Rattle.boss_pair_find.specs.Holds.{IsNewPair}
use Rattle.boss_opening.specs.Opens.{digest_of, OpenedAt}
use Rattle.boss_jobs.specs.Journals.{Pair}
use Rattle.boss_jobs.proofs.Lifting.{Follows, holds-so, looked-so, moved-carried, none-so, refused-so, same-two, stands-so}
use Rattle.law_shift.specs.Shifted.{shifted}
use Rattle.boss_shift_jobs.specs.Openings.{OpensToShift}
use Rattle.boss_shift_jobs.specs.Shifts.{ComesTo, OpensToEither, ShiftsOver}

module _ (was now was' now' : Pair) {K : Type 0} (k : sink.Ghosts K) (catalogue : Catalogue) (by : ℕ) (before after : K) (status : ℕ) where
  module _ (tells : was.tells → was'.tells) (left : was.tells → (now'.first ≡ now.first) × (now'.second ≡ now.second))
      (rose : Rose was'.faults now'.faults → Rose was.faults now.faults) (stood : now'.faults ≡ was'.faults → now.faults ≡ was.faults) (d : Persistent) (number : ℕ) where
    -- of a pair only what it holds in the end, and its count, are told
    pub comes-so : ComesTo k catalogue by d number was' now' before after status → ComesTo k catalogue by d number was now before after status
    comes-so it = elim it [
      | inl done ↦ inl (record {
        may = done.may;
        tells = done.tells;
        opens = λ told. same-two (λ a b. OpensTo (actuators catalogue) (digest_of catalogue) (shifted by d) a b) _ _ _ _ (left told) (done.opens (tells told));
        numbered = λ told few. same-two (λ a b. OpensCleanly (actuators catalogue) (digest_of catalogue) (shifted by d) (number + 1) a b) _ _ _ _ (left told) (done.numbered (tells told) few);
        faults = stood done.faults;
      })
      | inr (inl far) ↦ inr (inl (record {
        refuses = far.refuses;
        most = far.most;
        may = far.may;
        greatest = far.greatest;
        tells = far.tells;
        opens = λ told. same-two (λ a b. OpensTo (actuators catalogue) (digest_of catalogue) d a b) _ _ _ _ (left told) (far.opens (tells told));
        numbered = λ told few. same-two (λ a b. OpensCleanly (actuators catalogue) (digest_of catalogue) d number a b) _ _ _ _ (left told) (far.numbered (tells told) few);
        faults = stood far.faults;
      }))
      | inr (inr (inl broke)) ↦ inr (inr (inl (record {
        may = broke.may;
        status_is = broke.status_is;
        told = broke.told;
        opens = λ told. same-two (OpensToEither catalogue by d) _ _ _ _ (left told) (broke.opens (tells told));
        faults = rose broke.faults;
      })))
      | inr (inr (inr lacked)) ↦ inr (inr (inr (record {
        status_is = lacked.status_is;
        told = lacked.told;
        opens = λ told. same-two (λ a b. OpensTo (actuators catalogue) (digest_of catalogue) d a b) _ _ _ _ (left told) (lacked.opens (tells told));
        faults = stood lacked.faults;
      })))
    ]

  module _ (so : Follows was now was' now') where
    -- a journal that is not new was opened, as far as it came to that
    pub opened-so : (was.tells → IsNewPair was.first was.second → ⊥) → OpensToShift k catalogue by was' now' before after status → ShiftsOver k catalogue by was now before after status
    opened-so not_new it = elim it [
      | inl none ↦ inl (none-so was now was' now' so before after status none.0, λ told lasts. stands-so was now was' now' so catalogue told (none.1 (so.tells told) (so.lasts told lasts)))
      | inr (inl refused) ↦ inr (inl (refused-so was now was' now' so k catalogue before after status refused))
      | inr (inr found) ↦ inr (inr (inr (record {
        state = found.state;
        number = found.number;
        not_new = not_new;
        opened = λ told. same-two (λ a b. OpenedAt (actuators catalogue) (digest_of catalogue) a b found.state found.number) _ _ _ _ (so.began told) (found.opened (so.tells told));
        comes = comes-so so.tells so.left so.rose so.stood found.state.persistent found.number found.comes;
        images = λ told whole.
            moved-carried (actuators catalogue) (digest_of catalogue) was.first was.second was'.first was'.second (so.began told) (OpensToEither catalogue by found.state.persistent)
            was'.stories now'.stories was.stories now.stories (so.carries told whole) (found.images (so.tells told) (so.whole told whole));
        stays = λ refuses told whole.
            moved-carried (actuators catalogue) (digest_of catalogue) was.first was.second was'.first was'.second (so.began told)
            (OpensTo (actuators catalogue) (digest_of catalogue) found.state.persistent)
            was'.stories now'.stories was.stories now.stories (so.carries told whole) (found.stays refuses (so.tells told) (so.whole told whole));
      })))
    ]

    pub shifts-so : ShiftsOver k catalogue by was' now' before after status → ShiftsOver k catalogue by was now before after status
    shifts-so it = elim it [
      | inl none ↦ inl (none-so was now was' now' so before after status none.0, λ told lasts. stands-so was now was' now' so catalogue told (none.1 (so.tells told) (so.lasts told lasts)))
      | inr (inl refused) ↦ inr (inl (refused-so was now was' now' so k catalogue before after status refused))
      | inr (inr (inl fresh)) ↦ inr (inr (inl (record {
        new_pair = λ told. same-two IsNewPair _ _ _ _ (so.began told) (fresh.new_pair (so.tells told));
        tells = fresh.tells;
        holds = holds-so was now was' now' so fresh.holds;
        faults = so.stood fresh.faults;
        images = looked-so was now was' now' so fresh.images;
      })))
      | inr (inr (inr found)) ↦
          opened-so (λ told is. found.not_new (so.tells told) (same-two IsNewPair _ _ _ _ (sym (so.began told).0, sym (so.began told).1) is))
          (inr (inr (record { state = found.state; number = found.number; opened = found.opened; comes = found.comes; images = found.images; stays = found.stays })))
    ]
