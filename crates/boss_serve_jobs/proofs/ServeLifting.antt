-- What is said of a server over a journal on two disks is said of one over its two files.
use Rattle.std.proofs.Common.{Option, inl, inr, ℕ, ◌≡◌, List, subst}
use Rattle.boss_model.specs.Catalogue.{Catalogue, actuators}
use Rattle.boss_model.specs.State.{State}
use Rattle.boss_outside.specs.declared.actuators.Actuators as actuators_of
use Rattle.boss_outside.specs.declared.sink.Sink as sink
use Rattle.boss_outside.specs.declared.source.Source as source
use Rattle.boss_outside_server.specs.declared.clock.Clock as clock
use Rattle.boss_outside_server.specs.declared.host.Host as host
use Rattle.boss_outside_server.specs.declared.spawner.Spawner as spawner
use Rattle.boss_outside_server.specs.declared.waiter.Waiter as waiter
use Rattle.boss_keys.specs.declared.entry.Entry.{Entry as KeyEntry}
use Rattle.boss_shared.specs.Gates.{Gate}
use Rattle.boss_opening.specs.Opens.{digest_of, OpenedAt}
use Rattle.boss_jobs.specs.Journals.{HoldsAfter, Pair}
use Rattle.boss_serve_jobs.specs.Serving.{Outside, outside, ServedFrom, ServedJournal, ServesMemory, ServesOver}
use Rattle.boss_jobs.proofs.Lifting.{Follows, none-so, refused-so, run-carried, same-two, stands-so}

module _ {K A H In Out C W Bells P Runtime : Type 0} (k : sink.Ghosts K) (a : actuators_of.Ghosts A) (h : host.Ghosts H In Out) (i : source.Ghosts In) (o : sink.Ghosts Out)
    (c : clock.Ghosts C) (w : waiter.Ghosts W Bells) (p : spawner.Ghosts P Runtime) (catalogue : Catalogue) (gates : List Gate) (keys : Option (List KeyEntry)) (workers connections : ℕ) (old new : Outside K A H C W P) (status : ℕ) where
  -- where less is known, no more is said of the number of events
  abbrev known-so : (known less : Type 0) (s : State) (number : ℕ) → (less → known) → ServedFrom k a h i o c w p catalogue known s number gates keys workers connections old new status →
      ServedFrom k a h i o c w p catalogue less s number gates keys workers connections old new status
  known-so known less s number knows it = record {
    log = it.log;
    legal = it.legal;
    end = elim it.end [
      | inl unbound ↦ inl unbound
      | inr (inl none) ↦ inr (inl none)
      | inr (inr ran) ↦ inr (inr (record {
        flags = ran.flags;
        unstarted = ran.unstarted;
        worked = ran.worked;
        summary = λ whole. record {
          all = (ran.summary whole).all;
          all_are = λ tells. (ran.summary whole).all_are (knows tells);
          tells = (ran.summary whole).tells;
        };
        no_summary = ran.no_summary;
      }))
    ];
  }

  module _ (was now was' now' : Pair) (so : Follows was now was' now') where
    served-so : ServedJournal k a h i o c w p catalogue was' now' gates keys workers connections old new status → ServedJournal k a h i o c w p catalogue was now gates keys workers connections old new status
    served-so it = record {
      state = it.state;
      number = it.number;
      opened = λ told. same-two (λ a b. OpenedAt (actuators catalogue) (digest_of catalogue) a b it.state it.number) _ _ _ _ (so.began told) (it.opened (so.tells told));
      served = known-so was'.tells was.tells it.state it.number so.tells it.served;
      disk_fault = λ broken. so.rose (it.disk_fault broken);
      no_disk_fault = λ whole. so.stood (it.no_disk_fault whole);
      holds = λ told. same-two (HoldsAfter catalogue it.state it.number it.served.log) _ _ _ _ (so.left told) (it.holds (so.tells told));
      images = λ told whole.
          run-carried (actuators catalogue) (digest_of catalogue) was.first was.second was'.first was'.second (so.began told) it.state it.served.log
          was'.stories now'.stories was.stories now.stories (so.carries told whole) (it.images (so.tells told) (so.whole told whole));
    }

    pub serves-so : ServesOver k a h i o c w p catalogue was' now' gates keys workers connections old new status → ServesOver k a h i o c w p catalogue was now gates keys workers connections old new status
    serves-so it = elim it [
      | inl none ↦ inl (none-so was now was' now' so old new status none.0, λ told lasts. stands-so was now was' now' so catalogue told (none.1 (so.tells told) (so.lasts told lasts)))
      | inr (inl refused) ↦ inr (inl (refused-so was now was' now' so k catalogue old.sink new.sink status refused.0, refused.1))
      | inr (inr ran) ↦ inr (inr (served-so ran))
    ]

-- where nothing was told before, the sink is the one that was handed in
module _ {K A H In Out C W Bells P Runtime : Type 0} (k : sink.Ghosts K) (a : actuators_of.Ghosts A) (h : host.Ghosts H In Out) (i : source.Ghosts In) (o : sink.Ghosts Out)
    (c : clock.Ghosts C) (w : waiter.Ghosts W Bells) (p : spawner.Ghosts P Runtime) (catalogue : Catalogue) (gates : List Gate) (keys : Option (List KeyEntry)) (workers connections : ℕ)
    (devices : List A) (clock : C) (host : H) (waiter : W) (spawner : P) (first later : K) (same : later ≡ first) (new : Outside K A H C W P) (status : ℕ) where
  pub over-first-sink : (was now : Pair) → ServesOver k a h i o c w p catalogue was now gates keys workers connections (outside later devices clock host waiter spawner) new status →
      ServesOver k a h i o c w p catalogue was now gates keys workers connections (outside first devices clock host waiter spawner) new status
  over-first-sink was now it = subst (λ sink. ServesOver k a h i o c w p catalogue was now gates keys workers connections (outside sink devices clock host waiter spawner) new status) same it

  pub memory-first-sink : ServesMemory k a h i o c w p catalogue gates keys workers connections (outside later devices clock host waiter spawner) new status →
      ServesMemory k a h i o c w p catalogue gates keys workers connections (outside first devices clock host waiter spawner) new status
  memory-first-sink it = subst (λ sink. ServesMemory k a h i o c w p catalogue gates keys workers connections (outside sink devices clock host waiter spawner) new status) same it
