-- A pair at rest, and an engine whose points are opened.
use Rattle.std.proofs.Common.{◌≡◌, ℕ, Bool, false, List, length, refl, sym, ap, subst, ◌∙◌}
use Rattle.std.specs.Prelude.{Result, Ok, Err}
use Rattle.boss_disk.specs.declared.disk.Disk as disk
use Rattle.boss_disk.specs.Legs.{Legs, LeaveBoth, Two}
use Rattle.boss_durable.specs.declared.durable.Durable.{Durable}
use Rattle.boss_durable.specs.Words.{keeps, lasting, leaves}
use Rattle.boss_engine.specs.Running.{Running}
use Rattle.boss_pair_find.specs.declared.refusal.DurableRefusal.{DurableRefusal}
use Rattle.boss_pair_find.specs.Refusals.{PairCause}
use Rattle.boss_pair_find.specs.Two.{counts, two}
use Rattle.boss_model.specs.declared.event.Event.{Event}
use Rattle.boss_model.specs.declared.state.Actuator.{Actuator}
use Rattle.boss_model.specs.Settle.{opened}
use Rattle.boss_model.specs.Sound.{IsSound}
use Rattle.boss_model.specs.State.{Persistent, State}
use Rattle.boss_disk_pair.specs.declared.two_disks.TwoDisks.{TwoDisks}
use Rattle.boss_disk_pair.specs.Causes.{Counts, counts_of, first_disk, second_disk}
use Rattle.boss_disk_pair.specs.Images.{OpensToOne}
use Rattle.boss_disk_pair.specs.Rests as pairs
use Rattle.boss_disk_pair.specs.Rests.{counted, passes, rests}
use Rattle.boss_disk_pair.proofs.Words.{rests_leaves}
use Rattle.boss_opening.specs.Opens.{Finishing}
use Rattle.boss_opening.specs.Reading.{IsOfNoBytes}
use Rattle.boss_opening.proofs.GoingOn.{closed_counts, run_legs}
use Rattle.boss_opening.proofs.Rested.{rests_as}

module _ {D : Type 0} {g : disk.Ghosts D} where
  module _ (plant : List Actuator) (s : State) (limit : ℕ) (old new : TwoDisks D g) (same_digest : new.digest ≡ old.digest) (runs : passes old new plant s.persistent s.persistent) where
    module _ (durable : Durable D g) (engine : Running) (disks_are : durable.disks ≡ new) (engine_is : durable.engine ≡ engine) (plant_is : engine.plant ≡ plant)
        (state_is : engine.state ≡ opened plant s.persistent) (rest : rests new plant s.persistent new.events) where
      rests_there : (count : ℕ) → counted count ≡ durable.disks.events → rests durable.disks durable.engine.plant (lasting durable) count
      rests_there count same =
          subst (λ (pair : TwoDisks D g). rests pair durable.engine.plant (lasting durable) count) (sym disks_are)
          (subst (λ (r : Running). rests new r.plant r.state.persistent count) (sym engine_is)
          (subst (λ (p : List Actuator). rests new p engine.state.persistent count) (sym plant_is)
          (subst (λ (x : State). rests new plant x.persistent count) (sym state_is)
          (rests_as new plant s.persistent new.events count (same ∙ ap (λ (pair : TwoDisks D g). pair.events) disks_are) rest))))

      keeps_there : (any : List Event) → counted (length any) ≡ durable.disks.events → keeps durable any
      unfolding keeps
      keeps_there any same = rests_there (length any) same

      leaves_there : leaves durable (lasting durable) (lasting durable)
      unfolding leaves
      leaves_there =
          subst (λ (pair : TwoDisks D g). pairs.leaves pair durable.engine.plant (lasting durable) (lasting durable)) (sym disks_are)
          (subst (λ (r : Running). pairs.leaves new r.plant r.state.persistent r.state.persistent) (sym engine_is)
          (subst (λ (p : List Actuator). pairs.leaves new p engine.state.persistent engine.state.persistent) (sym plant_is)
          (subst (λ (x : State). pairs.leaves new plant x.persistent x.persistent) (sym state_is) (rests_leaves new plant s.persistent new.events rest))))

      pub finished_well : IsSound engine.plant engine.state → new.events ≡ old.events → new.stopped ≡ false → durable.log_limit ≡ limit → counts_of new ≡ counts_of old →
          Finishing plant s limit old (Ok durable)
      finished_well sound events going limit_is counts_are = record {
        refuses = tt;
        ready = record {
          keeps_any = keeps_there;
          leaves_it = leaves_there;
          plant_is = ap (λ (r : Running). r.plant) engine_is ∙ plant_is;
          sound = subst (λ (r : Running). IsSound r.plant r.state) (sym engine_is) sound;
          going = ap (λ (pair : TwoDisks D g). pair.stopped) disks_are ∙ going;
          digest_is = ap (λ (pair : TwoDisks D g). pair.digest) disks_are ∙ same_digest;
          limit_is = limit_is;
        };
        state_is = ap (λ (r : Running). r.state) engine_is ∙ state_is;
        number_is = ap (λ (pair : TwoDisks D g). pair.events) disks_are ∙ events;
        runs = λ told. subst (λ (pair : TwoDisks D g). Legs (LeaveBoth (OpensToOne plant old.digest s.persistent s.persistent))
            (two (g.story (first_disk old)) (g.story (second_disk old))) (two (g.story (first_disk pair)) (g.story (second_disk pair)))) (sym disks_are)
            (run_legs old new plant s.persistent s.persistent runs told);
        cause = ap (λ (pair : TwoDisks D g). counts_of pair) disks_are ∙ counts_are;
      }

    pub finished_ill : (back : D × D) (why : DurableRefusal) → (back.0 ≡ first_disk new) × (back.1 ≡ second_disk new) → IsOfNoBytes why → PairCause (counts_of old) (counts_of new) why →
        Finishing {D = D} {g = g} plant s limit old (Err (back, why))
    finished_ill back why is none cause = record {
      refuses = none;
      ready = tt;
      state_is = tt;
      number_is = tt;
      runs = λ told.
          subst (λ x. Legs (LeaveBoth (OpensToOne plant old.digest s.persistent s.persistent)) (two (g.story (first_disk old)) (g.story (second_disk old))) (two (g.story x) (g.story back.1))) (sym is.0)
          (subst (λ x. Legs (LeaveBoth (OpensToOne plant old.digest s.persistent s.persistent)) (two (g.story (first_disk old)) (g.story (second_disk old))) (two (g.story (first_disk new)) (g.story x)))
          (sym is.1) (run_legs old new plant s.persistent s.persistent runs told));
      cause = subst (λ (now : Counts). PairCause (counts_of old) now why) (closed_counts new back is) cause;
    }
