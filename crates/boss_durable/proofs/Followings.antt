-- What a call owes that follows another history: for an event that was done again, and for a state that was taken on.
use Rattle.std.proofs.Common.{◌≡◌, true, false, ℕ, ◌+◌, ◌≤◌, List, [], ◌∷◌, ◌++◌, length, Some, None, sym, ap, ◌∙◌, subst, arith}
use Rattle.std.specs.Prelude.{unwrap_or}
use Rattle.boss_disk.specs.declared.disk.Disk as disk
use Rattle.boss_disk_pair.specs.declared.two_disks.TwoDisks.{TwoDisks}
use Rattle.boss_disk_pair.specs.Rests as pair
use Rattle.boss_disk_pair.specs.Rests.{counted}
use Rattle.boss_disk_pair.proofs.Words as words
use Rattle.boss_engine.specs.Running.{Running}
use Rattle.boss_model.specs.Acts.{replay}
use Rattle.boss_model.specs.declared.event.Event.{Event}
use Rattle.boss_model.specs.declared.state.Actuator.{Actuator}
use Rattle.boss_model.specs.Limits.{last_number}
use Rattle.boss_model.specs.State.{Persistent}
use Rattle.boss_durable.specs.declared.durable.Durable.{Durable}
use Rattle.boss_durable.specs.declared.followed.Followed.{Followed}
use Rattle.boss_durable.specs.declared.followed.Followed.TheVariants.{Done, NotEffective, NotSound, Stopped, DiskFault, NoMemory}
use Rattle.boss_durable.specs.Followed.{Follows, HasFollowed, lasts_after, may_last, was_stopped}
use Rattle.boss_durable.specs.Redone.{after, opened_at}
use Rattle.boss_durable.specs.Words.{lasting, keeps, leaves, passes}
use Rattle.boss_durable.proofs.Doing.{gained_there, keeps_leaves, keeps_passes}

module _ {D : Type 0} {g : disk.Ghosts D} where
  -- ---- images

  pub passes_further : (old new : Durable D g) (d : Persistent) → passes old new (lasting old) (lasting old) → passes old new (lasting old) d
  unfolding passes
  passes_further old new d run = words.passes_wider old.disks new.disks old.engine.plant (lasting old) d run

  pub passed_left : (old new : Durable D g) (a b : Persistent) → new.engine.plant ≡ old.engine.plant → passes old new a b → leaves new a b
  unfolding passes leaves
  passed_left old new a b same run =
      subst (λ (plant : List Actuator). pair.leaves new.disks plant a b) (sym same) (words.passes_leaves old.disks new.disks old.engine.plant a b run)

  -- no disk was called
  pub still_passes : (old new : Durable D g) (d : Persistent) → new.disks ≡ old.disks → (before : List Event) → keeps old before → passes old new (lasting old) d
  unfolding passes
  still_passes old new d disks before held =
      subst (λ (x : TwoDisks D g). pair.passes old.disks x old.engine.plant (lasting old) d) (sym disks) (passes_further old old d (keeps_passes old before held))

  pub still_leaves : (old new : Durable D g) → new.engine.plant ≡ old.engine.plant → new.disks ≡ old.disks → (before : List Event) → keeps old before →
      leaves new (lasting old) (lasting old)
  still_leaves old new same disks before held = passed_left old new (lasting old) (lasting old) same (still_passes old new (lasting old) disks before held)

  -- ---- an event

  pub followed_gains : (old new : Durable D g) (e : Event) → new.engine.plant ≡ old.engine.plant →
      ((count : ℕ) → pair.rests old.disks old.engine.plant (lasting old) count → pair.rests new.disks old.engine.plant (lasting new) (count + 1)) →
      (before : List Event) → keeps old before → keeps new (before ++ e ∷ [])
  followed_gains old new e same rests = gained_there old new (e ∷ []) same rests

  pub followed_passes : (old new : Durable D g) (e : Event) (to : Persistent) → replay old.engine.plant e (lasting old) ≡ Some to →
      ((count : ℕ) → pair.rests old.disks old.engine.plant (lasting old) count → pair.passes old.disks new.disks old.engine.plant (lasting old) to) →
      (before : List Event) → keeps old before → passes old new (lasting old) (after old.engine.plant e (lasting old))
  unfolding keeps passes
  followed_passes old new e to leads runs before held =
      subst (λ (d : Persistent). pair.passes old.disks new.disks old.engine.plant (lasting old) d) (sym (ap (λ found. unwrap_or found (lasting old)) leads))
      (runs (length before) held)

  pub followed_leaves : (old new : Durable D g) (e : Event) → HasFollowed old new e → (before : List Event) → keeps old before →
      leaves new (after old.engine.plant e (lasting old)) (after old.engine.plant e (lasting old))
  followed_leaves old new e followed before held =
      let is : lasting new ≡ after old.engine.plant e (lasting old) = sym (ap (λ found. unwrap_or found (lasting old)) followed.leads) in
      subst (λ (d : Persistent). leaves new d d) is (keeps_leaves new (before ++ e ∷ []) (followed.gained before held))

  -- behind a beginning that left all as it was
  pub begun_follows : (old mid new : Durable D g) (e : Event) (result : Followed) → was_stopped result ≡ false → mid.engine ≡ old.engine →
      ((before : List Event) → keeps old before → keeps mid before) → Follows mid new e result → Follows old new e result
  begun_follows old mid new e Done tried same still is = record {
    leads = subst (λ (r : Running). replay r.plant e r.state.persistent ≡ Some (lasting new)) same is.leads;
    opens = is.opens ∙ ap (λ (r : Running). opened_at r.plant (lasting new)) same;
    gained = λ before held. is.gained before (still before held);
  }
  begun_follows old mid new e NotEffective tried same still is = (
    subst (λ (r : Running). replay r.plant e r.state.persistent ≡ None) same is.0,
    record { engine = is.1.engine ∙ same; stays = λ before held. is.1.stays before (still before held) },
  )
  begun_follows old mid new e NotSound tried same still is = is
  begun_follows old mid new e Stopped tried same still is = absurd (let clash : true ≡ false = tried in cc)
  begun_follows old mid new e DiskFault tried same still is = tt
  begun_follows old mid new e NoMemory tried same still is = record { engine = is.engine ∙ same; stays = λ before held. is.stays before (still before held) }

  pub begun_passes : (old mid new : Durable D g) (e : Event) (result : Followed) → mid.engine ≡ old.engine →
      ((before : List Event) → keeps old before → keeps mid before) → ((before : List Event) → keeps old before → passes old mid (lasting old) (lasting old)) →
      ((before : List Event) → keeps mid before → passes mid new (lasting mid) (may_last result (lasting mid) (after mid.engine.plant e (lasting mid)))) →
      (before : List Event) → keeps old before → passes old new (lasting old) (may_last result (lasting old) (after old.engine.plant e (lasting old)))
  unfolding passes
  begun_passes old mid new e result same still first then before held =
      words.passes_before old.disks mid.disks new.disks old.engine.plant (lasting old) (may_last result (lasting old) (after old.engine.plant e (lasting old)))
      (first before held)
      (subst (λ (r : Running). pair.passes mid.disks new.disks r.plant r.state.persistent (may_last result r.state.persistent (after r.plant e r.state.persistent))) same
      (then before (still before held)))

  pub begun_leaves : (old mid new : Durable D g) (e : Event) (result : Followed) → mid.engine ≡ old.engine →
      ((before : List Event) → keeps old before → keeps mid before) →
      ((before : List Event) → keeps mid before → leaves new (lasts_after result (lasting mid) (after mid.engine.plant e (lasting mid)))
      (may_last result (lasting mid) (after mid.engine.plant e (lasting mid)))) →
      (before : List Event) → keeps old before → leaves new (lasts_after result (lasting old) (after old.engine.plant e (lasting old)))
      (may_last result (lasting old) (after old.engine.plant e (lasting old)))
  begun_leaves old mid new e result same still then before held =
      subst (λ (r : Running). leaves new (lasts_after result r.state.persistent (after r.plant e r.state.persistent))
      (may_last result r.state.persistent (after r.plant e r.state.persistent))) same (then before (still before held))

  -- ---- a state

  pub taken_gains : (old new : Durable D g) (e : Persistent) (events : ℕ) → new.engine ≡ opened_at old.engine.plant e →
      ((count many : ℕ) → pair.rests old.disks old.engine.plant (lasting old) count → counted many ≡ events → pair.rests new.disks old.engine.plant e many) →
      (before any : List Event) → keeps old before → counted (length any) ≡ events → keeps new any
  unfolding keeps
  taken_gains old new e events is rests before any held counts =
      subst (λ (r : Running). pair.rests new.disks r.plant r.state.persistent (length any)) (sym is) (rests (length before) (length any) held counts)

  pub taken_passes : (old new : Durable D g) (e : Persistent) →
      ((count : ℕ) → pair.rests old.disks old.engine.plant (lasting old) count → pair.passes old.disks new.disks old.engine.plant (lasting old) e) →
      (before : List Event) → keeps old before → passes old new (lasting old) e
  unfolding keeps passes
  taken_passes old new e runs before held = runs (length before) held

  pub taken_leaves : (old new : Durable D g) (e : Persistent) (events : ℕ) → new.engine ≡ opened_at old.engine.plant e → events ≤ last_number →
      ((count many : ℕ) → pair.rests old.disks old.engine.plant (lasting old) count → counted many ≡ events → pair.rests new.disks old.engine.plant e many) →
      (before : List Event) → keeps old before → leaves new e e
  unfolding keeps leaves
  taken_leaves old new e events is few rests before held =
      subst (λ (r : Running). pair.leaves new.disks r.plant e e) (sym is)
      (words.rests_leaves new.disks old.engine.plant e events (rests (length before) events held (omega (arith, few))))
