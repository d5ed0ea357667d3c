-- Devices and notes of waiters that come back, worker after worker.
use Rattle.std.proofs.Common.{◌≡◌, ◌⊎◌, inl, inr, ℕ, suc, ◌+◌, ◌-◌, ◌<◌, ◌≤◌, ◌==◌, ◌||◌, not, Bool, true, false, List, [], ◌∷◌, ◌++◌, length, take, drop, refl, ap, sym, ◌∙◌, subst, arith, length-append, append_assoc}
use Rattle.std.specs.List.{AllByRecursion, insert}
use Rattle.std.specs.declared.snapshot.Snapshot.{Snapshot}
use Rattle.std.proofs.lemmas.Bool.{or_parts, cases_lt}
use Rattle.std.proofs.lemmas.List.{append-nil}
use Rattle.std.proofs.lemmas.List.Edits.{insert-append_right, length-insert}
use Rattle.boss_model.specs.DeviceCall.{DeviceCall}
use Rattle.def_history.specs.declared.entry.Entry.{Entry}
use Rattle.def_lanes.specs.Devices.{DevicesBack}
use Rattle.def_lanes.specs.Lanes.{done_in}
use Rattle.def_lanes.specs.Parts.{Terms, Agreed, Joined}
use Rattle.def_lanes.specs.Waits.{IsNoteOf, AreWaited, WaitedAt}
use Rattle.def_lanes.specs.Works.{Work, lane_of_work, owner, AreOf, calls_in}
use Rattle.def_lanes.proofs.Agreements.{agreed-both}
use Rattle.def_lanes.proofs.DeviceLemmas.{devices-next}
use Rattle.def_lanes.proofs.Owners.{strange-owners}
use Rattle.def_lanes.proofs.WaitLemmas.{waited-next, waited-at-next}
use Rattle.boss_outside_server.specs.declared.waited.Waited.{Waited}
use Rattle.boss_outside.specs.declared.actuators.Actuators as actuators
use Rattle.boss_worker.specs.declared.duty.Duty.{Duty}
use Rattle.boss_worker.specs.declared.duty.Duty.TheVariants.{Connections, Time, Devices}
use Rattle.boss_worker.specs.Ended.{is_worked, HasEnded, AreEnded}
use Rattle.boss_worker.specs.Workers.{was_at, devices_at, IsPlaced, HasCalls}
use Rattle.boss_server.specs.Accounts.{Returned}
use Rattle.boss_server.specs.Places.{put_back, FitsAmong}

-- ---- devices

module _ {A : Type 0} (calls : A → List DeviceCall) (whole : A → Type 0) where
  pub back-length : (driver : ℕ) (was now : List A) (works : List Work) → DevicesBack calls whole driver was now works → length now ≡ length was
  back-length driver [] [] works back = refl
  back-length driver [] (new ∷ news) works back = absurd back
  back-length driver (old ∷ olds) [] works back = absurd back
  back-length driver (old ∷ olds) (new ∷ news) works back = ap suc (back-length (suc driver) olds news works back.1)

  -- none was handed out yet
  back-none : (was now : List A) (xs ys : List Work) → length was ≡ 0 → DevicesBack calls whole 0 was now xs → DevicesBack calls whole 0 (was ++ []) (now ++ []) ys
  back-none [] [] xs ys none back = tt
  back-none [] (new ∷ news) xs ys none back = absurd back
  back-none (old ∷ olds) now xs ys none back = absurd (omega (arith, none))

module _ {H A : Type 0} (a : actuators.Ghosts A) (workers n : ℕ) where
  pub back-next : (duty : Duty H A) (was now : List A) (works others : List Work) → IsPlaced workers n duty → HasCalls a others duty → length was ≡ n - (workers + 1) →
      DevicesBack a.calls (λ device. a.tells × a.whole device) 0 was now works → AreOf workers 0 n works → AreOf workers n (suc n) others →
      DevicesBack a.calls (λ device. a.tells × a.whole device) 0 (was ++ was_at duty) (now ++ devices_at duty) (works ++ others)
  back-next (Connections part) was now works others placed called drivers back of_first of_next = back-none a.calls (λ device. a.tells × a.whole device) was now works (works ++ others) (omega (arith, placed, drivers)) back
  back-next Time was now works others placed called drivers back of_first of_next = back-none a.calls (λ device. a.tells × a.whole device) was now works (works ++ others) (omega (arith, placed, drivers)) back
  back-next (Devices driver device out) was now works others placed called drivers back of_first of_next =
      let place : n ≡ workers + 1 + length was = omega (arith, placed, drivers) in
      let number : driver ≡ length was = omega (arith, placed, drivers) in
      devices-next a.calls (λ device. a.tells × a.whole device) workers works others was now out.value device back
      (subst (λ m. AreOf workers 0 m works) place of_first) (subst (λ m. AreOf workers m (suc m) others) place of_next)
      (λ whole. subst (λ d. a.calls device ≡ a.calls out.value ++ calls_in d others) number (called whole.0 whole.1))

  pub drivers-next : (duty : Duty H A) (was : List A) → IsPlaced workers n duty → length was ≡ n - (workers + 1) → length (was ++ was_at duty) ≡ suc n - (workers + 1)
  drivers-next (Connections part) was placed drivers = omega (arith, placed, drivers, length-append was [])
  drivers-next Time was placed drivers = omega (arith, placed, drivers, length-append was [])
  drivers-next (Devices driver device out) was placed drivers = omega (arith, placed, drivers, length-append was (out.value ∷ []))

  -- it goes behind those that are back
  pub fits-next : (duty : Duty H A) (now others devices : List A) → IsPlaced workers n duty → length now ≡ n - (workers + 1) → devices ≡ now ++ others → FitsAmong (length devices) duty
  fits-next (Connections part) now others devices placed drivers are = tt
  fits-next Time now others devices placed drivers are = tt
  fits-next (Devices driver device out) now others devices placed drivers are = let all = ap length are ∙ length-append now others in omega (arith, placed, drivers, all)

  pub put-next : (duty : Duty H A) (now others devices : List A) → IsPlaced workers n duty → length now ≡ n - (workers + 1) → devices ≡ now ++ others →
      put_back duty devices ≡ (now ++ devices_at duty) ++ others
  put-next (Connections part) now others devices placed drivers are = are ∙ ap (λ front. front ++ others) (sym (append-nil now))
  put-next Time now others devices placed drivers are = are ∙ ap (λ front. front ++ others) (sym (append-nil now))
  put-next (Devices driver device out) now others devices placed drivers are =
      let number : driver ≡ length now = omega (arith, placed, drivers) in
      let none : driver - length now ≡ 0 = omega (arith, number) in
      ap (λ list. insert list driver device) are ∙ insert-append_right now others (length now) driver device refl (omega (arith, number))
      ∙ ap (λ k. now ++ insert others k device) none ∙ sym (append_assoc now (device ∷ []) others)

pub put-length : {H A : Type 0} (duty : Duty H A) (devices : List A) → FitsAmong (length devices) duty → length (put_back duty devices) ≡ length devices + length (was_at duty)
put-length (Connections part) devices fits = omega arith
put-length Time devices fits = omega arith
put-length (Devices driver device out) devices fits = length-insert devices driver device fits

-- ---- works

worked-append : (workers number : ℕ) (xs ys : List Work) → is_worked workers number (xs ++ ys) ≡ (is_worked workers number xs || is_worked workers number ys)
worked-append workers number [] ys = refl
worked-append workers number (x ∷ xs) ys = ap (λ b. (owner workers x == number) || b) (worked-append workers number xs ys) ∙ either (owner workers x == number) (is_worked workers number xs) (is_worked workers number ys)
  where
    either : (a b c : Bool) → (a || (b || c)) ≡ ((a || b) || c)
    either true b c = refl
    either false b c = refl

worked-front : (a b : Bool) → a ≡ true → (a || b) ≡ true
worked-front true b is = refl
worked-front false b is = absurd (let no : false ≡ true = is in cc)

worked-behind : (a b : Bool) → b ≡ true → (a || b) ≡ true
worked-behind true b is = refl
worked-behind false b is = is

ran-not : (ran : Bool) → not ran ≡ false → ran ≡ true
ran-not true is = refl
ran-not false is = absurd (let no : true ≡ false = is in cc)

worked-next : (workers n : ℕ) (works others : List Work) (unrun ran : Bool) →
    (unrun ≡ false → (number : ℕ) → workers ≤ number → number < n → is_worked workers number works ≡ true) → (ran ≡ true → workers ≤ n → is_worked workers n others ≡ true) →
    (unrun || not ran) ≡ false → (number : ℕ) → workers ≤ number → number < suc n → is_worked workers number (works ++ others) ≡ true
worked-next workers n works others unrun ran first then all number low less =
    worked-append workers number works others ∙ step (cases_lt number n)
  where
    step : (number < n) ⊎ (n ≤ number) → (is_worked workers number works || is_worked workers number others) ≡ true
    step (inl before) = worked-front (is_worked workers number works) (is_worked workers number others) (first (or_parts unrun (not ran) all).0 number low before)
    step (inr after) =
        let here : n ≡ number = omega (arith, after, less) in
        worked-behind (is_worked workers number works) (is_worked workers number others)
        (subst (λ m. is_worked workers m others ≡ true) here (then (ran-not ran (or_parts unrun (not ran) all).1) (omega (arith, here, low))))

module _ {A : Type 0} (calls : A → List DeviceCall) (whole : A → Type 0) (terms : Terms) (pausing : Type 0) where
  pub returned-first : (own : List Entry) (waits : List Waited) → Returned calls whole terms pausing 0 [] own waits waits [] [] false
  returned-first own waits = record {
    drivers = omega arith;
    back = tt;
    notes = [];
    each = refl;
    waited = tt;
    noted = λ told. sym (append-nil waits);
    kept = λ told number waited is. absurd cc;
    ended = tt;
    worked = λ all number low less. absurd (omega (arith, less));
  }

  ended-next : (n : ℕ) (works others : List Work) (own part own' : List Entry) → AreEnded terms.plant pausing own works → AreEnded terms.plant pausing part others →
      Agreed terms.plant terms.says own works → Agreed terms.plant terms.says part others → AreOf terms.workers 0 n works → AreOf terms.workers n (suc n) others → Joined own part own' →
      AreEnded terms.plant pausing own' (works ++ others)
  ended-next n works others own part own' first then agreed also of_first of_next joined =
      (agreed-both terms.plant (HasEnded pausing) own part own' works others
      (record { each = first; none = agreed.none; apart = agreed.apart }) (record { each = then; none = also.none; apart = also.apart }) joined
      (strange-owners terms.workers 0 n (suc n) works others of_first of_next)).each

module _ {H A : Type 0} (a : actuators.Ghosts A) (terms : Terms) (pausing : Type 0) where
  pub returned-next : (n : ℕ) (duty : Duty H A) (works others : List Work) (own part own' : List Entry) (waits waits' waits'' : List Waited) (was now : List A) (note : Waited) (unrun ran : Bool) →
      Returned a.calls (λ device. a.tells × a.whole device) terms pausing n works own waits waits' was now unrun →
      Agreed terms.plant terms.says own works → Agreed terms.plant terms.says part others → AreOf terms.workers 0 n works → AreOf terms.workers n (suc n) others → Joined own part own' →
      IsPlaced terms.workers n duty → HasCalls a others duty → AllByRecursion (IsNoteOf note) others → (pausing → WaitedAt terms.workers n others note) →
      (ran ≡ true → terms.workers ≤ n → is_worked terms.workers n others ≡ true) → AreEnded terms.plant pausing part others → (pausing → waits'' ≡ waits' ++ note ∷ []) →
      Returned a.calls (λ device. a.tells × a.whole device) terms pausing (suc n) (works ++ others) own' waits waits'' (was ++ was_at duty) (now ++ devices_at duty) (unrun || not ran)
  returned-next n duty works others own part own' waits waits' waits'' was now note unrun ran returned agreed also of_first of_next joined placed called paired kept then_worked then_ended noted = record {
    drivers = drivers-next a terms.workers n duty was placed returned.drivers;
    back = back-next a terms.workers n duty was now works others placed called returned.drivers returned.back of_first of_next;
    notes = returned.notes ++ note ∷ [];
    each = omega (arith, length-append returned.notes (note ∷ []), returned.each);
    waited = waited-next terms.workers returned.notes note works others returned.waited (subst (λ m. AreOf terms.workers m (suc m) others) (sym returned.each) of_next) paired;
    noted = λ told. noted told ∙ ap (λ list. list ++ note ∷ []) (returned.noted told) ∙ append_assoc waits returned.notes (note ∷ []);
    kept = λ told. waited-at-next terms.workers returned.notes note works others (returned.kept told) (subst (λ m. AreOf terms.workers 0 m works) (sym returned.each) of_first)
        (subst (λ m. AreOf terms.workers m (suc m) others) (sym returned.each) of_next) (subst (λ m. WaitedAt terms.workers m others note) (sym returned.each) (kept told));
    ended = ended-next a.calls (λ device. a.tells × a.whole device) terms pausing n works others own part own' returned.ended then_ended agreed also of_first of_next joined;
    worked = worked-next terms.workers n works others unrun ran returned.worked then_worked;
  }
