-- A record whose events are done again, one after another.
use Rattle.std.proofs.Common.{◌≡◌, ℕ, suc, Bool, false, ◌+◌, ◌<◌, ◌≤◌, true, List, [], ◌∷◌, ◌++◌, length, take, drop, Option, Some, None, refl, sym, ap, subst, ◌∙◌, append_assoc, length-append, length-drop, take-append-drop, arith}
use Rattle.std.specs.Prelude.{is_some, Result, Ok, Err, IfOk, OnOk}
use Rattle.std.specs.List.{AllByRecursion}
use Rattle.std.specs.Option.{option_map_or}
use Rattle.std.proofs.lemmas.List.{drop-take, take-take, take_all, flat_map_more}
use Rattle.boss_model.specs.declared.event.Event.{Event}
use Rattle.boss_model.specs.declared.state.Actuator.{Actuator}
use Rattle.boss_model.specs.Run.{replay_all}
use Rattle.boss_model.specs.Settle.{opened}
use Rattle.boss_model.specs.State.{Persistent, State}
use Rattle.def_bytes.specs.Batches.{act_number, batch_text, IsOfVersion}
use Rattle.def_bytes.specs.Events.{event}
use Rattle.def_disk_pair.specs.Contents.{IsNext}
use Rattle.def_disk_pair.proofs.Replays.{all_join, all_split, replay_join, replay_split, some-is}
use Rattle.boss_disk_pair.specs.Reads.{NoneLeads}
use Rattle.boss_opening.specs.Again.{BeginsOn, Leads, LeadsOn, NoneBegins}
use Rattle.boss_opening.proofs.Splits.{AllFit, IsLonger, batch_long, same_start}

-- what an engine's answer says of an event that it was to do again
pub done_leads : (plant : List Actuator) (found : Option Persistent) (old new : State) (done : Bool) → done ≡ true → done ≡ is_some found →
    new ≡ option_map_or (opened plant) found old → found ≡ Some new.persistent
done_leads plant None old new done on is state = absurd cc
done_leads plant (Some to) old new done on is state = ap (λ (s : State). Some s.persistent) (sym state)

pub ok_leads : {E : Type 0} (plant : List Actuator) (found : Option Persistent) (old new : State) (P : Type 0) (result : Result Bool E) →
    IfOk result (λ done. done ≡ is_some found) → OnOk result (new ≡ option_map_or (opened plant) found old) → (found ≡ Some new.persistent → P) →
    IfOk result (λ done. done ≡ true → P)
ok_leads plant found old new P (Ok done) is state gives = λ on. gives (done_leads plant found old new done on is state)
ok_leads plant found old new P (Err e) is state gives = tt

-- the front of a list, and what is behind it
take-further : (n m : ℕ) (xs : List ℕ) → take (n + m) xs ≡ take n xs ++ take m (drop n xs)
take-further n m xs =
    sym (take-append-drop n (take (n + m) xs)) ∙ ap (λ a. a ++ drop n (take (n + m) xs)) (take-take n (n + m) xs (omega arith))
    ∙ ap (λ b. take n xs ++ b) (drop-take n m xs)

module _ (plant : List Actuator) (version : ℕ) (from : Persistent) where
  -- the bytes are so many events, which lead from the one state to the other
  pub record SoFar (bytes : List ℕ) (count : ℕ) (to : Persistent) : Type 0 where
    pub batch : List Event
    pub is : bytes ≡ batch_text batch
    pub many : length batch ≡ count
    pub fit : AllFit batch
    pub known : IsOfVersion version batch
    pub leads : replay_all plant from batch ≡ Some to

  pub none_yet : SoFar [] 0 from
  none_yet = record { batch = []; is = refl; many = refl; fit = tt; known = λ _. tt; leads = refl }

  pub one_event : (bytes : List ℕ) (place count size : ℕ) (mid to : Persistent) → SoFar (take place bytes) count mid → BeginsOn plant version mid (drop place bytes) size to →
      SoFar (take (place + size) bytes) (count + 1) to
  one_event bytes place count size mid to so next = record {
    batch = so.batch ++ next.first ∷ [];
    is = take-further place size bytes ∙ ap (λ a. a ++ take size (drop place bytes)) so.is ∙ ap (λ b. batch_text so.batch ++ b) next.is
        ∙ flat_map_more event.text [] so.batch next.first;
    many = let long = length-append so.batch (next.first ∷ []) in let is = so.many in omega (arith, long, is);
    fit = all_join (λ e. event.fits e ≡ true) so.batch (next.first ∷ []) so.fit (next.next.spelled, tt);
    known = λ old. all_join (λ e. act_number e.act ≡ 0) so.batch (next.first ∷ []) (so.known old) (next.next.known old, tt);
    leads = replay_join plant from so.batch (next.first ∷ []) mid so.leads ∙ next.next.leads;
  }

  -- one to sixteen of them are a record
  pub is_record : (bytes : List ℕ) (place count : ℕ) (to : Persistent) → SoFar (take place bytes) count to → length bytes ≤ place → 1 ≤ count → count ≤ 16 →
      Leads plant version from bytes count to
  is_record bytes place count to so all some few = record {
    batch = so.batch;
    is = sym (take_all place bytes all) ∙ so.is;
    many = so.many;
    next = record {
      batch = record {
        some_event = let is = so.many in omega (arith, is);
        few = let is = so.many in omega (arith, is);
        fitting = so.fit;
      };
      of_version = so.known;
      leads = so.leads;
    };
  }

  module _ (bytes : List ℕ) (place count : ℕ) (mid : Persistent) (so : SoFar (take place bytes) count mid) (inside : place < length bytes) where
    -- a record of these bytes has these events first, and one more at least
    record Further (batch : List Event) (after : Persistent) : Type 0 where
      next : Event
      more : List Event
      is : batch ≡ so.batch ++ next ∷ more
      behind : drop place bytes ≡ event.text next ++ batch_text more
      leads : (to : Persistent) × LeadsOn plant version mid next to

    further : (batch : List Event) (after : Persistent) → bytes ≡ batch_text batch → IsNext plant version from batch after → Further batch after
    further batch after is next = by longer.more longer.is longer.rest_is longer.fit
      where
        longer : IsLonger so.batch batch (drop place bytes)
        longer = same_start so.batch batch (drop place bytes) so.fit next.batch.fitting (ap (λ a. a ++ drop place bytes) (sym so.is) ∙ take-append-drop place bytes ∙ is)

        by : (more : List Event) → batch ≡ so.batch ++ more → drop place bytes ≡ batch_text more → AllFit more → Further batch after
        by [] same rest fit = absurd (omega (arith, length-drop place bytes, ap length rest))
        by (e ∷ es) same rest fit =
            let leads : replay_all plant from (so.batch ++ e ∷ es) ≡ Some after = ap (replay_all plant from) (sym same) ∙ next.leads in
            let first = replay_split plant from so.batch (e ∷ es) after leads in
            let here : first.0 ≡ mid = some-is first.0 mid (sym first.1 ∙ so.leads) in
            let then = replay_split plant mid (e ∷ []) es after (ap (λ m. replay_all plant m (e ∷ es)) (sym here) ∙ first.2) in
            record {
              next = e;
              more = es;
              is = same;
              behind = rest;
              leads = (
                then.0,
                record {
                  spelled = fit.0;
                  known = λ old. (all_split (λ x. act_number x.act ≡ 0) so.batch (e ∷ es) (subst (AllByRecursion (λ x. act_number x.act ≡ 0)) same (next.of_version old))).1.0;
                  leads = then.1;
                },
              );
            }

    -- no record has these bytes where no event stands behind these, or sixteen are passed
    pub none_behind : NoneBegins plant version mid (drop place bytes) → NoneLeads plant version from bytes
    none_behind none batch after is next =
        let more = further batch after is next in none more.next (batch_text more.more) more.leads.0 more.behind more.leads.1

    pub too_many : count ≡ 16 → NoneLeads plant version from bytes
    too_many full batch after is next =
        let more = further batch after is next in
        let long : length batch ≡ length so.batch + suc (length more.more) = ap length more.is ∙ length-append so.batch (more.next ∷ more.more) in
        let few = next.batch.few in
        let many = so.many in
        omega (arith, long, few, many, full)

  pub no_event : (bytes : List ℕ) (place count : ℕ) (to : Persistent) → SoFar (take place bytes) count to → length bytes ≤ place → count ≡ 0 → NoneLeads plant version from bytes
  no_event bytes place count to so all none batch after is next =
      let bytes_are : bytes ≡ batch_text so.batch = sym (take_all place bytes all) ∙ so.is in
      let nothing : so.batch ≡ [] = empty so.batch (so.many ∙ none) in
      let no_bytes : bytes ≡ [] = bytes_are ∙ ap batch_text nothing in
      let long : length batch ≤ length (batch_text batch) = batch_long batch in
      let same : length bytes ≡ length (batch_text batch) = ap length is in
      let zero_long : length bytes ≡ 0 = ap length no_bytes in
      let some = next.batch.some_event in
      omega (arith, long, same, zero_long, some)
    where
      empty : (xs : List Event) → length xs ≡ 0 → xs ≡ []
      empty [] is = refl
      empty (x ∷ xs) is = absurd (omega (arith, is))

-- a record has a byte for each event at least
pub lead_long : (plant : List Actuator) (version : ℕ) (from : Persistent) (bytes : List ℕ) (count : ℕ) (to : Persistent) → Leads plant version from bytes count to → count ≤ length bytes
lead_long plant version from bytes count to leads =
    let long = batch_long leads.batch in
    let same : length bytes ≡ length (batch_text leads.batch) = ap length leads.is in
    let many = leads.many in
    omega (arith, long, same, many)
