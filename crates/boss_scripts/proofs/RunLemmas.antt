-- Parts of a script one after another, and the calls of devices.
use Rattle.std.proofs.Common.{◌≡◌, ℕ, zero, suc, ◌+◌, ◌<◌, ◌==◌, Bool, true, false, ◌||◌, List, [], ◌∷◌, ◌++◌, Option, length, map, set, get_or, refl, ap, ap₂, sym, ◌∙◌, arith, append_assoc, append-nil, zero-add, subst}
use Rattle.std.specs.List.{filter, enumerate_from, AllByRecursion}
use Rattle.std.proofs.lemmas.List.Elements.{filter-append}
use Rattle.std.proofs.lemmas.Bool.Decides.{nat_tests, Decides-eqb}
use Rattle.boss_model.specs.declared.event.Event.{Event}
use Rattle.boss_model.specs.declared.state.Actuator.{Actuator}
use Rattle.boss_model.specs.DeviceCall.{DeviceCall}
use Rattle.boss_model.specs.Catalogue.{driver_of}
use Rattle.def_wire.specs.Script.{Run}
use Rattle.def_history.specs.declared.entry.Entry.{Entry}
use Rattle.def_history.specs.declared.entry.Entry.TheVariants as entry
use Rattle.def_history.specs.History.{events, is_broken, run}
use Rattle.def_history.proofs.Going.{broken_append, events_append, run_append}
use Rattle.boss_outside.specs.Streams.{TakesFront}
use Rattle.boss_scripts.specs.Outside.{Answered, Trace}
use Rattle.boss_scripts.specs.Runs.{after, at, Broke, Covers, dealt, Did, gained, IsFrontOf, IsLeft, Leads, left_before, one_step_more, stop, Under}
use Rattle.boss_scripts.proofs.Answering.{answered-nothing, answered-then}
use Rattle.boss_scripts.proofs.Fronts.{covers-trans, front-trans, front-under, GoesOn}

-- ---- entries one after another

pub left-append : (first second : List Entry) (left : Option ℕ) → left_before (first ++ second) left ≡ left_before first (left_before second left)
left-append [] second left = refl
left-append (entry.Did session command moment answer ∷ first) second left = ap one_step_more (left-append first second left)
left-append (entry.Broke session commands others ∷ first) second left = left-append first second left

or-apart : (a b c : Bool) → ((a || b) || c) ≡ (b || (a || c))
or-apart true true c = refl
or-apart true false c = refl
or-apart false true c = refl
or-apart false false c = refl

module _ (plant : List Actuator) (first second : List Entry) (s : Under) where
  pub after-append : after plant (first ++ second) s ≡ after plant second (after plant first s)
  after-append =
      let stopped : (is_broken (first ++ second) || s.stopped) ≡ (is_broken second || (is_broken first || s.stopped)) =
      ap (λ b. b || s.stopped) (broken_append first second) ∙ or-apart (is_broken first) (is_broken second) s.stopped in
      λ i. record { state = run_append plant first second s.state i; stopped = stopped i }

  -- where no step was made once one was not made, the steps that are left behind the first are those of the second
  pub left-between : (left : Option ℕ) → ((after plant first s).stopped ≡ true → second ≡ []) → IsLeft (after plant (first ++ second) s) left → IsLeft (after plant first s) (left_before second left)
  left-between left still ends on =
      let nil : second ≡ [] = still on in
      ap (λ es. left_before es left) nil
      ∙ ends (ap (λ u. u.stopped) after-append ∙ ap (λ es. is_broken es || (after plant first s).stopped) nil ∙ on)

pub leads-then : (G H K : Run → Run) (plant : List Actuator) (s : Under) (first second : List Entry) (told told' : List ℕ) (calls calls' : List DeviceCall) (results results' : List Bool) →
    ((after plant first s).stopped ≡ true → second ≡ []) → Leads G H plant s first told calls results → Leads H K plant (after plant first s) second told' calls' results' →
    Leads G K plant s (first ++ second) (told ++ told') (calls ++ calls') (results ++ results')
leads-then G H K plant s first second told told' calls calls' results results' still one two more text earlier before left ends =
    let mid = after plant first s in
    let end = after plant second mid in
    ap₂ (λ rs n. G (at s text earlier before rs n)) (append_assoc results results' more) (left-append first second left)
    ∙ one (results' ++ more) text earlier before (left_before second left) (left-between plant first second s left still ends)
    ∙ two more (text ++ told) (earlier ++ calls) (before ++ events plant first s.state) left (λ on. ends (ap (λ u. u.stopped) (after-append plant first second s) ∙ on))
    ∙ ap₂ (λ t cs. K (at end t cs ((before ++ events plant first s.state) ++ events plant second mid.state) more left)) (append_assoc text told told') (append_assoc earlier calls calls')
    ∙ ap₂ (λ u es. K (at u (text ++ (told ++ told')) (earlier ++ (calls ++ calls')) es more left)) (sym (after-append plant first second s))
    (append_assoc before (events plant first s.state) (events plant second mid.state) ∙ ap (λ es. before ++ es) (sym (events_append plant first second s.state)))

-- nothing was told, called and made
pub leads-nothing : (G : Run → Run) (plant : List Actuator) (s : Under) → Leads G G plant s [] [] [] []
leads-nothing G plant s more text earlier before left ends =
    ap₂ (λ t cs. G (at s t cs before more left)) (sym (append-nil text)) (sym (append-nil earlier))
    ∙ ap (λ es. G (at s (text ++ []) (earlier ++ []) es more left)) (sym (append-nil before))

module _ (plant : List Actuator) where
  abbrev of : ℕ → DeviceCall → Bool
  of driver call = driver_of plant call.point == driver

  none-from : (place : ℕ) (lists : List (List DeviceCall)) → map (λ (device : ℕ × List DeviceCall). device.1 ++ filter (of device.0) []) (enumerate_from place lists) ≡ lists
  none-from place [] = refl
  none-from place (cs ∷ css) = ap₂ (λ x xs. x ∷ xs) (append-nil cs) (none-from (place + 1) css)

  pub dealt-none : (lists : List (List DeviceCall)) → dealt plant [] lists ≡ lists
  dealt-none lists = none-from 0 lists

  append-from : (xs ys : List DeviceCall) (place : ℕ) (lists : List (List DeviceCall)) →
      map (λ (device : ℕ × List DeviceCall). device.1 ++ filter (of device.0) (xs ++ ys)) (enumerate_from place lists)
      ≡ map (λ (device : ℕ × List DeviceCall). device.1 ++ filter (of device.0) ys) (enumerate_from place (map (λ (device : ℕ × List DeviceCall). device.1 ++ filter (of device.0) xs) (enumerate_from place lists)))
  append-from xs ys place [] = refl
  append-from xs ys place (cs ∷ css) =
      ap₂ (λ x rest. x ∷ rest) (ap (λ fs. cs ++ fs) (filter-append (of place) xs ys) ∙ sym (append_assoc cs (filter (of place) xs) (filter (of place) ys))) (append-from xs ys (place + 1) css)

  pub dealt-append : (xs ys : List DeviceCall) (lists : List (List DeviceCall)) → dealt plant (xs ++ ys) lists ≡ dealt plant ys (dealt plant xs lists)
  dealt-append xs ys lists = append-from xs ys 0 lists

  -- one call is gained by the device behind the point's driver
  above-from : (call : DeviceCall) (place : ℕ) (lists : List (List DeviceCall)) → driver_of plant call.point < place →
      map (λ (device : ℕ × List DeviceCall). device.1 ++ filter (of device.0) (call ∷ [])) (enumerate_from place lists) ≡ lists
  above-from call place [] above = refl
  above-from call place (cs ∷ css) above = grind (arith, nat_tests, append-nil cs, above-from call (place + 1) css)

  one-from : (call : DeviceCall) (place k : ℕ) (lists : List (List DeviceCall)) → driver_of plant call.point ≡ place + k → k < length lists →
      gained k call lists ≡ map (λ (device : ℕ × List DeviceCall). device.1 ++ filter (of device.0) (call ∷ [])) (enumerate_from place lists)
  one-from call place k [] is within = absurd (omega arith)
  one-from call place zero (cs ∷ css) is within =
      let here : (driver_of plant call.point == place) ≡ true = (Decides-eqb (driver_of plant call.point) place).1 (omega arith) in
      rw (here, above-from call (place + 1) css (omega arith)) refl
  one-from call place (suc k) (cs ∷ css) is within =
      let other : (driver_of plant call.point == place) ≡ false = grind (arith, nat_tests) in
      rw (other, append-nil cs) (ap (λ rest. cs ∷ rest) (one-from call (place + 1) k css (omega arith) (omega arith)))

  pub dealt-one : (driver : ℕ) (call : DeviceCall) (lists : List (List DeviceCall)) → driver_of plant call.point ≡ driver → driver < length lists → gained driver call lists ≡ dealt plant (call ∷ []) lists
  dealt-one driver call lists is within = one-from call 0 driver lists (is ∙ sym (zero-add driver)) within

-- a device of a list gains a call
pub gains : {A : Type 0} (calls : A → List DeviceCall) (whole : A → Type 0) (call : DeviceCall) (devices : List A) (driver : ℕ) (old new : A) → driver < length devices →
    old ≡ get_or devices driver old → (whole new → whole old × (calls new ≡ calls old ++ call ∷ [])) →
    AllByRecursion whole (set devices driver new) → AllByRecursion whole devices × (map calls (set devices driver new) ≡ gained driver call (map calls devices))
gains calls whole call [] driver old new within is go all = absurd (omega arith)
gains calls whole call (d ∷ ds) zero old new within is go all =
    let done = go all.0 in
    ((subst whole is done.0, all.1), ap (λ cs. cs ∷ map calls ds) (done.1 ∙ ap (λ x. calls x ++ call ∷ []) is))
gains calls whole call (d ∷ ds) (suc driver) old new within is go all =
    let rest = gains calls whole call ds driver old new (omega arith) is go all.1 in
    ((all.0, rest.0), ap (λ css. calls d ∷ css) rest.1)

-- ---- what parts did that came to their end

-- calls, and then others
pub devices-then : (plant : List Actuator) (first second : List DeviceCall) (old mid new : Trace) → (mid.whole → old.whole × (mid.calls ≡ dealt plant first old.calls)) →
    (new.whole → mid.whole × (new.calls ≡ dealt plant second mid.calls)) → new.whole → old.whole × (new.calls ≡ dealt plant (first ++ second) old.calls)
devices-then plant first second old mid new earlier later all =
    let last = later all in
    let before = earlier last.0 in
    (before.0, last.1 ∙ ap (dealt plant second) before.1 ∙ sym (dealt-append plant first second old.calls))

-- a part of a script, from one moment to another
module _ {plant : List Actuator} where
  -- what was led to and told
  unfoldable pub did-told : {G H : Run → Run} {s : Under} {entries : List Entry} (told : List ℕ) (calls : List DeviceCall) (results : List Bool) (old new : Trace) →
      Leads G H plant s entries told calls results → new.taken ≡ old.taken ++ told → Answered results old.faults new.faults → (new.whole → old.whole × (new.calls ≡ dealt plant calls old.calls)) →
      Did plant G H s entries old new
  did-told told calls results old new leads text answered devices =
      record { results = results; told = told; calls = calls; leads = leads; text = text; answered = answered; devices = devices }

  -- no device was called
  unfoldable pub did-tell : {G H : Run → Run} {s : Under} {entries : List Entry} (told : List ℕ) (old : Trace) (taken : List ℕ) →
      Leads G H plant s entries told [] [] → taken ≡ old.taken ++ told → Did plant G H s entries old (record old { taken = taken })
  did-tell told old taken leads text = did-told told [] [] old (record old { taken = taken }) leads text (answered-nothing old.faults) (λ all. (all, sym (dealt-none plant old.calls)))

  unfoldable pub did-nothing : (G : Run → Run) (s : Under) (old : Trace) → Did plant G G s [] old old
  did-nothing G s old = did-tell [] old old.taken (leads-nothing G plant s) (sym (append-nil old.taken))

  unfoldable pub did-then : {G H K : Run → Run} {s : Under} {first second : List Entry} {old mid new : Trace} → ((after plant first s).stopped ≡ true → second ≡ []) →
      Did plant G H s first old mid → Did plant H K (after plant first s) second mid new → Did plant G K s (first ++ second) old new
  did-then {G} {H} {K} {s} {first} {second} {old} {mid} {new} still one two = record {
    results = one.results ++ two.results;
    told = one.told ++ two.told;
    calls = one.calls ++ two.calls;
    leads = leads-then G H K plant s first second one.told two.told one.calls two.calls one.results two.results still one.leads two.leads;
    text = two.text ∙ ap (λ t. t ++ two.told) one.text ∙ append_assoc old.taken one.told two.told;
    answered = answered-then one.results two.results old.faults mid.faults new.faults one.answered two.answered;
    devices = devices-then plant one.calls two.calls old mid new one.devices two.devices;
  }

  -- where what H does first is F
  unfoldable pub did-under : {F : Run → Run} (H : Run → Run) {s : Under} {entries : List Entry} {old new : Trace} → Did plant F stop s entries old new → Did plant (λ run. H (F run)) H s entries old new
  did-under H did = record {
    results = did.results;
    told = did.told;
    calls = did.calls;
    leads = λ more text earlier before left ends. ap H (did.leads more text earlier before left ends);
    text = did.text;
    answered = did.answered;
    devices = did.devices;
  }

  -- where G does the same as F
  unfoldable pub did-same : (G : Run → Run) {F H : Run → Run} {s : Under} {entries : List Entry} {old new : Trace} →
      ((text : List ℕ) (earlier : List DeviceCall) (before : List Event) (results : List Bool) (left : Option ℕ) → G (at s text earlier before results left) ≡ F (at s text earlier before results left)) →
      Did plant F H s entries old new → Did plant G H s entries old new
  did-same G {F} {H} {s} {entries} {old} {new} same did = record {
    results = did.results;
    told = did.told;
    calls = did.calls;
    leads = λ more text earlier before left ends. same text earlier before (did.results ++ more) (left_before entries left) ∙ did.leads more text earlier before left ends;
    text = did.text;
    answered = did.answered;
    devices = did.devices;
  }

  -- ---- what parts did that broke off

  -- what was to be told was told in part
  pub broke-told : {G : Run → Run} (H : Run → Run) {s : Under} {entries : List Entry} (told : List ℕ) (calls : List DeviceCall) (results : List Bool) (old new : Trace) →
      Leads G H plant s entries told calls results → GoesOn H → TakesFront old.taken new.taken told →
      Answered results old.faults new.faults → (new.whole → old.whole × (new.calls ≡ dealt plant calls old.calls)) → Broke plant G s entries old new
  broke-told {G} H {s} {entries} told calls results old new leads goes takes answered devices = record {
    results = results;
    told = takes.0;
    calls = calls;
    begins = λ more text earlier before left ends.
        let there = at (after plant entries s) (text ++ told) (earlier ++ calls) (before ++ events plant entries s.state) more left in
        let here = goes there in
        subst (λ r. Covers r (text ++ takes.0) (earlier ++ calls) (before ++ events plant entries s.state)) (sym (leads more text earlier before left ends))
        (front-trans (text ++ takes.0) (text ++ told) (H there).text (front-under text takes.0 told (takes.1, takes.2)) here.0, here.1, here.2);
    text = takes.3;
    answered = answered;
    devices = devices;
  }

  -- no device was called
  pub broke-tell : {G : Run → Run} (H : Run → Run) {s : Under} {entries : List Entry} (told : List ℕ) (old : Trace) (taken : List ℕ) →
      Leads G H plant s entries told [] [] → GoesOn H → TakesFront old.taken taken told → Broke plant G s entries old (record old { taken = taken })
  broke-tell H told old taken leads goes takes =
      broke-told H told [] [] old (record old { taken = taken }) leads goes takes (answered-nothing old.faults) (λ all. (all, sym (dealt-none plant old.calls)))

  pub broke-nothing : (G : Run → Run) (s : Under) (old : Trace) → GoesOn G → Broke plant G s [] old old
  broke-nothing G s old goes = broke-tell G [] old old.taken (leads-nothing G plant s) goes ([], [], refl, sym (append-nil old.taken))

  unfoldable pub broke-then : {G H : Run → Run} {s : Under} {first second : List Entry} {old mid new : Trace} → ((after plant first s).stopped ≡ true → second ≡ []) →
      Did plant G H s first old mid → Broke plant H (after plant first s) second mid new → Broke plant G s (first ++ second) old new
  broke-then {G} {H} {s} {first} {second} {old} {mid} {new} still one two = record {
    results = one.results ++ two.results;
    told = one.told ++ two.told;
    calls = one.calls ++ two.calls;
    begins = λ more text earlier before left ends.
        let led = ap₂ (λ rs n. G (at s text earlier before rs n)) (append_assoc one.results two.results more) (left-append first second left)
        ∙ one.leads (two.results ++ more) text earlier before (left_before second left) (left-between plant first second s left still ends) in
        let there = two.begins more (text ++ one.told) (earlier ++ one.calls) (before ++ events plant first s.state) left (λ on. ends (ap (λ u. u.stopped) (after-append plant first second s) ∙ on)) in
        let made : (before ++ events plant first s.state) ++ events plant second (run plant first s.state) ≡ before ++ events plant (first ++ second) s.state =
        append_assoc before (events plant first s.state) (events plant second (run plant first s.state)) ∙ ap (λ es. before ++ es) (sym (events_append plant first second s.state)) in
        subst (λ r. Covers r (text ++ (one.told ++ two.told)) (earlier ++ (one.calls ++ two.calls)) (before ++ events plant (first ++ second) s.state)) (sym led) (
          subst (λ t. IsFrontOf t (H (at (after plant first s) (text ++ one.told) (earlier ++ one.calls) (before ++ events plant first s.state) (two.results ++ more) (left_before second left))).text)
              (append_assoc text one.told two.told) there.0,
          subst (λ cs. IsFrontOf cs (H (at (after plant first s) (text ++ one.told) (earlier ++ one.calls) (before ++ events plant first s.state) (two.results ++ more) (left_before second left))).calls)
              (append_assoc earlier one.calls two.calls) there.1,
          subst (λ es. IsFrontOf es (H (at (after plant first s) (text ++ one.told) (earlier ++ one.calls) (before ++ events plant first s.state) (two.results ++ more) (left_before second left))).events)
              made there.2,
        );
    text = two.text ∙ ap (λ t. t ++ two.told) one.text ∙ append_assoc old.taken one.told two.told;
    answered = answered-then one.results two.results old.faults mid.faults new.faults one.answered two.answered;
    devices = devices-then plant one.calls two.calls old mid new one.devices two.devices;
  }

  -- where what H does first is F
  unfoldable pub broke-under : {F : Run → Run} (H : Run → Run) {s : Under} {entries : List Entry} {old new : Trace} → GoesOn H → Broke plant F s entries old new →
      Broke plant (λ run. H (F run)) s entries old new
  broke-under {F} H {s} {entries} goes broke = record {
    results = broke.results;
    told = broke.told;
    calls = broke.calls;
    begins = λ more text earlier before left ends.
        let here = F (at s text earlier before (broke.results ++ more) (left_before entries left)) in
        covers-trans here (H here) (text ++ broke.told) (earlier ++ broke.calls) (before ++ events plant entries s.state) (goes here) (broke.begins more text earlier before left ends);
    text = broke.text;
    answered = broke.answered;
    devices = broke.devices;
  }

  -- where G does the same as F
  pub broke-same : (G : Run → Run) {F : Run → Run} {s : Under} {entries : List Entry} {old new : Trace} →
      ((text : List ℕ) (earlier : List DeviceCall) (before : List Event) (results : List Bool) (left : Option ℕ) → G (at s text earlier before results left) ≡ F (at s text earlier before results left)) →
      Broke plant F s entries old new → Broke plant G s entries old new
  broke-same G {F} {s} {entries} same broke = record {
    results = broke.results;
    told = broke.told;
    calls = broke.calls;
    begins = λ more text earlier before left ends.
        subst (λ r. Covers r (text ++ broke.told) (earlier ++ broke.calls) (before ++ events plant entries s.state)) (sym (same text earlier before (broke.results ++ more) (left_before entries left)))
        (broke.begins more text earlier before left ends);
    text = broke.text;
    answered = broke.answered;
    devices = broke.devices;
  }
