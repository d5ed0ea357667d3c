-- What a keeper's call is, seen as that of the keeper that rings.
use Rattle.std.proofs.Common.{◌≡◌, ℕ, zero, suc, ◌+◌, ◌<◌, ◌≤◌, nat_lt, Bool, true, false, not, ◌&&◌, ◌||◌, List, [], ◌∷◌, ◌++◌, length, Option, Some, None, refl, sym, ap, ◌∙◌, subst, append_assoc, append-nil, arith}
use Rattle.std.proofs.lemmas.Bool.Decides.{nat_tests}
use Rattle.std.specs.List.{flat_map, list_any, AllByRecursion}
use Rattle.boss_model.specs.declared.answer.Answer.{Answer}
use Rattle.boss_model.specs.declared.command.Command.{Command}
use Rattle.boss_model.specs.declared.event.Event.{Event}
use Rattle.boss_model.specs.declared.state.Actuator.{Actuator}
use Rattle.boss_model.specs.State.{Persistent, State}
use Rattle.def_history.specs.declared.entry.Entry.{Entry}
use Rattle.def_history.specs.declared.outcome.Outcome.{Outcome}
use Rattle.def_history.specs.declared.outcome.Outcome.TheVariants.{Done, Stopped, DiskFault, NoMemory, Denied}
use Rattle.def_history.specs.History.{run}
use Rattle.def_history.specs.Made.{done_by, made_by, made_by_all}
use Rattle.boss_outside.specs.Bells.{driver_bell}
use Rattle.boss_shared.specs.declared.asked.Asked.{Asked}
use Rattle.boss_shared.specs.Calls.{has_failed_rest, RestFits}
use Rattle.boss_shared.specs.Keeping.{IsHeld, Keeps}
use Rattle.boss_shared.specs.Together.{made_of, made_together, AreReplied}
use Rattle.boss_shared.specs.Walking.{WalksBy}
use Rattle.boss_ringing.specs.Rising.{bell_if, has_want, is_any_done, is_done, rises, risen, IsAlarm, IsNameBell, Rang, RangNames, Rings}
use Rattle.boss_ringing.specs.declared.ringing.Ringing.{Ringing}

no-rise : (b : Bool) → not b && b ≡ false
no-rise true = refl
no-rise false = refl

now-and-not-before : (before now : Bool) → before ≡ false → now ≡ true → (not before && now) ≡ true
now-and-not-before false true was is = refl
now-and-not-before false false was is = absurd cc
now-and-not-before true now was is = absurd cc

-- where nothing changes no driver rises
pub none-risen : (plant : List Actuator) (s : State) (drivers : ℕ) → risen plant s s drivers ≡ []
none-risen plant s zero = refl
none-risen plant s (suc driver) =
    let h = none-risen plant s driver in
    let e : rises plant s s driver ≡ false = no-rise (has_want plant s driver) in
    rw h (rw e refl)

pub risen-more : (plant : List Actuator) (before after : State) (driver : ℕ) → risen plant before after (driver + 1) ≡ risen plant before after driver ++ bell_if (rises plant before after driver) driver
risen-more plant before after driver = let e : driver + 1 ≡ suc driver = omega arith in ap (risen plant before after) e

none-in : {X : Type 0} (xs ys : List X) → xs ++ ys ≡ [] → (xs ≡ []) × (ys ≡ [])
none-in [] ys e = (refl, e)
none-in (x ∷ xs) ys e = absurd (cc)

module _ {B : Type 0} (tells : Type 0) (whole : B → Type 0) (rung : B → List ℕ) where
  pub rang-none : (a : B) → Rang tells whole rung [] a a
  rang-none a = record { told = λ _ all. (all, sym (append-nil (rung a))); still = λ _. refl }

  pub rang-then : (xs ys : List ℕ) (a b c : B) → Rang tells whole rung xs a b → Rang tells whole rung ys b c → Rang tells whole rung (xs ++ ys) a c
  rang-then xs ys a b c first then = record {
    told = λ t all.
        let later = then.told t all in
        let earlier = first.told t later.0 in
        (earlier.0, later.1 ∙ (ap (λ (zs : List ℕ). zs ++ ys) earlier.1 ∙ append_assoc (rung a) xs ys));
    still = λ e. let none = none-in xs ys e in then.still none.1 ∙ first.still none.0;
  }

  -- the bell of a driver that has a want now, and had none
  pub rang-one : (plant : List Actuator) (before after : State) (driver bell : ℕ) (a b : B) → has_want plant before driver ≡ false → has_want plant after driver ≡ true → bell ≡ driver_bell driver →
      (tells → whole b → whole a × (rung b ≡ rung a ++ bell ∷ [])) → Rang tells whole rung (bell_if (rises plant before after driver) driver) a b
  rang-one plant before after driver bell a b was is same one =
      subst (λ (rises : Bool). Rang tells whole rung (bell_if rises driver) a b) (sym (now-and-not-before (has_want plant before driver) (has_want plant after driver) was is))
      (record {
        told = λ t all. let it = one t all in (it.0, it.1 ∙ ap (λ (k : ℕ). rung a ++ k ∷ []) same);
        still = λ e. absurd cc;
      })

  pub names-none : (a : B) → RangNames tells whole rung a a
  names-none a t all = (all, [], tt, sym (append-nil (rung a)))

  each-and : (xs : List ℕ) (bell : ℕ) → AllByRecursion IsNameBell xs → IsNameBell bell → AllByRecursion IsNameBell (xs ++ bell ∷ [])
  each-and [] bell all is = (is, tt)
  each-and (x ∷ xs) bell all is = (all.0, each-and xs bell all.1 is)

  -- one name's bell more
  pub names-more : (bell : ℕ) (a b c : B) → IsNameBell bell → RangNames tells whole rung a b →
      (tells → whole c → whole b × (rung c ≡ rung b ++ bell ∷ [])) → RangNames tells whole rung a c
  names-more bell a b c is first one t all =
      let later = one t all in
      let earlier = first t later.0 in (
        earlier.0,
        earlier.1 ++ bell ∷ [],
        each-and earlier.1 bell earlier.2 is,
        later.1 ∙ ap (λ (xs : List ℕ). xs ++ bell ∷ []) earlier.3 ∙ append_assoc (rung a) earlier.1 (bell ∷ []),
      )

  -- then the alarm
  pub names-and : (a b c : B) → RangNames tells whole rung a b → (tells → (whole c → whole b) × (rung c ≡ rung b)) → RangNames tells whole rung a c
  names-and a b c first then t all =
      let earlier = first t ((then t).0 all) in
      (earlier.0, earlier.1, earlier.2, (then t).1 ∙ earlier.3)

  -- bells of drivers, and then of names
  pub rings-all : (alarm : B → ℕ) (bells : List ℕ) (done : Bool) (after : State) (a b c : B) → Rang tells whole rung bells a b → RangNames tells whole rung b c →
      (tells → done ≡ true → IsAlarm after (alarm c)) → Rings tells whole rung alarm bells done after a c
  rings-all alarm bells done after a b c first then alarmed = record {
    told = λ t all.
        let later = then t all in
        let earlier = first.told t later.0 in (
          earlier.0,
          later.1,
          later.2,
          later.3 ∙ (ap (λ (xs : List ℕ). xs ++ later.1) earlier.1 ∙ append_assoc (rung a) bells later.1),
        );
    alarmed = alarmed;
  }

-- ---- where nothing was made nothing was done

pub undone-one : (session : ℕ) (command : Command) (moment : ℕ) (outcome : Outcome) → made_by session command moment outcome ≡ [] → is_done outcome ≡ false
undone-one session command moment (Done answer) none = absurd cc
undone-one session command moment Stopped none = refl
undone-one session command moment DiskFault none = absurd cc
undone-one session command moment NoMemory none = refl
undone-one session command moment (Denied index rule) none = refl

no-answer : (session : ℕ) (calls : List (Command × ℕ)) (answers : List Answer) → done_by session calls answers ≡ [] → length answers ≤ length calls → length answers ≡ 0
no-answer session calls [] none few = refl
no-answer session [] (answer ∷ answers) none few = absurd (omega (arith, few))
no-answer session (call ∷ calls) (answer ∷ answers) none few = absurd cc

at-most : (calls : List (Command × ℕ)) (done : ℕ) (rest : Option Outcome) → RestFits calls done rest → done ≤ length calls
at-most calls done None fits = omega (arith, fits)
at-most calls done (Some (Done answer)) fits = absurd fits
at-most calls done (Some Stopped) fits = omega (arith, fits)
at-most calls done (Some DiskFault) fits = omega (arith, fits)
at-most calls done (Some NoMemory) fits = let less = fits.0 in omega (arith, less)
at-most calls done (Some (Denied index rule)) fits = omega (arith, fits)

pub undone-all : (others : List _) (session : ℕ) (calls : List (Command × ℕ)) (answers : List Answer) (done : ℕ) (rest : Option Outcome) → length answers ≡ done → RestFits calls done rest →
    made_by_all others session calls answers rest ≡ [] → nat_lt 0 done ≡ false
undone-all others session calls answers done rest each fits none =
    let few = at-most calls done rest fits in
    let zero = no-answer session calls answers (none-in (done_by session calls answers) _ none).0 (omega (arith, few, each)) in
    grind (arith, nat_tests)

pub undone-together : (was : Bool) (group : List Asked) → AreReplied was group → made_together group ≡ [] → is_any_done group ≡ false
undone-together was [] told none = refl
undone-together was (asked ∷ group) told none =
    let parts = none-in (made_of asked group) (made_together group) none in
    let first = undone-all _ asked.session asked.commands asked.answers.items asked.outcomes.done asked.outcomes.rest told.0.done told.0.rest parts.0 in
    let others = undone-together (has_failed_rest asked.outcomes.rest) group told.1 parts.1 in
    rw first others

-- ---- one call

module _ {K B : Type 0} (plant : K → List Actuator) (state : K → State) (stopped : K → Bool) (faults : K → ℕ)
    (leaves : K → Persistent → Persistent → Type 0) (passes : K → K → Persistent → Persistent → Type 0) (keeps : K → List Event → Type 0) where
  abbrev passing : Ringing K B → Ringing K B → Persistent → Persistent → Type 0
  passing r t = passes r.keeper t.keeper

  walks-by : (p : List Actuator) (s : State) (old new : Ringing K B) (parts : List (List Entry)) → (parts ≡ [] → new.keeper ≡ old.keeper → new ≡ old)
      → WalksBy p passes s old.keeper parts new.keeper → WalksBy p passing s old parts new
  walks-by p s old new [] same by = same refl by
  walks-by p s old new (made ∷ others) same by =
      let between : Ringing K B = record new { keeper = by.0 } in
      (between, by.1, walks-by p (run p made s) between new others (λ _ is. (λ i. record new { keeper = is i })) by.2)

  lifted : (old new : Ringing K B) (made : List Entry) → (made ≡ [] → new.keeper ≡ old.keeper → new ≡ old) → Keeps plant state stopped faults leaves passes keeps old.keeper new.keeper made
      → Keeps (λ (r : Ringing K B). plant r.keeper) (λ r. state r.keeper) (λ r. stopped r.keeper) (λ r. faults r.keeper) (λ r. leaves r.keeper) passing (λ r. keeps r.keeper) old new made
  lifted old new made same k = record {
    legal = k.legal;
    same_plant = k.same_plant;
    marked = k.marked;
    none = k.none;
    still = λ was. same (k.none was) (k.still was);
    state_is = k.state_is;
    rose = k.rose;
    stood = k.stood;
    images = k.images;
    images_stay = k.images_stay;
    through = λ fine before known.
        let w = k.through fine before known in
        record {
          parts = w.parts;
          joined = w.joined;
          by = walks-by (plant old.keeper) (state old.keeper) old new w.parts (λ none is. same (w.joined ∙ ap (flat_map (λ (part : List Entry). part)) none) is) w.by;
        };
    gained = k.gained;
  }

  -- a call of the keeper, with what was rung behind it
  module _ (tells : Type 0) (whole : B → Type 0) (rung : B → List ℕ) (drivers : ℕ) (old mid new : Ringing K B) (after : K) (made : List Entry) (done : Bool)
      (kept : Keeps plant state stopped faults leaves passes keeps old.keeper after made)
      (mid_is : mid.keeper ≡ after) (mid_drivers : mid.drivers ≡ old.drivers) (new_is : new.keeper ≡ mid.keeper) (new_drivers : new.drivers ≡ mid.drivers)
      (rang : Rang tells whole rung (risen (plant old.keeper) (state old.keeper) (state after) drivers) old.ringer mid.ringer)
      (still : done ≡ false → new.ringer ≡ mid.ringer) (undone : made ≡ [] → done ≡ false) where
    same-call : made ≡ [] → new.keeper ≡ old.keeper → new ≡ old
    same-call none is =
        let from : after ≡ old.keeper = sym (new_is ∙ mid_is) ∙ is in
        let silent : risen (plant old.keeper) (state old.keeper) (state after) drivers ≡ [] =
        subst (λ (k : K). risen (plant old.keeper) (state old.keeper) (state k) drivers ≡ []) (sym from) (none-risen (plant old.keeper) (state old.keeper) drivers) in
        let ringer : new.ringer ≡ old.ringer = still (undone none) ∙ rang.still silent in
        let served : new.drivers ≡ old.drivers = new_drivers ∙ mid_drivers in
        λ i. record { keeper = is i; ringer = ringer i; drivers = served i }

    pub called : Keeps (λ (r : Ringing K B). plant r.keeper) (λ r. state r.keeper) (λ r. stopped r.keeper) (λ r. faults r.keeper) (λ r. leaves r.keeper) passing (λ r. keeps r.keeper) old new made
    called = lifted old new made same-call (subst (λ (k : K). Keeps plant state stopped faults leaves passes keeps old.keeper k made) (sym (new_is ∙ mid_is)) kept)

  walks-back : (p : List Actuator) (s : State) (old new : Ringing K B) (parts : List (List Entry)) → WalksBy p passing s old parts new → WalksBy p passes s old.keeper parts new.keeper
  walks-back p s old new [] by = ap (λ (r : Ringing K B). r.keeper) by
  walks-back p s old new (made ∷ others) by = (by.0.keeper, by.1, walks-back p (run p made s) by.0 new others by.2)

  pub held-back : (start now : Ringing K B) (log : List Entry)
      → IsHeld (λ (r : Ringing K B). plant r.keeper) (λ r. state r.keeper) (λ r. stopped r.keeper) (λ r. faults r.keeper) (λ r. leaves r.keeper) passing (λ r. keeps r.keeper) start now log
      → IsHeld plant state stopped faults leaves passes keeps start.keeper now.keeper log
  held-back start now log h = record {
    sound = h.sound;
    known = h.known;
    legal = h.legal;
    same_plant = h.same_plant;
    marked = h.marked;
    state_is = h.state_is;
    rose = h.rose;
    stood = h.stood;
    images = h.images;
    through = record { parts = h.through.parts; joined = h.through.joined; by = walks-back (plant start.keeper) (state start.keeper) start now h.through.parts h.through.by };
    gained = h.gained;
  }
