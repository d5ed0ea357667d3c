-- What a pass did is judged call by call.
use Rattle.std.proofs.Common.{◌≡◌, ℕ, ◌==◌, Bool, true, false, if◌then◌else◌, List, [], ◌∷◌, ◌++◌, Option, Some, None, refl, sym, ap, ◌∙◌, subst, append_assoc, append-nil}
use Rattle.std.proofs.lemmas.Bool.{eq-eqb}
use Rattle.boss_model.specs.declared.answer.Answer.{Answer}
use Rattle.boss_model.specs.declared.command.Command.{Command}
use Rattle.boss_model.specs.declared.command.Command.TheVariants as command
use Rattle.boss_model.specs.declared.command.Policy.{Policy}
use Rattle.boss_model.specs.declared.command.Setting.{Setting}
use Rattle.boss_model.specs.declared.state.Actuator.{Actuator}
use Rattle.boss_model.specs.State.{State}
use Rattle.boss_lock.specs.Places.{entries_at}
use Rattle.boss_shared.specs.Gates.{admits, all_held_by, denial_of, denied_at, denied_to, denied_writes, held_after, held_by, or_else, AllowedAll, Gate, Holding}
use Rattle.boss_shared.specs.Passes.{Batch, Turn, TurnsBy}
use Rattle.boss_shared.proofs.Turns.{deeds_append}
use Rattle.boss_gate.specs.Allowed.{held_behind, held_over, AreAllowed, Judged}
use Rattle.def_history.specs.declared.entry.Entry.{Entry}
use Rattle.def_history.specs.declared.entry.Entry.TheVariants.{Did, Broke}
use Rattle.def_history.specs.declared.outcome.Outcome.{Outcome}
use Rattle.def_history.specs.declared.outcome.Outcome.TheVariants.{Done, Stopped, DiskFault, NoMemory, Denied}
use Rattle.def_history.specs.History.{deeds}
use Rattle.def_history.specs.Made.{done_by}

over-append : (xs ys : List Entry) (held : Holding) → held_over (xs ++ ys) held ≡ held_over ys (held_over xs held)
over-append [] ys held = refl
over-append (x ∷ xs) ys held = over-append xs ys (held_behind x held)

none_first : (first second : Option (ℕ × ℕ)) → None ≡ or_else first second → first ≡ None
none_first None second is = refl
none_first (Some denial) second is = absurd cc

same_number : (n : ℕ) → (n == n) ≡ true
same_number n = eq-eqb n n refl

same_behind : {T : Type 0} (front xs ys : List T) → front ++ xs ≡ front ++ ys → xs ≡ ys
same_behind [] xs ys is = is
same_behind (x ∷ front) xs ys is = same_behind front xs ys (cc)

-- a test that denies nothing is passed
is_admitted : (test : Bool) (denial : ℕ × ℕ) → (if test then None else Some denial) ≡ None → test ≡ true
is_admitted true denial free = refl
is_admitted false denial free = absurd cc

module _ (gate : Gate) where
  allowed-append : (xs ys : List Entry) (held : Holding) → AreAllowed gate held xs → AreAllowed gate (held_over xs held) ys → AreAllowed gate held (xs ++ ys)
  allowed-append [] ys held first second = second
  allowed-append (x ∷ xs) ys held first second = (first.0, allowed-append xs ys (held_behind x held) first.1 second)

  allowed_behind : (xs ys : List Entry) (held : Holding) → AreAllowed gate held (xs ++ ys) → AreAllowed gate (held_over xs held) ys
  allowed_behind [] ys held all = all
  allowed_behind (x ∷ xs) ys held all = allowed_behind xs ys (held_behind x held) all.1

  pub judged_none : (own : List Entry) (held : Holding) → Judged gate own held own held
  judged_none own held = record { made = []; deeds_are = sym (append-nil (deeds own)); held_is = refl; allowed = tt }

  pub judged_both : (first second third : List Entry) (held held' held'' : Holding) → Judged gate first held second held' → Judged gate second held' third held'' →
      Judged gate first held third held''
  judged_both first second third held held' held'' one two = record {
    made = one.made ++ two.made;
    deeds_are = two.deeds_are ∙ ap (λ es. es ++ two.made) one.deeds_are ∙ append_assoc (deeds first) one.made two.made;
    held_is = two.held_is ∙ ap (held_over two.made) one.held_is ∙ sym (over-append one.made two.made held);
    allowed = allowed-append one.made two.made held one.allowed (subst (λ h. AreAllowed gate h two.made) one.held_is two.allowed);
  }

  pub judged_submit : (own own' before behind : List Entry) (held held' : Holding) (session : ℕ) (writes : List Setting) (policy : Policy) (seq moment : ℕ)
      (answer : Answer) (name : List ℕ) → Judged gate own held own' held' →
      deeds own' ≡ deeds own ++ (before ++ Did session (command.Submit writes policy seq) moment answer ∷ behind) →
      held_over before held ≡ Some (session, name) → denied_writes gate name writes ≡ None
  judged_submit own own' before behind held held' session writes policy seq moment answer name judged is holds =
      let rest : List Entry = Did session (command.Submit writes policy seq) moment answer ∷ behind in
      let made : judged.made ≡ before ++ rest = same_behind (deeds own) judged.made (before ++ rest) (sym judged.deeds_are ∙ is) in
      let there : AreAllowed gate (held_over before held) rest = allowed_behind before rest held (subst (AreAllowed gate held) made judged.allowed) in
      let free : denied_at gate (Some (session, name)) session (command.Submit writes policy seq) ≡ None =
      subst (λ (h : Holding). denied_at gate h session (command.Submit writes policy seq) ≡ None) holds there.0 in
      sym (ap (λ (b : Bool). if b then denied_writes gate name writes else None) (same_number session)) ∙ free

  pub judged_attach : (own own' before behind : List Entry) (held held' : Holding) (session moment : ℕ) (name : List ℕ) (answer : Answer) → Judged gate own held own' held' →
      deeds own' ≡ deeds own ++ (before ++ Did session (command.Attach name) moment answer ∷ behind) → admits gate name ≡ true
  judged_attach own own' before behind held held' session moment name answer judged is =
      let rest : List Entry = Did session (command.Attach name) moment answer ∷ behind in
      let made : judged.made ≡ before ++ rest = same_behind (deeds own) judged.made (before ++ rest) (sym judged.deeds_are ∙ is) in
      let there : AreAllowed gate (held_over before held) rest = allowed_behind before rest held (subst (AreAllowed gate held) made judged.allowed) in
      is_admitted (admits gate name) (0, 0) there.0

  module _ (gates : List Gate) (plant : List Actuator) (opening : State) (seen now : List Entry) (mine own : List ℕ) where
    -- a call that did nothing
    idle : (made : List Entry) (stopped : Bool) (held held' : Holding) (others others' : List Holding) → deeds made ≡ [] → Turn plant opening seen mine now own made stopped →
        held' ∷ others' ≡ held ∷ others → Judged gate (entries_at seen mine) held (entries_at now own) held'
    idle made stopped held held' others others' nothing t same = record {
      made = [];
      deeds_are = ap deeds t.entries ∙ deeds_append (entries_at seen mine) made ∙ ap (λ es. deeds (entries_at seen mine) ++ es) nothing;
      held_is = cc;
      allowed = tt;
    }

    pub judged_one : (session : ℕ) (asked : Command) (moment : ℕ) (outcome : Outcome) (held held' : Holding) (others others' : List Holding) →
        TurnsBy plant opening seen mine now own session asked moment outcome → denial_of outcome ≡ denied_to (gate ∷ gates) (held ∷ others) session asked →
        held' ∷ others' ≡ held_after session asked outcome (held ∷ others) → Judged gate (entries_at seen mine) held (entries_at now own) held'
    judged_one session asked moment (Done given) held held' others others' t judged after = record {
      made = Did session asked moment given ∷ [];
      deeds_are = ap deeds t.entries ∙ deeds_append (entries_at seen mine) (Did session asked moment given ∷ []);
      held_is = cc;
      allowed = (none_first (denied_at gate held session asked) (denied_to gates others session asked) judged, tt);
    }
    judged_one session asked moment Stopped held held' others others' t judged after = idle [] _ held held' others others' refl t after
    judged_one session asked moment DiskFault held held' others others' t judged after =
        idle (Broke session ((asked, moment) ∷ []) [] ∷ []) _ held held' others others' refl t after
    judged_one session asked moment NoMemory held held' others others' t judged after = idle [] _ held held' others others' refl t after
    judged_one session asked moment (Denied index rule) held held' others others' t judged after = record {
      made = [];
      deeds_are = (λ i. deeds (entries_at (t.0 i) (t.1 i))) ∙ sym (append-nil (deeds (entries_at seen mine)));
      held_is = cc;
      allowed = tt;
    }

  module _ (gates : List Gate) (session : ℕ) where
    all_held : (calls : List (Command × ℕ)) (answers : List Answer) (held held' : Holding) (others others' : List Holding) →
        AllowedAll (gate ∷ gates) session calls answers (held ∷ others) (held' ∷ others') → held' ≡ held_over (done_by session calls answers) held
    all_held [] answers held held' others others' all = cc
    all_held (call ∷ calls) [] held held' others others' all = cc
    all_held (call ∷ calls) (given ∷ answers) held held' others others' all =
        all_held calls answers (held_by session call.0 given held) held' (all_held_by session call.0 given others) others' all.1

    all_allowed : (calls : List (Command × ℕ)) (answers : List Answer) (held : Holding) (others after : List Holding) →
        AllowedAll (gate ∷ gates) session calls answers (held ∷ others) after → AreAllowed gate held (done_by session calls answers)
    all_allowed [] answers held others after all = tt
    all_allowed (call ∷ calls) [] held others after all = tt
    all_allowed (call ∷ calls) (given ∷ answers) held others after all = (
      none_first (denied_at gate held session call.0) (denied_to gates others session call.0) (sym all.0),
      all_allowed calls answers (held_by session call.0 given held) (all_held_by session call.0 given others) after all.1,
    )

    pub judged_several : (plant : List Actuator) (opening : State) (seen now : List Entry) (mine own : List ℕ) (calls : List (Command × ℕ)) (answers : List Answer)
        (rest : Option Outcome) (held held' : Holding) (others others' : List Holding) → Batch plant opening seen mine now own session calls answers rest →
        AllowedAll (gate ∷ gates) session calls answers (held ∷ others) (held' ∷ others') → Judged gate (entries_at seen mine) held (entries_at now own) held'
    judged_several plant opening seen now mine own calls answers rest held held' others others' batch all = record {
      made = done_by session calls answers;
      deeds_are = batch.deeds_are;
      held_is = all_held calls answers held held' others others' all;
      allowed = all_allowed calls answers held others (held' ∷ others') all;
    }
