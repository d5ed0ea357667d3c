-- What a guarded worker does is done at moments that its clock gave.
use Rattle.std.proofs.Common.{◌≡◌, ◌⊎◌, inl, inr, ℕ, max, true, ◌||◌, List, [], ◌∷◌, ◌++◌, Option, Some, None, refl, ap, ◌∙◌, subst, arith, append_assoc}
use Rattle.std.proofs.lemmas.Bool.{cases_lt, or_right}
use Rattle.std.proofs.Math.Nat.{max-eq_left, max-eq_right, zero-max}
use Rattle.std.proofs.lemmas.Bool.Decides.{nat_tests}
use Rattle.std.specs.List.{AllByRecursion}
use Rattle.boss_model.specs.declared.command.Command.{Command}
use Rattle.boss_model.specs.declared.command.Command.TheVariants.{Doubt, Next, Read, Report}
use Rattle.boss_model.specs.Lists.{member}
use Rattle.boss_model.proofs.Members.{member-append}
use Rattle.def_history.specs.declared.entry.Entry.TheVariants.{Did}
use Rattle.def_lanes.specs.Parts.{AreTimed}
use Rattle.def_lanes.proofs.Lists.{each-parts}
use Rattle.def_lanes.proofs.Moments.{both-timed, one-timed}
use Rattle.def_guards.specs.declared.guard.Due.{Due}
use Rattle.def_guards.specs.declared.guard.Guard.{Guard}
use Rattle.def_guards.specs.Acts.{Watch, Decision, Reason, passed, shown, Act, wrote, kept, Tried, IsAct, after_act, after_acts, after_reading, decided, due_of}
use Rattle.def_guards.specs.Turns.{Turn, Doubt as Doubted, IsTurn, AreTurns, after_turn, after_turns, WriteCut, at_clock, at_report, TryCut, at_read, at_write, Cut, nothing, at_next, in_turn, at_doubt, FitsCut}
use Rattle.boss_expiry.specs.declared.end.WorkEnd.{WorkEnd}
use Rattle.boss_expiry.specs.declared.end.WorkEnd.TheVariants.{Finished, Closed, ClockFault, Stopped, DiskFault}
use Rattle.boss_expiry.specs.Ends.{mark}
use Rattle.boss_guard.specs.Guarding.{start}
use Rattle.boss_guard.specs.Making.{answer_for, reads, made_by_act, made_by_acts, doubts, made_before, made_in, made_in_turns, made_by, left_by, left_by_try, left_by_write}

-- the moments were all given
abbrev pub AreIn : List ℕ → List ℕ → Type 0
AreIn gains moments = AllByRecursion (λ moment. member moment gains ≡ true) moments

-- each list is among itself
all_in : (given more : List ℕ) → AreIn (given ++ more) more
all_in given [] = tt
all_in given (moment ∷ more) =
    let here : member moment (moment ∷ more) ≡ true = grind (arith, nat_tests) in (
      member-append moment given (moment ∷ more) ∙ ap (λ b. member moment given || b) here ∙ or_right (member moment given) true refl,
      subst (λ gains. AreIn gains more) (append_assoc given (moment ∷ []) more) (all_in (given ++ moment ∷ []) more),
    )

which : (now told : ℕ) → (max now told ≡ now) ⊎ (max now told ≡ told)
which now told = elim (cases_lt now told) [
  | inl less ↦ inr (max-eq_right (omega arith))
  | inr more ↦ inl (max-eq_left more)
]

-- the greater one of two of them is one of them
greater_in : (gains : List ℕ) (now told : ℕ) → member now gains ≡ true → member told gains ≡ true → member (max now told) gains ≡ true
greater_in gains now told there also = elim (which now told) [
  | inl is ↦ ap (λ moment. member moment gains) is ∙ there
  | inr is ↦ ap (λ moment. member moment gains) is ∙ also
]

-- there was no reading yet, or the greatest one is among them
Begun : List ℕ → ℕ → Type 0
Begun gains now = (now ≡ 0) ⊎ (member now gains ≡ true)

read_in : (gains : List ℕ) (now reading : ℕ) → Begun gains now → member reading gains ≡ true → member (max now reading) gains ≡ true
unfolding Begun
read_in gains now reading (inl first) read =
    let is : max now reading ≡ reading = ap (λ n. max n reading) first ∙ zero-max reading in
    ap (λ moment. member moment gains) is ∙ read
read_in gains now reading (inr there) read = greater_in gains now reading there read

mark_timed : (gains : List ℕ) (command : Command) (moment : ℕ) (end : WorkEnd) → AreTimed gains (mark command moment end)
mark_timed gains command moment Finished = refl
mark_timed gains command moment Closed = refl
mark_timed gains command moment ClockFault = refl
mark_timed gains command moment Stopped = refl
mark_timed gains command moment DiskFault = refl

module _ (gains : List ℕ) where
  -- ---- one want

  reads_timed : (d : Decision) (reason : Reason) → member d.now gains ≡ true → AreTimed gains (reads d reason)
  reads_timed d passed there = refl
  reads_timed d (shown answer) there = one-timed gains 0 d.now (Read d.point) answer there

  at_decision : (watch : Watch) (want : Due) (d : Decision) → d ≡ decided want watch.now → member watch.now gains ≡ true → member d.now gains ≡ true
  at_decision watch want d is there = ap (λ e. member e.now gains) is ∙ there

  act_timed : (watch : Watch) (want : Due) (act : Act) → member watch.now gains ≡ true → AreIn gains (made_by_act act).moments → IsAct watch want act →
      AreTimed gains (made_by_act act).entries × (member (after_act act watch).now gains ≡ true)
  act_timed watch want (wrote d reason ok told answer) there among is =
      let at : member d.now gains ≡ true = at_decision watch want d is.0 there in (
        both-timed gains (reads d reason) (Did 0 (Report d.point d.version ok) (max d.now told) answer ∷ []) (reads_timed d reason at)
            (one-timed gains 0 (max d.now told) (Report d.point d.version ok) answer (greater_in gains d.now told at among.0)),
        greater_in gains watch.now told there among.0,
      )
  act_timed watch want (kept d answer) there among is = (one-timed gains 0 d.now (Read d.point) answer (at_decision watch want d is.0 there), there)

  acts_timed : (acts : List Act) (watch : Watch) (due left : List Due) → member watch.now gains ≡ true → AreIn gains (made_by_acts acts).moments → Tried watch due acts left →
      AreTimed gains (made_by_acts acts).entries × (member (after_acts acts watch).now gains ≡ true)
  acts_timed [] watch due left there among tried = (refl, there)
  acts_timed (act ∷ acts) watch [] left there among tried = absurd tried
  acts_timed (act ∷ acts) watch (want ∷ due) left there among tried =
      let parts = each-parts (λ moment. member moment gains ≡ true) (made_by_act act).moments (made_by_acts acts).moments among in
      let one = act_timed watch want act there parts.0 tried.0 in
      let more = acts_timed acts (after_act act watch) due left one.1 parts.1 tried.1 in
      (both-timed gains (made_by_act act).entries (made_by_acts acts).entries one.0 more.0, more.1)

  -- ---- turns

  -- a turn up to a doubt
  before_timed : (driver : ℕ) (watch : Watch) (turn : Turn) (left : List Due) → Begun gains watch.now → AreIn gains (made_before driver watch turn).moments → IsTurn watch turn left →
      AreTimed gains (made_before driver watch turn).entries × (member (after_turn turn watch).now gains ≡ true)
  before_timed driver watch turn left begun among is =
      let there : member (max watch.now turn.reading) gains ≡ true = read_in gains watch.now turn.reading begun among.0 in
      let acts = acts_timed turn.acts (after_reading turn.reading watch) (due_of turn.want watch.guards) left there among.1 is in (
        both-timed gains (Did 0 (Next driver) (max watch.now turn.reading) (answer_for turn.want) ∷ []) (made_by_acts turn.acts).entries
            (one-timed gains 0 (max watch.now turn.reading) (Next driver) (answer_for turn.want) there) acts.0,
        acts.1,
      )

  doubt_timed : (moment : ℕ) (doubt : Option Doubted) → member moment gains ≡ true → AreTimed gains (doubts moment doubt)
  doubt_timed moment None there = refl
  doubt_timed moment (Some d) there = one-timed gains 0 moment (Doubt d.point d.differs) d.answer there

  turn_timed : (driver : ℕ) (watch : Watch) (turn : Turn) → Begun gains watch.now → AreIn gains (made_in driver watch turn).moments → IsTurn watch turn [] →
      AreTimed gains (made_in driver watch turn).entries × (member (after_turn turn watch).now gains ≡ true)
  turn_timed driver watch turn begun among is =
      let before = before_timed driver watch turn [] begun among is in (
        both-timed gains (made_before driver watch turn).entries (doubts (after_turn turn watch).now turn.doubt) before.0
            (doubt_timed (after_turn turn watch).now turn.doubt before.1),
        before.1,
      )

  turns_timed : (driver : ℕ) (turns : List Turn) (watch : Watch) → Begun gains watch.now → AreIn gains (made_in_turns driver watch turns).moments → AreTurns watch turns →
      AreTimed gains (made_in_turns driver watch turns).entries × Begun gains (after_turns turns watch).now
  unfolding Begun
  turns_timed driver [] watch begun among are = (refl, begun)
  turns_timed driver (turn ∷ turns) watch begun among are =
      let parts = each-parts (λ moment. member moment gains ≡ true) (made_in driver watch turn).moments (made_in_turns driver (after_turn turn watch) turns).moments among in
      let one = turn_timed driver watch turn begun parts.0 are.0 in
      let more = turns_timed driver turns (after_turn turn watch) (inr one.1) parts.1 are.1 in
      (both-timed gains (made_in driver watch turn).entries (made_in_turns driver (after_turn turn watch) turns).entries one.0 more.0, more.1)

  -- ---- a last turn that was cut

  write_timed : (end : WorkEnd) (d : Decision) (cut : WriteCut) → AreTimed gains (left_by_write end d cut).entries
  write_timed end d (at_clock ok) = refl
  write_timed end d (at_report ok told) = mark_timed gains (Report d.point d.version ok) (max d.now told) end

  try_timed : (end : WorkEnd) (d : Decision) (cut : TryCut) → member d.now gains ≡ true → AreTimed gains (left_by_try end d cut).entries
  try_timed end d at_read there = mark_timed gains (Read d.point) d.now end
  try_timed end d (at_write reason cut) there =
      both-timed gains (reads d reason) (left_by_write end d cut).entries (reads_timed d reason there) (write_timed end d cut)

  cut_timed : (driver : ℕ) (end : WorkEnd) (watch : Watch) (last : Cut) → Begun gains watch.now → AreIn gains (left_by driver end watch last).moments → FitsCut watch last →
      AreTimed gains (left_by driver end watch last).entries
  cut_timed driver end watch nothing begun among fits = refl
  cut_timed driver end watch (at_next reading) begun among fits = mark_timed gains (Next driver) (max watch.now reading) end
  cut_timed driver end watch (in_turn turn d cut) begun among fits =
      let parts = each-parts (λ moment. member moment gains ≡ true) (made_before driver watch turn).moments (left_by_try end d cut).moments among in
      let one = before_timed driver watch turn (fits.want ∷ fits.left) begun parts.0 fits.tried in
      both-timed gains (made_before driver watch turn).entries (left_by_try end d cut).entries one.0
      (try_timed end d cut (at_decision (after_turn turn watch) fits.want d fits.decides one.1))
  cut_timed driver end watch (at_doubt turn point differs) begun among fits =
      both-timed gains (made_before driver watch turn).entries (mark (Doubt point differs) (after_turn turn watch).now end)
      (before_timed driver watch turn [] begun among fits).0 (mark_timed gains (Doubt point differs) (after_turn turn watch).now end)

  made_timed : (driver : ℕ) (end : WorkEnd) (watch : Watch) (turns : List Turn) (last : Cut) → Begun gains watch.now → AreIn gains (made_by driver end watch turns last).moments →
      AreTurns watch turns → FitsCut (after_turns turns watch) last → AreTimed gains (made_by driver end watch turns last).entries
  made_timed driver end watch turns last begun among are fits =
      let parts = each-parts (λ moment. member moment gains ≡ true) (made_in_turns driver watch turns).moments (left_by driver end (after_turns turns watch) last).moments among in
      let before = turns_timed driver turns watch begun parts.0 are in
      both-timed gains (made_in_turns driver watch turns).entries (left_by driver end (after_turns turns watch) last).entries before.0
      (cut_timed driver end (after_turns turns watch) last before.1 parts.1 fits)

pub guarded_timed : (driver : ℕ) (end : WorkEnd) (guards : List Guard) (turns : List Turn) (last : Cut) → AreTurns (start guards) turns → FitsCut (after_turns turns (start guards)) last →
    AreTimed (made_by driver end (start guards) turns last).moments (made_by driver end (start guards) turns last).entries
unfolding Begun
guarded_timed driver end guards turns last are fits =
    made_timed (made_by driver end (start guards) turns last).moments driver end (start guards) turns last (inl refl) (all_in [] (made_by driver end (start guards) turns last).moments) are fits
