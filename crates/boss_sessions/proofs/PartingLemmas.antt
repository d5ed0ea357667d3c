-- What the last call of a session leaves of its end.
use Rattle.std.proofs.Common.{◌≡◌, ◌⊎◌, inl, inr, ℕ, Bool, true, false, ◌||◌, List, [], ◌∷◌, ◌++◌, ap, Option, Some, None, refl, sym, ◌∙◌, subst, append-nil}
use Rattle.std.proofs.lemmas.List.{append_cancel_left}
use mathlib.Core.List.{IsPrefix}
use Rattle.boss_model.specs.declared.answer.Answer.{Answer}
use Rattle.boss_model.specs.Limits.{most_lines}
use Rattle.boss_model.specs.declared.command.Command.TheVariants as command
use Rattle.def_history.specs.declared.entry.Entry.{Entry}
use Rattle.def_history.specs.declared.entry.Entry.TheVariants.{Did, Broke}
use Rattle.def_history.specs.declared.outcome.Outcome.{Outcome}
use Rattle.def_history.specs.declared.outcome.Outcome.TheVariants as came
use Rattle.def_history.specs.History.{deeds, is_broken}
use Rattle.def_history.specs.Made.{made_by}
use Rattle.def_history.proofs.Going.{broken_append}
use Rattle.boss_outside.specs.declared.source.ReadAt.{ReadAt}
use Rattle.boss_sessions.specs.Places.{Place}
use Rattle.def_lanes.proofs.Choices.{deeds-append}
use Rattle.boss_shared.specs.Calls.{is_stopped}
use Rattle.def_connection.specs.Speech.{beginning, of_answer, of_memory, of_stop, of_denial, Speech, Exchange, unread, refused, called, attaches_by, attached_in, deeds_in, parting_of}
use Rattle.def_connection.specs.Talks.{standing, is_unparted}
use Rattle.boss_sessions.specs.declared.end.SessionEnd.{SessionEnd}
use Rattle.boss_sessions.specs.declared.end.SessionEnd.TheVariants as end
use Rattle.boss_sessions.specs.Connected.{Connected}
use Rattle.boss_sessions.specs.Ends.{is_stop_end, ReadCause, WriteCause, ClockCause, DiskCause}
use Rattle.boss_sessions.specs.Parting.{LeavesBy, Parts, attached_among, BreaksAtLast, FailsLast}
use Rattle.boss_sessions.specs.Rounds.{named, EndedAnswered}
use Rattle.boss_sessions.proofs.ReplyLemmas.{denial-attaches, memory-attaches, stop-attaches}
use Rattle.boss_sessions.proofs.SessionLemmas.{connected-of}

-- ---- causes

pub parts-read : (before now : ℕ) (outcome : Outcome) (broken : Bool) (e e' : SessionEnd) → LeavesBy outcome broken e e' → ReadCause before now (Some e) → ReadCause before now (Some e')
parts-read before now (came.Done given) broken e e' leaves cause = subst (λ x. ReadCause before now (Some x)) (sym leaves.0) cause
parts-read before now came.Stopped broken e e' leaves cause = subst (λ x. ReadCause before now (Some x)) (sym leaves.0) tt
parts-read before now came.DiskFault broken e e' leaves cause = subst (λ x. ReadCause before now (Some x)) (sym leaves.0) tt
parts-read before now came.NoMemory broken e e' leaves cause = absurd leaves
parts-read before now (came.Denied index rule) broken e e' leaves cause = absurd leaves

pub parts-write : (before now : ℕ) (outcome : Outcome) (broken : Bool) (e e' : SessionEnd) → LeavesBy outcome broken e e' → WriteCause before now (Some e) → WriteCause before now (Some e')
parts-write before now (came.Done given) broken e e' leaves cause = subst (λ x. WriteCause before now (Some x)) (sym leaves.0) cause
parts-write before now came.Stopped broken e e' leaves cause = subst (λ x. WriteCause before now (Some x)) (sym leaves.0) tt
parts-write before now came.DiskFault broken e e' leaves cause = subst (λ x. WriteCause before now (Some x)) (sym leaves.0) tt
parts-write before now came.NoMemory broken e e' leaves cause = absurd leaves
parts-write before now (came.Denied index rule) broken e e' leaves cause = absurd leaves

pub parts-clock : (before now : ℕ) (outcome : Outcome) (broken : Bool) (e e' : SessionEnd) → LeavesBy outcome broken e e' → ClockCause before now (Some e) → ClockCause before now (Some e')
parts-clock before now (came.Done given) broken e e' leaves cause = subst (λ x. ClockCause before now (Some x)) (sym leaves.0) cause
parts-clock before now came.Stopped broken e e' leaves cause = subst (λ x. ClockCause before now (Some x)) (sym leaves.0) tt
parts-clock before now came.DiskFault broken e e' leaves cause = subst (λ x. ClockCause before now (Some x)) (sym leaves.0) tt
parts-clock before now came.NoMemory broken e e' leaves cause = absurd leaves
parts-clock before now (came.Denied index rule) broken e e' leaves cause = absurd leaves

whole-disk : (before : Bool) (now : Bool) (e : SessionEnd) → now ≡ false → is_stop_end e ≡ false → DiskCause before now (Some e)
whole-disk before now end.Stopped is calm = absurd (let other : true ≡ false = calm in cc)
whole-disk before now end.DiskFault is calm = absurd (let other : true ≡ false = calm in cc)
whole-disk before now end.End is calm = λ stops. absurd (let other : true ≡ false = sym stops ∙ is in cc)
whole-disk before now (end.Watch name from) is calm = λ stops. absurd (let other : true ≡ false = sym stops ∙ is in cc)
whole-disk before now end.ReadFault is calm = λ stops. absurd (let other : true ≡ false = sym stops ∙ is in cc)
whole-disk before now end.WriteFault is calm = λ stops. absurd (let other : true ≡ false = sym stops ∙ is in cc)
whole-disk before now end.ClockFault is calm = λ stops. absurd (let other : true ≡ false = sym stops ∙ is in cc)
whole-disk before now end.TooLong is calm = λ stops. absurd (let other : true ≡ false = sym stops ∙ is in cc)
whole-disk before now end.WrongKey is calm = λ stops. absurd (let other : true ≡ false = sym stops ∙ is in cc)
whole-disk before now end.Limit is calm = λ stops. absurd (let other : true ≡ false = sym stops ∙ is in cc)
whole-disk before now end.NoMemory is calm = λ stops. absurd (let other : true ≡ false = sym stops ∙ is in cc)

-- the disk had not failed, so the end does not say so
going-at : (before was : Bool) (e : SessionEnd) → DiskCause before was (Some e) → was ≡ false → is_stop_end e ≡ false
going-at before was end.Stopped cause is = absurd (let other : true ≡ false = sym cause ∙ is in cc)
going-at before was end.DiskFault cause is = absurd (let other : true ≡ false = sym cause ∙ is in cc)
going-at before was end.End cause is = refl
going-at before was (end.Watch name from) cause is = refl
going-at before was end.ReadFault cause is = refl
going-at before was end.WriteFault cause is = refl
going-at before was end.ClockFault cause is = refl
going-at before was end.TooLong cause is = refl
going-at before was end.WrongKey cause is = refl
going-at before was end.Limit cause is = refl
going-at before was end.NoMemory cause is = refl

-- a call that was answered found a disk that had not failed
whole-before : (was : Bool) (given : Answer) → (was ≡ true → came.Done given ≡ came.Stopped) → was ≡ false
whole-before false given stood = refl
whole-before true given stood = absurd (let other : came.Done given ≡ came.Stopped = stood refl in cc)

pub parts-disk : (before was broken : Bool) (outcome : Outcome) (e e' : SessionEnd) → (was ≡ true → outcome ≡ came.Stopped) → LeavesBy outcome broken e e' → DiskCause before was (Some e) →
    DiskCause before broken (Some e')
parts-disk before was broken (came.Done given) e e' stood leaves cause =
    subst (λ x. DiskCause before broken (Some x)) (sym leaves.0) (whole-disk before broken e leaves.1 (going-at before was e cause (whole-before was given stood)))
parts-disk before was broken came.Stopped e e' stood leaves cause = subst (λ x. DiskCause before broken (Some x)) (sym leaves.0) leaves.1
parts-disk before was broken came.DiskFault e e' stood leaves cause = subst (λ x. DiskCause before broken (Some x)) (sym leaves.0) leaves.1
parts-disk before was broken came.NoMemory e e' stood leaves cause = absurd leaves
parts-disk before was broken (came.Denied index rule) e e' stood leaves cause = absurd leaves

-- ---- the talk

abbrev answer_in : Outcome → Option Answer
answer_in (came.Done given) = Some given
answer_in came.Stopped = None
answer_in came.DiskFault = None
answer_in came.NoMemory = None
answer_in (came.Denied index rule) = None

parting-deeds : (session moment : ℕ) (own own' : List Entry) (outcome : Outcome) → own' ≡ own ++ made_by session command.Gone moment outcome →
    deeds own' ≡ deeds own ++ parting_of session moment (answer_in outcome)
parting-deeds session moment own own' (came.Done given) is = ap deeds is ∙ deeds-append own (Did session command.Gone moment given ∷ [])
parting-deeds session moment own own' came.Stopped is = ap deeds is ∙ deeds-append own []
parting-deeds session moment own own' came.DiskFault is = ap deeds is ∙ deeds-append own (Broke session ((command.Gone, moment) ∷ []) [] ∷ [])
parting-deeds session moment own own' came.NoMemory is = ap deeds is ∙ deeds-append own []
parting-deeds session moment own own' (came.Denied index rule) is = ap deeds is ∙ deeds-append own []

-- the session ended as it had, or the disk has failed
parts-same : (outcome : Outcome) (broken : Bool) (e e' : SessionEnd) → LeavesBy outcome broken e e' →
    ((e' ≡ e) × (is_unparted true (answer_in outcome) ≡ false)) ⊎ ((is_stop_end e' ≡ true) × (is_unparted true (answer_in outcome) ≡ true))
parts-same (came.Done given) broken e e' leaves = inl (leaves.0, refl)
parts-same came.Stopped broken e e' leaves = inr (ap is_stop_end leaves.0, refl)
parts-same came.DiskFault broken e e' leaves = inr (ap is_stop_end leaves.0, refl)
parts-same came.NoMemory broken e e' leaves = absurd leaves
parts-same (came.Denied index rule) broken e e' leaves = absurd leaves

-- ---- the end where an attach was accepted

attached-deeds : (session : ℕ) (talk : List Exchange) → attached_among (deeds_in session talk) ≡ attached_in talk
attached-deeds session [] = refl
attached-deeds session (unread line ∷ talk) = attached-deeds session talk
attached-deeds session (refused line why ∷ talk) = attached-deeds session talk
attached-deeds session (called line asked moment (of_answer given) ∷ talk) = ap (λ rest. attaches_by asked (of_answer given) || rest) (attached-deeds session talk)
attached-deeds session (called line asked moment of_memory ∷ talk) = attached-deeds session talk ∙ ap (λ b. b || attached_in talk) (sym (memory-attaches asked))
attached-deeds session (called line asked moment of_stop ∷ talk) = attached-deeds session talk ∙ ap (λ b. b || attached_in talk) (sym (stop-attaches asked))
attached-deeds session (called line asked moment (of_denial index rule) ∷ talk) = attached-deeds session talk ∙ ap (λ b. b || attached_in talk) (sym (denial-attaches index rule asked))

fails-where : (session : ℕ) (own own' : List Entry) (e : SessionEnd) →
    (e ≡ end.DiskFault → (more : List Entry) → deeds own' ≡ deeds own ++ more → attached_among more ≡ true → BreaksAtLast session own') → FailsLast session own own' e
fails-where session own own' end.DiskFault says = says refl
fails-where session own own' end.Stopped says = tt
fails-where session own own' end.End says = tt
fails-where session own own' (end.Watch name from) says = tt
fails-where session own own' end.ReadFault says = tt
fails-where session own own' end.WriteFault says = tt
fails-where session own own' end.ClockFault says = tt
fails-where session own own' end.TooLong says = tt
fails-where session own own' end.WrongKey says = tt
fails-where session own own' end.Limit says = tt
fails-where session own own' end.NoMemory says = tt

-- the disk failed in the last call, or before it
pub parts-fails : (session moment : ℕ) (first own own' : List Entry) (before was broken : Bool) (outcome : Outcome) (e e' : SessionEnd) →
    own' ≡ own ++ made_by session command.Gone moment outcome → (was ≡ true → outcome ≡ came.Stopped) → LeavesBy outcome broken e e' → DiskCause before was (Some e) →
    FailsLast session first own' e'
parts-fails session moment first own own' before was broken (came.Done given) e e' grew stood leaves cause =
    let going : is_stop_end e ≡ false = going-at before was e cause (whole-before was given stood) in
    fails-where session first own' e' (λ is more deed attached. absurd (let other : true ≡ false = sym (ap is_stop_end (sym leaves.0 ∙ is)) ∙ going in cc))
parts-fails session moment first own own' before was broken came.Stopped e e' grew stood leaves cause = subst (λ x. FailsLast session first own' x) (sym leaves.0) tt
parts-fails session moment first own own' before was broken came.DiskFault e e' grew stood leaves cause =
    subst (λ x. FailsLast session first own' x) (sym leaves.0) (λ more deed attached. (own, moment, grew))
parts-fails session moment first own own' before was broken came.NoMemory e e' grew stood leaves cause = absurd leaves
parts-fails session moment first own own' before was broken (came.Denied index rule) e e' grew stood leaves cause = absurd leaves

-- ---- a session that ended

module _ (speech : Speech) (number : ℕ) (heeds tells ticks : Type 0) (place place' : Place) (own : List Entry) (taken : List ℕ) (faults : ℕ) (given : List ℕ) (attached : Bool) (last : ℕ)
    (own' : List Entry) (taken' : List ℕ) (faults' : ℕ) (given' : List ℕ) (attached' : Bool) (last' : ℕ) (name' : Option (List ℕ)) (r r' : Option (List ReadAt)) (e : SessionEnd)
    (empty : place.ahead ≡ []) (count : place.lines ≡ most_lines) (fresh : attached ≡ false) (first : last ≡ 0)
    (ended : EndedAnswered speech number heeds tells ticks beginning place place' (standing own taken faults given attached last) (named (standing own' taken' faults' given' attached' last') name') r r' e) where
  anew : EndedAnswered speech number heeds tells ticks beginning place place' (standing own taken faults given false 0) (named (standing own' taken' faults' given' attached' last') name') r r' e
  anew = subst (λ t. EndedAnswered speech number heeds tells ticks beginning place place' (standing own taken faults given false t) (named (standing own' taken' faults' given' attached' last') name') r r' e) first
      (subst (λ t. EndedAnswered speech number heeds tells ticks beginning place place' (standing own taken faults given t last) (named (standing own' taken' faults' given' attached' last') name') r r' e) fresh ended)

  -- without a last call
  pub connected-whole : attached' ≡ false →
      Connected speech number heeds tells ticks place.left place'.left r r' (standing own taken faults given false 0) (standing own' taken' faults' given' false 0) e
  connected-whole apart = connected-of speech number heeds tells ticks place place' (standing own taken faults given false 0) (named (standing own' taken' faults' given' attached' last') name')
      (standing own' taken' faults' given' false 0) r r' None e e empty count refl refl refl anew (sym (append-nil (deeds own'))) refl refl refl (λ is. refl)
      (inl (refl, apart))

  pub fails-whole : attached' ≡ false → FailsLast number own own' e
  fails-whole apart = fails-where number own own' e (λ is more grew among.
      let stops = anew.ended.stops in
      let same : deeds_in number stops.talk ≡ more = append_cancel_left (deeds own) (deeds_in number stops.talk) more (sym stops.grew ∙ grew) in
      absurd (let other : false ≡ true = sym apart ∙ stops.attached ∙ sym (attached-deeds number stops.talk) ∙ ap attached_among same ∙ among in cc))

  -- with it
  pub connected-parted : (own'' : List Entry) (was broken : Bool) (e' : SessionEnd) → attached' ≡ true → Parts number last' own' own'' was broken e e' →
      Connected speech number heeds tells ticks place.left place'.left r r' (standing own taken faults given false 0) (standing own'' taken' faults' given' false 0) e'
  connected-parted own'' was broken e' is parts = connected-of speech number heeds tells ticks place place' (standing own taken faults given false 0) (named (standing own' taken' faults' given' attached' last') name')
      (standing own'' taken' faults' given' false 0) r r' (answer_in parts.outcome) e e' empty count refl refl refl anew (parting-deeds number last' own' own'' parts.outcome parts.grew) refl refl refl
      (λ no. absurd (let other : true ≡ false = sym is ∙ no in cc))
      (subst (λ t. ((e' ≡ e) × (is_unparted t (answer_in parts.outcome) ≡ false)) ⊎ ((is_stop_end e' ≡ true) × (is_unparted t (answer_in parts.outcome) ≡ true))) (sym is)
      (parts-same parts.outcome broken e e' parts.leaves))

-- ---- the call that tells it

broken-longer : (xs zs : List Entry) → IsPrefix xs zs → is_broken xs ≡ true → is_broken zs ≡ true
broken-longer xs zs prefix is = ap is_broken (sym prefix.1) ∙ broken_append xs prefix.0 ∙ ap (λ b. b || is_broken prefix.0) is

-- behind a mark that was seen it is answered that the disk had failed
stopped-behind : (seen before : List Entry) (outcome : Outcome) → IsPrefix seen before → is_stopped outcome ≡ is_broken before → is_broken seen ≡ true → outcome ≡ came.Stopped
stopped-behind seen before (came.Done given) prefix is broken = absurd (let other : false ≡ true = is ∙ broken-longer seen before prefix broken in cc)
stopped-behind seen before came.Stopped prefix is broken = refl
stopped-behind seen before came.DiskFault prefix is broken = absurd (let other : false ≡ true = is ∙ broken-longer seen before prefix broken in cc)
stopped-behind seen before came.NoMemory prefix is broken = absurd (let other : false ≡ true = is ∙ broken-longer seen before prefix broken in cc)
stopped-behind seen before (came.Denied index rule) prefix is broken = absurd (let other : false ≡ true = is ∙ broken-longer seen before prefix broken in cc)

pub parts-of : (session moment : ℕ) (own own' seen before : List Entry) (broken : Bool) (outcome : Outcome) (e e' : SessionEnd) → IsPrefix seen before →
    own' ≡ own ++ made_by session command.Gone moment outcome → is_stopped outcome ≡ is_broken before → LeavesBy outcome broken e e' → Parts session moment own own' (is_broken seen) broken e e'
parts-of session moment own own' seen before broken outcome e e' prefix grew stopped leaves = record {
  outcome = outcome;
  grew = grew;
  stood = stopped-behind seen before outcome prefix stopped;
  leaves = leaves;
}
