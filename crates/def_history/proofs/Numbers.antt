-- A number that was made stays made, in a history and when the machine is opened again; and nothing more is made under it.
use Rattle.std.proofs.Common.{◌≡◌, ◌⊎◌, inl, inr, ℕ, ◌<◌, length, List, [], ◌∷◌, ◌++◌, Option, Some, None, refl, ap, sym, ◌∙◌, subst, arith}
use Rattle.std.specs.Option.{option_map_or}
use Rattle.std.specs.List.{AllByRecursion}
use Rattle.boss_model.specs.declared.answer.Answer.{Answer}
use Rattle.boss_model.specs.declared.answer.Refusal.TheVariants as refusal
use Rattle.boss_model.specs.declared.command.Command.{Command}
use Rattle.boss_model.specs.declared.command.Command.TheVariants as command
use Rattle.boss_model.specs.declared.kept.Acceptance.{Acceptance}
use Rattle.boss_model.specs.declared.kept.KeptReply.{KeptReply}
use Rattle.boss_model.specs.declared.state.Actuator.{Actuator}
use Rattle.boss_model.specs.Machine.{pass_time, step}
use Rattle.boss_model.specs.Replies.{answer_of, reply_of}
use Rattle.boss_model.specs.Settle.{settle}
use Rattle.boss_model.specs.Sound.{IsSoundPersistent, IsSound}
use Rattle.boss_model.specs.State.{Persistent, State}
use Rattle.boss_model.specs.Time.{moment_of}
use Rattle.law_machine.proofs.OnceStep.{step-kept, step-repeated, step-lesser, step-changed}
use Rattle.law_machine.proofs.Refused.{refused-step}
use Rattle.law_machine.specs.Once.{seq_of, IsUnder, kept_seq}
use Rattle.law_soundness.proofs.Opened.{opened-sound}
use Rattle.law_soundness.proofs.StepSound.{found-attached, step-sound}
use Rattle.def_history.proofs.Going.{tried_append, legal_front, mark-last}
use Rattle.def_history.proofs.Sound.{legal-sound}
use Rattle.law_time.proofs.Orders.{each-back, each-front}
use Rattle.def_history.specs.declared.entry.Entry.{Entry}
use Rattle.def_history.specs.declared.entry.Entry.TheVariants.{Did, Broke}
use Rattle.def_history.specs.declared.entry.Tried.{Tried}
use Rattle.def_history.specs.History.{stepped, all_stepped, run, run_tried, MayCall, MayTry, IsLegal}
use Rattle.def_history.specs.Once.{Life, begins, under_way, IsLeft, OpensTried, AreLives, StartsSound, MakesNothing, IsSpent, IsSpentIn, IsOnce, AreOnce}

-- the answer is kept, or one of a greater number
abbrev pub IsMade : ℕ → ℕ → Acceptance → Persistent → Type 0
IsMade owner seq accepted d = (reply_of d.processes owner ≡ Some (record { seq = seq; acceptance = accepted })) ⊎ (seq < kept_seq d owner)

-- ---- it stays made

made-same : (owner seq : ℕ) (accepted : Acceptance) (d changed : Persistent) → reply_of changed.processes owner ≡ reply_of d.processes owner → IsMade owner seq accepted d → IsMade owner seq accepted changed
made-same owner seq accepted d changed same (inl found) = inl (same ∙ found)
made-same owner seq accepted d changed same (inr less) = inr (subst (λ found. seq < option_map_or (λ (reply : KeptReply). reply.seq) found 0) (sym same) less)

made-more : (owner seq : ℕ) (accepted : Acceptance) (d changed : Persistent) → kept_seq d owner < kept_seq changed owner → IsMade owner seq accepted d → IsMade owner seq accepted changed
made-more owner seq accepted d changed more (inl found) =
    let here : kept_seq d owner ≡ seq = ap (λ f. option_map_or (λ (reply : KeptReply). reply.seq) f 0) found in inr (omega arith)
made-more owner seq accepted d changed more (inr less) = inr (omega arith)

module _ (plant : List Actuator) (owner seq : ℕ) (accepted : Acceptance) where
  made-step : (session : ℕ) (c : Command) (m : ℕ) (s : State) → IsMade owner seq accepted s.persistent → IsMade owner seq accepted (step plant session c m s).state.persistent
  made-step session c m s made = by (step-changed plant session owner c m s)
    where
      after : Persistent
      after = (step plant session c m s).state.persistent

      by : (reply_of after.processes owner ≡ reply_of s.persistent.processes owner)
          ⊎ (IsUnder owner (seq_of c) session c s × (kept_seq s.persistent owner < seq_of c) × (kept_seq after owner ≡ seq_of c)) → IsMade owner seq accepted after
      by (inl same) = made-same owner seq accepted s.persistent after same made
      by (inr new) =
          let less : kept_seq s.persistent owner < seq_of c = new.1 in
          let now : kept_seq after owner ≡ seq_of c = new.2 in
          made-more owner seq accepted s.persistent after (omega arith) made

  made-stepped : (session : ℕ) (calls : List (Command × ℕ)) (s : State) → IsMade owner seq accepted s.persistent → IsMade owner seq accepted (stepped plant session calls s).persistent
  made-stepped session [] s made = made
  made-stepped session (call ∷ calls) s made = made-stepped session calls (step plant session call.0 call.1 s).state (made-step session call.0 call.1 s made)

  made-all_stepped : (calls : List Tried) (s : State) → IsMade owner seq accepted s.persistent → IsMade owner seq accepted (all_stepped plant calls s).persistent
  made-all_stepped [] s made = made
  made-all_stepped (one ∷ calls) s made = made-all_stepped calls (stepped plant one.session one.commands s) (made-stepped one.session one.commands s made)

  made-run : (xs : List Entry) (s : State) → IsMade owner seq accepted s.persistent → IsMade owner seq accepted (run plant xs s).persistent
  made-run [] s made = made
  made-run (Did session c m given ∷ xs) s made = made-run xs (step plant session c m s).state (made-step session c m s made)
  made-run (Broke session calls others ∷ xs) s made = made-run xs s made

  made-tried : (xs : List Entry) (s : State) → IsMade owner seq accepted s.persistent → IsMade owner seq accepted (run_tried plant xs s).persistent
  made-tried [] s made = made
  made-tried (Did session c m given ∷ xs) s made = made-tried xs (step plant session c m s).state (made-step session c m s made)
  made-tried (Broke session calls others ∷ xs) s made =
      made-tried xs (all_stepped plant others (stepped plant session calls s)) (made-all_stepped others (stepped plant session calls s) (made-stepped session calls s made))

  made-left : (life : Life) (d : Persistent) → IsLeft plant life d → IsMade owner seq accepted (run plant life.history (begins plant life)).persistent →
      IsMade owner seq accepted (run_tried plant life.history (begins plant life)).persistent → IsMade owner seq accepted d
  made-left life d (inl same) done tried = subst (IsMade owner seq accepted) (sym same) done
  made-left life d (inr same) done tried = subst (IsMade owner seq accepted) (sym same) tried

  -- ---- nothing more is made

  -- a tick is time, retries and settling
  tick-passes : (m : ℕ) (s : State) → (step plant 0 command.Tick m s).state ≡ settle plant (pass_time plant (moment_of s.persistent m) s)
  unfolding step
  tick-passes m s = refl

  lesser-kept : (s : State) (found : Option KeptReply) → reply_of s.persistent.processes owner ≡ found → seq < option_map_or (λ reply. reply.seq) found 0 →
      (reply : KeptReply) × (reply_of s.persistent.processes owner ≡ Some reply) × (seq < reply.seq)
  lesser-kept s None is less = absurd (omega arith)
  lesser-kept s (Some reply) is less = (reply, is, less)

  made-again : (session : ℕ) (c : Command) (m : ℕ) (given : Answer) (s : State) → IsMade owner seq accepted s.persistent → IsUnder owner seq session c s →
      given ≡ (step plant session c m s).answer → MakesNothing plant session c m (answer_of accepted) given s
  made-again session c m given s (inl found) under legal =
      let again = step-repeated plant session 0 owner c m s (record { seq = seq; acceptance = accepted }) under found in
      (again.1 ∙ tick-passes m s, inl (legal ∙ again.0))
  made-again session c m given s (inr less) under legal =
      let kept = lesser-kept s (reply_of s.persistent.processes owner) refl less in
      let stale = step-lesser plant session owner seq c m s kept.0 under kept.1 kept.2 in
      (refused-step plant s session 0 c m (refusal.Stale kept.0.seq) stale ∙ tick-passes m s, inr (refusal.Stale kept.0.seq, legal ∙ stale))

  spent : (xs : List Entry) (s : State) → IsMade owner seq accepted s.persistent → IsLegal plant xs s → IsSpent plant owner seq (answer_of accepted) xs s
  spent [] s made legal = tt
  spent (Did session c m given ∷ xs) s made legal =
      ((λ under. made-again session c m given s made under legal.0.1), spent xs (step plant session c m s).state (made-step session c m s made) legal.2)
  spent (Broke session calls others ∷ xs) s made legal = (tt, spent xs s made legal.2)

  spent-in : (lives : List Life) → AreLives plant lives → ((life : Life) (rest : List Life) → lives ≡ life ∷ rest → IsMade owner seq accepted life.opens) → IsSpentIn plant owner seq (answer_of accepted) lives
  spent-in [] are made = tt
  spent-in (life ∷ []) are made = (spent life.history (begins plant life) (made life [] refl) are.0, tt)
  spent-in (life ∷ next ∷ lives) are made =
      let here : IsMade owner seq accepted life.opens = made life (next ∷ lives) refl in
      let there : IsMade owner seq accepted next.opens = made-left life next.opens are.1 (made-run life.history (begins plant life) here) (made-tried life.history (begins plant life) here) in
      (spent life.history (begins plant life) here are.0, spent-in (next ∷ lives) are.2 (λ other rest is. let same : next ≡ other = cc in subst (λ l. IsMade owner seq accepted l.opens) same there))

-- ---- what is accepted is made

made-first : (plant : List Actuator) (owner seq session : ℕ) (c : Command) (m : ℕ) (given : Answer) (accepted : Acceptance) (s : State) → IsSound plant s → IsUnder owner seq session c s →
    given ≡ answer_of accepted → given ≡ (step plant session c m s).answer → IsMade owner seq accepted (step plant session c m s).state.persistent
made-first plant owner seq session c m given accepted s sound under is legal = inl (step-kept plant session owner seq c m s accepted
    (found-attached (λ k. k < length s.persistent.processes) s.attached session owner sound.attached under.held) under (sym legal ∙ is))

-- what a life leaves is sound
stepped-sound : (plant : List Actuator) (session : ℕ) (calls : List (Command × ℕ)) (s : State) → IsSound plant s → AllByRecursion (MayCall plant) calls → IsSound plant (stepped plant session calls s)
stepped-sound plant session [] s sound may = sound
stepped-sound plant session (call ∷ calls) s sound may =
    stepped-sound plant session calls (step plant session call.0 call.1 s).state (step-sound plant session call.0 call.1 s may.0.0 may.0.1 sound) may.1

all_stepped-sound : (plant : List Actuator) (calls : List Tried) (s : State) → IsSound plant s → AllByRecursion (MayTry plant) calls → IsSound plant (all_stepped plant calls s)
all_stepped-sound plant [] s sound may = sound
all_stepped-sound plant (one ∷ calls) s sound may =
    all_stepped-sound plant calls (stepped plant one.session one.commands s) (stepped-sound plant one.session one.commands s sound may.0) may.1

tried-sound : (plant : List Actuator) (xs : List Entry) (s : State) → IsSound plant s → IsLegal plant xs s → IsSound plant (run_tried plant xs s)
tried-sound plant [] s sound legal = sound
tried-sound plant (Did session c m given ∷ xs) s sound legal = tried-sound plant xs (step plant session c m s).state (step-sound plant session c m s legal.0.0.0 legal.0.0.1 sound) legal.2
tried-sound plant (Broke session calls others ∷ xs) s sound legal =
    subst (λ ys. IsSound plant (run_tried plant ys (all_stepped plant others (stepped plant session calls s)))) (sym legal.1)
    (all_stepped-sound plant others (stepped plant session calls s) (stepped-sound plant session calls s sound legal.0.0) legal.0.1)

left-sound : (plant : List Actuator) (life : Life) (d : Persistent) → IsLeft plant life d → IsSoundPersistent plant life.opens → IsLegal plant life.history (begins plant life) → IsSoundPersistent plant d
left-sound plant life d (inl same) sound legal = subst (IsSoundPersistent plant) (sym same) (legal-sound plant life.history (begins plant life) (opened-sound plant life.opens sound) legal).persistent
left-sound plant life d (inr same) sound legal = subst (IsSoundPersistent plant) (sym same) (tried-sound plant life.history (begins plant life) (opened-sound plant life.opens sound) legal).persistent

-- ---- once

-- what a life made is made in what the next one opens
abbrev IsOpen : List Actuator → List Entry → State → List Life → Type 0
IsOpen plant xs s lives = (owner seq : ℕ) (accepted : Acceptance) (life : Life) (rest : List Life) → lives ≡ life ∷ rest →
    IsMade owner seq accepted (run plant xs s).persistent → IsMade owner seq accepted (run_tried plant xs s).persistent → IsMade owner seq accepted life.opens

once : (plant : List Actuator) (xs : List Entry) (s : State) (lives : List Life) → IsSound plant s → IsLegal plant xs s → AreLives plant lives → IsOpen plant xs s lives → IsOnce plant xs s lives
once plant [] s lives sound legal are opens = tt
once plant (Did session c m given ∷ xs) s lives sound legal are opens =
    let after = (step plant session c m s).state in (
      (λ owner seq accepted is.
          let made : IsMade owner seq accepted after.persistent = made-first plant owner seq session c m given accepted s sound is.0 is.1 legal.0.1 in (
            spent plant owner seq accepted xs after made legal.2,
            spent-in plant owner seq accepted lives are
                (λ life rest same. opens owner seq accepted life rest same (made-run plant owner seq accepted xs after made) (made-tried plant owner seq accepted xs after made)),
          )),
      once plant xs after lives (step-sound plant session c m s legal.0.0.0 legal.0.0.1 sound) legal.2 are opens,
    )
once plant (Broke session calls others ∷ xs) s lives sound legal are opens = (
  (λ owner seq accepted is. absurd is),
  subst (λ ys. IsOnce plant ys s lives) (sym legal.1) tt,
)

pub lives-once : (plant : List Actuator) (lives : List Life) → StartsSound plant lives → AreLives plant lives → AreOnce plant lives
lives-once plant [] sound are = tt
lives-once plant (life ∷ []) sound are = (once plant life.history (begins plant life) [] (opened-sound plant life.opens sound) are.0 tt (λ owner seq accepted other rest is. absurd cc), tt)
lives-once plant (life ∷ next ∷ lives) sound are = (
  once plant life.history (begins plant life) (next ∷ lives) (opened-sound plant life.opens sound) are.0 are.2
      (λ owner seq accepted other rest is done tried. let same : next ≡ other = cc in
      subst (λ l. IsMade owner seq accepted l.opens) same (made-left plant owner seq accepted life next.opens are.1 done tried)),
  lives-once plant (next ∷ lives) (left-sound plant life next.opens are.1 sound are.0) are.2,
)

-- ---- two entries of one history

pub pair-once : (plant : List Actuator) (first between then : List Entry) (s : State) (owner seq session other : ℕ) (c e : Command) (m n : ℕ) (accepted : Acceptance) (given : Answer) → IsSound plant s →
    IsLegal plant (first ++ Did session c m (answer_of accepted) ∷ between ++ Did other e n given ∷ then) s → IsUnder owner seq session c (run plant first s) →
    IsUnder owner seq other e (run plant (first ++ Did session c m (answer_of accepted) ∷ between) s) →
    MakesNothing plant other e n (answer_of accepted) given (run plant (first ++ Did session c m (answer_of accepted) ∷ between) s)
pair-once plant [] between then s owner seq session other c e m n accepted given sound legal under again =
    second between (step plant session c m s).state (made-first plant owner seq session c m (answer_of accepted) accepted s sound under refl legal.0.1) legal.2 again
  where
    second : (xs : List Entry) (t : State) → IsMade owner seq accepted t.persistent → IsLegal plant (xs ++ Did other e n given ∷ then) t → IsUnder owner seq other e (run plant xs t) →
        MakesNothing plant other e n (answer_of accepted) given (run plant xs t)
    second [] t made legal again = made-again plant owner seq accepted other e n given t made again legal.0.1
    second (Did a b k g ∷ xs) t made legal again = second xs (step plant a b k t).state (made-step plant owner seq accepted a b k t made) legal.2 again
    second (Broke a calls others ∷ xs) t made legal again = second xs t made legal.2 again
pair-once plant (Did a b k g ∷ first) between then s owner seq session other c e m n accepted given sound legal under again =
    pair-once plant first between then (step plant a b k s).state owner seq session other c e m n accepted given (step-sound plant a b k s legal.0.0.0 legal.0.0.1 sound) legal.2 under again
pair-once plant (Broke a calls others ∷ first) between then s owner seq session other c e m n accepted given sound legal under again =
    pair-once plant first between then s owner seq session other c e m n accepted given sound legal.2 under again

-- ---- what was under way

legal_back : (plant : List Actuator) (xs ys : List Entry) (s : State) → IsLegal plant (xs ++ ys) s → IsLegal plant ys (run plant xs s)
legal_back plant [] ys s legal = legal
legal_back plant (Did session c m given ∷ xs) ys s legal = legal_back plant xs ys (step plant session c m s).state legal.2
legal_back plant (Broke session calls others ∷ xs) ys s legal = legal_back plant xs ys s legal.2

stepped_append : (plant : List Actuator) (session : ℕ) (xs ys : List (Command × ℕ)) (s : State) → stepped plant session (xs ++ ys) s ≡ stepped plant session ys (stepped plant session xs s)
stepped_append plant session [] ys s = refl
stepped_append plant session (call ∷ xs) ys s = stepped_append plant session xs ys (step plant session call.0 call.1 s).state

all_stepped-append : (plant : List Actuator) (xs ys : List Tried) (s : State) → all_stepped plant (xs ++ ys) s ≡ all_stepped plant ys (all_stepped plant xs s)
all_stepped-append plant [] ys s = refl
all_stepped-append plant (one ∷ xs) ys s = all_stepped-append plant xs ys (stepped plant one.session one.commands s)

pub cut_off-once : (plant : List Actuator) (life : Life) (lives : List Life) (first : List Entry) (told : ℕ) (commands : List (Command × ℕ)) (others passed behind : List Tried)
    (before then : List (Command × ℕ)) (owner seq session : ℕ) (c : Command) (m : ℕ) (accepted : Acceptance) →
    StartsSound plant (life ∷ lives) → AreLives plant (life ∷ lives) → life.history ≡ first ++ Broke told commands others ∷ [] →
    under_way told commands others ≡ passed ++ record { session = session; commands = before ++ (c, m) ∷ then } ∷ behind →
    IsUnder owner seq session c (stepped plant session before (all_stepped plant passed (run plant first (begins plant life)))) →
    (step plant session c m (stepped plant session before (all_stepped plant passed (run plant first (begins plant life))))).answer ≡ answer_of accepted → OpensTried plant life lives →
    IsSpentIn plant owner seq (answer_of accepted) lives
cut_off-once plant life [] first told commands others passed behind before then owner seq session c m accepted sound are is among under gave opens = tt
cut_off-once plant life (next ∷ lives) first told commands others passed behind before then owner seq session c m accepted sound are is among under gave opens =
    let s = begins plant life in
    let t = run plant first s in
    let v = all_stepped plant passed t in
    let u = stepped plant session before v in
    let calls = before ++ (c, m) ∷ then in
    let one : Tried = record { session = session; commands = calls } in
    let mark : Entry = Broke told commands others in
    let legal : IsLegal plant (first ++ mark ∷ []) s = subst (λ xs. IsLegal plant xs s) is are.0 in
    let all : AllByRecursion (MayTry plant) (passed ++ one ∷ behind) = subst (AllByRecursion (MayTry plant)) among (legal_back plant first (mark ∷ []) s legal).0 in
    let may : AllByRecursion (MayCall plant) calls = (each-back (MayTry plant) passed (one ∷ behind) all).0 in
    let here : IsSound plant t = legal-sound plant first s (opened-sound plant life.opens sound) (legal_front plant first (mark ∷ []) s legal) in
    let between : IsSound plant v = all_stepped-sound plant passed t here (each-front (MayTry plant) passed (one ∷ behind) all) in
    let there : IsSound plant u = stepped-sound plant session before v between (each-front (MayCall plant) before ((c, m) ∷ then) may) in
    let made : IsMade owner seq accepted (all_stepped plant behind (stepped plant session then (step plant session c m u).state)).persistent =
    made-all_stepped plant owner seq accepted behind (stepped plant session then (step plant session c m u).state)
    (made-stepped plant owner seq accepted session then (step plant session c m u).state (made-first plant owner seq session c m (answer_of accepted) accepted u there under refl (sym gave))) in
    let left : run_tried plant life.history s ≡ all_stepped plant behind (stepped plant session then (step plant session c m u).state) =
    ap (λ xs. run_tried plant xs s) is ∙ tried_append plant first (mark ∷ []) s (mark-last plant first mark [] s legal)
    ∙ ap (λ calls. all_stepped plant calls t) among ∙ all_stepped-append plant passed (one ∷ behind) t
    ∙ ap (all_stepped plant behind) (stepped_append plant session before ((c, m) ∷ then) v) in
    let opened_made : IsMade owner seq accepted next.opens = subst (IsMade owner seq accepted) (sym (opens ∙ ap (λ x. x.persistent) left)) made in
    spent-in plant owner seq accepted (next ∷ lives) are.2 (λ other rest same. let equal : next ≡ other = cc in subst (λ l. IsMade owner seq accepted l.opens) equal opened_made)
