-- What is held at the gates, and the names of sessions.
use Rattle.std.proofs.Common.{◌≡◌, ◌⊎◌, inl, inr, ℕ, ◌==◌, Bool, true, false, if◌then◌else◌, List, [], ◌∷◌, ◌++◌, length, drop, Option, Some, None, refl, ap, sym, ◌∙◌, subst, arith}
use Rattle.std.proofs.lemmas.Bool.Decides.{nat_tests}
use Rattle.boss_model.specs.declared.answer.Answer.{Answer}
use Rattle.boss_model.specs.declared.answer.Answer.TheVariants as answer
use Rattle.boss_model.specs.declared.command.Command.{Command}
use Rattle.boss_model.specs.declared.command.Command.TheVariants as command
use Rattle.def_history.specs.declared.outcome.Outcome.{Outcome}
use Rattle.def_history.specs.declared.outcome.Outcome.TheVariants.{Done, Stopped, DiskFault, NoMemory, Denied}
use Rattle.boss_shared.specs.Gates.{Holding, all_held_by, denied_at, denied_to, denied_writes, held_after, held_by, or_else, AllowedAll, NextJudged}
use Rattle.def_connection.specs.Batches.{AreAsked, batch}
use Rattle.def_connection.specs.Judging.{denial_in, denied_by, denied_for, name_by, name_after, name_in, AreJudged, or_denied}
use Rattle.def_connection.specs.Speech.{Gate, Footing, Manner, after, Reply, of_answer, of_memory, of_stop, of_denial}
use Rattle.boss_sessions.specs.Holding.{held_behind, JudgedBy, HoldsAt, Holds, LeavesOthers}
use Rattle.boss_sessions.specs.Turns.{IsRest, replies_of}

-- ---- one gate

same-session : (session : ℕ) → (session == session) ≡ true
same-session session = grind (arith, nat_tests)

or-same : (first second : Option (ℕ × ℕ)) → or_else first second ≡ or_denied first second
or-same None second = refl
or-same (Some denial) second = refl

denied-other : (gate : Gate) (session : ℕ) (held : ℕ × List ℕ) (asked : Command) → (held.0 == session) ≡ false → denied_at gate (Some held) session asked ≡ denied_by gate None asked
denied-other gate session held (command.Attach known) is = refl
denied-other gate session held (command.Submit writes policy seq) is = ap (λ t. if t then denied_writes gate held.1 writes else None) is
denied-other gate session held (command.Renew txn length points seq) is = refl
denied-other gate session held (command.Cancel txn seq) is = refl
denied-other gate session held command.Gone is = refl
denied-other gate session held command.Tick is = refl
denied-other gate session held (command.Next driver) is = refl
denied-other gate session held (command.Report point version ok) is = refl
denied-other gate session held (command.Doubt point differs) is = refl
denied-other gate session held (command.Read point) is = refl
denied-other gate session held (command.Array point) is = refl
denied-other gate session held (command.Status txn) is = refl
denied-other gate session held (command.Notices known from most) is = refl
denied-other gate session held (command.Points from most) is = refl
denied-other gate session held command.Version is = refl

denied-own : (gate : Gate) (session : ℕ) (name : List ℕ) (asked : Command) → denied_at gate (Some (session, name)) session asked ≡ denied_by gate (Some name) asked
denied-own gate session name (command.Attach known) = refl
denied-own gate session name (command.Submit writes policy seq) = ap (λ t. if t then denied_writes gate name writes else None) (same-session session)
denied-own gate session name (command.Renew txn length points seq) = refl
denied-own gate session name (command.Cancel txn seq) = refl
denied-own gate session name command.Gone = refl
denied-own gate session name command.Tick = refl
denied-own gate session name (command.Next driver) = refl
denied-own gate session name (command.Report point version ok) = refl
denied-own gate session name (command.Doubt point differs) = refl
denied-own gate session name (command.Read point) = refl
denied-own gate session name (command.Array point) = refl
denied-own gate session name (command.Status txn) = refl
denied-own gate session name (command.Notices known from most) = refl
denied-own gate session name (command.Points from most) = refl
denied-own gate session name command.Version = refl

-- with no name and with nothing of the session held, an attach alone may be denied
denied-none : (gate : Gate) (session : ℕ) (asked : Command) → denied_at gate None session asked ≡ denied_by gate None asked
denied-none gate session (command.Attach known) = refl
denied-none gate session (command.Submit writes policy seq) = refl
denied-none gate session (command.Renew txn length points seq) = refl
denied-none gate session (command.Cancel txn seq) = refl
denied-none gate session command.Gone = refl
denied-none gate session command.Tick = refl
denied-none gate session (command.Next driver) = refl
denied-none gate session (command.Report point version ok) = refl
denied-none gate session (command.Doubt point differs) = refl
denied-none gate session (command.Read point) = refl
denied-none gate session (command.Array point) = refl
denied-none gate session (command.Status txn) = refl
denied-none gate session (command.Notices known from most) = refl
denied-none gate session (command.Points from most) = refl
denied-none gate session command.Version = refl

denied-one : (gate : Gate) (session : ℕ) (name : Option (List ℕ)) (one : Holding) (asked : Command) → HoldsAt session name one → denied_at gate one session asked ≡ denied_by gate name asked
denied-one gate session None None asked holds = denied-none gate session asked
denied-one gate session None (Some held) asked holds = denied-other gate session held asked holds
denied-one gate session (Some name) one asked holds = ap (λ held. denied_at gate held session asked) holds ∙ denied-own gate session name asked

-- a command is answered: what is held and the name stay, or both are cleared, or both are set
abbrev Moves : ℕ → Option (List ℕ) → Option (List ℕ) → Holding → Holding → Type 0
Moves session name name' one one' = ((name' ≡ name) × (one' ≡ one)) ⊎ (((name' ≡ None) × (one' ≡ None)) ⊎ ((known : List ℕ) × (name' ≡ Some known) × (one' ≡ Some (session, known))))

moves : (session : ℕ) (name : Option (List ℕ)) (one : Holding) (asked : Command) (given : Answer) → Moves session name (name_by name asked given) one (held_by session asked given one)
moves session name one (command.Attach known) (answer.Attached same next) = inr (inr (known, refl, refl))
moves session name one (command.Attach known) (answer.Accepted txn until) = inl (refl, refl)
moves session name one (command.Attach known) (answer.Renewed txn until) = inl (refl, refl)
moves session name one (command.Attach known) (answer.Cancelled txn at) = inl (refl, refl)
moves session name one (command.Attach known) (answer.Gone ended) = inl (refl, refl)
moves session name one (command.Attach known) (answer.Ticked now) = inl (refl, refl)
moves session name one (command.Attach known) (answer.Want point version value) = inl (refl, refl)
moves session name one (command.Attach known) answer.Nothing = inl (refl, refl)
moves session name one (command.Attach known) (answer.Noted current) = inl (refl, refl)
moves session name one (command.Attach known) (answer.Reading point value basis mark differed took) = inl (refl, refl)
moves session name one (command.Attach known) (answer.Array point slots) = inl (refl, refl)
moves session name one (command.Attach known) (answer.Status txn owner stage live pending) = inl (refl, refl)
moves session name one (command.Attach known) (answer.Notices first next list) = inl (refl, refl)
moves session name one (command.Attach known) (answer.Points from most) = inl (refl, refl)
moves session name one (command.Attach known) answer.Version = inl (refl, refl)
moves session name one (command.Attach known) (answer.Refused refusal) = inl (refl, refl)
moves session name one (command.Submit writes policy seq) given = inl (refl, refl)
moves session name one (command.Renew txn length points seq) given = inl (refl, refl)
moves session name one (command.Cancel txn seq) given = inl (refl, refl)
moves session name one command.Gone (answer.Attached same next) = inl (refl, refl)
moves session name one command.Gone (answer.Accepted txn until) = inl (refl, refl)
moves session name one command.Gone (answer.Renewed txn until) = inl (refl, refl)
moves session name one command.Gone (answer.Cancelled txn at) = inl (refl, refl)
moves session name one command.Gone (answer.Gone ended) = inr (inl (refl, refl))
moves session name one command.Gone (answer.Ticked now) = inl (refl, refl)
moves session name one command.Gone (answer.Want point version value) = inl (refl, refl)
moves session name one command.Gone answer.Nothing = inl (refl, refl)
moves session name one command.Gone (answer.Noted current) = inl (refl, refl)
moves session name one command.Gone (answer.Reading point value basis mark differed took) = inl (refl, refl)
moves session name one command.Gone (answer.Array point slots) = inl (refl, refl)
moves session name one command.Gone (answer.Status txn owner stage live pending) = inl (refl, refl)
moves session name one command.Gone (answer.Notices first next list) = inl (refl, refl)
moves session name one command.Gone (answer.Points from most) = inl (refl, refl)
moves session name one command.Gone answer.Version = inl (refl, refl)
moves session name one command.Gone (answer.Refused refusal) = inl (refl, refl)
moves session name one command.Tick given = inl (refl, refl)
moves session name one (command.Next driver) given = inl (refl, refl)
moves session name one (command.Report point version ok) given = inl (refl, refl)
moves session name one (command.Doubt point differs) given = inl (refl, refl)
moves session name one (command.Read point) given = inl (refl, refl)
moves session name one (command.Array point) given = inl (refl, refl)
moves session name one (command.Status txn) given = inl (refl, refl)
moves session name one (command.Notices known from most) given = inl (refl, refl)
moves session name one (command.Points from most) given = inl (refl, refl)
moves session name one command.Version given = inl (refl, refl)

holds-moved : (session : ℕ) (name name' : Option (List ℕ)) (one one' : Holding) → Moves session name name' one one' → HoldsAt session name one → HoldsAt session name' one'
holds-moved session name name' one one' (inl stays) holds = subst (λ n. HoldsAt session n one') (sym stays.0) (subst (HoldsAt session name) (sym stays.1) holds)
holds-moved session name name' one one' (inr (inl clears)) holds = subst (λ n. HoldsAt session n one') (sym clears.0) (subst (HoldsAt session None) (sym clears.1) tt)
holds-moved session name name' one one' (inr (inr sets)) holds = subst (λ n. HoldsAt session n one') (sym sets.1) sets.2

others-moved : (session other : ℕ) (name name' : Option (List ℕ)) (one one' : Holding) → (session == other) ≡ false → Moves session name name' one one' → HoldsAt other None one → HoldsAt other None one'
others-moved session other name name' one one' apart (inl stays) holds = subst (HoldsAt other None) (sym stays.1) holds
others-moved session other name name' one one' apart (inr (inl clears)) holds = subst (HoldsAt other None) (sym clears.1) tt
others-moved session other name name' one one' apart (inr (inr sets)) holds = subst (HoldsAt other None) (sym sets.2) apart

-- ---- all gates

pub denied-named : (gates : List Gate) (session : ℕ) (name : Option (List ℕ)) (held : List Holding) (asked : Command) → Holds gates session name held →
    denied_to gates held session asked ≡ denied_for gates name asked
denied-named [] session name held asked holds = refl
denied-named (gate ∷ gates) session name [] asked holds = absurd holds
denied-named (gate ∷ gates) session name (one ∷ others) asked holds = or-same (denied_at gate one session asked) (denied_to gates others session asked)
    ∙ (λ i. or_denied (denied-one gate session name one asked holds.0 i) (denied-named gates session name others asked holds.1 i))

holds-answered : (gates : List Gate) (session : ℕ) (name : Option (List ℕ)) (held : List Holding) (asked : Command) (given : Answer) → Holds gates session name held →
    Holds gates session (name_by name asked given) (all_held_by session asked given held)
holds-answered [] session name held asked given holds = tt
holds-answered (gate ∷ gates) session name [] asked given holds = absurd holds
holds-answered (gate ∷ gates) session name (one ∷ others) asked given holds =
    (holds-moved session name _ one _ (moves session name one asked given) holds.0, holds-answered gates session name others asked given holds.1)

holds-behind : (gates : List Gate) (session : ℕ) (name : Option (List ℕ)) (held : List Holding) (asked : Command) (reply : Reply) → Holds gates session name held →
    Holds gates session (name_after name asked reply) (held_behind session asked reply held)
holds-behind gates session name held asked (of_answer given) holds = holds-answered gates session name held asked given holds
holds-behind gates session name held asked of_memory holds = holds
holds-behind gates session name held asked of_stop holds = holds
holds-behind gates session name held asked (of_denial index rule) holds = holds

others-answered : (gates : List Gate) (session : ℕ) (held : List Holding) (asked : Command) (given : Answer) → LeavesOthers gates session held (all_held_by session asked given held)
others-answered [] session held asked given other apart holds = tt
others-answered (gate ∷ gates) session [] asked given other apart holds = absurd holds
others-answered (gate ∷ gates) session (one ∷ others) asked given other apart holds =
    (others-moved session other None _ one _ apart (moves session None one asked given) holds.0, others-answered gates session others asked given other apart holds.1)

others-behind : (gates : List Gate) (session : ℕ) (held : List Holding) (asked : Command) (reply : Reply) → LeavesOthers gates session held (held_behind session asked reply held)
others-behind gates session held asked (of_answer given) other apart holds = others-answered gates session held asked given other apart holds
others-behind gates session held asked of_memory other apart holds = holds
others-behind gates session held asked of_stop other apart holds = holds
others-behind gates session held asked (of_denial index rule) other apart holds = holds

-- one call
pub others-after : (gates : List Gate) (session : ℕ) (held held' : List Holding) (asked : Command) (outcome : Outcome) → held' ≡ held_after session asked outcome held →
    LeavesOthers gates session held held'
others-after gates session held held' asked (Done given) is other apart holds = subst (Holds gates other None) (sym is) (others-answered gates session held asked given other apart holds)
others-after gates session held held' asked Stopped is other apart holds = subst (Holds gates other None) (sym is) holds
others-after gates session held held' asked DiskFault is other apart holds = subst (Holds gates other None) (sym is) holds
others-after gates session held held' asked NoMemory is other apart holds = subst (Holds gates other None) (sym is) holds
others-after gates session held held' asked (Denied index rule) is other apart holds = subst (Holds gates other None) (sym is) holds

-- ---- several commands

module _ (gates : List Gate) (session : ℕ) where
  judged-none : (calls : List (Command × ℕ)) (held held' : List Holding) → held' ≡ held → JudgedBy gates session calls [] held held'
  judged-none [] held held' is = is
  judged-none (call ∷ calls) held held' is = is

  -- one that was not done leaves all as it was
  judged-last : (call : Command × ℕ) (calls : List (Command × ℕ)) (reply : Reply) (held held' : List Holding) → held_behind session call.0 reply held ≡ held → held' ≡ held →
      denial_in reply ≡ denied_to gates held' session call.0 → JudgedBy gates session (call ∷ calls) (reply ∷ []) held held'
  judged-last call calls reply held held' stays is judged =
      (subst (λ h. denial_in reply ≡ denied_to gates h session call.0) is judged, judged-none calls (held_behind session call.0 reply held) held' (is ∙ sym stays))

  judged-at : (call : Command × ℕ) (calls : List (Command × ℕ)) (rest : Option Outcome) (held held' : List Holding) → IsRest rest → held' ≡ held →
      NextJudged gates held' session (call ∷ calls) 0 rest → JudgedBy gates session (call ∷ calls) (replies_of [] rest) held held'
  judged-at call calls None held held' is same next = same
  judged-at call calls (Some (Done given)) held held' is same next = absurd is
  judged-at call calls (Some Stopped) held held' is same next = judged-last call calls of_stop held held' refl same next
  judged-at call calls (Some DiskFault) held held' is same next = judged-last call calls of_stop held held' refl same next
  judged-at call calls (Some NoMemory) held held' is same next = judged-last call calls of_memory held held' refl same next
  judged-at call calls (Some (Denied index rule)) held held' is same next = judged-last call calls (of_denial index rule) held held' refl same next

  judged-ended : (replies : List Reply) (held held' : List Holding) → held' ≡ held → JudgedBy gates session [] replies held held'
  judged-ended [] held held' is = is
  judged-ended (reply ∷ replies) held held' is = is

  -- the replies to what a desk answered, and to what it did not
  pub judged-replies : (calls : List (Command × ℕ)) (answers : List Answer) (rest : Option Outcome) (held held' : List Holding) → IsRest rest → AllowedAll gates session calls answers held held' →
      NextJudged gates held' session calls (length answers) rest → JudgedBy gates session calls (replies_of answers rest) held held'
  judged-replies [] [] rest held held' is allowed next = judged-ended (replies_of [] rest) held held' allowed
  judged-replies [] (given ∷ answers) rest held held' is allowed next = judged-ended (replies_of (given ∷ answers) rest) held held' allowed
  judged-replies (call ∷ calls) [] rest held held' is allowed next = judged-at call calls rest held held' is allowed next
  judged-replies (call ∷ calls) (given ∷ answers) rest held held' is allowed next =
      (sym allowed.0, judged-replies calls answers rest (all_held_by session call.0 given held) held' is allowed.1 next)

  pub judged-nothing : (calls : List (Command × ℕ)) (held : List Holding) → JudgedBy gates session calls [] held held
  judged-nothing calls held = judged-none calls held held refl

  pub judged-then : (calls : List (Command × ℕ)) (xs ys : List Reply) (a b c : List Holding) → JudgedBy gates session calls xs a b → JudgedBy gates session (drop (length xs) calls) ys b c →
      JudgedBy gates session calls (xs ++ ys) a c
  judged-then calls [] ys a b c one other = subst (λ h. JudgedBy gates session calls ys h c) (is calls one) other
    where
      is : (calls : List (Command × ℕ)) → JudgedBy gates session calls [] a b → b ≡ a
      is [] same = same
      is (call ∷ calls) same = same
  judged-then [] (x ∷ xs) ys a b c one other = ended ys other ∙ one
    where
      ended : (ys : List Reply) → JudgedBy gates session [] ys b c → c ≡ b
      ended [] same = same
      ended (y ∷ ys) same = same
  judged-then (call ∷ calls) (x ∷ xs) ys a b c one other = (one.0, judged-then calls xs ys (held_behind session call.0 x a) b c one.1 other)

  pub others-judged : (calls : List (Command × ℕ)) (replies : List Reply) (held held' : List Holding) → JudgedBy gates session calls replies held held' → LeavesOthers gates session held held'
  others-judged calls [] held held' judged other apart holds = subst (Holds gates other None) (sym (is calls judged)) holds
    where
      is : (calls : List (Command × ℕ)) → JudgedBy gates session calls [] held held' → held' ≡ held
      is [] same = same
      is (call ∷ calls) same = same
  others-judged [] (reply ∷ replies) held held' judged other apart holds = subst (Holds gates other None) (sym judged) holds
  others-judged (call ∷ calls) (reply ∷ replies) held held' judged other apart holds =
      others-judged calls replies (held_behind session call.0 reply held) held' judged.1 other apart (others-behind gates session held call.0 reply other apart holds)

-- the exchanges of a batch are judged by the name that the session has, and it has a name behind them
pub batch-judged : (manner : Manner) (gates : List Gate) (session : ℕ) (name : Option (List ℕ)) (at : Footing) (lines : List (List ℕ)) (calls : List (Command × ℕ)) (replies : List Reply)
    (held held' : List Holding) → AreAsked manner at lines calls → JudgedBy gates session calls replies held held' → Holds gates session name held →
    AreJudged gates name (batch lines calls replies) × Holds gates session (name_in name (batch lines calls replies)) held'
batch-judged manner gates session name at [] [] [] held held' asked judged holds = (tt, subst (Holds gates session name) (sym judged) holds)
batch-judged manner gates session name at [] [] (reply ∷ replies) held held' asked judged holds = (tt, subst (Holds gates session name) (sym judged) holds)
batch-judged manner gates session name at [] (call ∷ calls) replies held held' asked judged holds = absurd asked
batch-judged manner gates session name at (line ∷ lines) [] replies held held' asked judged holds = absurd asked
batch-judged manner gates session name at (line ∷ lines) (call ∷ calls) [] held held' asked judged holds = (tt, subst (Holds gates session name) (sym judged) holds)
batch-judged manner gates session name at (line ∷ lines) (call ∷ calls) (reply ∷ replies) held held' asked judged holds =
    let more = batch-judged manner gates session (name_after name call.0 reply) (after manner at line) lines calls replies (held_behind session call.0 reply held) held' asked.1 judged.1
    (holds-behind gates session name held call.0 reply holds) in
    ((judged.0 ∙ denied-named gates session name held call.0 holds, more.0), more.1)
