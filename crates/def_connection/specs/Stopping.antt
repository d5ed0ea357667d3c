-- Source: own.
-- Why a talk stops, and which of the lines that were taken have no reply then.
use Rattle.std.specs.Prelude.{◌≡◌, ◌⊎◌, ℕ, ◌<◌, ◌≤◌, Bool, true, false, List, [], ◌∷◌, ◌++◌, length, map}
use Rattle.boss_model.specs.declared.command.Command.{Command}
use Rattle.boss_model.specs.Limits.{most_held}
use Rattle.def_connection.specs.Batches.{AreAsked}
use Rattle.def_connection.specs.Speech.{asks, watches, forbids, Footing, Manner, after_lines, after_talk, Reply, of_answer, of_memory, of_stop, of_denial, Speech, Exchange, unread, refused, called, line_in, AreRead, moments_in, is_end, EndsOnce}

-- Why it stops: the input was read to its end; the first line asks to watch a process, from this number of its notices on; a read, a
-- write or the clock failed; a line was too long, or was forbidden, which was told, or the write of that failed; as many lines came as
-- are taken; the disk has failed in a call or before it; or there was no memory to begin
pub data Stop : Type 0 where
  finish : Stop
  watching : List ℕ → ℕ → Stop
  read_fault : Stop
  write_fault : Stop
  clock_fault : Stop
  long_line : Stop
  long_untold : Stop
  wrong_key : Stop
  wrong_untold : Stop
  limit : Stop
  disk : Stop
  nothing : Stop

abbrev pub is_disk : Stop → Bool
is_disk disk = true
is_disk other = false

-- a line that is too long is told so, and one that is forbidden
abbrev pub end_text : Speech → Stop → List ℕ
end_text speech long_line = speech.too_long
end_text speech long_untold = speech.too_long
end_text speech wrong_key = speech.wrong_key
end_text speech wrong_untold = speech.wrong_key
end_text speech other = []

-- the last one is such, if there is one
abbrev pub last_is : {X : Type 0} → (X → Bool) → Bool → List X → Bool
last_is test before [] = before
last_is test before (x ∷ xs) = last_is test (test x) xs

-- ---- lines without a reply

-- there was no memory for the command, or a rule denies it
abbrev pub is_undone : Reply → Bool
is_undone (of_answer given) = false
is_undone of_memory = true
is_undone of_stop = false
is_undone (of_denial index rule) = true

abbrev pub is_passed : Exchange → Bool
is_passed (unread line) = false
is_passed (refused line why) = false
is_passed (called line command moment reply) = is_undone reply

-- a request that is held is called, unless a write failed: that of a reply to one before it which was not done
abbrev pub BreaksOff : Type 0 → List Exchange → List (Command × ℕ) → Type 0
BreaksOff failed talk uncalled = (uncalled ≡ []) ⊎ (failed × (last_is is_passed false talk ≡ true))

-- which requests that are held may be left uncalled
abbrev pub HeldAt : Stop → Type 0 → List Exchange → List (Command × ℕ) → Type 0
HeldAt disk failed talk uncalled = Unit {0}
HeldAt write_fault failed talk uncalled = BreaksOff failed talk uncalled
HeldAt clock_fault failed talk uncalled = BreaksOff failed talk uncalled
HeldAt other failed talk uncalled = uncalled ≡ []

-- the line behind all requests that is no exchange: the first one, which asks to watch; or the one at which the clock failed; or the one
-- that is forbidden; or one that came where a write or the disk failed. Else there is none
abbrev pub BehindAt : Manner → Footing → Stop → List (List ℕ) → Type 0
BehindAt manner at (watching name from) behind = (line : List ℕ) × (behind ≡ line ∷ []) × (manner.reading at line ≡ watches name from) × (at.later ≡ false) × (1 ≤ from)
BehindAt manner at clock_fault behind = (line : List ℕ) × (behind ≡ line ∷ []) × ((command : Command) × (manner.reading at line ≡ asks command))
BehindAt manner at wrong_key behind = (line : List ℕ) × (behind ≡ line ∷ []) × (manner.reading at line ≡ forbids)
BehindAt manner at wrong_untold behind = (line : List ℕ) × (behind ≡ line ∷ []) × (manner.reading at line ≡ forbids)
BehindAt manner at write_fault behind = length behind ≤ 1
BehindAt manner at disk behind = length behind ≤ 1
BehindAt manner at nothing behind = (behind ≡ []) × (at.later ≡ false)
BehindAt manner at other behind = behind ≡ []

-- Lines were heard: those that have a reply, those of requests that are held and were not called, fewer than are held together, and maybe
-- one behind them. That the disk has failed is told in the last reply, and nowhere else
pub record Leaves (speech : Speech) (at : Footing) (heard : List (List ℕ)) (stop : Stop) (failed : Type 0) (talk : List Exchange) (uncalled : List (Command × ℕ)) : Type 0 where
  pub held : List (List ℕ)
  pub behind : List (List ℕ)
  pub lines : heard ≡ map line_in talk ++ (held ++ behind)
  pub reads : AreRead speech.manner at talk
  pub ends : EndsOnce talk
  pub stopped : last_is is_end false talk ≡ is_disk stop
  pub asked : AreAsked speech.manner (after_talk speech.manner at talk) held uncalled
  pub kept : HeldAt stop failed talk uncalled
  pub few : length uncalled < most_held
  pub behind_is : BehindAt speech.manner (after_lines speech.manner (after_talk speech.manner at talk) held) stop behind

-- the clock is read once for each request that is called or held
abbrev pub moments_with : List Exchange → List (Command × ℕ) → List ℕ
moments_with talk uncalled = moments_in talk ++ map (λ call. call.1) uncalled
