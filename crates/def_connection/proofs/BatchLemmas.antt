-- The exchanges of a batch.
use Rattle.std.proofs.Common.{◌≡◌, ℕ, ◌≤◌, List, [], ◌∷◌, ◌++◌, length, map, drop, refl, ap, arith}
use Rattle.boss_model.specs.declared.answer.Answer.{Answer}
use Rattle.boss_model.specs.declared.command.Command.{Command}
use Rattle.def_history.specs.declared.entry.Entry.TheVariants.{Did}
use Rattle.def_history.specs.Made.{done_by}
use Rattle.def_connection.specs.Batches.{AreAsked, batch, deeds_by, texts_by}
use Rattle.def_connection.specs.Speech.{Footing, Manner, Reply, of_answer, Speech, line_in, after, after_lines, after_talk, AreRead, text_in, deeds_in, moments_in, entry_of}

module _ (manner : Manner) where
  pub batch-lines : (at : Footing) (lines : List (List ℕ)) (calls : List (Command × ℕ)) (replies : List Reply) → AreAsked manner at lines calls →
      length replies ≤ length calls → lines ≡ map line_in (batch lines calls replies) ++ drop (length replies) lines
  batch-lines at [] [] [] asked few = refl
  batch-lines at [] [] (reply ∷ replies) asked few = refl
  batch-lines at [] (call ∷ calls) replies asked few = absurd asked
  batch-lines at (line ∷ lines) [] replies asked few = absurd asked
  batch-lines at (line ∷ lines) (call ∷ calls) [] asked few = refl
  batch-lines at (line ∷ lines) (call ∷ calls) (reply ∷ replies) asked few = ap (λ rest. line ∷ rest) (batch-lines (after manner at line) lines calls replies asked.1 (omega arith))

  pub batch-reads : (at : Footing) (lines : List (List ℕ)) (calls : List (Command × ℕ)) (replies : List Reply) → AreAsked manner at lines calls →
      AreRead manner at (batch lines calls replies)
  batch-reads at [] calls replies asked = tt
  batch-reads at (line ∷ lines) [] replies asked = tt
  batch-reads at (line ∷ lines) (call ∷ calls) [] asked = tt
  batch-reads at (line ∷ lines) (call ∷ calls) (reply ∷ replies) asked = (asked.0, batch-reads (after manner at line) lines calls replies asked.1)

  -- what is not replied to is asked for
  pub batch-asked : (at : Footing) (lines : List (List ℕ)) (calls : List (Command × ℕ)) (replies : List Reply) → AreAsked manner at lines calls →
      AreAsked manner (after_talk manner at (batch lines calls replies)) (drop (length replies) lines) (drop (length replies) calls)
  batch-asked at [] [] [] asked = tt
  batch-asked at [] [] (reply ∷ replies) asked = tt
  batch-asked at [] (call ∷ calls) replies asked = absurd asked
  batch-asked at (line ∷ lines) [] replies asked = absurd asked
  batch-asked at (line ∷ lines) (call ∷ calls) [] asked = asked
  batch-asked at (line ∷ lines) (call ∷ calls) (reply ∷ replies) asked =
      batch-asked (after manner at line) lines calls replies asked.1

  -- what follows is read on the same footing
  pub batch-after : (at : Footing) (lines : List (List ℕ)) (calls : List (Command × ℕ)) (replies : List Reply) → AreAsked manner at lines calls →
      after_lines manner at lines ≡ after_lines manner (after_talk manner at (batch lines calls replies)) (drop (length replies) lines)
  batch-after at [] [] [] asked = refl
  batch-after at [] [] (reply ∷ replies) asked = refl
  batch-after at [] (call ∷ calls) replies asked = absurd asked
  batch-after at (line ∷ lines) [] replies asked = absurd asked
  batch-after at (line ∷ lines) (call ∷ calls) [] asked = refl
  batch-after at (line ∷ lines) (call ∷ calls) (reply ∷ replies) asked = batch-after (after manner at line) lines calls replies asked.1

  pub batch-deeds : (session : ℕ) (at : Footing) (lines : List (List ℕ)) (calls : List (Command × ℕ)) (replies : List Reply) → AreAsked manner at lines calls →
      deeds_in session (batch lines calls replies) ≡ deeds_by session calls replies
  batch-deeds session at [] [] replies asked = refl
  batch-deeds session at [] (call ∷ calls) replies asked = absurd asked
  batch-deeds session at (line ∷ lines) [] replies asked = absurd asked
  batch-deeds session at (line ∷ lines) (call ∷ calls) [] asked = refl
  batch-deeds session at (line ∷ lines) (call ∷ calls) (reply ∷ replies) asked =
      ap (λ rest. entry_of session call.0 call.1 reply ++ rest) (batch-deeds session (after manner at line) lines calls replies asked.1)

  pub batch-text : (speech : Speech) (at : Footing) (lines : List (List ℕ)) (calls : List (Command × ℕ)) (replies : List Reply) → AreAsked manner at lines calls →
      length replies ≤ length calls → text_in speech (batch lines calls replies) ≡ texts_by speech replies
  batch-text speech at [] [] [] asked few = refl
  batch-text speech at [] [] (reply ∷ replies) asked few = absurd (omega (arith, few))
  batch-text speech at [] (call ∷ calls) replies asked few = absurd asked
  batch-text speech at (line ∷ lines) [] replies asked few = absurd asked
  batch-text speech at (line ∷ lines) (call ∷ calls) [] asked few = refl
  batch-text speech at (line ∷ lines) (call ∷ calls) (reply ∷ replies) asked few =
      ap (λ rest. speech.reply_text reply ++ rest) (batch-text speech (after manner at line) lines calls replies asked.1 (omega arith))

  pub batch-moments : (at : Footing) (lines : List (List ℕ)) (calls : List (Command × ℕ)) (replies : List Reply) → AreAsked manner at lines calls →
      map (λ call. call.1) calls ≡ moments_in (batch lines calls replies) ++ map (λ call. call.1) (drop (length replies) calls)
  batch-moments at [] [] [] asked = refl
  batch-moments at [] [] (reply ∷ replies) asked = refl
  batch-moments at [] (call ∷ calls) replies asked = absurd asked
  batch-moments at (line ∷ lines) [] replies asked = absurd asked
  batch-moments at (line ∷ lines) (call ∷ calls) [] asked = refl
  batch-moments at (line ∷ lines) (call ∷ calls) (reply ∷ replies) asked = ap (λ rest. call.1 ∷ rest) (batch-moments (after manner at line) lines calls replies asked.1)

-- what a desk did for as many calls as it answered
pub deeds-answered : (session : ℕ) (calls : List (Command × ℕ)) (answers : List Answer) → deeds_by session calls (map of_answer answers) ≡ done_by session calls answers
deeds-answered session [] [] = refl
deeds-answered session [] (answer ∷ answers) = refl
deeds-answered session (call ∷ calls) [] = refl
deeds-answered session (call ∷ calls) (answer ∷ answers) = ap (λ rest. Did session call.0 call.1 answer ∷ rest) (deeds-answered session calls answers)
