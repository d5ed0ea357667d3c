-- One turn of a connection that watches, whole or cut, as a part of what was watched.
use Rattle.std.proofs.Common.{◌≡◌, ℕ, ◌≤◌, Bool, false, List, [], ◌∷◌, ◌++◌, length, refl, ap, sym, ◌∙◌, subst, append-nil, arith, Some}
use Rattle.boss_model.specs.declared.answer.Answer.{Answer}
use Rattle.boss_model.specs.declared.answer.Answer.TheVariants as answer
use Rattle.boss_model.specs.declared.command.Command.TheVariants as command
use Rattle.boss_model.specs.declared.notice.Notice.{Notice}
use Rattle.boss_outside.specs.Counts.{Rose}
use Rattle.boss_outside.specs.Streams.{TakesFront}
use Rattle.def_history.specs.declared.entry.Entry.{Entry}
use Rattle.def_history.specs.declared.entry.Entry.TheVariants.{Did}
use Rattle.def_history.specs.History.{deeds}
use Rattle.def_connection.specs.Talks.{Told, Standing}
use Rattle.def_connection.specs.Watching.{next_from, Watched, Watches, is_some_list}
use Rattle.def_connection.proofs.WatchLemmas.{watches-nothing, watched-of}
use Rattle.boss_watching.specs.Turns.{AddsTurn}

told-nothing : (old new : List ℕ) (before now : ℕ) → new ≡ old → Told old new before now []
told-nothing old new before now same = let is : new ≡ old ++ [] = same ∙ sym (append-nil old) in record { front = ([], [], refl, is); whole = λ none. is }

-- where the count of faults rose a front is enough
pub told-cut : (old new : List ℕ) (before now : ℕ) (text : List ℕ) → TakesFront old new text → Rose before now → Told old new before now text
told-cut old new before now text front rose = record { front = front; whole = λ none. absurd (none rose) }

module _ (notes : Answer → List ℕ) (session : ℕ) (name : List ℕ) (tells ticks : Type 0) (unanswered : Bool) (from : ℕ) where
  -- no call was answered
  pub watched-unused : (a c : Standing) (unused : List ℕ) → length unused ≤ 1 → (unanswered ≡ false → unused ≡ []) → deeds c.own ≡ deeds a.own → (tells → c.taken ≡ a.taken) →
      (ticks → c.given ≡ a.given ++ unused) → Watched notes session name tells ticks unanswered from a c
  watched-unused a c unused few used grew told gave = watched-of notes session name tells ticks unanswered from from a a c [] unused (watches-nothing notes session name tells ticks from a) few used
      (grew ∙ sym (append-nil (deeds a.own))) (λ tell. told-nothing a.taken c.taken a.faults c.faults (told tell)) gave

  -- what was watched ends here
  pub watched-whole : (next : ℕ) (a b : Standing) → Watches notes session name tells ticks from next a b → Watched notes session name tells ticks unanswered from a b
  watched-whole next a b watches = watched-of notes session name tells ticks unanswered from next a b b [] [] watches (omega arith) (λ answered. refl)
      (sym (append-nil (deeds b.own))) (λ tell. told-nothing b.taken b.taken b.faults b.faults refl) (λ tick. sym (append-nil b.given))

  -- or later
  pub watched-behind : (next : ℕ) (a b c : Standing) → Watches notes session name tells ticks from next a b → Watched notes session name tells ticks unanswered next b c →
      Watched notes session name tells ticks unanswered from a c
  watched-behind next a b c watches w = watched-of notes session name tells ticks unanswered from next a b c w.noticed.turns w.noticed.unused watches w.noticed.few w.noticed.used
      (w.grew ∙ ap (λ es. deeds b.own ++ es) w.noticed.all_entries) w.noticed.told (λ tick. w.gave tick ∙ ap (λ ms. b.given ++ ms) w.noticed.all_moments)

  -- one call was answered
  module _ (a c : Standing) (moment : ℕ) (given : Answer) (grew : deeds c.own ≡ deeds a.own ++ Did session (command.Notices (Some name) from 64) moment given ∷ [])
      (gave : ticks → c.given ≡ a.given ++ moment ∷ []) where
    pub watched-turn : (tells → Told a.taken c.taken a.faults c.faults (notes given)) → Watched notes session name tells ticks unanswered from a c
    watched-turn told = watched-of notes session name tells ticks unanswered from from a a c ((moment, given) ∷ []) [] (watches-nothing notes session name tells ticks from a) (omega arith) (λ answered. refl)
        grew (λ tell. subst (Told a.taken c.taken a.faults c.faults) (sym (append-nil (notes given))) (told tell)) gave

    pub watches-turn : (tells → c.taken ≡ a.taken ++ notes given) → c.faults ≡ a.faults → Watches notes session name tells ticks from (next_from from given) a c
    watches-turn told calm = record {
      turns = (moment, given) ∷ [];
      grew = grew;
      asked = refl;
      told = λ tell. told tell ∙ ap (λ text. a.taken ++ text) (sym (append-nil (notes given)));
      calm = calm;
      gave = gave;
    }

-- the entry of a turn
pub adds-turn : (session from moment first next : ℕ) (name : List ℕ) (list : List Notice) (told : Bool) (old new : List Entry) →
    deeds new ≡ deeds old ++ Did session (command.Notices (Some name) from 64) moment (answer.Notices first next list) ∷ [] → is_some_list list ≡ told → AddsTurn told old new
adds-turn session from moment first next name list told old new grew is = record {
  entry = Did session (command.Notices (Some name) from 64) moment (answer.Notices first next list);
  grew = grew;
  is_told = is;
}
