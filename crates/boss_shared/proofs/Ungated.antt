-- What holds of a desk without gates, which denies nothing.
use Rattle.std.proofs.Common.{◌≡◌, ℕ, zero, suc, List, [], ◌∷◌, Option, None, refl}
use Rattle.boss_model.specs.declared.answer.Answer.{Answer}
use Rattle.boss_model.specs.declared.command.Command.{Command}
use Rattle.def_history.specs.declared.outcome.Outcome.{Outcome}
use Rattle.def_history.specs.declared.outcome.Outcome.TheVariants.{Done, Stopped, DiskFault, NoMemory, Denied}
use Rattle.boss_shared.specs.Calls.{MayDeny}
use Rattle.boss_shared.specs.Gates.{denial_of, denial_of_rest, held_after, AllowedAll, Holding, NextJudged}

pub held_ungated : (session : ℕ) (asked : Command) (outcome : Outcome) → (let none : List Holding = [] in none ≡ held_after session asked outcome [])
held_ungated session asked (Done answer) = refl
held_ungated session asked Stopped = refl
held_ungated session asked DiskFault = refl
held_ungated session asked NoMemory = refl
held_ungated session asked (Denied index rule) = refl

pub asked_ungated : (asked : Command) (outcome : Outcome) → denial_of outcome ≡ None → MayDeny asked outcome
asked_ungated asked (Done answer) undenied = tt
asked_ungated asked Stopped undenied = tt
asked_ungated asked DiskFault undenied = tt
asked_ungated asked NoMemory undenied = tt
asked_ungated asked (Denied index rule) undenied = absurd cc

pub allowed_ungated : (session : ℕ) (calls : List (Command × ℕ)) (answers : List Answer) → AllowedAll [] session calls answers [] []
allowed_ungated session [] answers = refl
allowed_ungated session (call ∷ calls) [] = refl
allowed_ungated session (call ∷ calls) (given ∷ answers) = (refl, allowed_ungated session calls answers)

pub judged_ungated : (session : ℕ) (calls : List (Command × ℕ)) (done : ℕ) (rest : Option Outcome) → denial_of_rest rest ≡ None →
    NextJudged [] [] session calls done rest
judged_ungated session [] done rest undenied = tt
judged_ungated session (call ∷ calls) zero rest undenied = undenied
judged_ungated session (call ∷ calls) (suc done) rest undenied = judged_ungated session calls done rest undenied
