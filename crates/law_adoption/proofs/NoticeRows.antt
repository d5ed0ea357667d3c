-- What is left of a process's notices, computed from the definitions alone.
use Rattle.std.proofs.Common.{◌≡◌, List, [], ◌∷◌, refl}
use Rattle.std.specs.Prelude.{codes, Some, None}
use Rattle.boss_model.specs.declared.answer.Answer.TheVariants as answer
use Rattle.boss_model.specs.declared.notice.Cause.TheVariants as cause
use Rattle.boss_model.specs.declared.notice.Notice.{Notice}
use Rattle.boss_model.specs.declared.notice.What.TheVariants as what
use Rattle.boss_model.specs.Happenings.{posted}
use Rattle.boss_model.specs.Queries.{first_kept, notices}
use Rattle.boss_model.specs.State.{Process, first_persistent}
use Rattle.boss_model.proofs.Building.{damper, lamp, fan, notice}
use Rattle.law_adoption.specs.Adopted.{last_passing, notice_stays, moved_process}
use Rattle.law_adoption.specs.Renumber.{renumbered}
use Rattle.law_adoption.proofs.Catalogues.{old, changed, lamp_and_damper}

abbrev told : List Notice → Process
told kept = record { name = codes "a"; count = 3; kept = kept; reply = None }

abbrev left : List Notice → Process
left kept = moved_process (renumbered old changed) (told kept)

-- ---- the fan is removed

-- the first of three goes
first_goes : left (notice 1 2000 1 (what.Ended fan cause.Expired) ∷ notice 2 3000 1 (what.Ended damper cause.Expired) ∷ notice 3 3000 1 what.Done ∷ [])
    ≡ told (notice 2 3000 1 (what.Ended damper cause.Expired) ∷ notice 3 3000 1 what.Done ∷ [])
first_goes = refl

-- what is asked from the first number on starts with the second
starts_later : notices (Some 0) 1 16 (record first_persistent {
  processes = left (notice 1 2000 1 (what.Ended fan cause.Expired) ∷ notice 2 3000 1 (what.Ended damper cause.Expired) ∷ notice 3 3000 1 what.Done ∷ []) ∷ [];
})
    ≡ answer.Notices 2 4 (notice 2 3000 1 (what.Ended damper cause.Expired) ∷ notice 3 3000 1 what.Done ∷ [])
starts_later = refl

-- where the last names it none is left, so that what is kept has no gap; the count stays, and the next notice is number 4
all_go : left (notice 1 2000 1 (what.Ended damper cause.Expired) ∷ notice 2 2000 1 what.Done ∷ notice 3 3000 2 (what.Fault fan) ∷ []) ≡ told []
all_go = refl

none_kept : first_kept (told []) ≡ 4
none_kept = refl

next_notice : posted 4000 2 what.Done (told []) ≡ record { name = codes "a"; count = 4; kept = notice 4 4000 2 what.Done ∷ []; reply = None }
next_notice = refl

-- each kind of notice names its point
each_kind : last_passing (notice_stays (renumbered old changed)) (
    notice 1 1000 1 (what.Fault fan) ∷ notice 2 1000 1 (what.Ended fan cause.Died) ∷ notice 3 1000 1 (what.Reverted fan) ∷ notice 4 1000 1 (what.Cut fan 2) ∷ [])
    ≡ []
each_kind = refl

-- ---- the lamp stands first, and the damper second

renamed : moved_process (renumbered old lamp_and_damper) (told (
    notice 1 1000 1 (what.Fault damper) ∷ notice 2 1000 1 (what.Reverted lamp) ∷ notice 3 2000 1 (what.Cut damper 2) ∷ []))
    ≡ told (notice 1 1000 1 (what.Fault 1) ∷ notice 2 1000 1 (what.Reverted 0) ∷ notice 3 2000 1 (what.Cut 1 2) ∷ [])
renamed = refl
