use Rattle.std.proofs.Common.{◌≡◌, inl, inr, Err, ap, [], ◌∷◌, refl, sym, subst, ◌∙◌}
use Rattle.boss_files.specs.Names.{second_name}
use Rattle.boss_jobs.specs.Journals.{AsksFront, in_files, on_disks}
use Rattle.boss_jobs.proofs.KeptLemmas.{front-asked, none-asked}
use Rattle.boss_jobs.proofs.Lifting.{stores-follow}
use Rattle.boss_server.specs.Sites.{gates_of}
use Rattle.boss_serve_jobs.proofs.ServeLifting.{serves-so}
use Rattle.boss_jobs.proofs.StandingLemmas.{failed-rose, files-stand, lacking-stood, nothing-stands}
use Rattle.boss_serve_jobs.proofs.serve_jobs.serve_in_files.Goals as goal

pub returns-in_default-clause-asks : goal.returns-in_default-clause-asks
returns-in_default-clause-asks g c tells = none-asked _ (g.F.Files.asked c.args.files.now)

pub returns-in-Ok-open_stores-clause-serves : goal.returns-in-Ok-open_stores-clause-serves
returns-in-Ok-open_stores-clause-serves g c =
    let f = g.F.Files in
    let d = g.F.Store.Disk in
    let journal = c.args.journal.now in
    let first = c.in-Ok-open_stores.first in
    let other = c.in-Ok-open_stores.other in
    let back = c.serve_on_disks-stores.result.0 in
    let named : c.as_str.result.now ≡ second_name journal = c.as_str.ensures.value ∙ c.in-Ok.ensures.name in
    let again : c.as_str-in-Ok-open_stores.result.now ≡ second_name journal = c.as_str-in-Ok-open_stores.ensures.value ∙ c.in-Ok.ensures.name in
    serves-so g.K.Sink g.A.Actuators g.H.Host g.H.In.Source g.H.Out.Sink g.C.Clock g.W.Waiter g.P.Spawner c.args.site.catalogue.now (gates_of c.args.site.catalogue.now c.args.site.rules) c.args.site.keys c.args.service.workers c.args.service.connections _ _ _
    (in_files f journal c.args.files.now) (in_files f journal c.close_stores.new.files) (on_disks d (first, other)) (on_disks d back)
    (stores-follow f d journal c.args.files.now c.open_stores.new.files c.close_stores.new.files c.as_str.result.now c.as_str-in-Ok-open_stores.result.now (first, other) back named again
    c.in-Ok-open_stores.ensures.told c.in-Ok-open_stores.ensures.first_bytes c.in-Ok-open_stores.ensures.second_bytes c.in-Ok-open_stores.ensures.settled
    c.in-Ok-open_stores.ensures.begin (g.met.F.Store.Disk g.world.𝓛 g.world.𝓜 g.world.𝓡 ((λ s x. x), (λ x. x), (λ x. x), λ x. x)).reads_stay
    c.in-Ok-open_stores.ensures.past c.close_stores.ensures.gains c.in-Ok-open_stores.ensures.fresh
    c.close_stores.ensures.first_bytes c.close_stores.ensures.second_bytes c.in-Ok-open_stores.ensures.cause c.close_stores.ensures.cause)
    c.serve_on_disks-stores.ensures.serves

pub returns-in-Err-Failed-clause-asks : goal.returns-in-Err-Failed-clause-asks
returns-in-Err-Failed-clause-asks g c tells =
    let ends = rw c.in-Err-Failed.field-0-is at c.in-Err-Failed.ensures in
    let named : c.as_str.result.now ≡ second_name c.args.journal.now = c.as_str.ensures.value ∙ c.in-Ok.ensures.name in
    subst (λ n. AsksFront (c.args.journal.now ∷ n ∷ []) (g.F.Files.asked c.args.files.now) (g.F.Files.asked c.open_stores.new.files)) named (front-asked _ _ _ _ (ends.asks tells))

pub returns-clause-asks : goal.returns-clause-asks
returns-clause-asks g c tells =
    let ends = rw c.in-Err-NoMemory.field-0-is at c.in-Err-NoMemory.ensures in
    let named : c.as_str.result.now ≡ second_name c.args.journal.now = c.as_str.ensures.value ∙ c.in-Ok.ensures.name in
    subst (λ n. AsksFront (c.args.journal.now ∷ n ∷ []) (g.F.Files.asked c.args.files.now) (g.F.Files.asked c.open_stores.new.files)) named (front-asked _ _ _ _ (ends.asks tells))

pub returns-in_default-clause-serves : goal.returns-in_default-clause-serves
returns-in_default-clause-serves g c =
    let files = in_files g.F.Files c.args.journal.now c.args.files.now in
    inl (record { why = inr (refl, refl); untouched = refl }, λ told lasts. nothing-stands c.args.site.catalogue.now files)

pub returns-in-Err-Failed-clause-serves : goal.returns-in-Err-Failed-clause-serves
returns-in-Err-Failed-clause-serves g c =
    inl (
      record { why = inl (refl, failed-rose _ _ c.open_stores.result (c.in-Err-Failed.is ∙ ap Err c.in-Err-Failed.field-0-is) c.open_stores.ensures.cause); untouched = refl },
      λ told lasts. files-stand g.F.Files c.args.site.catalogue.now c.args.journal.now c.args.files.now c.open_stores.new.files c.as_str.result.now (c.as_str.ensures.value ∙ c.in-Ok.ensures.name)
          (λ is. c.in-Ok.ensures.other (sym is ∙ c.as_str.ensures.value ∙ c.in-Ok.ensures.name)) c.in-Err-Failed.ensures.keeps c.in-Err-Failed.ensures.tried c.in-Err-Failed.ensures.others told,
    )

pub returns-clause-serves : goal.returns-clause-serves
returns-clause-serves g c =
    inl (
      record { why = inr (refl, lacking-stood _ _ c.open_stores.result (c.in-Err-NoMemory.is ∙ ap Err c.in-Err-NoMemory.field-0-is) c.open_stores.ensures.cause); untouched = refl },
      λ told lasts. files-stand g.F.Files c.args.site.catalogue.now c.args.journal.now c.args.files.now c.open_stores.new.files c.as_str.result.now (c.as_str.ensures.value ∙ c.in-Ok.ensures.name)
          (λ is. c.in-Ok.ensures.other (sym is ∙ c.as_str.ensures.value ∙ c.in-Ok.ensures.name)) c.in-Err-NoMemory.ensures.keeps c.in-Err-NoMemory.ensures.tried c.in-Err-NoMemory.ensures.others told,
    )

-- ---- where no store was opened, nothing was listened at

pub returns-in_default-clause-listens : goal.returns-in_default-clause-listens
returns-in_default-clause-listens g c told = inr (refl, refl, refl)

pub returns-in-Err-Failed-clause-listens : goal.returns-in-Err-Failed-clause-listens
returns-in-Err-Failed-clause-listens g c told = inr (refl, refl, refl)

pub returns-clause-listens : goal.returns-clause-listens
returns-clause-listens g c told = inr (refl, refl, refl)
