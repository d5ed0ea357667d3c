use Rattle.std.proofs.Common.{◌≡◌, ◌<◌, FitsSigned, w64, rules, length, sym, ◌∙◌, ap, arith}
use Rattle.std.proofs.lemmas.Int.{to_z-of_z}
use Rattle.boss_model.specs.Target.{target}
use Rattle.boss_marks.specs.Marks.{started}
use Rattle.boss_marks.proofs.Rounds.{turned, turned_below, turned_below-none, turned_below-more}
use Rattle.boss_persistent.specs.Lasting.{persistent_of}
use Rattle.boss_engine.proofs.Reopened.{any, anew, all-started}
use Rattle.boss_engine.proofs.reopening.start_all.Goals as goal

pub loop-place-init : goal.loop-place-init
loop-place-init c = sym (turned_below-none any (anew c.args.plant.now (persistent_of c.args.lasting.now)) c.args.marks.now)

pub loop-place-preserved : goal.loop-place-preserved
loop-place-preserved c =
    let plant = c.args.plant.now in
    let fits : FitsSigned w64 c.target_of.result = search rules in
    let d = persistent_of c.args.lasting.now in
    let place = c.loop-place.place in
    let marks = c.loop-place.marks in
    let told : c.target_of.result ≡ target plant d place = c.target_of.ensures in
    let more : place < length c.args.marks.now.proxies = omega arith in
    (simp to_z-of_z at c.start.ensures)
    ∙ (ap (λ value. started place value marks) told
    ∙ (ap (turned any (anew plant d) place) c.loop-place.invariant
    ∙ turned_below-more any (anew plant d) place c.args.marks.now more))

pub returns : goal.returns
returns c =
    let plant = c.args.plant.now in
    let d = persistent_of c.args.lasting.now in
    let marks = c.args.marks.now in
    let all : c.loop-place.place ≡ length marks.proxies = omega (arith, c.count-place-end.ensures.number) in
    let many : length marks.proxies ≡ length plant = sym c.count-place-end.ensures.served ∙ c.requires.number in
    c.loop-place.invariant ∙ ap (λ k. turned_below any (anew plant d) k marks) all
    ∙ all-started plant d marks many c.count-place-end.ensures.known
