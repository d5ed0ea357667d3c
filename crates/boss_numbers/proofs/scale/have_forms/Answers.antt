use Rattle.std.proofs.Common.{rules, ◌≡◌, true}
use Rattle.std.proofs.lemmas.Int.{to_z-of_z}
use Rattle.boss_numbers.specs.Scales.{has_form}
use Rattle.boss_numbers.proofs.Between.{form-between}
use Rattle.boss_numbers.proofs.scale.have_forms.Goals as goal

pub returns-then-has_form-clause-between : goal.returns-then-has_form-clause-between
returns-then-has_form-clause-between c = λ high value from to.
    let low : has_form c.args.form c.args.scale c.args.least ≡ true = search (rules, to_z-of_z) in
    let high' : has_form c.args.form c.args.scale c.args.most ≡ true = search (rules, to_z-of_z) in
    form-between c.args.form c.args.scale c.args.least c.args.most value low high' from to
