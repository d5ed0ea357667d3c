use Rattle.std.proofs.Common.{rules, ◌≡◌, pos, true, Some, arith}
use Rattle.std.specs.Prelude.{int_le}
use Rattle.std.proofs.lemmas.Int.{ints, to_z-of_z}
use Rattle.boss_numbers.specs.Scales.{numerator, if_held, fits, whole}
use Rattle.boss_numbers.proofs.Held.{form-told}
use Rattle.boss_numbers.proofs.scale.has_form.Goals as goal

pub returns-in-Some : goal.returns-in-Some
returns-in-Some c =
    let some : int_le (pos 1) c.args.scale.per ≡ true = grind (arith, ints) in
    let given : if_held (numerator c.args.scale c.args.value) ≡ Some c.in-Some.n = search (rules, to_z-of_z) in
    let fit : c.fits.result ≡ fits c.args.form (whole c.args.scale.round c.in-Some.n c.args.scale.per) = search (rules, to_z-of_z) in
    form-told c.args.form c.args.scale c.args.value c.in-Some.n c.fits.result some given fit
