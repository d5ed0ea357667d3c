use Rattle.std.proofs.Common.{rules, ◌≡◌, pos, Some, true, sym, subst, ◌∙◌, arith}
use Rattle.std.specs.Prelude.{int_le}
use Rattle.std.proofs.lemmas.Int.{ints, to_z-of_z}
use Rattle.boss_numbers.specs.Scales.{numerator, if_held, fits, whole, AreWords}
use Rattle.boss_numbers.proofs.Held.{form-told, some-held}
use Rattle.boss_numbers.proofs.registers.words_of.Goals as goal

pub returns-then-not-fits : goal.returns-then-not-fits
returns-then-not-fits c =
    let some : int_le (pos 1) c.args.scale.per ≡ true = grind (arith, ints) in
    let given : if_held (numerator c.args.scale c.args.value) ≡ Some c.in_ok-n.n = search (rules, to_z-of_z) in
    let fit : c.fits.result ≡ fits c.args.form (whole c.args.scale.round c.in_ok-n.n c.args.scale.per) = search (rules, to_z-of_z) in
    sym (form-told c.args.form c.args.scale c.args.value c.in_ok-n.n c.fits.result some given fit) ∙ c.if-not-fits.true

pub returns : goal.returns
returns c =
    let some : int_le (pos 1) c.args.scale.per ≡ true = grind (arith, ints) in
    let given : if_held (numerator c.args.scale c.args.value) ≡ Some c.in_ok-n.n = search (rules, to_z-of_z) in
    let fit : c.fits.result ≡ fits c.args.form (whole c.args.scale.round c.in_ok-n.n c.args.scale.per) = search (rules, to_z-of_z) in
    let are : AreWords c.args.form c.args.scale.round c.in_ok-n.n c.args.scale.per c.in_registers.result = search (rules, to_z-of_z) in (
      sym (form-told c.args.form c.args.scale c.args.value c.in_ok-n.n c.fits.result some given fit) ∙ c.if-not-fits.false,
      subst (λ n. AreWords c.args.form c.args.scale.round n c.args.scale.per c.in_registers.result)
          (sym (some-held (numerator c.args.scale c.args.value) c.in_ok-n.n given).1) are,
    )
