use Rattle.std.proofs.Common.{◌∙◌, sym}
use Rattle.boss_etcd_opening.proofs.Values.{tells}
use Rattle.boss_etcd_opening.proofs.value.length_of.Goals as goal

pub returns : goal.returns
returns c =
    tells c.args.value.now c.in_ok-length.length c.in_ok-place.place (sym c.starts_with.ensures.value ∙ c.if-not-starts_with.false)
    c.in_ok-place.ensures (sym c.is_number.ensures ∙ c.if-not-is_number.false)
