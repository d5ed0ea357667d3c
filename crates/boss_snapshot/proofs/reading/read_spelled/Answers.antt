use Rattle.std.proofs.Common.{◌∙◌, ◌+◌, ap, sym, subst, take, drop}
use Rattle.std.proofs.lemmas.Result.{err_from_is_err_and}
use Rattle.boss_model.specs.Seen.{seen}
use Rattle.boss_snapshot.specs.Refusals.{IsKeptState}
use Rattle.boss_snapshot.proofs.KeptStates.{kept_is, none_is}
use Rattle.boss_snapshot.proofs.reading.read_spelled.Goals as goal

pub returns-in_err-bytes-clause-refuses : goal.returns-in_err-bytes-clause-refuses
returns-in_err-bytes-clause-refuses g c told digest head =
    let p = err_from_is_err_and c.from_residual.result c.from_residual.ensures.1 in
    rw (p.1, p.2) (c.in_err-bytes.ensures.told digest (g.D.Disk.reads c.args.disk.now))

pub returns-in-Ok-Some-clause-finds : goal.returns-in-Ok-Some-clause-finds
returns-in-Ok-Some-clause-finds g c told digest head =
    subst (λ p. IsKeptState digest (g.D.Disk.reads c.args.disk.now) (seen c.in-Ok-Some.kept) c.args.head.now.events (p + c.args.head.now.size)) (sym c.text_place-place.ensures.is)
    (kept_is digest (g.D.Disk.reads c.args.disk.now) c.args.head.now.version c.args.head.now.events c.args.head.now.size c.args.head.now.seed head
    c.as_slice.result.now (c.as_slice.ensures.value ∙ c.in_ok-bytes.ensures.given told ∙ ap (λ p. take c.args.head.now.size (drop p (g.D.Disk.reads c.args.disk.now))) c.text_place-place.ensures.is) (seen c.in-Ok-Some.kept) (rw c.in-Ok-Some.field-0-is at c.in-Ok-Some.ensures.found))

pub returns-in-Ok-None-clause-refuses : goal.returns-in-Ok-None-clause-refuses
returns-in-Ok-None-clause-refuses g c told digest head =
    none_is digest (g.D.Disk.reads c.args.disk.now) c.args.head.now.version c.args.head.now.events c.args.head.now.size c.args.head.now.seed head
    c.as_slice.result.now (c.as_slice.ensures.value ∙ c.in_ok-bytes.ensures.given told ∙ ap (λ p. take c.args.head.now.size (drop p (g.D.Disk.reads c.args.disk.now))) c.text_place-place.ensures.is) (c.in-Ok-None.ensures.only c.in-Ok-None.field-0-is)
