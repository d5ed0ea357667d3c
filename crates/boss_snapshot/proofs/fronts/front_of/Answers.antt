use Rattle.std.proofs.Common.{◌∙◌, ◌+◌, ◌<◌, ◌≤◌, length, sym, subst, refl, inl, inr, arith}
use Rattle.boss_snapshot.specs.Fronts.{version_of, size_of, text_place}
use Rattle.def_log.specs.Versions.{IsKnown}
use Rattle.boss_snapshot.proofs.Counts.{has_counts}
use Rattle.boss_snapshot.proofs.OfFronts.{same_version, same_digest, same_seed, seed_mid, same_events, same_size, behind_head, denied, no_place}
use Rattle.boss_snapshot.proofs.fronts.front_of.Goals as goal

pub returns-then-not-is_same-clause-tells : goal.returns-then-not-is_same-clause-tells
returns-then-not-is_same-clause-tells c bytes is long = (
  subst IsKnown (same_version c.args.head.now bytes is) (c.is_known.ensures.0 c.if-not-is_known.false),
  c.copy_from_slice.ensures.after ∙ same_digest c.args.head.now bytes is,
  refl,
  λ same. denied c.is_same.result c.is_same.ensures.1 c.if-not-is_same.true same,
)

pub returns-then-events-gt-LAST_NUMBER-clause-tells : goal.returns-then-events-gt-LAST_NUMBER-clause-tells
returns-then-events-gt-LAST_NUMBER-clause-tells c bytes is long =
    let events = c.number_at-events.ensures ∙ same_events c.args.head.now bytes is in (
      subst IsKnown (same_version c.args.head.now bytes is) (c.is_known.ensures.0 c.if-not-is_known.false),
      sym (same_digest c.args.head.now bytes is) ∙ sym c.copy_from_slice.ensures.after ∙ c.is_same.ensures.0 c.if-not-is_same.false,
      inl (refl, omega (arith, events)),
    )

pub returns-then-not-has_place-clause-tells : goal.returns-then-not-has_place-clause-tells
returns-then-not-has_place-clause-tells c bytes is long =
    let events = c.number_at-events.ensures ∙ same_events c.args.head.now bytes is in
    let size = c.number_at-size.ensures ∙ same_size c.args.head.now bytes is in
    let none = no_place c.has_place.result _ c.number_at-size.result c.args.end c.has_place.ensures.1 c.if-not-has_place.true in
    let there : length bytes ≤ text_place (version_of c.args.head.now) + c.number_at-size.result =
    subst (λ n. n ≤ text_place (version_of c.args.head.now) + c.number_at-size.result) long none in (
      subst IsKnown (same_version c.args.head.now bytes is) (c.is_known.ensures.0 c.if-not-is_known.false),
      sym (same_digest c.args.head.now bytes is) ∙ sym c.copy_from_slice.ensures.after ∙ c.is_same.ensures.0 c.if-not-is_same.false,
      inr (inl (
        refl,
        omega (arith, events),
        subst (λ v. length bytes ≤ text_place v + size_of bytes) (same_version c.args.head.now bytes is)
            (subst (λ n. length bytes ≤ text_place (version_of c.args.head.now) + n) size there),
      )),
    )

pub returns-clause-tells : goal.returns-clause-tells
returns-clause-tells c bytes is long =
    let place = c.has_place.ensures.0 c.if-not-has_place.false in
    record {
      known = c.is_known.ensures.0 c.if-not-is_known.false;
      version_is = same_version c.args.head.now bytes is;
      same = sym (same_digest c.args.head.now bytes is) ∙ sym c.copy_from_slice.ensures.after ∙ c.is_same.ensures.0 c.if-not-is_same.false;
      events_are = c.number_at-events.ensures ∙ same_events c.args.head.now bytes is;
      few = omega arith;
      size_is = c.number_at-size.ensures ∙ same_size c.args.head.now bytes is;
      counts = has_counts bytes c.args.head.now is (λ i. omega (arith, c.fits-head i)) (subst (λ n. 65 ≤ n) long (behind_head _ _ _ place));
      seeded = c.seed_of.ensures 0 ∙ seed_mid 0 c.args.head.now ∙ same_seed c.args.head.now bytes is;
      inside = subst (λ n. text_place (version_of c.args.head.now) + c.number_at-size.result < n) long place;
    }
