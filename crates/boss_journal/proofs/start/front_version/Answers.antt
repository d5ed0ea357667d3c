use Rattle.std.proofs.Common.{◌∙◌, sym, subst, refl}
use Rattle.def_log.specs.Versions.{IsKnown}
use Rattle.boss_journal.proofs.FirstBytes.{not_marked, is_marked, version_of, digest_of, front_parts, denied}
use Rattle.boss_journal.proofs.start.front_version.Goals as goal

pub returns-then-not-is_marked-clause-front : goal.returns-then-not-is_marked-clause-front
returns-then-not-is_marked-clause-front c bytes is marked =
    denied c.is_marked.result c.is_marked.ensures.1 c.if-not-is_marked.true (not_marked c.args.first.now bytes is marked)

pub returns-then-not-is_known-clause-front : goal.returns-then-not-is_known-clause-front
returns-then-not-is_known-clause-front c bytes is = (
  is_marked c.args.first.now bytes is (c.is_marked.ensures.0 c.if-not-is_marked.false),
  version_of c.args.first.now bytes is,
  λ known. denied c.is_known.result c.is_known.ensures.1 c.if-not-is_known.true known,
)

pub returns-then-not-are_same-clause-front : goal.returns-then-not-are_same-clause-front
returns-then-not-are_same-clause-front c bytes is = (
  is_marked c.args.first.now bytes is (c.is_marked.ensures.0 c.if-not-is_marked.false),
  subst IsKnown (version_of c.args.first.now bytes is) (c.is_known.ensures.0 c.if-not-is_known.false),
  c.copy_from_slice.ensures.after ∙ digest_of c.args.first.now bytes is,
  refl,
  λ same. denied c.are_same.result c.are_same.ensures.1 c.if-not-are_same.true same,
)

pub returns-clause-front : goal.returns-clause-front
returns-clause-front c bytes is =
    let marked = is_marked c.args.first.now bytes is (c.is_marked.ensures.0 c.if-not-is_marked.false) in
    let middle = sym (digest_of c.args.first.now bytes is) ∙ sym c.copy_from_slice.ensures.after ∙ c.are_same.ensures.0 c.if-not-are_same.false in
    (c.is_known.ensures.0 c.if-not-is_known.false, front_parts bytes c.args.digest.now _ marked (sym (version_of c.args.first.now bytes is)) middle)
