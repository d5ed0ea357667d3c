use Rattle.std.proofs.Common.{◌≡◌, ℕ, true, false, Result, Ok, Err, ◌-◌, List, ◌++◌, length, min, refl, sym, ap, ◌∙◌, subst, arith}
use Rattle.std.proofs.lemmas.Bool.{cond-true}
use Rattle.std.specs.Prelude.{is_err, is_ok}
use Rattle.boss_following.specs.Moves.{Steps}
use Rattle.boss_following.specs.Places.{spot}
use Rattle.boss_following.proofs.Stepping.{at-fault, part-refused, part-taken, steps-as, steps-from, wants-memory}
use Rattle.def_feed.specs.Feeds.{longest_part}
use Rattle.def_feed.specs.Followers.{taking}
use Rattle.boss_following.proofs.following.Following.take_part.Goals as goal

not-err : {T E : Type 0} (r : Result T E) → is_err r ≡ false → is_ok r ≡ true
not-err (Ok x) is = refl
not-err (Err e) is = absurd cc

pub returns-then-bytes-due : goal.returns-then-bytes-due
returns-then-bytes-due g c =
    let old = c.args.durable.now in
    let self = c.args.self.now in
    let same : length c.bytes-bytes.result.now ≡ length self.reader.told = ap length c.bytes-bytes.ensures in
    let long : c.len.result ≡ length self.state.items = omega (arith, c.len.ensures) in
    let most : c.due.result ≡ min longest_part (c.args.size - length self.state.items) = c.due.ensures ∙ ap (λ n. min longest_part (c.args.size - n)) long in
    at-fault old.engine.plant old self _ c.requires.going _
    (part-refused (taking (spot old self) c.args.number c.args.size (self.state.items ++ self.reader.told)) (c.args.size - length self.state.items) self.reader.told
    (λ is. c.if-bytes-due.true (same ∙ is ∙ sym most)))

pub returns-then-is_err : goal.returns-then-is_err
returns-then-is_err g c = wants-memory c.args.durable.now.engine.plant c.args.durable.now c.args.self.now _ c.requires.going _

pub returns : goal.returns
returns g c =
    let old = c.args.durable.now in
    let self = c.args.self.now in
    let new = c.take_if_whole.new.durable in
    let to = c.take_if_whole.new.self in
    let same : length c.bytes-bytes.result.now ≡ length self.reader.told = ap length c.bytes-bytes.ensures in
    let long : c.len.result ≡ length self.state.items = omega (arith, c.len.ensures) in
    let most : c.due.result ≡ min longest_part (c.args.size - length self.state.items) = c.due.ensures ∙ ap (λ n. min longest_part (c.args.size - n)) long in
    let due : length self.reader.told ≡ min longest_part (c.args.size - length self.state.items) = sym same ∙ c.if-bytes-due.false ∙ most in
    let longer : c.extend_from_slice.new.self.items ≡ self.state.items ++ self.reader.told =
    c.extend_from_slice.ensures.items ∙ cond-true (is_ok c.extend_from_slice.result) _ _ (not-err c.extend_from_slice.result (sym c.if-is_err.ensures.value))
    ∙ ap (λ (b : List ℕ). self.state.items ++ b) c.bytes-bytes.ensures in
    steps-as old.engine.plant _ (taking (spot old self) c.args.number c.args.size (self.state.items ++ self.reader.told)) old self new to c.take_if_whole.result
    (part-taken (spot old self) c.args.number c.args.size self.state.items self.reader.told due)
    (subst (λ (b : List ℕ). Steps old.engine.plant (taking (spot old self) c.args.number c.args.size b) old self new to c.take_if_whole.result) longer
    (steps-from old.engine.plant (taking (spot old self) c.args.number c.args.size c.extend_from_slice.new.self.items) old self _ new to c.take_if_whole.result c.take_if_whole.ensures))
