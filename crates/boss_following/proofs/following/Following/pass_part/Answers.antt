use Rattle.std.proofs.Common.{◌≡◌, ◌-◌, ◌==◌, length, min, refl, sym, ap, ◌∙◌, subst}
use Rattle.std.specs.Prelude.{if◌then◌else◌}
use Rattle.boss_following.specs.Places.{at, place_of}
use Rattle.boss_following.specs.Steps.{Made}
use Rattle.boss_following.proofs.Stepping.{part-passed}
use Rattle.def_feed.specs.Feeds.{longest_part}
use Rattle.def_feed.specs.Followers as feed
use Rattle.def_feed.specs.Followers.{Step}
use Rattle.boss_following.proofs.following.Following.pass_part.Goals as goal

pub invariant_of-self : goal.invariant_of-self
invariant_of-self c = record { within = c.passing-self.ensures.within c.args.self.now.state.items }

pub returns : goal.returns
returns c =
    let self = c.args.self.now in
    let left = c.args.left in
    let same : length c.bytes.result.now ≡ length self.reader.told = ap length c.bytes.ensures in
    let due : length self.reader.told ≡ min longest_part left = sym same ∙ c.if-count-due.false ∙ c.due.ensures in
    let place : place_of c.passing-self.result self.state.items ≡ (if (left - length self.reader.told) == 0 then feed.Between else feed.Passing (left - length self.reader.told)) =
    c.passing-self.ensures.place self.state.items ∙ ap (λ n. if (left - n) == 0 then feed.Between else feed.Passing (left - n)) same in
    record {
      moves = λ plant d count.
          subst (λ (s : Step). Made plant (at d count self) s (record { lasting = d; count = count; place = place_of c.passing-self.result self.state.items })) (sym (part-passed (at d count self) left self.reader.told due))
          (λ i. record { lasting = d; count = count; place = place i });
      fine = refl;
    }
