use Rattle.std.proofs.Common.{rules, ◌≡◌, ◌-◌, ◌∷◌, ◌++◌, ◌∙◌, true, [], Some, List, ℕ, option_map, Bor, sym, ap, subst}
use Rattle.boss_places.specs.Words.{first_of, is_member, members_from}
use Rattle.boss_places.proofs.Members.{one_member}
use Rattle.boss_places.proofs.place.read_members.Goals as goal

pub loop-left-preserved : goal.loop-left-preserved
loop-left-preserved c =
    let rest = c.loop-left.rest.now in
    let behind = c.in-Some.behind.now in
    let member : is_member (first_of rest).0 ≡ true =
    subst (λ m. is_member m ≡ true) c.first_of.ensures.first (sym c.is_member.ensures ∙ c.if-not-is_member.false) in
    let more : (first_of rest).1 ≡ Some behind = search rules in
    let pushed : c.try_push.new.self ≡ c.loop-left.members ++ (first_of rest).0 ∷ [] = search rules in
    subst (λ members. members_from c.args.most c.args.text.now ≡ option_map (λ more. members ++ more) (members_from (c.loop-left.left - 1) behind))
    (sym pushed) (one_member _ c.loop-left.members rest c.loop-left.left behind c.loop-left.invariant c.loop-left-test.true member more)
