-- What becomes of a request that may be numbered, case by case.
use Rattle.std.proofs.Common.{◌≡◌, ℕ, ◌<◌, ◌==◌, nat_lt, false, ◌&&◌, cond, Option, Some, None, refl, ap, arith}
use Rattle.std.specs.Option.{option_map_or}
use Rattle.std.proofs.lemmas.Bool.{cond_both}
use Rattle.std.proofs.lemmas.Bool.Decides.{nat_tests}
use Rattle.boss_model.specs.declared.answer.Refusal.TheVariants as refusal
use Rattle.boss_model.specs.declared.kept.KeptReply.{KeptReply}
use Rattle.boss_model.specs.Outcomes.{Outcome, refused, did}
use Rattle.boss_model.specs.Replies.{answer_of, reply_of, remembered, unless_kept, once, is_repeat}
use Rattle.boss_model.specs.State.{Persistent}

-- the number is greater than the one that is kept
abbrev pub IsAbove : ℕ → Option KeptReply → Type 0
IsAbove seq None = Unit {0}
IsAbove seq (Some reply) = reply.seq < seq

-- whether it is a repeat, by the reply that is kept
pub repeat-of : (owner seq : ℕ) (d : Persistent) (found : Option KeptReply) → reply_of d.processes owner ≡ found →
    is_repeat owner seq d ≡ (nat_lt 0 seq && option_map_or (λ reply. reply.seq == seq) found false)
repeat-of owner seq d found is = ap (λ f. nat_lt 0 seq && option_map_or (λ (reply : KeptReply). reply.seq == seq) f false) is

pub no-repeat : (owner seq : ℕ) (d : Persistent) (found : Option KeptReply) → reply_of d.processes owner ≡ found → IsAbove seq found → is_repeat owner seq d ≡ false
no-repeat owner seq d None is above = let by = repeat-of owner seq d None is in grind (arith)
no-repeat owner seq d (Some reply) is above =
    let by = repeat-of owner seq d (Some reply) is in
    let more : reply.seq < seq = above in
    let other : (reply.seq == seq) ≡ false = grind (arith, nat_tests) in
    grind (arith)

module _ (owner seq : ℕ) (d : Persistent) (outcome : Outcome) (P : Outcome → Type 0) where
  unless-by : (found : Option KeptReply) → (IsAbove seq found → P (remembered owner seq outcome)) →
      ((reply : KeptReply) → found ≡ Some reply → reply.seq ≡ seq → P (did (answer_of reply.acceptance) d)) →
      ((reply : KeptReply) → found ≡ Some reply → seq < reply.seq → P (refused (refusal.Stale reply.seq))) → P (unless_kept owner seq found d outcome)
  unless-by None new again stale = new tt
  unless-by (Some reply) new again stale =
      cond_both (reply.seq == seq) (did (answer_of reply.acceptance) d) (cond (nat_lt seq reply.seq) (refused (refusal.Stale reply.seq)) (remembered owner seq outcome))
      (λ o. (reply.seq == seq) ≡ (reply.seq == seq) → P o)
      (λ same _. again reply refl (grind (arith, nat_tests)))
      (λ other _. cond_both (nat_lt seq reply.seq) (refused (refusal.Stale reply.seq)) (remembered owner seq outcome) P
      (λ less. stale reply refl (grind (arith, nat_tests))) (λ more. new (grind (arith, nat_tests)))) refl

  -- it has no number; or a greater one than is kept; or the one that is kept; or a lesser one
  pub once-by : (seq ≡ 0 → P outcome) → (0 < seq → IsAbove seq (reply_of d.processes owner) → P (remembered owner seq outcome)) →
      ((reply : KeptReply) → 0 < seq → reply_of d.processes owner ≡ Some reply → reply.seq ≡ seq → P (did (answer_of reply.acceptance) d)) →
      ((reply : KeptReply) → 0 < seq → reply_of d.processes owner ≡ Some reply → seq < reply.seq → P (refused (refusal.Stale reply.seq))) → P (once owner seq d outcome)
  once-by bare new again stale = cond_both (seq == 0) outcome (unless_kept owner seq (reply_of d.processes owner) d outcome) P
      (λ none. bare (grind (arith, nat_tests)))
      (λ some. let numbered : 0 < seq = grind (arith, nat_tests) in
      unless-by (reply_of d.processes owner) (new numbered) (λ reply found. again reply numbered found) (λ reply found. stale reply numbered found))
