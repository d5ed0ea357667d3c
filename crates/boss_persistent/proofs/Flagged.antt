-- Whether a request changes something, by what was found on the way to it.
use Rattle.std.proofs.Common.{◌≡◌, ℕ, ◌==◌, nat_lt, Bool, true, false, ◌&&◌, ◌||◌, cond, Option, Some, None, is_none, refl, ap, sym, ◌∙◌, arith}
use Rattle.std.specs.Option.{option_map_or}
use Rattle.std.proofs.lemmas.Bool.Decides.{nat_tests}
use Rattle.boss_model.specs.declared.answer.Answer.{Answer}
use Rattle.boss_model.specs.declared.answer.Answer.TheVariants as answer
use Rattle.boss_model.specs.declared.answer.Refusal.{Refusal}
use Rattle.boss_model.specs.declared.answer.Refusal.TheVariants as refusal
use Rattle.boss_model.specs.declared.kept.KeptReply.{KeptReply}
use Rattle.boss_model.specs.Replies.{answer_of, reply_of}
use Rattle.boss_model.specs.State.{Persistent}
use Rattle.law_effects.specs.Changes.{is_made, is_new}
use Rattle.boss_persistent.specs.Replying.{decided, decided_by}

new-by : (bare : Bool) (seq : ℕ) (found : Option KeptReply) →
    is_none (cond bare None (decided_by seq found)) ≡ (bare || option_map_or (λ (reply : KeptReply). nat_lt reply.seq seq) found true)
new-by true seq found = refl
new-by false seq None = refl
new-by false seq (Some reply) = by (reply.seq == seq) (nat_lt seq reply.seq) refl refl
  where
    by : (same less : Bool) → (reply.seq == seq) ≡ same → nat_lt seq reply.seq ≡ less →
        is_none (cond same (Some (answer_of reply.acceptance)) (cond less (Some (answer.Refused (refusal.Stale reply.seq))) None)) ≡ nat_lt reply.seq seq
    by true less is below = let later : nat_lt reply.seq seq ≡ false = grind (arith, nat_tests) in sym later
    by false true is below = let later : nat_lt reply.seq seq ≡ false = grind (arith, nat_tests) in sym later
    by false false is below = let later : nat_lt reply.seq seq ≡ true = grind (arith, nat_tests) in sym later

-- the reply that is kept decides a request exactly where it is not new
pub undecided-new : (owner seq : ℕ) (d : Persistent) → is_none (decided d.processes owner seq) ≡ is_new owner seq d
undecided-new owner seq d = new-by (seq == 0) seq (reply_of d.processes owner)

module _ (owner seq : ℕ) (d : Persistent) where
  pub made-decided : (given : Answer) (why : Option Refusal) → decided d.processes owner seq ≡ Some given → is_made owner seq d why ≡ false
  made-decided given why is = ap (λ b. b && is_none why) (sym (undecided-new owner seq d) ∙ ap is_none is)

  pub made-new : (why : Option Refusal) → decided d.processes owner seq ≡ None → is_made owner seq d why ≡ is_none why
  made-new why is = ap (λ b. b && is_none why) (sym (undecided-new owner seq d) ∙ ap is_none is)
