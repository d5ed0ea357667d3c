-- Numbered requests: what is decided by a reply that is kept, and what is kept where it decides nothing.
use Rattle.std.proofs.Common.{◌≡◌, ℕ, zero, suc, ◌==◌, nat_lt, List, [], ◌∷◌, map, Bool, true, false, cond, Option, Some, None, refl, ap, sym, ◌∙◌}
use Rattle.std.specs.Prelude.{slice_get, fold}
use Rattle.std.specs.Option.{option_and_then}
use Rattle.std.proofs.lemmas.Bool.{cond_both}
use Rattle.boss_model.specs.declared.answer.Answer.{Answer}
use Rattle.boss_model.specs.declared.answer.Answer.TheVariants as answer
use Rattle.boss_model.specs.declared.answer.Refusal.{Refusal}
use Rattle.boss_model.specs.declared.answer.Refusal.TheVariants as refusal
use Rattle.boss_model.specs.declared.kept.Acceptance.{Acceptance}
use Rattle.boss_model.specs.declared.kept.Acceptance.TheVariants as acceptance
use Rattle.boss_model.specs.declared.kept.KeptReply.{KeptReply}
use Rattle.boss_model.specs.declared.notice.What.{What}
use Rattle.boss_model.specs.Happenings.{Happening, post, posted, tell, tell_of}
use Rattle.boss_model.specs.Limits.{last_number}
use Rattle.boss_model.specs.Machine.{after, answered}
use Rattle.boss_model.specs.Outcomes.{Outcome, refused, did}
use Rattle.boss_model.specs.Replies.{answer_of, acceptance_of, keep_reply, once, remembered, reply_of, unless_kept}
use Rattle.boss_model.specs.State.{Persistent, Process, State}
use Rattle.law_time.proofs.GroupSound.{map-set}
use Rattle.boss_persistent.specs.Replying.{decided, decided_by, with_reply}

-- ---- where it decides

kept-decides : (owner seq : ℕ) (found : Option KeptReply) (s : State) (outcome : Outcome) (given : Answer) → decided_by seq found ≡ Some given →
    after s (unless_kept owner seq found s.persistent outcome) ≡ answered given s
kept-decides owner seq None s outcome given is = cc
kept-decides owner seq (Some reply) s outcome given is = same (reply.seq == seq) (nat_lt seq reply.seq) is
  where
    same : (equal lesser : Bool) → cond equal (Some (answer_of reply.acceptance)) (cond lesser (Some (answer.Refused (refusal.Stale reply.seq))) None) ≡ Some given →
        after s (cond equal (did (answer_of reply.acceptance) s.persistent) (cond lesser (refused (refusal.Stale reply.seq)) (remembered owner seq outcome))) ≡ answered given s
    same true lesser is = let here : answer_of reply.acceptance ≡ given = cc in ap (λ a. answered a s) here
    same false true is = cc
    same false false is = cc

pub once-decided : (owner seq : ℕ) (s : State) (outcome : Outcome) (given : Answer) → decided s.persistent.processes owner seq ≡ Some given →
    after s (once owner seq s.persistent outcome) ≡ answered given s
once-decided owner seq s outcome given is = numbered (seq == 0) is
  where
    numbered : (none : Bool) → cond none None (decided_by seq (reply_of s.persistent.processes owner)) ≡ Some given →
        after s (cond none outcome (unless_kept owner seq (reply_of s.persistent.processes owner) s.persistent outcome)) ≡ answered given s
    numbered true is = cc
    numbered false is = kept-decides owner seq (reply_of s.persistent.processes owner) s outcome given is

-- ---- where it does not

kept-open : (owner seq : ℕ) (found : Option KeptReply) (d : Persistent) (outcome : Outcome) → decided_by seq found ≡ None → unless_kept owner seq found d outcome ≡ remembered owner seq outcome
kept-open owner seq None d outcome is = refl
kept-open owner seq (Some reply) d outcome is = same (reply.seq == seq) (nat_lt seq reply.seq) is
  where
    same : (equal lesser : Bool) → cond equal (Some (answer_of reply.acceptance)) (cond lesser (Some (answer.Refused (refusal.Stale reply.seq))) None) ≡ None →
        cond equal (did (answer_of reply.acceptance) d) (cond lesser (refused (refusal.Stale reply.seq)) (remembered owner seq outcome)) ≡ remembered owner seq outcome
    same true lesser is = cc
    same false true is = cc
    same false false is = refl

pub once-refused : (owner seq : ℕ) (d : Persistent) (why : Refusal) → decided d.processes owner seq ≡ None → once owner seq d (refused why) ≡ refused why
once-refused owner seq d why is = numbered (seq == 0) is
  where
    numbered : (none : Bool) → cond none None (decided_by seq (reply_of d.processes owner)) ≡ None →
        cond none (refused why) (unless_kept owner seq (reply_of d.processes owner) d (refused why)) ≡ refused why
    numbered true is = refl
    numbered false is = kept-open owner seq (reply_of d.processes owner) d (refused why) is

given-kept : (given : Acceptance) → acceptance_of (answer_of given) ≡ Some given
given-kept (acceptance.Accepted txn until) = refl
given-kept (acceptance.Renewed txn until) = refl
given-kept (acceptance.Cancelled txn at) = refl

pub once-did : (owner seq : ℕ) (d : Persistent) (given : Acceptance) (after : Persistent) → decided d.processes owner seq ≡ None →
    once owner seq d (did (answer_of given) after) ≡ did (answer_of given) (with_reply owner seq given after)
once-did owner seq d given after is = numbered (seq == 0) is
  where
    numbered : (none : Bool) → cond none None (decided_by seq (reply_of d.processes owner)) ≡ None →
        cond none (did (answer_of given) after) (unless_kept owner seq (reply_of d.processes owner) d (did (answer_of given) after))
        ≡ did (answer_of given) (record after { processes = cond none after.processes (keep_reply owner seq (Some given) after.processes) })
    numbered true is = refl
    numbered false is = kept-open owner seq (reply_of d.processes owner) d (did (answer_of given) after) is
        ∙ ap (λ kept. did (answer_of given) (record after { processes = keep_reply owner seq kept after.processes })) (given-kept given)

-- ---- being told changes no reply

posted-reply : (at txn : ℕ) (told : What) (p : Process) → (posted at txn told p).reply ≡ p.reply
posted-reply at txn told p = cond_both (p.count == last_number) p _ (λ (q : Process). q.reply ≡ p.reply) (λ _. refl) (λ _. refl)

post-replies : (ps : List Process) (owner : ℕ) (found : Option Process) (at txn : ℕ) (told : What) → slice_get ps owner ≡ found →
    map (λ p. p.reply) (post ps owner found at txn told) ≡ map (λ p. p.reply) ps
post-replies ps owner None at txn told is = refl
post-replies ps owner (Some p) at txn told is = map-set (λ q. q.reply) ps owner (posted at txn told p) p is (posted-reply at txn told p)

tell_of-replies : (told : Option What) (ps : List Process) (h : Happening) → map (λ p. p.reply) (tell_of told ps h) ≡ map (λ p. p.reply) ps
tell_of-replies None ps h = refl
tell_of-replies (Some told) ps h = post-replies ps h.owner (slice_get ps h.owner) h.at h.txn told refl

tell-replies : (ps : List Process) (hs : List Happening) → map (λ p. p.reply) (fold tell ps hs) ≡ map (λ p. p.reply) ps
tell-replies ps [] = refl
tell-replies ps (h ∷ hs) = tell-replies (tell ps h) hs ∙ tell_of-replies h.told ps h

reply-by-replies : (ps : List Process) (owner : ℕ) → reply_of ps owner ≡ option_and_then (λ reply. reply) (slice_get (map (λ p. p.reply) ps) owner)
reply-by-replies [] owner = refl
reply-by-replies (p ∷ ps) zero = refl
reply-by-replies (p ∷ ps) (suc owner) = reply-by-replies ps owner

pub decided-told : (ps : List Process) (happened : List Happening) (owner seq : ℕ) → decided (fold tell ps happened) owner seq ≡ decided ps owner seq
decided-told ps happened owner seq = ap (λ reply. cond (seq == 0) None (decided_by seq reply))
    (reply-by-replies (fold tell ps happened) owner ∙ ap (λ replies. option_and_then (λ reply. reply) (slice_get replies owner)) (tell-replies ps happened) ∙ sym (reply-by-replies ps owner))
