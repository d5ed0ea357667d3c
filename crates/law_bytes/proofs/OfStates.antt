-- States are spelled by bytes.
use Rattle.std.proofs.Common.{◌≡◌, ℕ, ◌==◌, true, Option, Some, None}
use Rattle.std.specs.Int.{w16, w32, w64}
use Rattle.std.proofs.lemmas.Bool.{cond_both}
use Rattle.boss_model.specs.declared.kept.KeptReply.{KeptReply}
use Rattle.boss_model.specs.declared.notice.Cause.{Cause}
use Rattle.boss_model.specs.declared.notice.Cause.TheVariants as cause
use Rattle.boss_model.specs.declared.notice.What.{What}
use Rattle.boss_model.specs.declared.notice.What.TheVariants as what
use Rattle.boss_model.specs.Limits.{notices_kept}
use Rattle.boss_model.specs.Records.{End}
use Rattle.def_bytes.specs.Exact.{IsBytes}
use Rattle.def_bytes.specs.Fields.{number, byte, tagged}
use Rattle.def_bytes.specs.Parts.{nothing, signed64, listed, name, policy, steps}
use Rattle.def_bytes.specs.States.{cause_fits, cause_text, causes, what_fits, what_text, whats, told, acceptance_numbers, reply_fits, reply_text, replies, no_reply_part, no_reply, reply, process_parts, process_of, are_sent, sent, process, end_parts, end_of, end, end_fits, end_text, ends, part_parts, part_of, part, most_parts, transaction_parts, transaction_of, transaction, lease_parts, lease_of, lease, pending_parts, pending_of, pending, state_parts, state_of, state}
use Rattle.law_bytes.proofs.Texts.{IsOfBytes, no-bytes, numbers, one-byte, pair, tested, whole, list, kinds}
use Rattle.law_bytes.proofs.OfEvents.{nothing-at-all, signed, names, policies, reversions}

-- ---- causes and notices

cause-bytes : (why : Cause) → cause_fits why ≡ true → IsBytes (cause_text why)
cause-bytes cause.Expired fits = no-bytes
cause-bytes cause.Cancelled fits = no-bytes
cause-bytes cause.Died fits = no-bytes
cause-bytes cause.Fault fits = no-bytes
cause-bytes (cause.Superseded by) fits = (numbers w64).bytes by fits

a-cause : IsOfBytes (tagged causes)
a-cause = kinds causes cause-bytes

what-bytes : (x : What) → what_fits x ≡ true → IsBytes (what_text x)
what-bytes (what.Fault point) fits = (numbers w32).bytes point fits
what-bytes (what.Ended point why) fits = (pair (number w32) (tagged causes) (numbers w32) a-cause).bytes (point, why) fits
what-bytes (what.Reverted point) fits = (numbers w32).bytes point fits
what-bytes (what.Cut point by) fits = (pair (number w32) (number w64) (numbers w32) (numbers w64)).bytes (point, by) fits
what-bytes what.Done fits = no-bytes

notices : IsOfBytes told
notices = pair (number w64) _ (numbers w64) (pair (number w64) (tagged whats) (numbers w64) (kinds whats what-bytes))

-- ---- kept replies

reply-bytes : (r : Option KeptReply) → reply_fits r ≡ true → IsBytes (reply_text r)
reply-bytes None fits = no-bytes
reply-bytes (Some r) fits = (pair (number w64) _ (numbers w64) (pair (number w64) (number w64) (numbers w64) (numbers w64))).bytes (r.seq, acceptance_numbers r.acceptance) fits

a-reply : (version : ℕ) → IsOfBytes (reply version)
a-reply version = cond_both (version == 1) no_reply (tagged replies) IsOfBytes
    (λ first. whole no_reply_part (λ x. None) nothing nothing-at-all) (λ later. kinds replies reply-bytes)

-- ---- processes

a-process : (version : ℕ) → IsOfBytes (process version)
a-process version = whole process_parts process_of _ (pair name _ names (pair sent (reply version)
    (tested are_sent _ (pair (number w64) _ (numbers w64) (list (number w16) notices_kept told (numbers w16) notices))) (a-reply version)))

-- ---- records of transactions

an-end : IsOfBytes end
an-end = whole end_parts end_of _ (pair (tagged causes) (number w64) a-cause (numbers w64))

end-bytes : (e : Option End) → end_fits e ≡ true → IsBytes (end_text e)
end-bytes None fits = no-bytes
end-bytes (Some e) fits = an-end.bytes e fits

a-part : IsOfBytes part
a-part = whole part_parts part_of _ (pair (number w32) _ (numbers w32) (pair byte (tagged ends) one-byte (kinds ends end-bytes)))

a-transaction : IsOfBytes transaction
a-transaction = whole transaction_parts transaction_of _
    (pair (number w64) _ (numbers w64) (pair (number w16) _ (numbers w16) (pair policy _ policies (list byte most_parts part one-byte a-part))))

-- ---- leases and reversions

a-lease : IsOfBytes lease
a-lease = whole lease_parts lease_of _
    (pair (number w64) _ (numbers w64) (pair (number w16) _ (numbers w16) (pair (number w32) _ (numbers w32) (pair byte _ one-byte
    (pair signed64 _ signed (pair (number w64) _ (numbers w64) (pair policy steps policies reversions)))))))

a-pending : IsOfBytes pending
a-pending = whole pending_parts pending_of _
    (pair (number w64) _ (numbers w64) (pair (number w16) _ (numbers w16) (pair (number w32) _ (numbers w32) (pair byte _ one-byte
    (pair (number w64) steps (numbers w64) reversions)))))

-- ---- states

pub a-state : (version : ℕ) → IsOfBytes (state version)
a-state version = whole state_parts state_of _
    (pair (number w64) _ (numbers w64) (pair (number w64) _ (numbers w64)
    (pair (listed w16 (process version)) _ (list (number w16) _ (process version) (numbers w16) (a-process version))
    (pair (listed w32 transaction) _ (list (number w32) _ transaction (numbers w32) a-transaction)
    (pair (listed w16 (number w64)) _ (list (number w16) _ (number w64) (numbers w16) (numbers w64))
    (pair (listed w32 lease) (listed w32 pending) (list (number w32) _ lease (numbers w32) a-lease) (list (number w32) _ pending (numbers w32) a-pending)))))))
