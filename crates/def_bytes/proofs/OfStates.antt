-- States are exact and short.
use Rattle.std.proofs.Common.{◌≡◌, ℕ, suc, ◌+◌, ◌≤◌, ◌==◌, ℤ, true, cond, List, [], ◌∷◌, ◌++◌, length, map, Option, Some, None, refl, sym, ap, subst, ◌∙◌, arith}
use Rattle.std.specs.Int.{w16, w32, w64}
use Rattle.std.proofs.lemmas.Bool.{cond_both, eq-eqb, eqb-true}
use Rattle.std.proofs.lemmas.List.{length-map}
use Rattle.def_bytes.specs.Exact.{IsBytes, TookKind, Undoes}
use Rattle.def_bytes.specs.Fields.{Field, number, byte, both, counted, tagged}
use Rattle.boss_model.specs.declared.command.Policy.{Policy}
use Rattle.boss_model.specs.declared.command.Step.{Step}
use Rattle.boss_model.specs.declared.kept.Acceptance.{Acceptance}
use Rattle.boss_model.specs.declared.kept.Acceptance.TheVariants.{Accepted, Renewed, Cancelled}
use Rattle.boss_model.specs.declared.kept.KeptReply.{KeptReply}
use Rattle.boss_model.specs.declared.notice.Cause.{Cause}
use Rattle.boss_model.specs.declared.notice.Cause.TheVariants as cause
use Rattle.boss_model.specs.declared.notice.Notice.{Notice}
use Rattle.boss_model.specs.declared.notice.What.{What}
use Rattle.boss_model.specs.declared.notice.What.TheVariants as what
use Rattle.boss_model.specs.Limits.{notices_kept}
use Rattle.boss_model.specs.Records.{End, Part}
use Rattle.boss_model.specs.State.{Process}
use Rattle.def_bytes.specs.Parts.{nothing, listed, name, policy}
use Rattle.def_bytes.specs.States.{cause_tag, cause_fits, cause_text, cause_at, causes, ended, cut, what_tag, what_fits, what_text, what_at, whats, told, reply_numbers, reply_tag, reply_fits, reply_text, reply_of, reply_at, replies, no_reply_part, no_reply, reply, numbered_from, is_numbered_from, told_of, first_of_last, process_parts, process_of, are_sent, sent, process, end_parts, end_of, end, end_tag, end_fits, end_text, end_at, ends, part_parts, part_of, part, transaction_parts, transaction_of, transaction, lease_parts, lease_of, lease, pending_parts, pending_of, pending, most_parts, StateParts, state_parts, state_of, state}
use Rattle.def_bytes.proofs.Spelling.{IsSpelled, some-is, left_true, right_true, both_true, if_tag, no_tag, kind_takes, kind_again, word16, word32, word64, one_byte, pair, tested, whole, list, variants}
use Rattle.def_bytes.proofs.OfParts.{no_bytes, signed, names, policies, reversion}

-- ---- causes

cause_takes : (tag : ℕ) (bytes : List ℕ) (x : Cause) (rest : List ℕ) → IsBytes bytes → cause_at tag bytes ≡ Some (x, rest) → TookKind causes tag bytes x rest
cause_takes tag bytes x rest are =
    if_tag causes tag 0 _ _ bytes x rest (kind_takes causes 0 (λ y. cause.Expired) nothing no_bytes (λ y fits. record { told = refl; fits = fits; text = refl }) bytes x rest are)
    (if_tag causes tag 1 _ _ bytes x rest (kind_takes causes 1 (λ y. cause.Cancelled) nothing no_bytes (λ y fits. record { told = refl; fits = fits; text = refl }) bytes x rest are)
    (if_tag causes tag 2 _ _ bytes x rest (kind_takes causes 2 (λ y. cause.Died) nothing no_bytes (λ y fits. record { told = refl; fits = fits; text = refl }) bytes x rest are)
    (if_tag causes tag 3 _ _ bytes x rest (kind_takes causes 3 (λ y. cause.Fault) nothing no_bytes (λ y fits. record { told = refl; fits = fits; text = refl }) bytes x rest are)
    (if_tag causes tag 4 _ _ bytes x rest (kind_takes causes 4 _ _ word64 (λ y fits. record { told = refl; fits = fits; text = refl }) bytes x rest are)
    (no_tag causes tag bytes x rest)))))

cause_again : (x : Cause) (rest : List ℕ) → cause_fits x ≡ true → cause_at (cause_tag x) (cause_text x ++ rest) ≡ Some (x, rest)
cause_again cause.Expired rest fits = refl
cause_again cause.Cancelled rest fits = refl
cause_again cause.Died rest fits = refl
cause_again cause.Fault rest fits = refl
cause_again (cause.Superseded by) rest fits = kind_again cause.Superseded (number w64) word64 by rest fits

cause_short : (x : Cause) → cause_fits x ≡ true → length (cause_text x) ≤ 8
cause_short cause.Expired fits = omega arith
cause_short cause.Cancelled fits = omega arith
cause_short cause.Died fits = omega arith
cause_short cause.Fault fits = omega arith
cause_short (cause.Superseded by) fits = word64.short.short by fits

pub a_cause : IsSpelled (tagged causes)
a_cause = variants causes (record { exact = record { takes = cause_takes; again = cause_again }; short = cause_short })

-- ---- notices

ends_by : IsSpelled ended
ends_by = pair (number w32) (tagged causes) word32 a_cause

cuts : IsSpelled cut
cuts = pair (number w32) (number w64) word32 word64

what_takes : (tag : ℕ) (bytes : List ℕ) (x : What) (rest : List ℕ) → IsBytes bytes → what_at tag bytes ≡ Some (x, rest) → TookKind whats tag bytes x rest
what_takes tag bytes x rest are =
    if_tag whats tag 1 _ _ bytes x rest (kind_takes whats 1 what.Fault (number w32) word32 (λ y fits. record { told = refl; fits = fits; text = refl }) bytes x rest are)
    (if_tag whats tag 2 _ _ bytes x rest (kind_takes whats 2 _ _ ends_by (λ y fits. record { told = refl; fits = fits; text = refl }) bytes x rest are)
    (if_tag whats tag 3 _ _ bytes x rest (kind_takes whats 3 what.Reverted (number w32) word32 (λ y fits. record { told = refl; fits = fits; text = refl }) bytes x rest are)
    (if_tag whats tag 4 _ _ bytes x rest (kind_takes whats 4 _ _ cuts (λ y fits. record { told = refl; fits = fits; text = refl }) bytes x rest are)
    (if_tag whats tag 5 _ _ bytes x rest (kind_takes whats 5 (λ y. what.Done) nothing no_bytes (λ y fits. record { told = refl; fits = fits; text = refl }) bytes x rest are)
    (no_tag whats tag bytes x rest)))))

what_again : (x : What) (rest : List ℕ) → what_fits x ≡ true → what_at (what_tag x) (what_text x ++ rest) ≡ Some (x, rest)
what_again (what.Fault point) rest fits = kind_again what.Fault (number w32) word32 point rest fits
what_again (what.Ended point why) rest fits = kind_again (λ y. what.Ended y.0 y.1) ended ends_by (point, why) rest fits
what_again (what.Reverted point) rest fits = kind_again what.Reverted (number w32) word32 point rest fits
what_again (what.Cut point by) rest fits = kind_again (λ y. what.Cut y.0 y.1) cut cuts (point, by) rest fits
what_again what.Done rest fits = refl

what_short : (x : What) → what_fits x ≡ true → length (what_text x) ≤ 13
what_short (what.Fault point) fits = let h : length ((number w32).text point) ≤ 4 = word32.short.short point fits in omega (arith, h)
what_short (what.Ended point why) fits = ends_by.short.short (point, why) fits
what_short (what.Reverted point) fits = let h : length ((number w32).text point) ≤ 4 = word32.short.short point fits in omega (arith, h)
what_short (what.Cut point by) fits = let h : length (cut.text (point, by)) ≤ 12 = cuts.short.short (point, by) fits in omega (arith, h)
what_short what.Done fits = omega arith

pub a_notice : IsSpelled told
a_notice = pair _ _ word64 (pair _ _ word64 (variants whats (record { exact = record { takes = what_takes; again = what_again }; short = what_short })))

-- ---- kept replies

three_numbers : IsSpelled reply_numbers
three_numbers = pair _ _ word64 (pair _ _ word64 word64)

reply_takes : (tag : ℕ) (bytes : List ℕ) (x : Option KeptReply) (rest : List ℕ) → IsBytes bytes → reply_at tag bytes ≡ Some (x, rest) → TookKind replies tag bytes x rest
reply_takes tag bytes x rest are =
    if_tag replies tag 0 _ _ bytes x rest (kind_takes replies 0 (λ y. None) nothing no_bytes (λ y fits. record { told = refl; fits = fits; text = refl }) bytes x rest are)
    (if_tag replies tag 1 _ _ bytes x rest (kind_takes replies 1 (reply_of Accepted) reply_numbers three_numbers (λ y fits. record { told = refl; fits = fits; text = refl }) bytes x rest are)
    (if_tag replies tag 2 _ _ bytes x rest (kind_takes replies 2 (reply_of Renewed) reply_numbers three_numbers (λ y fits. record { told = refl; fits = fits; text = refl }) bytes x rest are)
    (if_tag replies tag 3 _ _ bytes x rest (kind_takes replies 3 (reply_of Cancelled) reply_numbers three_numbers (λ y fits. record { told = refl; fits = fits; text = refl }) bytes x rest are)
    (no_tag replies tag bytes x rest))))

some_again : (seq : ℕ) (a : Acceptance) (rest : List ℕ) → reply_fits (Some (record { seq = seq; acceptance = a })) ≡ true →
    reply_at (reply_tag (Some (record { seq = seq; acceptance = a }))) (reply_text (Some (record { seq = seq; acceptance = a })) ++ rest) ≡ Some (Some (record { seq = seq; acceptance = a }), rest)
some_again seq (Accepted txn until) rest fits = kind_again (reply_of Accepted) reply_numbers three_numbers (seq, (txn, until)) rest fits
some_again seq (Renewed txn until) rest fits = kind_again (reply_of Renewed) reply_numbers three_numbers (seq, (txn, until)) rest fits
some_again seq (Cancelled txn at) rest fits = kind_again (reply_of Cancelled) reply_numbers three_numbers (seq, (txn, at)) rest fits

reply_again : (x : Option KeptReply) (rest : List ℕ) → reply_fits x ≡ true → reply_at (reply_tag x) (reply_text x ++ rest) ≡ Some (x, rest)
reply_again None rest fits = refl
reply_again (Some reply) rest fits = some_again reply.seq reply.acceptance rest fits

some_short : (seq : ℕ) (a : Acceptance) → reply_fits (Some (record { seq = seq; acceptance = a })) ≡ true → length (reply_text (Some (record { seq = seq; acceptance = a }))) ≤ 24
some_short seq (Accepted txn until) fits = three_numbers.short.short (seq, (txn, until)) fits
some_short seq (Renewed txn until) fits = three_numbers.short.short (seq, (txn, until)) fits
some_short seq (Cancelled txn at) fits = three_numbers.short.short (seq, (txn, at)) fits

reply_short : (x : Option KeptReply) → reply_fits x ≡ true → length (reply_text x) ≤ 24
reply_short None fits = omega arith
reply_short (Some reply) fits = some_short reply.seq reply.acceptance fits

no_reply_undoes : Undoes no_reply_part (λ x. None) nothing
no_reply_undoes = record { back = λ y fits. refl; whole = back_again }
  where
    back_again : (x : Option KeptReply) (y : Unit) → no_reply_part x ≡ Some y → None ≡ x
    back_again None y is = refl
    back_again (Some reply) y is = absurd cc

a_reply : (version : ℕ) → IsSpelled (reply version)
a_reply version = cond_both (version == 1) no_reply (tagged replies) IsSpelled
    (λ first. whole no_reply_part (λ x. None) nothing no_reply_undoes no_bytes)
    (λ later. variants replies (record { exact = record { takes = reply_takes; again = reply_again }; short = reply_short }))

-- ---- processes

-- notices that are numbered are numbered again
numbers_back : (n : ℕ) (xs : List (ℕ × (ℕ × What))) → is_numbered_from n (numbered_from n xs) ≡ true
numbers_back n [] = refl
numbers_back n (x ∷ xs) = both_true (n == n) _ (eq-eqb n n refl) (numbers_back (n + 1) xs)

told_back : (n : ℕ) (xs : List (ℕ × (ℕ × What))) → map told_of (numbered_from n xs) ≡ xs
told_back n [] = refl
told_back n (x ∷ xs) = ap (λ ys. x ∷ ys) (told_back (n + 1) xs)

as_many : (n : ℕ) (xs : List (ℕ × (ℕ × What))) → length (numbered_from n xs) ≡ length xs
as_many n [] = refl
as_many n (x ∷ xs) = ap suc (as_many (n + 1) xs)

numbered_again : (n : ℕ) (notices : List Notice) → is_numbered_from n notices ≡ true → numbered_from n (map told_of notices) ≡ notices
numbered_again n [] is = refl
numbered_again n (notice ∷ notices) is =
    let same : notice.number ≡ n = eqb-true notice.number n (left_true (notice.number == n) (is_numbered_from (n + 1) notices) is) in
    ap (λ k. record notice { number = k } ∷ numbered_from (n + 1) (map told_of notices)) (sym same)
    ∙ ap (λ xs. notice ∷ xs) (numbered_again (n + 1) notices (right_true (notice.number == n) (is_numbered_from (n + 1) notices) is))

abbrev ProcessParts : Type 0
ProcessParts = List ℕ × ((ℕ × List (ℕ × (ℕ × What))) × Option KeptReply)

process_undoes : (f : Field ProcessParts) → Undoes process_parts process_of f
process_undoes f = record { back = back; whole = back_again }
  where
    back : (y : ProcessParts) → f.fits y ≡ true → process_parts (process_of y) ≡ Some y
    back y fits =
        let first = first_of_last y.1.0.0 (length y.1.0.1) in
        let numbered : is_numbered_from (first_of_last y.1.0.0 (length (numbered_from first y.1.0.1))) (numbered_from first y.1.0.1) ≡ true =
        subst (λ m. is_numbered_from (first_of_last y.1.0.0 m) (numbered_from first y.1.0.1) ≡ true) (sym (as_many first y.1.0.1)) (numbers_back first y.1.0.1) in
        ap (λ b. cond b (Some (y.0, ((y.1.0.0, map told_of (numbered_from first y.1.0.1)), y.1.1))) None) numbered
        ∙ ap (λ (ts : List (ℕ × (ℕ × What))). Some (y.0, ((y.1.0.0, ts), y.1.1))) (told_back first y.1.0.1)

    back_again : (x : Process) (y : ProcessParts) → process_parts x ≡ Some y → process_of y ≡ x
    back_again x y is = cond_both (is_numbered_from (first_of_last x.count (length x.kept)) x.kept)
        (Some (x.name, ((x.count, map told_of x.kept), x.reply))) None (λ o. o ≡ Some y → process_of y ≡ x)
        (λ numbered same.
        subst (λ z. process_of z ≡ x) (some-is (x.name, ((x.count, map told_of x.kept), x.reply)) y same)
        (ap (λ m. record x { kept = numbered_from (first_of_last x.count m) (map told_of x.kept) }) (length-map x.kept told_of)
        ∙ ap (λ ns. record x { kept = ns }) (numbered_again _ x.kept numbered)))
        (λ _ same. absurd cc) is

notices_sent : IsSpelled sent
notices_sent = tested are_sent (both (number w64) (counted (number w16) notices_kept told))
    (pair (number w64) (counted (number w16) notices_kept told) word64 (list (number w16) notices_kept told word16 a_notice))

a_process : (version : ℕ) → IsSpelled (process version)
a_process version = whole process_parts process_of _ (process_undoes _)
    (pair name (both sent (reply version)) names (pair sent (reply version) notices_sent (a_reply version)))

-- ---- records of transactions

end_undoes : Undoes end_parts end_of (both (tagged causes) (number w64))
end_undoes = record { back = λ y fits. refl; whole = λ x y is. cc }

an_end : IsSpelled end
an_end = whole end_parts end_of _ end_undoes (pair (tagged causes) (number w64) a_cause word64)

end_takes : (tag : ℕ) (bytes : List ℕ) (x : Option End) (rest : List ℕ) → IsBytes bytes → end_at tag bytes ≡ Some (x, rest) → TookKind ends tag bytes x rest
end_takes tag bytes x rest are =
    if_tag ends tag 0 _ _ bytes x rest (kind_takes ends 0 (λ y. None) nothing no_bytes (λ y fits. record { told = refl; fits = fits; text = refl }) bytes x rest are)
    (if_tag ends tag 1 _ _ bytes x rest (kind_takes ends 1 (λ e. Some e) end an_end (λ y fits. record { told = refl; fits = fits; text = refl }) bytes x rest are)
    (no_tag ends tag bytes x rest))

end_again : (x : Option End) (rest : List ℕ) → end_fits x ≡ true → end_at (end_tag x) (end_text x ++ rest) ≡ Some (x, rest)
end_again None rest fits = refl
end_again (Some e) rest fits = kind_again (λ z. Some z) end an_end e rest fits

end_short : (x : Option End) → end_fits x ≡ true → length (end_text x) ≤ end.most
end_short None fits = omega arith
end_short (Some e) fits = an_end.short.short e fits

perhaps_an_end : IsSpelled (tagged ends)
perhaps_an_end = variants ends (record { exact = record { takes = end_takes; again = end_again }; short = end_short })

part_undoes : Undoes part_parts part_of (both (number w32) (both byte (tagged ends)))
part_undoes = record { back = λ y fits. refl; whole = λ x y is. cc }

pub a_part : IsSpelled part
a_part = whole part_parts part_of _ part_undoes (pair (number w32) (both byte (tagged ends)) word32 (pair byte (tagged ends) one_byte perhaps_an_end))

transaction_undoes : (f : Field (ℕ × (ℕ × (Policy × List Part)))) → Undoes transaction_parts transaction_of f
transaction_undoes f = record { back = λ y fits. refl; whole = λ x y is. cc }

a_transaction : IsSpelled transaction
a_transaction = whole transaction_parts transaction_of _ (transaction_undoes _)
    (pair _ _ word64 (pair _ _ word16 (pair policy (counted byte most_parts part) policies (list byte most_parts part one_byte a_part))))

-- ---- leases and reversions

lease_undoes : (f : Field (ℕ × (ℕ × (ℕ × (ℕ × (ℤ × (ℕ × (Policy × List Step)))))))) → Undoes lease_parts lease_of f
lease_undoes f = record { back = λ y fits. refl; whole = λ x y is. cc }

pub a_lease : IsSpelled lease
a_lease = whole lease_parts lease_of _ (lease_undoes _)
    (pair _ _ word64 (pair _ _ word16 (pair _ _ word32 (pair _ _ one_byte (pair _ _ signed (pair _ _ word64 (pair _ _ policies reversion)))))))

pending_undoes : (f : Field (ℕ × (ℕ × (ℕ × (ℕ × (ℕ × List Step)))))) → Undoes pending_parts pending_of f
pending_undoes f = record { back = λ y fits. refl; whole = λ x y is. cc }

pub a_pending : IsSpelled pending
a_pending = whole pending_parts pending_of _ (pending_undoes _)
    (pair _ _ word64 (pair _ _ word16 (pair _ _ word32 (pair _ _ one_byte (pair _ _ word64 reversion)))))

-- ---- states

listed16 : {X : Type 0} (f : Field X) → IsSpelled f → IsSpelled (listed w16 f)
listed16 f a = list (number w16) 65535 f word16 a

listed32 : {X : Type 0} (f : Field X) → IsSpelled f → IsSpelled (listed w32 f)
listed32 f a = list (number w32) 4294967295 f word32 a

state_undoes : (f : Field StateParts) → Undoes state_parts state_of f
state_undoes f = record { back = λ y fits. refl; whole = λ x y is. cc }

pub state_spelled : (version : ℕ) → IsSpelled (state version)
state_spelled version = whole state_parts state_of _ (state_undoes _)
    (pair _ _ word64 (pair _ _ word64 (pair _ _ (listed16 (process version) (a_process version)) (pair _ _ (listed32 transaction a_transaction)
    (pair _ _ (listed16 (number w64) word64) (pair _ _ (listed32 lease a_lease) (listed32 pending a_pending)))))))
