-- Processes, whose entries and rings stand side by side.
use Rattle.std.proofs.Common.{◌≡◌, ℕ, zero, suc, ◌+◌, ◌<◌, ◌≤◌, List, [], ◌∷◌, ◌++◌, length, get_or, set, Bool, true, false, not, Some, None, cond, refl, ap, sym, ◌∙◌, arith, if◌then◌else◌}
use Rattle.std.specs.Prelude.{◌==◌, ◌^◌, nat_eq, nat_lt, position, slice_get}
use Rattle.std.specs.Cmp.Lexicographic.{pointwise}
use Rattle.std.specs.List.{position_or_len}
use Rattle.boss_model.specs.declared.notice.What.{What}
use Rattle.boss_model.specs.Happenings.{post, posted}
use Rattle.boss_model.specs.Limits.{last_number}
use Rattle.law_effects.specs.Changes.{may_be_told}
use Rattle.boss_model.specs.Processes.{process_named, name_of, next_notice}
use Rattle.boss_notices.specs.Rings.{Ring, ring_of, posted as posted_to}
use Rattle.boss_model.specs.declared.kept.Acceptance.{Acceptance}
use Rattle.boss_model.specs.declared.kept.KeptReply.{KeptReply}
use Rattle.boss_model.specs.Replies.{keep_reply, reply_of}
use Rattle.boss_persistent.specs.declared.processes.Entry.{Entry}
use Rattle.boss_persistent.specs.Processes.{process_of, processes_of, process_at}

-- an entry where there is none
abbrev pub blank : Entry
blank = record { name = []; reply = None }

pub length-processes_of : (entries : List Entry) (rings : List Ring) → length entries ≡ length rings → length (processes_of entries rings) ≡ length entries
length-processes_of [] rings same = refl
length-processes_of (entry ∷ entries) [] same = absurd (omega arith)
length-processes_of (entry ∷ entries) (ring ∷ rings) same = ap suc (length-processes_of entries rings (omega arith))

pub process-there : (entries : List Entry) (rings : List Ring) (i : ℕ) → length entries ≡ length rings → i < length entries →
    slice_get (processes_of entries rings) i ≡ Some (process_of (get_or entries i blank) (ring_of rings i))
process-there [] rings i same within = absurd (omega arith)
process-there (entry ∷ entries) [] i same within = absurd (omega arith)
process-there (entry ∷ entries) (ring ∷ rings) zero same within = refl
process-there (entry ∷ entries) (ring ∷ rings) (suc i) same within = process-there entries rings i (omega arith) (omega arith)

pub processes_of-more : (entries : List Entry) (rings : List Ring) (entry : Entry) (ring : Ring) → length entries ≡ length rings →
    processes_of (entries ++ entry ∷ []) (rings ++ ring ∷ []) ≡ processes_of entries rings ++ process_of entry ring ∷ []
processes_of-more [] [] entry ring same = refl
processes_of-more [] (r ∷ rs) entry ring same = absurd (omega arith)
processes_of-more (e ∷ es) [] entry ring same = absurd (omega arith)
processes_of-more (e ∷ es) (r ∷ rs) entry ring same = ap (λ ps. process_of e r ∷ ps) (processes_of-more es rs entry ring (omega arith))

-- another ring at a place is another process there
pub processes_of-set : (entries : List Entry) (rings : List Ring) (i : ℕ) (ring : Ring) → length entries ≡ length rings →
    processes_of entries (set rings i ring) ≡ set (processes_of entries rings) i (process_of (get_or entries i blank) ring)
processes_of-set [] rings i ring same = refl
processes_of-set (e ∷ es) [] i ring same = absurd (omega arith)
processes_of-set (e ∷ es) (r ∷ rs) zero ring same = refl
processes_of-set (e ∷ es) (r ∷ rs) (suc i) ring same = ap (λ ps. process_of e r ∷ ps) (processes_of-set es rs i ring (omega arith))

-- another entry at a place is another process there
pub processes_of-entry : (entries : List Entry) (rings : List Ring) (i : ℕ) (entry : Entry) → length entries ≡ length rings →
    processes_of (set entries i entry) rings ≡ set (processes_of entries rings) i (process_of entry (ring_of rings i))
processes_of-entry [] rings i entry same = refl
processes_of-entry (e ∷ es) [] i entry same = absurd (omega arith)
processes_of-entry (e ∷ es) (r ∷ rs) zero entry same = refl
processes_of-entry (e ∷ es) (r ∷ rs) (suc i) entry same = ap (λ ps. process_of e r ∷ ps) (processes_of-entry es rs i entry (omega arith))

place-named : (entries : List Entry) (rings : List Ring) (name : List ℕ) → length entries ≡ length rings →
    position_or_len (λ process. pointwise nat_eq process.name name) (processes_of entries rings) ≡ position_or_len (λ known. pointwise nat_eq known.name name) entries
place-named [] rings name same = refl
place-named (e ∷ es) [] name same = absurd (omega arith)
place-named (e ∷ es) (r ∷ rs) name same = ap (λ place. cond (not (pointwise nat_eq e.name name)) (1 + place) 0) (place-named es rs name (omega arith))

pub named-names : (entries : List Entry) (rings : List Ring) (name : List ℕ) → length entries ≡ length rings →
    process_named (processes_of entries rings) name ≡ position (λ known. pointwise nat_eq known.name name) entries
named-names entries rings name same =
    ap (λ place. cond (nat_lt place (length (processes_of entries rings))) (Some place) None) (place-named entries rings name same)
    ∙ ap (λ count. cond (nat_lt (position_or_len (λ known. pointwise nat_eq known.name name) entries) count) (Some (position_or_len (λ known. pointwise nat_eq known.name name) entries)) None)
    (length-processes_of entries rings same)

pub process_at-there : (entries : List Entry) (rings : List Ring) (i : ℕ) → length entries ≡ length rings → i < length entries →
    process_at (processes_of entries rings) i ≡ process_of (get_or entries i blank) (ring_of rings i)
process_at-there entries rings i same within = rw (process-there entries rings i same within) refl

pub name-there : (entries : List Entry) (rings : List Ring) (i : ℕ) → length entries ≡ length rings → i < length entries →
    name_of (processes_of entries rings) i ≡ (get_or entries i blank).name
name-there entries rings i same within = rw (process-there entries rings i same within) refl

pub next-there : (entries : List Entry) (rings : List Ring) (i : ℕ) → length entries ≡ length rings → i < length entries →
    next_notice (processes_of entries rings) i ≡ (ring_of rings i).count + 1
next-there entries rings i same within = rw (process-there entries rings i same within) refl

pub told-more-there : (entries : List Entry) (rings : List Ring) (i : ℕ) → length entries ≡ length rings → i < length entries →
    may_be_told (processes_of entries rings) i ≡ not ((ring_of rings i).count == last_number)
told-more-there entries rings i same within = rw (process-there entries rings i same within) refl

-- a process is told what its ring is
told-ring : (at txn : ℕ) (what : What) (entry : Entry) (ring : Ring) → posted at txn what (process_of entry ring) ≡ process_of entry (posted_to at txn what ring)
told-ring at txn what entry ring = chosen (ring.count == 2 ^ 62) _ _
  where
    chosen : (last : Bool) (same more : Ring) → (if last then process_of entry same else process_of entry more) ≡ process_of entry (if last then same else more)
    chosen true same more = refl
    chosen false same more = refl

pub told-there : (entries : List Entry) (rings : List Ring) (i at txn : ℕ) (what : What) → length entries ≡ length rings → i < length entries →
    processes_of entries (set rings i (posted_to at txn what (ring_of rings i))) ≡ post (processes_of entries rings) i (slice_get (processes_of entries rings) i) at txn what
told-there entries rings i at txn what same within =
    rw (process-there entries rings i same within)
    (processes_of-set entries rings i _ same ∙ ap (set (processes_of entries rings) i) (sym (told-ring at txn what (get_or entries i blank) (ring_of rings i))))

-- ---- replies

process-nowhere : (entries : List Entry) (rings : List Ring) (i : ℕ) → length entries ≡ length rings → length entries ≤ i → slice_get (processes_of entries rings) i ≡ None
process-nowhere [] rings i same past = refl
process-nowhere (e ∷ es) [] i same past = absurd (omega arith)
process-nowhere (e ∷ es) (r ∷ rs) zero same past = absurd (omega arith)
process-nowhere (e ∷ es) (r ∷ rs) (suc i) same past = process-nowhere es rs i (omega arith) (omega arith)

module _ (entries : List Entry) (rings : List Ring) (i : ℕ) (same : length entries ≡ length rings) where
  pub reply-there : i < length entries → reply_of (processes_of entries rings) i ≡ (get_or entries i blank).reply
  reply-there within = rw (process-there entries rings i same within) refl

  pub reply-nowhere : length entries ≤ i → reply_of (processes_of entries rings) i ≡ None
  reply-nowhere past = rw (process-nowhere entries rings i same past) refl

  pub kept-there : (reply : KeptReply) → i < length entries →
      processes_of (set entries i (record (get_or entries i blank) { reply = Some reply })) rings ≡ keep_reply i reply.seq (Some reply.acceptance) (processes_of entries rings)
  kept-there reply within =
      rw (process-there entries rings i same within) (processes_of-entry entries rings i (record (get_or entries i blank) { reply = Some reply }) same)

  pub kept-nowhere : (seq : ℕ) (given : Acceptance) → length entries ≤ i → keep_reply i seq (Some given) (processes_of entries rings) ≡ processes_of entries rings
  kept-nowhere seq given past = rw (process-nowhere entries rings i same past) refl
