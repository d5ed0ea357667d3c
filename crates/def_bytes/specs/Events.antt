-- Source: own.
-- An event as bytes: a tag, the moment, and what the act has.
use Rattle.std.specs.Prelude.{ℕ, ◌+◌, nat_lt, nat_le, ◌==◌, ℤ, Bool, true, ◌&&◌, if◌then◌else◌, List, ◌++◌, Option, Some, None}
use Rattle.std.specs.Int.{w16, w32, w64}
use Rattle.def_bytes.specs.Fields.{Field, Variants, ◌>>=◌, number, byte, both, only, made_of, counted, tagged}
use Rattle.boss_model.specs.declared.command.Policy.{Policy}
use Rattle.boss_model.specs.declared.command.Setting.{Setting}
use Rattle.boss_model.specs.declared.command.Step.{Step}
use Rattle.boss_model.specs.declared.event.Act.{Act}
use Rattle.boss_model.specs.declared.event.Act.TheVariants as act
use Rattle.boss_model.specs.declared.event.Event.{Event}
use Rattle.boss_model.specs.Limits.{most_writes, last_number}
use Rattle.def_bytes.specs.Tags as tags
use Rattle.def_bytes.specs.Parts.{nothing, within, signed64, natural, moment, name, policy, steps}

-- ---- what a submit writes: point, value, priority, lease, reversion

abbrev pub setting_parts : Setting → Option (ℕ × (ℤ × (ℤ × (ℤ × List Step))))
setting_parts write = Some (write.point, (write.value, (write.priority, (write.lease, write.revert))))

abbrev pub setting_of : ℕ × (ℤ × (ℤ × (ℤ × List Step))) → Setting
setting_of x = record { point = x.0; value = x.1.0; priority = x.1.1.0; lease = x.1.1.1.0; revert = x.1.1.1.1 }

abbrev pub setting : Field Setting
setting = made_of setting_parts setting_of
    (both (number w32) (both signed64 (both (natural byte) (both (natural (number w32)) steps))))

abbrev pub writes : Field (List Setting)
writes = counted (within 1 most_writes) most_writes setting

abbrev pub points : Field (List ℕ)
points = counted byte most_writes (number w32)

-- ---- what the acts have behind the moment

abbrev pub submission : Field (Policy × List Setting)
submission = both policy writes

abbrev pub renewal : Field (ℕ × (ℤ × List ℕ))
renewal = both (number w64) (both (natural (number w32)) points)

-- the process's own number for a request
abbrev pub is_number : ℕ → Bool
is_number seq = nat_le 1 seq && nat_lt seq last_number

-- an act of a process, without such a number and with one
abbrev pub owned : {X : Type 0} → Field X → Field (ℕ × X)
owned f = both (number w16) f

abbrev pub numbered : {X : Type 0} → Field X → Field (ℕ × (ℕ × X))
numbered f = both (number w16) (both (only is_number (number w64)) f)

-- by whether there is a number
abbrev pub by_number : {X : Type 0} → ℕ → X → X → X
by_number seq without with_it = if seq == 0 then without else with_it

abbrev pub act_tag : Act → ℕ
act_tag (act.Enrol bytes) = tags.enrol
act_tag (act.Submit owner on_fault settings seq) = by_number seq tags.submit tags.numbered_submit
act_tag (act.Renew owner txn longer named seq) = by_number seq tags.renew tags.numbered_renew
act_tag (act.Cancel owner txn seq) = by_number seq tags.cancel tags.numbered_cancel
act_tag (act.Gone owner) = tags.gone
act_tag act.Tick = tags.tick
act_tag (act.Fault point) = tags.fault

abbrev pub act_fits : Act → Bool
act_fits (act.Enrol bytes) = name.fits bytes
act_fits (act.Submit owner on_fault settings seq) = by_number seq
    ((owned submission).fits (owner, (on_fault, settings))) ((numbered submission).fits (owner, (seq, (on_fault, settings))))
act_fits (act.Renew owner txn longer named seq) = by_number seq
    ((owned renewal).fits (owner, (txn, (longer, named)))) ((numbered renewal).fits (owner, (seq, (txn, (longer, named)))))
act_fits (act.Cancel owner txn seq) = by_number seq
    ((owned (number w64)).fits (owner, txn)) ((numbered (number w64)).fits (owner, (seq, txn)))
act_fits (act.Gone owner) = (number w16).fits owner
act_fits act.Tick = true
act_fits (act.Fault point) = (number w32).fits point

abbrev pub act_text : Act → List ℕ
act_text (act.Enrol bytes) = name.text bytes
act_text (act.Submit owner on_fault settings seq) = by_number seq
    ((owned submission).text (owner, (on_fault, settings))) ((numbered submission).text (owner, (seq, (on_fault, settings))))
act_text (act.Renew owner txn longer named seq) = by_number seq
    ((owned renewal).text (owner, (txn, (longer, named)))) ((numbered renewal).text (owner, (seq, (txn, (longer, named)))))
act_text (act.Cancel owner txn seq) = by_number seq
    ((owned (number w64)).text (owner, txn)) ((numbered (number w64)).text (owner, (seq, txn)))
act_text (act.Gone owner) = (number w16).text owner
act_text act.Tick = nothing.text tt
act_text (act.Fault point) = (number w32).text point

-- the act that a kind's field begins with
abbrev pub kind_at : {X Y : Type 0} → (Y → X) → Field Y → List ℕ → Option (X × List ℕ)
kind_at made f bytes = f.at bytes >>= λ y. Some (made y.0, y.1)

abbrev pub act_at : ℕ → List ℕ → Option (Act × List ℕ)
act_at first bytes =
    if first == tags.enrol then kind_at act.Enrol name bytes else
    (if first == tags.submit then kind_at (λ x. act.Submit x.0 x.1.0 x.1.1 0) (owned submission) bytes else
    (if first == tags.renew then kind_at (λ x. act.Renew x.0 x.1.0 x.1.1.0 x.1.1.1 0) (owned renewal) bytes else
    (if first == tags.cancel then kind_at (λ x. act.Cancel x.0 x.1 0) (owned (number w64)) bytes else
    (if first == tags.gone then kind_at act.Gone (number w16) bytes else
    (if first == tags.tick then kind_at (λ x. act.Tick) nothing bytes else
    (if first == tags.fault then kind_at act.Fault (number w32) bytes else
    (if first == tags.numbered_submit then kind_at (λ x. act.Submit x.0 x.1.1.0 x.1.1.1 x.1.0) (numbered submission) bytes else
    (if first == tags.numbered_renew then kind_at (λ x. act.Renew x.0 x.1.1.0 x.1.1.1.0 x.1.1.1.1 x.1.0) (numbered renewal) bytes else
    (if first == tags.numbered_cancel then kind_at (λ x. act.Cancel x.0 x.1.1 x.1.0) (numbered (number w64)) bytes else None)))))))))

abbrev pub acts : Variants Act
acts = record { tag = act_tag; fits = act_fits; text = act_text; most = (numbered submission).most; at = act_at }

-- ---- the event

abbrev pub event_at : ℕ → List ℕ → Option (Event × List ℕ)
event_at first bytes = moment.at bytes >>= λ m. act_at first m.1 >>= λ a. Some (record { moment = m.0; act = a.0 }, a.1)

abbrev pub events : Variants Event
events = record {
  tag = λ e. act_tag e.act;
  fits = λ e. moment.fits e.moment && act_fits e.act;
  text = λ e. moment.text e.moment ++ act_text e.act;
  most = moment.most + acts.most;
  at = event_at;
}

abbrev pub event : Field Event
event = tagged events
