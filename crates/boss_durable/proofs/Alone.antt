-- An event that is a record of its own.
use Rattle.std.proofs.Common.{◌≡◌, true, ℕ, ◌≤◌, List, [], ◌∷◌, ◌++◌, length, Some, refl, sym, ap, ◌∙◌, arith, append-nil}
use Rattle.def_bytes.specs.Batches.{batch_text}
use Rattle.def_bytes.specs.Events.{event}
use Rattle.def_disk_pair.specs.Contents.{IsNext}
use Rattle.boss_model.specs.Acts.{replay}
use Rattle.boss_model.specs.declared.event.Event.{Event}
use Rattle.boss_model.specs.declared.state.Actuator.{Actuator}
use Rattle.boss_model.specs.State.{Persistent}
use Rattle.boss_durable.proofs.Events.{events_short, no_bytes}
use Rattle.def_log.specs.Versions.{newest_version}

pub alone_text : (bytes before : List ℕ) (e : Event) → before ≡ [] → bytes ≡ before ++ event.text e → bytes ≡ batch_text (e ∷ [])
alone_text bytes before e none is = is ∙ ap (λ b. b ++ event.text e) none ∙ sym (append-nil (event.text e))

some_byte : (bytes : List ℕ) → (bytes ≡ [] → ⊥) → 1 ≤ length bytes
some_byte [] none = absurd (none refl)
some_byte (byte ∷ bytes) none = omega arith

pub alone_long : (e : Event) (bytes : List ℕ) → event.fits e ≡ true → bytes ≡ batch_text (e ∷ []) → 1 ≤ length bytes
alone_long e bytes fits is = some_byte bytes (λ none. let clash : e ∷ [] ≡ [] = no_bytes (e ∷ []) (fits, tt) (sym is ∙ none) in cc)

pub alone_short : (e : Event) (bytes : List ℕ) → event.fits e ≡ true → bytes ≡ batch_text (e ∷ []) → length bytes ≤ 3669
alone_short e bytes fits is = omega (arith, ap length is, events_short (e ∷ []) (fits, tt))

pub alone_leads : (plant : List Actuator) (version : ℕ) (e : Event) (d to : Persistent) → version ≡ newest_version → event.fits e ≡ true → replay plant e d ≡ Some to →
    IsNext plant version d (e ∷ []) to
alone_leads plant version e d to newest fits leads = record {
  batch = record { some_event = omega arith; few = omega arith; fitting = (fits, tt) };
  of_version = λ first. absurd (omega (arith, newest, first));
  leads = leads;
}
