-- How the bytes of a record are split into events: in one way.
use Rattle.std.proofs.Common.{◌≡◌, ℕ, ◌+◌, ◌≤◌, true, List, [], ◌∷◌, ◌++◌, length, take, length-take, refl, sym, ap, ◌∙◌, append_assoc, length-append, arith}
use Rattle.std.specs.List.{AllByRecursion}
use Rattle.def_bytes.proofs.Exact.{one-spelling}
use Rattle.boss_model.specs.declared.event.Event.{Event}
use Rattle.def_bytes.specs.Batches.{batch_text}
use Rattle.def_bytes.specs.Events.{act_text, event}
use Rattle.def_bytes.specs.Parts.{moment}
use Rattle.def_bytes.proofs.OfEvents.{event_spelled}

abbrev pub AllFit : List Event → Type 0
AllFit events = AllByRecursion (λ e. event.fits e ≡ true) events

-- the bytes of the one begin with those of the other
pub record IsLonger (xs ys : List Event) (rest : List ℕ) : Type 0 where
  pub more : List Event
  pub is : ys ≡ xs ++ more
  pub rest_is : rest ≡ batch_text more
  pub fit : AllFit more

pub same_start : (xs ys : List Event) (rest : List ℕ) → AllFit xs → AllFit ys → batch_text xs ++ rest ≡ batch_text ys → IsLonger xs ys rest
same_start [] ys rest fit also is = record { more = ys; is = refl; rest_is = is; fit = also }
same_start (x ∷ xs) [] rest fit also is = absurd cc
same_start (x ∷ xs) (y ∷ ys) rest fit also is =
    let first = one-spelling event event_spelled.exact x y (batch_text xs ++ rest) (batch_text ys) fit.0 also.0
    (sym (append_assoc (event.text x) (batch_text xs) rest) ∙ is) in
    let behind = same_start xs ys rest fit.1 also.1 first.1 in
    record {
      more = behind.more;
      is = ap (λ e. e ∷ ys) (sym first.0) ∙ ap (λ es. x ∷ es) behind.is;
      rest_is = behind.rest_is;
      fit = behind.fit;
    }

-- each event has a byte
pub text_long : (e : Event) → 1 ≤ length (event.text e)
text_long e = omega arith

pub some_byte : (e : Event) (size : ℕ) (bytes : List ℕ) → take size bytes ≡ event.text e → 1 ≤ size
some_byte e size bytes is = omega (arith, ap length is, length-take size bytes, text_long e)

pub batch_long : (events : List Event) → length events ≤ length (batch_text events)
batch_long [] = omega arith
batch_long (e ∷ events) = omega (arith, length-append (event.text e) (batch_text events), text_long e, batch_long events)
