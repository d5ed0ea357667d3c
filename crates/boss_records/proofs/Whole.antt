-- What the reader of an event answers, from what the bytes begin with.
use Rattle.std.proofs.Common.{◌≡◌, ℕ, ◌+◌, ◌-◌, ◌≤◌, true, List, ◌++◌, length, take, Option, Some, None, refl, sym, ap, ◌∙◌, arith, length-append}
use Rattle.std.proofs.lemmas.List.{take_at}
use Rattle.def_bytes.specs.Exact.{IsBytes, Took}
use Rattle.boss_model.specs.declared.event.Event.{Event}
use Rattle.def_bytes.specs.Events.{event}
use Rattle.def_bytes.proofs.OfEvents.{event_spelled}
use Rattle.def_bytes.proofs.Spelling.{some-is}

module _ (bytes rest : List ℕ) (e : Event) (are : IsBytes bytes) (is : event.at bytes ≡ Some (e, rest)) where
  took : Took event bytes e rest
  took = event_spelled.exact.takes bytes e rest are is

  long : length bytes ≡ length (event.text e) + length rest
  long = ap length took.spelled ∙ length-append (event.text e) rest

  pub no_longer : length rest ≤ length bytes
  no_longer = omega (arith, long)

  pub spelled_so : (length bytes - length rest ≤ length bytes) × (event.fits e ≡ true) × (take (length bytes - length rest) bytes ≡ event.text e)
  spelled_so =
      let many : length bytes - length rest ≡ length (event.text e) = omega (arith, long) in
      (omega arith, took.fits, ap (λ n. take n bytes) many ∙ ap (take (length (event.text e))) took.spelled ∙ take_at (event.text e) rest (length (event.text e)) refl)

  pub read_again : (f : Event) (other : List ℕ) → event.fits f ≡ true → bytes ≡ event.text f ++ other →
      ◌≡◌ {A = Option (Event × ℕ)} (Some (e, length bytes - length rest)) (Some (f, length (event.text f)))
  read_again f other fits spelled =
      let same : ◌≡◌ {A = Event × List ℕ} (e, rest) (f, other) = some-is _ _ (sym is ∙ ap event.at spelled ∙ event_spelled.exact.again f other fits) in
      let many : length bytes - length rest ≡ length (event.text f) =
      omega (arith, ap length spelled, length-append (event.text f) other, ap (λ (p : Event × List ℕ). length p.1) same) in
      ap (λ n. Some (e, n)) many ∙ ap (λ (p : Event × List ℕ). Some (p.0, length (event.text f))) same

pub nothing_else : (bytes : List ℕ) → event.at bytes ≡ None → (f : Event) (other : List ℕ) → event.fits f ≡ true → bytes ≡ event.text f ++ other → ⊥
nothing_else bytes none f other fits spelled =
    let no : ◌≡◌ {A = Option (Event × List ℕ)} None (Some (f, other)) = sym none ∙ ap event.at spelled ∙ event_spelled.exact.again f other fits in cc
