-- Notices told as lines, one after another.
use Rattle.std.proofs.Common.{◌≡◌, ℕ, ◌+◌, ◌<◌, true, false, List, [], ◌∷◌, ◌++◌, length, take, drop, Result, Ok, Err, refl, ap, sym, ◌∙◌, append_assoc, arith}
use Rattle.std.specs.Prelude.{is_err, OnErr}
use Rattle.std.specs.List.{flat_map}
use Rattle.std.proofs.lemmas.Grind.{flat_map-append}
use Rattle.std.proofs.lemmas.List.{take-append-drop}
use Rattle.boss_model.specs.declared.notice.Notice.{Notice}
use Rattle.boss_outside.specs.Counts.{HasCause, Rose}
use Rattle.boss_outside.specs.Streams.{TakesFront, Writes}
use Rattle.def_connection.specs.Watching.{is_some_list}

pub some-at : (ns : List Notice) (i : ℕ) → i < length ns → is_some_list ns ≡ true
some-at [] i within = absurd (omega arith)
some-at (n ∷ ns) i within = refl

-- a front of the next line
pub front-more : (f : Notice → List ℕ) (ns : List Notice) (i : ℕ) (n : Notice) (old mid new : List ℕ) → flat_map f (take (i + 1) ns) ≡ flat_map f (take i ns) ++ f n →
    mid ≡ old ++ flat_map f (take i ns) → TakesFront mid new (f n) → TakesFront old new (flat_map f ns)
front-more f ns i n old mid new more before front =
    let told : List ℕ = flat_map f (take i ns) in
    let rest : List ℕ = flat_map f (drop (i + 1) ns) in (
      told ++ front.0,
      front.1 ++ rest,
      ap (flat_map f) (sym (take-append-drop (i + 1) ns)) ∙ flat_map-append f (take (i + 1) ns) (drop (i + 1) ns) ∙ ap (λ text. text ++ rest) more
          ∙ ap (λ text. (told ++ text) ++ rest) front.2 ∙ ap (λ text. text ++ rest) (sym (append_assoc told front.0 front.1)) ∙ append_assoc (told ++ front.0) front.1 rest,
      front.3 ∙ ap (λ text. text ++ front.0) before ∙ append_assoc old told front.0,
    )

module _ {T E : Type 0} (old new text : List ℕ) where
  pub err-front : (r : Result T E) → is_err r ≡ true → Writes old new text r → TakesFront old new text
  err-front (Ok x) is writes = absurd cc
  err-front (Err e) is writes = writes

  pub ok-whole : (r : Result T E) → is_err r ≡ false → Writes old new text r → new ≡ old ++ text
  ok-whole (Ok x) is writes = writes
  ok-whole (Err e) is writes = absurd cc

pub err-rose : {T E : Type 0} (before now : ℕ) (r : Result T E) → is_err r ≡ true → HasCause before now r → Rose before now
err-rose before now (Ok x) is cause = absurd cc
err-rose before now (Err e) is cause = cause.failed

pub ok-calm : {T E : Type 0} (before now : ℕ) (r : Result T E) → is_err r ≡ false → HasCause before now r → now ≡ before
ok-calm before now (Ok x) is cause = cause.fine
ok-calm before now (Err e) is cause = absurd cc

pub err-said : {T E : Type 0} (P : Type 0) (r : Result T E) → is_err r ≡ true → OnErr r P → P
err-said P (Ok x) is said = absurd cc
err-said P (Err e) is said = said
