use Rattle.std.proofs.Common.{◌≡◌, inl, inr, ℕ, List, ◌++◌, Some, slice_get, ⊎_elim, ap, ◌∙◌, subst}
use Rattle.boss_outside.specs.declared.link.Link as link
use Rattle.boss_outside.specs.Streams.{TakesFront}
use Rattle.boss_http.specs.Requests.{post_text}
use Rattle.boss_http.specs.Responses.{IsWhole}
use Rattle.boss_etcd.specs.declared.said.Said.{Said}
use Rattle.boss_etcd.specs.declared.said.Said.TheVariants.{Done, Refused, Unclear}
use Rattle.boss_etcd.specs.Asking.{AnswersOnce, Asked, Hears}
use Rattle.boss_etcd.specs.Says.{Says}

module _ {L : Type 0} (l : link.Ghosts L) (hosts : List (List ℕ)) (path body : List ℕ) where
  pub nothing_asked : (old new : L) → l.sent new ≡ l.sent old → Asked l hosts path body old new
  nothing_asked old new same = inl same

  pub front_asked : (old new : L) (host request : List ℕ) (turn : ℕ) → slice_get hosts turn ≡ Some host → request ≡ post_text path host body
      → TakesFront (l.sent old) (l.sent new) request → Asked l hosts path body old new
  front_asked old new host request turn at is front =
      inr (host, (turn, at), subst (TakesFront (l.sent old) (l.sent new)) is front)

  -- and nothing more was sent
  pub asked_still : (old between new : L) → l.sent new ≡ l.sent between → Asked l hosts path body old between → Asked l hosts path body old new
  asked_still old between new same asked =
      ⊎_elim (λ none. inl (same ∙ none)) (λ one. inr (one.0, one.1, (one.2.0, one.2.1, one.2.2, same ∙ one.2.3))) asked

  pub hears : (old new : L) (host request response content : List ℕ) (turn : ℕ) → slice_get hosts turn ≡ Some host → request ≡ post_text path host body
      → l.sent new ≡ l.sent old ++ request → l.received new ≡ l.received old ++ response → IsWhole response 200 content
      → Hears l hosts path body old new content
  hears old new host request response content turn at is sent received whole = record {
    host = host;
    is_host = (turn, at);
    sent = sent ∙ ap (λ text. l.sent old ++ text) is;
    response = response;
    received = received;
    whole = whole;
  }

  -- what a response with status 200 says is an answer
  pub answers : (old new : L) (content : List ℕ) (said : Said) → Hears l hosts path body old new content → Says content said
      → AnswersOnce l hosts path body old new said
  answers old new content (Done revision) heard says = record { content = content; hears = heard; says = says }
  answers old new content (Refused value revision) heard says = record { content = content; hears = heard; says = says }
  answers old new content Unclear heard says = tt
