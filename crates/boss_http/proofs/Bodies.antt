use Rattle.std.proofs.Common.{◌≡◌, ◌≢◌, ℕ, ◌+◌, ◌≤◌, List, [], ◌++◌, length, take, drop, map, Ok, sym, ap, ◌∙◌, refl, subst, subst₂, arith, append-nil, append_assoc}
use Rattle.std.proofs.lemmas.List.{take-append-drop, drop-drop, drop-append-le, drop_all}
use Rattle.httparse.specs.Grammar.{ReadsResponse}
use Rattle.httparse.specs.Spans.{IsResponseOf, header_bytes}
use Rattle.httparse.specs.declared.spans.HeaderSpan.{HeaderSpan}
use Rattle.httparse.specs.declared.spans.ResponseSpans.{ResponseSpans}
use Rattle.httparse.proofs.GrammarLemmas.{ReadsResponse-append}
use Rattle.http1.specs.declared.decode.Decoder.{Decoder}
use Rattle.http1.specs.declared.fields.KnownFields.{KnownFields}
use Rattle.http1.specs.declared.framing.Framing.{Framing}
use Rattle.http1.specs.declared.framing.Framing.TheVariants.{UntilClose}
use Rattle.http1.specs.declared.framing.MethodKind.TheVariants.{Other}
use Rattle.http1.specs.Body.{Body, body_of}
use Rattle.http1.specs.Decoder.{Completes, Continues, Ends, decoder_for, with_front}
use Rattle.http1.specs.Fields.{known_fields}
use Rattle.http1.specs.Framing.{response_framing}
use Rattle.http1.specs.Message.{known_of}
use Rattle.http1.proofs.OneParse.{body_from_completes}
use Rattle.boss_http.specs.Hearing.{IsBody}
use Rattle.boss_http.specs.Responses.{BeginsWith, IsWhole, limits}
use Rattle.boss_http.specs.Turns.{Follows, GoesOn, IsOver}

-- ---- the head

-- what was parsed of a head, and how its body ends
pub begins : (bytes : List ℕ) (spans : List HeaderSpan) (head : ResponseSpans) (known : KnownFields) (framing : Framing) → IsResponseOf bytes spans head
    → known ≡ known_fields (map (header_bytes bytes) (take head.headers spans)) → response_framing Other head.code head.version known ≡ Ok framing
    → framing ≢ UntilClose → BeginsWith bytes head.code framing (drop head.len bytes)
begins bytes spans head known framing found is framed stated =
    let summary : known ≡ known_of found.0.fields = is ∙ ap known_fields found.1.fields in
    record {
      head = found.0;
      reads = found.1.reads;
      code = sym found.1.code;
      framed =
          ap (λ code. response_framing Other code found.0.minor (known_of found.0.fields)) (sym found.1.code)
          ∙ ap (λ minor. response_framing Other head.code minor (known_of found.0.fields)) (sym found.1.version)
          ∙ ap (response_framing Other head.code head.version) (sym summary) ∙ framed;
      stated = stated;
    }

-- ---- a piece of a body

-- a piece of content that a decoder took goes behind the content before it
pub goes_on : (old new : Decoder) (bytes content piece : List ℕ) (at len : ℕ) → Continues old (drop at bytes) new len piece
    → GoesOn old (drop at bytes) content new (drop (at + len) bytes) (content ++ piece)
goes_on old new bytes content piece at len took first whole follows more body rest completes =
    subst (λ front. Completes first (whole ++ more) (record { bytes = front; trailers = body.trailers }) rest) (sym (append_assoc content piece body.bytes))
    (follows more (with_front piece body) rest
    (took.back more body rest (subst (λ left. Completes new (left ++ more) body rest) (sym (drop-drop len at bytes)) completes)))

pub goes_on_bare : (old new : Decoder) (bytes content : List ℕ) (at len : ℕ) → Continues old (drop at bytes) new len []
    → GoesOn old (drop at bytes) content new (drop (at + len) bytes) content
goes_on_bare old new bytes content at len took =
    subst (GoesOn old (drop at bytes) content new (drop (at + len) bytes)) (append-nil content) (goes_on old new bytes content [] at len took)

-- a body that ends with the last byte
pub over : (old : Decoder) (input : List ℕ) (spans : List HeaderSpan) (len count : ℕ) → Ends old input spans len count → len ≡ length input → IsOver old input
over old input spans len count ends all = (
  body_of [] ends.trailers,
  refl,
  subst₂ (λ text rest. Completes old text (body_of [] ends.trailers) rest) (append-nil input)
      (append-nil (drop len input) ∙ drop_all len input (omega (arith, all))) (ends.completes []),
)

-- ---- a body

-- before its first byte
pub fresh : (first : Decoder) (whole content : List ℕ) → content ≡ [] → Follows first whole first whole content
fresh first whole content none =
    subst (Follows first whole first whole) (sym none) (λ more body rest completes. completes)

-- what begins with other bytes is these and more
split : (bytes bytes' : List ℕ) → take (length bytes) bytes' ≡ bytes → bytes' ≡ bytes ++ drop (length bytes) bytes'
split bytes bytes' kept = sym (take-append-drop (length bytes) bytes') ∙ ap (λ front. front ++ drop (length bytes) bytes') kept

dropped : (bytes bytes' : List ℕ) (at : ℕ) → take (length bytes) bytes' ≡ bytes → at ≤ length bytes
    → drop at bytes' ≡ drop at bytes ++ drop (length bytes) bytes'
dropped bytes bytes' at kept within = ap (drop at) (split bytes bytes' kept) ∙ drop-append-le at bytes (drop (length bytes) bytes') within

-- it follows as before where bytes came behind those that are there
pub grows : (first decoder : Decoder) (bytes bytes' content : List ℕ) (start at : ℕ) → take (length bytes) bytes' ≡ bytes → start ≤ length bytes
    → at ≤ length bytes → Follows first (drop start bytes) decoder (drop at bytes) content → Follows first (drop start bytes') decoder (drop at bytes') content
grows first decoder bytes bytes' content start at kept begun within follows more body rest completes =
    let piece : List ℕ = drop (length bytes) bytes' in
    subst (λ whole. Completes first whole (with_front content body) rest)
    (sym (ap (λ whole. whole ++ more) (dropped bytes bytes' start kept begun) ∙ append_assoc (drop start bytes) piece more))
    (follows (piece ++ more) body rest
    (subst (λ left. Completes decoder left body rest)
    (ap (λ left. left ++ more) (dropped bytes bytes' at kept within) ∙ append_assoc (drop at bytes) piece more) completes))

-- a body that is over
pub ended : (framing : Framing) (decoder : Decoder) (whole left content content' : List ℕ) → Follows (decoder_for limits framing) whole decoder left content
    → IsOver decoder left → content' ≡ content → IsBody framing whole content'
ended framing decoder whole left content content' follows is_over same =
    let body : Body = is_over.0 in
    let completes : Completes (decoder_for limits framing) (whole ++ []) (with_front content body) [] =
    follows [] body [] (subst (λ text. Completes decoder text body []) (sym (append-nil left)) is_over.2) in (
      with_front content body,
      ap (λ back. content ++ back) is_over.1 ∙ append-nil content ∙ sym same,
      body_from_completes limits framing whole (with_front content body) []
          (subst (λ text. Completes (decoder_for limits framing) text (with_front content body) []) (append-nil whole) completes),
    )

-- ---- the response

pub whole : (bytes bytes' content : List ℕ) (code len : ℕ) (framing : Framing) → BeginsWith bytes code framing (drop len bytes)
    → take (length bytes) bytes' ≡ bytes → len ≤ length bytes → IsBody framing (drop len bytes') content → IsWhole bytes' code content
whole bytes bytes' content code len framing begun kept within body = record {
  framing = framing;
  after = drop len bytes';
  head = record {
    head = begun.head;
    reads =
        subst₂ (λ text rest. ReadsResponse text begun.head rest) (sym (split bytes bytes' kept)) (sym (dropped bytes bytes' len kept within))
        (ReadsResponse-append bytes begun.head (drop len bytes) (drop (length bytes) bytes') begun.reads);
    code = begun.code;
    framed = begun.framed;
    stated = begun.stated;
  };
  body = body.0;
  reads = body.2;
  is = body.1;
}
