-- Source: RFC 9110 and RFC 9112, as the grammars of the libraries httparse and http1 have them.
use Rattle.std.specs.Prelude.{◌≡◌, ◌≢◌, ℕ, List, [], Ok}
use Rattle.httparse.specs.Grammar.{ResponseHead, ReadsResponse, status_code}
use Rattle.http1.specs.declared.conn.Limits.{Limits}
use Rattle.http1.specs.declared.framing.Framing.{Framing}
use Rattle.http1.specs.declared.framing.Framing.TheVariants.{UntilClose}
use Rattle.http1.specs.declared.framing.MethodKind.TheVariants.{Other}
use Rattle.http1.specs.Body.{Body, ReadsBody}
use Rattle.http1.specs.Framing.{response_framing}
use Rattle.http1.specs.Message.{known_of}

-- how many bytes the parts of a response may have that are no content
abbrev pub limits : Limits
limits = record { max_head_len = 16384; max_extensions_len = 16384; max_trailers_len = 16384 }

-- The bytes begin with the head of a response to a request that posts, whose fields say where its body ends; the rest follows it.
pub record BeginsWith (bytes : List ℕ) (status : ℕ) (framing : Framing) (rest : List ℕ) : Type 0 where
  pub head : ResponseHead
  pub reads : ReadsResponse bytes head rest
  pub code : status_code head ≡ status
  pub framed : response_framing Other (status_code head) head.minor (known_of head.fields) ≡ Ok framing
  pub stated : framing ≢ UntilClose

-- The bytes are one whole response with this status and content, and nothing stands behind it.
pub record IsWhole (bytes : List ℕ) (status : ℕ) (content : List ℕ) : Type 0 where
  pub framing : Framing
  pub after : List ℕ
  pub head : BeginsWith bytes status framing after
  pub body : Body
  pub reads : ReadsBody limits framing after body []
  pub is : body.bytes ≡ content
