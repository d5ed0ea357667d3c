-- Source: own.
use Rattle.std.specs.Prelude.{◌≡◌, ℕ, List, [], ◌++◌}
use Rattle.boss_outside.specs.declared.link.Link as link
use Rattle.http1.specs.declared.framing.Framing.{Framing}
use Rattle.http1.specs.Body.{Body, ReadsBody}
use Rattle.boss_http.specs.Responses.{limits}

-- whatever was received before these bytes, after it what was received are these
abbrev pub Holds : {L : Type 0} → link.Ghosts L → L → L → List ℕ → List ℕ → Type 0
Holds l old new bytes bytes' = l.tells → (before : List ℕ) → l.received old ≡ before ++ bytes → l.received new ≡ before ++ bytes'

-- the bytes are one whole body with this content
abbrev pub IsBody : Framing → List ℕ → List ℕ → Type 0
IsBody framing bytes content = (body : Body) × (body.bytes ≡ content) × ReadsBody limits framing bytes body []
