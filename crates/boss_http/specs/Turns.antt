-- Source: own, over the grammar of bodies of the library http1.
use Rattle.std.specs.Prelude.{◌≡◌, ℕ, List, [], ◌++◌}
use Rattle.http1.specs.declared.decode.Decoder.{Decoder}
use Rattle.http1.specs.Body.{Body}
use Rattle.http1.specs.Decoder.{Completes, with_front}
use Rattle.boss_http.specs.declared.turn.Turn.{Turn}
use Rattle.boss_http.specs.declared.turn.Turn.TheVariants.{Again, More, Whole, Wrong}

-- Whatever comes behind what is left: a body that the one decoder waits for is, with this content before it, a body that the first
-- one waited for.
abbrev pub Follows : Decoder → List ℕ → Decoder → List ℕ → List ℕ → Type 0
Follows first whole decoder left content =
    (more : List ℕ) (body : Body) (rest : List ℕ) → Completes decoder (left ++ more) body rest
    → Completes first (whole ++ more) (with_front content body) rest

-- what followed the first one follows it still
abbrev pub GoesOn : Decoder → List ℕ → List ℕ → Decoder → List ℕ → List ℕ → Type 0
GoesOn old left content new left' content' =
    (first : Decoder) (whole : List ℕ) → Follows first whole old left content → Follows first whole new left' content'

-- the decoder waits for what is left and no content, and nothing stands behind it
abbrev pub IsOver : Decoder → List ℕ → Type 0
IsOver decoder left = (body : Body) × (body.bytes ≡ []) × Completes decoder left body []

-- what a turn does
abbrev pub Turned : Turn → Decoder → List ℕ → List ℕ → Decoder → List ℕ → List ℕ → Type 0
Turned Again old left content new left' content' = GoesOn old left content new left' content'
Turned More old left content new left' content' = GoesOn old left content new left' content'
Turned Whole old left content new left' content' = IsOver old left × (content' ≡ content)
Turned Wrong old left content new left' content' = Unit {0}
