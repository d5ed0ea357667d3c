-- Source: own.
-- Who speaks on a connection where there are keys: whoever showed the key of a name, and attaches to that name alone.
use Rattle.std.specs.Prelude.{◌≡◌, ℕ, List, [], ◌∷◌, ◌++◌, map, Option, Some, None}
use Rattle.std.specs.List.{AllByRecursion}
use Rattle.boss_model.specs.declared.answer.Refusal.{Refusal}
use Rattle.boss_model.specs.declared.answer.Refusal.TheVariants as refusal
use Rattle.boss_model.specs.declared.command.Command.{Command}
use Rattle.boss_model.specs.declared.command.Command.TheVariants as command
use Rattle.def_history.specs.declared.entry.Entry.{Entry}
use Rattle.def_history.specs.declared.entry.Entry.TheVariants.{Did, Broke}
use Rattle.def_connection.specs.Speech.{Reading, asks, watches, refuses, forbids, Footing, beginning, Manner, Exchange, unread, refused, called, line_in, after, after_exchange, after_talk}

-- ---- how lines are read

abbrev pub IsMalformed : Refusal → Type 0
IsMalformed (refusal.Malformed at) = Unit {0}
IsMalformed other = ⊥

-- whoever has shown no key is told that a line is malformed, or forbidden, and nothing else
abbrev pub IsBarred : Reading → Type 0
IsBarred (asks command) = ⊥
IsBarred (watches name from) = ⊥
IsBarred (refuses why) = IsMalformed why
IsBarred forbids = Unit {0}

-- an attach is of the known name
abbrev pub IsOwn : Option (List ℕ) → Command → Type 0
IsOwn known (command.Attach name) = known ≡ Some name
IsOwn known other = Unit {0}

abbrev pub AsksOwn : Option (List ℕ) → Reading → Type 0
AsksOwn known (asks command) = IsOwn known command
AsksOwn known other = Unit {0}

-- each line is read so, by the name that is known behind it
pub record IsGuarded (manner : Manner) : Type 0 where
  pub barred : (at : Footing) (line : List ℕ) → (after manner at line).known ≡ None → IsBarred (manner.reading at line)
  pub own : (at : Footing) (line : List ℕ) → AsksOwn (after manner at line).known (manner.reading at line)

-- ---- what is said

-- a name is known, or the line is malformed, or there was no memory to read it
abbrev pub IsShown : Option (List ℕ) → Exchange → Type 0
IsShown known (unread line) = Unit {0}
IsShown (Some name) exchange = Unit {0}
IsShown None (refused line why) = IsMalformed why
IsShown None (called line command moment reply) = ⊥

-- each is so, by the name that is known behind it
abbrev pub AreShown : Manner → Footing → List Exchange → Type 0
AreShown manner at [] = Unit {0}
AreShown manner at (exchange ∷ talk) = IsShown (after_exchange manner at exchange).known exchange × AreShown manner (after_exchange manner at exchange) talk

-- each attach among entries is of the known name
abbrev pub IsOwnEntry : Option (List ℕ) → Entry → Type 0
IsOwnEntry known (Did session command moment answer) = IsOwn known command
IsOwnEntry known (Broke session commands others) = Unit {0}

abbrev pub AreOwn : Option (List ℕ) → List Entry → Type 0
AreOwn known entries = AllByRecursion (IsOwnEntry known) entries

-- one of these lines shows the key of this name
pub record ShowsKey (manner : Manner) (name : List ℕ) (lines : List (List ℕ)) : Type 0 where
  pub front : List (List ℕ)
  pub line : List ℕ
  pub back : List (List ℕ)
  pub lines_are : lines ≡ front ++ line ∷ back
  pub shown : manner.shows line ≡ Some name

-- whoever speaks in a whole talk has shown the key of a name, and attaches to that name alone
pub record IsKeyed (manner : Manner) (talk : List Exchange) (entries : List Entry) : Type 0 where
  pub shown : AreShown manner beginning talk
  pub own : AreOwn (after_talk manner beginning talk).known entries
  pub key : (name : List ℕ) → (after_talk manner beginning talk).known ≡ Some name → ShowsKey manner name (map line_in talk)
