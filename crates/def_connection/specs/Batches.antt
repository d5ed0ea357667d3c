-- Source: own.
-- Several requests that are held, called together, and answered in order.
use Rattle.std.specs.Prelude.{◌≡◌, ℕ, List, [], ◌∷◌, ◌++◌}
use Rattle.boss_model.specs.declared.command.Command.{Command}
use Rattle.def_history.specs.declared.entry.Entry.{Entry}
use Rattle.def_connection.specs.Speech.{asks, Footing, Manner, after, Reply, Speech, Exchange, called, entry_of}

-- these lines ask for these commands, each at its moment
abbrev pub AreAsked : Manner → Footing → List (List ℕ) → List (Command × ℕ) → Type 0
AreAsked manner at [] [] = Unit {0}
AreAsked manner at [] (call ∷ calls) = ⊥
AreAsked manner at (line ∷ lines) [] = ⊥
AreAsked manner at (line ∷ lines) (call ∷ calls) = (manner.reading at line ≡ asks call.0) × AreAsked manner (after manner at line) lines calls

-- the exchanges of a batch, as far as there are replies
abbrev pub batch : List (List ℕ) → List (Command × ℕ) → List Reply → List Exchange
batch (line ∷ lines) (call ∷ calls) (reply ∷ replies) = called line call.0 call.1 reply ∷ batch lines calls replies
batch lines calls replies = []

-- their entries, and the texts of the replies
abbrev pub deeds_by : ℕ → List (Command × ℕ) → List Reply → List Entry
deeds_by session (call ∷ calls) (reply ∷ replies) = entry_of session call.0 call.1 reply ++ deeds_by session calls replies
deeds_by session calls replies = []

abbrev pub texts_by : Speech → List Reply → List ℕ
texts_by speech [] = []
texts_by speech (reply ∷ replies) = speech.reply_text reply ++ texts_by speech replies
