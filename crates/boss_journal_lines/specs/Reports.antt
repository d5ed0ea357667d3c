-- Source: own.
-- What the program says of a journal.
use Rattle.std.specs.Prelude.{ℕ, List, [], ◌∷◌, ◌++◌, codes, decimal}
use Rattle.hex.specs.Hex.{encode_lower}
use Rattle.boss_pair_find.specs.declared.refusal.DurableRefusal.{DurableRefusal}
use Rattle.boss_pair_find.specs.declared.refusal.DurableRefusal.TheVariants.{NotAJournal, Version, Catalogue, Damaged, DiskFault, NoMemory}

-- what is told of a refusal
abbrev pub refusal_text : DurableRefusal → List ℕ
refusal_text NotAJournal = codes "not-a-journal"
refusal_text (Version found) = codes "version " ++ decimal found
refusal_text (Catalogue kept found) = codes "catalogue " ++ encode_lower kept ++ codes " " ++ encode_lower found
refusal_text (Damaged place) = codes "damaged " ++ decimal place
refusal_text DiskFault = []
refusal_text NoMemory = []

abbrev pub refusal_line : DurableRefusal → List ℕ
refusal_line refusal = codes "journal " ++ refusal_text refusal ++ 10 ∷ []

abbrev pub new_line : List ℕ
new_line = codes "journal new" ++ 10 ∷ []

-- how many events, the moment of the last change, how many leases and how many reversions
abbrev pub summary_line : ℕ → ℕ → ℕ → ℕ → List ℕ
summary_line events now leases pending =
    codes "events " ++ decimal events ++ codes " now " ++ decimal now ++ codes " leases " ++ decimal leases ++ codes " pending " ++ decimal pending ++ 10 ∷ []

-- its words and its end have 30 bytes, and each number has 20 digits at most
abbrev pub longest_summary : ℕ
longest_summary = 110
