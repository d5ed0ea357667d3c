-- Source: own.
-- What the program says where its words or the catalogue come to nothing.
use Rattle.std.specs.Prelude.{ℕ, List, [], ◌∷◌, ◌++◌, codes, decimal}
use Rattle.boss_model.specs.Limits.{program_version}
use Rattle.boss_points.specs.declared.CatalogueRefusal.{CatalogueRefusal}
use Rattle.boss_points.specs.declared.CatalogueRefusal.TheVariants.{TooLong, NotToml, Missing, TooMany, BadDriver, BadName, SameName, BadKind, BadDefault, UnknownDriver, BadTimes, NoMemory}
use Rattle.boss_points.specs.declared.Key.{Key}
use Rattle.boss_points.specs.declared.Key.TheVariants.{Drivers, Point}

abbrev pub usage_line : List ℕ
usage_line = codes "usage" ++ 10 ∷ []

-- the jobs, one a line, and what their words are
abbrev pub help_text : List ℕ
help_text =
    codes "script CATALOGUE JOURNAL: answer commands that come line by line on the standard input" ++ 10 ∷
    codes "serve CATALOGUE JOURNAL ADDRESS WORKERS CONNECTIONS [RULES [PLAN [KEYS]]]: serve control programs over TCP" ++ 10 ∷
    codes "check CATALOGUE JOURNAL: tell what a journal stands for, and write nothing" ++ 10 ∷
    codes "adopt OLD NEW JOURNAL: take a journal over under a changed catalogue" ++ 10 ∷
    codes "shift CATALOGUE JOURNAL BY: take all moments of a journal back by so many milliseconds" ++ 10 ∷
    codes "feed CATALOGUE JOURNAL FROM: tell the events of a journal above a number" ++ 10 ∷
    codes "standby CATALOGUE JOURNAL: follow a feed that comes on the standard input" ++ 10 ∷
    codes "load COUNT SEED: play a generated day" ++ 10 ∷
    codes "version: tell which version this is" ++ 10 ∷
    codes "JOURNAL is a file with a second one beside it that ends with .b, etcd:HOST:PORT/NAME, or - for memory alone; RULES, PLAN and KEYS are files, or - for none" ++ 10 ∷
    []

-- the program, and its version
abbrev pub version_line : List ℕ
version_line = codes "bossd " ++ program_version ++ 10 ∷ []

abbrev pub key_text : Key → List ℕ
key_text Drivers = codes "drivers"
key_text Point = codes "point"

-- what is told of a catalogue's refusal
abbrev pub refusal_text : CatalogueRefusal → List ℕ
refusal_text (TooLong length) = codes "too-long " ++ decimal length
refusal_text NotToml = codes "not-toml"
refusal_text (Missing key) = codes "missing " ++ key_text key
refusal_text (TooMany count) = codes "too-many " ++ decimal count
refusal_text (BadDriver place) = codes "bad-driver " ++ decimal place
refusal_text (BadName place) = codes "bad-name " ++ decimal place
refusal_text (SameName place) = codes "same-name " ++ decimal place
refusal_text (BadKind place) = codes "bad-kind " ++ decimal place
refusal_text (BadDefault place) = codes "bad-default " ++ decimal place
refusal_text (UnknownDriver place) = codes "unknown-driver " ++ decimal place
refusal_text (BadTimes place) = codes "bad-times " ++ decimal place
refusal_text NoMemory = []

abbrev pub refusal_line : CatalogueRefusal → List ℕ
refusal_line refusal = codes "catalogue " ++ refusal_text refusal ++ 10 ∷ []
