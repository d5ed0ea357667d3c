-- Source: own.
use Rattle.std.specs.Prelude.{◌≡◌, ◌≤◌, Option, Some, None, Result, Ok, Err}
use Rattle.boss_model.specs.Limits.{most_workers}
use Rattle.boss_words.specs.declared.job.Job.{Job}
use Rattle.boss_words.specs.declared.job.Job.TheVariants.{Script, Serve, Check, Adopt, Shift, Feed, Standby, Load, Help, Version}
use Rattle.boss_words.specs.declared.read.WordsRefusal.{WordsRefusal}
use Rattle.boss_words.specs.declared.read.WordsRefusal.TheVariants.{Usage, NoMemory}

-- What was answered is what the definition gives, or that it gives nothing. Want of memory says nothing.
abbrev pub Gives : {A : Type 0} → Result A WordsRefusal → Option A → Type 0
Gives (Ok x) wanted = wanted ≡ Some x
Gives (Err Usage) wanted = wanted ≡ None
Gives (Err NoMemory) wanted = Unit {0}

-- a server has 1 to 1,024 workers; of other jobs nothing is said
abbrev pub HasWorkers : Job → Type 0
HasWorkers (Serve catalogue journal address workers connections rules plan keys) = (1 ≤ workers) × (workers ≤ most_workers)
HasWorkers (Script catalogue journal) = Unit {0}
HasWorkers (Check catalogue journal) = Unit {0}
HasWorkers (Adopt old new journal) = Unit {0}
HasWorkers (Shift catalogue journal by) = Unit {0}
HasWorkers (Feed catalogue journal from) = Unit {0}
HasWorkers (Standby catalogue journal) = Unit {0}
HasWorkers (Load count seed) = Unit {0}
HasWorkers Help = Unit {0}
HasWorkers Version = Unit {0}
