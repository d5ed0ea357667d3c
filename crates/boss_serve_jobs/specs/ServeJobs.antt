-- Source: own.
-- `serve CATALOGUE JOURNAL ADDRESS WORKERS CONNECTIONS RULES PLAN KEYS`.
use denote.Ref.{MutBor}
use Rattle.std.specs.declared.alloc.Global.{Global}
use Rattle.std.specs.declared.vec.Vec.{Vec}
use Rattle.std.specs.Prelude.{◌≡◌, ◌≢◌, ◌⊎◌, ℕ, List, [], ◌∷◌, ◌++◌, Option, Some, Ok}
use Rattle.boss_model.specs.Catalogue.{Catalogue}
use Rattle.boss_outside.specs.Counts.{Rose}
use Rattle.boss_outside.specs.declared.actuators.Actuators as actuators
use Rattle.boss_outside.specs.declared.sink.Sink as sink
use Rattle.boss_outside.specs.declared.source.Source as source
use Rattle.boss_files.specs.declared.files.Files as files
use Rattle.boss_outside_server.specs.declared.clock.Clock as clock
use Rattle.boss_outside_server.specs.declared.host.Host as host
use Rattle.boss_outside_server.specs.declared.spawner.Spawner as spawner
use Rattle.boss_outside_server.specs.declared.waiter.Waiter as waiter
use Rattle.boss_pair_find.specs.declared.refusal.DurableRefusal.{DurableRefusal}
use Rattle.boss_files.specs.Names.{second_name}
use Rattle.boss_serve_jobs.specs.declared.world.World.{World as Given}
use Rattle.boss_jobs.specs.Jobs.{World, world}
use Rattle.boss_jobs.specs.Journals.{AsksFront, in_files, IsRefused}
use Rattle.boss_access.specs.declared.rule.Rule.{Rule}
use Rattle.boss_keys.specs.declared.file.KeyFile.{KeyFile}
use Rattle.boss_server.specs.Sites.{gates_of}
use Rattle.boss_serve_jobs.specs.Keying.{keys_in}
use Rattle.boss_serve_jobs.specs.Preparing.{AreKeyed, AreRuled, AreSet, Comes, listed, Setting, setting, TakesKeys, TakesPlan, TakesRules, Unprepared}
use Rattle.boss_jobs.specs.Programs.{usable}
use Rattle.boss_serve_jobs.specs.Serving.{CameBack, Listened, Outside, outside, ServesMemory, ServesOver}

-- all that a server is given, at one moment
pub record ServerWorld (F S K A C H W P : Type 0) : Type 0 where
  pub world : World F S K A
  pub clock : C
  pub host : H
  pub waiter : W
  pub spawner : P

abbrev pub server_world : {F S K A C H W P : Type 0} → World F S K A → C → H → W → P → ServerWorld F S K A C H W P
server_world world clock host waiter spawner = record { world = world; clock = clock; host = host; waiter = waiter; spawner = spawner }

-- the same behind references: as they were passed, and as a call left it that they were passed to
abbrev pub all_at_start : {F S K A C H W P : Type 0} → Given F S K A C H W P → ServerWorld F S K A C H W P
all_at_start given =
    server_world (world given.files.now given.source.now given.sink.now given.devices.now.items) given.clock.now given.host.now given.waiter.now given.spawner.now

abbrev pub all_at_end : {F S K A C H W P : Type 0}
    → MutBor F × (MutBor S × (MutBor K × (MutBor (Vec A Global) × (MutBor C × (MutBor H × (MutBor W × (MutBor P × Unit {0})))))))
    → ServerWorld F S K A C H W P
all_at_end left =
    server_world (world left.0.now left.1.0.now left.1.1.0.now left.1.1.1.0.now.items) left.1.1.1.1.0.now left.1.1.1.1.1.0.now
    left.1.1.1.1.1.1.0.now left.1.1.1.1.1.1.1.0.now

-- the same without the files and the source
abbrev pub outside_at : {F S K A C H W P : Type 0} → ServerWorld F S K A C H W P → Outside K A H C W P
outside_at all = outside all.world.sink all.world.devices all.clock all.host all.waiter all.spawner

-- the same while it is set up
abbrev pub setting_at : {F S K A C H W P : Type 0} → ServerWorld F S K A C H W P → Setting F K A
setting_at all = setting all.world.files all.world.sink all.world.devices

-- only the world changed: nothing was listened at, waited for or started, and no clock was read
pub record StaysApart {F S K A C H W P : Type 0} (old new : ServerWorld F S K A C H W P) : Type 0 where
  pub clock : new.clock ≡ old.clock
  pub host : new.host ≡ old.host
  pub waiter : new.waiter ≡ old.waiter
  pub spawner : new.spawner ≡ old.spawner

-- ---- how it ended

-- how many calls of each failed so far
pub record Faults : Type 0 where
  pub files : ℕ
  pub sink : ℕ
  pub host : ℕ
  pub spawner : ℕ
  pub clock : ℕ

-- nothing failed
pub record NoneRose (was now : Faults) : Type 0 where
  pub files : ¬ Rose was.files now.files
  pub sink : ¬ Rose was.sink now.sink
  pub host : ¬ Rose was.host now.host
  pub spawner : ¬ Rose was.spawner now.spawner
  pub clock : ¬ Rose was.clock now.clock

-- the cause of each status: nothing failed; a file or a disk, the sink, the host, the spawner, the clock failed; memory was wanting
abbrev pub EndsBy : Faults → Faults → ℕ → Type 0
EndsBy was now status =
    ((status ≡ 0) × (now ≡ was))
    ⊎ ((status ≡ 5) × Rose was.files now.files)
    ⊎ ((status ≡ 7) × Rose was.sink now.sink)
    ⊎ ((status ≡ 9) × Rose was.host now.host)
    ⊎ ((status ≡ 11) × Rose was.spawner now.spawner)
    ⊎ ((status ≡ 12) × Rose was.clock now.clock)
    ⊎ (status ≡ 8)

-- ---- the jobs

module _ {F D S K A H In Out C W Bells P Runtime : Type 0} (f : files.Ghosts F D) (s : source.Ghosts S) (k : sink.Ghosts K) (a : actuators.Ghosts A)
    (h : host.Ghosts H In Out) (i : source.Ghosts In) (o : sink.Ghosts Out) (c : clock.Ghosts C) (w : waiter.Ghosts W Bells) (p : spawner.Ghosts P Runtime) where
  abbrev pub faults_at : ServerWorld F S K A C H W P → Faults
  faults_at all = record {
    files = f.faults all.world.files;
    sink = k.faults all.world.sink;
    host = h.faults all.host;
    spawner = p.faults all.spawner;
    clock = c.faults all.clock;
  }

  -- no catalogue, no rules, no keys or no plan was had, or one of them is refused, and nothing was served
  abbrev pub ServesNone : List ℕ → Option (List ℕ) → Option (List ℕ) → Option (List ℕ) → ℕ → ServerWorld F S K A C H W P → ServerWorld F S K A C H W P → ℕ → Type 0
  ServesNone name rules plan keys count old new status = Unprepared f k name rules plan keys count (setting_at old) (setting_at new) status × StaysApart old new

  -- over a journal in two files, where there are so many devices
  module _ (name journal address : List ℕ) (rules plan keys : Option (List ℕ)) (count workers connections : ℕ) (old new : ServerWorld F S K A C H W P) (status : ℕ) where
    -- The catalogue, the rules and the keys can be used, and the devices are as the plan assigns them; then the journal of this name was served,
    -- as far as there is one.
    pub record ServedFiles : Type 0 where
      pub catalogue : Catalogue
      pub comes : Comes f name count old.world.files (Ok catalogue)
      pub given : Option (List Rule)
      pub ruled : AreRuled f rules old.world.files given
      pub entries : Option KeyFile
      pub keyed : AreKeyed f keys old.world.files entries
      pub devices : List A
      pub set : AreSet f k a plan catalogue old.world.files old.world.devices devices
      pub serves : ServesOver k a h i o c w p catalogue (in_files f journal old.world.files) (in_files f journal new.world.files) (gates_of catalogue given) (keys_in entries) workers connections
          (record (outside_at old) { devices = devices }) (outside_at new) status

    pub record DoesServe : Type 0 where
      pub did : ServesNone name rules plan keys count old new status ⊎ ServedFiles
      -- nothing is read
      pub source : new.world.source ≡ old.world.source
      -- the catalogue's file is asked for, then those of the rules, the keys and the plan, and the journal's two, as far as it comes to that; and no
      -- other
      pub asks : f.tells → AsksFront ((name ∷ listed rules ++ listed keys ++ listed plan) ++ journal ∷ second_name journal ∷ []) (f.asked old.world.files) (f.asked new.world.files)
      -- at each status, every connection that was handed out came back
      pub came_back : CameBack h old.host new.host
      -- it listens at the address of the words and at no other
      pub listens : h.tells → Listened h address old.host new.host status
      -- no other file changes
      pub others : f.tells → (file : List ℕ) → file ≢ journal → file ≢ second_name journal → f.holds new.world.files file ≡ f.holds old.world.files file
      -- the status has its cause, or tells that the catalogue, the journal, the rules, the plan or the file of keys is refused
      pub causes : EndsBy (faults_at old) (faults_at new) status ⊎ (status ≡ 3) ⊎ (status ≡ 4) ⊎ (status ≡ 16) ⊎ (status ≡ 17) ⊎ (status ≡ 19)
      -- where the catalogue, the rules, the plan and the keys can be used, the journal is not refused and nothing failed, all connections were
      -- served, or memory was wanting
      pub complete : (catalogue : Catalogue) (file : List ℕ) → f.tells → f.holds old.world.files name ≡ Some file → usable count file ≡ Ok catalogue
          → TakesRules f rules old.world.files → TakesKeys f keys old.world.files → TakesPlan f plan catalogue old.world.files → ((refusal : DurableRefusal) → IsRefused catalogue (in_files f journal old.world.files) refusal → ⊥)
          → NoneRose (faults_at old) (faults_at new) → (status ≡ 0) ⊎ (status ≡ 8)

  -- over memory alone, where there are so many devices
  module _ (name address : List ℕ) (rules plan keys : Option (List ℕ)) (count workers connections : ℕ) (old new : ServerWorld F S K A C H W P) (status : ℕ) where
    -- the catalogue, the rules and the keys can be used, and the devices are as the plan assigns them; then it was served
    pub record ServedCatalogue : Type 0 where
      pub catalogue : Catalogue
      pub comes : Comes f name count old.world.files (Ok catalogue)
      pub given : Option (List Rule)
      pub ruled : AreRuled f rules old.world.files given
      pub entries : Option KeyFile
      pub keyed : AreKeyed f keys old.world.files entries
      pub devices : List A
      pub set : AreSet f k a plan catalogue old.world.files old.world.devices devices
      pub files : f.faults new.world.files ≡ f.faults old.world.files
      pub serves : ServesMemory k a h i o c w p catalogue (gates_of catalogue given) (keys_in entries) workers connections (record (outside_at old) { devices = devices }) (outside_at new) status

    pub record ServesInMemory : Type 0 where
      pub did : ServesNone name rules plan keys count old new status ⊎ ServedCatalogue
      pub source : new.world.source ≡ old.world.source
      -- the catalogue's file is asked for, then those of the rules, the keys and the plan, and no other; none changes
      pub asks : f.tells → AsksFront (name ∷ listed rules ++ listed keys ++ listed plan) (f.asked old.world.files) (f.asked new.world.files)
      pub others : f.tells → (file : List ℕ) → f.holds new.world.files file ≡ f.holds old.world.files file
      pub came_back : CameBack h old.host new.host
      pub listens : h.tells → Listened h address old.host new.host status
      pub causes : EndsBy (faults_at old) (faults_at new) status ⊎ (status ≡ 3) ⊎ (status ≡ 16) ⊎ (status ≡ 17) ⊎ (status ≡ 19)
      pub complete : (catalogue : Catalogue) (file : List ℕ) → f.tells → f.holds old.world.files name ≡ Some file → usable count file ≡ Ok catalogue
          → TakesRules f rules old.world.files → TakesKeys f keys old.world.files → TakesPlan f plan catalogue old.world.files → NoneRose (faults_at old) (faults_at new) → (status ≡ 0) ⊎ (status ≡ 8)
