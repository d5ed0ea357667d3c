-- What a call owes before which the disk in force was asked.
use Rattle.std.proofs.Common.{◌≡◌, ℕ, zero, suc, ◌<◌, max, List, [], ◌∷◌, length, get_or, take, sym, ap, subst, arith}
use Rattle.boss_disk.specs.declared.disk.Disk as disk
use Rattle.boss_disk_pair.specs.Rests as pair
use Rattle.boss_disk_pair.proofs.Words as words
use Rattle.boss_engine.specs.Running.{Running}
use Rattle.boss_model.specs.declared.command.Command.{Command}
use Rattle.boss_shared.specs.declared.asked.Asked.{Asked}
use Rattle.boss_durable.specs.Confirmed.{latest, latest_of}
use Rattle.boss_durable.specs.declared.durable.Durable.{Durable}
use Rattle.boss_durable.specs.Words.{lasting, leaves, passes}

-- ---- the latest moment

-- of one command more
pub latest_more : (calls : List (Command × ℕ)) (n : ℕ) (call : Command × ℕ) → n < length calls → call ≡ get_or calls n call →
    latest (take (suc n) calls) ≡ max call.1 (latest (take n calls))
latest_more [] n call less is = absurd (omega arith)
latest_more (first ∷ calls) zero call less is = ap (λ (c : Command × ℕ). max c.1 0) (sym is)
latest_more (first ∷ calls) (suc n) call less is =
    let more : latest (take (suc n) calls) ≡ max call.1 (latest (take n calls)) = latest_more calls n call (omega arith) is in
    omega (arith, more)

-- of one caller more
pub latest_of_more : (group : List Asked) (n : ℕ) (asked : Asked) → n < length group → asked ≡ get_or group n asked →
    latest_of (take (suc n) group) ≡ max (latest asked.commands) (latest_of (take n group))
latest_of_more [] n asked less is = absurd (omega arith)
latest_of_more (first ∷ group) zero asked less is = ap (λ (a : Asked). max (latest a.commands) 0) (sym is)
latest_of_more (first ∷ group) (suc n) asked less is =
    let more : latest_of (take (suc n) group) ≡ max (latest asked.commands) (latest_of (take n group)) = latest_of_more group n asked (omega arith) is in
    omega (arith, more)

-- ---- a beginning behind it

module _ {D : Type 0} {g : disk.Ghosts D} where
  pub then_passes : (old mid new : Durable D g) → mid.engine ≡ old.engine → passes old mid (lasting old) (lasting old) → passes mid new (lasting mid) (lasting mid) →
      passes old new (lasting old) (lasting old)
  unfolding passes
  then_passes old mid new same one two =
      words.passes_before old.disks mid.disks new.disks old.engine.plant (lasting old) (lasting old) one
      (subst (λ (e : Running). pair.passes mid.disks new.disks e.plant e.state.persistent e.state.persistent) same two)

  pub then_leaves : (old mid new : Durable D g) → mid.engine ≡ old.engine → leaves new (lasting mid) (lasting mid) → leaves new (lasting old) (lasting old)
  then_leaves old mid new same left = subst (λ (e : Running). leaves new e.state.persistent e.state.persistent) same left
