-- Of a server with keys: whoever attached on a connection had shown its key.
use Rattle.std.proofs.Common.{◌≡◌, List, Option, Some, subst}
use Rattle.boss_model.specs.Catalogue.{Catalogue, actuators}
use Rattle.def_history.specs.declared.entry.Entry.{Entry}
use Rattle.def_lanes.specs.Parts.{Agreed}
use Rattle.def_lanes.specs.Works.{Work}
use Rattle.boss_keys.specs.declared.entry.Entry.{Entry as KeyEntry}
use Rattle.boss_shared.specs.Gates.{Gate}
use Rattle.boss_sessions.proofs.KeyLemmas.{keys-guard}
use Rattle.boss_worker.specs.Keyed.{AreByKeys}
use Rattle.boss_worker.specs.Saying.{says}
use Rattle.boss_worker.proofs.KeyedLemmas.{works-shown}

pub works-keyed : (catalogue : Catalogue) (gates : List Gate) (keys : Option (List KeyEntry)) (heeds tells pausing : Type 0) (log : List Entry) (works : List Work) →
    Agreed (actuators catalogue) (says catalogue gates keys heeds tells pausing) log works → (known : List KeyEntry) → keys ≡ Some known → heeds →
    AreByKeys (actuators catalogue) known log works
works-keyed catalogue gates keys heeds tells pausing log works agreed known are heard =
    let by : Agreed (actuators catalogue) (says catalogue gates (Some known) heeds tells pausing) log works =
    subst (λ k. Agreed (actuators catalogue) (says catalogue gates k heeds tells pausing) log works) are agreed in
    works-shown catalogue gates known (keys-guard catalogue known) heeds tells pausing log heard works by.each
