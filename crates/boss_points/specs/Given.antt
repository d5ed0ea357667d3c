-- Source: own.
use Rattle.std.specs.Prelude.{◌≡◌, Result, Ok, Err}
use Rattle.boss_points.specs.declared.refusal.CatalogueRefusal.{CatalogueRefusal}
use Rattle.boss_points.specs.declared.refusal.CatalogueRefusal.TheVariants.{NoMemory}

-- the refusal is the one that reading gives. Want of memory says nothing.
abbrev pub Refused : {A : Type 0} → CatalogueRefusal → Result A CatalogueRefusal → Type 0
Refused NoMemory read = Unit {0}
Refused refusal read = read ≡ Err refusal

-- What was answered, seen by view, is what reading gives.
abbrev pub Gives : {A B : Type 0} → (A → B) → Result A CatalogueRefusal → Result B CatalogueRefusal → Type 0
Gives view (Ok x) read = read ≡ Ok (view x)
Gives view (Err refusal) read = Refused refusal read
