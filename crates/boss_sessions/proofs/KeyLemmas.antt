-- What is read where there are keys.
use Rattle.std.proofs.Common.{◌≡◌, ℕ, Bool, true, false, not, if◌then◌else◌, List, codes, bytes_eq, Option, Some, None, refl, ap, sym, ◌∙◌, subst}
use Rattle.std.proofs.lemmas.Slice.Eq.{bytes_eq-Decides}
use Rattle.serde_json.specs.Data.{Data, null, boolean, number, string, array, object}
use Rattle.serde_json.specs.Find.{as_str}
use Rattle.boss_model.specs.Catalogue.{Catalogue}
use Rattle.boss_model.specs.declared.command.Command.{Command}
use Rattle.boss_model.specs.declared.command.Command.TheVariants as command
use Rattle.def_wire.specs.declared.form.Form.{Form}
use Rattle.def_wire.specs.Keys.{under}
use Rattle.def_wire.specs.Requests.{◌>>=◌, parsed, read_in, request_of, value_in}
use Rattle.def_connection.specs.Showing.{IsBarred, IsOwn, AsksOwn, IsGuarded}
use Rattle.def_connection.specs.Speech.{Reading, asks, watches, refuses, forbids, Footing, known_by}
use Rattle.boss_keys.specs.declared.entry.Entry.{Entry}
use Rattle.boss_keys.specs.Admission.{admits}
use Rattle.boss_callers.specs.declared.shown.Shown.{Shown}
use Rattle.boss_callers.specs.declared.shown.Shown.TheVariants.{NoObject, Key, WrongKey}
use Rattle.boss_callers.specs.Shown.{is_object, name_in, name_shown, shown_by, shown_for, shown_in}
use Rattle.boss_sessions.specs.Speaking.{asked_in, form_of, guarded, is_other, manner_of, owned, reading_in, reading_of}

-- ---- a line that is no object

-- it has no op
none-asked : (catalogue : Catalogue) (form : Form) (d : Data) → is_object d ≡ false → IsBarred (reading_of (request_of catalogue form d))
none-asked catalogue form null is = tt
none-asked catalogue form (boolean b) is = tt
none-asked catalogue form (number n) is = tt
none-asked catalogue form (string s) is = tt
none-asked catalogue form (array ds) is = tt
none-asked catalogue form (object ms) is = absurd (let no : true ≡ false = is in cc)

-- an object shows the key of a name, or a wrong one
shows-some : (keys : List Entry) (name key : Option (List ℕ)) → shown_for keys name key ≡ NoObject → ⊥
shows-some keys None key is = cc
shows-some keys (Some name) None is = cc
shows-some keys (Some name) (Some key) is = by (admits keys name key) is
  where
    by : (right : Bool) → (if right then Key name else WrongKey) ≡ NoObject → ⊥
    by true is = cc
    by false is = cc

no-object : (keys : List Entry) (d : Data) → shown_in keys (Some d) ≡ NoObject → is_object d ≡ false
no-object keys null is = refl
no-object keys (boolean b) is = refl
no-object keys (number n) is = refl
no-object keys (string s) is = refl
no-object keys (array ds) is = refl
no-object keys (object ms) is = absurd (shows-some keys (name_in (object ms)) (under (codes "key") as_str (object ms)) is)

value-barred : (catalogue : Catalogue) (keys : List Entry) (form : Form) (value : Option Data) → shown_in keys value ≡ NoObject → IsBarred (reading_of (read_in value >>= request_of catalogue form))
value-barred catalogue keys form None is = tt
value-barred catalogue keys form (Some d) is = none-asked catalogue form d (no-object keys d is)

-- it is malformed
unshown-barred : (catalogue : Catalogue) (keys : List Entry) (later : Bool) (line : List ℕ) → shown_by keys line ≡ NoObject → IsBarred (asked_in catalogue later line)
unfolding parsed shown_by
unshown-barred catalogue keys later line is = value-barred catalogue keys (form_of later) (value_in line) is

-- ---- what is forbidden

own-command : (name : List ℕ) (asked : Command) → is_other name asked ≡ false → IsOwn (Some name) asked
own-command name (command.Attach other) is = ap Some (sym (same_name (bytes_eq other name) (bytes_eq-Decides other name).0 is))
  where
    same_name : (same : Bool) → (same ≡ true → other ≡ name) → not same ≡ false → other ≡ name
    same_name true decides is = decides refl
    same_name false decides is = absurd cc
own-command name (command.Submit writes policy seq) is = tt
own-command name (command.Renew txn length points seq) is = tt
own-command name (command.Cancel txn seq) is = tt
own-command name command.Gone is = tt
own-command name command.Tick is = tt
own-command name (command.Next driver) is = tt
own-command name (command.Report point version ok) is = tt
own-command name (command.Doubt point differs) is = tt
own-command name (command.Read point) is = tt
own-command name (command.Array point) is = tt
own-command name (command.Status txn) is = tt
own-command name (command.Notices known from most) is = tt
own-command name (command.Points from most) is = tt
own-command name command.Version is = tt

owned-own : (name : List ℕ) (reading : Reading) → AsksOwn (Some name) (owned name reading)
owned-own name (asks asked) = by (is_other name asked) refl
  where
    by : (other : Bool) → is_other name asked ≡ other → AsksOwn (Some name) (if other then forbids else asks asked)
    by true is = tt
    by false is = own-command name asked is
owned-own name (watches known from) = tt
owned-own name (refuses why) = tt
owned-own name forbids = tt

barred-own : (known : Option (List ℕ)) (reading : Reading) → IsBarred reading → AsksOwn known reading
barred-own known (asks asked) barred = absurd barred
barred-own known (watches name from) barred = tt
barred-own known (refuses why) barred = tt
barred-own known forbids barred = tt

guarded-barred : (known : Option (List ℕ)) (shown : Shown) (reading : Reading) → known_by known (name_shown shown) ≡ None → (shown ≡ NoObject → IsBarred reading) → IsBarred (guarded known shown reading)
guarded-barred (Some name) shown reading none barred = absurd cc
guarded-barred None NoObject reading none barred = barred refl
guarded-barred None (Key name) reading none barred = absurd cc
guarded-barred None WrongKey reading none barred = tt

guarded-own : (known : Option (List ℕ)) (shown : Shown) (reading : Reading) → (shown ≡ NoObject → IsBarred reading) → AsksOwn (known_by known (name_shown shown)) (guarded known shown reading)
guarded-own (Some name) shown reading barred = owned-own name reading
guarded-own None NoObject reading barred = barred-own None reading (barred refl)
guarded-own None (Key name) reading barred = owned-own name reading
guarded-own None WrongKey reading barred = tt

pub keys-guard : (catalogue : Catalogue) (keys : List Entry) → IsGuarded (manner_of catalogue (Some keys))
keys-guard catalogue keys = record {
  barred = λ at line none. guarded-barred at.known (shown_by keys line) (asked_in catalogue at.later line) none (unshown-barred catalogue keys at.later line);
  own = λ at line. guarded-own at.known (shown_by keys line) (asked_in catalogue at.later line) (unshown-barred catalogue keys at.later line);
}

-- ---- what is asked is asked without keys, too

owned-asks : (name : List ℕ) (reading : Reading) (asked : Command) → owned name reading ≡ asks asked → reading ≡ asks asked
owned-asks name (asks other) asked is = by (is_other name other) is
  where
    by : (foreign : Bool) → (if foreign then forbids else asks other) ≡ asks asked → asks other ≡ asks asked
    by true is = absurd cc
    by false is = is
owned-asks name (watches known from) asked is = is
owned-asks name (refuses why) asked is = is
owned-asks name forbids asked is = is

guarded-asks : (known : Option (List ℕ)) (shown : Shown) (reading : Reading) (asked : Command) → guarded known shown reading ≡ asks asked → reading ≡ asks asked
guarded-asks (Some name) shown reading asked is = owned-asks name reading asked is
guarded-asks None NoObject reading asked is = is
guarded-asks None (Key name) reading asked is = owned-asks name reading asked is
guarded-asks None WrongKey reading asked is = absurd cc

pub asks-asked : (catalogue : Catalogue) (keys : Option (List Entry)) (at : Footing) (line : List ℕ) (asked : Command) → reading_in catalogue keys at line ≡ asks asked →
    asked_in catalogue at.later line ≡ asks asked
asks-asked catalogue None at line asked is = is
asks-asked catalogue (Some keys) at line asked is = guarded-asks at.known (shown_by keys line) (asked_in catalogue at.later line) asked is
