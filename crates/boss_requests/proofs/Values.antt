-- A line that writes no value is malformed.
use Rattle.std.proofs.Common.{ℕ, List, refl}
use Rattle.boss_model.specs.Catalogue.{Catalogue}
use Rattle.def_wire.specs.declared.form.Form.{Form}
use Rattle.def_wire.specs.Requests.{parsed}
use Rattle.boss_json.specs.declared.unread.Unread.{Unread}
use Rattle.boss_json.specs.declared.unread.Unread.TheVariants.{Malformed, NoMemory}
use Rattle.boss_json.specs.Read.{IsUnread}
use Rattle.boss_requests.specs.Given.{IsTold, refusal_of}

pub told : (catalogue : Catalogue) (form : Form) (line : List ℕ) (why : Unread) → IsUnread why line → IsTold (refusal_of why) (parsed catalogue form line)
unfolding parsed
told catalogue form line Malformed none = rw none refl
told catalogue form line NoMemory none = tt
