-- Source: own.
-- What can be told: a text has room for it, and the catalogue has its points.
use Rattle.std.specs.Prelude.{◌<◌, ◌≤◌, List, length}
use Rattle.std.specs.List.{AllByRecursion}
use Rattle.boss_model.specs.declared.answer.Answer.{Answer}
use Rattle.boss_model.specs.declared.answer.Answer.TheVariants as answer
use Rattle.boss_model.specs.declared.notice.Notice.{Notice}
use Rattle.boss_model.specs.Catalogue.{Catalogue}
use Rattle.boss_model.specs.Limits.{most_told, last_number}
use Rattle.boss_model.specs.Sound.{IsKnown}

abbrev pub IsTellableNotice : Catalogue → Notice → Type 0
IsTellableNotice catalogue notice = IsKnown (length catalogue.points) notice.what

abbrev pub AreTellable : Catalogue → List Notice → Type 0
AreTellable catalogue notices = (length notices ≤ most_told) × AllByRecursion (IsTellableNotice catalogue) notices

abbrev pub IsTellable : Catalogue → Answer → Type 0
IsTellable catalogue (answer.Want point version value) = point < length catalogue.points
IsTellable catalogue (answer.Reading point value basis mark differed took) = point < length catalogue.points
IsTellable catalogue (answer.Array point slots) = point < length catalogue.points
IsTellable catalogue (answer.Notices first next list) = AreTellable catalogue list
IsTellable catalogue (answer.Points from most) = (from ≤ last_number) × (most ≤ most_told)
IsTellable catalogue other = Unit {0}
