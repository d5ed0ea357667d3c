-- Texts of refusals and denials, and of what the catalogue and the program tell, computed from the definitions alone.
use Rattle.std.proofs.Common.{◌≡◌, ℕ, pos, negsuc, List, [], ◌∷◌, ◌++◌, Some, None, refl}
use Rattle.std.specs.Prelude.{codes}
use Rattle.std.specs.Fmt.{digits}
use Rattle.boss_model.specs.declared.answer.Answer.TheVariants as answer
use Rattle.boss_model.specs.declared.answer.Basis.TheVariants.{Default}
use Rattle.boss_model.specs.declared.answer.Mark.TheVariants.{Pending, Settled}
use Rattle.boss_model.specs.declared.answer.Refusal.TheVariants.{Malformed, Stale}
use Rattle.boss_model.specs.declared.point.Kind.TheVariants.{Analog, Binary, Multi}
use Rattle.boss_model.specs.declared.spot.Key.TheVariants as key
use Rattle.boss_model.specs.declared.spot.Spot.TheVariants.{Line, Named, Write, Step, Half}
use Rattle.boss_model.specs.Catalogue.{Catalogue}
use Rattle.def_wire.specs.Texts.{answer_text, denied_text, page_size, points_text, refusal_text, version_text}

-- the number under which a request was accepted
stale : refusal_text (Stale 4611686018427387903) ≡ codes "{\"error\":\"stale\",\"kept\":4611686018427387903}"
unfolding digits
stale = refl

-- the first write, and no rule is for it
denied : denied_text 0 0 ≡ codes "{\"error\":\"denied\",\"index\":0,\"rule\":0}"
unfolding digits
denied = refl

-- the last write that a submit may have, and the last rule
denied_last : denied_text 31 256 ≡ codes "{\"error\":\"denied\",\"index\":31,\"rule\":256}"
unfolding digits
denied_last = refl

-- ---- where a line is at fault

told_no_json : refusal_text (Malformed None) ≡ codes "{\"error\":\"malformed\"}"
told_no_json = refl

told_of_the_line : refusal_text (Malformed (Some (Line key.Seq))) ≡ codes "{\"error\":\"malformed\",\"key\":\"seq\"}"
told_of_the_line = refl

told_of_a_name : refusal_text (Malformed (Some (Named 0))) ≡ codes "{\"error\":\"malformed\",\"key\":\"points[0]\"}"
unfolding digits
told_of_a_name = refl

told_of_a_write : refusal_text (Malformed (Some (Write 31 key.Priority))) ≡ codes "{\"error\":\"malformed\",\"key\":\"writes[31].priority\"}"
unfolding digits
told_of_a_write = refl

told_of_a_step : refusal_text (Malformed (Some (Step 1 2))) ≡ codes "{\"error\":\"malformed\",\"key\":\"writes[1].revert[2]\"}"
unfolding digits
told_of_a_step = refl

told_of_a_half : refusal_text (Malformed (Some (Half 1 2 1))) ≡ codes "{\"error\":\"malformed\",\"key\":\"writes[1].revert[2][1]\"}"
unfolding digits
told_of_a_half = refl

-- ---- the catalogue and the program

-- one point of each kind, on two drivers
abbrev site : Catalogue
site = record {
  drivers = codes "field" ∷ codes "hall" ∷ [];
  points = record { name = codes "damper"; actuator = record { kind = Analog (negsuc 4999) (pos 100000); default = pos 20000; driver = 0 }; min_on = pos 0; min_off = pos 0 } ∷
      record { name = codes "fan"; actuator = record { kind = Binary; default = pos 0; driver = 1 }; min_on = pos 60000; min_off = pos 0 } ∷
      record { name = codes "lamp"; actuator = record { kind = Multi (pos 3); default = pos 1; driver = 1 }; min_on = pos 0; min_off = pos 0 } ∷ [];
}

-- in place of the digest's 64 digits
abbrev digest : List ℕ
digest = codes "\"3f\""

first_page : points_text digest 0 2 site ≡ codes "{\"ok\":\"points\",\"digest\":\"3f\",\"drivers\":[\"field\",\"hall\"],\"count\":3,\"next\":2,\"list\":["
    ++ codes "{\"point\":\"damper\",\"kind\":\"analog\",\"min\":-5000,\"max\":100000,\"default\":20000,\"driver\":\"field\"},"
    ++ codes "{\"point\":\"fan\",\"kind\":\"binary\",\"default\":0,\"driver\":\"hall\",\"min_on\":60000,\"min_off\":0}]}"
unfolding digits
first_page = refl

last_page : points_text digest 2 64 site ≡ codes "{\"ok\":\"points\",\"digest\":\"3f\",\"count\":3,\"next\":3,\"list\":["
    ++ codes "{\"point\":\"lamp\",\"kind\":\"multi\",\"states\":3,\"default\":1,\"driver\":\"hall\"}]}"
unfolding digits
last_page = refl

-- behind the last point there is none
past_the_end : points_text digest 4 64 site ≡ codes "{\"ok\":\"points\",\"digest\":\"3f\",\"count\":3,\"next\":4,\"list\":[]}"
unfolding digits
past_the_end = refl

-- the drivers leave room for half as many points
room_beside : page_size 0 64 ∷ page_size 0 32 ∷ page_size 1 64 ∷ [] ≡ 32 ∷ 32 ∷ 64 ∷ []
room_beside = refl

version_told : version_text digest site ≡ codes "{\"ok\":\"version\",\"program\":\"0.3.0\",\"journal\":3,\"digest\":\"3f\",\"points\":3,\"drivers\":2}"
unfolding digits
version_told = refl

-- ---- a reading of a point whose device was found with another value

differed : answer_text site (answer.Reading 1 (pos 1) Default Pending 3 None)
    ≡ codes "{\"ok\":\"read\",\"point\":\"fan\",\"value\":1,\"from\":\"default\",\"mark\":\"pending\",\"differed\":3}"
unfolding digits
differed = refl

-- a fan that is to stand and runs; and one that has what it is to have

took : answer_text site (answer.Reading 1 (pos 0) Default Pending 0 (Some (record { value = pos 1; since = 1500 })))
    ≡ codes "{\"ok\":\"read\",\"point\":\"fan\",\"value\":0,\"from\":\"default\",\"mark\":\"pending\",\"took\":1,\"since\":1500}"
unfolding digits
took = refl

took_it : answer_text site (answer.Reading 1 (pos 1) Default Settled 0 (Some (record { value = pos 1; since = 1500 })))
    ≡ codes "{\"ok\":\"read\",\"point\":\"fan\",\"value\":1,\"from\":\"default\",\"mark\":\"settled\"}"
unfolding digits
took_it = refl
