-- Worked datagrams, computed from the definitions. The same bytes were judged by another implementation.
use Rattle.std.proofs.Common.{◌≡◌, [], ◌∷◌, Some, None, refl}
use Rattle.boss_bacnet.specs.declared.asked.Asked.{Asked}
use Rattle.boss_model.specs.declared.places.ObjectKind.TheVariants.{AnalogOutput, BinaryOutput, MultiStateValue}
use Rattle.boss_model.specs.declared.places.Object.{Object}
use Rattle.boss_bacnet.specs.declared.asked.Value.TheVariants.{Real, Enumerated, Unsigned}
use Rattle.boss_bacnet.specs.declared.asked.What.TheVariants.{Write, Check}
use Rattle.boss_bacnet.specs.declared.fate.Fate.TheVariants as fate
use Rattle.boss_bacnet.specs.Fates.{judged}
use Rattle.boss_bacnet.specs.Frames.{frame}

damper : Object
damper = record { kind = AnalogOutput; instance = 3 }

-- 45.0 is 42340000, 30.0 is 41F00000
opened : Asked
opened = record { remote = None; object = damper; what = Write (Real 1110704128) 8 }

opened-framed : frame 1 opened ≡ 0x81 ∷ 0x0a ∷ 0 ∷ 0x1a ∷ 1 ∷ 4 ∷ 0 ∷ 3 ∷ 1 ∷ 0x0f ∷ 0x0c ∷ 0 ∷ 0x40 ∷ 0 ∷ 3 ∷ 0x19 ∷ 0x55 ∷ 0x3e ∷ 0x44 ∷ 0x42 ∷ 0x34 ∷ 0 ∷ 0 ∷ 0x3f ∷ 0x49 ∷ 8 ∷ []
unfolding opened damper
opened-framed = refl

behind-router : frame 7 (record opened { remote = Some (record { network = 2001; address = 12 }) })
    ≡ 0x81 ∷ 0x0a ∷ 0 ∷ 0x1f ∷ 1 ∷ 0x24 ∷ 0x07 ∷ 0xd1 ∷ 1 ∷ 0x0c ∷ 0xff ∷ 0 ∷ 3 ∷ 7 ∷ 0x0f ∷ 0x0c ∷ 0 ∷ 0x40 ∷ 0 ∷ 3 ∷ 0x19 ∷ 0x55 ∷ 0x3e ∷ 0x44 ∷ 0x42 ∷ 0x34 ∷ 0 ∷ 0 ∷ 0x3f ∷ 0x49 ∷ 8 ∷ []
unfolding opened damper
behind-router = refl

lamp-framed : frame 3 (record { remote = None; object = record { kind = BinaryOutput; instance = 1 }; what = Write (Enumerated 1) 8 })
    ≡ 0x81 ∷ 0x0a ∷ 0 ∷ 0x17 ∷ 1 ∷ 4 ∷ 0 ∷ 3 ∷ 3 ∷ 0x0f ∷ 0x0c ∷ 1 ∷ 0 ∷ 0 ∷ 1 ∷ 0x19 ∷ 0x55 ∷ 0x3e ∷ 0x91 ∷ 1 ∷ 0x3f ∷ 0x49 ∷ 8 ∷ []
lamp-framed = refl

stages-framed : frame 6 (record { remote = None; object = record { kind = MultiStateValue; instance = 4194302 }; what = Write (Unsigned 255) 10 })
    ≡ 0x81 ∷ 0x0a ∷ 0 ∷ 0x17 ∷ 1 ∷ 4 ∷ 0 ∷ 3 ∷ 6 ∷ 0x0f ∷ 0x0c ∷ 4 ∷ 0xff ∷ 0xff ∷ 0xfe ∷ 0x19 ∷ 0x55 ∷ 0x3e ∷ 0x21 ∷ 0xff ∷ 0x3f ∷ 0x49 ∷ 10 ∷ []
stages-framed = refl

checked : Asked
checked = record { remote = None; object = damper; what = Check (Real 1110704128) }

checked-framed : frame 8 checked ≡ 0x81 ∷ 0x0a ∷ 0 ∷ 0x11 ∷ 1 ∷ 4 ∷ 0 ∷ 3 ∷ 8 ∷ 0x0c ∷ 0x0c ∷ 0 ∷ 0x40 ∷ 0 ∷ 3 ∷ 0x19 ∷ 0x55 ∷ []
unfolding checked damper
checked-framed = refl

-- ---- answers

took : judged 1 opened (0x81 ∷ 0x0a ∷ 0 ∷ 9 ∷ 1 ∷ 0 ∷ 0x20 ∷ 1 ∷ 0x0f ∷ []) ≡ Some fate.Taken
unfolding opened damper
took = refl

-- one of another id is passed over, and so is one that says that it is longer than it is
late : judged 1 opened (0x81 ∷ 0x0a ∷ 0 ∷ 9 ∷ 1 ∷ 0 ∷ 0x20 ∷ 0 ∷ 0x0f ∷ []) ≡ None
unfolding opened damper
late = refl

short : judged 1 opened (0x81 ∷ 0x0a ∷ 0 ∷ 10 ∷ 1 ∷ 0 ∷ 0x20 ∷ 1 ∷ 0x0f ∷ []) ≡ None
unfolding opened damper
short = refl

-- property, write-access-denied
denied : judged 3 opened (0x81 ∷ 0x0a ∷ 0 ∷ 13 ∷ 1 ∷ 0 ∷ 0x50 ∷ 3 ∷ 0x0f ∷ 0x91 ∷ 2 ∷ 0x91 ∷ 40 ∷ []) ≡ Some (fate.Error 2 40)
unfolding opened damper
denied = refl

rejected : judged 3 opened (0x81 ∷ 0x0a ∷ 0 ∷ 9 ∷ 1 ∷ 0 ∷ 0x60 ∷ 3 ∷ 9 ∷ []) ≡ Some (fate.Reject 9)
unfolding opened damper
rejected = refl

aborted : judged 3 opened (0x81 ∷ 0x0a ∷ 0 ∷ 9 ∷ 1 ∷ 0 ∷ 0x71 ∷ 3 ∷ 4 ∷ []) ≡ Some (fate.Abort 4)
unfolding opened damper
aborted = refl

-- 30.0 in place of 45.0, and 45.0
differs : judged 8 checked (0x81 ∷ 0x0a ∷ 0 ∷ 0x17 ∷ 1 ∷ 0 ∷ 0x30 ∷ 8 ∷ 0x0c ∷ 0x0c ∷ 0 ∷ 0x40 ∷ 0 ∷ 3 ∷ 0x19 ∷ 0x55 ∷ 0x3e ∷ 0x44 ∷ 0x41 ∷ 0xf0 ∷ 0 ∷ 0 ∷ 0x3f ∷ [])
    ≡ Some fate.HasOther
unfolding checked damper
differs = refl

has : judged 8 checked (0x81 ∷ 0x0a ∷ 0 ∷ 0x17 ∷ 1 ∷ 0 ∷ 0x30 ∷ 8 ∷ 0x0c ∷ 0x0c ∷ 0 ∷ 0x40 ∷ 0 ∷ 3 ∷ 0x19 ∷ 0x55 ∷ 0x3e ∷ 0x44 ∷ 0x42 ∷ 0x34 ∷ 0 ∷ 0 ∷ 0x3f ∷ [])
    ≡ Some fate.Has
unfolding checked damper
has = refl

-- from station 12 of network 2001, and not from the router itself
from_station : judged 7 (record opened { remote = Some (record { network = 2001; address = 12 }) })
    (0x81 ∷ 0x0a ∷ 0 ∷ 13 ∷ 1 ∷ 8 ∷ 0x07 ∷ 0xd1 ∷ 1 ∷ 0x0c ∷ 0x20 ∷ 7 ∷ 0x0f ∷ []) ≡ Some fate.Taken
unfolding opened damper
from_station = refl

from_router : judged 7 (record opened { remote = Some (record { network = 2001; address = 12 }) }) (0x81 ∷ 0x0a ∷ 0 ∷ 9 ∷ 1 ∷ 0 ∷ 0x20 ∷ 7 ∷ 0x0f ∷ []) ≡ None
unfolding opened damper
from_router = refl
