-- Worked frames, computed from the definitions.
use Rattle.std.proofs.Common.{◌≡◌, ℕ, pos, negsuc, List, [], ◌∷◌, true, Option, Some, None, refl}
use Rattle.boss_model.specs.declared.places.DriverPlan.{DriverPlan}
use Rattle.boss_model.specs.declared.places.Form.TheVariants.{Unsigned16, Signed32}
use Rattle.boss_model.specs.declared.places.Function.TheVariants.{WriteSingle, WriteMultiple}
use Rattle.boss_model.specs.declared.places.Half.TheVariants.{Low}
use Rattle.boss_model.specs.declared.places.Place.{Place}
use Rattle.boss_model.specs.declared.places.Protocol.TheVariants.{Modbus}
use Rattle.boss_model.specs.declared.places.Round.TheVariants.{Down}
use Rattle.boss_model.specs.declared.places.Scale.{Scale}
use Rattle.boss_model.specs.declared.places.Where.{Where}
use Rattle.boss_model.specs.declared.places.Where.TheVariants.{Coil, Register}
use Rattle.boss_numbers.specs.declared.registers.Words.TheVariants.{One, Two}
use Rattle.boss_modbus.specs.declared.request.Asked.{Asked}
use Rattle.boss_modbus.specs.declared.request.Request.TheVariants.{WriteCoil, WriteRegister, WriteCoils, WriteRegisters, CheckCoil, CheckRegisters}
use Rattle.boss_modbus.specs.declared.places.What.TheVariants.{Write, Check}
use Rattle.boss_modbus.specs.declared.fate.Fate.TheVariants.{Taken, Has, HasOther, Exception, Wrong}
use Rattle.boss_modbus.specs.Fates.{judged}
use Rattle.boss_modbus.specs.Frames.{frame}
use Rattle.boss_modbus.specs.Places.{AsksFor}

-- ---- a plan with no key but `unit`, `coil`, `register` and `per`

by : ℕ → Scale
by per = record { times = 1; per = pos per; offset = pos 0; round = Down }

place_at : ℕ → Where → Place
place_at point at = record { point = point; unit = 1; at = at; check = 0; again = 0 }

part : Option DriverPlan
part = Some (record {
  host = [];
  speaks = Modbus;
  wait = 5000;
  tries = 1;
  places =
      place_at 1 (Coil 19 WriteSingle)
      ∷ place_at 0 (Register 2 Unsigned16 (by 1000) WriteSingle)
      ∷ place_at 3 (Register 10 (Signed32 Low) (by 1) WriteMultiple)
      ∷ [];
})

-- the lamp on: function 5, coil 19, FF00
lamp : Asked
lamp = record { unit = 1; request = WriteCoil 19 true }

lamp_frame : List ℕ
lamp_frame = 0 ∷ 1 ∷ 0 ∷ 0 ∷ 0 ∷ 6 ∷ 1 ∷ 5 ∷ 0 ∷ 19 ∷ 255 ∷ 0 ∷ []

lamp-asked : AsksFor part Write 1 (pos 1) (Some lamp)
unfolding lamp part place_at
lamp-asked = refl

lamp-framed : frame 1 lamp ≡ lamp_frame
unfolding lamp lamp_frame
lamp-framed = refl

-- one is answered by the same frame
lamp-taken : judged 1 lamp lamp_frame ≡ Taken
unfolding lamp lamp_frame
lamp-taken = refl

lamp-refused : judged 1 lamp (0 ∷ 1 ∷ 0 ∷ 0 ∷ 0 ∷ 3 ∷ 1 ∷ 133 ∷ 2 ∷ []) ≡ Exception 2
unfolding lamp
lamp-refused = refl

-- a lamp is off at 0, on at 1, and takes no other value
lamp-other : AsksFor part Write 1 (pos 2) None
unfolding part place_at
lamp-other = refl

-- 45000 thousandths, one of the register standing for 1000: function 6, register 2, 45
damper : Asked
damper = record { unit = 1; request = WriteRegister 2 45 }

damper-asked : AsksFor part Write 0 (pos 45000) (Some damper)
unfolding damper part place_at by
damper-asked = (Some (One 45), (refl, refl), refl)

-- a register has nothing below 0
damper-below : AsksFor part Write 0 (negsuc 0) None
unfolding part place_at by
damper-below = (None, refl, refl)

damper-framed : frame 2 damper ≡ 0 ∷ 2 ∷ 0 ∷ 0 ∷ 0 ∷ 6 ∷ 1 ∷ 6 ∷ 0 ∷ 2 ∷ 0 ∷ 45 ∷ []
unfolding damper
damper-framed = refl

-- the answer to another write is none of this
damper-wrong : judged 2 damper (0 ∷ 1 ∷ 0 ∷ 0 ∷ 0 ∷ 6 ∷ 1 ∷ 6 ∷ 0 ∷ 2 ∷ 0 ∷ 45 ∷ []) ≡ Wrong
unfolding damper
damper-wrong = refl

-- ---- the functions that write several

-- the lamp by function 15: one coil, one byte, whose lowest bit is the coil
lamps : Asked
lamps = record { unit = 1; request = WriteCoils 19 true }

lamps-framed : frame 3 lamps ≡ 0 ∷ 3 ∷ 0 ∷ 0 ∷ 0 ∷ 8 ∷ 1 ∷ 15 ∷ 0 ∷ 19 ∷ 0 ∷ 1 ∷ 1 ∷ 1 ∷ []
unfolding lamps
lamps-framed = refl

-- several are answered by how many there are
lamps-taken : judged 3 lamps (0 ∷ 3 ∷ 0 ∷ 0 ∷ 0 ∷ 6 ∷ 1 ∷ 15 ∷ 0 ∷ 19 ∷ 0 ∷ 1 ∷ []) ≡ Taken
unfolding lamps
lamps-taken = refl

-- -100,000 in the registers 10 and 11, the low half first: function 16, two registers, four bytes
counter : Asked
counter = record { unit = 1; request = WriteRegisters 10 (Two 31072 65534) }

counter-asked : AsksFor part Write 3 (negsuc 99999) (Some counter)
unfolding counter part place_at by
counter-asked = (Some (Two 31072 65534), (refl, refl), refl)

counter-framed : frame 4 counter ≡ 0 ∷ 4 ∷ 0 ∷ 0 ∷ 0 ∷ 11 ∷ 1 ∷ 16 ∷ 0 ∷ 10 ∷ 0 ∷ 2 ∷ 4 ∷ 121 ∷ 96 ∷ 255 ∷ 254 ∷ []
unfolding counter
counter-framed = refl

counter-taken : judged 4 counter (0 ∷ 4 ∷ 0 ∷ 0 ∷ 0 ∷ 6 ∷ 1 ∷ 16 ∷ 0 ∷ 10 ∷ 0 ∷ 2 ∷ []) ≡ Taken
unfolding counter
counter-taken = refl

-- half of it is not enough
counter-half : judged 4 counter (0 ∷ 4 ∷ 0 ∷ 0 ∷ 0 ∷ 6 ∷ 1 ∷ 16 ∷ 0 ∷ 10 ∷ 0 ∷ 1 ∷ []) ≡ Wrong
unfolding counter
counter-half = refl

-- ---- what a unit has

-- whether the lamp is on: function 1, one coil
lamp_checked : Asked
lamp_checked = record { unit = 1; request = CheckCoil 19 true }

lamp-check : AsksFor part Check 1 (pos 1) (Some lamp_checked)
unfolding lamp_checked part place_at
lamp-check = refl

lamp-check-framed : frame 5 lamp_checked ≡ 0 ∷ 5 ∷ 0 ∷ 0 ∷ 0 ∷ 6 ∷ 1 ∷ 1 ∷ 0 ∷ 19 ∷ 0 ∷ 1 ∷ []
unfolding lamp_checked
lamp-check-framed = refl

lamp-has : judged 5 lamp_checked (0 ∷ 5 ∷ 0 ∷ 0 ∷ 0 ∷ 4 ∷ 1 ∷ 1 ∷ 1 ∷ 1 ∷ []) ≡ Has
unfolding lamp_checked
lamp-has = refl

lamp-off : judged 5 lamp_checked (0 ∷ 5 ∷ 0 ∷ 0 ∷ 0 ∷ 4 ∷ 1 ∷ 1 ∷ 1 ∷ 0 ∷ []) ≡ HasOther
unfolding lamp_checked
lamp-off = refl

-- an exception to a check is none of a write
lamp-unknown : judged 5 lamp_checked (0 ∷ 5 ∷ 0 ∷ 0 ∷ 0 ∷ 3 ∷ 1 ∷ 129 ∷ 2 ∷ []) ≡ Exception 2
unfolding lamp_checked
lamp-unknown = refl

-- -100,000 in two registers: function 3
counter_checked : Asked
counter_checked = record { unit = 1; request = CheckRegisters 10 (Two 31072 65534) }

counter-check : AsksFor part Check 3 (negsuc 99999) (Some counter_checked)
unfolding counter_checked part place_at by
counter-check = (Some (Two 31072 65534), (refl, refl), refl)

counter-check-framed : frame 6 counter_checked ≡ 0 ∷ 6 ∷ 0 ∷ 0 ∷ 0 ∷ 6 ∷ 1 ∷ 3 ∷ 0 ∷ 10 ∷ 0 ∷ 2 ∷ []
unfolding counter_checked
counter-check-framed = refl

counter-has : judged 6 counter_checked (0 ∷ 6 ∷ 0 ∷ 0 ∷ 0 ∷ 7 ∷ 1 ∷ 3 ∷ 4 ∷ 121 ∷ 96 ∷ 255 ∷ 254 ∷ []) ≡ Has
unfolding counter_checked
counter-has = refl

counter-restarted : judged 6 counter_checked (0 ∷ 6 ∷ 0 ∷ 0 ∷ 0 ∷ 7 ∷ 1 ∷ 3 ∷ 4 ∷ 0 ∷ 0 ∷ 0 ∷ 0 ∷ []) ≡ HasOther
unfolding counter_checked
counter-restarted = refl

-- one register is no value of two
counter-short : judged 6 counter_checked (0 ∷ 6 ∷ 0 ∷ 0 ∷ 0 ∷ 5 ∷ 1 ∷ 3 ∷ 2 ∷ 121 ∷ 96 ∷ []) ≡ Wrong
unfolding counter_checked
counter-short = refl
