use Rattle.std.proofs.Common.{sym, subst}
use Rattle.boss_disk.specs.Images.{settled_holds}
use Rattle.boss_disk.specs.Window.{IsImage, settled}
use Rattle.boss_disk.proofs.Torn.{settled_image}
use Rattle.boss_disk.proofs.laws.synced_bytes_stay.Goals as goal

pub returns : goal.returns
returns c held bytes = (settled_image held bytes, λ is. subst (IsImage (settled held)) (sym is) (settled_holds held))
