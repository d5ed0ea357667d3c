use Rattle.std.proofs.Common.{◌≡◌, ◌∙◌, Ok, ap, sym}
use Rattle.boss_points.specs.Reading.{catalogue_of}
use Rattle.boss_load.specs.Day.{load_catalogue}
use Rattle.boss_load_run.proofs.PlantRows.{catalogue_is_read, is_not_refused}
use Rattle.boss_load_run.specs.Plant.{plant}
use Rattle.boss_load_run.proofs.running.load_plant.Goals as goal

pub returns-in-Ok : goal.returns-in-Ok
returns-in-Ok c =
    let file : c.slice.result.now ≡ load_catalogue = c.slice.ensures ∙ c.in_ok-file.ensures in
    let read : Ok c.in-Ok.catalogue ≡ Ok plant = sym c.in-Ok.ensures ∙ ap catalogue_of file ∙ catalogue_is_read in
    cc

pub unreachable-requires : goal.unreachable-requires
unreachable-requires c = is_not_refused c.slice.result.now c.in-Err.refusal (c.slice.ensures ∙ c.in_ok-file.ensures) c.in_default.not-NoMemory c.in-Err.ensures
