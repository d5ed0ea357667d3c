-- Source: own.
-- one command to a device: the point, the value that it was to take, and whether it took it
pub use Rattle.boss_model.specs.DeviceCall.{DeviceCall}
