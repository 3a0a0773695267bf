-- What each session of the code is: its fields are in the ranges of their types. Those of 64 bits are numbers as they are.
use Rattle.std.specs.Prelude.{◌≡◌, ℕ, ◌<◌, List, length, slice_index_or, Some, None}
use Rattle.numbers.specs.Memory as parameters
use Rattle.frame.specs.declared.Frame.{Frame}
use Rattle.payload.specs.Results.{Given}
use Rattle.payload.specs.declared.Life.{Life}
use Rattle.payload.specs.declared.Life.TheVariants as lives
use Rattle.payload.specs.declared.Session.{Session}
use Rattle.payload.specs.declared.Settings.{Settings}

-- a colour is four bytes
pub record ColorRanged (px : List ℕ) : Type 0 where
  pub four : length px ≡ 4
  pub red : slice_index_or px 0 0 < 256
  pub green : slice_index_or px 1 0 < 256
  pub blue : slice_index_or px 2 0 < 256
  pub alpha : slice_index_or px 3 0 < 256

-- a parameter has 16 bits
abbrev pub GivenRanged : Given → Type 0
GivenRanged None = Unit {0}
GivenRanged (Some n) = n < 65536

pub record SettingsRanged (o : Settings) : Type 0 where
  pub p1 : GivenRanged o.p1
  pub p2 : GivenRanged o.p2

-- the end of a payload is a byte
abbrev pub LifeRanged : Life → Type 0
LifeRanged lives.Live = Unit {0}
LifeRanged (lives.Ended b) = b < 256
LifeRanged lives.Failed = Unit {0}

pub record FrameRanged (f : Frame) : Type 0 where
  pub color : ColorRanged f.pen.color
  pub ratio : f.raster.ratio < 256
  pub parameters : parameters.Ranged f.command.parameters

pub record Ranged (s : Session) : Type 0 where
  pub background : ColorRanged s.ground.background
  pub settings : SettingsRanged s.settings
  pub life : LifeRanged s.life
  pub frame : FrameRanged s.frame
