-- The two sessions that are fed in place: each takes at most 2 KiB there.
use Prim.Native.Nat.{◌≤◌}
use lib.Dec.{lit≤}
use prog.Memory.{size}
use denote.Struct.Struct.{layout}
use denote.Struct.Declared as structs
use Rattle.dcs.specs.contracts.Session as dcs_session
use Rattle.payload.specs.contracts.Session as payload_session

pub payload-size : size (layout (structs.shape payload_session.the_type)) ≤ 2048
payload-size = lit≤ tt

pub dcs-size : size (layout (structs.shape dcs_session.the_type)) ≤ 2048
dcs-size = lit≤ tt
