-- A session in parts: all of it but the palette, which is lent beside them. What a call over the parts comes to is said by the session
-- that they make.
use Rattle.colours.specs.declared.Palette.{Palette}
use Rattle.payload.specs.Core as payload
use Rattle.dcs.specs.Results as session
use Rattle.dcs.specs.declared.Session.{Session}
use Rattle.dcs.specs.declared.kernel.Core.{Core}
use Rattle.dcs.specs.Results.{OpenedCore, FedCore}
use Rattle.dcs.specs.Session.{session_of}

abbrev pub core_of : Session → Core
core_of s =
    record {
      setup = payload.setup_of s.payload;
      life = s.payload.life;
      frame = s.payload.frame;
      header = s.header;
      phase = s.phase;
    }

-- the session of these parts
abbrev pub over : Core → Palette → Session
over c p = session_of (payload.over c.setup c.life c.frame p) c.header c.phase

abbrev pub opened_over : OpenedCore → Palette → session.Opened
opened_over x p = record { answer = x.answer; session = over x.session p }

abbrev pub fed_over : FedCore → Palette → session.Fed
fed_over x p = record { answer = x.answer; session = over x.session p }
