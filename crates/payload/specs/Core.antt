-- A session in parts: its setup, its life, its frame, and the palette that is lent beside them. What a call over the parts comes to is
-- said by the session that they make.
use Rattle.std.specs.Prelude.{◌≡◌, ℕ, List, Ok, Err}
use Rattle.colours.specs.declared.Palette.{Palette}
use Rattle.colours.specs.Palette.{of_table}
use Rattle.frame.specs.declared.Ground.{Ground}
use Rattle.frame.specs.declared.Frame.{Frame}
use Rattle.frame.specs.declared.Limits.{Limits}
use Rattle.payload.specs.Results as session
use Rattle.payload.specs.declared.Finished.{Finished}
use Rattle.payload.specs.Results.{Finishing}
use Rattle.payload.specs.declared.Life.{Life}
use Rattle.payload.specs.declared.Session.{Session}
use Rattle.payload.specs.declared.Settings.{Settings}
use Rattle.payload.specs.declared.kernel.Setup.{Setup}
use Rattle.payload.specs.declared.kernel.feeding.Fed.{Fed}
use Rattle.payload.specs.declared.kernel.opening.Opened.{Opened}
use Rattle.payload.specs.Refusals.{feed_judged}
use Rattle.payload.specs.Session.{background_for, blank_frame, ground_for}

abbrev pub setup_of : Session → Setup
setup_of s = let ground : Ground = s.ground in record { ground = ground; length = s.length; settings = s.settings }

-- the session of these parts
abbrev pub over : Setup → Life → Frame → Palette → Session
over u life f p =
    record { ground = u.ground; length = u.length; settings = u.settings; life = life; frame = f; palette = p }

-- the setup of a session that opens
unfoldable pub setup_for : Limits → ℕ → ℕ → Settings → Palette → Setup
unfolding ground_for
setup_for l stride size o p =
    record { ground = ground_for l stride size (background_for p o.p2); length = size; settings = o }

abbrev pub opened_over : Opened → Palette → session.Opened
opened_over x p = record { answer = x.answer; session = over x.setup x.life x.frame p }

-- the session at `q`, in its life before it
abbrev pub begun_over : Setup → Life → Palette → List ℕ → Session × List ℕ
begun_over u life p canvas = (over u life (blank_frame p) p, canvas)

-- the setup is as it was
abbrev pub fed_over : Setup → Fed → List ℕ → session.Fed
fed_over u x colors = record { answer = x.answer; session = over u x.life x.frame (of_table colors) }

abbrev pub finished_over : Finishing → List ℕ → Finished
finished_over a colors = record { answer = a; palette = of_table colors }

-- 9, 12 and 13 do not refuse
abbrev pub Passed : Setup → Life → Frame → ℕ → ℕ → Type 0
Passed u life f length allowance = (p : Palette) → Ok tt ≡ feed_judged (over u life f p) length allowance

-- the owner's palette after a finish: the session's where there is a picture
unfoldable pub handed_back : Finishing → Palette → Palette → Finished
handed_back (Ok r) owner after = record { answer = Ok r; palette = after }
handed_back (Err n) owner after = record { answer = Err n; palette = owner }
