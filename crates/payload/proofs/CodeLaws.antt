-- What the functions over numbers in memory come to: one law for each of them.
use Rattle.std.specs.Prelude.{◌≡◌, ℕ, List, [], ◌∷◌, get_or}
use mathlib.Core.Path.{refl, sym, ap, ◌∙◌}
use Rattle.numbers.specs.declared.Parameters.{Parameters}
use Rattle.numbers.specs.Memory as parameters
use Rattle.frame.specs.declared.Command.{Command}
use Rattle.frame.specs.declared.Extent.{Extent}
use Rattle.frame.specs.declared.Frame.{Frame}
use Rattle.frame.specs.declared.Ground.{Ground}
use Rattle.frame.specs.declared.Kind.{Kind}
use Rattle.frame.specs.declared.Pen.{Pen}
use Rattle.frame.specs.declared.Raster.{Raster}
use Rattle.frame.specs.declared.VisibleArea.{VisibleArea}
use Rattle.payload.specs.Results.{Given}
use Rattle.payload.specs.declared.Life.{Life}
use Rattle.payload.specs.declared.Session.{Session}
use Rattle.payload.specs.declared.Settings.{Settings}
use Rattle.payload.specs.declared.kernel.Setup.{Setup}
use Rattle.payload.specs.Codes.{given_number, given_from, life_number, kind_number, kind_from, color_number, color_from}
use Rattle.payload.specs.Memory.{ground_numbers, pen_numbers, area_numbers, extent_numbers, raster_numbers, command_numbers, frame_numbers, own_numbers, numbers_of, ground_from, settings_from, pen_from, area_from, extent_from, raster_from, nine_from, command_from, frame_from, setup_from}

-- ---- one number each

pub given-as : {r : ℕ} {x other : Given} → x ≡ other → r ≡ given_number other → r ≡ given_number x
given-as e k = k ∙ ap given_number (sym e)

pub life-as : {r : ℕ} {x other : Life} → x ≡ other → r ≡ life_number other → r ≡ life_number x
life-as e k = k ∙ ap life_number (sym e)

pub kind-as : {r : ℕ} {x other : Kind} → x ≡ other → r ≡ kind_number other → r ≡ kind_number x
kind-as e k = k ∙ ap kind_number (sym e)

pub ruleset codes_as = (given-as, life-as, kind-as)

-- ---- a session told

pub numbers-told : (s : Session) {l vs : List ℕ} {background p1 p2 life color kind : ℕ}
    → vs ≡ parameters.numbers_of s.frame.command.parameters
    → background ≡ color_number s.ground.background
    → p1 ≡ given_number s.settings.p1
    → p2 ≡ given_number s.settings.p2
    → life ≡ life_number s.life
    → color ≡ color_number s.frame.pen.color
    → kind ≡ kind_number s.frame.command.kind
    → l
    ≡ s.ground.limits.width
    ∷ s.ground.limits.height
    ∷ s.ground.limits.repeats
    ∷ s.ground.limits.pixels
    ∷ s.ground.stride
    ∷ s.ground.rows
    ∷ background
    ∷ s.length
    ∷ p1
    ∷ p2
    ∷ life
    ∷ s.frame.pen.column
    ∷ s.frame.pen.row
    ∷ s.frame.pen.repeat
    ∷ s.frame.pen.register
    ∷ color
    ∷ s.frame.area.width
    ∷ s.frame.area.height
    ∷ s.frame.extent.right
    ∷ s.frame.extent.bottom
    ∷ s.frame.raster.ratio
    ∷ s.frame.raster.width
    ∷ s.frame.raster.height
    ∷ kind
    ∷ s.frame.command.number
    ∷ get_or vs 0 0
    ∷ get_or vs 1 0
    ∷ get_or vs 2 0
    ∷ get_or vs 3 0
    ∷ get_or vs 4 0
    ∷ get_or vs 5 0
    ∷ get_or vs 6 0
    ∷ get_or vs 7 0
    ∷ get_or vs 8 0
    ∷ 0 ∷ 0 ∷ 0 ∷ 0 ∷ 0 ∷ 0 ∷ 0 ∷ 0 ∷ 0 ∷ 0 ∷ s.frame.held ∷ 0 ∷ 0 ∷ 0 ∷ []
    → l ≡ numbers_of s
unfolding numbers_of own_numbers ground_numbers frame_numbers pen_numbers area_numbers extent_numbers raster_numbers command_numbers parameters.numbers_of
numbers-told s ev eb e1 e2 el ec ek e = e ∙ rw (ev, eb, e1, e2, el, ec, ek) refl

-- ---- parts read

pub ground-of : (ns : List ℕ) {px : List ℕ} → px ≡ color_from (get_or ns 6 0)
    → ◌≡◌ {A = Ground}
    (record {
      limits = record { width = get_or ns 0 0; height = get_or ns 1 0; repeats = get_or ns 2 0; pixels = get_or ns 3 0 };
      stride = get_or ns 4 0;
      rows = get_or ns 5 0;
      background = px;
    })
    (ground_from ns)
unfolding ground_from
ground-of ns e = rw e refl

pub settings-of : (ns : List ℕ) {p q : Given} → p ≡ given_from (get_or ns 8 0) → q ≡ given_from (get_or ns 9 0)
    → ◌≡◌ {A = Settings} (record { p1 = p; p2 = q }) (settings_from ns)
unfolding settings_from
settings-of ns e f = rw (e, f) refl

pub pen-of : (ns : List ℕ) {px : List ℕ} → px ≡ color_from (get_or ns 15 0)
    → ◌≡◌ {A = Pen} (record { column = get_or ns 11 0; row = get_or ns 12 0; repeat = get_or ns 13 0; register = get_or ns 14 0; color = px }) (pen_from ns)
unfolding pen_from
pen-of ns e = rw e refl

pub command-of : (ns : List ℕ) {k : Kind} {p : Parameters} → k ≡ kind_from (get_or ns 23 0) → p ≡ parameters.parameters_from (nine_from ns 25)
    → ◌≡◌ {A = Command} (record { kind = k; number = get_or ns 24 0; parameters = p }) (command_from ns)
unfolding command_from
command-of ns e f = rw (e, f) refl

pub setup-of : (ns : List ℕ) {g : Ground} {o : Settings} → g ≡ ground_from ns → o ≡ settings_from ns
    → ◌≡◌ {A = Setup} (record { ground = g; length = get_or ns 7 0; settings = o }) (setup_from ns)
unfolding setup_from
setup-of ns eg eo = rw (eg, eo) refl

pub frame-of : (ns : List ℕ) {p : Pen} {a : VisibleArea} {e : Extent} {r : Raster} {c : Command}
    → p ≡ pen_from ns → a ≡ area_from ns → e ≡ extent_from ns → r ≡ raster_from ns → c ≡ command_from ns
    → ◌≡◌ {A = Frame} (record { pen = p; area = a; extent = e; raster = r; held = get_or ns 44 0; command = c }) (frame_from ns)
unfolding frame_from
frame-of ns ep ea ee er ec = rw (ep, ea, ee, er, ec) refl

pub ruleset read_back = (ground-of, settings-of, pen-of, command-of, setup-of, frame-of)
