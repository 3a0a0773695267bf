-- Worked examples of what is told of a refusal (docs/RULES.md, rules 5.9 and 5.10): its number, its place and what was needed.
-- Each row has a call and what is told of it; one test computes the whole table. `\u{90}` is the byte 90.
use Prim.Native.Nat.{ℕ, ◌+◌, ◌*◌}
use Prim.Native.String.{String}
use mathlib.Core.Bool.{true, false}
use mathlib.Core.Option.{Option, none, some}
use mathlib.Core.List.{List, [], ◌∷◌, ◌++◌, map}
use mathlib.Core.Path.{◌≡◌, refl}
use Rattle.colours.specs.Palette.{standard}
use Rattle.meaning.specs.Payload.{no_parameters}
use Rattle.meaning.specs.Drawing.{Limits, house_limits}
use Rattle.meaning.specs.Reader.{is_refused}
use Rattle.meaning.specs.Sessions.{Reading, Phase, dcs_rested}
use Rattle.meaning.specs.Calls.{Session, Opened, is_open, not_opened, open_payload, open_dcs, feed_payload, feed_dcs, visible_area}
use Rattle.meaning.specs.Tellings.{Thing, repeats, columns, rows, pixels, Telling, placeless, payload_feed_telling, payload_finish_telling, dcs_feed_telling, dcs_finish_telling, read_telling}
use Rattle.meaning.proofs.Trials.{bytes, computed}

-- ---- rows

-- some bytes, and the allowance that they are fed with
pub record Piece : Type 0 where
  pub allowance : ℕ
  pub text : String

-- the call that is told of: a reading all at once; a feed or a finish of a payload or a DCS session, after earlier feeds; a feed on a canvas of
-- so many bytes more than at the opening
pub data Asked : Type 0 where
  at_once : String → Asked
  payload_feed dcs_feed : List Piece → Piece → Asked
  payload_finish dcs_finish : List Piece → Asked
  payload_feed_on dcs_feed_on : ℕ → Piece → Asked

-- limits, the canvas's stride and rows, the call, and what is told
pub record Row : Type 0 where
  pub limits : Limits
  pub stride : ℕ
  pub canvas_rows : ℕ
  pub asked : Asked
  pub told : Option Telling

-- W, H, R and M, on a canvas of 1,024 x 768
abbrev limited : ℕ → ℕ → ℕ → ℕ → Asked → Option Telling → Row
limited w h r m asked told =
    record {
      limits = record { width = w; height = h; repeats = r; pixels = m };
      stride = 1024;
      canvas_rows = 768;
      asked = asked;
      told = told;
    }

-- house limits, on a canvas of another stride and other rows
abbrev on_canvas : ℕ → ℕ → Asked → Option Telling → Row
on_canvas stride n asked told = record { limits = house_limits; stride = stride; canvas_rows = n; asked = asked; told = told }

-- W 8, H 12, R 8 and M 96
abbrev small : Asked → Option Telling → Row
small = limited 8 12 8 96

-- the same with R 1,024
abbrev narrow : Asked → Option Telling → Row
narrow = limited 8 12 1024 96

abbrev house : Asked → Option Telling → Row
house = on_canvas 1024 768

abbrev fed : ℕ → String → Piece
fed a t = record { allowance = a; text = t }

-- nothing; a number alone; a number and its place; and with so much of a thing, so much being allowed; or with more than so much
abbrev nothing : Option Telling
nothing = none

abbrev number : ℕ → Option Telling
number n = some (record { number = n; place = none; need = none })

abbrev at : ℕ → ℕ → Option Telling
at n place = some (record { number = n; place = some place; need = none })

abbrev short : ℕ → ℕ → Thing → ℕ → ℕ → Option Telling
short n place t needed allowed =
    some (record { number = n; place = some place; need = some (record { thing = t; needed = needed; more = false; allowed = allowed }) })

abbrev above : ℕ → ℕ → Thing → ℕ → ℕ → Option Telling
above n place t needed allowed =
    some (record { number = n; place = some place; need = some (record { thing = t; needed = needed; more = true; allowed = allowed }) })

-- ---- what the definition tells of a row

-- a payload session after earlier feeds, on the canvas of the opening
unfoldable payload_after : Session Reading → List Piece → Session Reading
unfolding bytes
payload_after s [] = s
payload_after s (p ∷ ps) = payload_after (feed_payload s s.length p.allowance (bytes p.text)).session ps

unfoldable dcs_after : Session Phase → List Piece → Session Phase
unfolding bytes
dcs_after s [] = s
dcs_after s (p ∷ ps) = dcs_after (feed_dcs standard s s.length p.allowance (bytes p.text)).session ps

-- of an opened session; a refused opening is told, so that no row that expects nothing holds for want of a session
unfoldable of_opened : {S : Type 0} → Opened S → (Session S → Option Telling) → Option Telling
unfolding placeless
of_opened (is_open s) tell = tell s
of_opened (not_opened n) tell = some (placeless n)

unfoldable of_payload : Row → (Session Reading → Option Telling) → Option Telling
unfolding of_opened
of_payload w tell = of_opened (open_payload w.limits w.stride (4 * w.stride * w.canvas_rows) no_parameters standard) tell

unfoldable of_dcs : Row → (Session Phase → Option Telling) → Option Telling
unfolding of_opened
of_dcs w tell = of_opened (open_dcs w.limits w.stride (4 * w.stride * w.canvas_rows)) tell

unfoldable telling_for : Row → Asked → Option Telling
unfolding of_payload of_dcs payload_after dcs_after bytes
telling_for w (at_once t) = read_telling w.limits w.stride (4 * w.stride * w.canvas_rows) standard (bytes t)
telling_for w (payload_feed before p) =
    of_payload w (λ s. payload_feed_telling (payload_after s before) s.length p.allowance (bytes p.text))
telling_for w (dcs_feed before p) = of_dcs w (λ s. dcs_feed_telling standard (dcs_after s before) s.length p.allowance (bytes p.text))
telling_for w (payload_finish before) = of_payload w (λ s. payload_finish_telling (payload_after s before) s.length)
telling_for w (dcs_finish before) = of_dcs w (λ s. dcs_finish_telling (dcs_after s before) s.length)
telling_for w (payload_feed_on more p) = of_payload w (λ s. payload_feed_telling s (s.length + more) p.allowance (bytes p.text))
telling_for w (dcs_feed_on more p) = of_dcs w (λ s. dcs_feed_telling standard s (s.length + more) p.allowance (bytes p.text))

unfoldable pub telling_of : Row → Option Telling
unfolding telling_for
telling_of w = telling_for w w.asked

-- ---- the table

-- sixels, rasters and repeats, read at once: the place is that of the sixel, or of the byte that ends the command
commands : List Row
commands =
    small (at_once "!9~") (short 4 2 repeats 9 8)
    ∷ narrow (at_once "!9~") (short 5 2 columns 9 8)
    ∷ narrow (at_once "--~") (short 5 2 rows 18 12)
    ∷ limited 8 12 1024 48 (at_once "!8~-?") (short 6 4 pixels 96 48)
    ∷ on_canvas 4 6 (at_once "!5~") (short 7 2 columns 5 4)
    ∷ on_canvas 4 6 (at_once "-~") (short 7 1 rows 12 6)
    -- the need is that of all columns up to the sixel's last
    ∷ narrow (at_once "~~~~~!4~") (short 5 7 columns 9 8)
    ∷ narrow (at_once "\"1;1;9;2~") (short 5 8 columns 9 8)
    ∷ narrow (at_once "\"1;1;;13 ~") (short 5 8 rows 13 12)
    ∷ limited 8 12 1024 48 (at_once "!8~\"1;1;1;12$") (short 6 12 pixels 96 48)
    -- the command before it is good, and the sixel itself is refused
    ∷ narrow (at_once "~!8~") (short 5 3 columns 9 8)
    ∷ narrow (at_once "!8~\"1;1;2;2~") (short 5 11 columns 9 8)
    -- of two sides the columns
    ∷ narrow (at_once "\"1;1;9;13~") (short 5 9 columns 9 8)
    ∷ on_canvas 4 6 (at_once "-!5~") (short 7 3 columns 5 4)
    -- a skipped byte ends nothing
    ∷ small (at_once "!9\n~") (short 4 3 repeats 9 8)
    -- the first that is refused
    ∷ small (at_once "!9~!10~") (short 4 2 repeats 9 8)
    ∷ []

-- the pending command, and the end of the input
ends : List Row
ends =
    narrow (at_once "\"1;1;9;2") (short 5 8 columns 9 8)
    ∷ small (at_once "!9") (short 4 2 repeats 9 8)
    ∷ small (at_once "\u{1b}Pq!9\u{1b}\\") (short 4 5 repeats 9 8)
    ∷ small (at_once "\u{1b}Pq!9") (short 4 5 repeats 9 8)
    ∷ house (at_once "") nothing
    ∷ house (at_once "!8~") nothing
    ∷ house (at_once "\u{1b}P1;2q!8~\u{1b}\\") nothing
    -- what comes after the end is not read
    ∷ small (at_once "~\u{1b}!9~") nothing
    ∷ []

-- numbers that no setting allows
numbers : List Row
numbers =
    small (at_once "!9999999999999~") (above 4 14 repeats 1000000000000 8)
    ∷ small (at_once "!1000000000001~") (above 4 14 repeats 1000000000000 8)
    ∷ small (at_once "!1000000000000~") (short 4 14 repeats 1000000000000 8)
    ∷ house (at_once "\"1;1;2147483647;1~") (above 5 17 columns 1000000 1024)
    ∷ house (at_once "\"1;1;1000001;1~") (above 5 14 columns 1000000 1024)
    ∷ house (at_once "\"1;1;1000000;1~") (short 5 14 columns 1000000 1024)
    ∷ house (at_once "\"1;1;1;1000001~") (above 5 14 rows 1000000 768)
    -- a sixel's sum of columns too
    ∷ limited 1000000 12 1000000000000 96 (at_once "~!999999~") (short 6 8 pixels 6000000 96)
    ∷ limited 1000000 12 1000000000000 96 (at_once "~!1000000~") (above 5 9 columns 1000000 1000000)
    -- the largest area that W and H allow is M's ceiling, and no more
    ∷ limited 1000000 1000000 1024 48 (at_once "\"1;1;1000000;1000000~") (short 6 20 pixels 1000000000000 48)
    ∷ []

-- introducer, header and opening
headers : List Row
headers =
    house (at_once "ab\u{1b}P1;2~") (at 3 7)
    ∷ house (at_once "\u{1b}P1\u{18}") (at 2 3)
    ∷ house (at_once "\u{1b}P1") (at 8 3)
    ∷ house (at_once "ab\u{90}") (at 8 3)
    -- the place is the input's, and not the part's
    ∷ small (at_once "ab\u{90}1;2q!9~") (short 4 9 repeats 9 8)
    ∷ small (at_once "ab\u{90}1;2q!9") (short 4 9 repeats 9 8)
    ∷ limited 0 12 8 96 (at_once "!9~") (number 11)
    ∷ limited 8 12 0 96 (at_once "!9~") (number 11)
    ∷ on_canvas 4 0 (at_once "!9~") (number 11)
    ∷ []

-- a payload session's calls: the place is counted from the start of what the call is given
payloads : List Row
payloads =
    small (payload_feed [] (fed 48 "!9~")) (short 4 2 repeats 9 8)
    ∷ small (payload_feed [] (fed 48 "~")) nothing
    -- a call that stops before the refused byte is not refused
    ∷ small (payload_feed [] (fed 48 "!8~$~!9~")) nothing
    ∷ small (payload_feed [] (fed 54 "!8~$~!9~")) (short 4 7 repeats 9 8)
    -- but a refused sixel is refused, whatever is left
    ∷ small (payload_feed [] (fed 48 "!8~~")) (short 5 3 columns 9 8)
    ∷ small (payload_feed [] (fed 47 "!9~")) (number 13)
    ∷ small (payload_feed_on 4 (fed 48 "!9~")) (number 12)
    ∷ small (payload_feed (fed 48 "~~~~~" ∷ []) (fed 48 "!4~")) (short 5 2 columns 9 8)
    ∷ small (payload_feed (fed 48 "~!" ∷ []) (fed 48 "9~")) (short 4 1 repeats 9 8)
    ∷ small (payload_feed (fed 48 "~!9" ∷ []) (fed 48 "~")) (short 4 0 repeats 9 8)
    ∷ small (payload_feed (fed 48 "!9~" ∷ []) (fed 48 "~")) (number 9)
    ∷ small (payload_feed (fed 48 "~\u{1b}" ∷ []) (fed 48 "!9~")) nothing
    ∷ small (payload_finish (fed 48 "~!9" ∷ [])) (short 4 0 repeats 9 8)
    ∷ narrow (payload_finish (fed 48 "\"1;1;9;2" ∷ [])) (short 5 0 columns 9 8)
    ∷ small (payload_finish (fed 48 "~!8" ∷ [])) nothing
    ∷ small (payload_finish (fed 48 "!9~" ∷ [])) (number 9)
    ∷ []

-- a DCS session's calls
sequences : List Row
sequences =
    small (dcs_feed [] (fed 48 "~")) (at 1 0)
    ∷ small (dcs_feed [] (fed 48 "\u{1b}[")) (at 1 1)
    ∷ small (dcs_feed (fed 48 "\u{1b}" ∷ []) (fed 48 "[")) (at 1 0)
    ∷ small (dcs_feed [] (fed 48 "\u{90}1\u{9c}")) (at 2 2)
    ∷ small (dcs_feed [] (fed 48 "\u{1b}P1;2~")) (at 3 5)
    -- the header counts
    ∷ small (dcs_feed [] (fed 48 "\u{90}1q!9~")) (short 4 5 repeats 9 8)
    ∷ small (dcs_feed (fed 48 "\u{90}1" ∷ []) (fed 48 "q!9~")) (short 4 3 repeats 9 8)
    ∷ small (dcs_feed (fed 48 "\u{90}1q" ∷ []) (fed 48 "!9\u{1b}")) (short 4 2 repeats 9 8)
    ∷ small (dcs_feed [] (fed 48 "\u{90}q~\u{9c}!9~")) nothing
    ∷ small (dcs_feed (fed 48 "\u{90}q~\u{9c}" ∷ []) (fed 48 "!9~")) nothing
    ∷ small (dcs_feed [] (fed 47 "~")) (number 13)
    ∷ small (dcs_feed_on 4 (fed 48 "~")) (number 12)
    ∷ small (dcs_finish (fed 48 "\u{90}q!9" ∷ [])) (at 8 0)
    ∷ small (dcs_finish []) (at 8 0)
    ∷ small (dcs_finish (fed 48 "~" ∷ [])) (number 9)
    ∷ small (dcs_finish (fed 48 "\u{90}q~\u{9c}" ∷ [])) nothing
    ∷ []

-- rules 5.9, 5.10: all of them
pub table : List Row
unfolding commands ends numbers headers payloads sequences
table = commands ++ (ends ++ (numbers ++ (headers ++ (payloads ++ sequences))))

-- what is told of every call is what its row says
pub tellings-hold : map telling_of table ≡ map (λ (w : Row). w.told) table
unfolding computed telling_of table read_telling payload_feed_telling payload_finish_telling dcs_feed_telling dcs_finish_telling open_dcs feed_dcs
    is_refused dcs_rested visible_area
tellings-hold = refl
