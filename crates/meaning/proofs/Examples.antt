-- Worked examples (docs/RULES.md, section 12): the bench examples, the five slips, and what else a wrong reading would get wrong.
-- Each row has an input and what is said of its outcome; one test computes a whole table. `\u{90}` is the byte 90.
use mathlib.Core.Path.{◌≡◌, refl}
use mathlib.Core.Bool.{true}
use mathlib.Core.Option.{none, some}
use mathlib.Core.List.{List, [], ◌∷◌, ◌++◌, map}
use Rattle.meaning.specs.Payload.{by_raster, left_to_p1}
use Rattle.meaning.specs.Sessions.{complete, cancelled, interrupted}
use Rattle.meaning.specs.Calls.{needs_more, stopped_for_ink, ended, told, refused}
use Rattle.meaning.proofs.Trials.{Row, limited, on_canvas, row, under, partly, dcs, once, size, extent, up_to, ink, shows, ratio, transparent, opaque, defines, holding, declares, marked, unmarked, refusal, ends, goes_on, leaves, rows_hold, Calls, house_calls, calls, feeding, finishing, fed, sized, declined, heard, computed}

-- the bench examples, and the program's
bench : List Row
bench =
    row "" (size 1 1 ∷ extent 0 0 ∷ [])
    ∷ row "~-?" (size 1 12 ∷ ink 6 ∷ [])
    ∷ row "!5#1~" (size 5 6 ∷ shows 0 0 0x3333CCFF ∷ shows 4 5 0x3333CCFF ∷ ink 30 ∷ [])
    ∷ row "!0~" (size 1 6 ∷ [])
    ∷ row "!1\n2~" (size 12 6 ∷ [])
    ∷ row "#1;2;100;0~" (shows 0 0 0x3333CCFF ∷ [])
    ∷ row "#1;2;100;0;~" (shows 0 0 0xFF0000FF ∷ [])
    ∷ row "#300~" (shows 0 0 0xFFFFFFFF ∷ [])
    ∷ row "~#0;2;100;100;100-~" (shows 0 0 0x000000FF ∷ shows 0 6 0xFFFFFFFF ∷ [])
    ∷ row "\"2;1\"1;2" (ratio (left_to_p1 none) ∷ [])
    ∷ under (limited 8 768 8 786432) "!8~" (size 8 6 ∷ [])
    ∷ under (limited 8 768 8 786432) "!9~" (refusal 4 ∷ [])
    ∷ under (limited 8 768 1024 786432) "!9~" (refusal 5 ∷ [])
    ∷ under (limited 1024 12 1024 786432) "--~" (refusal 5 ∷ [])
    ∷ under (limited 1024 12 1024 786432) "--" (size 1 1 ∷ [])
    ∷ under (limited 8 12 1024 48) "!8~" (size 8 6 ∷ [])
    ∷ under (limited 8 12 1024 48) "!8~-?" (refusal 6 ∷ [])
    ∷ under (on_canvas 786432 4 6) "!5~" (refusal 7 ∷ [])
    ∷ row "#1;1;120;50;100~" (shows 0 0 0xFF0000FF ∷ [])
    ∷ row "#1;1;0;50;100~" (shows 0 0 0x0000FFFF ∷ [])
    ∷ dcs "\u{1b}Pq#1;2;100;0;0!2B\u{1b}\\"
    (ends complete
    ∷ leaves ""
    ∷ size 2 6
    ∷ extent 2 2
    ∷ ratio (left_to_p1 none)
    ∷ opaque
    ∷ ink 4
    ∷ shows 1 0 0xFF0000FF
    ∷ shows 1 1 0xFF0000FF
    ∷ shows 1 2 0x000000FF
    ∷ shows 1 5 0x000000FF
    ∷ [])
    ∷ []

-- the slips to rule out: the repeat spent at `$`, height from inked bands, the byte after a lone 1B consumed, the background
-- recoloured with register 0, `-` refused below H
slips : List Row
slips =
    row "!5$~" (size 5 6 ∷ ink 30 ∷ [])
    ∷ row "~-?" (size 1 12 ∷ extent 1 6 ∷ [])
    ∷ dcs "\u{1b}Pq~\u{1b}[m" (ends (interrupted 0x1B) ∷ leaves "[m" ∷ size 1 6 ∷ [])
    ∷ row "#0;2;100;0;0@" (shows 0 0 0xFF0000FF ∷ shows 0 1 0x000000FF ∷ [])
    ∷ under (limited 1024 12 1024 786432) "~---" (size 1 6 ∷ [])
    ∷ []

-- commands, and what ends, fills and outlives them
commands : List Row
commands =
    row "!5~~" (size 6 6 ∷ ink 36 ∷ [])
    ∷ row "!5!2~" (size 2 6 ∷ [])
    ∷ row "!5-~" (size 5 12 ∷ [])
    ∷ row "!5\"1;1~" (size 5 6 ∷ [])
    ∷ row "~!0~" (size 2 6 ∷ ink 12 ∷ [])
    ∷ row "!3;4~" (size 3 6 ∷ [])
    ∷ row "!1\u{a0}2~" (size 1 6 ∷ [])
    ∷ row "!1\u{7f}\u{19}2~" (size 12 6 ∷ [])
    ∷ row "~~$~" (size 2 6 ∷ ink 18 ∷ [])
    ∷ row "~~-~" (size 2 12 ∷ extent 2 12 ∷ [])
    ∷ row "!7?" (size 7 6 ∷ extent 0 0 ∷ ink 0 ∷ [])
    ∷ row "#1`" (shows 0 0 0x3333CCFF ∷ shows 0 1 0x000000FF ∷ shows 0 5 0x3333CCFF ∷ ink 2 ∷ [])
    ∷ row "~\u{18}~" (size 1 6 ∷ leaves "\u{18}~" ∷ [])
    ∷ row "!3\u{9f}~" (size 1 1 ∷ leaves "\u{9f}~" ∷ [])
    ∷ []

-- the extent: blank sixels do not count, and of a band only the rows down to the lowest that is painted; a refused sixel does not, and one
-- in the background's colour does, also where another is covered by it
extents : List Row
extents =
    row "@!40?" (size 41 6 ∷ extent 1 1 ∷ [])
    ∷ row "!40?@" (size 41 6 ∷ extent 41 1 ∷ [])
    ∷ row "_" (size 1 6 ∷ extent 1 6 ∷ ink 1 ∷ [])
    ∷ row "C" (extent 1 3 ∷ ink 1 ∷ [])
    ∷ row "D" (extent 1 3 ∷ ink 2 ∷ [])
    ∷ row "!3@" (size 3 6 ∷ extent 3 1 ∷ ink 3 ∷ [])
    ∷ row "!3@-A" (size 3 12 ∷ extent 3 8 ∷ [])
    ∷ row "-@" (size 1 12 ∷ extent 1 7 ∷ [])
    ∷ row "_$@" (extent 1 6 ∷ [])
    ∷ row "#0~" (extent 1 6 ∷ shows 0 5 0x000000FF ∷ ink 6 ∷ [])
    ∷ row "#1!3~$#0!3~" (extent 3 6 ∷ shows 2 5 0x000000FF ∷ ink 36 ∷ [])
    ∷ row "@\"1;1;9;9" (size 9 9 ∷ extent 1 1 ∷ [])
    ∷ under (limited 8 768 1024 786432) "@!9~" (refusal 5 ∷ up_to 1 1 ∷ [])
    ∷ under (limited 8 768 1024 786432) "!9~" (refusal 5 ∷ up_to 0 0 ∷ [])
    ∷ partly "A!5" (extent 1 2 ∷ [])
    ∷ once "A" (extent 1 2 ∷ [])
    ∷ dcs "\u{90}q???\u{9c}" (size 3 6 ∷ extent 0 0 ∷ ink 0 ∷ [])
    ∷ []

-- registers, and numbers that saturate
colours : List Row
colours =
    row "#256~" (shows 0 0 0xFFFFFFFF ∷ [])
    ∷ row "#1~#~" (shows 0 0 0x3333CCFF ∷ shows 1 0 0x000000FF ∷ [])
    ∷ row "#1;2;100;0;0;7~" (shows 0 0 0xFF0000FF ∷ [])
    ∷ row "#1;3;100;0;0~" (shows 0 0 0x3333CCFF ∷ [])
    ∷ row "#1;2;0;200;0~" (shows 0 0 0x00FF00FF ∷ [])
    ∷ row "#1~#1;2;100;0;0~" (shows 0 0 0x3333CCFF ∷ shows 1 0 0xFF0000FF ∷ [])
    ∷ row "#1;1;2147483647;50;100~" (shows 0 0 0xFF1E00FF ∷ [])
    ∷ row "#1;1;9999999999;50;100~" (shows 0 0 0xFF1E00FF ∷ [])
    ∷ []

-- which registers a frame defines: five values do, in space 1 or 2, and also in the colour that the register has; each register counts once
definitions : List Row
definitions =
    row "#1;2;100;0;0" (marked 1 ∷ unmarked 0 ∷ unmarked 2 ∷ unmarked 255 ∷ [])
    ∷ row "#1~" (unmarked 0 ∷ unmarked 1 ∷ [])
    ∷ row "#1;2;100;0" (unmarked 1 ∷ [])
    ∷ row "#1;3;1;1;1" (unmarked 1 ∷ [])
    ∷ row "#1;1;120;50;100" (marked 1 ∷ [])
    ∷ row "#300;2;1;1;1" (marked 255 ∷ marked 300 ∷ unmarked 44 ∷ [])
    ∷ row "#;2;1;1;1" (marked 0 ∷ unmarked 2 ∷ [])
    ∷ row "#1;2;20;20;80" (marked 1 ∷ [])
    ∷ row "#1;2;0;0;0;7" (marked 1 ∷ unmarked 7 ∷ [])
    ∷ row "#1;2;1;1;1!1025" (refusal 4 ∷ [])
    ∷ partly "#2;2;1;1;1#1;2;1;1;1" (marked 2 ∷ unmarked 1 ∷ [])
    ∷ dcs "\u{90}q#3;2;1;1;1\u{9c}#4;2;1;1;1" (marked 3 ∷ unmarked 4 ∷ [])
    ∷ once "#1~" (defines 0 ∷ [])
    ∷ once "#1;2;1;1;1#1;1;1;1;1" (defines 1 ∷ [])
    ∷ once "#7;2;1;1;1#2;2;1;1;1#7" (defines 2 ∷ [])
    ∷ []

-- ratios and raster sizes
rasters : List Row
rasters =
    row "\"4;2" (ratio (by_raster 2) ∷ size 1 1 ∷ [])
    ∷ row "\"0;0" (ratio (by_raster 1) ∷ [])
    ∷ row "\"10;2" (ratio (by_raster 5) ∷ [])
    ∷ row "\"4;1" (ratio (left_to_p1 none) ∷ [])
    ∷ row "\"3;2" (ratio (left_to_p1 none) ∷ [])
    ∷ row "\"3;1\"7" (ratio (by_raster 3) ∷ [])
    ∷ row "\"4294967294;2147483647" (ratio (by_raster 1) ∷ [])
    ∷ row "\"1;1;3;4" (size 3 4 ∷ extent 0 0 ∷ shows 2 3 0x000000FF ∷ [])
    ∷ row "\"1;1;3\"1;1;0;4" (size 3 4 ∷ [])
    ∷ row "\"1;1;3;4~" (size 3 6 ∷ [])
    ∷ under (limited 8 12 1024 48) "\"1;1;8;12" (refusal 6 ∷ [])
    ∷ under (limited 8 12 1024 48) "\"1;1;9;12" (refusal 5 ∷ [])
    ∷ under (on_canvas 24 4 6) "!5~" (refusal 6 ∷ [])
    ∷ []

-- the declared size: what rasters keep, a side at a time, and a pending one too at the end; whatever is drawn besides, and nothing of a
-- raster that is not read
declarations : List Row
declarations =
    row "" (declares 0 0 ∷ size 1 1 ∷ [])
    ∷ row "!5~" (declares 0 0 ∷ size 5 6 ∷ [])
    ∷ row "\"1;1;3;2" (declares 3 2 ∷ size 3 2 ∷ [])
    ∷ row "\"1;1;3;2~" (declares 3 2 ∷ size 3 6 ∷ [])
    ∷ row "\"1;1;3" (declares 3 0 ∷ size 3 1 ∷ [])
    ∷ row "\"1;1;;2" (declares 0 2 ∷ size 1 2 ∷ [])
    ∷ row "\"1;1" (declares 0 0 ∷ ratio (by_raster 1) ∷ [])
    ∷ row "\"1;1;2;2!5~" (declares 2 2 ∷ size 5 6 ∷ extent 5 6 ∷ [])
    ∷ row "\"1;1;9;8\"1;1;4;5" (declares 4 5 ∷ size 9 8 ∷ [])
    ∷ row "\"1;1;9;8\"1;1;4" (declares 4 8 ∷ size 9 8 ∷ [])
    ∷ row "\"1;1;9;8\"1;1;0;5" (declares 9 5 ∷ size 9 8 ∷ [])
    ∷ row "\"1;1;9;8\"2;1" (declares 9 8 ∷ ratio (by_raster 2) ∷ [])
    ∷ row "~~\"1;1;1;1" (declares 1 1 ∷ size 2 6 ∷ [])
    ∷ row "\"1;1;3;2\"1;1;1025;2" (refusal 5 ∷ [])
    ∷ partly "\"1;1;3;2" (declares 0 0 ∷ size 1 1 ∷ [])
    ∷ partly "\"1;1;3;2$" (declares 3 2 ∷ size 3 2 ∷ [])
    ∷ dcs "\u{90}q\"1;1;3;2\u{9c}\"1;1;4;4" (declares 3 2 ∷ size 3 2 ∷ [])
    ∷ once "text\u{90}q\"1;1;3;20!2~" (declares 3 20 ∷ size 3 20 ∷ [])
    ∷ []

-- definitions with a held value: each percent by itself, never the hue, and once however many are; each definition, and no other command; a
-- pending one at the end alone
held_values : List Row
held_values =
    row "" (holding 0 ∷ [])
    ∷ row "#1;2;100;100;100" (holding 0 ∷ defines 1 ∷ [])
    ∷ row "#1;2;101;0;0" (holding 1 ∷ defines 1 ∷ [])
    ∷ row "#1;2;0;101;0" (holding 1 ∷ [])
    ∷ row "#1;2;0;0;101@" (holding 1 ∷ shows 0 0 0x0000FFFF ∷ [])
    ∷ row "#1;2;255;255;255" (holding 1 ∷ defines 1 ∷ [])
    ∷ row "#1;2;99999999999;0;0" (holding 1 ∷ [])
    ∷ row "#1;1;361;50;100" (holding 0 ∷ defines 1 ∷ [])
    ∷ row "#1;1;0;100;100" (holding 0 ∷ [])
    ∷ row "#1;1;0;101;50" (holding 1 ∷ [])
    ∷ row "#1;1;0;50;101" (holding 1 ∷ [])
    ∷ row "#1;1;0;101;0@" (holding 1 ∷ shows 0 0 0xFFFFFFFF ∷ [])
    ∷ row "#1;2;101;0;0#1;2;101;0;0" (holding 2 ∷ defines 1 ∷ [])
    ∷ row "#1;2;101;0;0#1;2;100;0;0#2;1;0;0;200" (holding 2 ∷ defines 2 ∷ [])
    ∷ row "#300;2;101;0;0#255;2;101;0;0" (holding 2 ∷ defines 1 ∷ [])
    ∷ row "#1;2;101;101" (holding 0 ∷ defines 0 ∷ [])
    ∷ row "#1;3;101;101;101" (holding 0 ∷ defines 0 ∷ [])
    ∷ row "#1;0;101;101;101" (holding 0 ∷ [])
    ∷ row "#1;2;0;0;0;101" (holding 0 ∷ [])
    ∷ row "#101!101~\"101;101;101;101" (holding 0 ∷ [])
    ∷ partly "#1;2;101;0;0" (holding 0 ∷ [])
    ∷ partly "#1;2;101;0;0$" (holding 1 ∷ [])
    ∷ row "#1;2;101;0;0!1025~" (refusal 4 ∷ [])
    ∷ dcs "\u{90}q#1;2;101;0;0\u{9c}#1;2;101;0;0" (holding 1 ∷ ends complete ∷ [])
    ∷ once "#1;2;101;0;0\u{90}q#1;2;0;0;0#2;2;0;0;256" (holding 1 ∷ defines 2 ∷ [])
    ∷ []

-- what has been drawn once the bytes are read: a pending command is not yet carried out, and neither is its refusal; the byte that
-- ends it, or the payload, does both
pending : List Row
pending =
    partly "" (size 1 1 ∷ leaves "" ∷ [])
    ∷ partly "!8~$!8\"1;1;8;12" (size 8 6 ∷ ink 48 ∷ ratio (left_to_p1 none) ∷ leaves "" ∷ [])
    ∷ partly "!8~$!8\"1;1;8;12~" (size 8 12 ∷ ink 96 ∷ ratio (by_raster 1) ∷ leaves "" ∷ [])
    ∷ row "!8~$!8\"1;1;8;12" (size 8 12 ∷ ink 48 ∷ ratio (by_raster 1) ∷ leaves "" ∷ [])
    ∷ partly "\"1;1;3;4\n" (size 1 1 ∷ [])
    ∷ partly "\"1;1;3;4 " (size 3 4 ∷ [])
    ∷ partly "\"1;1;3;4\u{18}~" (size 3 4 ∷ leaves "\u{18}~" ∷ [])
    ∷ partly "~!1025" (size 1 6 ∷ ink 6 ∷ leaves "" ∷ [])
    ∷ partly "~!1025$" (refusal 4 ∷ ink 6 ∷ [])
    ∷ partly "~!1025\u{9c}" (refusal 4 ∷ ink 6 ∷ [])
    ∷ row "~!1025" (refusal 4 ∷ ink 6 ∷ [])
    ∷ []

-- introducer, header and ends of a DCS sequence
sequences : List Row
sequences =
    dcs "\u{90}q~\u{9c}X" (ends complete ∷ leaves "X" ∷ size 1 6 ∷ ratio (left_to_p1 none) ∷ opaque ∷ [])
    ∷ dcs "\u{90}q~\u{18}X" (ends (cancelled 0x18) ∷ leaves "X" ∷ size 1 6 ∷ [])
    ∷ dcs "\u{90}q~\u{1a}X" (ends (cancelled 0x1A) ∷ leaves "X" ∷ [])
    ∷ dcs "\u{90}q~\u{85}X" (ends (interrupted 0x85) ∷ leaves "\u{85}X" ∷ size 1 6 ∷ [])
    ∷ dcs "\u{90}q~\u{1b}\0\\" (ends (interrupted 0x1B) ∷ leaves "\0\\" ∷ [])
    ∷ dcs "\u{90}q~\u{1b}" (goes_on ∷ leaves "" ∷ refusal 8 ∷ [])
    -- the byte after that 1B is no end of its own
    ∷ dcs "\u{90}q~\u{1b}\u{9c}" (ends (interrupted 0x1B) ∷ leaves "\u{9c}" ∷ size 1 6 ∷ [])
    ∷ dcs "\u{90}q~\u{1b}\u{1b}\\" (ends (interrupted 0x1B) ∷ leaves "\u{1b}\\" ∷ [])
    -- the first and the last C1 byte, and an introducer within the payload
    ∷ dcs "\u{90}q~\u{80}" (ends (interrupted 0x80) ∷ leaves "\u{80}" ∷ [])
    ∷ dcs "\u{90}q~\u{9f}X" (ends (interrupted 0x9F) ∷ leaves "\u{9f}X" ∷ [])
    ∷ dcs "\u{1b}Pq~\u{90}q~\u{9c}" (ends (interrupted 0x90) ∷ leaves "\u{90}q~\u{9c}" ∷ size 1 6 ∷ [])
    -- after an end nothing is read, whatever comes
    ∷ dcs "\u{90}q~\u{9c}\u{90}q~~\u{9c}" (ends complete ∷ leaves "\u{90}q~~\u{9c}" ∷ size 1 6 ∷ ink 6 ∷ [])
    ∷ dcs "\u{1b}Pq~\u{1b}\\\u{1b}\\" (ends complete ∷ leaves "\u{1b}\\" ∷ size 1 6 ∷ [])
    ∷ dcs "\u{90}q~\u{18}\u{9c}" (ends (cancelled 0x18) ∷ leaves "\u{9c}" ∷ [])
    ∷ dcs "\u{90}q\u{9c}" (ends complete ∷ leaves "" ∷ size 1 1 ∷ ink 0 ∷ [])
    -- before its end, or before its payload, all is read
    ∷ dcs "" (goes_on ∷ leaves "" ∷ refusal 8 ∷ [])
    ∷ dcs "\u{1b}" (goes_on ∷ leaves "" ∷ refusal 8 ∷ [])
    ∷ dcs "\u{1b}P1;2" (goes_on ∷ leaves "" ∷ refusal 8 ∷ ink 0 ∷ [])
    ∷ dcs "\u{90}q" (goes_on ∷ leaves "" ∷ refusal 8 ∷ shows 0 0 0x000000FF ∷ [])
    ∷ dcs "\u{90}q~!1025" (goes_on ∷ leaves "" ∷ refusal 8 ∷ ink 6 ∷ [])
    ∷ dcs "\u{90}q!5\u{9c}~" (ends complete ∷ leaves "~" ∷ size 1 1 ∷ [])
    ∷ dcs "\u{90}q!1025\u{9c}" (refusal 4 ∷ [])
    ∷ dcs "\u{90}7;1;5q@\u{9c}" (ratio (left_to_p1 (some 7)) ∷ transparent ∷ shows 0 0 0x000000FF ∷ shows 0 1 0 ∷ [])
    ∷ dcs "\u{90}7;2q@\u{9c}" (opaque ∷ shows 0 1 0x000000FF ∷ [])
    ∷ dcs "\u{90};q\u{9c}" (ratio (left_to_p1 (some 0)) ∷ opaque ∷ [])
    ∷ dcs "\u{90}1\u{7}2;65537q\"2;1\u{9c}" (ratio (by_raster 2) ∷ opaque ∷ [])
    ∷ dcs "\u{90}1\u{7}2;1;3;4q\u{9c}" (ratio (left_to_p1 (some 12)) ∷ transparent ∷ [])
    ∷ dcs "\u{90}99999q\u{9c}" (ratio (left_to_p1 (some 65535)) ∷ [])
    ∷ dcs "~" (refusal 1 ∷ [])
    ∷ dcs "\u{7}\u{90}q" (refusal 1 ∷ [])
    ∷ dcs "\u{1b}\0P" (refusal 1 ∷ [])
    ∷ dcs "\u{90}1\u{18}" (refusal 2 ∷ [])
    ∷ dcs "\u{90}1x" (refusal 3 ∷ [])
    ∷ []

-- inputs read at once, with the part handed back
shots : List Row
shots =
    once "!2~" (size 2 6 ∷ leaves "!2~" ∷ [])
    ∷ once "text\u{1b}[m\u{1b}P9;1q~\u{1b}\\" (size 1 6 ∷ ratio (left_to_p1 (some 9)) ∷ transparent ∷ leaves "~\u{1b}\\" ∷ [])
    ∷ once "\u{90}q~\u{1b}Pq~~" (size 1 6 ∷ leaves "~\u{1b}Pq~~" ∷ [])
    ∷ once "~\u{90}1;" (refusal 8 ∷ leaves "" ∷ [])
    ∷ once "\u{90}\u{1b}q" (refusal 2 ∷ leaves "" ∷ [])
    ∷ once "\u{90}1 q" (refusal 3 ∷ leaves "" ∷ [])
    ∷ once "\u{90}q!1025~" (refusal 4 ∷ leaves "!1025~" ∷ [])
    ∷ []

-- rules 12.1, 12.2: all of them
pub table : List Row
unfolding bench slips commands extents colours definitions rasters declarations held_values pending sequences shots
table =
    bench
    ++ (slips ++ (commands ++ (extents ++ (colours ++ (definitions ++ (rasters ++ (declarations ++ (held_values ++ (pending ++ (sequences ++ shots))))))))))

-- the bench examples and all the others are read as their rows say
pub table-holds : rows_hold table ≡ true
unfolding computed rows_hold table
table-holds = refl

-- ---- calls

-- rule 12.1: callers, and what each of their calls is told
pub call_table : List Calls
call_table =
    -- the bench examples': a stop for ink and the sixel that it left unread; an allowance below 6W
    house_calls (feeding 3145728 48 "!8~$!8~" ∷ feeding 3145728 48 "~" ∷ finishing 3145728 ∷ [])
    (fed (told 6 48 stopped_for_ink) ∷ fed (told 1 48 needs_more) ∷ sized 8 6 ∷ [])
    ∷ house_calls (feeding 3145728 47 "!8~$!8~" ∷ []) (fed (refused 13) ∷ [])
    -- with nothing left of the allowance a blank sixel is read, and a sixel beyond W is refused
    ∷ calls 8 (feeding 384 48 "!8~$?~" ∷ []) (fed (told 5 48 stopped_for_ink) ∷ [])
    ∷ calls 8 (feeding 384 48 "!8~~" ∷ []) (fed (refused 5) ∷ [])
    -- the command pending before a stop has ended
    ∷ calls 8 (feeding 384 48 "!8~$!4~" ∷ feeding 384 48 "3~" ∷ []) (fed (told 6 48 stopped_for_ink) ∷ fed (told 2 24 needs_more) ∷ [])
    -- 13, and 12 before it, leave the session as it was
    ∷ calls 8 (feeding 384 47 "~" ∷ feeding 380 47 "~" ∷ feeding 384 48 "~" ∷ finishing 380 ∷ finishing 384 ∷ [])
    (fed (refused 13) ∷ fed (refused 12) ∷ fed (told 1 6 needs_more) ∷ declined 12 ∷ sized 1 6 ∷ [])
    -- a failed session is 9 before all else
    ∷ calls 8 (feeding 384 48 "!9~" ∷ feeding 380 47 "" ∷ finishing 380 ∷ []) (fed (refused 4) ∷ fed (refused 9) ∷ declined 9 ∷ [])
    -- an ended one repeats its status, after 13
    ∷ calls 8 (feeding 384 48 "~\u{1b}~" ∷ feeding 384 47 "~" ∷ feeding 384 48 "~" ∷ feeding 384 48 "" ∷ finishing 384 ∷ [])
    (fed (told 1 6 (ended 0x1B)) ∷ fed (refused 13) ∷ fed (told 0 0 (ended 0x1B)) ∷ fed (told 0 0 (ended 0x1B)) ∷ sized 1 6 ∷ [])
    -- a number in pieces; finish carries the pending command out
    ∷ calls 8 (feeding 384 48 "!" ∷ feeding 384 48 "" ∷ feeding 384 48 "5" ∷ feeding 384 48 "~!9" ∷ finishing 384 ∷ [])
    (fed (told 1 0 needs_more) ∷ fed (told 0 0 needs_more) ∷ fed (told 1 0 needs_more) ∷ fed (told 3 30 needs_more) ∷ declined 4 ∷ [])
    ∷ calls 8 (feeding 384 48 "\"1;1;8;12" ∷ finishing 384 ∷ []) (fed (told 9 0 needs_more) ∷ sized 8 12 ∷ [])
    -- W 0 opens no session
    ∷ calls 0 [] (declined 11 ∷ [])
    ∷ []

-- every caller hears what its row says
pub call-table-holds : map heard call_table ≡ map (λ (c : Calls). c.hears) call_table
unfolding computed heard call_table
call-table-holds = refl
