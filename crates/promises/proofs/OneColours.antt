-- Only one outcome, of every public function of `colours` (One.antt).
use mathlib.Core.Path.{ap₂}
use mathlib.Core.List.{List}
use Prim.Native.Nat.{ℕ}
use Rattle.colours.proofs.pack_rgb.Reads as pack-rgb
use Rattle.colours.proofs.pack_rgb.Kinds as pack-rgb'
use Rattle.colours.proofs.pixel.Reads as pixel
use Rattle.colours.proofs.pixel.Kinds as pixel'
use Rattle.colours.proofs.rgb_bytes.Reads as rgb-bytes
use Rattle.colours.proofs.rgb_bytes.Kinds as rgb-bytes'
use Rattle.colours.proofs.define_rgb.Reads as define-rgb
use Rattle.colours.proofs.define_rgb.Kinds as define-rgb'
use Rattle.colours.proofs.define_hls.Reads as define-hls
use Rattle.colours.proofs.define_hls.Kinds as define-hls'
use Rattle.colours.proofs.Palette.standard.Reads as palette-standard
use Rattle.colours.proofs.Palette.standard.Kinds as palette-standard'
use Rattle.colours.proofs.Palette.reset.Reads as palette-reset
use Rattle.colours.proofs.Palette.reset.Kinds as palette-reset'
use Rattle.colours.proofs.Palette.register.Reads as palette-register
use Rattle.colours.proofs.Palette.register.Kinds as palette-register'
use Rattle.colours.proofs.Palette.set_rgb_percent.Reads as palette-set-rgb-percent
use Rattle.colours.proofs.Palette.set_rgb_percent.Kinds as palette-set-rgb-percent'
use Rattle.colours.proofs.Palette.set_hls.Reads as palette-set-hls
use Rattle.colours.proofs.Palette.set_hls.Kinds as palette-set-hls'
use Rattle.colours.proofs.Palette.table.Reads as palette-table
use Rattle.colours.proofs.Palette.table.Kinds as palette-table'
use Rattle.colours.proofs.Palette.of_table.Reads as palette-of-table
use Rattle.colours.proofs.Palette.of_table.Kinds as palette-of-table'
use Rattle.colours.proofs.marks.is_marked.Reads as marks-is-marked
use Rattle.colours.proofs.marks.is_marked.Kinds as marks-is-marked'
use Rattle.colours.proofs.marks.begin.Reads as marks-begin
use Rattle.colours.proofs.marks.begin.Kinds as marks-begin'
use Rattle.colours.proofs.marks.hand_on.Reads as marks-hand-on
use Rattle.colours.proofs.marks.hand_on.Kinds as marks-hand-on'
use Rattle.colours.proofs.Palette.is_marked.Reads as palette-is-marked
use Rattle.colours.proofs.Palette.is_marked.Kinds as palette-is-marked'
use Rattle.colours.proofs.Palette.lasting.Reads as palette-lasting
use Rattle.colours.proofs.Palette.lasting.Kinds as palette-lasting'
use Rattle.promises.proofs.Meanings.{table-known, told-table-known}
use Rattle.promises.proofs.One.{only, One, OneLent, OneWith}

pub pack-rgb-one : One pack-rgb'.ps pack-rgb'.r pack-rgb.Learnt
pack-rgb-one κs a z z' e e' p q = only p q

pub pixel-one : One pixel'.ps pixel'.r pixel.Learnt
pixel-one κs a z z' e e' p q = only p q

pub rgb-bytes-one : One rgb-bytes'.ps rgb-bytes'.r rgb-bytes.Learnt
rgb-bytes-one κs a z z' e e' p q = only p q

pub define-rgb-one : OneWith define-rgb'.ps define-rgb'.r define-rgb.Learnt (λ κs e. e.0.now)
define-rgb-one κs a z z' e e' p q = told-table-known (only p q)

pub define-hls-one : OneWith define-hls'.ps define-hls'.r define-hls.Learnt (λ κs e. e.0.now)
define-hls-one κs a z z' e e' p q = told-table-known (only p q)

pub palette-standard-one : One palette-standard'.ps palette-standard'.r palette-standard.Learnt
palette-standard-one κs a z z' e e' p q = only p q

pub palette-reset-one : One palette-reset'.ps palette-reset'.r palette-reset.Learnt
palette-reset-one κs a z z' e e' p q = only p q

pub palette-register-one : One palette-register'.ps palette-register'.r palette-register.Learnt
palette-register-one κs a z z' e e' p q = only p q

pub palette-set-rgb-percent-one : One palette-set-rgb-percent'.ps palette-set-rgb-percent'.r palette-set-rgb-percent.Learnt
palette-set-rgb-percent-one κs a z z' e e' p q = only p q

pub palette-set-hls-one : One palette-set-hls'.ps palette-set-hls'.r palette-set-hls.Learnt
palette-set-hls-one κs a z z' e e' p q = only p q

pub palette-table-one : One palette-table'.ps palette-table'.r palette-table.Learnt
palette-table-one κs a z z' e e' p q = table-known (only p q)

pub palette-of-table-one : One palette-of-table'.ps palette-of-table'.r palette-of-table.Learnt
palette-of-table-one κs a z z' e e' p q = only p q

pub palette-is-marked-one : One palette-is-marked'.ps palette-is-marked'.r palette-is-marked.Learnt
palette-is-marked-one κs a z z' e e' p q = only p q

pub palette-lasting-one : One palette-lasting'.ps palette-lasting'.r palette-lasting.Learnt
palette-lasting-one κs a z z' e e' p q = only p q

pub marks-is-marked-one : One marks-is-marked'.ps marks-is-marked'.r marks-is-marked.Learnt
marks-is-marked-one κs a z z' e e' p q = only p q

pub marks-begin-one : OneLent marks-begin'.ps marks-begin'.r marks-begin.Learnt (λ κs e. e.0.now)
marks-begin-one κs a z z' e e' p q = table-known (only p q)

pub marks-hand-on-one : OneWith marks-hand-on'.ps marks-hand-on'.r marks-hand-on.Learnt (λ κs e. e.0.now)
marks-hand-on-one κs a z z' e e' p q = ap₂ (λ (n : ℕ) (t : List ℕ). (n, t)) (only p.0 q.0) (table-known (only p.1 q.1))
