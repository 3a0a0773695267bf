-- What the code does with bytes, on its own records and the palette, where there is no canvas. The laws of proofs/DryLaws say that this is what
-- the reference machine does, whatever the canvas holds.
use Rattle.std.specs.Prelude.{ℕ, ◌+◌, ◌-◌, ◌*◌, Bool, cond, ◌&&◌, List, [], ◌∷◌, ◌==◌, count_ones, nat_lt, Result, Ok, Err}
use Rattle.numbers.specs.Bytes.{skipped, digit, sixel, ends, semicolon}
use Rattle.colours.specs.declared.Palette.{Palette}
use Rattle.frame.specs.declared.Frame.{Frame}
use Rattle.frame.specs.declared.Ground.{Ground}
use Rattle.frame.specs.declared.Kind.{Kind}
use Rattle.frame.specs.declared.Kind.TheVariants as kinds
use Rattle.frame.specs.declared.Outcome.{Outcome}
use Rattle.frame.specs.declared.Outcome.TheVariants as outcomes
use Rattle.frame.specs.declared.Progress.{Progress}
use Rattle.frame.specs.declared.Refusal.{Refusal}
use Rattle.frame.specs.declared.VisibleArea.{VisibleArea}
use Rattle.frame.specs.Sizes.{sixel_area}
use Rattle.frame.specs.Commands.{with_command, by_digit, by_semicolon, unread_as, refused_as, Ended, ended}
use Rattle.reference.specs.Step.{read_as, inked, own_of, takes_semicolon}
use Rattle.explain.specs.declared.dry.Led.{Led}

-- ---- a byte while no command is pending

-- read, unless its ink exceeds what is left
unfoldable pub inked_dry : Frame → ℕ → ℕ → ℕ → ℕ → Progress
inked_dry f bits left w h =
    cond (nat_lt left (count_ones bits * f.pen.repeat)) (unread_as f outcomes.Stopped)
    (read_as (inked f bits w h) (count_ones bits * f.pen.repeat))

unfoldable pub drawn_dry_in : Result VisibleArea Refusal → Frame → ℕ → ℕ → Progress
unfolding inked_dry
drawn_dry_in (Ok a) f bits left = inked_dry f bits left a.width a.height
drawn_dry_in (Err r) f bits left = refused_as f r

unfoldable pub drawn_dry : Frame → Ground → ℕ → ℕ → Progress
unfolding drawn_dry_in
drawn_dry f g bits left = drawn_dry_in (sixel_area f.pen f.area g) f bits left

unfoldable pub data_dry : Frame → Ground → ℕ → ℕ → Progress
unfolding drawn_dry
data_dry f g b left =
    cond (sixel b) (drawn_dry f g (b - 63) left)
    (cond (ends b) (unread_as f (outcomes.Ended b)) (read_as (own_of f b) 0))

-- ---- a byte while a command is pending

unfoldable pub argument_dry : Frame → Ground → ℕ → Palette → Ended
argument_dry f g b p =
    cond (digit b) (record { progress = read_as (with_command f (by_digit f.command b)) 0; palette = p })
    (cond (skipped b) (record { progress = read_as f 0; palette = p })
    (cond (b == semicolon && takes_semicolon f.command.kind)
    (record { progress = read_as (with_command f (by_semicolon f.command)) 0; palette = p })
    (ended f g p)))

-- ---- bytes

unfoldable pub step_dry_in : Kind → Frame → Ground → ℕ → ℕ → Palette → Ended
unfolding data_dry argument_dry
step_dry_in kinds.Data f g b left p = record { progress = data_dry f g b left; palette = p }
step_dry_in kinds.Repeat f g b left p = argument_dry f g b p
step_dry_in kinds.Color f g b left p = argument_dry f g b p
step_dry_in kinds.Raster f g b left p = argument_dry f g b p

unfoldable pub step_dry : Frame → Ground → ℕ → ℕ → Palette → Ended
unfolding step_dry_in
step_dry f g b left p = step_dry_in f.command.kind f g b left p

-- a byte that ended the pending command is then read itself
unfoldable pub then_dry : Outcome → Ended → Ground → ℕ → ℕ → Ended
unfolding data_dry
then_dry outcomes.Read t g b left =
    cond (t.progress.consumed == 0) (record { progress = data_dry t.progress.frame g b left; palette = t.palette }) t
then_dry outcomes.Stopped t g b left = t
then_dry (outcomes.Ended e) t g b left = t
then_dry (outcomes.Refused r) t g b left = t

unfoldable pub byte_dry : Frame → Ground → ℕ → ℕ → Palette → Ended
unfolding step_dry then_dry
byte_dry f g b left p = let t : Ended = step_dry f g b left p in then_dry t.progress.outcome t g b left

-- what a byte takes of the allowance, where there is one
unfoldable pub cost_of : Bool → ℕ → ℕ
cost_of metered ink = cond metered ink 0

unfoldable pub led_as : Frame → ℕ → Outcome → Led
led_as f n o = record { frame = f; consumed = n; outcome = o }

-- a byte that was read is followed by the others, and any other ends the reading
unfoldable pub go_on_dry : Outcome → Ended → ℕ → (Frame → Palette → ℕ → Led) → Led
unfolding led_as
go_on_dry outcomes.Read t n later = later t.progress.frame t.palette t.progress.ink
go_on_dry outcomes.Stopped t n later = led_as t.progress.frame n outcomes.Stopped
go_on_dry (outcomes.Ended b) t n later = led_as t.progress.frame n (outcomes.Ended b)
go_on_dry (outcomes.Refused r) t n later = led_as t.progress.frame n (outcomes.Refused r)

-- the bytes that are left, after `n` bytes
unfoldable pub dry_from : Bool → Ground → List ℕ → ℕ → ℕ → Frame → Palette → Led
unfolding byte_dry cost_of go_on_dry led_as
dry_from metered g [] n left f p = led_as f n outcomes.Read
dry_from metered g (b ∷ bs) n left f p =
    let t : Ended = byte_dry f g b left p in
    go_on_dry t.progress.outcome t n (λ f' p' ink. dry_from metered g bs (n + 1) (left - cost_of metered ink) f' p')
