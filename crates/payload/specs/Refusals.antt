-- The refusals before a byte is read, on the code's own records.
use Rattle.std.specs.Prelude.{ℕ, ◌*◌, ◌^◌, Bool, true, false, cond, not, ◌&&◌, ◌==◌, nat_le, nat_lt, Ok, Err}
use Rattle.canvas.specs.Picture.{rows_of}
use Rattle.frame.specs.declared.Limits.{Limits}
use Rattle.frame.specs.declared.Refusal.TheVariants as refusals
use Rattle.payload.specs.declared.Life.{Life}
use Rattle.payload.specs.declared.Life.TheVariants as lives
use Rattle.payload.specs.declared.Session.{Session}
use Rattle.payload.specs.Results.{Verdict}

-- 1 to a largest
unfoldable pub in_range : ℕ → ℕ → Bool
in_range n most = nat_le 1 n && nat_le n most

-- W and H are 1 to 1,000,000, R and M 1 to 10^12
unfoldable pub limits_fit : Limits → Bool
unfolding in_range
limits_fit l =
    in_range l.width 1000000 && (in_range l.height 1000000 && (in_range l.repeats (10 ^ 12) && in_range l.pixels (10 ^ 12)))

-- the stride is 1 to 1,000,000, and there is a whole row
unfoldable pub openable : Limits → ℕ → ℕ → Bool
unfolding limits_fit
openable l stride length = limits_fit l && (in_range stride 1000000 && nat_le 1 (rows_of length stride))

unfoldable pub is_failed : Life → Bool
is_failed lives.Live = false
is_failed (lives.Ended b) = false
is_failed lives.Failed = true

-- the visible area has room on the canvas, whose length is that of the opening
unfoldable pub fitting : Session → ℕ → Bool
fitting s length =
    (length == s.length)
    && (s.ground.rows == rows_of length s.ground.stride
    && (nat_le s.frame.area.width s.ground.stride && nat_le s.frame.area.height s.ground.rows))

unfoldable pub misfitting : Session → ℕ → Bool
unfolding fitting
misfitting s length = not (fitting s length)

-- finish: 9, 12
unfoldable pub finish_judged : Session → ℕ → Verdict
unfolding is_failed misfitting
finish_judged s length =
    cond (is_failed s.life) (Err refusals.Failed) (cond (misfitting s length) (Err refusals.Canvas) (Ok tt))

-- feed: 9, 12, 13
unfoldable pub feed_judged : Session → ℕ → ℕ → Verdict
unfolding is_failed misfitting
feed_judged s length allowance =
    cond (is_failed s.life) (Err refusals.Failed)
    (cond (misfitting s length) (Err refusals.Canvas)
    (cond (nat_lt allowance (6 * s.ground.limits.width)) (Err refusals.Allowance) (Ok tt)))
