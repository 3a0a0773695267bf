-- A DCS sequence's run put together: before its payload, in it, and at its end.
use Prim.Native.Nat.{ℕ}
use mathlib.Core.List.{List, [], ◌∷◌}
use lib.ListN.{drop}
use Rattle.colours.specs.declared.Palette.{Palette}
use Rattle.meaning.specs.Drawing.{Setting}
use Rattle.meaning.specs.Reader.{read_all, stopped, halted, refused_by, Run, still, after, follow, read_from}
use Rattle.meaning.specs.Sessions.{escape, Reading, Phase, within, end_step, dcs_step}

-- the two introducers: 90, and 1B `P`
pub data Introducer : List ℕ → Type 0 where
  c1 : Introducer (0x90 ∷ [])
  escaped : Introducer (escape ∷ 0x50 ∷ [])

-- a payload's run, as that of a sequence which is in its payload
unfoldable pub in_payload : Run Reading → Run Phase
in_payload q = record { state = within q.state; consumed = q.consumed; ink = q.ink; how = q.how }

module _ (s : Setting) (p : Palette) where
  -- the byte that ended the payload is read as an end, and what comes after it
  unfoldable pub read_end : Reading → List ℕ → Run Phase
  unfolding still follow after read_from end_step
  read_end t [] = still (within t) read_all
  read_end t (b ∷ bs) = follow (end_step t b) (λ u i. after 1 i (read_from (dcs_step s p) u bs))

  -- what a sequence makes of its payload's run over some bytes: where the payload has ended its end is read, and else it is that run
  unfoldable pub framed : Run Reading → List ℕ → Run Phase
  unfolding in_payload read_end
  framed q bs =
      elim q.how [
        | read_all ↦ in_payload q
        | stopped ↦ in_payload q
        | halted ↦ after q.consumed q.ink (read_end q.state (drop q.consumed bs))
        | refused_by n ↦ in_payload q
      ]
