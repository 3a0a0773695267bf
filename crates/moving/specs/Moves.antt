-- A session moves to another canvas (docs/RULES.md, section 14). Said once for a payload and a DCS session: `S` is what the session reads with.
use Rattle.std.specs.Prelude.{ℕ, Bool, not, List, [], ◌∷◌}
use Rattle.std.proofs.Math.Option.{Option, none, some}
use Rattle.canvas.specs.Picture.{Area, fits}
use Rattle.meaning.specs.Calls.{first_of, opens, setting_for, Session}

-- rule 14.1: 9, 11, 12
unfoldable pub move_refusal : {S : Type 0} → (S → Area) → Session S → ℕ → ℕ → Option ℕ
move_refusal area_of s stride length =
    first_of
    (record { holds = s.failed; number = 9 }
    ∷ record { holds = not (opens s.setting.limits stride length); number = 11 }
    ∷ record { holds = not (fits stride length (area_of s.state)); number = 12 }
    ∷ [])

-- rule 14.2: the session for a canvas of this stride and so many bytes: what it has read stays
unfoldable pub moved_session : {S : Type 0} → Session S → ℕ → ℕ → Session S
moved_session s stride length =
    record { setting = setting_for s.setting.limits stride length; length = length; state = s.state; failed = s.failed }

-- rules 14.1, 14.2: refused, the session is as it was
unfoldable pub after_move : {S : Type 0} → (S → Area) → Session S → ℕ → ℕ → Session S
unfolding move_refusal moved_session
after_move area_of s stride length =
    elim (move_refusal area_of s stride length) [ none ↦ moved_session s stride length | some n ↦ s ]
