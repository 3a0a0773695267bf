-- A DCS sequence as a whole (docs/RULES.md, section 7): where its payload stands, how it ends, and what it comes to.
-- Sessions says it byte by byte (`dcs_step`), and the two are one: proofs/SequenceLaws.
use Rattle.std.specs.Prelude.{ℕ, ◌+◌, ◌-◌, cond, ◌||◌, List, [], ◌∷◌, eqb, length}
use Rattle.std.proofs.Math.Option.{Option, none, some}
use Rattle.numbers.specs.Bytes.{ends}
use Rattle.colours.specs.declared.Palette.{Palette}
use Rattle.meaning.specs.Commands.{body}
use Rattle.meaning.specs.Drawing.{Setting, Drawing}
use Rattle.meaning.specs.Payload.{Finished, turned_down, drawn_so_far, payload_ink}
use Rattle.meaning.specs.Sessions.{escape, End, complete, cancelled, interrupted}
use Rattle.meaning.specs.OneShot.{Found, found, lacking, refused_with, header_from, answer_of}

-- after the 1B of an introducer comes `P`; another byte is 1
unfoldable pub after_first_escape : List ℕ → Found
unfolding header_from
after_first_escape [] = lacking
after_first_escape (b ∷ bs) = cond (eqb b 0x50) (header_from [] bs) (refused_with 1)

-- rule 7.1: the introducer, 90 or 1B `P`, is at the very start, and then comes the header; another first byte is 1
unfoldable pub sequence_payload : List ℕ → Found
unfolding after_first_escape header_from
sequence_payload [] = lacking
sequence_payload (b ∷ bs) = cond (eqb b escape) (after_first_escape bs) (cond (eqb b 0x90) (header_from [] bs) (refused_with 1))

-- ---- its end

-- how a sequence ends, if it does, and how many bytes of that end are consumed
pub record Closing : Type 0 where
  pub end : Option End
  pub consumed : ℕ

-- rule 7.5: after the 1B that ended the payload, `\` completes and is consumed; another byte means interrupted by 1B and stays unread
unfoldable pub closed_after_escape : List ℕ → Closing
closed_after_escape [] = record { end = none; consumed = 1 }
closed_after_escape (b ∷ bs) =
    cond (eqb b 0x5C) (record { end = some complete; consumed = 2 }) (record { end = some (interrupted escape); consumed = 1 })

-- rules 7.3, 7.4, 7.5: from the byte on that ends the payload: 9C is complete, 18 or 1A is cancelled, another C1 byte means
-- interrupted and stays unread
unfoldable pub closing : List ℕ → Closing
unfolding closed_after_escape
closing [] = record { end = none; consumed = 0 }
closing (b ∷ bs) =
    cond (eqb b escape) (closed_after_escape bs)
    (cond (eqb b 0x9C) (record { end = some complete; consumed = 1 })
    (cond (eqb b 0x18 || eqb b 0x1A) (record { end = some (cancelled b); consumed = 1 })
    (record { end = some (interrupted b); consumed = 0 })))

-- the bytes from the first on that ends the payload
unfoldable pub after_body : List ℕ → List ℕ
after_body [] = []
after_body (b ∷ bs) = cond (ends b) (b ∷ bs) (after_body bs)

-- rule 7.8: where nothing is refused: complete; cancelled, or interrupted, by which byte; or not ended
unfoldable pub sequence_end : List ℕ → Option End
unfolding sequence_payload closing after_body
sequence_end bs = elim (sequence_payload bs) [ found o part ↦ (closing (after_body part)).end | lacking ↦ none | refused_with n ↦ none ]

-- rule 7.8: and the bytes consumed then: those before the payload, the payload's, and those of its end; without a payload all
unfoldable pub sequence_consumed : List ℕ → ℕ
unfolding sequence_payload closing after_body body
sequence_consumed bs =
    elim (sequence_payload bs) [
      | found o part ↦ (length bs - length part) + (length (body part) + (closing (after_body part)).consumed)
      | lacking ↦ length bs
      | refused_with n ↦ length bs
    ]

-- ---- what it comes to

-- the refusal that reading it comes to: that of introducer or header, or of its payload; bytes that are missing are none
unfoldable pub sequence_refusal : Setting → Palette → List ℕ → Option ℕ
unfolding sequence_payload drawn_so_far
sequence_refusal s p bs =
    elim (sequence_payload bs) [ found o part ↦ (drawn_so_far s o p part).refusal | lacking ↦ none | refused_with n ↦ some n ]

-- what has been drawn once its bytes are read; before `q` there is nothing
unfoldable pub sequence_drawn : Setting → Palette → List ℕ → Option Drawing
unfolding sequence_payload drawn_so_far
sequence_drawn s p bs =
    elim (sequence_payload bs) [ found o part ↦ some (drawn_so_far s o p part).drawing | lacking ↦ none | refused_with n ↦ none ]

-- rule 7.7: finishing it then: 8 before its end, and from then on what finishing its payload answers
unfoldable pub sequence_finish : Setting → Palette → List ℕ → Finished
unfolding sequence_end
sequence_finish s p bs = elim (sequence_end bs) [ none ↦ turned_down 8 | some e ↦ answer_of s p (sequence_payload bs) ]

-- rule 6.8: the ink of all that the payload draws, before a refusal too; a sequence with no payload draws nothing
unfoldable pub sequence_ink : Setting → Palette → List ℕ → ℕ
unfolding sequence_payload payload_ink
sequence_ink s p bs = elim (sequence_payload bs) [ found o part ↦ payload_ink s o p part | lacking ↦ 0 | refused_with n ↦ 0 ]
