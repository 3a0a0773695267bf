-- Laws of drawings, all in one place: cases, commands, whole payloads and bytes.
pub use Rattle.meaning.proofs.Cases.{cond-case, option-case, neither, neither-exceeds, both, and_both}
unfoldable pub use Rattle.meaning.proofs.CommandLaws.{draw_on}
pub use Rattle.meaning.proofs.CommandLaws.{draw_on-none, draw_on-some, draw_all-append, Allowed, unless-case, grown-fits, Within, within_of, inside_of, Each, each_append, AllOnce, Sound, Follows, follows-refl, follows-trans, Gives, gives-map, given, given-refusal, command-follows, command-drawn, draw_all-follows, draw_all-sound, FourToSeven, draw_all-numbers, AllOf, draw_all-keeps, Quiet, AllQuiet, StrokesOf, quiet-command, quiet-drawn, quiet-strokes, all-parts}
pub use Rattle.meaning.proofs.SizeLaws.{opens-roomy, blank-sound, blank-opens, payload-sound, extent-inside, outcome-reports, outcome_fits, ReportOr4To7, finish-numbers}
pub use Rattle.meaning.proofs.StepLaws.{OnStep, Leaves, leaves_map, payload-case, payload-leaves, Before, DcsDoes, advances, begins, turns, reads, refuses, escapes, closes, breaks, completes, lapses, remains, dcs-does, OnDrawing, dcs-step-keeps, dcs-rested-keeps, read_from-keeps, call-keeps}
