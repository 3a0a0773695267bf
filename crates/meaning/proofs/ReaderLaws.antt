-- Laws of any reader, all in one place: runs, calls, callers and histories.
unfoldable pub use Rattle.meaning.specs.Reader.{is_all, is_refused, continued, then_read, ran_by}
pub use Rattle.meaning.proofs.ReaderAsks.{RestLaw, HaltLaw, CapLaw}
unfoldable pub use Rattle.meaning.proofs.Histories.{read_items, last_item, items_of, going_on, resumed, any_calls, history, asks_of}
pub use Rattle.meaning.specs.Callers.{Ask}
pub use Rattle.meaning.proofs.Histories.{Item, byte, mark}
pub use Rattle.meaning.proofs.RunLaws.{after-zero, after-after, read-append, shared-prefix, ended-prefix, read_as_lem}
unfoldable pub use Rattle.meaning.proofs.CallLaws.{onward}
pub use Rattle.meaning.proofs.CallLaws.{Called, nothing, goes, stops, halts, refuses, StoppedAt, called, call-ink, call-consumed, call-reads, call-plain, call-stopped-at, call-stops, call-stop-reads, call-onward}
unfoldable pub use Rattle.meaning.proofs.CallerLaws.{ahead, agains}
pub use Rattle.meaning.proofs.CallerLaws.{calls-onward, calls-outcome, calls-bound}
pub use Rattle.meaning.proofs.HistoryLaws.{items-plain, items-append, call-history, session-history, marks-vanish, caller-history, history-plain}
