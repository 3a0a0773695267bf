-- Only one outcome, of every public function of `oneshot` (One.antt).
use Prim.Native.Nat.{ℕ}
use mathlib.Core.List.{List}
use Rattle.colours.specs.Palette.{of_table}
use Rattle.payload.specs.Core.{finished_over}
use Rattle.oneshot.specs.declared.Reading.{Reading}
use Rattle.oneshot.proofs.payload_part.Reads as payload-part
use Rattle.oneshot.proofs.payload_part.Kinds as payload-part'
use Rattle.oneshot.proofs.read_onto.Reads as read-onto
use Rattle.oneshot.proofs.read_onto.Kinds as read-onto'
use Rattle.oneshot.proofs.read.Reads as read
use Rattle.oneshot.proofs.read.Kinds as read'
use Rattle.oneshot.proofs.search.find.Reads as find
use Rattle.oneshot.proofs.search.find.Kinds as find'
use Rattle.oneshot.proofs.search.header_start.Reads as header-start
use Rattle.oneshot.proofs.search.header_start.Kinds as header-start'
use Rattle.promises.proofs.Meanings.{read_known}
use Rattle.promises.proofs.One.{only, Seen, One, OnePart, OneWith}

pub payload-part-one : OnePart payload-part'.ps payload-part'.r payload-part.Learnt (λ κs z. z.now)
payload-part-one κs a z z' e e' p q = only p q

-- the answer with the part's length, the registers and the canvas
pub read-onto-one : Seen read-onto'.ps read-onto'.r read-onto.Learnt (λ κs. Reading × List ℕ × List ℕ)
    (λ κs z e. (z, e.1.1.0.now, e.1.1.1.0.now))
unfolding of_table
read-onto-one κs a z z' e e' p q =
    let read =
    read_known {x = (finished_over z.answer e.1.1.0.now, e.1.1.1.0.now)}
    {y = (finished_over z'.answer e'.1.1.0.now, e'.1.1.1.0.now)} (only p.0 q.0) in
    let part = only p.1 q.1 in
    λ i. (record { answer = (read i).0.answer; part = part i }, (read i).0.palette.colors, (read i).1)

pub read-one : OneWith read'.ps read'.r read.Learnt (λ κs e. e.1.1.1.0.now)
read-one κs a z z' e e' p q = read_known (only p q)

pub find-one : One find'.ps find'.r find.Learnt
find-one κs a z z' e e' p q = only p q

pub header-start-one : One header-start'.ps header-start'.r header-start.Learnt
header-start-one κs a z z' e e' p q = only p q
