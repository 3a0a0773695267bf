use Rattle.std.proofs.Common.{ℕ, ◌+◌, List, [], get_or, take, sym, subst, add-one, arith, take-suc}
use Rattle.numbers.specs.Read.{Read}
use Rattle.numbers.proofs.Reading.{read_none, read-push}
use Rattle.test_examples.proofs.on_numbers.read.Goals as goal

pub loop-byte-init : goal.loop-byte-init
loop-byte-init c = subst (Read c.args.places []) (sym c.new-p.ensures) (read_none c.args.places)

pub loop-byte-preserved : goal.loop-byte-preserved
loop-byte-preserved c =
    let bytes : List ℕ = c.args.bytes.now in
    let i : ℕ = c.loop-byte.byte-index in
    subst (Read c.args.places (take (i + 1) bytes)) (sym c.push-p.ensures)
    (rw (add-one i, take-suc bytes i 0 (omega arith)) (read-push (get_or bytes i 0) c.loop-byte.invariant))
