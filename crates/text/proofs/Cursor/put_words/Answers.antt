use mathlib.Core.Path.{◌∙◌}
use native.Mathlib.Omega.{arith}
use Rattle.text.proofs.Laws.{put_whole, one_more, all-put}
use Rattle.text.proofs.Cursor.put_words.Goals as goal

pub loop-i-preserved : goal.loop-i-preserved
loop-i-preserved c =
    let so_far = c.loop-i in (
      one_more _ so_far.i _ _ _ c.put_byte.ensures.text so_far.invariant.0 (omega arith),
      c.put_byte.ensures.buffer ∙ so_far.invariant.1,
    )

pub returns-clause-text : goal.returns-clause-text
returns-clause-text c = all-put _ c.loop-i.i _ _ c.loop-i.invariant.0 (omega arith)

pub returns-then-words-self-clause-text : goal.returns-then-words-self-clause-text
returns-then-words-self-clause-text c =
    put_whole c.args.words.now _ c.args.self.now.at _ c.args.self.now.out.now (omega (arith, c.if-self.true, c.if-words-self.true)) c.copy_from_slice.ensures.after (omega arith)
