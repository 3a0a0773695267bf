use Rattle.text.proofs.Laws.{put-digit, put-digits}
use borrow.Author.Rules.{rules}
use Rattle.text.proofs.Cursor.+put_decimal.Goals as goal
use Rattle.text.proofs.Cursor.+put_decimal.Goals.{then-n-ge10, else-n-ge10}

pub returns-clause-text : goal.returns-clause-text
returns-clause-text t c = elim c.if-n-ge10.branch [
  | then-n-ge10 w ↦ search (rules, put-digits)
  | else-n-ge10 w ↦ search (rules, put-digit)
]
