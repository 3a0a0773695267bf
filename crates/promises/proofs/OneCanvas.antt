-- Only one outcome, of every public function of `canvas` (One.antt).
use Rattle.canvas.proofs.rows.Reads as rows
use Rattle.canvas.proofs.rows.Kinds as rows'
use Rattle.canvas.proofs.fill_span.Reads as fill-span
use Rattle.canvas.proofs.fill_span.Kinds as fill-span'
use Rattle.canvas.proofs.paint_sixel.Reads as paint-sixel
use Rattle.canvas.proofs.paint_sixel.Kinds as paint-sixel'
use Rattle.canvas.proofs.grow.Reads as grow
use Rattle.canvas.proofs.grow.Kinds as grow'
use Rattle.canvas.proofs.first_pixel.Reads as first-pixel
use Rattle.canvas.proofs.first_pixel.Kinds as first-pixel'
use Rattle.canvas.proofs.has_picture.Reads as has-picture
use Rattle.canvas.proofs.has_picture.Kinds as has-picture'
use Rattle.canvas.proofs.copy_rows.Reads as copy-rows
use Rattle.canvas.proofs.copy_rows.Kinds as copy-rows'
use Rattle.canvas.proofs.copy_picture.Reads as copy-picture
use Rattle.canvas.proofs.copy_picture.Kinds as copy-picture'
use Rattle.promises.proofs.Meanings.{copied-known}
use Rattle.promises.proofs.One.{only, One, OneLent, OneWith}

pub rows-one : One rows'.ps rows'.r rows.Learnt
rows-one κs a z z' e e' p q = only p q

pub fill-span-one : OneLent fill-span'.ps fill-span'.r fill-span.Learnt (λ κs e. e.0.now)
fill-span-one κs a z z' e e' p q = only p q

pub paint-sixel-one : OneLent paint-sixel'.ps paint-sixel'.r paint-sixel.Learnt (λ κs e. e.0.now)
paint-sixel-one κs a z z' e e' p q = only p q

pub grow-one : OneLent grow'.ps grow'.r grow.Learnt (λ κs e. e.0.now)
grow-one κs a z z' e e' p q = only p q

pub first-pixel-one : OneLent first-pixel'.ps first-pixel'.r first-pixel.Learnt (λ κs e. e.0.now)
first-pixel-one κs a z z' e e' p q = only p q

pub has-picture-one : One has-picture'.ps has-picture'.r has-picture.Learnt
has-picture-one κs a z z' e e' p q = only p q

pub copy-rows-one : OneLent copy-rows'.ps copy-rows'.r copy-rows.Learnt (λ κs e. e.1.1.1.1.0.now)
copy-rows-one κs a z z' e e' p q = only p q

pub copy-picture-one : OneWith copy-picture'.ps copy-picture'.r copy-picture.Learnt (λ κs e. e.1.1.1.1.0.now)
copy-picture-one κs a z z' e e' p q = copied-known (only p q)
