-- Ending the pending command leaves the two standing for each other, or both refuse it.
use Prim.Native.Nat.{ℕ}
use mathlib.Core.Path.{◌≡◌, refl, sym, ap, ap₂, ◌∙◌, subst}
use mathlib.Core.Option.{Option, none, some}
use mathlib.Core.List.{List, []}
use Rattle.colours.specs.declared.Palette.{Palette}
use Rattle.canvas.specs.Picture.{Stroke, picture}
use Rattle.canvas.specs.Paint.{grown}
use Rattle.canvas.proofs.Pictures.{picture-grown, grown-none}
use Rattle.frame.specs.declared.Command.{Command}
use Rattle.frame.specs.declared.Frame.{Frame}
use Rattle.frame.specs.declared.Ground.{Ground}
use Rattle.frame.specs.declared.Outcome.TheVariants as outcomes
use Rattle.frame.specs.declared.Refusal.{Refusal}
use Rattle.frame.specs.declared.VisibleArea.{VisibleArea}
use Rattle.frame.specs.Numbers.{number_of}
use Rattle.frame.specs.Commands.{no_command, refused_as, Ended, ended_in, ended}
use Rattle.reference.specs.Step.{Reached, area_grown, settled_step}
use Rattle.meaning.specs.Commands as meaning_commands
use Rattle.meaning.specs.Commands.{Begun, argued, closed}
use Rattle.meaning.specs.Drawing.{Setting, Drawing, Drawn, draw_command, Outcome, and_then, draw_all}
use Rattle.meaning.specs.Sessions.{Reading, settled, rested}
use Rattle.meaning.proofs.AreaLaws.{Sound, Follows, follows-refl, command-drawn, quiet-drawn}
use Rattle.agreement.specs.Same.{ground_of, code_area, frame_of, canvas_of, Rated, Bounded, SameDrawing, SameBegun, Same}
use Rattle.agreement.proofs.Ratio.{command-rated}
use Rattle.agreement.proofs.Ends.{settled_to, Ends, gives, turned, command-ends}

-- ---- what the two say of each other

-- a fact of the code's ground, frame, palette and canvas is one of the drawing's
pub same-fact : {s : Setting} {opening : List ℕ} {d : Drawing} {g : Ground} {f : Frame} {p : Palette} {l : List ℕ}
    (P : Ground → Frame → Palette → List ℕ → Type 0) → SameDrawing s opening d g f p l
    → P (ground_of s d.background) (frame_of d f.command) d.palette (canvas_of s d opening) → P g f p l
same-fact {s} {opening} {d} {g} {f} {p} {l} P same h =
    subst (λ (x : Ground). P x f p l) (sym same.ground)
    (subst (λ (x : Frame). P (ground_of s d.background) x p l) (sym same.frame)
    (subst (λ (x : Palette). P (ground_of s d.background) (frame_of d f.command) x l) (sym same.palette)
    (subst (P (ground_of s d.background) (frame_of d f.command) d.palette) (sym same.canvas) h)))

-- what stands for a drawing stands for an equal one
pub same-drawing : {s : Setting} {opening : List ℕ} {d e : Drawing} {g : Ground} {f : Frame} {p : Palette} {l : List ℕ} → d ≡ e
    → SameDrawing s opening e g f p l → SameDrawing s opening d g f p l
same-drawing {s} {opening} {g = g} {f} {p} {l} q = subst (λ (d : Drawing). SameDrawing s opening d g f p l) (sym q)

-- ---- the pending command

-- a pending command's end, and what follows from it of the drawing
pub data EndsAs (s : Setting) (d : Drawing) (c : Command) : Outcome → Ended → Type 0 where
  settles : (e : Drawing) → Follows s d e → e.strokes ≡ d.strokes → (Rated d.raster.ratio → Rated e.raster.ratio)
      → EndsAs s d c (record { drawing = e; refusal = none }) (settled_to e no_command)
  refuses : (why : Refusal) {n : ℕ} → number_of why ≡ n
      → EndsAs s d c (record { drawing = d; refusal = some n }) (record { progress = refused_as (frame_of d c) why; palette = d.palette })

-- whichever is pending, or none
pub pending-ends : {s : Setting} {d : Drawing} → Bounded s → Sound s d → (background : List ℕ) (c : Command) (o : Option Begun) → SameBegun o c
    → EndsAs s d c (draw_all s (closed o) d) (ended (frame_of d c) (ground_of s background) d.palette)
unfolding closed draw_all and_then ended frame_of settled_to no_command
pending-ends {s} {d} bounded sound background c none h =
    subst (λ k. EndsAs s d c (record { drawing = d; refusal = none }) (ended_in k (frame_of d c) (ground_of s background) d.palette)) (sym h)
    (settles d (follows-refl s d) refl (λ h. h))
pending-ends {s} {d} bounded sound background c (some b) h =
    go refl (command-ends bounded sound background c b.place b.kind b.argument h)
  where
    k : meaning_commands.Command
    k = argued b.kind b.argument

    go : {x : Drawn} {e : Ended} → draw_command s k d ≡ x → Ends d c x e → EndsAs s d c (and_then d x (draw_all s [])) e
    go q (gives e) = settles e (command-drawn s k d q) (quiet-drawn s k d tt q) (command-rated s b.kind b.argument d q)
    go q (turned why n) = refuses why n

-- ---- the canvas

-- where commands have added no stroke, the grown canvas shows what they made
pub grown-shows : {s : Setting} {d e : Drawing} (opening : List ℕ) → Sound s d → Follows s d e → e.strokes ≡ d.strokes
    → grown s.stride d.area e.area d.background (canvas_of s d opening) ≡ canvas_of s e opening
unfolding canvas_of
grown-shows {s} {d} {e} opening sound follows same =
    picture-grown s.stride d.area e.area d.background d.strokes opening
    (record { columns = follows.wider; rows = follows.taller })
    sound.strokes
    ∙ ap₂ (λ (b : List ℕ) (ks : List Stroke). picture s.stride e.area b ks opening) (sym follows.background) (sym same)

-- ---- settling

-- what a settling step comes to: the two stand for each other with the command carried out; or one refusal, and all is as it was
pub data Settling (s : Setting) (opening : List ℕ) (r : Reading) (g : Ground) : Option ℕ → Reached → Type 0 where
  settling : {t : Reached} → t.progress.outcome ≡ outcomes.Read → t.progress.consumed ≡ 0
      → Same s opening (rested s r) g t.progress.frame t.palette t.canvas → Settling s opening r g none t
  refusing : {t : Reached} {n : ℕ} (why : Refusal) → number_of why ≡ n → t.progress.outcome ≡ outcomes.Refused why → (settled s r).drawing ≡ r.drawing
      → SameDrawing s opening r.drawing g t.progress.frame t.palette t.canvas → Settling s opening r g (some n) t

-- the code's step with an ending known
settled_by : Frame → Ground → List ℕ → Ended → Reached
unfolding area_grown
settled_by f g l e =
    let new : VisibleArea = e.progress.frame.area in
    record { progress = e.progress; palette = e.palette; canvas = area_grown f g new.width new.height l }

module _ {s : Setting} (opening : List ℕ) (r : Reading) (bounded : Bounded s) (sound : Sound s r.drawing)
    (rated : Rated r.drawing.raster.ratio) (c : Command) where
  settle-ends : {out : Outcome} {e : Ended} → settled s r ≡ out → EndsAs s r.drawing c out e
      → Settling s opening r (ground_of s r.drawing.background) out.refusal
      (settled_by (frame_of r.drawing c) (ground_of s r.drawing.background) (canvas_of s r.drawing opening) e)
  unfolding settled_by rested settled_to no_command frame_of code_area ground_of refused_as
  settle-ends q (settles e follows same rates) =
      settling refl refl
      (record {
        drawing = same-drawing (ap (λ (out : Outcome). out.drawing) q)
            (record {
              bounded = bounded;
              sound = follows.sound sound;
              rated = rates rated;
              ground = ap (ground_of s) (sym follows.background);
              frame = refl;
              palette = refl;
              canvas = grown-shows opening sound follows same;
            });
        begun = refl;
      })
  settle-ends q (refuses why n) =
      refusing why n refl (ap (λ (out : Outcome). out.drawing) q)
      (record {
        bounded = bounded;
        sound = sound;
        rated = rated;
        ground = refl;
        frame = refl;
        palette = refl;
        canvas = grown-none s.stride r.drawing.area r.drawing.background (canvas_of s r.drawing opening);
      })

-- the code's settling step is the definition's settling
pub settle-agrees : {s : Setting} {opening : List ℕ} {r : Reading} {g : Ground} {f : Frame} {p : Palette} {l : List ℕ} → Same s opening r g f p l
    → Settling s opening r g (settled s r).refusal (settled_step f g p l)
unfolding settled_step settled_by settled
settle-agrees {s} {opening} {r} {f = f} same =
    let d : SameDrawing s opening r.drawing _ f _ _ = same.drawing in
    same-fact (λ g f p l. Settling s opening r g (settled s r).refusal (settled_step f g p l)) d
    (settle-ends opening r d.bounded d.sound d.rated f.command refl
    (pending-ends d.bounded d.sound r.drawing.background f.command r.begun same.begun))
