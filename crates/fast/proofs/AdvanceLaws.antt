-- Laws of advances: some bytes at once lead where they lead one by one.
use Prim.Native.Nat.{ℕ, ◌+◌, ◌-◌, ◌*◌, ◌≤◌, ◌<◌, min, max}
use mathlib.Core.Bool.{Bool, true, false, cond, ◌&&◌, true≢false}
use mathlib.Core.List.{List}
use mathlib.Core.Path.{◌≡◌, refl, sym, ap, ◌∙◌, subst}
use native.Mathlib.Nat.{add-zero}
use native.Mathlib.Omega.{arith}
use borrow.Author.Tests.{le-ltb}
use lib.Count.{ones}
use lib.Dec.{eqb}
use lib.ListN.{length, get_or}
use Rattle.numbers.specs.Bytes.{between, skipped, digit, sixel, ends, semicolon, bang, hash, dollar, dash}
use Rattle.numbers.specs.Values.{held}
use Rattle.numbers.specs.Step.{opened, stored, room, finished, kept, value_at}
use Rattle.numbers.specs.declared.Parameters.{Parameters}
use Rattle.numbers.proofs.Laws.{cond_yes, cond_no}
use Rattle.colours.specs.declared.Palette.{Palette}
use Rattle.colours.specs.Palette.{register_of}
use Rattle.canvas.specs.Paint.{sixel_painted}
use Rattle.canvas.proofs.Covers.{by-test}
use Rattle.frame.specs.declared.Command.{Command}
use Rattle.frame.specs.declared.Frame.{Frame}
use Rattle.frame.specs.declared.Ground.{Ground}
use Rattle.frame.specs.declared.Kind.TheVariants as kinds
use Rattle.frame.specs.declared.Pen.{Pen}
use Rattle.frame.specs.declared.Progress.{Progress}
use Rattle.fast.specs.declared.argument.Number.{Number}
use Rattle.fast.specs.declared.argument.Definition.{Definition}
use Rattle.fast.specs.declared.Advance.{Advance}
use Rattle.fast.specs.declared.drawn.Drawn.{Drawn}
use Rattle.frame.specs.Sizes.{sized, sixel_area}
use Rattle.frame.specs.Commands.{with_command, begun, no_command, settled_as, with_repeat, repeat_ended, defined_by, redefined_by, register_in, with_color, palette_after, color_ended_by, finished_of, Ended, ended_in, ended}
use Rattle.frame.specs.Commands.{held_by, held_in, defining_by, more_held}
use Rattle.reference.specs.Step.{Fits, Holds, read_as, area_grown, inked, canvas_after, moved_to, row_ceiling, own_of, takes_semicolon, settled_step, argument_step, step_in, step_of}
use Rattle.fast.specs.Run.{planned}
use Rattle.fast.specs.Argument.{onwards, Passes, coloring, counting, holding, closing, Last, defining, Defined}
use Rattle.fast.specs.Advance.{advance_to, after_advance, settled_to, settled_if, selected_to, Draws, drawing_of, Advances}
use Rattle.reference.proofs.StepLaws.{put_as, painted-read, drawn-area, data-sixel, data-own, step-data}
use Rattle.reference.proofs.FeedLaws.{going_settled}
use Rattle.fast.proofs.RunLaws.{going-here, still-grown}
use Rattle.fast.proofs.RunSteps.{kept-canvas}
use Rattle.fast.proofs.ArgumentLaws.{read-on}

-- ---- one byte

-- a byte that is no sixel and ends nothing has its own effect
own-step : (f next : Frame) (g : Ground) (b left : ℕ) (p : Palette) (l : List ℕ) → f.command.kind ≡ kinds.Data → sixel b ≡ false → ends b ≡ false
    → next ≡ own_of f b → step_of f g b left p l ≡ record { progress = read_as next 0; palette = p; canvas = l }
own-step f next g b left p l none still quiet e = sym (step-data f g b left p l none (data-own f g b left p l refl still refl quiet e refl))

-- the pen moves to the start of a row
module _ {r : Advance} (f : Frame) (g : Ground) (bytes : List ℕ) (i left : ℕ) (p : Palette) (l : List ℕ) (fits : Fits f g (length l))
    (none : f.command.kind ≡ kinds.Data) (more : i < length bytes) where
  move-advances : (row : ℕ) → sixel (get_or bytes i 0) ≡ false → ends (get_or bytes i 0) ≡ false → moved_to f row ≡ own_of f (get_or bytes i 0)
      → r ≡ advance_to (moved_to f row) false (i + 1) 0 → Advances g bytes i left f p l r p l
  unfolding after_advance advance_to moved_to
  move-advances row still quiet e q =
      rw q
      (record {
        onward = omega arith;
        within = omega arith;
        ink = omega arith;
        fits = record { rows = fits.rows; width = fits.width; height = fits.height };
        same = λ allowance spent few. read-on f (moved_to f row) p p l l 0 g allowance bytes i spent more
            (own-step f (moved_to f row) g (get_or bytes i 0) (allowance - spent) p l none still quiet e);
      })

  pub dollar-advances : get_or bytes i 0 ≡ dollar → r ≡ advance_to (moved_to f f.pen.row) false (i + 1) 0 → Advances g bytes i left f p l r p l
  unfolding sixel ends between own_of
  dollar-advances e q = move-advances f.pen.row (ap sixel e) (ap ends e) (sym (ap (own_of f) e)) q

  pub dash-advances : {y : ℕ} → get_or bytes i 0 ≡ dash → y ≡ min (f.pen.row + 6) row_ceiling → r ≡ advance_to (moved_to f y) false (i + 1) 0
      → Advances g bytes i left f p l r p l
  unfolding sixel ends between own_of
  dash-advances {y} e k q = move-advances y (ap sixel e) (ap ends e) (ap (moved_to f) k ∙ sym (ap (own_of f) e)) q

-- a sixel, as often as it is repeated
module _ (f : Frame) (g : Ground) (bytes : List ℕ) (i w h : ℕ) (p : Palette) (l : List ℕ) (fits : Fits f g (length l)) (holds : Holds f g w h)
    (none : f.command.kind ≡ kinds.Data) (more : i < length bytes) (six : sixel (get_or bytes i 0) ≡ true)
    (area : sixel_area f.pen f.area g ≡ sized w h) where
  sixel-step : {l₂ : List ℕ} (left : ℕ) → ones (get_or bytes i 0 - 63) * f.pen.repeat ≤ left → l₂ ≡ canvas_after f g (get_or bytes i 0 - 63) w h l
      → step_of f g (get_or bytes i 0) left p l
      ≡ record { progress = read_as (inked f (get_or bytes i 0 - 63) w h) (ones (get_or bytes i 0 - 63) * f.pen.repeat); palette = p; canvas = l₂ }
  sixel-step left few painted =
      let b : ℕ = get_or bytes i 0 in
      let drawn = drawn-area f g (b - 63) left p l refl area (painted-read f g (b - 63) left w h p l few painted refl refl) in
      sym (step-data f g b left p l none (data-sixel f g b left p l refl six drawn))

  pub sixel-advances : {next : Frame} {r : Advance} {l₁ l₂ : List ℕ} (left : ℕ) → ones (get_or bytes i 0 - 63) * f.pen.repeat ≤ left
      → l₁ ≡ area_grown f g w h l
      → l₂ ≡ sixel_painted g.stride f.pen.column f.pen.row f.pen.repeat (get_or bytes i 0 - 63) f.pen.color l₁
      → next ≡ inked f (get_or bytes i 0 - 63) w h → r ≡ advance_to next false (i + 1) (ones (get_or bytes i 0 - 63) * f.pen.repeat)
      → Advances g bytes i left f p l r p l₂
  unfolding after_advance advance_to inked
  sixel-advances {l₂ = l₂} left few e₁ e₂ e₃ e₄ =
      let b : ℕ = get_or bytes i 0 in
      let painted : l₂ ≡ canvas_after f g (b - 63) w h l = put_as f g (b - 63) w h l e₁ e₂ in
      rw (e₄, e₃)
      (record {
        onward = omega arith;
        within = omega arith;
        ink = few;
        fits = record { rows = rw (painted, kept-canvas f g (b - 63) w h l) fits.rows; width = holds.width; height = holds.height };
        same = λ allowance spent enough.
            read-on f (inked f (b - 63) w h) p p l l₂ (ones (b - 63) * f.pen.repeat) g allowance bytes i spent more
            (sixel-step (allowance - spent) (omega arith) painted);
      })

-- ---- a command with the whole of its argument

-- what a closing byte is not
closing-opens : (b : ℕ) → closing b ≡ true → (digit b ≡ false) × (skipped b ≡ false) × (eqb b semicolon ≡ false)
unfolding closing
closing-opens b = go (digit b) (skipped b) (eqb b semicolon)
  where
    go : (s t u : Bool) → cond s false (cond t false (cond u false true)) ≡ true → (s ≡ false) × (t ≡ false) × (u ≡ false)
    go true t u e = absurd (true≢false (sym e))
    go false true u e = absurd (true≢false (sym e))
    go false false true e = absurd (true≢false (sym e))
    go false false false e = (refl, refl, refl)

argument-settles : (f : Frame) (g : Ground) (b : ℕ) (p : Palette) (l : List ℕ) → closing b ≡ true → argument_step f g b p l ≡ settled_step f g p l
unfolding argument_step
argument-settles f g b p l e =
    let o = closing-opens b e in
    cond_no _ _ o.0 ∙ cond_no _ _ o.1 ∙ cond_no _ _ (ap (λ (t : Bool). t && takes_semicolon f.command.kind) o.2)

module _ (f : Frame) (g : Ground) (b left : ℕ) (p : Palette) (l : List ℕ) (closes : closing b ≡ true) where
  -- a command that changes the pen alone
  pen-step : (c : Command) (q : Palette) (pen : Pen) (h : ℕ) → (with_command f c).command.kind ≡ c.kind
      → ended (with_command f c) g p ≡ record { progress = settled_as pen f.area f.extent f.raster h; palette = q }
      → settled_step (with_command f c) g p l ≡ record { progress = settled_as pen f.area f.extent f.raster h; palette = q; canvas = l }
  unfolding settled_step with_command settled_as
  pen-step c q pen h k e =
      ap
      (λ (x : Ended).
      record {
        progress = x.progress;
        palette = x.palette;
        canvas = area_grown (with_command f c) g x.progress.frame.area.width x.progress.frame.area.height l;
      })
      e
      ∙ ap (λ (m : List ℕ). record { progress = settled_as pen f.area f.extent f.raster h; palette = q; canvas = m }) (still-grown (with_command f c) g l)

  repeat-step : (n : ℕ) → n ≤ g.limits.repeats
      → step_of (with_command f (counting n)) g b left p l
      ≡ record { progress = settled_as (with_repeat f.pen (max 1 n)) f.area f.extent f.raster f.held; palette = p; canvas = l }
  unfolding step_of step_in counting with_command ended ended_in repeat_ended
  repeat-step n few =
      argument-settles (with_command f (counting n)) g b p l closes
      ∙ pen-step (counting n) p (with_repeat f.pen (max 1 n)) f.held refl
      (ap (λ (x : Progress). record { progress = x; palette = p }) (cond_no _ _ (le-ltb _ _ few)))

  color-step : (v : Parameters)
      → step_of (with_command f (coloring v)) g b left p l
      ≡ record {
        progress = color_ended_by f (palette_after p (finished v)) (finished v);
        palette = palette_after p (finished v);
        canvas = l;
      }
  unfolding step_of step_in coloring with_command ended ended_in color_ended_by finished_of
  color-step v =
      argument-settles (with_command f (coloring v)) g b p l closes
      ∙ pen-step (coloring v) (palette_after p (finished v)) _ _ refl refl

module _ (f : Frame) (g : Ground) (bytes : List ℕ) (i left : ℕ) (p : Palette) (l : List ℕ) (fits : Fits f g (length l))
    (none : f.command.kind ≡ kinds.Data) (more : i < length bytes) where
  command-advances : (c d : Command) (end : ℕ) (q : Palette) (pen : Pen) (h : ℕ) → sixel (get_or bytes i 0) ≡ false → ends (get_or bytes i 0) ≡ false
      → with_command f c ≡ own_of f (get_or bytes i 0) → Passes bytes (i + 1) end c d → end < length bytes
      → ((room : ℕ) → step_of (with_command f d) g (get_or bytes end 0) room p l
      ≡ record { progress = settled_as pen f.area f.extent f.raster h; palette = q; canvas = l })
      → Advances g bytes i left f p l (record { pen = pen; area = f.area; extent = f.extent; held = h; settled = true; end = end; ink = 0 }) q l
  unfolding after_advance with_command settled_as
  command-advances c d end q pen h still quiet begins passes after settles =
      let same-room : Fits (with_command f d) g (length l) = record { rows = fits.rows; width = fits.width; height = fits.height } in
      record {
        onward = omega (arith, passes.onward);
        within = omega arith;
        ink = omega arith;
        fits = record { rows = fits.rows; width = fits.width; height = fits.height };
        same = λ allowance spent few.
            let here = going-here g allowance bytes p l (with_command f d) end spent (omega arith) (omega arith) same-room in
            ap (λ (n : ℕ). onwards g allowance bytes end n (settled_as pen f.area f.extent f.raster h).frame q l) (add-zero spent)
            ∙ (going_settled here (sym (settles (allowance - spent))) after refl refl refl).same
            ∙ passes.same g allowance spent f p l
            ∙ ap (λ (n : ℕ). onwards g allowance bytes (i + 1) n (with_command f c) p l) (sym (add-zero spent))
            ∙ read-on f (with_command f c) p p l l 0 g allowance bytes i spent more
            (own-step f (with_command f c) g (get_or bytes i 0) (allowance - spent) p l none still quiet begins);
      }

  -- the pen's repeat
  pub repeat-advances : {r : Advance} {n : Number} {m : ℕ} {next : Frame} → get_or bytes i 0 ≡ bang → Last bytes (i + 1) n → n.value ≤ g.limits.repeats
      → m ≡ max 1 n.value → next ≡ planned f m → r ≡ advance_to next true n.end 0 → Advances g bytes i left f p l r p l
  unfolding sixel ends between own_of begun counting with_repeat planned advance_to
  repeat-advances {n = n} e last few k x y =
      rw (y, x, k)
      (command-advances (counting 0) (counting n.value) n.end p (with_repeat f.pen (max 1 n.value)) f.held (ap sixel e) (ap ends e)
      (sym (ap (own_of f) e))
      last.written.repeat
      last.more
      (λ room. repeat-step f g (get_or bytes n.end 0) room p l last.closes n.value few))

  -- the advance of a colour command with these values
  colored : Parameters → ℕ → Advance
  colored v end =
      record {
        pen = with_color f.pen (register_in (finished v)) (register_of (palette_after p (finished v)) (register_in (finished v)));
        area = f.area;
        extent = f.extent;
        held = more_held f.held (held_in (finished v));
        settled = true;
        end = end;
        ink = 0;
      }

  color-advances : (v : Parameters) (end : ℕ) → get_or bytes i 0 ≡ hash → Passes bytes (i + 1) end (coloring (opened 5)) (coloring v) → end < length bytes
      → closing (get_or bytes end 0) ≡ true → Advances g bytes i left f p l (colored v end) (palette_after p (finished v)) l
  unfolding sixel ends between own_of begun coloring color_ended_by colored
  color-advances v end e passes after closes =
      command-advances (coloring (opened 5)) (coloring v) end _ _ _ (ap sixel e) (ap ends e) (sym (ap (own_of f) e)) passes after
      (λ room. color-step f g (get_or bytes end 0) room p l closes v)

  -- one number selects
  pub select-advances : {r : Advance} {n : Number} → get_or bytes i 0 ≡ hash → Last bytes (i + 1) n → r ≡ selected_to f p n.value n.end
      → Advances g bytes i left f p l r p l
  unfolding selected_to register_in palette_after redefined_by held_in more_held finished stored room value_at kept held holding opened colored
  select-advances {n = n} e last q =
      let first : min (min n.value 2147483647) 255 ≡ min n.value 255 = omega (arith, last.written.small) in
      let whole = color-advances (holding (opened 5) n.value) n.end e (last.written.color (opened 5) refl) last.more last.closes in
      rw (q, ← first) whole

  -- five numbers define and select, and count where one was held
  pub define-advances : {r : Advance} {d : Definition} {k n : ℕ} {q : Palette} {t : Bool} → get_or bytes i 0 ≡ hash → Defined bytes (i + 1) d
      → k ≡ min d.first 255 → (t, q) ≡ defining_by p k d.space d.x d.y d.z → n ≡ more_held f.held t
      → r ≡ selected_to (record { pen = f.pen; area = f.area; extent = f.extent; raster = f.raster; held = n; command = f.command }) q d.first d.end
      → Advances g bytes i left f p l r q l
  unfolding selected_to register_in palette_after redefined_by held_in finished stored room value_at kept held defining colored defining_by
  define-advances {d = d} {k = k} {q = q} {t = t} e defined first makes counts done =
      let v₀ : min (min d.first 2147483647) 255 ≡ min d.first 255 = omega (arith, defined.first) in
      let v₁ : min d.space 2147483647 ≡ d.space = omega (arith, defined.space) in
      let v₂ : min d.x 2147483647 ≡ d.x = omega (arith, defined.x) in
      let v₃ : min d.y 2147483647 ≡ d.y = omega (arith, defined.y) in
      let v₄ : min d.z 2147483647 ≡ d.z = omega (arith, defined.z) in
      let palette : q ≡ defined_by p k d.space d.x d.y d.z = ap (λ (x : Bool × Palette). x.1) makes in
      let told : t ≡ held_by d.space d.x d.y d.z = ap (λ (x : Bool × Palette). x.0) makes in
      let whole = color-advances (defining d) d.end e defined.passes defined.more defined.closes in
      rw (done, counts, told, palette, first) (rw (v₀, v₁, v₂, v₃, v₄) at whole)

-- ---- a sixel by itself, and a repeat and its sixel

settled-frame : (f next : Frame) (b : Advance) → f.raster ≡ next.raster → after_advance (with_command next no_command) b ≡ after_advance f (settled_to b)
unfolding after_advance with_command settled_to
settled-frame f next b e = rw e (go b.settled)
  where
    go : (t : Bool)
        → ◌≡◌ {A = Frame}
        (record { pen = b.pen; area = b.area; extent = b.extent; raster = next.raster; held = b.held; command = cond t no_command no_command })
        (record { pen = b.pen; area = b.area; extent = b.extent; raster = next.raster; held = b.held; command = no_command })
    go true = refl
    go false = refl

between-frame : (f next : Frame) (end : ℕ) → next.raster ≡ f.raster → after_advance f (advance_to next true end 0) ≡ with_command next no_command
unfolding after_advance advance_to with_command
between-frame f next end kept = rw kept

-- an advance after a command that changed the pen alone: together they are one
pub settled-advances : {r b : Advance} {now : Frame} {m : List ℕ} (f next : Frame) (g : Ground) (bytes : List ℕ) (i end left : ℕ) (p : Palette) (l : List ℕ)
    → Advances g bytes i left f p l (advance_to next true end 0) p l → next.raster ≡ f.raster → now ≡ with_command next no_command
    → Advances g bytes end left now p l b p m → r ≡ settled_to b → Advances g bytes i left f p l r p m
unfolding advance_to settled_to
settled-advances {b = b} {now = now} {m = m} f next g bytes i end left p l first kept here second e =
    let same-frame : after_advance now b ≡ after_advance f (settled_to b) = ap (λ (x : Frame). after_advance x b) here ∙ settled-frame f next b (sym kept) in
    let between : after_advance f (advance_to next true end 0) ≡ now = between-frame f next end kept ∙ sym here in
    rw e
    (record {
      onward = omega (arith, first.onward, second.onward);
      within = second.within;
      ink = second.ink;
      fits = subst (λ (x : Frame). Fits x g (length m)) same-frame second.fits;
      same = λ allowance spent few.
          ap (λ (x : Frame). onwards g allowance bytes b.end (spent + b.ink) x p m) (sym same-frame)
          ∙ second.same allowance spent few
          ∙ ap (λ (x : Frame). onwards g allowance bytes end spent x p l) (sym between)
          ∙ ap (λ (n : ℕ). onwards g allowance bytes end n (after_advance f (advance_to next true end 0)) p l) (sym (add-zero spent))
          ∙ first.same allowance spent few;
    })

-- what its sixel asks of the frame between them
pub settled-fits : {now : Frame} (next : Frame) (g : Ground) (room : ℕ) → now ≡ with_command next no_command → Fits next g room
    → Fits now g room × (now.command.kind ≡ kinds.Data)
unfolding with_command no_command
settled-fits next g room here fits =
    rw here (record { rows = fits.rows; width = fits.width; height = fits.height }, refl)

module _ {now : Frame} {d : Drawn} (f : Frame) (g : Ground) (bytes : List ℕ) (i room : ℕ) (fits : Fits f g room) (none : f.command.kind ≡ kinds.Data)
    (more : i < length bytes) (draws : Draws f.pen bytes i g.limits.repeats d) (here : now ≡ drawing_of f d) where
  -- where it stands by itself, and where a command said it
  alone-frame : d.said ≡ false → now ≡ f
  unfolding drawing_of
  alone-frame t = here ∙ cond_no _ _ t

  said-frame : d.said ≡ true → now ≡ with_command (planned f d.repeat) no_command
  unfolding drawing_of planned
  said-frame t = here ∙ cond_yes _ _ t

  -- what it asks of the frame
  pub drawn-fits : Fits now g room × (now.command.kind ≡ kinds.Data) × (d.at < length bytes) × (sixel (get_or bytes d.at 0) ≡ true)
  unfolding planned
  drawn-fits =
      by-test d.said
      (λ t.
      let s = draws.told t in
      let both =
      settled-fits (planned f d.repeat) g room (said-frame t) (record { rows = fits.rows; width = fits.width; height = fits.height })
      in
      (both.0, both.1, rw s.at s.before.last.more, ap (λ (n : ℕ). sixel (get_or bytes n 0)) s.at ∙ s.before.six))
      (λ t.
      let a = draws.alone t in (
        subst (λ (x : Frame). Fits x g room) (sym (alone-frame t)) fits,
        ap (λ (x : Frame). x.command.kind) (alone-frame t) ∙ none,
        rw a.1 more,
        ap (λ (n : ℕ). sixel (get_or bytes n 0)) a.1 ∙ a.2,
      ))

pub drawn-advances : {r b : Advance} {now : Frame} {d : Drawn} {m : List ℕ} (f : Frame) (g : Ground) (bytes : List ℕ) (i left : ℕ) (p : Palette)
    (l : List ℕ)
    → Fits f g (length l) → f.command.kind ≡ kinds.Data → i < length bytes → Draws f.pen bytes i g.limits.repeats d → now ≡ drawing_of f d
    → Advances g bytes d.at left now p l b p m → r ≡ settled_if d.said b → Advances g bytes i left f p l r p m
unfolding settled_if planned
drawn-advances {b = b} {now = now} {d = d} {m = m} f g bytes i left p l fits none more draws here second e =
    by-test d.said
    (λ t.
    let s = draws.told t in
    settled-advances f (planned f d.repeat) g bytes i s.number.end left p l
    (repeat-advances f g bytes i left p l fits none more s.begins s.before.last s.few s.repeat refl refl)
    refl
    (said-frame f g bytes i (length l) fits none more draws here t)
    (subst (λ (n : ℕ). Advances g bytes n left now p l b p m) s.at second)
    (e ∙ cond_yes _ _ t))
    (λ t.
    let a = draws.alone t in
    rw (e ∙ cond_no _ _ t)
    (subst (λ (x : Frame). Advances g bytes i left x p l b p m) (alone-frame f g bytes i (length l) fits none more draws here t)
    (subst (λ (n : ℕ). Advances g bytes n left now p l b p m) a.1 second)))
