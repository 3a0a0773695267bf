-- Any pieces taken one after the other, from the opening on, are a caller's calls: a new call for each piece until the end,
-- and others after its stops.
use Prim.Native.Nat.{ℕ, suc, ◌+◌, ◌*◌}
use native.Mathlib.Omega.{arith}
use mathlib.Core.Bool.{true, false}
use mathlib.Core.List.{List, [], ◌∷◌, ◌++◌, append-nil, append_assoc}
use mathlib.Core.Path.{◌≡◌, refl, sym, ap, ap₂, ◌∙◌, subst}
use lib.ListN.{length}
use Rattle.colours.specs.declared.Palette.{Palette}
use Rattle.frame.specs.declared.Limits.{Limits}
use Rattle.frame.specs.declared.Refusal.TheVariants as refusals
use Rattle.meaning.specs.Callers as callers
use Rattle.meaning.specs.Reader.{read_all, Turn, fresh, piece_of, allowance_of, stream, pieces, may_call, ready}
use Rattle.payload.specs.Results.{Opening}
use Rattle.payload.specs.Refusals.{openable}
use Rattle.payload.specs.Session.{turned_away}
use Rattle.dcs.specs.Session as dcs
use Rattle.pieces.specs.declared.Reader.{Reader}
use Rattle.pieces.specs.declared.Standing.{Standing}
use Rattle.pieces.specs.declared.Standing.TheVariants as standings
use Rattle.pieces.specs.Pieces.{began_as, opened_as, opened_by, held, taken_in, taken_as, taken_by, finished_as, finished_by}
use Rattle.pieces.specs.Stream.{joined, taken_all, calls_as, calls_of_piece, calls_of_all, how_stood}
use Rattle.dcs.proofs.Openings.{open-ready, open-refused}
use Rattle.dcs.proofs.Progress.{nothing-unread}
use Rattle.pieces.proofs.Answered.{stream-append, pieces-append, length-and}
use Rattle.pieces.proofs.Turns.{now, Follows, Took, took}

-- the stream of more pieces
pub joined-append : (ys zs : List (List ℕ)) → joined (ys ++ zs) ≡ joined ys ++ joined zs
unfolding joined
joined-append [] zs = refl
joined-append (y ∷ ys) zs = ap (λ (bs : List ℕ). y ++ bs) (joined-append ys zs) ∙ sym (append_assoc y (joined ys) (joined zs))

pub length-append : (ys zs : List (List ℕ)) → length (ys ++ zs) ≡ length ys + length zs
length-append [] zs = omega arith
length-append (y ∷ ys) zs = omega (arith, length-append ys zs)

-- a reader whose opening succeeds reads, with the smallest allowance
began : (l : Limits) (stride : ℕ) (p : Palette) (size : ℕ) → openable l stride size ≡ true
    → opened_by l stride p size ≡ began_as (dcs.opened_by l stride p size).session standings.Reading (6 * l.width)
unfolding opened_by opened_as
began l stride p size opens =
    ap (λ (a : Opening). opened_as a (dcs.opened_by l stride p size).session l.width) ((open-ready l stride p size).1 opens)

-- one whose opening fails is refused with 11
refused-began : (l : Limits) (stride : ℕ) (p : Palette) (size : ℕ) → openable l stride size ≡ false
    → (opened_by l stride p size).standing ≡ standings.Refused refusals.Opening
unfolding opened_by opened_as began_as
refused-began l stride p size closed =
    ap (λ (a : Opening). (opened_as a (dcs.opened_by l stride p size).session l.width).standing)
    ((open-refused l stride p size).1 closed)

-- after an end or a refusal no piece is taken
over-stays : (r : Reader) (canvas z : List ℕ) → (r.standing ≡ standings.Reading → ⊥) → taken_by r canvas z ≡ (r, canvas)
unfolding taken_by taken_as
over-stays r canvas z h = go r.standing h
  where
    go : (t : Standing) → (t ≡ standings.Reading → ⊥) → taken_as t r canvas z ≡ (r, canvas)
    go standings.Reading h = absurd (h refl)
    go (standings.Ended e) h = refl
    go (standings.Refused n) h = refl

over-all : (r : Reader) (canvas : List ℕ) (zs : List (List ℕ)) → (r.standing ≡ standings.Reading → ⊥)
    → taken_all r canvas zs ≡ (r, canvas)
unfolding taken_all
over-all r canvas [] h = refl
over-all r canvas (z ∷ zs) h =
    ap (λ (x : Reader × List ℕ). taken_all x.0 x.1 zs) (over-stays r canvas z h) ∙ over-all r canvas zs h

-- and no call is made
over_none : (r : Reader) (canvas z : List ℕ) → (r.standing ≡ standings.Reading → ⊥) → calls_of_piece r canvas z ≡ 0
unfolding calls_of_piece calls_as
over_none r canvas z h = go r.standing h
  where
    go : (t : Standing) → (t ≡ standings.Reading → ⊥) → calls_as t r canvas z ≡ 0
    go standings.Reading h = absurd (h refl)
    go (standings.Ended e) h = refl
    go (standings.Refused n) h = refl

over-no-calls : (r : Reader) (canvas : List ℕ) (zs : List (List ℕ)) → (r.standing ≡ standings.Reading → ⊥)
    → calls_of_all r canvas zs ≡ 0
unfolding calls_of_all
over-no-calls r canvas [] h = refl
over-no-calls r canvas (z ∷ zs) h =
    ap₂ ◌+◌ (over_none r canvas z h)
    (ap (λ (x : Reader × List ℕ). calls_of_all x.0 x.1 zs) (over-stays r canvas z h) ∙ over-no-calls r canvas zs h)

-- a refused reader does not read
refused_over : (r : Reader) → r.standing ≡ standings.Refused refusals.Opening → r.standing ≡ standings.Reading → ⊥
refused_over r stands z =
    let other : standings.Reading ≡ standings.Refused refusals.Opening = sym z ∙ stands in
    let never : ◌≡◌ {A = ℕ} 0 1 = cc in
    omega arith

-- An opening that fails: no piece is taken, no call is made and nothing is written, and a finish is 11.
pub closed-whole : (l : Limits) (stride : ℕ) (p : Palette) (opening : List ℕ) → openable l stride (length opening) ≡ false
    → (zs : List (List ℕ)) (owner : Palette)
    → (taken_all (opened_by l stride p (length opening)) opening zs ≡ (opened_by l stride p (length opening), opening))
    × (calls_of_all (opened_by l stride p (length opening)) opening zs ≡ 0)
    × (finished_by (opened_by l stride p (length opening)) owner opening ≡ turned_away owner refusals.Opening opening)
unfolding finished_by finished_as
closed-whole l stride p opening closed zs owner =
    let r : Reader = opened_by l stride p (length opening) in
    let stands : r.standing ≡ standings.Refused refusals.Opening = refused-began l stride p (length opening) closed in
    let over : r.standing ≡ standings.Reading → ⊥ = refused_over r stands in
    (over-all r opening zs over, over-no-calls r opening zs over, ap (λ (t : Standing). finished_as t r owner opening) stands)

module _ (l : Limits) (stride : ℕ) (p : Palette) (opening : List ℕ) (opens : openable l stride (length opening) ≡ true) where
  -- the opening follows a caller that has made no call
  pub start-follows : Follows l stride p opening opens [] (opened_by l stride p (length opening)) opening
  unfolding began_as callers.calls_of callers.proper_calls ready how_stood held
  start-follows =
      subst (λ (r : Reader). Follows l stride p opening opens [] r opening) (sym (began l stride p (length opening) opens))
      (record {
        keeps =
            record {
              proper = refl;
              session = refl;
              canvas = refl;
              allowance = refl;
              consumed = omega arith;
              ink = omega arith;
              calls = omega arith;
            };
        how = refl;
        end = λ e h. absurd (let never : ◌≡◌ {A = ℕ} 0 1 = cc in omega arith);
      })

  -- a piece is a new call and those after its stops
  pub piece-follows : {ts : List Turn} {r : Reader} {canvas : List ℕ}
      → Follows l stride p opening opens ts r canvas → r.standing ≡ standings.Reading
      → (z : List ℕ) → Took l stride p opening opens ts (fresh z (6 * l.width)) (taken_by r canvas z) (calls_of_piece r canvas z)
  unfolding taken_by taken_as taken_in calls_of_piece calls_as may_call piece_of allowance_of how_stood
  piece-follows {ts} {r} {canvas} f e z =
      let needs-more : (now l stride p opening opens ts).how ≡ read_all = f.how ∙ ap how_stood e in
      let all : (now l stride p opening opens ts).unread ≡ [] =
      nothing-unread l stride p opening opens (6 * l.width) ts (omega arith) f.keeps.proper needs-more in
      let call : Turn = fresh z (6 * l.width) in
      subst (λ (t : Standing). Took l stride p opening opens ts call (taken_as t r canvas z) (calls_as t r canvas z)) (sym e)
      (took l stride p opening opens (suc (length z)) f.keeps call refl (ap (may_call call) needs-more) z
      (ap (λ (us : List ℕ). us ++ z) all) (omega arith))

  -- all pieces, by so many calls: those up to the end are taken and those after it are not
  pub record Taken (ts : List Turn) (zs : List (List ℕ)) (x : Reader × List ℕ) (made : ℕ) : Type 0 where
    pub taken : List (List ℕ)
    pub later : List (List ℕ)
    pub split : zs ≡ taken ++ later
    pub last : x.0.standing ≡ standings.Reading → later ≡ []
    pub turns : List Turn
    pub whole : stream turns ≡ stream ts ++ joined taken
    pub count : pieces turns ≡ pieces ts + length taken
    pub calls : length turns ≡ length ts + made
    pub follows : Follows l stride p opening opens turns x.0 x.1

  pub taken-all : (zs : List (List ℕ)) {ts : List Turn} {r : Reader} {canvas : List ℕ} → Follows l stride p opening opens ts r canvas
      → Taken ts zs (taken_all r canvas zs) (calls_of_all r canvas zs)
  unfolding taken_all calls_of_all joined stream piece_of pieces
  taken-all [] {ts} f =
      record {
        taken = [];
        later = [];
        split = refl;
        last = λ h. refl;
        turns = ts;
        whole = sym (append-nil (stream ts));
        count = omega arith;
        calls = omega arith;
        follows = f;
      }
  taken-all (z ∷ zs) {ts} {r} {canvas} f = go (λ us x g. taken-all zs g) r.standing refl
    where
      made : ℕ
      made = calls_of_all r canvas (z ∷ zs)

      over : (r.standing ≡ standings.Reading → ⊥) → Taken ts (z ∷ zs) (taken_all r canvas (z ∷ zs)) made
      over h =
          subst (λ (x : Reader × List ℕ). Taken ts (z ∷ zs) x made) (sym (over-all r canvas (z ∷ zs) h))
          (record {
            taken = [];
            later = z ∷ zs;
            split = refl;
            last = λ e. absurd (h e);
            turns = ts;
            whole = sym (append-nil (stream ts));
            count = omega arith;
            calls = omega (arith, over-no-calls r canvas (z ∷ zs) h);
            follows = f;
          })

      further : (t : Took l stride p opening opens ts (fresh z (6 * l.width)) (taken_by r canvas z) (calls_of_piece r canvas z))
          → Taken (ts ++ fresh z (6 * l.width) ∷ t.others) zs (taken_all (taken_by r canvas z).0 (taken_by r canvas z).1 zs)
          (calls_of_all (taken_by r canvas z).0 (taken_by r canvas z).1 zs)
          → Taken ts (z ∷ zs) (taken_all r canvas (z ∷ zs)) made
      further t x =
          let us : List Turn = fresh z (6 * l.width) ∷ t.others in
          let one : pieces us ≡ suc (pieces t.others) = refl in
          record {
            taken = z ∷ x.taken;
            later = x.later;
            split = ap (λ (ys : List (List ℕ)). z ∷ ys) x.split;
            last = x.last;
            turns = x.turns;
            whole =
                x.whole
                ∙ ap (λ (bs : List ℕ). bs ++ joined x.taken)
                (stream-append ts us
                ∙ ap (λ (bs : List ℕ). stream ts ++ (z ++ bs)) t.nothing
                ∙ ap (λ (bs : List ℕ). stream ts ++ bs) (append-nil z))
                ∙ append_assoc (stream ts) z (joined x.taken);
            count = omega (arith, x.count, pieces-append ts us, t.none-fresh);
            calls = omega (arith, x.calls, length-and ts us, t.calls);
            follows = x.follows;
          }

      go : ((us : List Turn) (x : Reader × List ℕ) → Follows l stride p opening opens us x.0 x.1
          → Taken us zs (taken_all x.0 x.1 zs) (calls_of_all x.0 x.1 zs))
          → (t : Standing) → r.standing ≡ t → Taken ts (z ∷ zs) (taken_all r canvas (z ∷ zs)) made
      go later standings.Reading e =
          let t = piece-follows f e z in
          further t (later (ts ++ fresh z (6 * l.width) ∷ t.others) (taken_by r canvas z) t.follows)
      go later (standings.Ended d) e = over (λ h. absurd (let never : ◌≡◌ {A = ℕ} 0 1 = cc in omega arith))
      go later (standings.Refused n) e = over (λ h. absurd (let never : ◌≡◌ {A = ℕ} 0 1 = cc in omega arith))
