-- Any calls of a feed, with its answers as they are and with what they mean.
use mathlib.Core.List.{List, [], ◌∷◌, map}
use mathlib.Core.Path.{◌≡◌, refl, sym, ap, ◌∙◌, subst}
use Rattle.meaning.specs.Callers.{Feed, Past, fed_all, Ask}
use Rattle.meaning.proofs.ToldLaws.{Passes}

module _ {H A B : Type 0} (feed : Feed H A) (meant : A → B) where
  -- the same feed, each answer told by its meaning
  abbrev pub telling : Feed H B
  telling h bs a = ((feed h bs a).0, meant (feed h bs a).1)

  -- After any calls the same is held, and the answers are the others' meanings.
  pub told-past : (h : H) (cs : List Ask)
      → fed_all telling h cs ≡ record { answers = map meant (fed_all feed h cs).answers; state = (fed_all feed h cs).state }
  unfolding fed_all
  told-past h [] = refl
  told-past h (c ∷ cs) =
      ap (λ (later : Past H B). record { answers = meant (feed h c.bytes c.allowance).1 ∷ later.answers; state = later.state })
      (told-past (feed h c.bytes c.allowance).0 cs)

  -- so where the calls are the definition's, the meanings told are its answers,
  module _ {M : Type 0} {Stands : H → M → Type 0} (h : H) (cs : List Ask) {y : Past M B}
      (passes : Passes Stands meant (fed_all feed h cs) y) where
    pub told-answers : (fed_all telling h cs).answers ≡ y.answers
    told-answers = ap (λ (x : Past H B). x.answers) (told-past h cs) ∙ passes.answers

    -- and what is held stands for its session
    pub told-stands : Stands (fed_all telling h cs).state y.state
    told-stands = subst (λ (x : H). Stands x y.state) (sym (ap (λ (x : Past H B). x.state) (told-past h cs))) passes.state
