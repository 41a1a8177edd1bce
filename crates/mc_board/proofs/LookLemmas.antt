-- What a token has noted after a try to read figures.
use Rattle.std.proofs.Common.{◌≡◌, ◌≢◌, ℕ, ◌/◌, List, [], ◌∷◌, length, get_or, cond, refl, ap, ◌∙◌, arith, eq-eqb, ne_eqb}
use Rattle.atomic_table.specs.Table.{Me}
use Rattle.mc_board.specs.declared.{rule.Known.Known, rule.Sight.Sight, rule.View.View}
use Rattle.mc_board.specs.declared.rule.Look.TheVariants as looks
use Rattle.mc_board.specs.declared.rule.View.TheVariants as views
use Rattle.mc_board.specs.{Histories.with_figures, Histories.with_noted, Steps.known_of}
use Rattle.mc_board.specs.Looking.{checked_in, looking, opened_in, sight_after}
use Rattle.mc_board.proofs.SeenLemmas.{with_number_again}

-- the sight of a token that has opened, read and checked
pub looked : (known : Known) (lock first last : ℕ) (got : List ℕ) (opened read checked : Me Unit View)
    → opened ≡ (opened_in lock first (views.Seen known), []) → read ≡ (looking (known_of opened.0) got, []) → checked ≡ (checked_in last read.0, [])
    → (known_of checked.0).sight ≡ sight_after last (with_noted known.sight lock (first / 2)) (looks.Reading (record { lock = lock; at = first; got = got }))
looked known lock first last got opened read checked is then_is at_last =
    ap (λ (m : Me Unit View). (known_of m.0).sight) at_last
    ∙ (ap (λ (m : Me Unit View). (known_of (checked_in last m.0)).sight) then_is
    ∙ ap (λ (m : Me Unit View). (known_of (checked_in last (looking (known_of m.0) got))).sight) is)

-- figures of one moment are noted
pub noted_figures : (sight : Sight) (lock first last : ℕ) (got : List ℕ) → last ≡ first
    → sight_after last sight (looks.Reading (record { lock = lock; at = first; got = got })) ≡ with_figures sight (record { lock = lock; events = first / 2; values = got })
noted_figures sight lock first last got same =
    ap (λ b. cond b (with_figures sight (record { lock = lock; events = first / 2; values = got })) (with_noted sight lock (last / 2))) (eq-eqb last first same)

-- otherwise half of the last number is noted
pub noted_busy : (sight : Sight) (lock first last : ℕ) (got : List ℕ) → last ≢ first
    → sight_after last (with_noted sight lock (first / 2)) (looks.Reading (record { lock = lock; at = first; got = got })) ≡ with_noted sight lock (last / 2)
noted_busy sight lock first last got apart =
    ap (λ b. cond b (with_figures (with_noted sight lock (first / 2)) (record { lock = lock; events = first / 2; values = got })) (with_noted (with_noted sight lock (first / 2)) lock (last / 2)))
    (ne_eqb last first apart)
    ∙ ap (λ (ns : List ℕ). record sight { noted = ns }) (with_number_again sight.noted lock (first / 2) (last / 2))

-- eight figures, one by one
pub eight : (xs : List ℕ) → length xs ≡ 8
    → xs ≡ get_or xs 0 0 ∷ get_or xs 1 0 ∷ get_or xs 2 0 ∷ get_or xs 3 0 ∷ get_or xs 4 0 ∷ get_or xs 5 0 ∷ get_or xs 6 0 ∷ get_or xs 7 0 ∷ []
eight (a ∷ b ∷ c ∷ d ∷ e ∷ f ∷ g ∷ h ∷ []) l = refl
eight (a ∷ b ∷ c ∷ d ∷ e ∷ f ∷ g ∷ h ∷ i ∷ xs) l = absurd (omega arith)
eight [] l = absurd (omega arith)
eight (a ∷ []) l = absurd (omega arith)
eight (a ∷ b ∷ []) l = absurd (omega arith)
eight (a ∷ b ∷ c ∷ []) l = absurd (omega arith)
eight (a ∷ b ∷ c ∷ d ∷ []) l = absurd (omega arith)
eight (a ∷ b ∷ c ∷ d ∷ e ∷ []) l = absurd (omega arith)
eight (a ∷ b ∷ c ∷ d ∷ e ∷ f ∷ []) l = absurd (omega arith)
eight (a ∷ b ∷ c ∷ d ∷ e ∷ f ∷ g ∷ []) l = absurd (omega arith)
