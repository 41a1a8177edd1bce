-- What a fault leaves: whole steps, and a beginning of the next.
use Rattle.std.proofs.Common.{◌≡◌, ◌<◌, ℕ, List, ◌++◌, refl, ap, ◌∙◌, append_assoc}
use Rattle.std.specs.Prelude.{Result, Ok, Err, IfErr, OnErr}
use Rattle.mc_item.specs.declared.class_event.ClassEvent.{ClassEvent}
use Rattle.mc_pull.specs.declared.looking.Answer.{Answer}
use Rattle.mc_pull.specs.{Rounds.Repeats, Broken.IsBrokenAfter, Broken.BreaksSteps}
use Rattle.mc_pull.proofs.RoundLemmas.{OnRounds}

-- the answers given since others, which are so
abbrev pub Since : List Answer → List Answer → (List Answer → Type 0) → Type 0
Since old new P = (xs : List Answer) × (new ≡ old ++ xs) × P xs

pub err_since : {A E : Type 0} (r : Result A E) (old new : List Answer) (P : List Answer → Type 0) → Since old new P → OnErr r (Since old new P)
err_since (Ok a) old new P p = tt
err_since (Err e) old new P p = p

-- the fault, and what it left
pub err_both : {A E : Type 0} (r : Result A E) (P Q : E → Type 0) → IfErr r P → IfErr r Q → IfErr r (λ e. P e × Q e)
err_both (Ok a) P Q p q = tt
err_both (Err e) P Q p q = (p, q)

-- a whole step, and one that a fault ended
module _ {S T : Type 0} (Step : S → List Answer → T → Type 0) (Broken : T → List Answer → List ClassEvent → Type 0) (old mid new : List Answer) (before : S) (between : T) (after : List ClassEvent) where
  pub broken_after : Since old mid (λ xs. Step before xs between) → Since mid new (λ xs. Broken between xs after) → Since old new (λ xs. IsBrokenAfter Step Broken before xs after)
  broken_after made broke = (
    made.0 ++ broke.0,
    broke.1 ∙ (ap (λ (ys : List Answer). ys ++ broke.0) made.1 ∙ append_assoc old made.0 broke.0),
    record { first = made.0; last = broke.0; between = between; whole = made.2; broken = broke.2; answers = refl },
  )

-- whole steps so far, and one that a fault ended
pub steps_broken : {S : Type 0} {Step : S → List Answer → S → Type 0} {old new : List Answer} {first now : S} {times : ℕ}
    (Broken : S → List Answer → List ClassEvent → Type 0) (most : ℕ) (later : List Answer) (after : List ClassEvent)
    → OnRounds Step old new first now times → times < most → Since new later (λ xs. Broken now xs after) → Since old later (λ xs. BreaksSteps Step Broken most first xs after)
steps_broken {S} {Step} {old} {new} {first} {now} {times} Broken most later after on few broke =
    let whole = broken_after (Repeats Step times) Broken old new later first now after (on.xs, on.answers, on.each) broke in
    (whole.0, whole.1, (times, few, whole.2))
